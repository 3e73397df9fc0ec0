-- Histories of a server: what it was told at each tick since it was made, and what follows from that.
use Rattle.std.specs.Prelude.{◌≡◌, ℕ, zero, suc, ◌+◌, Bool, true, false, cond, ◌&&◌, nat_le}
use Rattle.server.specs.Kind.{Terms, Kind}

-- at each tick, counted from 0: whether the server was wanted, and whether it ran. A history that ends is one in which the
-- server is neither wanted nor run from then on
pub record History : Type 0 where
  pub wanted : ℕ → Bool
  pub ran : ℕ → Bool

module _ (k : Kind) (t : Terms) (h : History) where
  -- the state before tick n: what all ticks before it have made of a new server
  abbrev pub before : ℕ → k.State
  before zero = k.made t
  before (suc n) = k.ended t (k.begun t (before n) n (h.wanted n)) (h.ran n)

  -- the state inside tick n, after its start
  abbrev pub inside : ℕ → k.State
  inside n = k.begun t (before n) n (h.wanted n)

  -- ready in tick n: wanted, and it holds at least 1
  abbrev pub ready : ℕ → Bool
  ready n = h.wanted n && nat_le 1 (k.held (inside n))

  -- a server is run only when it is ready
  abbrev pub Possible : Type 0
  Possible = (n : ℕ) → h.ran n ≡ true → ready n ≡ true

  -- a window may begin at tick s: at tick 0, or after a tick in which the server was not ready
  abbrev pub Fresh : ℕ → Type 0
  Fresh zero = Unit {0}
  Fresh (suc s) = ready s ≡ false

  -- in tick n it is wanted, and is run if it is ready
  pub record Pressed (n : ℕ) : Type 0 where
    pub asked : h.wanted n ≡ true
    pub given : ready n ≡ true → h.ran n ≡ true

-- how often it ran in the n ticks from tick s on
abbrev pub runs : History → ℕ → ℕ → ℕ
runs h s zero = 0
runs h s (suc n) = runs h s n + cond (h.ran (s + n)) 1 0
