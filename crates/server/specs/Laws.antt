-- What every kind of server must show, for every history.
use Rattle.std.specs.Prelude.{◌≡◌, ℕ, suc, ◌+◌, ◌*◌, ◌<◌, ◌≤◌, true, cond}
use Rattle.server.specs.Kind.{Terms, Fit, Kind}
use Rattle.server.specs.Histories.{History, before, inside, Possible, Fresh, Pressed, runs}

-- the laws of a server with these terms, in one history
pub record Keeps (k : Kind) (t : Terms) (h : History) : Type 0 where
  -- ceiling: in any n ticks from a fresh tick on it runs at most ceiling(n) times
  pub ceiling : (s n : ℕ) → Fresh k t h s → runs h s n ≤ k.ceiling t n
  -- floor: in any 2 periods in which it is always wanted and is run whenever it is ready, it runs at least its budget
  pub floor : (s : ℕ) → ((i : ℕ) → i < 2 * t.period → Pressed k t h (s + i)) → t.budget ≤ runs h s (2 * t.period)
  -- keeping: in a tick in which it is wanted, what it holds does not fall at the start, and at the end falls only by running, by 1
  pub keeping_start : (n : ℕ) → h.wanted n ≡ true → k.held (before k t h n) ≤ k.held (inside k t h n)
  pub keeping_end : (n : ℕ) → h.wanted n ≡ true → k.held (inside k t h n) ≤ k.held (before k t h (suc n)) + cond (h.ran n) 1 0
  -- it holds at most its budget
  pub held_before : (n : ℕ) → k.held (before k t h n) ≤ t.budget
  pub held_inside : (n : ℕ) → k.held (inside k t h n) ≤ t.budget

-- a lawful kind: for every letter that it serves, terms within their bounds, and every possible history
abbrev pub Lawful : Kind → Type 0
Lawful k = (t : Terms) → Fit t → k.serves t.letter ≡ true → (h : History) → Possible k t h → Keeps k t h

-- a kind that serves a letter holds something in some state
abbrev pub Alive : Kind → Type 0
Alive k = (letter : ℕ) → k.serves letter ≡ true → ((s : k.State) → k.held s ≡ 0) → ⊥

-- the ceiling holds for windows that begin at any tick, fresh or not
abbrev pub Anywhere : Kind → Type 0
Anywhere k = (t : Terms) → Fit t → (h : History) → Possible k t h → (s n : ℕ) → runs h s n ≤ k.ceiling t n
