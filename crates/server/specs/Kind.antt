-- What a kind of server is, in full: everything that is proved about servers is proved about such a record.
use Rattle.std.specs.Prelude.{◌≡◌, ℕ, ◌≤◌, Bool}

-- what a server is made from: its letter (an ASCII code), its budget and its period
pub record Terms : Type 0 where
  pub letter : ℕ
  pub budget : ℕ
  pub period : ℕ

-- the bounds of budget and period
pub record Fit (t : Terms) : Type 0 where
  pub some : 1 ≤ t.budget
  pub within : t.budget ≤ t.period
  pub short : t.period ≤ 1000000

-- a kind: a state of its own, and how each start and each end of a tick leads from one state to the next
pub record Kind : Type 1 where
  pub State : Type 0
  -- the letters that it serves
  pub serves : ℕ → Bool
  -- a server when new
  pub made : Terms → State
  -- the start of a tick: its number, and whether the server is wanted
  pub begun : Terms → State → ℕ → Bool → State
  -- the end of a tick: whether the server ran
  pub ended : Terms → State → Bool → State
  -- what it holds: the ticks that it may still run
  pub held : State → ℕ
  -- the most that it runs in so many successive ticks, for analysis
  pub ceiling : Terms → ℕ → ℕ

-- a ceiling's shape: 0 at 0, never falling, and at most 4,000,000 up to 1,000,000
pub record Steady (k : Kind) : Type 0 where
  pub none : (t : Terms) → Fit t → k.ceiling t 0 ≡ 0
  pub rises : (t : Terms) → Fit t → (m n : ℕ) → m ≤ n → k.ceiling t m ≤ k.ceiling t n
  pub small : (t : Terms) → Fit t → (n : ℕ) → n ≤ 1000000 → k.ceiling t n ≤ 4000000
