-- Division rounded up.
use Rattle.std.specs.Prelude.{ℕ, ◌+◌, ◌-◌, ◌*◌, ◌/◌, ◌≤◌}

-- n divided by p, rounded up; 0 where p is 0
abbrev pub ceil_div : ℕ → ℕ → ℕ
ceil_div n p = (n + (p - 1)) / p

-- what it is where p is at least 1: the least number of times that p is to be taken to reach n
pub record Reaches (n p k : ℕ) : Type 0 where
  pub enough : n ≤ k * p
  pub least : (j : ℕ) → n ≤ j * p → k ≤ j
