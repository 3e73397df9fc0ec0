-- The response time of a line: the least time from 1 to its limit in which the demand is met.
use Rattle.std.specs.Prelude.{ℕ, zero, suc, ◌≤◌, Bool, cond, List, Some, None, Option, nat_le}
use Rattle.server.specs.Kind.{Kind}
use Rattle.plan.specs.declared.line.Line.{Line}
use Rattle.analysis.specs.Equation.{demand, limit}

-- w solves the equation of a line below the lines `above`
pub record Solves (k : Kind) (above : List Line) (l : Line) (w : ℕ) : Type 0 where
  pub some : 1 ≤ w
  pub within : w ≤ limit l
  pub met : demand k above l w ≤ w

-- the least solution, or none where there is none; a line passes exactly when there is one
abbrev pub Response : Kind → List Line → Line → Option ℕ → Type 0
Response k above l None = (w : ℕ) → Solves k above l w → ⊥
Response k above l (Some w) = Solves k above l w × ((v : ℕ) → Solves k above l v → w ≤ v)

-- the first of the n numbers from w on that passes the test, or 0 where none does
abbrev pub first : (ℕ → Bool) → ℕ → ℕ → ℕ
first test w zero = 0
first test w (suc n) = cond (test w) w (first test (suc w) n)

-- the same, found by counting up from 1; 0 where the line does not pass
unfoldable pub time_of : Kind → List Line → Line → ℕ
time_of k above l = first (λ w. nat_le (demand k above l w) w) 1 (limit l)
