-- What the calls on a run answer.
use Rattle.std.specs.Prelude.{ℕ}

-- the result, or a refusal by its number
pub data Reply (A : Type 0) : Type 0 where
  done : A → Reply A
  refused : (number : ℕ) → Reply A
