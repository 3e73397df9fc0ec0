-- The numbers of a line of text.
use Rattle.std.specs.Prelude.{ℕ, ◌+◌, ◌-◌, ◌*◌, Bool, true, cond, not, ◌&&◌, List, [], ◌∷◌, Some, None, Option, nat_le}
use Rattle.script.specs.Words.{is_empty}

-- 0 to 9
abbrev pub is_digit : ℕ → Bool
is_digit b = nat_le 48 b && nat_le b 57

abbrev pub are_digits : List ℕ → Bool
are_digits [] = true
are_digits (b ∷ bs) = is_digit b && are_digits bs

-- a value with one digit more
abbrev pub with_digit : ℕ → ℕ → ℕ
with_digit v b = 10 * v + (b - 48)

-- the value of further digits after a value
abbrev pub value_from : ℕ → List ℕ → ℕ
value_from v [] = v
value_from v (b ∷ bs) = value_from (with_digit v b) bs

-- the number that a word is: one digit or more, of a value up to 4,294,967,295
unfoldable pub number : List ℕ → Option ℕ
number w = cond (not (is_empty w) && (are_digits w && nat_le (value_from 0 w) 4294967295)) (Some (value_from 0 w)) None

-- the same, if it is a digit and the value stays within the bound
abbrev pub extended : ℕ → ℕ → Option ℕ
extended v b = cond (is_digit b && nat_le (with_digit v b) 4294967295) (Some (with_digit v b)) None
