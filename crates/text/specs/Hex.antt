-- Hexadecimal digits.
use Rattle.std.specs.Prelude.{ℕ, zero, suc, ◌+◌, ◌/◌, ◌%◌, cond, List, [], ◌∷◌, ◌++◌, nat_lt}

-- 0 to 9, then a to f
abbrev pub hex_digit : ℕ → ℕ
hex_digit d = cond (nat_lt d 10) (48 + d) (87 + d)

-- the last `count` digits of a number
abbrev pub hex : (count n : ℕ) → List ℕ
hex zero n = []
hex (suc count) n = hex count (n / 16) ++ (hex_digit (n % 16) ∷ [])
