-- Numbers as bytes: 32 bits, least byte first.
use Rattle.std.specs.Prelude.{ℕ, ◌+◌, ◌*◌, ◌/◌, ◌%◌, List, [], ◌∷◌, slice_index}

-- the number whose four bytes begin at byte k
abbrev pub number : List ℕ → ℕ → ℕ
number bs k = slice_index bs k + 256 * slice_index bs (k + 1) + 65536 * slice_index bs (k + 2) + 16777216 * slice_index bs (k + 3)

-- the four bytes of a number
abbrev pub bytes : ℕ → List ℕ
bytes n = n % 256 ∷ n / 256 % 256 ∷ n / 65536 % 256 ∷ n / 16777216 % 256 ∷ []
