-- The words of a line of text.
use Rattle.std.specs.Prelude.{ℕ, suc, Bool, true, false, cond, not, ◌||◌, List, [], ◌∷◌, filter, ◌==◌, slice_index_or}
use Rattle.std.specs.List.{slice_split}

-- a space, a tab or a carriage return
abbrev pub is_blank : ℕ → Bool
is_blank b = b == 32 || (b == 9 || b == 13)

abbrev pub is_empty : List ℕ → Bool
is_empty [] = true
is_empty (b ∷ bs) = false

-- the pieces between blanks that are not empty
abbrev pub words : List ℕ → List (List ℕ)
words bs = filter (λ w. not (is_empty w)) (slice_split is_blank bs)

-- word n of a line, counted from 0; empty where there is none
unfoldable pub word : List ℕ → ℕ → List ℕ
word bs n = slice_index_or (words bs) n []

-- a byte that ends a row of blanks, or of bytes that are none
abbrev pub is_other : Bool → ℕ → Bool
is_other true b = not (is_blank b)
is_other false b = is_blank b

-- how many bytes at the front are blanks, or how many are none
abbrev pub leading : Bool → List ℕ → ℕ
leading blank [] = 0
leading blank (b ∷ bs) = cond (is_other blank b) 0 (suc (leading blank bs))
