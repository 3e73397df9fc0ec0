-- How wide the parts of a row are.
use Rattle.std.proofs.Common.{ℕ, ◌+◌, ◌^◌, ◌<◌, ◌≤◌, Bool, true, false, List, length, arith, lit<}
use Rattle.std.proofs.lemmas.Fmt.{length-decimal-le}
use Rattle.std.proofs.lemmas.List.{length-append}
use Rattle.std.specs.Int.{from_bool}
use Rattle.text.specs.Written.{tagged, labelled}

-- a word and a number of 64 bits
pub labelled_width : (word : List ℕ) (n : ℕ) → n < 2 ^ 64 → length (labelled word n) ≤ length word + 20
unfolding tagged
labelled_width word n small = simp length-append (omega (arith, length-decimal-le 20 n (lit< tt) (omega arith) (omega arith)))

-- a word and a number of 32 bits
pub labelled_width_32 : (word : List ℕ) (n : ℕ) → n < 2 ^ 32 → length (labelled word n) ≤ length word + 20
labelled_width_32 word n small = let wide : 2 ^ 32 < 2 ^ 64 = lit< tt in labelled_width word n (omega (arith, small, wide))

-- a word and a flag as a number
pub flag_width : (word : List ℕ) (on : Bool) → length (labelled word (from_bool on)) ≤ length word + 20
flag_width word true = labelled_width word 1 (lit< tt)
flag_width word false = labelled_width word 0 (lit< tt)
