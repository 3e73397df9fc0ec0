-- For callers: several additions to a text as one, and the cut dropped where all fits.
use Rattle.std.proofs.Common.{◌≡◌, ℕ, zero, suc, ◌≤◌, List, [], ◌∷◌, ◌++◌, length, take, refl, ap, ◌∙◌, append_assoc, append-nil, arith}
use Rattle.std.proofs.lemmas.List.{take-append-le, take_all}
use Rattle.text.specs.declared.buffer.Text.{Text}
use Rattle.text.specs.Written.{room, written}

-- what is cut off before something is added would be cut off after it too
take_append_take : (n : ℕ) (xs ys : List ℕ) → take n (take n xs ++ ys) ≡ take n (xs ++ ys)
take_append_take zero xs ys = refl
take_append_take (suc n) [] ys = refl
take_append_take (suc n) (x ∷ xs) ys = ap (λ zs. x ∷ zs) (take_append_take n xs ys)

-- one addition after another is the addition of both
pub added_twice : (xs ys zs : List ℕ) → take room (take room (xs ++ ys) ++ zs) ≡ take room (xs ++ (ys ++ zs))
added_twice xs ys zs = take_append_take room (xs ++ ys) zs ∙ ap (take room) (append_assoc xs ys zs)

-- what fits is not cut
pub uncut : (xs : List ℕ) → length xs ≤ 320 → take room xs ≡ xs
unfolding room
uncut xs fits = take_all 320 xs fits

-- to a full text nothing is added
pub full : (xs ys : List ℕ) → length xs ≡ 320 → take room (xs ++ ys) ≡ xs
unfolding room
full xs ys whole = take-append-le 320 xs ys (omega arith) ∙ take_all 320 xs (omega arith)

-- with nothing added a text stays as it is
pub none_added : (t : Text) → take room (written t ++ []) ≡ written t
unfolding written
none_added t = simp append-nil (uncut (written t) t.bounded)
