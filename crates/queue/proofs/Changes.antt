-- What a change of the places does to the items, which stand in the first n of them.
use Rattle.std.proofs.Common.{◌≡◌, ℕ, zero, suc, ◌+◌, ◌-◌, ◌<◌, ◌≤◌, List, [], ◌∷◌, length, take, Some, None, refl, sym, ap, arith, rules}
use Rattle.std.specs.List.{slice_get, remove, copy_within}
use Rattle.std.proofs.lemmas.List.{same_lists, length-take, places}
use Rattle.std.proofs.lemmas.Option.{none-some, slice_get_within}
use lib.Seq.{take-set-lt}

-- where an item is found, its place is taken
pub taken_place : {X : Type 0} (xs : List X) (n k : ℕ) (x : X) → Some x ≡ slice_get (take n xs) k → k < n
taken_place xs n k x e = omega (arith, slice_get_within (take n xs) k x (sym e), length-take n xs)

-- nothing is taken out where nothing stands
pub removed_none : {X : Type 0} (xs : List X) (k : ℕ) → None ≡ slice_get xs k → remove xs k ≡ xs
removed_none [] zero e = refl
removed_none [] (suc k) e = refl
removed_none (x ∷ xs) zero e = absurd (none-some x e)
removed_none (x ∷ xs) (suc k) e = ap (λ ys. x ∷ ys) (removed_none xs k e)

-- those behind place k move down by one
pub closed :
    {X : Type 0} (xs ys : List X) (n k : ℕ) → k < n → n ≤ length xs → ys ≡ copy_within xs (k + 1) n k →
    take (n - 1) ys ≡ remove (take n xs) k
closed xs ys n k inside within e = same_lists _ _ (search (rules, places)) (λ j d h. grind (arith, places))

-- with these the check finds the proofs of the queue's calls
pub ruleset changes = (take-set-lt, taken_place, removed_none)
