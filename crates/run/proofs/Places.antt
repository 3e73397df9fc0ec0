-- Elements of lists by their places, and so the rows of lines.
use Rattle.std.proofs.Common.{◌≡◌, ℕ, zero, suc, ◌+◌, ◌-◌, ◌<◌, List, [], ◌∷◌, ◌++◌, map, length, set, Some, None, Option, sym, refl, ap, ◌∙◌, subst, arith}
use Rattle.std.specs.List.{slice_get, AllByRecursion}
use Rattle.std.proofs.lemmas.Bool.{cond-false, ne_eqb}
use Rattle.server.specs.Kind.{Kind}
use Rattle.run.specs.Machine.{Machine, opened_rows, chosen, advanced, row_of}
use Rattle.run.specs.Rows.{Row, lined, opened, is_ready, shut}
use Rattle.run.specs.Tries.{ready_in, row_ready}

pub some_same : {A : Type 0} {x y : A} → Some x ≡ Some y → x ≡ y
some_same e = cc

pub none_not : {A : Type 0} {x : A} → ◌≡◌ {A = Option A} None (Some x) → ⊥
none_not {x} e = let z : ◌≡◌ {A = ℕ} 0 1 = cc in omega arith

pub lined_at : {A B : Type 0} (f : ℕ → A → B) (i n : ℕ) (xs : List A) (x : A) → slice_get xs n ≡ Some x → slice_get (lined f i xs) n ≡ Some (f (i + n) x)
lined_at f i n [] x at = absurd (none_not at)
lined_at f i zero (y ∷ ys) x at = let place : i + 0 ≡ i = omega arith in rw (place, some_same at) refl
lined_at f i (suc n) (y ∷ ys) x at =
    let place : suc i + n ≡ i + suc n = omega arith in
    lined_at f (suc i) n ys x at ∙ ap (λ j. Some (f j x)) place

pub map_at : {A B : Type 0} (f : A → B) (xs : List A) (n : ℕ) (x : A) → slice_get xs n ≡ Some x → slice_get (map f xs) n ≡ Some (f x)
map_at f [] n x at = absurd (none_not at)
map_at f (y ∷ ys) zero x at = ap (λ z. Some (f z)) (some_same at)
map_at f (y ∷ ys) (suc n) x at = map_at f ys n x at

pub at_within : {A : Type 0} (xs : List A) (n : ℕ) (x : A) → slice_get xs n ≡ Some x → n < length xs
at_within [] n x at = absurd (none_not at)
at_within (y ∷ ys) zero x at = omega arith
at_within (y ∷ ys) (suc n) x at = omega (arith, at_within ys n x at)

pub at_left : {A : Type 0} (xs ys : List A) (n : ℕ) (x : A) → slice_get xs n ≡ Some x → slice_get (xs ++ ys) n ≡ Some x
at_left [] ys n x at = absurd (none_not at)
at_left (z ∷ xs) ys zero x at = at
at_left (z ∷ xs) ys (suc n) x at = at_left xs ys n x at

pub at_right : {A : Type 0} (xs ys : List A) (n : ℕ) (x : A) → slice_get ys n ≡ Some x → (j : ℕ) × (slice_get (xs ++ ys) j ≡ Some x)
at_right [] ys n x at = (n, at)
at_right (z ∷ xs) ys n x at = let there = at_right xs ys n x at in (suc there.0, there.1)

pub all_at : {A : Type 0} (P : A → Type 0) (xs : List A) (n : ℕ) (x : A) → slice_get xs n ≡ Some x → AllByRecursion P xs → P x
all_at P [] n x at all = absurd (none_not at)
all_at P (y ∷ ys) zero x at all = subst P (some_same at) all.0
all_at P (y ∷ ys) (suc n) x at all = all_at P ys n x at all.1

module _ {A : Type 0} where
  pub set_at : (xs : List A) (n : ℕ) (x y : A) → slice_get xs n ≡ Some x → slice_get (set xs n y) n ≡ Some y
  set_at [] n x y at = absurd (none_not at)
  set_at (z ∷ xs) zero x y at = refl
  set_at (z ∷ xs) (suc n) x y at = set_at xs n x y at

  pub set_other : (xs : List A) (n p : ℕ) (y : A) → (n ≡ p → ⊥) → slice_get (set xs p y) n ≡ slice_get xs n
  set_other [] n p y apart = refl
  set_other (x ∷ xs) zero zero y apart = absurd (apart refl)
  set_other (x ∷ xs) zero (suc p) y apart = refl
  set_other (x ∷ xs) (suc n) zero y apart = refl
  set_other (x ∷ xs) (suc n) (suc p) y apart = set_other xs n p y (λ e. apart (ap suc e))

module _ {k : Kind} where
  pub row_of_is : (rows : List (Row k)) (n : ℕ) → row_of rows (suc n) ≡ slice_get rows n
  row_of_is rows n =
      let place : suc n - 1 ≡ n = omega arith in
      cond-false _ _ _ (ne_eqb (suc n) 0 (λ e. omega arith)) ∙ ap (slice_get rows) place

  -- a row that a line number leads to stands at the place before it
  pub row_place : (rows : List (Row k)) (line : ℕ) (r : Row k) → row_of rows line ≡ Some r → (n : ℕ) × (line ≡ suc n) × (slice_get rows n ≡ Some r)
  row_place rows zero r is = absurd (none_not is)
  row_place rows (suc n) r is = (n, refl, sym (row_of_is rows n) ∙ is)

  module _ (m : Machine k) (n : ℕ) (r : Row k) (at : slice_get m.rows n ≡ Some r) where
    abbrev started_row : Row k
    started_row = opened m.time m.waiting (suc n) r

    pub opened_at : slice_get (opened_rows m) n ≡ Some started_row
    opened_at =
        let place : 1 + n ≡ suc n = omega arith in
        subst (λ j. slice_get (opened_rows m) n ≡ Some (opened m.time m.waiting j r)) place
        (lined_at (opened m.time m.waiting) 1 n m.rows r at)

    pub advanced_at : slice_get (advanced m).rows n ≡ Some (shut (chosen m) (suc n) started_row)
    advanced_at =
        let place : 1 + n ≡ suc n = omega arith in
        subst (λ j. slice_get (advanced m).rows n ≡ Some (shut (chosen m) j started_row)) place
        (lined_at (shut (chosen m)) 1 n (opened_rows m) started_row opened_at)

    pub ready_at : ready_in m (suc n) ≡ is_ready m.waiting (suc n) started_row
    ready_at = ap (row_ready m.waiting (suc n)) (row_of_is (opened_rows m) n ∙ opened_at)
