-- The line that is chosen is the first that is ready.
use Rattle.std.proofs.Common.{◌≡◌, ℕ, zero, suc, ◌+◌, ◌≤◌, true, false, List, [], ◌∷◌, sym, ap, ◌∙◌, ⊎_elim, arith}
use Rattle.std.specs.List.{slice_get}
use Rattle.std.proofs.lemmas.Bool.{cases_Bool, cond-true, cond-false, false≢true}
use Rattle.server.specs.Kind.{Kind}
use Rattle.run.specs.declared.items.Request.{Request}
use Rattle.run.specs.Machine.{Machine, opened_rows, chosen}
use Rattle.run.specs.Rows.{Row, is_ready, first_ready}
use Rattle.run.specs.Tries.{ready_in, row_ready}
use Rattle.run.proofs.Places.{row_of_is}

module _ {k : Kind} where
  module _ (ws : List Request) where
    -- the first ready line is none, or one from line i on
    first_from : (i : ℕ) (rows : List (Row k)) → 1 ≤ first_ready ws i rows → i ≤ first_ready ws i rows
    first_from i [] some = omega arith
    first_from i (r ∷ rows) some =
        ⊎_elim
        (λ (yes' : is_ready ws i r ≡ true). omega (arith, cond-true (is_ready ws i r) i (first_ready ws (suc i) rows) yes'))
        (λ (none : is_ready ws i r ≡ false).
        let rest = cond-false (is_ready ws i r) i (first_ready ws (suc i) rows) none in
        omega (arith, rest, first_from (suc i) rows (omega (arith, rest))))
        (cases_Bool (is_ready ws i r))

    -- where a line is ready, the first ready line is that or one before it
    first_before : (i : ℕ) (rows : List (Row k)) (n : ℕ) → 1 ≤ i → row_ready ws (i + n) (slice_get rows n) ≡ true
        → (1 ≤ first_ready ws i rows) × (first_ready ws i rows ≤ i + n)
    first_before i [] n some ready = absurd (false≢true ready)
    first_before i (x ∷ rows) zero some ready =
        let place : i + 0 ≡ i = omega arith in
        let is = cond-true (is_ready ws i x) i (first_ready ws (suc i) rows) (rw place at ready) in
        (omega (arith, is), omega (arith, is))
    first_before i (x ∷ rows) (suc n) some ready =
        let place : i + suc n ≡ suc i + n = omega arith in
        ⊎_elim
        (λ (yes' : is_ready ws i x ≡ true).
        let is = cond-true (is_ready ws i x) i (first_ready ws (suc i) rows) yes' in
        (omega (arith, is), omega (arith, is)))
        (λ (none : is_ready ws i x ≡ false).
        let rest = cond-false (is_ready ws i x) i (first_ready ws (suc i) rows) none in
        let later = first_before (suc i) rows n (omega arith) (rw place at ready) in
        (omega (arith, rest, later.0), omega (arith, rest, later.1)))
        (cases_Bool (is_ready ws i x))

    -- the first ready line is ready
    first_ready_is : (i : ℕ) (rows : List (Row k)) (n : ℕ) → 1 ≤ i → first_ready ws i rows ≡ i + n → row_ready ws (i + n) (slice_get rows n) ≡ true
    first_ready_is i [] n some is = absurd (omega arith)
    first_ready_is i (x ∷ rows) zero some is =
        let place : i + 0 ≡ i = omega arith in
        ⊎_elim
        (λ (yes' : is_ready ws i x ≡ true). rw place yes')
        (λ (none : is_ready ws i x ≡ false).
        let rest = cond-false (is_ready ws i x) i (first_ready ws (suc i) rows) none in
        absurd (omega (arith, rest, is, first_from (suc i) rows (omega (arith, rest)))))
        (cases_Bool (is_ready ws i x))
    first_ready_is i (x ∷ rows) (suc n) some is =
        let place : suc i + n ≡ i + suc n = omega arith in
        ⊎_elim
        (λ (yes' : is_ready ws i x ≡ true). absurd (omega (arith, is, cond-true (is_ready ws i x) i (first_ready ws (suc i) rows) yes')))
        (λ (none : is_ready ws i x ≡ false).
        let rest = cond-false (is_ready ws i x) i (first_ready ws (suc i) rows) none in
        rw place at (first_ready_is (suc i) rows n (omega arith) (omega (arith, rest))))
        (cases_Bool (is_ready ws i x))

  module _ (m : Machine k) (n : ℕ) where
    ready_place : ready_in m (suc n) ≡ row_ready m.waiting (1 + n) (slice_get (opened_rows m) n)
    ready_place =
        let place : suc n ≡ 1 + n = omega arith in
        ap (row_ready m.waiting (suc n)) (row_of_is (opened_rows m) n) ∙ ap (λ i. row_ready m.waiting i (slice_get (opened_rows m) n)) place

    -- a ready line: the chosen line is that or one before it
    pub ready_chosen : ready_in m (suc n) ≡ true → (1 ≤ chosen m) × (chosen m ≤ suc n)
    ready_chosen ready =
        let both = first_before m.waiting 1 (opened_rows m) n (omega arith) (sym ready_place ∙ ready) in
        (both.0, omega (arith, both.1))

    -- the chosen line is ready
    pub chosen_ready : chosen m ≡ suc n → ready_in m (suc n) ≡ true
    chosen_ready is = ready_place ∙ first_ready_is m.waiting 1 (opened_rows m) n (omega arith) (omega arith)
