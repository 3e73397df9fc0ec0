-- The rows of a text, one after the other.
use Rattle.std.proofs.Common.{◌≡◌, ℕ, suc, ◌+◌, ◌*◌, ◌/◌, ◌<◌, ◌≤◌, Bool, true, false, cond, eqb, Option, Some, None, refl, List, [], ◌∷◌, ◌++◌, length, get_or, take, sym, ap, ◌∙◌, add-one, ◌⊎◌, ⊎_elim, arith}
use Rattle.std.specs.Simd.{first_chunks}
use Rattle.text.specs.Written.{room}
use Rattle.text.proofs.Cuts.{added_twice}
use Rattle.std.specs.List.{position, position_from}
use Rattle.std.proofs.lemmas.Iterator.Adapters.{position_from-zero}
use Rattle.analysis.specs.Verdicts.{Verdict, passes, fails, verdict_from}
use Rattle.report.specs.Rows.{row, rows}
use Rattle.report.proofs.Records.{letter_at}

-- what is left of the records and the times from place i on: a record for each time, and its letter as it stands in the bytes
pub record Left (bs : List ℕ) (i : ℕ) (records : List (List ℕ)) (times : List ℕ) : Type 0 where
  pub enough : length times ≤ length records
  pub letter : (k : ℕ) → k < length records → get_or (get_or records k []) 0 0 ≡ get_or bs (20 * (i + k)) 0

-- at first all of them are
pub left_all : (bs ts : List ℕ) (records : List (List ℕ)) (i : ℕ) → i ≡ 0 → records ≡ first_chunks 20 (length bs / 20) bs → length records ≡ length bs / 20 → 20 * length ts ≤ length bs → Left bs i records ts
left_all bs ts records i none front many whole =
    record {
      enough = omega arith;
      letter = λ k below.
          let place : 20 * k ≡ 20 * (i + k) = omega arith in
          ap (λ xs. get_or (get_or xs k []) 0 0) front ∙ letter_at bs k (length bs / 20) [] (omega arith) ∙ ap (λ p. get_or bs p 0) place;
    }

module _ (bs before : List ℕ) (i : ℕ) (records : List (List ℕ)) (ts : List ℕ) (left : Left bs i records ts) where
  -- then one record and one time less, and their row
  pub one_less : (rs : List (List ℕ)) (r rest : List ℕ) (t n : ℕ) → n ≡ i + 1 → records ≡ r ∷ rs → ts ≡ t ∷ rest → Left bs n rs rest
  one_less rs r rest t n next first then =
      record {
        enough = omega (arith, ap length first, ap length then, left.enough);
        letter = λ k below.
            let place : 20 * (i + suc k) ≡ 20 * (n + k) = omega arith in
            ap (λ xs. get_or (get_or xs (suc k) []) 0 0) (sym first) ∙ left.letter (suc k) (omega (arith, ap length first)) ∙ ap (λ p. get_or bs p 0) place;
      }

  pub row_added : (after : List ℕ) (rs : List (List ℕ)) (r rest : List ℕ) (t n j : ℕ) → n ≡ i + 1 → j ≡ i → records ≡ r ∷ rs → ts ≡ t ∷ rest
      → after ≡ take room (before ++ row (j + 1) (get_or r 0 0) t) → take room (after ++ rows bs n rest) ≡ take room (before ++ rows bs i ts)
  row_added after rs r rest t n j next here first then is =
      let number : j + 1 ≡ suc i = omega arith in
      let same : n ≡ suc i = omega arith in
      let place : 20 * (i + 0) ≡ 20 * i = omega arith in
      let letter : get_or r 0 0 ≡ get_or bs (20 * i) 0 =
      ap (λ xs. get_or (get_or xs 0 []) 0 0) (sym first) ∙ left.letter 0 (omega (arith, ap length first)) ∙ ap (λ p. get_or bs p 0) place in
      let this = row (suc i) (get_or bs (20 * i) 0) t in
      ap (λ xs. take room (xs ++ rows bs n rest)) (is ∙ ap (λ m. take room (before ++ row m (get_or r 0 0) t)) number ∙ ap (λ l. take room (before ++ row (suc i) l t)) letter)
      ∙ added_twice before this (rows bs n rest)
      ∙ ap (λ m. take room (before ++ (this ++ rows bs m rest))) same
      ∙ ap (λ xs. take room (before ++ rows bs i xs)) (sym then)

  -- at last there is no time
  pub rows_end : length records ≡ 0 ⊎ length ts ≡ 0 → rows bs i ts ≡ []
  rows_end none = empty ts (⊎_elim (λ (a : length records ≡ 0). omega (arith, left.enough)) (λ (b : length ts ≡ 0). omega arith) none)
    where
      empty : (xs : List ℕ) → length xs ≡ 0 → rows bs i xs ≡ []
      empty [] is = refl
      empty (x ∷ xs) is = absurd (omega arith)

-- the verdict that names the line at this place, if there is one
abbrev pub naming : Option ℕ → Verdict
naming None = passes
naming (Some place) = fails 18 (place + 1)

naming_from : (i : ℕ) (ts : List ℕ) → verdict_from (suc i) ts ≡ naming (position_from (λ t. eqb t 0) i ts)
naming_from i [] = refl
naming_from i (t ∷ ts) = pick (eqb t 0) (naming_from (i + 1) ts)
  where
    pick : (b : Bool) → verdict_from (suc (i + 1)) ts ≡ naming (position_from (λ t. eqb t 0) (i + 1) ts)
        → cond b (fails 18 (suc i)) (verdict_from (suc (suc i)) ts) ≡ naming (cond b (Some i) (position_from (λ t. eqb t 0) (i + 1) ts))
    pick true e = ap (fails 18) (sym (add-one i))
    pick false e = ap (λ n. verdict_from (suc n) ts) (sym (add-one i)) ∙ e

pub verdict_named : (ts : List ℕ) → verdict_from 1 ts ≡ naming (position (λ t. eqb t 0) ts)
verdict_named ts = naming_from 0 ts ∙ ap naming (sym (position_from-zero (λ t. eqb t 0) ts))
