-- A verdict names the first line that has no response time.
use Rattle.std.proofs.Common.{◌≡◌, true, ℕ, zero, suc, ◌+◌, ◌-◌, ◌<◌, eqb, ◌⊎◌, List, [], ◌∷◌, length, get_or, take, sym, refl, ap, ◌∙◌, subst, inl, inr, ⊎_elim, arith}
use Rattle.std.proofs.lemmas.Bool.{cases_eq, cond-true, cond-false, eq-eqb, ne_eqb, false≢true}
use Rattle.server.specs.Kind.{Kind}
use Rattle.plan.specs.declared.line.Line.{Line}
use Rattle.plan.specs.Records.{blank}
use Rattle.analysis.specs.Response.{time_of}
use Rattle.analysis.specs.Times.{times}
use Rattle.analysis.specs.Verdicts.{Verdict, passes, fails, accepts, verdict_from, verdict, Passes, AllPass, Judges}
use Rattle.analysis.proofs.Counting.{time_zero, time_solves}
use Rattle.analysis.proofs.Sweeps.{times_length, times_at}

none_zero : (n : ℕ) (ts : List ℕ) → ((j : ℕ) → j < length ts → get_or ts j 0 ≡ 0 → ⊥) → verdict_from n ts ≡ passes
none_zero n [] all = refl
none_zero n (t ∷ ts) all =
    cond-false (eqb t 0) (fails 18 n) (verdict_from (suc n) ts) (ne_eqb t 0 (all 0 (omega arith)))
    ∙ none_zero (suc n) ts (λ j below. all (suc j) (omega arith))

first_zero_at : (n : ℕ) (ts : List ℕ) (i : ℕ) → i < length ts → get_or ts i 0 ≡ 0 → ((j : ℕ) → j < i → get_or ts j 0 ≡ 0 → ⊥) → verdict_from n ts ≡ fails 18 (n + i)
first_zero_at n [] i within is before = absurd (omega arith)
first_zero_at n (t ∷ ts) zero within is before =
    cond-true (eqb t 0) (fails 18 n) (verdict_from (suc n) ts) (eq-eqb t 0 is) ∙ ap (fails 18) (omega arith)
first_zero_at n (t ∷ ts) (suc i) within is before =
    cond-false (eqb t 0) (fails 18 n) (verdict_from (suc n) ts) (ne_eqb t 0 (before 0 (omega arith)))
    ∙ first_zero_at (suc n) ts i (omega arith) is (λ j below. before (suc j) (omega arith))
    ∙ ap (fails 18) (omega arith)

-- the first 0 of a list stands at place i
abbrev FirstZero : List ℕ → ℕ → Type 0
FirstZero ts i = (i < length ts) × (get_or ts i 0 ≡ 0) × ((j : ℕ) → j < i → get_or ts j 0 ≡ 0 → ⊥)

abbrev NoZero : List ℕ → Type 0
NoZero ts = (j : ℕ) → j < length ts → get_or ts j 0 ≡ 0 → ⊥

no_zero_cons : (t : ℕ) (ts : List ℕ) → (t ≡ 0 → ⊥) → NoZero ts → NoZero (t ∷ ts)
no_zero_cons t ts some rest zero below is = some is
no_zero_cons t ts some rest (suc j) below is = rest j (omega arith) is

before_cons : (t : ℕ) (ts : List ℕ) (i : ℕ) → (t ≡ 0 → ⊥) → ((j : ℕ) → j < i → get_or ts j 0 ≡ 0 → ⊥) → (j : ℕ) → j < suc i → get_or (t ∷ ts) j 0 ≡ 0 → ⊥
before_cons t ts i some rest zero below is = some is
before_cons t ts i some rest (suc j) below is = rest j (omega arith) is

zero_or_none : (ts : List ℕ) → NoZero ts ⊎ ((i : ℕ) × FirstZero ts i)
zero_or_none [] = inl (λ j below is. omega arith)
zero_or_none (t ∷ ts) =
    ⊎_elim
    (λ (is : t ≡ 0). inr (0, (omega arith, is, λ j below. absurd (omega arith))))
    (λ (some : t ≡ 0 → ⊥).
    ⊎_elim
    (λ (none : NoZero ts). inl (no_zero_cons t ts some none))
    (λ (found : (i : ℕ) × FirstZero ts i). inr (suc found.0, (omega (arith, found.1.0), found.1.1, before_cons t ts found.0 some found.1.2)))
    (zero_or_none ts))
    (cases_eq t 0)

module _ (k : Kind) (ls : List Line) where
  -- every line has a time
  pub verdict_passes : ((j : ℕ) → j < length ls → time_of k (take j ls) (get_or ls j blank) ≡ 0 → ⊥) → verdict k ls ≡ passes
  unfolding verdict
  verdict_passes all =
      none_zero 1 (times k ls)
      (λ j below is. let within : j < length ls = omega (arith, times_length k ls) in all j within (sym (times_at k ls j within) ∙ is))

  -- line i + 1 is the first that has none
  pub verdict_fails : (i : ℕ) → i < length ls → time_of k (take i ls) (get_or ls i blank) ≡ 0
      → ((j : ℕ) → j < i → time_of k (take j ls) (get_or ls j blank) ≡ 0 → ⊥) → verdict k ls ≡ fails 18 (1 + i)
  unfolding verdict
  verdict_fails i within is before =
      first_zero_at 1 (times k ls) i (omega (arith, times_length k ls)) (times_at k ls i within ∙ is)
      (λ j below zero'. before j below (sym (times_at k ls j (omega arith)) ∙ zero'))

  passes_at : (i : ℕ) → i < length ls → (get_or (times k ls) i 0 ≡ 0 → ⊥) → Passes k ls i
  passes_at i within some =
      (time_of k (take i ls) (get_or ls i blank), time_solves k (take i ls) (get_or ls i blank) (λ none. some (times_at k ls i within ∙ none)))

  -- what the verdict on a plan says of its lines
  pub verdict_judges : Judges k ls (verdict k ls)
  unfolding verdict
  verdict_judges =
      ⊎_elim
      (λ (none : NoZero (times k ls)).
      subst (Judges k ls) (sym (none_zero 1 (times k ls) none))
      (λ i within. passes_at i within (none i (omega (arith, times_length k ls)))))
      (λ (found : (i : ℕ) × FirstZero (times k ls) i).
      let i = found.0 in
      let within : i < length ls = omega (arith, times_length k ls, found.1.0) in
      subst (Judges k ls) (sym (first_zero_at 1 (times k ls) i found.1.0 found.1.1 found.1.2)) (
        refl,
        omega arith,
        omega arith,
        subst (λ n. Passes k ls n → ⊥) (place i) (λ p. time_zero k (take i ls) (get_or ls i blank) (sym (times_at k ls i within) ∙ found.1.1) p.0 p.1),
        λ j below. passes_at j (omega arith) (found.1.2 j (omega arith)),
      ))
      (zero_or_none (times k ls))
    where
      place : (i : ℕ) → i ≡ 1 + i - 1
      place i = omega arith

  -- all lines of a plan pass on which the verdict is so
  pub accepted_passes : accepts (verdict k ls) ≡ true → AllPass k ls
  accepted_passes accepted = judged_passes (verdict k ls) accepted verdict_judges
    where
      judged_passes : (v : Verdict) → accepts v ≡ true → Judges k ls v → AllPass k ls
      judged_passes passes accepted judges = judges
      judged_passes (fails number n) accepted judges = absurd (false≢true accepted)
