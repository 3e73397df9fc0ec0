-- Counting up from 1 finds the least solution: the response time as a number is the one of the relation.
use Rattle.std.proofs.Common.{◌≡◌, ℕ, zero, suc, ◌+◌, ◌<◌, ◌≤◌, Bool, true, false, leb, List, is_some, Some, None, Option, unwrap_or, sym, refl, ◌∙◌, ⊎_elim, arith}
use Rattle.std.proofs.lemmas.Bool.{cases_order, cases_Bool, cond-true, cond-false, le-leb, leb-true, both_ways, true≢false, false≢true}
use Rattle.server.specs.Kind.{Kind}
use Rattle.plan.specs.declared.line.Line.{Line}
use Rattle.analysis.specs.Equation.{demand, limit}
use Rattle.analysis.specs.Response.{Solves, Response, first, time_of}

module _ (test : ℕ → Bool) where
  first_none : (w n : ℕ) → ((v : ℕ) → w ≤ v → v < w + n → test v ≡ false) → first test w n ≡ 0
  first_none w zero none = refl
  first_none w (suc n) none =
      cond-false (test w) w _ (none w (omega arith) (omega arith))
      ∙ first_none (suc w) n (λ v from below. none v (omega arith) (omega arith))

  first_at : (w n v : ℕ) → w ≤ v → v < w + n → test v ≡ true → ((u : ℕ) → w ≤ u → u < v → test u ≡ false) → first test w n ≡ v
  first_at w zero v from below holds none = absurd (omega arith)
  first_at w (suc n) v from below holds none =
      ⊎_elim
      (λ (same : w ≡ v). cond-true (test w) w _ (rw same holds) ∙ same)
      (⊎_elim
      (λ (less : w < v). cond-false (test w) w _ (none w (omega arith) less) ∙ first_at (suc w) n v less (omega arith) holds (λ u low high. none u (omega arith) high))
      (λ (more : v < w). absurd (omega arith)))
      (cases_order w v)

  first_zero : (w n : ℕ) → 1 ≤ w → first test w n ≡ 0 → (v : ℕ) → w ≤ v → v < w + n → test v ≡ false
  first_zero w zero some zero' v from below = absurd (omega arith)
  first_zero w (suc n) some zero' v from below =
      ⊎_elim
      (λ (holds : test w ≡ true). absurd (omega (arith, sym (cond-true (test w) w (first test (suc w) n) holds) ∙ zero')))
      (λ (fails : test w ≡ false).
      ⊎_elim
      (λ (same : w ≡ v). rw (sym same) fails)
      (⊎_elim
      (λ (less : w < v). first_zero (suc w) n (omega arith) (sym (cond-false (test w) w (first test (suc w) n) fails) ∙ zero') v less (omega arith))
      (λ (more : v < w). absurd (omega arith)))
      (cases_order w v))
      (cases_Bool (test w))

  first_holds : (w n : ℕ) → (first test w n ≡ 0 → ⊥) → (w ≤ first test w n) × (first test w n < w + n) × (test (first test w n) ≡ true)
  first_holds w zero some = absurd (some refl)
  first_holds w (suc n) some =
      ⊎_elim
      (λ (holds : test w ≡ true). rw (cond-true (test w) w (first test (suc w) n) holds) (omega arith, omega arith, holds))
      (λ (fails : test w ≡ false).
      let rest = cond-false (test w) w (first test (suc w) n) fails in
      let later = first_holds (suc w) n (λ zero'. some (rest ∙ zero')) in
      rw rest (omega (arith, later.0), omega (arith, later.1), later.2))
      (cases_Bool (test w))

module _ (k : Kind) (above : List Line) (l : Line) where
  met : ℕ → Bool
  met w = leb (demand k above l w) w

  unsolved : (w : ℕ) → 1 ≤ w → w ≤ limit l → (Solves k above l w → ⊥) → met w ≡ false
  unfolding met
  unsolved w some within none =
      ⊎_elim
      (λ (holds : leb (demand k above l w) w ≡ true). absurd (none (record { some = some; within = within; met = leb-true _ _ holds })))
      (λ (fails : leb (demand k above l w) w ≡ false). fails)
      (cases_Bool (leb (demand k above l w) w))

  pub time_from_response : (r : Option ℕ) → Response k above l r → time_of k above l ≡ unwrap_or r 0
  unfolding time_of met
  time_from_response None none = first_none met 1 (limit l) (λ v some below. unsolved v some (omega arith) (none v))
  time_from_response (Some w) least =
      first_at met 1 (limit l) w least.0.some (omega (arith, least.0.within)) (le-leb _ _ least.0.met)
      (λ u some below. unsolved u some (omega (arith, least.0.within)) (λ solves. omega (arith, least.1 u solves)))

  -- no time: the equation has no solution
  pub time_zero : time_of k above l ≡ 0 → (w : ℕ) → Solves k above l w → ⊥
  unfolding time_of met
  time_zero none w solves =
      both_ways (met w) (first_zero met 1 (limit l) (omega arith) none w solves.some (omega (arith, solves.within))) (le-leb _ _ solves.met)

  -- a time: it solves the equation
  pub time_solves : (time_of k above l ≡ 0 → ⊥) → Solves k above l (time_of k above l)
  unfolding time_of met
  time_solves some =
      let found = first_holds met 1 (limit l) some in
      record { some = found.0; within = omega (arith, found.1); met = leb-true _ _ found.2 }

  pub time_missing : (r : Option ℕ) → Response k above l r → is_some r ≡ false → time_of k above l ≡ 0
  time_missing None response none = time_from_response None response
  time_missing (Some w) response none = absurd (true≢false none)

  pub time_there : (r : Option ℕ) → Response k above l r → is_some r ≡ true → time_of k above l ≡ 0 → ⊥
  time_there None response some zero' = absurd (false≢true some)
  time_there (Some w) response some zero' = omega (arith, time_from_response (Some w) response, response.0.some)
