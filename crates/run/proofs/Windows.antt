-- How many ticks of a window are of some sort, and how many of the others are left where that sort is bounded from rest.
use Rattle.std.proofs.Common.{◌≡◌, ℕ, zero, suc, ◌+◌, ◌-◌, ◌<◌, ◌≤◌, Bool, true, false, cond, not, refl, ap, ◌∙◌, ⊎_elim, add-zero, add-suc, arith}
use Rattle.std.proofs.lemmas.Bool.{cases_Bool}

-- how many of the n ticks from tick s on pass the test
abbrev pub count : (ℕ → Bool) → ℕ → ℕ → ℕ
count test s zero = 0
count test s (suc n) = count test s n + cond (test (s + n)) 1 0

-- the test passes in 1 or in 0 of 1 tick, and the other test in the other
pub one_of : (b : Bool) → cond b 1 0 + cond (not b) 1 0 ≡ 1
one_of true = refl
one_of false = refl

pub at_most : (b : Bool) → cond b 1 0 ≤ 1
at_most b = omega (arith, one_of b)

-- tests that agree in the window count alike
pub count_same : (f g : ℕ → Bool) (s n : ℕ) → ((u : ℕ) → u < s + n → f u ≡ g u) → count f s n ≡ count g s n
count_same f g s zero same = refl
count_same f g s (suc n) same =
    omega (arith, count_same f g s n (λ u lt. same u (omega arith)), ap {B = ℕ} (λ b. cond b 1 0) (same (s + n) (omega arith)))

module _ (test : ℕ → Bool) where
  -- the first tick apart
  pub count_first : (s n : ℕ) → count test s (suc n) ≡ cond (test s) 1 0 + count test (suc s) n
  count_first s zero = ap (λ u. 0 + cond (test u) 1 0) (add-zero s) ∙ omega arith
  count_first s (suc n) =
      let place : suc s + n ≡ s + suc n = omega arith in
      omega (arith, count_first s n, ap {B = ℕ} (λ u. cond (test u) 1 0) place)

  -- a longer window counts no fewer
  pub count_more : (s n d : ℕ) → count test s n ≤ count test s (n + d)
  count_more s n zero = omega (arith, ap (count test s) (add-zero n))
  count_more s n (suc d) = omega (arith, count_more s n d, ap (count test s) (add-suc n d))

  pub count_rises : (s m n : ℕ) → m ≤ n → count test s m ≤ count test s n
  count_rises s m n le =
      let size : m + (n - m) ≡ n = omega arith in
      omega (arith, count_more s m (n - m), ap (count test s) size)

  -- each tick passes the test or does not
  pub count_both : (s n : ℕ) → count test s n + count (λ u. not (test u)) s n ≡ n
  count_both s zero = refl
  count_both s (suc n) = omega (arith, count_both s n, one_of (test (s + n)))

  -- rest at tick s: it is tick 0, or the tick before does not pass
  abbrev pub Rest : ℕ → Type 0
  Rest zero = Unit {0}
  Rest (suc s) = test s ≡ false

-- where in w ticks from rest at most `most` are busy, and own + most ≤ w, any w ticks before the end have `own` that are not
pub gaps : (busy : ℕ → Bool) (end w own most : ℕ) → own + most ≤ w
    → ((s : ℕ) → s + w ≤ end → Rest busy s → count busy s w ≤ most)
    → (s : ℕ) → s + w ≤ end → own ≤ count (λ u. not (busy u)) s w
gaps busy end w own most fits bound zero within = omega (arith, count_both busy 0 w, bound 0 within tt)
gaps busy end w own most fits bound (suc s) within =
    ⊎_elim
    (λ (yes' : busy s ≡ true).
    omega (arith, gaps busy end w own most fits bound s (omega arith), count_first (λ u. not (busy u)) s w, ap {B = ℕ} (λ b. cond (not b) 1 0) yes'))
    (λ (none : busy s ≡ false). omega (arith, count_both busy (suc s) w, bound (suc s) within none))
    (cases_Bool (busy s))
