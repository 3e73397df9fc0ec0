-- The shape of the ceilings: 0 at 0, never falling, and bounded.
use Rattle.std.specs.Prelude.{◌≡◌, ℕ, zero, suc, ◌+◌, ◌-◌, ◌*◌, ◌≤◌}
use Rattle.std.proofs.Common.{ap, ◌∙◌, mul-le-mul_left, mul-le-mul_right, zero-mul, arith}
use Rattle.server.specs.Kind.{Terms, Fit, Kind, Steady}
use Rattle.server.specs.Rounding.{ceil_div}
use Rattle.server.specs.Budgets.{per_period}
use Rattle.server.specs.DeferrableKind.{deferrable_ceiling}
use Rattle.server.specs.RoundingLaws.{ceil_div_zero, ceil_div_rises, ceil_div_close}

pub per_period_none : (t : Terms) → per_period t 0 ≡ 0
per_period_none t = ap (λ k. k * t.budget) (ceil_div_zero t.period) ∙ zero-mul t.budget

pub per_period_rises : (t : Terms) → Fit t → (m n : ℕ) → m ≤ n → per_period t m ≤ per_period t n
per_period_rises t fit m n le = mul-le-mul_right t.budget (ceil_div_rises m n t.period (omega arith) le)

-- it is less than a period above n
pub per_period_close : (t : Terms) → Fit t → (n : ℕ) → per_period t n ≤ n + t.period
per_period_close t fit n =
    omega (arith, mul-le-mul_left (ceil_div n t.period) fit.within, ceil_div_close n t.period)

-- a kind with one budget for each period as its ceiling
pub per_period_steady : (k : Kind) → ((t : Terms) (n : ℕ) → k.ceiling t n ≡ per_period t n) → Steady k
per_period_steady k is = record {
  none = λ t fit. is t 0 ∙ per_period_none t;
  rises = λ t fit m n le. omega (arith, is t m, is t n, per_period_rises t fit m n le);
  small = λ t fit n le. omega (arith, is t n, per_period_close t fit n);
}

pub deferrable_rises : (t : Terms) → Fit t → (m n : ℕ) → m ≤ n → deferrable_ceiling t m ≤ deferrable_ceiling t n
deferrable_rises t fit zero n le = omega arith
deferrable_rises t fit (suc m) zero le = omega arith
deferrable_rises t fit (suc m) (suc n) le = per_period_rises t fit _ _ (omega arith)

pub deferrable_small : (t : Terms) → Fit t → (n : ℕ) → n ≤ 1000000 → deferrable_ceiling t n ≤ 4000000
deferrable_small t fit zero le = omega arith
deferrable_small t fit (suc n) le = omega (arith, per_period_close t fit (suc n + (t.period - t.budget)))
