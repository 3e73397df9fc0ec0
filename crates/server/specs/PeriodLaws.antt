-- Where periods start, and the budgets of all periods that start before tick n, which together are per_period n.
use Rattle.std.specs.Prelude.{◌≡◌, ℕ, suc, ◌+◌, ◌*◌, ◌/◌, ◌%◌, ◌<◌, ◌≤◌, true, false}
use Rattle.std.proofs.Common.{ap, ◌∙◌, div-add-mod', mul-le-mul_right, lt_of_mul-lt-mul_right, arith}
use Rattle.std.proofs.lemmas.Nat.{mod-mul-add}
use Rattle.std.proofs.lemmas.Bool.{eqb-true, eq-eqb, ne_eqb}
use Rattle.server.specs.Kind.{Terms, Fit}
use Rattle.server.specs.Rounding.{ceil_div, Reaches}
use Rattle.server.specs.Budgets.{starts, per_period}
use Rattle.server.specs.RoundingLaws.{ceil_div_reaches}

module _ (t : Terms) (fit : Fit t) where
  reaches : (n : ℕ) → Reaches n t.period (ceil_div n t.period)
  reaches n = ceil_div_reaches n t.period (omega arith)

  -- i ticks after a multiple of the period
  past : (c i n : ℕ) → i < t.period → n ≡ c * t.period + i → n % t.period ≡ i
  past c i n lt is = ap (λ x. x % t.period) is ∙ mod-mul-add c t.period i lt

  pub starts_here : (c n : ℕ) → n ≡ c * t.period → starts t n ≡ true
  starts_here c n is = eq-eqb _ _ (past c 0 n (omega arith) (omega arith))

  pub starts_not : (c i n : ℕ) → suc i < t.period → n ≡ c * t.period + suc i → starts t n ≡ false
  starts_not c i n lt is = ne_eqb _ _ (λ e. omega (arith, e, past c (suc i) n lt is))

  -- n periods start in n whole periods
  pub per_period_whole : (n : ℕ) → per_period t (n * t.period) ≤ n * t.budget
  per_period_whole n = mul-le-mul_right t.budget ((reaches (n * t.period)).least n (omega arith))

  -- in n ticks from any tick on at most ⌈n/p⌉ periods start
  pub per_period_sum : (m n : ℕ) → per_period t (m + n) ≤ per_period t m + per_period t n
  per_period_sum m n =
      let p = t.period in
      let le = (reaches (m + n)).least (ceil_div m p + ceil_div n p) (omega (arith, (reaches m).enough, (reaches n).enough)) in
      omega (arith, mul-le-mul_right t.budget le)

  -- a period that starts at tick n is one more before the next tick
  pub per_period_starts : (n : ℕ) → starts t n ≡ true → per_period t n + t.budget ≤ per_period t (suc n)
  per_period_starts n start =
      let p = t.period in
      let is : n ≡ n / p * p = omega (arith, div-add-mod' n p, eqb-true _ _ start) in
      let low = (reaches n).least (n / p) (omega arith) in
      let high : n / p < ceil_div (suc n) p = lt_of_mul-lt-mul_right p (omega (arith, (reaches (suc n)).enough)) in
      let more : suc (ceil_div n p) ≤ ceil_div (suc n) p = omega arith in
      omega (arith, mul-le-mul_right t.budget more)
