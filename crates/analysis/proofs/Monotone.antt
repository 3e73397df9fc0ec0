-- The demand never falls as the window grows, and shares are small.
use Rattle.std.proofs.Common.{ℕ, ◌*◌, length, ◌≤◌, suc, List, [], ◌∷◌, sum_by, mul-le-mul_left, mul-le-mul_right, arith}
use Rattle.std.specs.List.{All}
use Rattle.std.proofs.lemmas.List.Sums.{sum_by-cons, sum_by-le}
use Rattle.plan.specs.Records.{Fit}
use Rattle.plan.specs.declared.line.Line.{Line}
use Rattle.plan.specs.declared.line.Line.TheVariants.{Task, Server}
use Rattle.server.specs.Kind.{Kind, Steady}
use Rattle.server.specs.Rounding.{ceil_div}
use Rattle.server.specs.RoundingLaws.{ceil_div_rises, ceil_div_close}
use Rattle.analysis.specs.Equation.{own, share, demand}

module _ (k : Kind) (steady : Steady k) (m n : ℕ) (le : m ≤ n) where
  pub share_rises : (l : Line) → Fit l → share k m l ≤ share k n l
  share_rises (Task t) fit = mul-le-mul_right t.work (ceil_div_rises m n t.period (omega arith) le)
  share_rises (Server s) fit =
      steady.rises _ (record { some = fit.1; within = fit.2; short = fit.3 }) m n le

  shares_rise : (ls : List Line) → All Fit ls → sum_by (share k m) ls ≤ sum_by (share k n) ls
  shares_rise [] fit = omega arith
  shares_rise (l ∷ ls) fit =
      omega (arith, sum_by-cons (share k m) l ls, sum_by-cons (share k n) l ls, share_rises l (fit 0 l (omega arith)), shares_rise ls (λ i d within. fit (suc i) d (omega arith)))

  pub demand_rises : (above : List Line) (l : Line) → All Fit above → demand k above l m ≤ demand k above l n
  demand_rises above l fit = omega (arith, shares_rise above fit)

-- a task within its bounds takes less than a period more than the window
pub task_share_small : (work period w : ℕ) → w ≤ 1000000 → work ≤ period → period ≤ 1000000 → ceil_div w period * work ≤ 2000000
task_share_small work period w window within short = omega (arith, mul-le-mul_left (ceil_div w period) within, ceil_div_close w period)

module _ (k : Kind) (steady : Steady k) (w : ℕ) (window : w ≤ 1000000) where
  share_small : (l : Line) → Fit l → share k w l ≤ 4000000
  share_small (Task t) fit = omega (arith, task_share_small t.work t.period w window (omega (arith, fit.1, fit.2)) fit.3)
  share_small (Server s) fit = steady.small _ (record { some = fit.1; within = fit.2; short = fit.3 }) w window

  own_small : (l : Line) → Fit l → own l ≤ 1000000
  own_small (Task t) fit = omega arith
  own_small (Server s) fit = omega arith

  pub demand_small : (above : List Line) (l : Line) → All Fit above → length above ≤ 20 → Fit l → demand k above l w ≤ 81000000
  demand_small above l fits few fit =
      omega (arith, own_small l fit, sum_by-le (share k w) 4000000 above (λ i d within. share_small _ (fits i d within)))
