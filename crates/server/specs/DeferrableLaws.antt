-- The deferrable server is lawful.
use Rattle.std.specs.Prelude.{◌≡◌, ℕ, zero, suc, ◌+◌, ◌-◌, ◌*◌, ◌≤◌, refl}
use Rattle.std.proofs.Common.{ap, arith}
use Rattle.server.specs.Kind.{Terms, Fit}
use Rattle.server.specs.Rounding.{ceil_div}
use Rattle.server.specs.Budgets.{per_period}
use Rattle.server.specs.DeferrableKind.{deferrable, deferrable_ceiling}
use Rattle.server.specs.Histories.{History, Possible, runs}
use Rattle.server.specs.Laws.{Lawful}
use Rattle.server.specs.RoundingLaws.{ceil_div_reaches}
use Rattle.server.specs.CeilingLaws.{per_period_rises}
use Rattle.server.specs.HistoryLaws.{runs_split, runs_le, runs_within}
use Rattle.server.specs.PeriodLaws.{starts_here, per_period_starts, per_period_whole}
use Rattle.server.specs.RefillLaws.{Refilled, in_within, spent, spent_fresh}
use Rattle.server.specs.RefillFloor.{refilled_keeps}

refilled : (t : Terms) (h : History) → Fit t → Possible deferrable t h → Refilled deferrable t h
refilled t h fit possible = record {
  fit = fit;
  possible = possible;
  new = omega arith;
  asked = λ held tick. refl;
  most = λ held tick wanted. omega arith;
  after = λ held ran. refl;
}

module _ {t : Terms} {h : History} (g : Refilled deferrable t h) (s : ℕ) where
  -- up to the first start of a period from tick s on, d ticks later, it runs at most what it holds
  upto : (d : ℕ) → s + d ≡ ceil_div s t.period * t.period → runs h s d ≤ t.budget
  upto d place =
      let more = per_period_rises t g.fit s (suc s) (omega arith) in
      let run = spent g s t.budget (omega (arith, in_within g s)) d in
      let same = ap (per_period t) place in
      omega (arith, per_period_whole t g.fit (ceil_div s t.period))

  -- from the start of a period on it runs at most one budget for each period
  onwards : (b c n : ℕ) → b ≡ c * t.period → runs h b (n * t.period) ≤ n * t.budget
  onwards b c n is =
      let more = per_period_starts t g.fit b (starts_here t g.fit c b is) in
      omega (arith, spent_fresh g b (n * t.period) (omega (arith, in_within g b)), per_period_whole t g.fit n)

  -- of q + n p ticks, d stand before the first start and at most q - d after n periods from there: in these and those d
  -- together it runs at most q times
  in_all : (n : ℕ) → runs h s (t.budget + n * t.period) ≤ t.budget + n * t.budget
  in_all n =
      let c = ceil_div s t.period in
      let d = c * t.period - s in
      let rest = t.budget - d in
      let whole = n * t.period in
      let place : s + d ≡ c * t.period = omega (arith, (ceil_div_reaches s t.period (omega arith)).enough) in
      let longer = runs_within h s (d + (whole + rest)) s (t.budget + whole) (omega arith) (omega arith) in
      omega (
        arith,
        runs_split h s d (whole + rest),
        runs_split h (s + d) whole rest,
        runs_le h s d,
        upto d place,
        onwards (s + d) c n place,
        runs_le h (s + d + whole) rest,
      )

  ceiling : (n : ℕ) → runs h s n ≤ deferrable_ceiling t n
  ceiling zero = omega arith
  ceiling (suc n) = go (ceil_div (suc n + (t.period - t.budget)) t.period) (ceil_div_reaches _ _ (omega arith)).enough
    where
      go : (m : ℕ) → suc n + (t.period - t.budget) ≤ m * t.period → runs h s (suc n) ≤ m * t.budget
      go zero enough = absurd (omega arith)
      go (suc m) enough = omega (arith, in_all m, runs_within h s (t.budget + m * t.period) s (suc n) (omega arith) (omega arith))

pub deferrable_lawful : Lawful deferrable
deferrable_lawful t fit letter h possible =
    let g = refilled t h fit possible in
    refilled_keeps g (λ s n fresh. ceiling g s n)
