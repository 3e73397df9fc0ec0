-- A sporadic server runs at most its budget in any period, wherever the period begins.
use Rattle.std.specs.Prelude.{◌≡◌, ℕ, ◌+◌, ◌-◌, ◌*◌, ◌≤◌}
use Rattle.std.proofs.Common.{ap, arith}
use Rattle.server.specs.Kind.{Terms, Fit}
use Rattle.server.specs.Histories.{History, before, Possible, runs}
use Rattle.server.specs.Rounding.{ceil_div}
use Rattle.server.specs.SporadicKind.{sporadic}
use Rattle.server.specs.HistoryLaws.{runs_split, runs_le}
use Rattle.server.specs.WindowLaws.{runs_periods}
use Rattle.server.specs.DueLaws.{due_from_total}
use Rattle.server.specs.SporadicHistory.{sound, steps}

module _ (t : Terms) (fit : Fit t) (h : History) (possible : Possible sporadic t h) where
  -- until d, a period after the open slice's first tick, what is run stays out, with the open slice; from d on there are
  -- only as many ticks as the slice took
  one_period : (s : ℕ) → runs h s t.period ≤ t.budget
  one_period s =
      let x = sound t fit h possible s in
      let taken = (before sporadic t h s).slice in
      let d = x.books.start + t.period in
      let first = steps t fit h possible s (t.period - taken) in
      let bound = due_from_total d (before sporadic t h (s + (t.period - taken))).entries in
      let cut : t.period - taken + taken ≡ t.period = omega (arith, x.books.sum, fit.within) in
      omega (
        arith,
        first.most d (omega (arith, x.books.ends)) (omega arith),
        first.sound.books.sum,
        runs_le h (s + (t.period - taken)) taken,
        runs_split h s (t.period - taken) taken,
        ap (runs h s) cut,
      )

pub sporadic_ceiling_anywhere :
    (t : Terms) → Fit t → (h : History) → Possible sporadic t h → (s n : ℕ) → runs h s n ≤ ceil_div n t.period * t.budget
sporadic_ceiling_anywhere t fit h possible =
    runs_periods h t.period t.budget (one_period t fit h possible) (omega (arith, fit.some, fit.within))
