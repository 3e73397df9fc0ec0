-- Kinds that refill what is held at the start of each period: they run their budget in any 2 periods, and keep the laws.
use Rattle.std.specs.Prelude.{◌≡◌, ℕ, zero, suc, ◌+◌, ◌-◌, ◌*◌, ◌<◌, ◌≤◌, true, cond}
use Rattle.std.proofs.Common.{ap, subst, ◌∙◌, add-suc, arith}
use Rattle.std.proofs.lemmas.Bool.{cond-true, cond-false, cond_both, le-leb, and_from}
use Rattle.server.specs.Kind.{Terms, Kind}
use Rattle.server.specs.Rounding.{ceil_div}
use Rattle.server.specs.Budgets.{starts}
use Rattle.server.specs.Histories.{History, Fresh, Pressed, runs}
use Rattle.server.specs.Laws.{Keeps}
use Rattle.server.specs.RoundingLaws.{ceil_div_reaches, ceil_div_close}
use Rattle.server.specs.HistoryLaws.{runs_within, runs_all}
use Rattle.server.specs.PeriodLaws.{starts_here, starts_not}
use Rattle.server.specs.RefillLaws.{Refilled, held_at, held_in, in_asked, in_after, at_within, in_within}

module _ {k : Kind} {t : Terms} {h : History} (g : Refilled k t h) where
  -- from the start of a period on, wanted and run whenever ready, it holds 1 less in each tick until the budget has run
  module _ (c : ℕ) (pressed : (i : ℕ) → i < t.budget → Pressed k t h (c * t.period + i)) where
    then_runs : (i : ℕ) → i < t.budget → held_in g (c * t.period + i) + i ≡ t.budget → h.ran (c * t.period + i) ≡ true
    then_runs i lt is = (pressed i lt).given (and_from _ _ (pressed i lt).asked (le-leb 1 _ (omega arith)))

    then_holds : (i : ℕ) → i < t.budget → held_in g (c * t.period + i) + i ≡ t.budget
    then_holds zero lt =
        let start = starts_here t g.fit c (c * t.period + 0) (omega arith) in
        omega (arith, in_asked g (c * t.period + 0) (pressed 0 lt).asked ∙ cond-true _ _ _ start)
    then_holds (suc i) lt =
        let held = then_holds i (omega arith) in
        let ran = ap {B = ℕ} (λ b. cond b 1 0) (then_runs i (omega arith) held) in
        let later = starts_not t g.fit c i (c * t.period + suc i) (omega arith) (omega arith) in
        let kept = in_asked g (c * t.period + suc i) (pressed (suc i) lt).asked ∙ cond-false _ _ _ later in
        omega (arith, in_after g (c * t.period + i), ap (held_at g) (add-suc (c * t.period) i))

    then_all : runs h (c * t.period) t.budget ≡ t.budget
    then_all = runs_all h (c * t.period) t.budget (λ i lt. then_runs i lt (then_holds i lt))

  -- the first period that starts at tick s or later starts before s + p, and so its budget runs before s + 2 p
  floor : (s : ℕ) → ((i : ℕ) → i < 2 * t.period → Pressed k t h (s + i)) → t.budget ≤ runs h s (2 * t.period)
  floor s pressed =
      let c = ceil_div s t.period in
      let low = (ceil_div_reaches s t.period (omega arith)).enough in
      let high = ceil_div_close s t.period in
      let all = then_all c (λ i lt. subst (Pressed k t h) (omega arith) (pressed (c * t.period + i - s) (omega arith))) in
      omega (arith, runs_within h s (2 * t.period) (c * t.period) t.budget (omega arith) (omega arith))

  pub refilled_keeps : ((s n : ℕ) → Fresh k t h s → runs h s n ≤ k.ceiling t n) → Keeps k t h
  refilled_keeps ceiling = record {
    ceiling = ceiling;
    floor = floor;
    keeping_start = λ n is.
        let up = cond_both (starts t n) t.budget (held_at g n) (λ x. held_at g n ≤ x) (λ e. at_within g n) (λ e. omega arith) in
        omega (arith, in_asked g n is);
    keeping_end = λ n is. omega (arith, in_after g n);
    held_before = at_within g;
    held_inside = in_within g;
  }
