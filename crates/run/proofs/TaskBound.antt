-- From rest a task runs at most its share: all that it runs arrived in the window.
use Rattle.std.proofs.Common.{◌≡◌, ℕ, zero, suc, ◌+◌, ◌-◌, ◌*◌, ◌<◌, ◌≤◌, cond, eqb, leb, List, [], ◌∷◌, Some, sym, refl, ap, ◌∙◌, subst, ⊎_elim, mul-le-mul_right, suc-mul, le-div_iff_mul-le, zero-mul, arith}
use Rattle.std.specs.List.{slice_get}
use Rattle.std.proofs.lemmas.Bool.{cases_lt, cond-true, cond-false, eq-eqb, ne_eqb, leb-false}
use Rattle.server.specs.Kind.{Kind}
use Rattle.server.specs.Rounding.{ceil_div}
use Rattle.plan.specs.Records.{Fit}
use Rattle.plan.specs.declared.line.Line.TheVariants.{Task}
use Rattle.plan.specs.declared.line.Task as plan_task
use Rattle.analysis.specs.Equation.{share}
use Rattle.run.specs.Machine.{Machine, chosen}
use Rattle.run.specs.Promises.{FreshTick}
use Rattle.run.specs.Rows.{task}
use Rattle.run.specs.Tries.{Call, after, ready_in, ran_ticks}
use Rattle.run.proofs.Past.{time_step, found_tick, ran_past, fresh_past}
use Rattle.run.proofs.TaskSteps.{Arrives, TaskAt, task_cases}

-- the task t is on line j + 1 of the state m at time 0, before its first arrival
module _ {k : Kind} (m : Machine k) (j : ℕ) (t : plan_task.Task) (fit : Fit (Task t)) (zero' : m.time ≡ 0)
    (new : slice_get m.rows j ≡ Some (task t 0 t.first)) where
  -- so many jobs arrived in the n ticks from tick s on: they are all that ran or is left, and each moved the next arrival by a period
  record Arrived (cs : List Call) (s n unfinished next : ℕ) : Type 0 where
    jobs : ℕ
    work : ran_ticks m cs (suc j) s n + unfinished ≤ jobs * t.work
    moved : s + jobs * t.period ≤ next

  record Load (cs : List Call) (time unfinished next : ℕ) : Type 0 where
    late : time ≤ next
    soon : next < time + t.period
    window : (s n : ℕ) → s + n ≡ time → FreshTick m cs (suc j) s → Arrived cs s n unfinished next

  -- a call that lets no time pass
  load_kept : (c : Call) (cs : List Call) (unfinished unfinished' next : ℕ) → unfinished' ≤ unfinished → Load cs (after m cs).time unfinished next
      → Load (c ∷ cs) (after m cs).time unfinished' next
  load_kept c cs unfinished unfinished' next less before = record {
    late = before.late;
    soon = before.soon;
    window = λ s n ends rest.
        let w = before.window s n ends (fresh_past m c cs (suc j) s (omega arith) rest) in
        record { jobs = w.jobs; work = omega (arith, w.work, ran_past m c cs (suc j) s n (omega arith)); moved = w.moved };
  }

  module _ (c : Call) (cs : List Call) (unfinished next u u' v : ℕ) (before : Load cs (after m cs).time unfinished next)
      (arrives : Arrives t (after m cs).time unfinished next u v) (ready : ready_in (after m cs) (suc j) ≡ leb 1 u)
      (ran : cond (eqb (chosen (after m cs)) (suc j)) 1 0 + u' ≤ u) (passed : (after m (c ∷ cs)).time ≡ (after m cs).time + 1) where
    window_none : (s : ℕ) → s ≡ suc (after m cs).time → FreshTick m (c ∷ cs) (suc j) s → u ≡ 0
    window_none s ends rest =
        let here = subst (FreshTick m (c ∷ cs) (suc j)) ends rest in
        let found_Here = found_tick m c cs (omega arith) (after m cs).time refl in
        omega (arith, leb-false 1 u (sym ready ∙ ap (λ M. ready_in M (suc j)) (sym found_Here) ∙ here))

    later : (after m cs).time + 1 ≤ v
    later = ⊎_elim (λ yes'. omega (arith, yes', before.late, fit)) (λ none. omega (arith, none, before.late)) arrives

    window_more : (s n : ℕ) → s + n ≡ (after m cs).time + 1 → FreshTick m (c ∷ cs) (suc j) s → Arrived (c ∷ cs) s n u' v
    window_more s zero ends rest =
        let none = window_none s (omega arith) rest in
        record { jobs = 0; work = omega (arith, none, ran, zero-mul t.work); moved = omega (arith, later, zero-mul t.period) }
    window_more s (suc n) ends rest =
        let w = before.window s n (omega arith) (fresh_past m c cs (suc j) s (omega arith) rest) in
        let ran_before = ran_past m c cs (suc j) s n (omega arith) in
        let ran_now = ap {B = ℕ} (λ M. cond (eqb (chosen M) (suc j)) 1 0) (found_tick m c cs (omega arith) (s + n) (omega arith)) in
        ⊎_elim
        (λ yes'. record {
          jobs = suc w.jobs;
          work = omega (arith, w.work, ran_before, ran_now, ran, yes', suc-mul w.jobs t.work);
          moved = omega (arith, w.moved, yes', suc-mul w.jobs t.period);
        })
        (λ none. record {
          jobs = w.jobs;
          work = omega (arith, w.work, ran_before, ran_now, ran, none);
          moved = omega (arith, w.moved, none);
        })
        arrives

    load_tick : Load (c ∷ cs) ((after m cs).time + 1) u' v
    load_tick = record {
      late = later;
      soon = ⊎_elim (λ yes'. omega (arith, yes', before.soon)) (λ none. omega (arith, none, before.soon)) arrives;
      window = window_more;
    }

  window_start : (s n : ℕ) → s + n ≡ m.time → Arrived [] s n 0 t.first
  window_start s zero ends = record { jobs = 0; work = omega (arith, zero-mul t.work); moved = omega (arith, zero', zero-mul t.period) }
  window_start s (suc n) ends = absurd (omega (arith, zero'))

  load : (cs : List Call) → TaskAt (after m cs).rows j t (Load cs (after m cs).time)
  load [] = record {
    unfinished = 0;
    next = t.first;
    at = new;
    holds = record { late = omega (arith, zero'); soon = omega (arith, fit); window = λ s n ends rest. window_start s n ends };
  }
  load (c ∷ cs) =
      let before = load cs in
      let now = task_cases (after m cs) j t before.unfinished before.next before.at
      (λ time u v made. (after m (c ∷ cs)).time ≡ time → Load (c ∷ cs) time u v)
      (λ _. load_kept c cs _ _ _ (omega arith) before.holds)
      (λ some _. load_kept c cs before.unfinished 0 _ (omega arith) before.holds)
      (λ u v arrives ready own some passed. load_tick c cs _ _ u (u - 1) v before.holds arrives ready
      (omega (arith, cond-true {A = ℕ} (eqb (chosen (after m cs)) (suc j)) 1 0 (eq-eqb _ _ own))) passed)
      (λ u v arrives ready other passed. load_tick c cs _ _ u u v before.holds arrives ready
      (omega (arith, cond-false {A = ℕ} (eqb (chosen (after m cs)) (suc j)) 1 0 (ne_eqb _ _ other))) passed)
      c in
      record { unfinished = now.unfinished; next = now.next; at = now.at; holds = now.holds refl }

  -- a window that ends now
  bounded_now : (cs : List Call) (s n : ℕ) → s + n ≡ (after m cs).time → FreshTick m cs (suc j) s → ran_ticks m cs (suc j) s n ≤ share k n (Task t)
  bounded_now cs s n ends rest =
      let here = load cs in
      let w = here.holds.window s n ends rest in
      let few : w.jobs ≤ ceil_div n t.period =
      (le-div_iff_mul-le {k = t.period} {x = w.jobs} {y = n + (t.period - 1)} (omega (arith, fit))).1 (omega (arith, w.moved, here.holds.soon)) in
      omega (arith, w.work, mul-le-mul_right t.work few)

  pub task_bounded : (cs : List Call) (s n : ℕ) → s + n ≤ (after m cs).time → FreshTick m cs (suc j) s → ran_ticks m cs (suc j) s n ≤ share k n (Task t)
  task_bounded [] s n within rest = bounded_now [] s n (omega (arith, zero')) rest
  task_bounded (c ∷ cs) s n within rest =
      ⊎_elim
      (λ (less : s + n < (after m (c ∷ cs)).time).
      let inside : s + n ≤ (after m cs).time = omega (arith, time_step m c cs) in
      omega (arith, ran_past m c cs (suc j) s n inside, task_bounded cs s n inside (fresh_past m c cs (suc j) s (omega arith) rest)))
      (λ (now : (after m (c ∷ cs)).time ≤ s + n). bounded_now (c ∷ cs) s n (omega arith) rest)
      (cases_lt (s + n) (after m (c ∷ cs)).time)
