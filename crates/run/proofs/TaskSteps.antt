-- What a call does to the row of a task, and the completions of its jobs that it makes.
use Rattle.std.proofs.Common.{◌≡◌, ℕ, suc, ◌+◌, ◌-◌, ◌≤◌, true, false, cond, eqb, leb, ◌⊎◌, List, [], ◌∷◌, set, Some, sym, refl, ap, ◌∙◌, subst, inl, inr, ⊎_elim, arith}
use Rattle.std.specs.List.{slice_get}
use Rattle.std.proofs.lemmas.Bool.{cases_Bool, cases_eq, cond-true, cond-false, eq-eqb, ne_eqb, eqb-true, eqb-false, leb-true}
use Rattle.server.specs.Kind.{Kind}
use Rattle.plan.specs.declared.line.Task as plan_task
use Rattle.run.specs.declared.items.Completion.{Completion}
use Rattle.run.specs.Machine.{Machine, job_end, row_ends, row_of, opened_rows, chosen, advanced, tick_ends}
use Rattle.run.specs.Promises.{of_jobs_at}
use Rattle.run.specs.Rows.{Row, task, opened, shut, is_ready}
use Rattle.run.specs.Tries.{Call, Made, timed, tried, makes, ready_in}
use Rattle.run.proofs.Calls.{call_cases}
use Rattle.run.proofs.Ends.{tick_ends_line, jobs_none, jobs_own, jobs_own_if}
use Rattle.run.proofs.Choosing.{chosen_ready}
use Rattle.run.proofs.Places.{some_same, row_of_is, row_place, opened_at, advanced_at, ready_at, set_at, set_other}

-- the work left and the next arrival after the start of a tick: a job arrives, or none does
abbrev pub Arrives : plan_task.Task → (time unfinished next unfinished' next' : ℕ) → Type 0
Arrives t time unfinished next unfinished' next' =
    ((next ≡ time) × (unfinished' ≡ unfinished + t.work) × (next' ≡ next + t.period))
    ⊎ ((next ≡ time → ⊥) × (unfinished' ≡ unfinished) × (next' ≡ next))

-- the row at place n is that of the task t, and its work left and next arrival are as said
pub record TaskAt {k : Kind} (rows : List (Row k)) (n : ℕ) (t : plan_task.Task) (Q : ℕ → ℕ → Type 0) : Type 0 where
  pub unfinished : ℕ
  pub next : ℕ
  pub at : slice_get rows n ≡ Some (task t unfinished next)
  pub holds : Q unfinished next

module _ {k : Kind} (m : Machine k) (n : ℕ) (t : plan_task.Task) (unfinished next : ℕ) where
  -- the row after the start of the tick
  pub record Opened : Type 0 where
    pub unfinished' : ℕ
    pub next' : ℕ
    pub is : opened {k = k} m.time m.waiting (suc n) (task t unfinished next) ≡ task t unfinished' next'
    pub arrives : Arrives t m.time unfinished next unfinished' next'

  opened_row : Opened
  opened_row =
      ⊎_elim
      (λ (yes' : eqb next m.time ≡ true). record {
        unfinished' = unfinished + t.work;
        next' = next + t.period;
        is = cond-true (eqb next m.time) _ _ yes';
        arrives = inl (eqb-true next m.time yes', refl, refl);
      })
      (λ (none : eqb next m.time ≡ false). record {
        unfinished' = unfinished;
        next' = next;
        is = cond-false (eqb next m.time) _ _ none;
        arrives = inr (eqb-false next m.time none, refl, refl);
      })
      (cases_Bool (eqb next m.time))

  module _ (at : slice_get m.rows n ≡ Some (task t unfinished next)) (Q : ℕ → ℕ → ℕ → List Made → Type 0)
      (same : Q m.time unfinished next [])
      (ended : 1 ≤ unfinished → Q m.time 0 next (timed m.time (job_end (suc n) t.period next m.time true ∷ [])))
      (ran : (unfinished' next' : ℕ) → Arrives t m.time unfinished next unfinished' next' → ready_in m (suc n) ≡ leb 1 unfinished'
      → chosen m ≡ suc n → 1 ≤ unfinished'
      → Q (m.time + 1) (unfinished' - 1) next'
      (timed (m.time + 1) (cond (eqb unfinished' 1) (job_end (suc n) t.period next' (m.time + 1) false ∷ []) [])))
      (waited : (unfinished' next' : ℕ) → Arrives t m.time unfinished next unfinished' next' → ready_in m (suc n) ≡ leb 1 unfinished'
      → (chosen m ≡ suc n → ⊥) → Q (m.time + 1) unfinished' next' []) where
    -- what a call leaves
    abbrev Left : ℕ → List (Row k) → List Completion → Type 0
    Left time rows made = TaskAt rows n t (λ unfinished' next'. Q time unfinished' next' (of_jobs_at (suc n) (timed time made)))

    ticks : Left (m.time + 1) (advanced m).rows (tick_ends m)
    ticks =
        ⊎_elim
        (λ (own : chosen m ≡ suc n).
        let some : 1 ≤ u = leb-true 1 u (sym ready ∙ chosen_ready m n own) in
        let made : tick_ends m ≡ cond (eqb u 1) (job_end (suc n) t.period v (m.time + 1) false ∷ []) [] =
        ap (λ c. row_ends (m.time + 1) m.waiting c (row_of (opened_rows m) c)) own
        ∙ ap (row_ends (m.time + 1) m.waiting (suc n)) (row_of_is (opened_rows m) n ∙ there) in
        record {
          unfinished = u - 1;
          next = v;
          at = shut_row ∙ ap (λ x. Some (task t x v)) (cond-true (eqb (suc n) (chosen m)) _ _ (eq-eqb (suc n) (chosen m) (sym own)));
          holds = subst (Q (m.time + 1) (u - 1) v) (sym (ap (λ xs. of_jobs_at (suc n) (timed (m.time + 1) xs)) made ∙ jobs_own_if (eqb u 1) (suc n) t.period v (m.time + 1)))
              (ran u v o.arrives ready own some);
        })
        (λ (other : chosen m ≡ suc n → ⊥). record {
          unfinished = u;
          next = v;
          at = shut_row ∙ ap (λ x. Some (task t x v)) (cond-false (eqb (suc n) (chosen m)) _ _ (ne_eqb (suc n) (chosen m) (λ e. other (sym e))));
          holds = subst (Q (m.time + 1) u v) (sym (jobs_none (suc n) (chosen m) (m.time + 1) (tick_ends m) other (tick_ends_line m)))
              (waited u v o.arrives ready other);
        })
        (cases_eq (chosen m) (suc n))
      where
        o : Opened
        o = opened_row

        u : ℕ
        u = o.unfinished'

        v : ℕ
        v = o.next'

        there : slice_get (opened_rows m) n ≡ Some (task t u v)
        there = opened_at m n (task t unfinished next) at ∙ ap Some o.is

        shut_row : slice_get (advanced m).rows n ≡ Some (shut (chosen m) (suc n) (task t u v))
        shut_row = advanced_at m n (task t unfinished next) at ∙ ap (λ r. Some (shut (chosen m) (suc n) r)) o.is

        ready : ready_in m (suc n) ≡ leb 1 u
        ready = ready_at m n (task t unfinished next) at ∙ ap (is_ready m.waiting (suc n)) o.is

    ends_at : (p line : ℕ) (t' : plan_task.Task) (left next' : ℕ) → line ≡ suc p → slice_get m.rows p ≡ Some (task t' left next') → 1 ≤ left
        → Left m.time (set m.rows (line - 1) (task t' 0 next')) (job_end line t'.period next' m.time true ∷ [])
    ends_at p line t' left next' line' there some =
        let place : line - 1 ≡ p = omega arith in
        ⊎_elim
        (λ (own : n ≡ p).
        let row : ◌≡◌ {A = Row k} (task t' left next') (task t unfinished next) = some_same (sym there ∙ ap (slice_get m.rows) (sym own) ∙ at) in
        let t_same : t' ≡ t = cc in
        let left_same : left ≡ unfinished = cc in
        let next_same : next' ≡ next = cc in
        let line_same : line ≡ suc n = line' ∙ ap suc (sym own) in
        let place' : line - 1 ≡ n = omega arith in
        rw (place', line_same, t_same, next_same)
        (record {
          unfinished = 0;
          next = next;
          at = set_at m.rows n (task t unfinished next) (task t 0 next) at;
          holds = subst (Q m.time 0 next) (sym (jobs_own (suc n) t.period next m.time true)) (ended (omega arith));
        }))
        (λ (other : n ≡ p → ⊥). record {
          unfinished = unfinished;
          next = next;
          at = ap (λ q. slice_get (set m.rows q (task t' 0 next')) n) place ∙ set_other m.rows n p (task t' 0 next') other ∙ at;
          holds = subst (Q m.time unfinished next)
              (sym (jobs_none (suc n) line m.time (job_end line t'.period next' m.time true ∷ []) (λ e. other (omega arith)) (refl, tt))) same;
        })
        (cases_eq n p)

    ends : (line : ℕ) (t' : plan_task.Task) (left next' : ℕ) → row_of m.rows line ≡ Some (task t' left next') → 1 ≤ left
        → Left m.time (set m.rows (line - 1) (task t' 0 next')) (job_end line t'.period next' m.time true ∷ [])
    ends line t' left next' is some =
        let at_place = row_place m.rows line (task t' left next') is in
        ends_at at_place.0 line t' left next' at_place.1 at_place.2 some

    pub task_cases : (c : Call)
        → TaskAt (tried c m).rows n t (λ unfinished' next'. Q (tried c m).time unfinished' next' (of_jobs_at (suc n) (timed (tried c m).time (makes c m))))
    task_cases c =
        let kept : Left m.time m.rows [] = record { unfinished = unfinished; next = next; at = at; holds = same } in
        call_cases m (λ time rows waiting made. Left time rows made) kept ticks (λ r. kept) ends c
