-- The jobs of a line that passes end in order, each within the response time.
use Rattle.std.proofs.Common.{◌≡◌, ℕ, zero, suc, ◌+◌, ◌<◌, ◌≤◌, List, [], ◌∷◌, ◌++◌, length, Some, sym, refl, subst, inl, ⊎_elim, append-nil, mul-le-mul_right, zero-mul, arith}
use Rattle.std.specs.List.{slice_get}
use Rattle.std.proofs.lemmas.List.Elements.{filter-append}
use Rattle.std.proofs.lemmas.Bool.{cases_lt}
use Rattle.server.specs.Kind.{Kind}
use Rattle.plan.specs.Records.{Fit}
use Rattle.plan.specs.declared.line.Line.TheVariants.{Task}
use Rattle.plan.specs.declared.line.Task as plan_task
use Rattle.run.specs.Machine.{Machine}
use Rattle.run.specs.Promises.{of_jobs_at, arrival, Ends}
use Rattle.run.specs.Rows.{task}
use Rattle.run.specs.Tries.{Call, Made, after, made_at}
use Rattle.run.proofs.JobSteps.{Near, Going, Enough, not_late, opens, keeps, ends_early, runs_on, waits_on}
use Rattle.run.proofs.Places.{none_not}
use Rattle.run.proofs.TaskSteps.{TaskAt, task_cases}

-- a list that is long enough has an element at place j
some_at : {A : Type 0} (xs : List A) (j : ℕ) → j < length xs → (x : A) × (slice_get xs j ≡ Some x)
some_at [] j lt = absurd (omega arith)
some_at (x ∷ xs) zero lt = (x, refl)
some_at (x ∷ xs) (suc j) lt = some_at xs j (omega arith)

-- the task t is on line i + 1 of the state m at time 0, before its first arrival
module _ {k : Kind} (m : Machine k) (i : ℕ) (t : plan_task.Task) (w : ℕ) (fit : Fit (Task t)) (short : w ≤ t.deadline) (enough : Enough m i t w)
    (zero' : m.time ≡ 0) (new : slice_get m.rows i ≡ Some (task t 0 t.first)) where
  -- what holds of the row of the task after any calls
  abbrev Kept : List Call → ℕ → ℕ → Type 0
  Kept cs u v = Near m i t w (after m cs).time v × Going m i t w cs (after m cs).time u v (of_jobs_at (suc i) (made_at m cs))

  kept : (cs : List Call) → TaskAt (after m cs).rows i t (Kept cs)
  kept [] = record {
    unfinished = 0;
    next = t.first;
    at = new;
    holds = (
      (omega (arith, zero'), omega (arith, zero', fit)),
      record { in_order = λ j x at. absurd (none_not at); state = inl (refl, omega (arith, zero-mul t.period)) },
    );
  }
  kept (c ∷ cs) =
      let before = kept cs in
      let ends = of_jobs_at (suc i) (made_at m cs) in
      let near = before.holds.0 in
      let going = before.holds.1 in
      let now = task_cases (after m cs) i t before.unfinished before.next before.at
      (λ time u v new. (after m (c ∷ cs)).time ≡ time → Near m i t w time v × Going m i t w (c ∷ cs) time u v (ends ++ new))
      (λ _. (near, rw (append-nil ends) (keeps m i t w fit short enough c cs _ _ ends going)))
      (λ some _. (near, ends_early m i t w fit short enough c cs _ _ ends going some))
      (λ u v arrives ready own some passed.
      let open' = opens m i t w fit short enough cs _ _ u v ends near going arrives in
      (open'.0, runs_on m i t w fit short enough c cs u v ends open'.1 passed some))
      (λ u v arrives ready other passed.
      let open' = opens m i t w fit short enough cs _ _ u v ends near going arrives in
      (open'.0, rw (append-nil ends) (waits_on m i t w fit short enough c cs u v ends open'.1 passed ready other)))
      c in
      record {
        unfinished = now.unfinished;
        next = now.next;
        at = now.at;
        holds = (
          (now.holds refl).0,
          subst (Going m i t w (c ∷ cs) (after m (c ∷ cs)).time now.unfinished now.next) (sym (filter-append _ (made_at m cs) _)) (now.holds refl).1,
        );
      }

  pub in_order : (cs : List Call) (j : ℕ) (x : Made) → slice_get (of_jobs_at (suc i) (made_at m cs)) j ≡ Some x → Ends (arrival t j) w x
  in_order cs = (kept cs).holds.1.in_order

  -- were its completion not made yet, job j would not have arrived, or would be late
  pub job_ends : (cs : List Call) (j : ℕ) → 1 ≤ w → arrival t j + w ≤ (after m cs).time
      → (x : Made) × (slice_get (of_jobs_at (suc i) (made_at m cs)) j ≡ Some x) × Ends (arrival t j) w x
  job_ends cs j some passed =
      ⊎_elim
      (λ (made' : j < length ends). let x = some_at ends j made' in (x.0, x.1, in_order cs j x.0 x.1))
      (λ (none : length ends ≤ j).
      let before = mul-le-mul_right t.period none in
      absurd (⊎_elim
      (λ idle. omega (arith, idle, here.holds.0, before))
      (λ a. omega (arith, not_late m i t w fit short enough cs _ _ _ a, a.since, before))
      here.holds.1.state))
      (cases_lt j (length ends))
    where
      here : TaskAt (after m cs).rows i t (Kept cs)
      here = kept cs

      ends : List Made
      ends = of_jobs_at (suc i) (made_at m cs)
