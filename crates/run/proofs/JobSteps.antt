-- A job of a line that passes runs in each tick in which no line above does, and so ends in time.
use Rattle.std.proofs.Common.{◌≡◌, ℕ, zero, suc, ◌+◌, ◌-◌, ◌*◌, ◌<◌, ◌≤◌, Bool, true, false, cond, not, eqb, leb, ◌⊎◌, List, [], ◌∷◌, ◌++◌, length, Some, refl, ap, ◌∙◌, subst, inl, inr, ⊎_elim, append-nil, suc-mul, arith}
use Rattle.std.specs.List.{slice_get}
use Rattle.std.proofs.lemmas.List.{length_push}
use Rattle.std.proofs.lemmas.Bool.{cases_eq, cond-true, cond-false, eq-eqb, ne_eqb, le-leb}
use Rattle.server.specs.Kind.{Kind}
use Rattle.plan.specs.Records.{Fit}
use Rattle.plan.specs.declared.line.Line.TheVariants.{Task}
use Rattle.plan.specs.declared.line.Task as plan_task
use Rattle.run.specs.Machine.{Machine, chosen, job_end}
use Rattle.run.specs.Promises.{arrival, Ends}
use Rattle.run.specs.Tries.{Call, Made, timed, after, ready_in}
use Rattle.run.proofs.Busy.{one_of}
use Rattle.run.proofs.Idle.{free, free_past, free_tick, not_free, began_less}
use Rattle.run.proofs.Places.{some_same, none_not}
use Rattle.run.proofs.TaskSteps.{Arrives}
use Rattle.run.proofs.Windows.{at_most}

-- what holds of each element at its place, and of one more at the end
each_push : {A : Type 0} (P : ℕ → A → Type 0) (xs : List A) (y : A) → ((j : ℕ) (x : A) → slice_get xs j ≡ Some x → P j x) → P (length xs) y
    → (j : ℕ) (x : A) → slice_get (xs ++ (y ∷ [])) j ≡ Some x → P j x
each_push P [] y each last zero x at = subst (P 0) (some_same at) last
each_push P [] y each last (suc j) x at = absurd (none_not at)
each_push P (z ∷ xs) y each last zero x at = each 0 x at
each_push P (z ∷ xs) y each last (suc j) x at = each_push (λ n. P (suc n)) xs y (λ n. each (suc n)) last j x at

module _ {k : Kind} (m : Machine k) (i : ℕ) (t : plan_task.Task) (w : ℕ) where
  -- a job that arrived at time `from`, d ticks ago, is not done: what is left and what it ran make up its work
  pub record Active (cs : List Call) (time unfinished next from : ℕ) : Type 0 where
    pub d : ℕ
    pub some : 1 ≤ unfinished
    pub period : from + t.period ≡ next
    pub since : from + d ≡ time
    pub left : unfinished + free m cs i from d ≤ t.work

  -- each job that has arrived has its completion, in the order of the jobs, but for the last one where that is not done
  pub record Going (cs : List Call) (time unfinished next : ℕ) (ends : List Made) : Type 0 where
    pub in_order : (j : ℕ) (x : Made) → slice_get ends j ≡ Some x → Ends (arrival t j) w x
    pub state : ((unfinished ≡ 0) × (next ≡ arrival t (length ends))) ⊎ Active cs time unfinished next (arrival t (length ends))

  abbrev pub Near : ℕ → ℕ → Type 0
  Near time next = (time ≤ next) × (next < time + t.period)

  -- any w ticks of the past have enough that are free
  abbrev pub Enough : Type 0
  Enough = (cs : List Call) (s : ℕ) → s + w ≤ (after m cs).time → t.work ≤ free m cs i s w

  module _ (fit : Fit (Task t)) (short : w ≤ t.deadline) (enough : Enough) where
    -- a job that is not done has arrived less than w ticks ago
    pub not_late : (cs : List Call) (unfinished next from : ℕ) (a : Active cs (after m cs).time unfinished next from) → a.d < w
    not_late cs unfinished next from a = began_less m cs i from a.d w unfinished t.work (enough cs from) a.since a.some a.left

    -- the start of a tick
    pub opens : (cs : List Call) (unfinished next u v : ℕ) (ends : List Made) → Near (after m cs).time next
        → Going cs (after m cs).time unfinished next ends → Arrives t (after m cs).time unfinished next u v
        → Near ((after m cs).time + 1) v × Going cs (after m cs).time u v ends
    opens cs unfinished next u v ends near going (inl (now, more, moved)) =
        let ended : (unfinished ≡ 0) × (next ≡ arrival t (length ends)) =
        ⊎_elim (λ idle. idle) (λ a. absurd (omega (arith, not_late cs _ _ _ a, a.period, a.since, fit, now))) going.state in (
          (omega (arith, fit), omega arith),
          record {
            in_order = going.in_order;
            state = inr (record {
              d = 0;
              some = omega (arith, fit);
              period = omega (arith, ended);
              since = omega (arith, ended);
              left = omega (arith, ended);
            });
          },
        )
    opens cs unfinished next u v ends near going (inr (not_now, same, still)) =
        ((omega (arith, near), omega (arith, near)), rw (same, still) going)

    -- a call that lets no time pass
    pub keeps : (c : Call) (cs : List Call) (unfinished next : ℕ) (ends : List Made) → Going cs (after m cs).time unfinished next ends
        → Going (c ∷ cs) (after m cs).time unfinished next ends
    keeps c cs unfinished next ends going = record {
      in_order = going.in_order;
      state = ⊎_elim inl
          (λ a. inr (record {
            d = a.d;
            some = a.some;
            period = a.period;
            since = a.since;
            left = omega (arith, a.left, free_past m c cs i (arrival t (length ends)) a.d (omega (arith, a.since)));
          }))
          going.state;
    }

    module _ (c : Call) (cs : List Call) (u v : ℕ) (ends : List Made) (going : Going cs (after m cs).time u v ends) where
      abbrev Acting : Type 0
      Acting = Active cs (after m cs).time u v (arrival t (length ends))

      -- its job ends, now or with this tick
      completes : Acting → (end : ℕ) (early : Bool) → (after m cs).time ≤ end → end ≤ (after m cs).time + 1
          → Going (c ∷ cs) end 0 v (ends ++ timed end (job_end (suc i) t.period v end early ∷ []))
      completes a end early past soon =
          let x : Made = record { completion = job_end (suc i) t.period v end early; time = end } in
          record {
            in_order = each_push (λ j. Ends (arrival t j) w) ends x going.in_order
                (omega (arith, a.period, a.since), omega (arith, not_late cs _ _ _ a, a.period, a.since));
            state = inl (refl, omega (arith, a.period, ap (λ n. n * t.period) (length_push ends x), suc-mul (length ends) t.period));
          }

      -- its job is ended early
      pub ends_early : 1 ≤ u
          → Going (c ∷ cs) (after m cs).time 0 v (ends ++ timed (after m cs).time (job_end (suc i) t.period v (after m cs).time true ∷ []))
      ends_early some =
          ⊎_elim (λ idle. absurd (omega (arith, idle))) (λ a. completes a (after m cs).time true (omega arith) (omega arith)) going.state

      module _ (passed : (after m (c ∷ cs)).time ≡ (after m cs).time + 1) where
        -- the job goes on, with what is left and the free ticks so far adding up to no more than before
        goes_on : (u' : ℕ) → 1 ≤ u' → Acting → u' + cond (not (one_of i (chosen (after m cs)))) 1 0 ≤ u
            → Going (c ∷ cs) ((after m cs).time + 1) u' v ends
        goes_on u' some a less = record {
          in_order = going.in_order;
          state = inr (record {
            d = suc a.d;
            some = some;
            period = a.period;
            since = omega (arith, a.since);
            left = omega (arith, a.left, less, free_tick m c cs i (arrival t (length ends)) a.d a.since passed);
          });
        }

        pub waits_on : ready_in (after m cs) (suc i) ≡ leb 1 u → (chosen (after m cs) ≡ suc i → ⊥) → Going (c ∷ cs) ((after m cs).time + 1) u v ends
        waits_on ready other =
            ⊎_elim
            (λ idle. record { in_order = going.in_order; state = inl idle })
            (λ a. goes_on u a.some a (omega (arith, not_free (after m cs) i (ready ∙ le-leb 1 u a.some) other)))
            going.state

        -- the job ran in this tick, and ended where 1 was left
        abbrev Ran : Type 0
        Ran =
            Going (c ∷ cs) ((after m cs).time + 1) (u - 1) v
            (ends ++ timed ((after m cs).time + 1) (cond (eqb u 1) (job_end (suc i) t.period v ((after m cs).time + 1) false ∷ []) []))

        runs_last : Acting → u ≡ 1 → Ran
        runs_last a one =
            let last = eq-eqb u 1 one in
            let none : u - 1 ≡ 0 = omega arith in
            rw (none, cond-true) (completes a ((after m cs).time + 1) false (omega arith) (omega arith))

        runs_more : Acting → (u ≡ 1 → ⊥) → Ran
        runs_more a many =
            let more = ne_eqb u 1 many in
            rw (cond-false, append-nil)
            (goes_on (u - 1) (omega (arith, a.some)) a (omega (arith, a.some, at_most (not (one_of i (chosen (after m cs)))))))

        pub runs_on : 1 ≤ u → Ran
        runs_on some = ⊎_elim (λ idle. absurd (omega (arith, idle))) (λ a. ⊎_elim (runs_last a) (runs_more a) (cases_eq u 1)) going.state
