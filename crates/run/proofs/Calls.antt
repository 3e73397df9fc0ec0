-- What a call can do to the time, the rows, the requests and the completions made; and that the past of a run stays.
use Rattle.std.proofs.Common.{◌≡◌, ℕ, ◌+◌, ◌-◌, ◌<◌, ◌≤◌, Bool, true, false, cond, ◌||◌, eqb, ltb, leb, List, [], ◌∷◌, ◌++◌, set, Some, None, Option, refl, arith}
use Rattle.std.proofs.lemmas.Bool.{cond-true, cond-false, le-leb, lt-leb, eqb-false}
use Rattle.server.specs.Kind.{Kind}
use Rattle.plan.specs.declared.line.Task as plan_task
use Rattle.run.specs.declared.items.Completion.{Completion}
use Rattle.run.specs.declared.items.Request.{Request}
use Rattle.run.specs.Machine.{Machine, Outcome, unless, advanced, tick_ends, job_end, row_of, is_server_row, full_of_completions, full_of_requests, finished_row, ticked, offered, finished, fetched}
use Rattle.run.specs.Replies.{refused}
use Rattle.run.specs.Rows.{Row, task, server}
use Rattle.run.specs.Tries.{Call, tick, offer, finish, fetch, ask, is_done, tried, makes, row_finish, after, found}

-- a refusal, or the rest where the test fails
pub unless_cases : {k : Kind} {A : Type 0} (Q : Outcome k A → Type 0) (m : Machine k) (b : Bool) (number : ℕ) (rest : Outcome k A)
    → Q (refused number, m) → (b ≡ false → Q rest) → Q (unless b number m rest)
unless_cases Q m true number rest no' yes' = no'
unless_cases Q m false number rest no' yes' = yes' refl

-- a call leaves all of these as they were, or is a tick, an offer, or the early end of a job
module _ {k : Kind} (m : Machine k) (P : ℕ → List (Row k) → List Request → List Completion → Type 0)
    (same : P m.time m.rows m.waiting [])
    (ticks : P (m.time + 1) (advanced m).rows (advanced m).waiting (tick_ends m))
    (offers : (r : Request) → P m.time m.rows (m.waiting ++ (r ∷ [])) [])
    (ends : (line : ℕ) (t : plan_task.Task) (unfinished next : ℕ) → row_of m.rows line ≡ Some (task t unfinished next) → 1 ≤ unfinished
    → P m.time (set m.rows (line - 1) (task t 0 next)) m.waiting (job_end line t.period next m.time true ∷ [])) where
  -- it holds of the state that an outcome leaves, with the completions made where it is granted
  abbrev left : {A : Type 0} → List Completion → Outcome k A → Type 0
  left made o = P o.1.time o.1.rows o.1.waiting (cond (is_done o.0) made [])

  abbrev kept : {A : Type 0} → Outcome k A → Type 0
  kept o = P o.1.time o.1.rows o.1.waiting []

  finish_cases : (line : ℕ) (r : Option (Row k)) → row_of m.rows line ≡ r → left (row_finish m.time line r) (finished_row line m r)
  finish_cases line None is = same
  finish_cases line (Some (server t state)) is = same
  finish_cases line (Some (task t unfinished next)) is =
      let ended : List Completion = job_end line t.period next m.time true ∷ [] in
      unless_cases (left ended) m (full_of_completions m) 15 _ same
      (λ room. unless_cases (left ended) m (eqb unfinished 0) 17 _ same
      (λ some. ends line t unfinished next is (grind (arith, eqb-false unfinished 0 some))))

  pub call_cases : (c : Call) → P (tried c m).time (tried c m).rows (tried c m).waiting (makes c m)
  unfolding ticked offered finished fetched
  call_cases tick =
      unless_cases (left (tick_ends m)) m (full_of_completions m) 15 _ same
      (λ room. unless_cases (left (tick_ends m)) m (leb 1000000000 m.time) 16 _ same (λ early. ticks))
  call_cases (offer line amount) =
      unless_cases kept m (cond (is_server_row (row_of m.rows line)) false true) 7 _ same
      (λ line'. unless_cases kept m (eqb amount 0 || ltb 65535 amount) 8 _ same
      (λ amount'. unless_cases kept m (full_of_requests m) 14 _ same (λ room. offers _)))
  call_cases (finish line) = finish_cases line (row_of m.rows line) refl
  call_cases fetch = same
  call_cases (ask line) = same

module _ {k : Kind} where
  -- time never falls
  pub time_rises : (m : Machine k) (c : Call) → m.time ≤ (tried c m).time
  time_rises m c =
      call_cases m (λ time rows waiting made. m.time ≤ time) (omega arith) (omega arith) (λ r. omega arith)
      (λ line t unfinished next is some. omega arith) c

  -- a tick still to come finds the state as it is now
  pub found_now : (m : Machine k) (cs : List Call) (u : ℕ) → (after m cs).time ≤ u → found m cs u ≡ after m cs
  found_now m [] u le = refl
  found_now m (c ∷ cs) u le = cond-true _ _ _ (le-leb _ _ le)

  -- a tick of the past found what it found
  pub found_past : (m : Machine k) (c : Call) (cs : List Call) (u : ℕ) → u < (after m cs).time → found m (c ∷ cs) u ≡ found m cs u
  found_past m c cs u lt = cond-false _ _ _ (lt-leb (tried c (after m cs)).time u (omega (arith, time_rises (after m cs) c)))
