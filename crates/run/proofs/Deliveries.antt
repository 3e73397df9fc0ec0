-- Every completion made has been fetched, or still waits in the queue.
use Rattle.std.proofs.Common.{◌≡◌, ℕ, true, false, cond, ◌||◌, eqb, ltb, leb, List, [], ◌∷◌, ◌++◌, drop, Some, None, Option, sym, refl, ◌∙◌, append_assoc, append-nil}
use Rattle.std.specs.List.{slice_get}
use Rattle.server.specs.Kind.{Kind}
use Rattle.run.specs.declared.items.Completion.{Completion}
use Rattle.run.specs.Answers.{listed}
use Rattle.run.specs.Machine.{Machine, Outcome, tick_ends, job_end, row_of, is_server_row, full_of_completions, full_of_requests, finished_row, ticked, offered, finished, fetched}
use Rattle.run.specs.Promises.{Delivered}
use Rattle.run.specs.Rows.{Row, task, server}
use Rattle.run.specs.Tries.{Call, tick, offer, finish, fetch, ask, is_done, tried, makes, hands, row_finish, after}
use Rattle.run.proofs.Calls.{unless_cases}

-- the oldest, and the rest
split : (xs : List Completion) → listed (slice_get xs 0) ++ drop 1 xs ≡ xs
split [] = refl
split (x ∷ xs) = refl

module _ {k : Kind} (m : Machine k) where
  -- the queue that an outcome leaves: what was made stands behind what waited
  abbrev Queued : {A : Type 0} → List Completion → Outcome k A → Type 0
  Queued ends o = o.1.completed ≡ m.completed ++ cond (is_done o.0) ends []

  abbrev Kept : {A : Type 0} → Outcome k A → Type 0
  Kept o = o.1.completed ≡ m.completed ++ []

  same : m.completed ≡ m.completed ++ []
  same = sym (append-nil m.completed)

  finish_queues : (line : ℕ) (r : Option (Row k)) → Queued (row_finish m.time line r) (finished_row line m r)
  finish_queues line None = same
  finish_queues line (Some (server t state)) = same
  finish_queues line (Some (task t unfinished next)) =
      let ended : List Completion = job_end line t.period next m.time true ∷ [] in
      unless_cases (Queued ended) m (full_of_completions m) 15 _ same
      (λ room. unless_cases (Queued ended) m (eqb unfinished 0) 17 _ same (λ some. refl))

  -- what a call hands out is the front of the queue, and what it makes goes to its end
  call_queues : (c : Call) → hands c m ++ (tried c m).completed ≡ m.completed ++ makes c m
  unfolding ticked offered finished fetched
  call_queues tick =
      unless_cases (Queued (tick_ends m)) m (full_of_completions m) 15 _ same
      (λ room. unless_cases (Queued (tick_ends m)) m (leb 1000000000 m.time) 16 _ same (λ early. refl))
  call_queues (offer line amount) =
      unless_cases Kept m (cond (is_server_row (row_of m.rows line)) false true) 7 _ same
      (λ line'. unless_cases Kept m (eqb amount 0 || ltb 65535 amount) 8 _ same
      (λ amount'. unless_cases Kept m (full_of_requests m) 14 _ same (λ room. same)))
  call_queues (finish line) = finish_queues line (row_of m.rows line)
  call_queues fetch = split m.completed ∙ same
  call_queues (ask line) = same

-- of a run that began with no completions
pub delivered : {k : Kind} (m : Machine k) → m.completed ≡ [] → (cs : List Call) → Delivered m cs
delivered m none [] = none
delivered m none (c ∷ cs) =
    rw (append_assoc, call_queues (after m cs) c, ← append_assoc, delivered m none cs)
