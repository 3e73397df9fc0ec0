-- Runs as lists of calls tried, the latest first, granted or refused.
use Rattle.std.specs.Prelude.{ℕ, zero, suc, ◌+◌, Bool, true, false, cond, List, [], ◌∷◌, ◌++◌, map, Some, None, Option, ◌==◌, nat_le}
use Rattle.server.specs.Kind.{Kind}
use Rattle.run.specs.declared.items.Completion.{Completion}
use Rattle.run.specs.declared.items.Request.{Request}
use Rattle.run.specs.Answers.{listed}
use Rattle.run.specs.Machine.{Machine, opened_rows, chosen, row_of, tick_ends, job_end, ticked, offered, finished, fetched}
use Rattle.run.specs.Replies.{Reply, done, refused}
use Rattle.run.specs.Rows.{Row, task, server, is_ready}

pub data Call : Type 0 where
  tick : Call
  offer : (line amount : ℕ) → Call
  finish : (line : ℕ) → Call
  fetch : Call
  ask : (line : ℕ) → Call

-- a completion, and the time at which it was made: the time after the call that made it
pub record Made : Type 0 where
  pub completion : Completion
  pub time : ℕ

abbrev pub timed : ℕ → List Completion → List Made
timed time xs = map (λ x. record { completion = x; time = time }) xs

abbrev pub is_done : {A : Type 0} → Reply A → Bool
is_done (done x) = true
is_done (refused number) = false

module _ {k : Kind} where
  -- the state that a call leaves
  abbrev pub tried : Call → Machine k → Machine k
  tried tick m = (ticked m).1
  tried (offer line amount) m = (offered line amount m).1
  tried (finish line) m = (finished line m).1
  tried fetch m = (fetched m).1
  tried (ask line) m = m

  abbrev pub row_finish : ℕ → ℕ → Option (Row k) → List Completion
  row_finish time line None = []
  row_finish time line (Some (server t state)) = []
  row_finish time line (Some (task t unfinished next)) = job_end line t.period next time true ∷ []

  -- the completions that a call makes
  abbrev pub makes : Call → Machine k → List Completion
  makes tick m = cond (is_done (ticked m).0) (tick_ends m) []
  makes (offer line amount) m = []
  makes (finish line) m = cond (is_done (finished line m).0) (row_finish m.time line (row_of m.rows line)) []
  makes fetch m = []
  makes (ask line) m = []

  -- the completions that a call hands out: what a fetch answers, if anything
  abbrev pub hands : Call → Machine k → List Completion
  hands tick m = []
  hands (offer line amount) m = []
  hands (finish line) m = []
  hands fetch m = listed (fetched m).0
  hands (ask line) m = []

  -- the state after all calls
  abbrev pub after : Machine k → List Call → Machine k
  after m [] = m
  after m (c ∷ cs) = tried c (after m cs)

  -- all completions made, in the order in which they were made
  abbrev pub made : Machine k → List Call → List Completion
  made m [] = []
  made m (c ∷ cs) = made m cs ++ makes c (after m cs)

  -- the same, each with the time at which it was made
  abbrev pub made_at : Machine k → List Call → List Made
  made_at m [] = []
  made_at m (c ∷ cs) = made_at m cs ++ timed (after m (c ∷ cs)).time (makes c (after m cs))

  -- all completions that fetches handed out, in the order in which they were fetched
  abbrev pub handed : Machine k → List Call → List Completion
  handed m [] = []
  handed m (c ∷ cs) = handed m cs ++ hands c (after m cs)

  -- the state in which tick u began; for a tick still to come, the state as it is now
  abbrev pub found : Machine k → List Call → ℕ → Machine k
  found m [] u = m
  found m (c ∷ cs) u = cond (nat_le (after m (c ∷ cs)).time u) (after m (c ∷ cs)) (found m cs u)

  -- line i is ready in the tick that begins in this state
  abbrev pub row_ready : List Request → ℕ → Option (Row k) → Bool
  row_ready ws i None = false
  row_ready ws i (Some r) = is_ready ws i r

  abbrev pub ready_in : Machine k → ℕ → Bool
  ready_in m i = row_ready m.waiting i (row_of (opened_rows m) i)

  -- in how many of the n ticks from tick s on line i ran
  abbrev pub ran_ticks : Machine k → List Call → ℕ → ℕ → ℕ → ℕ
  ran_ticks m cs i s zero = 0
  ran_ticks m cs i s (suc n) = ran_ticks m cs i s n + cond (chosen (found m cs (s + n)) == i) 1 0
