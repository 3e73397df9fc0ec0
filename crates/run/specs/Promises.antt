-- The law of a run: what holds after any calls tried on it, in any number and order, granted or refused.
use Rattle.std.specs.Prelude.{◌≡◌, ℕ, zero, suc, ◌+◌, ◌*◌, ◌<◌, ◌≤◌, true, false, ◌&&◌, List, ◌∷◌, ◌++◌, take, Some, filter, ◌==◌, ◌≢◌}
use Rattle.std.specs.List.{slice_get}
use Rattle.server.specs.Kind.{Kind}
use Rattle.plan.specs.declared.line.Line.{Line}
use Rattle.plan.specs.declared.line.Line.TheVariants.{Task, Server}
use Rattle.plan.specs.declared.line.ServerLine.{ServerLine}
use Rattle.plan.specs.declared.line.Task as plan_task
use Rattle.analysis.specs.Equation.{terms_on}
use Rattle.analysis.specs.Response.{time_of}
use Rattle.run.specs.declared.items.Completion.{Completion}
use Rattle.run.specs.Machine.{Machine, offered}
use Rattle.run.specs.Replies.{done}
use Rattle.run.specs.Requests.{wanted}
use Rattle.run.specs.Rows.{server}
use Rattle.run.specs.Tries.{Call, Made, offer, after, made, made_at, handed, found, ready_in, ran_ticks}

-- a window may begin at tick s: at tick 0, or after a tick in which line i was not ready
abbrev pub FreshTick : {k : Kind} → Machine k → List Call → ℕ → ℕ → Type 0
FreshTick m cs i zero = Unit {0}
FreshTick m cs i (suc s) = ready_in (found m cs s) i ≡ false

-- the completions of the jobs of line i
abbrev pub of_jobs : ℕ → List Completion → List Completion
of_jobs i cs = filter (λ c. (c.line == i) && c.number == 0) cs

-- a completion that was made no later than w ticks after its arrival or offer
abbrev pub Within : ℕ → Completion → Type 0
Within w c = c.ticks ≤ w

-- lines count from 0 here: the line at place i has number i + 1
module _ (k : Kind) (ls : List Line) (m : Machine k) (cs : List Call) where
  -- servers keep to their ceilings
  abbrev pub Ceilings : Type 0
  Ceilings =
      (i : ℕ) (s : ServerLine) → slice_get ls i ≡ Some (Server s) → (from n : ℕ) → from + n ≤ (after m cs).time
      → FreshTick m cs (suc i) from → ran_ticks m cs (suc i) from n ≤ k.ceiling (terms_on s) n

  -- jobs: once the response time of its line has passed since the arrival of job j (counted from 0), its completion has been made,
  -- within that time
  abbrev pub Jobs : Type 0
  Jobs =
      (i : ℕ) (t : plan_task.Task) → slice_get ls i ≡ Some (Task t) → (time_of k (take i ls) (Task t) ≢ 0) → (j : ℕ)
      → t.first + j * t.period + time_of k (take i ls) (Task t) ≤ (after m cs).time
      → (c : Completion) × (slice_get (of_jobs (suc i) (made m cs)) j ≡ Some c) × Within (time_of k (take i ls) (Task t)) c

  -- the server on line 1 gets its budget in any 2 periods in which a request waits for it at each tick
  abbrev pub Budget : Type 0
  Budget =
      (s : ServerLine) → slice_get ls 0 ≡ Some (Server s) → (from : ℕ) → from + 2 * s.period ≤ (after m cs).time
      → ((j : ℕ) → j < 2 * s.period → wanted 1 (found m cs (from + j)).waiting ≡ true)
      → s.budget ≤ ran_ticks m cs 1 from (2 * s.period)

  -- requests: one that found its line empty and asked for no more than was held; once the response time of its line has passed
  -- since its offer, its completion has been made, within that time. `since` are the calls after the offer
  abbrev pub Requests : Type 0
  Requests =
      (since before : List Call) (i amount number : ℕ) (s : ServerLine) (state : k.State)
      → cs ≡ since ++ (offer (suc i) amount ∷ before)
      → slice_get ls i ≡ Some (Server s) → (time_of k (take i ls) (Server s) ≢ 0)
      → (offered (suc i) amount (after m before)).0 ≡ done number
      → slice_get (after m before).rows i ≡ Some (server (terms_on s) state)
      → wanted (suc i) (after m before).waiting ≡ false
      → amount ≤ k.held state
      → (after m before).time + time_of k (take i ls) (Server s) ≤ (after m cs).time
      → (j : ℕ) × ((c : Completion) × (slice_get (made (after m (offer (suc i) amount ∷ before)) since) j ≡ Some c) × (c.line ≡ suc i) × (c.number ≡ number)
      × Within (time_of k (take i ls) (Server s)) c)

-- the whole law, of a run with these lines that was just started in the state m
pub record Law (k : Kind) (ls : List Line) (m : Machine k) : Type 0 where
  pub ceilings : (cs : List Call) → Ceilings k ls m cs
  pub jobs : (cs : List Call) → Jobs k ls m cs
  pub requests : (cs : List Call) → Requests k ls m cs
  pub budget : (cs : List Call) → Budget k ls m cs

-- the completions of the jobs of line i, each with its time
abbrev pub of_jobs_at : ℕ → List Made → List Made
of_jobs_at i xs = filter (λ x. (x.completion.line == i) && x.completion.number == 0) xs

-- the arrival of job j of a task, counted from 0
abbrev pub arrival : plan_task.Task → ℕ → ℕ
arrival t j = t.first + j * t.period

-- it ended what arrived or was offered at time `from`: it was made `ticks` ticks after that, and these are at most w
abbrev pub Ends : (from w : ℕ) → Made → Type 0
Ends from w x = (x.time ≡ from + x.completion.ticks) × (x.completion.ticks ≤ w)

-- what was made has been fetched or still waits to be: nothing is lost, added or put out of order
abbrev pub Delivered : {k : Kind} → Machine k → List Call → Type 0
Delivered m cs = handed m cs ++ (after m cs).completed ≡ made m cs

module _ (k : Kind) (ls : List Line) (m : Machine k) (cs : List Call) where
  -- jobs: as above, and it was made as many ticks after the arrival of job j as it says
  abbrev pub JobsAt : Type 0
  JobsAt =
      (i : ℕ) (t : plan_task.Task) → slice_get ls i ≡ Some (Task t) → (time_of k (take i ls) (Task t) ≢ 0) → (j : ℕ)
      → arrival t j + time_of k (take i ls) (Task t) ≤ (after m cs).time
      → (x : Made) × (slice_get (of_jobs_at (suc i) (made_at m cs)) j ≡ Some x) × Ends (arrival t j) (time_of k (take i ls) (Task t)) x

  -- jobs end in order: the j-th completion of the jobs of a line, whenever it was made, is that of job j, within the response time
  abbrev pub InOrder : Type 0
  InOrder =
      (i : ℕ) (t : plan_task.Task) → slice_get ls i ≡ Some (Task t) → (time_of k (take i ls) (Task t) ≢ 0) → (j : ℕ) (x : Made)
      → slice_get (of_jobs_at (suc i) (made_at m cs)) j ≡ Some x → Ends (arrival t j) (time_of k (take i ls) (Task t)) x

  -- requests: as above, and it was made as many ticks after the offer as it says
  abbrev pub RequestsAt : Type 0
  RequestsAt =
      (since before : List Call) (i amount number : ℕ) (s : ServerLine) (state : k.State)
      → cs ≡ since ++ (offer (suc i) amount ∷ before)
      → slice_get ls i ≡ Some (Server s) → (time_of k (take i ls) (Server s) ≢ 0)
      → (offered (suc i) amount (after m before)).0 ≡ done number
      → slice_get (after m before).rows i ≡ Some (server (terms_on s) state)
      → wanted (suc i) (after m before).waiting ≡ false
      → amount ≤ k.held state
      → (after m before).time + time_of k (take i ls) (Server s) ≤ (after m cs).time
      → (j : ℕ) × ((x : Made) × (slice_get (made_at (after m (offer (suc i) amount ∷ before)) since) j ≡ Some x) × (x.completion.line ≡ suc i)
      × (x.completion.number ≡ number) × Ends (after m before).time (time_of k (take i ls) (Server s)) x)

-- when completions are made and in which order, and that each is handed out once, of the same run
pub record Timing (k : Kind) (ls : List Line) (m : Machine k) : Type 0 where
  pub jobs : (cs : List Call) → JobsAt k ls m cs
  pub in_order : (cs : List Call) → InOrder k ls m cs
  pub requests : (cs : List Call) → RequestsAt k ls m cs
  pub delivered : (cs : List Call) → Delivered m cs
