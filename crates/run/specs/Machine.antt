-- The machine that a run is: its state, and what each call on it answers and leaves.
use Rattle.std.specs.Prelude.{ℕ, ◌+◌, ◌-◌, min, Bool, true, false, cond, ◌||◌, List, [], ◌∷◌, ◌++◌, map, length, drop, Some, None, filter, sum_by, count_by, Option, ◌==◌, nat_le, nat_lt, slice_set}
use Rattle.std.specs.List.{slice_get}
use Rattle.server.specs.Kind.{Kind}
use Rattle.plan.specs.declared.line.Line.{Line}
use Rattle.run.specs.declared.items.Completion.{Completion}
use Rattle.run.specs.declared.items.Request.{Request}
use Rattle.run.specs.Replies.{Reply, done, refused}
use Rattle.run.specs.Requests.{waits_for, earliest, served}
use Rattle.run.specs.Rows.{Row, task, server, lined, fresh, opened, first_ready, ready_bits, shut}

-- the whole state: the time, the lines, how many requests were counted, and the two queues with their room
pub record Machine (k : Kind) : Type 0 where
  pub time : ℕ
  pub rows : List (Row k)
  pub offers : ℕ
  pub waiting : List Request
  pub waiting_room : ℕ
  pub completed : List Completion
  pub completed_room : ℕ

-- what a tick answers: its number, the line chosen (0: none), and the ready lines as bits
pub record Tick : Type 0 where
  pub number : ℕ
  pub line : ℕ
  pub ready : ℕ

-- the completion of a job that ends at a time: it arrived a period before the next one
abbrev pub job_end : (line period next end : ℕ) → Bool → Completion
job_end line period next end early = record { line = line; number = 0; ticks = end - (next - period); early = early }

abbrev pub request_end : ℕ → Request → Completion
request_end end r = record { line = r.line; number = r.number; ticks = end - r.offered; early = false }

-- a request that was worked on ends if 1 was left to do
abbrev pub request_ends : ℕ → Option Request → List Completion
request_ends end None = []
request_ends end (Some r) = cond (r.left == 1) (request_end end r ∷ []) []

-- what line i asks for: how many requests wait for it, and the ticks that they still need
abbrev pub count_waiting : ℕ → List Request → ℕ
count_waiting i ws = count_by (waits_for i) ws

abbrev pub sum_waiting : ℕ → List Request → ℕ
sum_waiting i ws = sum_by (λ r. r.left) (filter (waits_for i) ws)

-- what is told of a line: a task's unfinished work and next arrival; or what a server holds, how many requests wait and what
-- they still need
pub data Report : Type 0 where
  task_report : (unfinished next : ℕ) → Report
  server_report : (held waits needs : ℕ) → Report

-- an answer with the state that the call leaves
abbrev pub Outcome : Kind → Type 0 → Type 0
Outcome k A = Reply A × Machine k

module _ {k : Kind} where
  -- a run just started: both queues are empty
  abbrev pub started : List Line → (waiting_room completed_room : ℕ) → Machine k
  started ls waiting_room completed_room = record {
    time = 0;
    rows = map fresh ls;
    offers = 0;
    waiting = [];
    waiting_room = waiting_room;
    completed = [];
    completed_room = completed_room;
  }

  -- the lines after the starts of a tick, and the line that is chosen then
  abbrev pub opened_rows : Machine k → List (Row k)
  opened_rows m = lined (opened m.time m.waiting) 1 m.rows

  abbrev pub chosen : Machine k → ℕ
  chosen m = first_ready m.waiting 1 (opened_rows m)

  -- what ends where line c worked for the tick that ends at a time: its job or its earliest request, if 1 was left to do
  abbrev pub row_ends : ℕ → List Request → ℕ → Option (Row k) → List Completion
  row_ends end ws c None = []
  row_ends end ws c (Some (task t unfinished next)) = cond (unfinished == 1) (job_end c t.period next end false ∷ []) []
  row_ends end ws c (Some (server t state)) = request_ends end (earliest c ws)

  -- the requests then: those of a server's line are served
  abbrev pub row_serves : List Request → ℕ → Option (Row k) → List Request
  row_serves ws c None = ws
  row_serves ws c (Some (task t unfinished next)) = ws
  row_serves ws c (Some (server t state)) = served c ws

  -- the row of line c; none for 0 or past the last line
  abbrev pub row_of : List (Row k) → ℕ → Option (Row k)
  row_of rows c = cond (c == 0) None (slice_get rows (c - 1))

  -- the completions that a tick makes
  abbrev pub tick_ends : Machine k → List Completion
  tick_ends m = row_ends (m.time + 1) m.waiting (chosen m) (row_of (opened_rows m) (chosen m))

  -- one tick
  abbrev pub advanced : Machine k → Machine k
  advanced m = record {
    time = m.time + 1;
    rows = lined (shut (chosen m)) 1 (opened_rows m);
    offers = m.offers;
    waiting = row_serves m.waiting (chosen m) (row_of (opened_rows m) (chosen m));
    waiting_room = m.waiting_room;
    completed = m.completed ++ tick_ends m;
    completed_room = m.completed_room;
  }

  -- what a tick answers
  abbrev pub tick_now : Machine k → Tick
  tick_now m = record { number = m.time; line = chosen m; ready = ready_bits m.waiting 1 (opened_rows m) }

  -- a refusal leaves the state as it was
  abbrev pub unless : {A : Type 0} → Bool → ℕ → Machine k → Outcome k A → Outcome k A
  unless true number m rest = (refused number, m)
  unless false number m rest = rest

  -- no room for one more completion, or for one more request
  abbrev pub full_of_completions : Machine k → Bool
  full_of_completions m = nat_le m.completed_room (length m.completed)

  abbrev pub full_of_requests : Machine k → Bool
  full_of_requests m = nat_le m.waiting_room (length m.waiting)

  -- tick: 15 the completions' queue is full, 16 the last time is reached
  unfoldable pub ticked : Machine k → Outcome k Tick
  ticked m =
      unless (full_of_completions m) 15 m
      (unless (nat_le 1000000000 m.time) 16 m
      (done (tick_now m), advanced m))

  abbrev pub is_server_row : Option (Row k) → Bool
  is_server_row None = false
  is_server_row (Some (task t unfinished next)) = false
  is_server_row (Some (server t state)) = true

  -- the number that the next request gets: counted from 1, and staying at 4,294,967,295
  abbrev pub next_number : Machine k → ℕ
  next_number m = min (m.offers + 1) 4294967295

  abbrev pub with_request : Machine k → (line amount : ℕ) → Machine k
  with_request m line amount = record {
    time = m.time;
    rows = m.rows;
    offers = next_number m;
    waiting = m.waiting ++ (record { line = line; number = next_number m; offered = m.time; left = amount } ∷ []);
    waiting_room = m.waiting_room;
    completed = m.completed;
    completed_room = m.completed_room;
  }

  -- offer: 7 no server's line, 8 amount 0 or above 65,535, 14 the requests' queue is full
  unfoldable pub offered : (line amount : ℕ) → Machine k → Outcome k ℕ
  offered line amount m =
      unless (cond (is_server_row (row_of m.rows line)) false true) 7 m
      (unless (amount == 0 || nat_lt 65535 amount) 8 m
      (unless (full_of_requests m) 14 m (done (next_number m), with_request m line amount)))

  abbrev pub without_job : Machine k → (line : ℕ) → Row k → Completion → Machine k
  without_job m line row c = record {
    time = m.time;
    rows = slice_set m.rows (line - 1) row;
    offers = m.offers;
    waiting = m.waiting;
    waiting_room = m.waiting_room;
    completed = m.completed ++ (c ∷ []);
    completed_room = m.completed_room;
  }

  -- a row whose job is ended early at a time: 17 where it has none
  abbrev pub finished_row : (line : ℕ) → Machine k → Option (Row k) → Outcome k (Unit {0})
  finished_row line m None = (refused 7, m)
  finished_row line m (Some (server t state)) = (refused 7, m)
  finished_row line m (Some (task t unfinished next)) =
      unless (full_of_completions m) 15 m
      (unless (unfinished == 0) 17 m
      (done tt, without_job m line (task t 0 next) (job_end line t.period next m.time true)))

  -- finish: 7 no task's line, 15 the completions' queue is full, 17 no job to finish
  unfoldable pub finished : (line : ℕ) → Machine k → Outcome k (Unit {0})
  finished line m = finished_row line m (row_of m.rows line)

  -- fetch: the oldest completion goes; none where none is there
  unfoldable pub fetched : Machine k → Option Completion × Machine k
  fetched m = (
    slice_get m.completed 0,
    record {
      time = m.time;
      rows = m.rows;
      offers = m.offers;
      waiting = m.waiting;
      waiting_room = m.waiting_room;
      completed = drop 1 m.completed;
      completed_room = m.completed_room;
    },
  )

  abbrev pub row_report : ℕ → List Request → Option (Row k) → Reply Report
  row_report line ws None = refused 7
  row_report line ws (Some (task t unfinished next)) = done (task_report unfinished next)
  row_report line ws (Some (server t state)) = done (server_report (k.held state) (count_waiting line ws) (sum_waiting line ws))

  -- ask: 7 no such line; nothing changes
  unfoldable pub asked : (line : ℕ) → Machine k → Reply Report
  asked line m = row_report line m.waiting (row_of m.rows line)
