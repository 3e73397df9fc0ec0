-- The lines of a run, and what a tick does to each.
use Rattle.std.specs.Prelude.{ℕ, suc, ◌+◌, ◌-◌, ◌*◌, Bool, cond, ◌&&◌, List, [], ◌∷◌, ◌==◌, nat_le}
use Rattle.server.specs.Kind.{Terms, Kind}
use Rattle.plan.specs.declared.line.Line.{Line}
use Rattle.plan.specs.declared.line.Line.TheVariants.{Task, Server}
use Rattle.plan.specs.declared.line.Task as plan_task
use Rattle.analysis.specs.Equation.{terms_on}
use Rattle.run.specs.declared.items.Request.{Request}
use Rattle.run.specs.Requests.{wanted}

-- one line: a task with its unfinished work and its next arrival, or a server with its terms and its state
pub data Row (k : Kind) : Type 0 where
  task : (t : plan_task.Task) (unfinished next : ℕ) → Row k
  server : (t : Terms) (state : k.State) → Row k

-- a function of each row and its line number, the first being line i
abbrev pub lined : {A B : Type 0} → (ℕ → A → B) → ℕ → List A → List B
lined f i [] = []
lined f i (r ∷ rs) = f i r ∷ lined f (suc i) rs

module _ {k : Kind} where
  -- a line at time 0
  abbrev pub fresh : Line → Row k
  fresh (Task t) = task t 0 t.first
  fresh (Server s) = server (terms_on s) (k.made (terms_on s))

  -- the start of a tick: a job that arrives now adds its work, and a server is told the start
  abbrev pub opened_by : ℕ → Bool → Row k → Row k
  opened_by time wants (task t unfinished next) = cond (next == time) (task t (unfinished + t.work) (next + t.period)) (task t unfinished next)
  opened_by time wants (server t state) = server t (k.begun t state time wants)

  abbrev pub opened : ℕ → List Request → ℕ → Row k → Row k
  opened time ws i r = opened_by time (wanted i ws) r

  -- a task is ready with unfinished work, a server when it is wanted and holds something
  abbrev pub ready_by : Bool → Row k → Bool
  ready_by wants (task t unfinished next) = nat_le 1 unfinished
  ready_by wants (server t state) = wants && nat_le 1 (k.held state)

  abbrev pub is_ready : List Request → ℕ → Row k → Bool
  is_ready ws i r = ready_by (wanted i ws) r

  -- the first line that is ready, 0 where none is
  abbrev pub first_ready : List Request → ℕ → List (Row k) → ℕ
  first_ready ws i [] = 0
  first_ready ws i (r ∷ rs) = cond (is_ready ws i r) i (first_ready ws (suc i) rs)

  -- the ready lines as bits, the lowest for the first
  abbrev pub ready_bits : List Request → ℕ → List (Row k) → ℕ
  ready_bits ws i [] = 0
  ready_bits ws i (r ∷ rs) = cond (is_ready ws i r) 1 0 + 2 * ready_bits ws (suc i) rs

  -- the end of a tick: the job of the chosen line has 1 less to do, and each server is told whether it ran
  abbrev pub shut_by : Bool → Row k → Row k
  shut_by ran (task t unfinished next) = task t (cond ran (unfinished - 1) unfinished) next
  shut_by ran (server t state) = server t (k.ended t state ran)

  abbrev pub shut : ℕ → ℕ → Row k → Row k
  shut c i r = shut_by (i == c) r
