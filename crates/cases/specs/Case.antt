-- A case worked out by hand, and what it claims of the definitions.
use Rattle.std.specs.Prelude.{◌≡◌, ℕ, Bool, true, List, [], ◌∷◌}
use Rattle.std.specs.List.{flat_map}
use Rattle.server.specs.Kind.{Terms}
use Rattle.server.specs.SporadicKind.{SporadicState, sporadic}
use Rattle.plan.specs.Answers.{granted}
use Rattle.plan.specs.Records.{encoded}
use Rattle.plan.specs.declared.line.Line.{Line}
use Rattle.analysis.specs.Verdicts.{Verdict, verdict_from}
use Rattle.run.specs.declared.items.Completion.{Completion}
use Rattle.run.specs.Machine.{started}
use Rattle.run.specs.Tries.{Call}
use Rattle.report.specs.Plans.{kind_of}
use Rattle.report.specs.Results.{plan_times}
use Rattle.cases.specs.Schedules.{schedule, endings}

-- what a server is told: the start of a tick, or the end of one and whether it ran
pub data Told : Type 0 where
  start : (tick : ℕ) → Told
  end : (ran : Bool) → Told

-- a sporadic server after what it was told, a request always waiting
abbrev pub after : Terms → SporadicState → List Told → SporadicState
after t s [] = s
after t s (start tick ∷ rest) = after t (sporadic.begun t s tick true) rest
after t s (end ran ∷ rest) = after t (sporadic.ended t s ran) rest

pub data Case : Type 0 where
  -- the lines of a plan, their response times (0 for a line that does not pass), and the verdict on them
  timed : (lines : List Line) (times : List ℕ) (verdict : Verdict) → Case
  -- the letter by which a plan is run, its lines, the calls tried in their order, the lines that its ticks choose, and the completions made
  ran : (letter : ℕ) (lines : List Line) (calls : List Call) (chosen : List ℕ) (ended : List Completion) → Case
  -- a sporadic server with these terms and in this state, what it is told, and its state then
  told : (terms : Terms) (state : SporadicState) (events : List Told) (then : SporadicState) → Case

-- the bytes of a plan: the records of its lines in a row
abbrev pub plan_of : List Line → List ℕ
plan_of lines = flat_map encoded lines

-- the bytes of the plan give these times, and the times this verdict; the calls give this schedule and these completions; what the
-- server is told leads to that state
abbrev pub Holds : Case → Type 0
Holds (timed lines times verdict) = (plan_times (plan_of lines) ≡ granted times) × (verdict_from 1 times ≡ verdict)
Holds (ran letter lines calls chosen ended) =
    (schedule (started {k = kind_of letter} lines 64 64) calls ≡ chosen) × (endings (started {k = kind_of letter} lines 64 64) calls ≡ ended)
Holds (told terms state events then) = after terms state events ≡ then
