-- Admission: the lines of a draft that passes take the place of an admitted plan's.
use Rattle.std.specs.Prelude.{List, []}
use Rattle.server.specs.declared.kind.Server.{Ghosts}
use Rattle.plan.specs.declared.line.Line.{Line}
use Rattle.analysis.specs.Drafts.{lines}
use Rattle.analysis.specs.Verdicts.{Verdict, passes, fails}
use Rattle.analysis.specs.declared.admitted.AdmittedPlan.{AdmittedPlan}

-- the lines of an admitted plan
abbrev pub plan_lines : {S : Type 0} {g : Ghosts S} → AdmittedPlan S g → List Line
plan_lines a = lines a.plan

-- what the draft has after a verdict on it
abbrev pub left_over : Verdict → List Line → List Line
left_over passes draft = []
left_over (fails number n) draft = draft

-- what the admitted plan has then
abbrev pub in_place : Verdict → (draft plan : List Line) → List Line
in_place passes draft plan = draft
in_place (fails number n) draft plan = plan
