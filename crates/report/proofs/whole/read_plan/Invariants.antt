use Rattle.std.proofs.Common.{◌≡◌}
use Rattle.plan.specs.Answers.{granted}
use Rattle.analysis.specs.Drafts.{lines}
use Rattle.report.specs.Plans.{lines_to}
use Rattle.report.proofs.whole.read_plan.Given as goal

abbrev pub invariant-loop-record : goal.invariant-loop-record
invariant-loop-record g l =
    lines_to g.S.Server.kind l.fn.plan l.record-index ≡ granted (lines l.draft)
