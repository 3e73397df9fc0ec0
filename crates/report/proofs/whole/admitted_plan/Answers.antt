use Rattle.std.proofs.Common.{rules}
use Rattle.report.specs.Results.{admitted_lines}
use Rattle.report.proofs.whole.admitted_plan.Goals as goal

pub returns-in_err-draft-clause-lines : goal.returns-in_err-draft-clause-lines
unfolding admitted_lines
returns-in_err-draft-clause-lines g c = search rules

pub returns-in_err-ok-clause-lines : goal.returns-in_err-ok-clause-lines
unfolding admitted_lines
returns-in_err-ok-clause-lines g c = search rules

pub returns-clause-lines : goal.returns-clause-lines
unfolding admitted_lines
returns-clause-lines g c = search rules
