use Rattle.std.proofs.Common.{rules}
use Rattle.report.specs.Plans.{plan_letter}
use Rattle.report.proofs.Records.{first_letter}
use Rattle.report.proofs.whole.plan_letter.Goals as goal

pub returns : goal.returns
unfolding plan_letter
returns c = search (rules, first_letter)
