use Rattle.std.proofs.Common.{rules}
use Rattle.report.proofs.Records.{plan_kind_letter}
use Rattle.report.proofs.whole.plan_kind.Goals as goal

pub returns : goal.returns
returns c = search (rules, plan_kind_letter)
