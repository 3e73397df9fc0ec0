use Rattle.std.proofs.Common.{refl}
use Rattle.cases.proofs.Working.{all_hold}
use Rattle.cases.proofs.worked_cases.Goals as goal

pub returns : goal.returns
returns c = record { number = refl; hold = all_hold }
