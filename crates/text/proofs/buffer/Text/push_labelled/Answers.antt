use Rattle.std.proofs.Common.{rules}
use Rattle.text.proofs.Cuts.{added_twice}
use Rattle.text.specs.Written.{tagged}
use Rattle.text.proofs.buffer.Text.push_labelled.Goals as goal

pub returns : goal.returns
unfolding tagged
returns g c = search (rules, added_twice)
