use Rattle.std.proofs.Common.{rules}
use Rattle.text.specs.Written.{written}
use Rattle.text.proofs.buffer.Text.new.Goals as goal

pub returns : goal.returns
unfolding written
returns c = search rules
