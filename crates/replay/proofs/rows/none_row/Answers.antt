use Rattle.std.proofs.Common.{arith}
use Rattle.text.proofs.Cuts.{uncut}
use Rattle.replay.proofs.rows.none_row.Goals as goal

pub returns : goal.returns
returns c = simp (c.push_all.ensures, c.new-text.ensures) (uncut _ (omega arith))
