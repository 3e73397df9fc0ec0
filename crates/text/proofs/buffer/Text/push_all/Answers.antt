use Rattle.std.proofs.Common.{rules}
use Rattle.text.proofs.Cuts.{none_added}
use Rattle.text.proofs.buffer.Text.push_all.Goals as goal

pub loop-byte-init : goal.loop-byte-init
loop-byte-init c = search (rules, none_added)
