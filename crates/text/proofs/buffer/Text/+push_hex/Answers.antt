use Rattle.std.proofs.Common.{rules}
use Rattle.text.proofs.Cuts.{added_twice, none_added}
use Rattle.text.proofs.HexSteps.{hex_step, hex_none}
use Rattle.text.proofs.buffer.Text.+push_hex.Goals as goal

pub returns-then-count-gt0 : goal.returns-then-count-gt0
returns-then-count-gt0 t c = search (rules, hex_step, added_twice)

pub returns-else-count-gt0 : goal.returns-else-count-gt0
returns-else-count-gt0 t c = search (rules, hex_none, none_added)
