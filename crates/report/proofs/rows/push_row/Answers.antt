use Rattle.std.proofs.Common.{append_assoc}
use Rattle.text.proofs.Cuts.{added_twice}
use Rattle.report.specs.Rows.{row}
use Rattle.report.proofs.rows.push_row.Goals as goal

pub returns : goal.returns
unfolding row
returns c =
    simp (c.push-4.ensures, c.push_time.ensures, c.push-3.ensures, c.push-2.ensures, c.push.ensures, c.push_number.ensures, added_twice, append_assoc)
