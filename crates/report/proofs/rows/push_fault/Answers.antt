use Rattle.std.proofs.Common.{append_assoc}
use Rattle.text.proofs.Cuts.{added_twice}
use Rattle.report.specs.Rows.{fault_row}
use Rattle.report.proofs.rows.push_fault.Goals as goal

pub returns : goal.returns
unfolding fault_row
returns c =
    simp (c.push.ensures, c.push_labelled-3.ensures, c.push_labelled-2.ensures, c.push_labelled.ensures, c.number.ensures, added_twice, append_assoc)
