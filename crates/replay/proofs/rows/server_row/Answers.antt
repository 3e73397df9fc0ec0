use Rattle.std.proofs.Common.{codes, append_assoc, arith, rules}
use Rattle.std.proofs.lemmas.List.{length-append}
use Rattle.text.proofs.Cuts.{added_twice, uncut}
use Rattle.replay.specs.Rows.{report_row}
use Rattle.replay.proofs.Widths.{labelled_width, labelled_width_32}
use Rattle.replay.proofs.rows.server_row.Goals as goal

pub returns : goal.returns
unfolding report_row
returns c =
    simp (c.push.ensures, c.push_labelled-3.ensures, c.push_labelled-2.ensures, c.push_labelled.ensures, c.new-text.ensures, added_twice, append_assoc)
    (uncut _ (simp length-append (omega (arith, labelled_width_32 (codes "holds ") c.args.held (search rules), labelled_width_32 (codes " waits ") c.args.waits (search rules), labelled_width (codes " needs ") c.args.needs (search rules)))))
