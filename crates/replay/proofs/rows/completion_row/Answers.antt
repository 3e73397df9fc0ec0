use Rattle.std.proofs.Common.{codes, append_assoc, arith, rules}
use Rattle.std.proofs.lemmas.List.{length-append}
use Rattle.text.proofs.Cuts.{added_twice, uncut}
use Rattle.replay.specs.Rows.{completion_row}
use Rattle.replay.proofs.Widths.{labelled_width_32, flag_width}
use Rattle.replay.proofs.rows.completion_row.Goals as goal

pub returns : goal.returns
unfolding completion_row
returns c =
    simp (c.push.ensures, c.push_labelled-4.ensures, c.from.ensures, c.push_labelled-3.ensures, c.push_labelled-2.ensures, c.push_labelled.ensures, c.new-text.ensures, added_twice, append_assoc)
    (uncut _ (simp length-append (omega (arith, labelled_width_32 (codes "completion ") c.args.completion.now.line (search rules), labelled_width_32 (codes " ") c.args.completion.now.number (search rules), labelled_width_32 (codes " ") c.args.completion.now.ticks (search rules), flag_width (codes " ") c.args.completion.now.early))))
