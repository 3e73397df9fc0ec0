use Rattle.std.proofs.Common.{codes, append_assoc, arith, rules}
use Rattle.std.proofs.lemmas.List.{length-append}
use Rattle.text.proofs.Cuts.{added_twice, uncut}
use Rattle.replay.specs.Rows.{tick_row}
use Rattle.replay.proofs.Widths.{labelled_width_32}
use Rattle.replay.proofs.rows.tick_row.Goals as goal

pub returns : goal.returns
unfolding tick_row
returns c =
    simp (c.push.ensures, c.push_hex.ensures, c.push_all.ensures, c.push_labelled-2.ensures, c.push_labelled.ensures, c.new-text.ensures, added_twice, append_assoc)
    (uncut _ (simp length-append (omega (arith, labelled_width_32 (codes "tick ") c.args.ticked.now.number (search rules), labelled_width_32 (codes " line ") c.args.ticked.now.line (search rules)))))
