use Rattle.std.proofs.Common.{arith, rules}
use Rattle.std.proofs.lemmas.List.{length-append}
use Rattle.text.proofs.Cuts.{added_twice, uncut}
use Rattle.replay.specs.Rows.{number_row}
use Rattle.replay.proofs.Widths.{labelled_width_32}
use Rattle.replay.proofs.rows.number_row.Goals as goal

pub returns : goal.returns
unfolding number_row
returns c =
    simp (c.push.ensures, c.push_labelled.ensures, c.new-text.ensures, added_twice)
    (uncut _ (simp length-append (omega (arith, labelled_width_32 c.args.word.now c.args.n (search rules), c.requires))))
