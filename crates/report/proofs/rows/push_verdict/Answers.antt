use Rattle.std.proofs.Common.{◌∙◌, ap, sym}
use Rattle.text.proofs.Cuts.{added_twice}
use Rattle.report.proofs.ShownRows.{naming, verdict_named}
use Rattle.report.proofs.rows.push_verdict.Goals as goal

pub returns-in-Some : goal.returns-in-Some
returns-in-Some c =
    let named = verdict_named c.args.times.now ∙ ap naming (sym c.first_failing.ensures.first ∙ c.in-Some.is) in
    rw named (simp (c.push.ensures, c.push_labelled.ensures, added_twice))

pub returns-in-None : goal.returns-in-None
returns-in-None c =
    let named = verdict_named c.args.times.now ∙ ap naming (sym c.first_failing.ensures.first ∙ c.in-None.is) in
    rw named c.push_all.ensures
