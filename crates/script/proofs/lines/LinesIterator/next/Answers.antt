use Rattle.std.proofs.Common.{Some, sym, ap, ◌∙◌, refl}
use Rattle.std.proofs.lemmas.Bool.{eqb-true, eqb-false, cond-true, cond-false}
use Rattle.script.proofs.Feeding.{no_line, one_line}
use Rattle.script.proofs.lines.LinesIterator.next.Goals as goal

pub returns-then-is_empty-clause-steps : goal.returns-then-is_empty-clause-steps
returns-then-is_empty-clause-steps c =
    let none = no_line c.args.self.now.rest.now (eqb-true _ 0 (sym c.if-is_empty.ensures)) in
    (none.0, none.1, sym (cond-true _ _ _ none.2), tt)

pub returns-clause-steps : goal.returns-clause-steps
returns-clause-steps c =
    let some = one_line c.args.self.now.rest.now (eqb-false _ 0 (sym c.if-is_empty.ensures)) in
    (ap Some c.cut.ensures.before ∙ some.0, c.cut.ensures.after ∙ some.1, c.saturating_add-self.ensures ∙ sym (cond-false _ _ _ some.2), refl)
