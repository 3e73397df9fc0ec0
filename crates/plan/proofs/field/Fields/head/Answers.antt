-- The place of the first byte that is not zero, which the closure tests.
use Rattle.std.proofs.Common.{◌≡◌, true, not, eqb, sym, ◌∙◌, rules, tests}
use Rattle.std.proofs.lemmas.Iterator.Search.{position_from_yields_List}
use Rattle.std.proofs.lemmas.Iterator.{YieldsList-from_slice}
use Rattle.plan.proofs.ZeroBytes.{zeros_first}
use Rattle.plan.proofs.field.Fields.head.Goals as goal
use Rattle.plan.specs.Records.{is_letter}

pub returns-in-Some : goal.returns-in-Some
returns-in-Some c = λ rest.
    let found = position_from_yields_List (λ z. not (eqb z 0)) _ _ c.position.result c.position.ensures.ran (YieldsList-from_slice _ c.iter.ensures.rest) (λ x b q k. search (rules, tests)) in
    let known : is_letter c.args.self.letter ≡ true = search rules in
    rw known (zeros_first _ c.args.self.zeros rest (sym c.in-Some.is ∙ found))

pub returns-in-None : goal.returns-in-None
returns-in-None c = λ rest.
    let found = position_from_yields_List (λ z. not (eqb z 0)) _ _ c.position.result c.position.ensures.ran (YieldsList-from_slice _ c.iter.ensures.rest) (λ x b q k. search (rules, tests)) in
    let known : is_letter c.args.self.letter ≡ true = search rules in
    rw known (zeros_first _ c.args.self.zeros rest (sym c.in-None.is ∙ found))
