use Rattle.std.proofs.Common.{drop, ap, ◌∙◌}
use Rattle.std.proofs.lemmas.List.{take_rest}
use Rattle.script.specs.Words.{word}
use Rattle.script.proofs.Splitting.{word_first, word_later}
use Rattle.script.proofs.words.Words.take.Goals as goal

pub returns-clause-first : goal.returns-clause-first
returns-clause-first c =
    let line = c.args.self.now.rest.now in
    c.split_at.ensures.front
    ∙ word_first line _ c.leading-2.result (take_rest line c.leading.result ∙ ap (λ n. drop n line) c.leading.ensures.value) c.leading-2.ensures.value

pub returns-clause-later : goal.returns-clause-later
returns-clause-later c n =
    let line = c.args.self.now.rest.now in
    ap (λ bs. word bs n) c.split_at.ensures.back
    ∙ word_later line _ c.leading-2.result (take_rest line c.leading.result ∙ ap (λ n. drop n line) c.leading.ensures.value) c.leading-2.ensures.value n
