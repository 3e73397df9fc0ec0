use Rattle.std.proofs.Common.{ap, ◌∙◌, arith}
use Rattle.script.specs.Words.{word}
use Rattle.script.proofs.words.word.Goals as goal

pub loop-init : goal.loop-init
loop-init c k = ap (λ bs. word bs k) c.of-words.ensures ∙ ap (word c.args.line.now) (omega arith)

pub loop-preserved : goal.loop-preserved
loop-preserved c k = c.take-passed.ensures.later k ∙ c.loop.invariant _ ∙ ap (word c.args.line.now) (omega arith)

pub returns : goal.returns
returns c = c.take.ensures.first ∙ c.loop.invariant 0 ∙ ap (word c.args.line.now) (omega (arith, c.loop-test.false))
