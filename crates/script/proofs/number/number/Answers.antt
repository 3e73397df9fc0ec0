use Rattle.std.proofs.Common.{sym, ◌∙◌, arith}
use Rattle.std.proofs.lemmas.Bool.{eqb-true, eqb-false}
use Rattle.script.proofs.Reading.{number_empty, number_ends, number_stops}
use Rattle.script.proofs.number.number.Goals as goal

pub returns-then-is_empty : goal.returns-then-is_empty
returns-then-is_empty c = number_empty c.args.word.now (eqb-true _ 0 (sym c.if-is_empty.ensures))

pub returns-in_err-value : goal.returns-in_err-value
returns-in_err-value c =
    c.from_residual.ensures
    ∙ number_stops c.args.word.now c.loop-byte.byte-index c.loop-byte.value c.loop-byte.invariant _ c.loop-byte-test.true c.in_err-value.ensures

pub returns : goal.returns
returns c =
    number_ends c.args.word.now c.loop-byte.byte-index c.loop-byte.value c.loop-byte.invariant
    (omega (arith, eqb-false _ 0 (sym c.if-is_empty.ensures))) c.loop-byte-test.false
