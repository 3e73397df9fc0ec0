use Rattle.std.proofs.Common.{◌≡◌, ◌+◌, sym, ap, ◌∙◌, arith, rules}
use Rattle.std.specs.Bool.{then_some}
use Rattle.script.specs.Words.{is_empty, word}
use Rattle.script.specs.Numbers.{number}
use Rattle.script.specs.Commands.{ends_at, numbers}
use Rattle.script.proofs.Splitting.{empty_is}
use Rattle.script.proofs.Counting.{one_more, no_more, all_read, none_either, all_where_ends}
use Rattle.script.proofs.arguments.numbers.Goals as goal

pub returns-in_err-n : goal.returns-in_err-n
unfolding numbers
returns-in_err-n g c =
    let next : c.take.result.now ≡ word c.args.line.now (c.loop-n.n-index + 1) = c.take.ensures.first ∙ c.loop-n.invariant.left 0 ∙ ap (word c.args.line.now) (omega arith) in
    let none = no_more c.args.line.now c.loop-n.n-items c.loop-n.n-index g.row.N c.loop-n-test.true (sym c.in_err-n.was ∙ c.number.ensures ∙ ap number next) ∙ c.loop-n.invariant.read in
    c.from_residual.ensures ∙ none_either (ends_at c.args.line.now (g.row.N + 1)) _ none

pub loop-n-preserved : goal.loop-n-preserved
loop-n-preserved g c =
    let next : c.take.result.now ≡ word c.args.line.now (c.loop-n.n-index + 1) = c.take.ensures.first ∙ c.loop-n.invariant.left 0 ∙ ap (word c.args.line.now) (omega arith) in
    record {
      long = search (rules, c.loop-n.invariant.long);
      read =
          one_more c.args.line.now c.loop-n.n-items c.loop-n.n-index g.row.N c.loop-n-test.true _ (omega (arith, c.loop-n.invariant.long, c.loop-n-test.true)) (sym c.in_ok-n.was ∙ c.number.ensures ∙ ap number next)
          ∙ c.loop-n.invariant.read;
      left = λ k. c.take.ensures.later k ∙ c.loop-n.invariant.left _ ∙ ap (word c.args.line.now) (omega arith);
    }

pub returns : goal.returns
unfolding numbers
returns g c =
    let whole = all_read c.args.line.now c.loop-n.n-items c.loop-n.n-index g.row.N (omega (arith, c.loop-n.invariant.long, c.loop-n-test.false)) c.loop-n-test.false ∙ c.loop-n.invariant.read in
    c.then_some.ensures
    ∙ ap (λ ends. then_some ends c.loop-n.n-items) (c.is_empty.ensures ∙ empty_is _ ∙ ap is_empty c.word.ensures)
    ∙ all_where_ends (ends_at c.args.line.now (g.row.N + 1)) c.loop-n.n-items _ whole
