use Rattle.std.proofs.Common.{sym, rules}
use Rattle.std.proofs.lemmas.Result.{err_from_is_err_and}
use Rattle.plan.specs.Answers.{number_of}
use Rattle.report.proofs.Outcomes.{plan_refused}
use Rattle.report.proofs.whole.all_times.Goals as goal

pub returns-in_err-count : goal.returns-in_err-count
returns-in_err-count c =
    let f = c.in_err-count.field-0.0 in
    let p = err_from_is_err_and c.from_residual.result c.from_residual.ensures.1 in
    rw (p.1, p.2) (sym (plan_refused c.args.plan.now _ (number_of f.refusal) f.«record» f.byte (search rules) c.in_err-count.ensures.answered))
