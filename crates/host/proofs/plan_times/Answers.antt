use Rattle.std.proofs.Common.{sym, arith}
use Rattle.plan.specs.Answers.{number_of}
use Rattle.report.proofs.RefusedRecords.{refused_record}
use Rattle.report.proofs.Texts.{number_small}
use Rattle.host.proofs.plan_times.Goals as goal

pub overflow_add-result : goal.overflow_add-result
overflow_add-result c =
    let f = c.in-Err.fault in
    omega (arith, c.number.ensures, number_small f.refusal, refused_record c.args.plan.now (number_of f.refusal) f.«record» f.byte (sym c.in-Err.ensures))
