use Rattle.std.proofs.Common.{length, sym, ap, arith, rules}
use Rattle.text.specs.Written.{written}
use Rattle.plan.specs.Answers.{number_of}
use Rattle.report.proofs.Extents.{plan_extent}
use Rattle.report.proofs.Texts.{shown_times, shown_fault, number_small}
use Rattle.report.proofs.shown.times_text.Goals as goal

pub push_rows-requires : goal.push_rows-requires
push_rows-requires c =
    omega (arith, (plan_extent c.args.plan.now c.in-Ok.times.items (sym c.in-Ok.ensures)).whole, ap length c.deref.ensures.0)

pub returns-in-Ok : goal.returns-in-Ok
returns-in-Ok c =
    shown_times c.args.plan.now (written c.new-text.result) (written c.push_rows.new.text) c.new-text.ensures
    c.in-Ok.times.items (written c.push_verdict.new.text) (sym c.in-Ok.ensures)
    (rw c.deref.ensures.0 at c.push_rows.ensures) (rw c.deref-in-Ok.ensures.0 at c.push_verdict.ensures)

pub returns-in-Err : goal.returns-in-Err
returns-in-Err c =
    let f = c.in-Err.fault in
    shown_fault c.args.plan.now (written c.new-text.result) (written c.push_fault.new.text) c.new-text.ensures
    (number_of f.refusal) f.«record» f.byte (sym c.in-Err.ensures) (number_small f.refusal) (search rules) (search rules) c.push_fault.ensures
