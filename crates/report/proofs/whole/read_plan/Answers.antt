use Rattle.std.proofs.Common.{◌≡◌, ◌/◌, length, rules, sym, ap, ◌∙◌, arith}
use Rattle.std.proofs.lemmas.Result.{err_from_is_err_and}
use Rattle.plan.specs.Answers.{granted, number_of}
use Rattle.analysis.specs.Drafts.{lines}
use Rattle.report.specs.Plans.{lines_to}
use Rattle.report.proofs.Reading.{lines_more, lines_stop, plan_whole, plan_broken}
use Rattle.report.proofs.Records.{record_of}
use Rattle.report.proofs.whole.read_plan.Goals as goal

pub returns-then-not-is_empty-clause-answered : goal.returns-then-not-is_empty-clause-answered
returns-then-not-is_empty-clause-answered g c =
    rw c.at.ensures (sym (plan_broken g.S.Server.kind c.args.plan.now (λ e. search rules)))

pub returns-in_err-add-clause-answered : goal.returns-in_err-add-clause-answered
returns-in_err-add-clause-answered g c =
    let k = g.S.Server.kind in
    let bs = c.args.plan.now in
    let f = c.in_err-add.field-0.0 in
    let here = record_of bs c.as_chunks.result.0.now c.loop-record.record-index (length bs / 20) _ c.as_chunks.ensures.front (omega arith) in
    let stop = lines_stop k bs c.loop-record.record-index (length bs / 20) (lines c.loop-record.draft) _ (number_of f.refusal) f.«record» f.byte
    (omega arith) here c.loop-record.invariant (sym c.in_err-add.ensures.answered) in
    let p = err_from_is_err_and c.from_residual.result c.from_residual.ensures.1 in
    rw (p.1, p.2) (sym (plan_whole k bs (search rules) ∙ stop))

pub loop-record-preserved : goal.loop-record-preserved
loop-record-preserved g c =
    let here = record_of c.args.plan.now c.as_chunks.result.0.now c.loop-record.record-index (length c.args.plan.now / 20) _ c.as_chunks.ensures.front (omega arith) in
    let more = lines_more g.S.Server.kind c.args.plan.now c.loop-record.record-index (lines c.loop-record.draft) _ c.in_ok-add.field-0 here c.loop-record.invariant (sym c.in_ok-add.ensures.answered) in
    more ∙ sym (ap granted c.add.ensures.after)

pub returns-clause-answered : goal.returns-clause-answered
returns-clause-answered g c =
    let k = g.S.Server.kind in
    let bs = c.args.plan.now in
    let end : c.loop-record.record-index ≡ length bs / 20 = omega arith in
    sym (plan_whole k bs (search rules) ∙ ap (lines_to k bs) (sym end) ∙ c.loop-record.invariant)
