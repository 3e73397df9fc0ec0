use Rattle.std.proofs.Common.{get_or, take, sym, ap, ◌∙◌, subst, arith, below_more}
use Rattle.plan.specs.Records.{blank}
use Rattle.analysis.specs.Drafts.{lines}
use Rattle.analysis.specs.Verdicts.{fails, Judges}
use Rattle.analysis.proofs.Counting.{time_missing, time_there}
use Rattle.analysis.proofs.Judging.{verdict_passes, verdict_fails, verdict_judges}
use Rattle.analysis.proofs.draft.Draft.check.Goals as goal

pub returns-then-is_none : goal.returns-then-is_none
returns-then-is_none g c =
    let i = c.loop-i.i in
    let k = g.S.Server.kind in
    let ls = lines c.args.self.now in
    let is = ap (fails 18) (omega arith) ∙ sym (verdict_fails k ls i (omega (arith, c.loop-i-test.true))
    (time_missing k (take i ls) (get_or ls i blank) c.response_time.result c.response_time.ensures c.if-is_none.ensures) c.loop-i.invariant) in
    record { answered = is; says = subst (Judges k ls) (sym is) (verdict_judges k ls) }

pub loop-i-preserved : goal.loop-i-preserved
loop-i-preserved g c =
    let i = c.loop-i.i in
    let ls = lines c.args.self.now in
    below_more _ _ c.loop-i.invariant
    (time_there g.S.Server.kind (take i ls) (get_or ls i blank) c.response_time.result c.response_time.ensures c.if-is_none.ensures)

pub returns : goal.returns
returns g c =
    let k = g.S.Server.kind in
    let ls = lines c.args.self.now in
    let is = sym (verdict_passes k ls (λ j below. c.loop-i.invariant j (omega (arith, below)))) in
    record { answered = is; says = subst (Judges k ls) (sym is) (verdict_judges k ls) }
