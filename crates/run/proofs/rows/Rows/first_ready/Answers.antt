use Rattle.std.proofs.Common.{◌≡◌, ◌+◌, true, false, take, sym, ap, ◌∙◌, arith}
use Rattle.std.proofs.lemmas.Bool.{cond-true, cond-false}
use Rattle.run.specs.Requests.{wanted}
use Rattle.run.specs.Rows.{ready_by}
use Rattle.run.specs.Views.{view}
use Rattle.run.proofs.ReadyRows.{first_more}
use Rattle.run.proofs.rows.Rows.first_ready.Goals as goal

pub loop-i-preserved : goal.loop-i-preserved
loop-i-preserved g c ws marks =
    let v = view g.S.Server in
    let want = marks c.loop-i.i (omega arith) in
    let none : ready_by (wanted (c.loop-i.i + 1) ws) (v c.row-item.result) ≡ false =
    sym (sym c.if-is_ready.false ∙ c.is_ready.ensures ∙ ap (λ w. ready_by w (v c.row-item.result)) want) in
    sym (first_more v ws (take c.args.self.now.count c.args.self.now.all) c.loop-i.i c.row-item.result c.loop-i-test.true c.row-item.is ∙ cond-false _ _ _ none)
    ∙ c.loop-i.invariant ws marks

pub returns-then-is_ready : goal.returns-then-is_ready
returns-then-is_ready g c ws marks =
    let v = view g.S.Server in
    let want = marks c.loop-i.i (omega arith) in
    let ready : ready_by (wanted (c.loop-i.i + 1) ws) (v c.row-item.result) ≡ true =
    sym (sym c.if-is_ready.true ∙ c.is_ready.ensures ∙ ap (λ w. ready_by w (v c.row-item.result)) want) in
    sym (first_more v ws (take c.args.self.now.count c.args.self.now.all) c.loop-i.i c.row-item.result c.loop-i-test.true c.row-item.is ∙ cond-true _ _ _ ready)
    ∙ c.loop-i.invariant ws marks
