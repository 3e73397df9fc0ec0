use Rattle.std.proofs.Common.{◌≡◌, [], ◌++◌, take, sym, ap, ◌∙◌, rules}
use Rattle.text.specs.Written.{room, written}
use Rattle.text.proofs.Cuts.{none_added}
use Rattle.report.specs.Rows.{rows}
use Rattle.report.proofs.ShownRows.{left_all, one_less, row_added, rows_end}
use Rattle.report.proofs.rows.push_rows.Goals as goal

pub loop-i-init : goal.loop-i-init
loop-i-init c = search (rules, left_all)

pub loop-i-preserved : goal.loop-i-preserved
loop-i-preserved c =
    let it = c.loop-i.i-iterator in
    let left = c.loop-i.invariant.0 in
    let s = c.in-Some.ensures.steps in (
      one_less c.args.plan.now (written c.loop-i.text) it.count it.iter.a.rest.now it.iter.b.rest.now left _ _ _ _ _ s.2 s.0.0 s.0.1,
      row_added c.args.plan.now (written c.loop-i.text) it.count it.iter.a.rest.now it.iter.b.rest.now left _ _ _ _ _ _ _ s.2 s.1 s.0.0 s.0.1 c.push_row.ensures
          ∙ c.loop-i.invariant.1,
    )

pub returns : goal.returns
returns c =
    let it = c.loop-i.i-iterator in
    let end : rows c.args.plan.now it.count it.iter.b.rest.now ≡ [] =
    rows_end c.args.plan.now (written c.loop-i.text) it.count it.iter.a.rest.now it.iter.b.rest.now c.loop-i.invariant.0 (search rules) in
    sym (none_added c.loop-i.text) ∙ ap (λ xs. take room (written c.loop-i.text ++ xs)) (sym end) ∙ c.loop-i.invariant.1
