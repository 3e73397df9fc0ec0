use Rattle.std.proofs.Common.{subst, rules}
use Rattle.queue.specs.Items.{items}
use Rattle.run.specs.Requests.{Marks}
use Rattle.run.proofs.run.Run.advance.Goals as goal

pub returns-clause-answered : goal.returns-clause-answered
returns-clause-answered g c =
    let ws = items c.args.requests.now in
    let marks = subst (λ xs. Marks xs c.wanted_lines-wants.result) c.as_slice.ensures.items c.wanted_lines-wants.ensures in
    let rows = c.open.ensures ws marks in
    let line = c.choice-ticked.ensures.line ws marks in
    let ready = c.choice-ticked.ensures.ready ws marks in
    search rules

pub returns-clause-after : goal.returns-clause-after
returns-clause-after g c =
    let ws = items c.args.requests.now in
    let marks = subst (λ xs. Marks xs c.wanted_lines-wants.result) c.as_slice.ensures.items c.wanted_lines-wants.ensures in
    let rows = c.open.ensures ws marks in
    let line = c.choice-ticked.ensures.line ws marks in
    search rules
