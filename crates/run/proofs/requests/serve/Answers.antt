use Rattle.std.proofs.Common.{position, ap, ◌∙◌}
use Rattle.queue.specs.Items.{items}
use Rattle.run.specs.Requests.{waits_for}
use Rattle.run.proofs.Serving.{found_out}
use Rattle.run.proofs.requests.serve.Goals as goal

pub returns-then-request-eq1-clause-items : goal.returns-then-request-eq1-clause-items
returns-then-request-eq1-clause-items c =
    let found = c.in_ok-place.ensures ∙ ap (position (waits_for c.args.line)) c.as_slice.ensures.items in
    c.take.ensures.items ∙ found_out c.args.line (items c.args.requests.now) _ found _ c.in_ok-request.ensures c.if-request-eq1.true
