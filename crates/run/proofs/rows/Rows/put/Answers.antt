use Rattle.std.proofs.Common.{map, take, set, ap, ◌∙◌}
use lib.Seq.{take-set-lt}
use Rattle.std.proofs.lemmas.List.{map-set}
use Rattle.run.specs.Views.{view}
use Rattle.run.proofs.rows.Rows.put.Goals as goal

pub returns-then-place-self : goal.returns-then-place-self
returns-then-place-self g c =
    let v = view g.S.Server in
    let rows = take c.args.self.now.count c.args.self.now.all in
    let place = c.saturating_sub-place in
    ap (map v) (take-set-lt c.args.self.now.count c.args.self.now.all place.result c.args.row c.if-place-self.true)
    ∙ map-set v rows place.result c.args.row
    ∙ ap (λ i. set (map v rows) i (v c.args.row)) place.ensures
