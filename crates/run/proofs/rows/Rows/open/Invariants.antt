use Rattle.std.proofs.Common.{◌≡◌, List, map}
use Rattle.run.specs.declared.items.Request.{Request}
use Rattle.run.specs.Requests.{Marks}
use Rattle.run.specs.Rows.{opened}
use Rattle.run.specs.Views.{view, views}
use Rattle.run.proofs.RowByRow.{done_to}
use Rattle.run.proofs.rows.Rows.open.Given as goal

-- the first i lines are done
abbrev pub invariant-loop-i : goal.invariant-loop-i
invariant-loop-i g l =
    (ws : List Request) → Marks ws l.wants → map (view g.S.Server) l.row-items ≡ done_to (opened l.time ws) l.i (views g.S.Server l.fn.self)
