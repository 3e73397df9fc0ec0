use Rattle.std.proofs.Common.{◌≡◌, ◌+◌, List, map, drop}
use Rattle.run.specs.declared.items.Request.{Request}
use Rattle.run.specs.Requests.{Marks}
use Rattle.run.specs.Rows.{first_ready}
use Rattle.run.specs.Views.{view, views}
use Rattle.run.proofs.rows.Rows.first_ready.Given as goal

-- no line so far is ready
abbrev pub invariant-loop-i : goal.invariant-loop-i
invariant-loop-i g l =
    (ws : List Request) → Marks ws l.wants → first_ready ws (l.i + 1) (drop l.i (map (view g.S.Server) l.row-items)) ≡ first_ready ws 1 (views g.S.Server l.self)
