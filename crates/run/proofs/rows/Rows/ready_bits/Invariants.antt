use Rattle.std.proofs.Common.{◌≡◌, ◌^◌, ◌<◌, List, map, take}
use Rattle.run.specs.declared.items.Request.{Request}
use Rattle.run.specs.Requests.{Marks}
use Rattle.run.specs.Rows.{ready_bits}
use Rattle.run.specs.Views.{view}
use Rattle.run.proofs.rows.Rows.ready_bits.Given as goal

abbrev pub invariant-loop-i : goal.invariant-loop-i
invariant-loop-i g l =
    (l.bits < 2 ^ l.i) × ((ws : List Request) → Marks ws l.wants → l.bits ≡ ready_bits ws 1 (take l.i (map (view g.S.Server) l.row-items)))
