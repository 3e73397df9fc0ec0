use Rattle.std.proofs.Common.{◌≡◌, map, take}
use Rattle.run.specs.Rows.{fresh}
use Rattle.run.specs.Views.{view}
use Rattle.run.proofs.rows.Rows.new.Given as goal

-- the first i lines have their rows
abbrev pub invariant-loop-i : goal.invariant-loop-i
invariant-loop-i g l = map (view g.S.Server) (take l.i l.all) ≡ map fresh (take l.i l.lines)
