-- The lines of the code as rows of the machine.
use Rattle.std.specs.Prelude.{◌≡◌, List, map, take}
use Rattle.server.specs.declared.kind.Server.{Ghosts}
use Rattle.run.specs.declared.line.RunLine.{RunLine}
use Rattle.run.specs.declared.line.RunLine.TheVariants.{Task, Server}
use Rattle.run.specs.declared.rows.Rows.{Rows}
use Rattle.run.specs.Rows.{Row, task, server}

-- a line, its servers by their meaning g
abbrev pub view : {S : Type 0} (g : Ghosts S) → RunLine S → Row g.kind
view g (Task r) = task r.task r.unfinished r.next
view g (Server s) = server (g.terms s) (g.state s)

-- the lines of a run in their places
abbrev pub views : {S : Type 0} (g : Ghosts S) → Rows S → List (Row g.kind)
views g rows = map (view g) (take rows.count rows.all)

-- what stands in the places that no line has taken: a task of zeros
abbrev pub IsUnused : {S : Type 0} → RunLine S → Type 0
IsUnused (Task r) = (r.task ≡ record { work = 0; period = 0; deadline = 0; first = 0 }) × (r.unfinished ≡ 0) × (r.next ≡ 0)
IsUnused (Server s) = ⊥
