-- The lines of a draft and of an admitted plan.
use Rattle.std.specs.Prelude.{List}
use Rattle.server.specs.declared.kind.Server.{Ghosts}
use Rattle.plan.specs.declared.line.Line.{Line}
use Rattle.analysis.specs.declared.draft.Draft.{Draft}

abbrev pub lines : {S : Type 0} {g : Ghosts S} → Draft S g → List Line
lines d = d.lines.items
