-- The rows that have jobs.
use Rattle.std.specs.Prelude.{Some, None, Option}
use Rattle.server.specs.Kind.{Kind}
use Rattle.server.specs.declared.kind.Server.{Ghosts}
use Rattle.run.specs.declared.line.TaskLine.{TaskLine}
use Rattle.run.specs.Rows.{Row, task, server}

-- a task's line
abbrev pub view_task : {S : Type 0} (g : Ghosts S) → TaskLine → Row g.kind
view_task g r = task r.task r.unfinished r.next

-- a row, if it is a task's
abbrev pub task_of : {k : Kind} → Option (Row k) → Option (Row k)
task_of None = None
task_of (Some (server t state)) = None
task_of (Some (task t unfinished next)) = Some (task t unfinished next)
