-- A run with its own two queues as a machine.
use denote.Signature.{static_lft}
use Rattle.std.specs.Borrow.{RattleType}
use Rattle.std.specs.Mem.{FitsInMemory}
use Rattle.server.specs.declared.kind.Server.{Ghosts}
use Rattle.run.specs.contracts.session.Session.{the_row}
use Rattle.run.specs.declared.session.Session.{Session}
use Rattle.run.specs.Machine.{Machine}
use Rattle.run.specs.Runs.{machine}

-- the state of a session, its servers by their meaning g
abbrev pub played : {S : Type 0} (g : Ghosts S) → Session S → Machine g.kind
played g s = machine g s.run s.requests s.completions

-- a session is no larger than memory; a function that makes one for a type that its caller chooses asks for this.
-- The lifetime of its queues is of no weight
abbrev pub SessionFitsInMemory : (S : RattleType) → Type 0
SessionFitsInMemory S = FitsInMemory (the_row static_lft S)
