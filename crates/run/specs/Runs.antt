-- A run and its two queues as a machine.
use Rattle.server.specs.declared.kind.Server.{Ghosts}
use Rattle.queue.specs.Items.{items, room}
use Rattle.queue.specs.declared.bounded.Queue.{Queue}
use Rattle.run.specs.declared.items.Completion.{Completion}
use Rattle.run.specs.declared.items.Request.{Request}
use Rattle.run.specs.declared.run.Run.{Run}
use Rattle.run.specs.Machine.{Machine}
use Rattle.run.specs.Views.{views}

-- the state of a run with these queues, its servers by their meaning g
abbrev pub machine : {S : Type 0} (g : Ghosts S) → Run S → Queue Request → Queue Completion → Machine g.kind
machine g r requests completions = record {
  time = r.time;
  rows = views g r.rows;
  offers = r.offers;
  waiting = items requests;
  waiting_room = room requests;
  completed = items completions;
  completed_room = room completions;
}
