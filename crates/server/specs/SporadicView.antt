-- The state that a `Sporadic` is in.
use Rattle.server.specs.declared.sporadic.Sporadic.{Sporadic}
use Rattle.server.specs.PendingView.{pending_of}
use Rattle.server.specs.SporadicKind.{SporadicState}

abbrev pub state_of : Sporadic → SporadicState
state_of s = record {
  held = s.held;
  entries = pending_of s.pending;
  first = s.first;
  slice = s.slice;
  tick = s.tick;
}
