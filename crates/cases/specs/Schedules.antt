-- Schedules: what the ticks of a run choose, and what ends, as calls are tried one after the other.
use Rattle.std.specs.Prelude.{ℕ, zero, suc, List, [], ◌∷◌, ◌++◌}
use Rattle.server.specs.Kind.{Kind}
use Rattle.run.specs.declared.items.Completion.{Completion}
use Rattle.run.specs.Machine.{Machine, Tick, ticked}
use Rattle.run.specs.Replies.{Reply, done, refused}
use Rattle.run.specs.Tries.{Call, tick, offer, finish, fetch, ask, tried, makes}

abbrev pub line_of : Reply Tick → List ℕ
line_of (done t) = t.line ∷ []
line_of (refused number) = []

module _ {k : Kind} where
  -- the line that a call chooses, if it is a tick that is granted
  abbrev pub chooses : Call → Machine k → List ℕ
  chooses tick m = line_of (ticked m).0
  chooses (offer line amount) m = []
  chooses (finish line) m = []
  chooses fetch m = []
  chooses (ask line) m = []

  -- the lines chosen, tick by tick, the calls in the order in which they are tried
  abbrev pub schedule : Machine k → List Call → List ℕ
  schedule m [] = []
  schedule m (c ∷ cs) = chooses c m ++ schedule (tried c m) cs

  -- the completions made
  abbrev pub endings : Machine k → List Call → List Completion
  endings m [] = []
  endings m (c ∷ cs) = makes c m ++ endings (tried c m) cs

-- so many ticks, and then further calls
abbrev pub ticks : ℕ → List Call → List Call
ticks zero rest = rest
ticks (suc n) rest = tick ∷ ticks n rest
