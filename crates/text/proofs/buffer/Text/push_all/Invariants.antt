use Rattle.std.proofs.Common.{◌≡◌, ◌++◌, take}
use Rattle.text.specs.Written.{room, written}
use Rattle.text.proofs.buffer.Text.push_all.Given as goal

abbrev pub invariant-loop-byte : goal.invariant-loop-byte
invariant-loop-byte l = written l.self ≡ take room (written l.initial.self ++ take l.byte-index l.bytes)
