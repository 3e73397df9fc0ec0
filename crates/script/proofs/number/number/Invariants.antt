use Rattle.std.proofs.Common.{◌≡◌, drop, Some}
use Rattle.script.proofs.Reading.{further}
use Rattle.script.proofs.number.number.Given as goal

abbrev pub invariant-loop-byte : goal.invariant-loop-byte
invariant-loop-byte l = further (Some l.value) (drop l.byte-index l.word) ≡ further (Some 0) l.word
