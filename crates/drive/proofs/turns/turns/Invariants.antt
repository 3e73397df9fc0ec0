use Rattle.std.proofs.Common.{◌≡◌}
use Rattle.run.specs.Sessions.{played}
use Rattle.drive.specs.Turns.{after_turns, sum_turns}
use Rattle.drive.proofs.turns.turns.Given as goal

-- the sum and the state after i turns
abbrev pub invariant-loop-i : goal.invariant-loop-i
invariant-loop-i g l =
    let m = played g.S.Server l.initial.session in
    (l.sum ≡ sum_turns l.lines l.amount m l.i) × (played g.S.Server l.session ≡ after_turns l.lines l.amount m l.i)
