use Rattle.std.proofs.Common.{◌≡◌, ◌++◌, take}
use Rattle.text.specs.Written.{room, written}
use Rattle.report.specs.Rows.{rows}
use Rattle.report.proofs.ShownRows.{Left}
use Rattle.report.proofs.rows.push_rows.Given as goal

-- the text so far and the rows that are left make the whole
abbrev pub invariant-loop-i : goal.invariant-loop-i
invariant-loop-i l =
    let left = l.i-iterator.iter in
    Left l.plan l.i-iterator.count left.a.rest.now left.b.rest.now
    × (take room (written l.text ++ rows l.plan l.i-iterator.count left.b.rest.now) ≡ take room (written l.initial.text ++ rows l.plan 0 l.times))
