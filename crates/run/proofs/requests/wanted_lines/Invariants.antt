use Rattle.std.proofs.Common.{◌≡◌, ℕ, ◌+◌, ◌<◌, false, get_or, take}
use Rattle.run.specs.Requests.{wanted}
use Rattle.run.proofs.requests.wanted_lines.Given as goal

-- a line is marked by the requests so far
abbrev pub invariant-loop-request : goal.invariant-loop-request
invariant-loop-request l = (i : ℕ) → i < 20 → get_or l.wants i false ≡ wanted (i + 1) (take l.request-index l.requests)
