-- The requests that wait, earliest first.
use Rattle.std.specs.Prelude.{◌≡◌, ℕ, ◌+◌, ◌-◌, ◌<◌, Bool, false, cond, ◌&&◌, List, [], ◌∷◌, Some, None, Option, ◌==◌, nat_le, slice_index_or}
use Rattle.std.specs.List.{list_any}
use Rattle.run.specs.declared.items.Request.{Request}

-- the request waits for line i: it is one of that line, and still needs something
abbrev pub waits_for : ℕ → Request → Bool
waits_for i r = r.line == i && nat_le 1 r.left

-- some request waits for line i
abbrev pub wanted : ℕ → List Request → Bool
wanted i ws = list_any (waits_for i) ws

-- marks for lines 1 to 20, the first line's at place 0: whether a request waits for the line
abbrev pub Marks : List Request → List Bool → Type 0
Marks ws marks = (i : ℕ) → i < 20 → slice_index_or marks i false ≡ wanted (i + 1) ws

-- a request worked on for a tick
abbrev pub lessened : Request → Request
lessened r = record { line = r.line; number = r.number; offered = r.offered; left = r.left - 1 }

-- the earliest request that waits for line i
abbrev pub earliest : ℕ → List Request → Option Request
earliest i [] = None
earliest i (r ∷ rs) = cond (waits_for i r) (Some r) (earliest i rs)

-- that request is worked on for a tick; with nothing left to do it goes
abbrev pub served : ℕ → List Request → List Request
served i [] = []
served i (r ∷ rs) = cond (waits_for i r) (cond (r.left == 1) rs (lessened r ∷ rs)) (r ∷ served i rs)
