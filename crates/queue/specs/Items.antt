use Rattle.std.specs.Prelude.{ℕ, min, List, length, take}
use Rattle.queue.specs.declared.bounded.Queue.{Queue}

-- how many items a queue can hold: 64, or as many as it has places where these are fewer
unfoldable pub room : {T : Type 0} → Queue T → ℕ
room q = min 64 (length q.places.now)

-- the items of a queue, oldest first: what stands in the places taken, of which none is past the room
unfoldable pub items : {T : Type 0} → Queue T → List T
items q = take q.taken q.places.now
