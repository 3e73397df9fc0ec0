-- Turns of a run: each is an offer, a tick and a fetch, and their answers go into a sum.
use Rattle.std.specs.Prelude.{ℕ, zero, suc, ◌+◌, ◌*◌, ◌%◌, ◌^◌, Some, None, Option}
use Rattle.server.specs.Kind.{Kind}
use Rattle.run.specs.declared.items.Completion.{Completion}
use Rattle.run.specs.Machine.{Machine, Tick, offered, ticked, fetched}
use Rattle.run.specs.Replies.{Reply, done, refused}

-- what an answer counts; a refusal counts its number
abbrev pub offer_value : Reply ℕ → ℕ
offer_value (done n) = n
offer_value (refused n) = n

abbrev pub tick_value : Reply Tick → ℕ
tick_value (done t) = t.number + t.line + t.ready
tick_value (refused n) = n

abbrev pub fetch_value : Option Completion → ℕ
fetch_value None = 0
fetch_value (Some c) = c.line + c.number + c.ticks

-- a sum in 64 bits that depends on the order
abbrev pub summed : (sum x : ℕ) → ℕ
summed sum x = (sum * 31 % 2 ^ 64 + x) % 2 ^ 64

module _ {k : Kind} where
  -- what a turn's answers count together, and the state that it leaves
  abbrev pub turn_value : (line amount : ℕ) → Machine k → ℕ
  turn_value line amount m =
      offer_value (offered line amount m).0
      + tick_value (ticked (offered line amount m).1).0
      + fetch_value (fetched (ticked (offered line amount m).1).1).0

  abbrev pub turned : (line amount : ℕ) → Machine k → Machine k
  turned line amount m = (fetched (ticked (offered line amount m).1).1).1

  -- the state after n turns: turn i offers to line i modulo the count of lines + 1, where line 0 is none
  abbrev pub after_turns : (lines amount : ℕ) → Machine k → ℕ → Machine k
  after_turns lines amount m zero = m
  after_turns lines amount m (suc n) = turned (n % (lines + 1)) amount (after_turns lines amount m n)

  -- the sum over n turns
  abbrev pub sum_turns : (lines amount : ℕ) → Machine k → ℕ → ℕ
  sum_turns lines amount m zero = 0
  sum_turns lines amount m (suc n) = summed (sum_turns lines amount m n) (turn_value (n % (lines + 1)) amount (after_turns lines amount m n))
