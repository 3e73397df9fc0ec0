use Rattle.std.proofs.Common.{◌≡◌, ℕ, ◌+◌}
use Rattle.script.specs.Words.{word}
use Rattle.script.proofs.words.word.Given as goal

-- the words that are left follow those that were passed
abbrev pub invariant-loop : goal.invariant-loop
invariant-loop l = (k : ℕ) → word l.words.rest.now k ≡ word l.line (l.counter + k)
