-- What a host written in C gets: one number as the answer, and 8 bytes for each line.
use Rattle.std.specs.Prelude.{ℕ, suc, ◌+◌, ◌*◌, cond, List, [], ◌∷◌, ◌++◌, length, drop, nat_le}
use Rattle.plan.specs.Answers.{Answer, granted, refused}
use Rattle.plan.specs.Bytes.{bytes}

-- a line's number and its time, for the lines from number n on
abbrev pub pairs : ℕ → List ℕ → List ℕ
pairs n [] = []
pairs n (t ∷ ts) = bytes n ++ (bytes t ++ pairs (suc n) ts)

-- a refusal as one number
abbrev pub coded : (number «record» : ℕ) → ℕ
coded number «record» = number * 1000 + «record»

-- the answer for the times of a plan and so many result bytes: 0, or a refusal; 9 where the bytes are too few
abbrev pub code : Answer (List ℕ) → ℕ → ℕ
code (granted ts) room = cond (nat_le (8 * length ts) room) 0 (coded 9 0)
code (refused number «record» byte) room = coded number «record»

-- the result bytes then: further bytes are untouched, and a refusal writes nothing
abbrev pub laid : Answer (List ℕ) → List ℕ → List ℕ
laid (granted ts) out = cond (nat_le (8 * length ts) (length out)) (pairs 1 ts ++ drop (8 * length ts) out) out
laid (refused number «record» byte) out = out
