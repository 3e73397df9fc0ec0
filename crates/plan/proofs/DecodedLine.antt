-- A record that decodes to a line: it passes each check, and the line is within its bounds.
use Rattle.std.proofs.Common.{◌≡◌, ℕ, true, List, length, get_or, rules}
use Rattle.plan.specs.Bytes.{number}
use Rattle.plan.specs.Records.{line, is_letter, numbers, decoded, Fit}
use Rattle.plan.specs.declared.line.Line.{Line}
use Rattle.plan.specs.declared.line.Line.TheVariants.{Task, Server}

-- the checks that a record of the line l passes, but for those of its numbers
pub record Passes (bs : List ℕ) (l : Line) : Type 0 where
  pub long : length bs ≡ 20
  pub letter : is_letter (get_or bs 0 0) ≡ true
  pub zero1 : get_or bs 1 0 ≡ 0
  pub zero2 : get_or bs 2 0 ≡ 0
  pub zero3 : get_or bs 3 0 ≡ 0
  pub rest : numbers (get_or bs 0 0) (number bs 4) (number bs 8) (number bs 12) (number bs 16) ≡ line l

pub decoded_passes : (bs : List ℕ) (l : Line) → decoded bs ≡ line l → Passes bs l
unfolding decoded
decoded_passes bs l e = search rules

numbers_fit : (letter work period deadline first : ℕ) (l : Line) → is_letter letter ≡ true → numbers letter work period deadline first ≡ line l → Fit l
numbers_fit letter work period deadline first (Task t) known e = search rules
numbers_fit letter work period deadline first (Server s) known e = search rules

pub decoded_fit : (bs : List ℕ) (l : Line) → decoded bs ≡ line l → Fit l
decoded_fit bs l e =
    let p = decoded_passes bs l e in
    numbers_fit (get_or bs 0 0) (number bs 4) (number bs 8) (number bs 12) (number bs 16) l p.letter p.rest
