-- The kinds of server, by their letters.
use Rattle.std.specs.Prelude.{◌≡◌, ℕ, cond, ◌==◌, Some, None, Option, Result}
use Rattle.std.specs.Option.{ok_or}
use Rattle.plan.specs.declared.kind.ServerKind.{ServerKind}
use Rattle.plan.specs.declared.kind.ServerKind.TheVariants.{Polling, Deferrable, Sporadic}
use Rattle.plan.specs.declared.kind.UnknownLetter.{UnknownLetter}

abbrev pub kind_letter : ServerKind → ℕ
kind_letter Polling = 80
kind_letter Deferrable = 68
kind_letter Sporadic = 83

-- the kind that a letter names
abbrev pub kind_of : ℕ → Option ServerKind
kind_of letter = cond (letter == 80) (Some Polling) (cond (letter == 68) (Some Deferrable) (cond (letter == 83) (Some Sporadic) None))

-- what asking for a letter's kind gives: the kind that it names, or the letter back where it names none
abbrev pub Names : ℕ → Result ServerKind UnknownLetter → Type 0
Names letter r = r ≡ ok_or (kind_of letter) (record { 0 = letter })
