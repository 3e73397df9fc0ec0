-- The lines of a text: each ends at a line feed, the last one also at the end of the text.
use denote.Ref.{Bor}
use Rattle.std.specs.Prelude.{◌≡◌, ℕ, ◌+◌, min, Bool, cond, List, [], ◌∷◌, IfSome, Some, None, Option, option_map, ◌==◌}
use Rattle.std.specs.List.{before_first, after_first}
use Rattle.script.specs.declared.lines.Lines.{Lines}
use Rattle.script.specs.Words.{is_empty}

abbrev pub is_feed : ℕ → Bool
is_feed b = b == 10

-- the first line of a text; none of an empty text
unfoldable pub first_line : List ℕ → Option (List ℕ)
first_line [] = None
first_line (b ∷ bs) = Some (before_first is_feed (b ∷ bs))

-- what follows the first line and its line feed
unfoldable pub after_line : List ℕ → List ℕ
after_line bs = after_first is_feed bs

-- a step over the lines, which are numbered from 1 up to 4,294,967,295: the first line with its number, and what follows it; none after the last
abbrev pub GivesLine : Lines → Option (ℕ × Bor (List ℕ)) → Lines → Type 0
GivesLine old given new =
    (option_map (λ l. l.1.now) given ≡ first_line old.rest.now)
    × (new.rest.now ≡ after_line old.rest.now)
    × (new.number ≡ cond (is_empty old.rest.now) old.number (min (old.number + 1) 4294967295))
    × IfSome given (λ l. l.0 ≡ new.number)
