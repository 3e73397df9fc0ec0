-- Which command a name and what follows it say.
use Rattle.std.proofs.Common.{◌≡◌, ℕ, List, length, None, Some, Option, MatchOption, IsSomeAnd, sym, ap, ◌∙◌}
use Rattle.std.proofs.lemmas.Slice.Eq.{HasBytesAt, text_from_reads}
use Rattle.std.specs.Option.{option_map}
use Rattle.script.specs.Commands.{long_named}
use Rattle.script.specs.declared.command.Command.{Command}

-- what `map` gives, by the function that it calls
pub mapped : {X Y : Type 0} (P : X → Y → Type 0) (f : X → Y) (o : Option X) (r : Option Y) → MatchOption o (r ≡ None) (λ x. IsSomeAnd r (P x))
    → ((x : X) (y : Y) → P x y → y ≡ f x) → r ≡ option_map f o
mapped P f None r none gives = none
mapped P f (Some x) None some gives = absurd some
mapped P f (Some x) (Some y) some gives = ap Some (gives x y some)

-- a name that was read byte by byte
pub by_name : {r : Option Command} (text name line : List ℕ) → r ≡ long_named text line → length name ≡ length text → HasBytesAt name 0 text → r ≡ long_named name line
by_name text name line is len reads = is ∙ ap (λ name. long_named name line) (sym (text_from_reads name text len reads))
