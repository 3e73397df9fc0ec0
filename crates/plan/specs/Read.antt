-- The fields of a record by its bytes.
use Rattle.std.specs.Prelude.{ℕ, List, [], ◌∷◌, slice_index}
use Rattle.plan.specs.Bytes.{number}
use Rattle.plan.specs.declared.field.Fields.{Fields}

abbrev pub fields_of : List ℕ → Fields
fields_of bs = record {
  letter = slice_index bs 0;
  zeros = slice_index bs 1 ∷ slice_index bs 2 ∷ slice_index bs 3 ∷ [];
  work = number bs 4;
  period = number bs 8;
  deadline = number bs 12;
  first = number bs 16;
}
