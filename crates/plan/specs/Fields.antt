-- The fault of a field as the fault of its record: its refusal, and the byte where the field begins.
use Rattle.plan.specs.Answers.{decodes}
use Rattle.plan.specs.Records.{Decoded, line}
use Rattle.plan.specs.declared.fault.FieldFault.{FieldFault}
use Rattle.plan.specs.declared.fault.RecordFault.{RecordFault}
use Rattle.plan.specs.declared.fault.Refusal.{Refusal}
use Rattle.plan.specs.declared.line.Line.{Line}
use Rattle.std.specs.Prelude.{Ok, Err, Result}

abbrev pub located : FieldFault → RecordFault
located FieldFault.Letter = record { refusal = Refusal.Letter; byte = 0 }
located (FieldFault.Zero place) = record { refusal = Refusal.Zeros; byte = place }
located FieldFault.Period = record { refusal = Refusal.Period; byte = 8 }
located FieldFault.Work = record { refusal = Refusal.Work; byte = 4 }
located FieldFault.Deadline = record { refusal = Refusal.Deadline; byte = 12 }
located FieldFault.First = record { refusal = Refusal.Deadline; byte = 16 }

-- what reading the fields of a record answered
abbrev pub reads : Result Line FieldFault → Decoded
reads (Ok l) = line l
reads (Err f) = decodes (Err (located f))

-- the rest of a record whose first fields were read so
abbrev pub then : {A : Type 0} → Result A FieldFault → Decoded → Decoded
then (Ok x) rest = rest
then (Err f) rest = decodes (Err (located f))
