-- Answers by their numbers: each refusal's number, and a result read as what it decodes to.
use Rattle.std.specs.Prelude.{ℕ, cond, Ok, Err, Result, ◌==◌}
use Rattle.plan.specs.Records.{Decoded, line, fault}
use Rattle.plan.specs.declared.line.Line.{Line}
use Rattle.plan.specs.declared.fault.Refusal.{Refusal}
use Rattle.plan.specs.declared.fault.Refusal.TheVariants.{Length, Letter, Zeros, Period, Work, Deadline, Memory, Full, Servers, Foreign, Fails}
use Rattle.plan.specs.declared.fault.RecordFault.{RecordFault}
use Rattle.plan.specs.declared.fault.Fault.{Fault}

abbrev pub number_of : Refusal → ℕ
number_of Length = 1
number_of Letter = 2
number_of Zeros = 3
number_of Period = 4
number_of Work = 5
number_of Deadline = 6
number_of Memory = 9
number_of Full = 11
number_of Servers = 12
number_of Foreign = 13
number_of Fails = 18

-- what decoding one record answered
abbrev pub decodes : Result Line RecordFault → Decoded
decodes (Ok l) = line l
decodes (Err f) = fault (number_of f.refusal) f.byte

-- an answer: what was asked for, or a refusal's number with the record and the byte that it names
pub data Answer (A : Type 0) : Type 0 where
  granted : A → Answer A
  refused : (number «record» byte : ℕ) → Answer A

abbrev pub answer : {A : Type 0} → Result A Fault → Answer A
answer (Ok x) = granted x
answer (Err f) = refused (number_of f.refusal) f.«record» f.byte

-- a record's fault with the record's number; a fault of the length (1) names record 0
abbrev pub placed : ℕ → Decoded → Answer Line
placed n (line l) = granted l
placed n (fault number byte) = refused number (cond (number == 1) 0 n) byte

-- the fault of a record as a whole
abbrev pub whole_record : Refusal → ℕ → Fault
whole_record r n = record { refusal = r; «record» = n; byte = 0 }
