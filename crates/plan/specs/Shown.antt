-- A fault as text.
use Rattle.std.specs.Prelude.{ℕ, List, ◌++◌, codes, decimal}
use Rattle.plan.specs.Answers.{number_of}
use Rattle.plan.specs.declared.fault.Fault.{Fault}

-- the refusal's number, and the record and the byte that the fault names
abbrev pub fault_text : (number «record» byte : ℕ) → List ℕ
fault_text number «record» byte =
    codes "refused " ++ (decimal number ++ (codes " record " ++ (decimal «record» ++ (codes " byte " ++ decimal byte))))

abbrev pub shown_fault : Fault → List ℕ
shown_fault f = fault_text (number_of f.refusal) f.«record» f.byte
