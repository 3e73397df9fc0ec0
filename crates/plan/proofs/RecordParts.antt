-- A record of 20 bytes by its fields.
use Rattle.std.proofs.Common.{◌≡◌, ℕ, List, length}
use Rattle.plan.specs.Read.{fields_of}
use Rattle.plan.specs.Records.{Decoded, head, numbers, decoded}
use Rattle.plan.specs.declared.field.Fields.{Fields}

-- what its fields answer, the record decodes to
pub decoded_fields :
    (bs : List ℕ) → length bs ≡ 20 → (f : Fields) → f ≡ fields_of bs → (x : Decoded) →
    x ≡ head f.letter f.zeros (numbers f.letter f.work f.period f.deadline f.first) → x ≡ decoded bs
unfolding decoded
decoded_fields bs long f is x e = rw long (rw is at e)
