-- A table of pending replenishments that is full, against the list.
use Rattle.std.proofs.Common.{◌≡◌, ℕ, ◌≤◌, List, length, get_or, take, set, sym, ◌∙◌, arith}
use Rattle.std.proofs.lemmas.List.{take_all, length-set}
use Rattle.server.specs.declared.entry.Entry.{Entry}
use Rattle.server.specs.Replenishments.{added, written}
use Rattle.server.specs.ReplenishmentLaws.{merged_is, written_full}

-- a new entry is added to the latest
pub table_full :
    (es : List Entry) (n : ℕ) (new d : Entry) → length es ≡ 16 → 16 ≤ n →
    take n (set es 15 (added (get_or es 15 d) new)) ≡ written (take n es) new
table_full es n new d len full =
    let whole = take_all n es (omega arith) in
    let size = length-set es 15 (added (get_or es 15 d) new) in
    let kept = take_all n (set es 15 (added (get_or es 15 d) new)) (omega arith) in
    rw whole (kept ∙ sym (merged_is es 15 d new len) ∙ sym (written_full es new (omega arith)))
