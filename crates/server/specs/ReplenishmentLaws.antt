-- The laws of the list of pending replenishments.
use Rattle.std.specs.Prelude.{◌≡◌, ℕ, zero, suc, ◌+◌, ◌<◌, ◌≤◌, max, Bool, true, false, cond, List, [], ◌∷◌, ◌++◌, length, get_or, nat_lt, slice_index_or, slice_set, refl}
use Rattle.std.proofs.Common.{ap, length-append, arith}
use Rattle.std.proofs.lemmas.Bool.{lt-ltb, le-ltb, ltb-true, cond-true, cond-false, cond_both}
use Rattle.server.specs.declared.entry.Entry.{Entry}
use Rattle.server.specs.Replenishments.{total, added, merged, written}

pub entry_le_total : (es : List Entry) (k : ℕ) (d : Entry) → k < length es → (get_or es k d).amount ≤ total es
entry_le_total [] k d lt = omega arith
entry_le_total (e ∷ es) zero d lt = omega arith
entry_le_total (e ∷ es) (suc k) d lt = omega (arith, entry_le_total es k d (omega arith))

-- what is written is added to the total
pub total_push : (es : List Entry) (new : Entry) → total (es ++ new ∷ []) ≡ total es + new.amount
total_push [] new = omega arith
total_push (e ∷ es) new = omega (arith, total_push es new)

pub total_merged : (es : List Entry) (new : Entry) → total (merged es new) ≡ total es + new.amount
total_merged [] new = omega arith
total_merged (e ∷ []) new = omega arith
total_merged (e ∷ (f ∷ es)) new = omega (arith, total_merged (f ∷ es) new)

pub total_written : (es : List Entry) (new : Entry) → total (written es new) ≡ total es + new.amount
total_written es new = by (nat_lt (length es) 16)
  where
    by : (b : Bool) → total (cond b (es ++ new ∷ []) (merged es new)) ≡ total es + new.amount
    by true = total_push es new
    by false = total_merged es new

-- the latest entry is the one that changes
pub merged_is : (es : List Entry) (k : ℕ) (d new : Entry) → length es ≡ suc k → merged es new ≡ slice_set es k (added (slice_index_or es k d) new)
merged_is [] k d new len = absurd (omega arith)
merged_is (e ∷ []) zero d new len = refl
merged_is (e ∷ []) (suc k) d new len = absurd (omega arith)
merged_is (e ∷ (f ∷ es)) zero d new len = absurd (omega arith)
merged_is (e ∷ (f ∷ es)) (suc k) d new len = ap (λ rest. e ∷ rest) (merged_is (f ∷ es) k d new (omega arith))

-- the two ways to write: with room, and with 16 pending
pub written_room : (es : List Entry) (new : Entry) → length es < 16 → written es new ≡ es ++ new ∷ []
written_room es new room = cond-true (nat_lt (length es) 16) _ _ (lt-ltb (length es) 16 room)

pub written_full : (es : List Entry) (new : Entry) → 16 ≤ length es → written es new ≡ merged es new
written_full es new full = cond-false (nat_lt (length es) 16) _ _ (le-ltb (length es) 16 full)

-- at most one more is pending, and never more than 16
pub record Few (es all : List Entry) : Type 0 where
  pub one_more : length all ≤ suc (length es)
  pub bound : length all ≤ 16

length_merged : (es : List Entry) (new : Entry) → length (merged es new) ≤ max 1 (length es)
length_merged [] new = omega arith
length_merged (e ∷ []) new = omega arith
length_merged (e ∷ (f ∷ es)) new = omega (arith, length_merged (f ∷ es) new)

pub written_few : (es : List Entry) (new : Entry) → length es ≤ 16 → Few es (written es new)
written_few es new few =
    cond_both
    (nat_lt (length es) 16)
    _
    _
    (Few es)
    (λ e. omega (arith, ltb-true (length es) 16 e, length-append es (new ∷ [])))
    (λ e. omega (arith, length_merged es new))
