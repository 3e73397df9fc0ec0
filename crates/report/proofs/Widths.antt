-- The text of a plan fits its room.
use Rattle.std.proofs.Common.{ℕ, suc, ◌+◌, ◌*◌, ◌^◌, ◌<◌, ◌≤◌, eqb, List, [], ◌∷◌, ◌++◌, length, get_or, codes, decimal, arith, lit<}
use Rattle.std.specs.List.{AllByRecursion}
use Rattle.std.proofs.lemmas.Fmt.{length-decimal-le}
use Rattle.std.proofs.lemmas.List.{length-append}
use Rattle.std.proofs.lemmas.Bool.{cond_both}
use Rattle.analysis.specs.Verdicts.{fails, verdict_from}
use Rattle.text.specs.Written.{tagged}
use Rattle.report.specs.Rows.{row, rows, shown_time, verdict_row, fault_row}

time_width : (t : ℕ) → t ≤ 1000000 → length (shown_time t) ≤ 7
time_width t small =
    cond_both (eqb t 0) (codes "-") (decimal t) (λ xs. length xs ≤ 7) (λ none. omega arith)
    (λ some. length-decimal-le 7 t (lit< tt) (omega arith) (omega arith))

row_width : (n letter t : ℕ) → n ≤ 20 → t ≤ 1000000 → length (row n letter t) ≤ 13
unfolding row
row_width n letter t few small =
    simp length-append (omega (arith, length-decimal-le 2 n (lit< tt) (omega arith) (omega arith), time_width t small))

rows_width : (bs : List ℕ) (i : ℕ) (ts : List ℕ) → i + length ts ≤ 20 → AllByRecursion (λ t. t ≤ 1000000) ts → length (rows bs i ts) ≤ 13 * length ts
rows_width bs i [] few small = omega arith
rows_width bs i (t ∷ ts) few small =
    let this = row_width (suc i) (get_or bs (20 * i) 0) t (omega arith) small.0 in
    let rest = rows_width bs (suc i) ts (omega arith) small.1 in
    simp length-append (omega (arith, this, rest))

verdict_width : (i : ℕ) (ts : List ℕ) → i + length ts ≤ 99 → length (verdict_row (verdict_from i ts)) ≤ 9
unfolding tagged
verdict_width i [] few = omega arith
verdict_width i (t ∷ ts) few =
    cond_both (eqb t 0) (fails 18 i) (verdict_from (suc i) ts) (λ v. length (verdict_row v) ≤ 9)
    (λ none. simp length-append (omega (arith, length-decimal-le 2 i (lit< tt) (omega arith) (omega arith))))
    (λ some. verdict_width (suc i) ts (omega arith))

-- at most 20 lines
pub text_width : (bs ts : List ℕ) → length ts ≤ 20 → AllByRecursion (λ t. t ≤ 1000000) ts → length (rows bs 0 ts ++ verdict_row (verdict_from 1 ts)) ≤ 320
text_width bs ts few small =
    simp length-append (omega (arith, rows_width bs 0 ts (omega arith) small, verdict_width 1 ts (omega arith)))

pub fault_width : (number «record» byte : ℕ) → number ≤ 18 → «record» < 2 ^ 32 → byte < 2 ^ 32 → length (fault_row number «record» byte) ≤ 320
unfolding fault_row tagged
fault_width number «record» byte small a b =
    simp length-append
    (omega (arith, length-decimal-le 2 number (lit< tt) (omega arith) (omega arith), length-decimal-le 10 «record» (lit< tt) (omega arith) (omega arith), length-decimal-le 10 byte (lit< tt) (omega arith) (omega arith)))
