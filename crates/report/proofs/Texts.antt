-- The rows that were written are the text of the plan.
use Rattle.std.proofs.Common.{◌≡◌, ℕ, ◌^◌, ◌<◌, ◌≤◌, List, [], ◌++◌, take, sym, ap, ◌∙◌, arith}
use Rattle.text.specs.Written.{room}
use Rattle.text.proofs.Cuts.{added_twice, uncut}
use Rattle.plan.specs.Answers.{granted, refused, number_of}
use Rattle.plan.specs.declared.fault.Refusal.{Refusal}
use Rattle.plan.specs.declared.fault.Refusal.TheVariants.{Length, Letter, Zeros, Period, Work, Deadline, Memory, Full, Servers, Foreign, Fails}
use Rattle.analysis.specs.Verdicts.{verdict_from}
use Rattle.report.specs.Results.{plan_times}
use Rattle.report.specs.Rows.{rows, verdict_row, fault_row, shown, plan_text}
use Rattle.report.proofs.Extents.{plan_extent}
use Rattle.report.proofs.Widths.{text_width, fault_width}

module _ (bs w0 w1 : List ℕ) (new : w0 ≡ []) where
  pub shown_times : (ts w2 : List ℕ) → plan_times bs ≡ granted ts → w1 ≡ take room (w0 ++ rows bs 0 ts)
      → w2 ≡ take room (w1 ++ verdict_row (verdict_from 1 ts)) → w2 ≡ plan_text bs
  unfolding plan_text
  shown_times ts w2 is first then =
      let extent = plan_extent bs ts is in
      let whole = rows bs 0 ts ++ verdict_row (verdict_from 1 ts) in
      then
      ∙ ap (λ xs. take room (xs ++ verdict_row (verdict_from 1 ts))) (first ∙ ap (λ xs. take room (xs ++ rows bs 0 ts)) new)
      ∙ added_twice [] (rows bs 0 ts) (verdict_row (verdict_from 1 ts))
      ∙ uncut whole (text_width bs ts extent.few extent.small)
      ∙ ap (shown bs) (sym is)

  pub shown_fault : (number «record» byte : ℕ) → plan_times bs ≡ refused number «record» byte → number ≤ 18 → «record» < 2 ^ 32 → byte < 2 ^ 32
      → w1 ≡ take room (w0 ++ fault_row number «record» byte) → w1 ≡ plan_text bs
  unfolding plan_text
  shown_fault number «record» byte is small a b first =
      first
      ∙ ap (λ xs. take room (xs ++ fault_row number «record» byte)) new
      ∙ uncut (fault_row number «record» byte) (fault_width number «record» byte small a b)
      ∙ ap (shown bs) (sym is)

pub number_small : (r : Refusal) → number_of r ≤ 18
number_small Length = omega arith
number_small Letter = omega arith
number_small Zeros = omega arith
number_small Period = omega arith
number_small Work = omega arith
number_small Deadline = omega arith
number_small Memory = omega arith
number_small Full = omega arith
number_small Servers = omega arith
number_small Foreign = omega arith
number_small Fails = omega arith
