-- Reading a plan record by record.
use Rattle.std.proofs.Common.{◌≡◌, ℕ, zero, suc, ◌+◌, ◌-◌, ◌/◌, ◌%◌, ◌<◌, List, length, refl, sym, ap, ◌∙◌, zero-add, add-one, arith}
use Rattle.std.proofs.lemmas.Bool.{cond-true, cond-false, eq-eqb, ne_eqb}
use Rattle.server.specs.Kind.{Kind}
use Rattle.plan.specs.Answers.{Answer, granted, refused}
use Rattle.plan.specs.declared.line.Line.{Line}
use Rattle.analysis.specs.Growth.{added, grown, numbered}
use Rattle.report.specs.Plans.{record_at, extended, further, lines_to, plan_for}

module _ (ls : List Line) where
  extended_granted : (a : Answer Line) (n : ℕ) → numbered ls a ≡ granted n → extended ls a ≡ granted (grown ls a)
  extended_granted (granted l) n is = refl
  extended_granted (refused number «record» byte) n is = let z : ◌≡◌ {A = ℕ} 0 1 = cc in absurd (omega arith)

  extended_refused : (a : Answer Line) (number «record» byte : ℕ) → numbered ls a ≡ refused number «record» byte → extended ls a ≡ refused number «record» byte
  extended_refused (granted l) number «record» byte is = let z : ◌≡◌ {A = ℕ} 0 1 = cc in absurd (omega arith)
  extended_refused (refused n r b) number «record» byte is = let same : (n ≡ number) × (r ≡ «record») × (b ≡ byte) = (cc, cc, cc) in cc

module _ (k : Kind) (bs : List ℕ) where
  -- a record that adds a line
  pub lines_more : (i : ℕ) (ls : List Line) (bytes : List ℕ) (n : ℕ) → bytes ≡ record_at bs i → lines_to k bs i ≡ granted ls → numbered ls (added k ls bytes) ≡ granted n
      → lines_to k bs (i + 1) ≡ granted (grown ls (added k ls bytes))
  lines_more i ls bytes n here before is =
      ap (lines_to k bs) (add-one i) ∙ ap (λ a. further k a (record_at bs i)) before ∙ ap (λ xs. extended ls (added k ls xs)) (sym here)
      ∙ extended_granted ls (added k ls bytes) n is

  stays : (i d number «record» byte : ℕ) → lines_to k bs i ≡ refused number «record» byte → lines_to k bs (d + i) ≡ refused number «record» byte
  stays i zero number «record» byte is = ap (lines_to k bs) (zero-add i) ∙ is
  stays i (suc d) number «record» byte is =
      ap (lines_to k bs) (step d i) ∙ ap (λ a. further k a (record_at bs (d + i))) (stays i d number «record» byte is)
    where
      step : (d i : ℕ) → suc d + i ≡ suc (d + i)
      step d i = omega arith

  -- a record that is refused: so is the plan
  pub lines_stop : (i m : ℕ) (ls : List Line) (bytes : List ℕ) (number «record» byte : ℕ) → i < m → bytes ≡ record_at bs i → lines_to k bs i ≡ granted ls
      → numbered ls (added k ls bytes) ≡ refused number «record» byte → lines_to k bs m ≡ refused number «record» byte
  lines_stop i m ls bytes number «record» byte below here before is =
      let this : lines_to k bs (suc i) ≡ refused number «record» byte =
      ap (λ a. further k a (record_at bs i)) before ∙ ap (λ xs. extended ls (added k ls xs)) (sym here) ∙ extended_refused ls (added k ls bytes) number «record» byte is in
      ap (lines_to k bs) (reach i m below) ∙ stays (suc i) (m - suc i) number «record» byte this
    where
      reach : (i m : ℕ) → i < m → m ≡ m - suc i + suc i
      reach i m below = omega arith

  pub plan_whole : length bs % 20 ≡ 0 → plan_for k bs ≡ lines_to k bs (length bs / 20)
  unfolding plan_for
  plan_whole whole = cond-true _ _ _ (eq-eqb (length bs % 20) 0 whole)

  pub plan_broken : (length bs % 20 ≡ 0 → ⊥) → plan_for k bs ≡ refused 1 0 0
  unfolding plan_for
  plan_broken broken = cond-false _ _ _ (ne_eqb (length bs % 20) 0 broken)
