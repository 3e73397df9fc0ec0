-- The record that a refusal of a whole plan names is at most 21.
use Rattle.std.proofs.Common.{◌≡◌, ℕ, zero, suc, ◌/◌, ◌%◌, ◌≤◌, Bool, true, false, cond, eqb, List, length, refl, subst, arith, rules}
use Rattle.std.proofs.lemmas.Bool.{cond_both}
use Rattle.server.specs.Kind.{Kind}
use Rattle.plan.specs.Answers.{Answer, granted, refused, placed}
use Rattle.plan.specs.Records.{Decoded, line, fault, decoded}
use Rattle.plan.specs.declared.line.Line.{Line}
use Rattle.analysis.specs.Growth.{servers, joins, joins_if, added}
use Rattle.report.specs.Plans.{record_at, extended, further, lines_to, plan_for, plan_letter, kind_of}
use Rattle.report.specs.Results.{times_of, plan_times}
use Rattle.report.proofs.Extents.{lines_read}

joins_record : (k : Kind) (count server_count : ℕ) (l : Line) (number «record» byte : ℕ) → joins k count server_count l ≡ refused number «record» byte → «record» ≤ suc count
joins_record k count server_count l number «record» byte e = search rules

added_record : (k : Kind) (ls : List Line) (d : Decoded) (number «record» byte : ℕ)
    → joins_if k (length ls) (servers ls) (placed (suc (length ls)) d) ≡ refused number «record» byte → «record» ≤ suc (length ls)
added_record k ls (line l) number «record» byte e = joins_record k (length ls) (servers ls) l number «record» byte e
added_record k ls (fault n b) number «record» byte e =
    let same : cond (eqb n 1) 0 (suc (length ls)) ≡ «record» = cc in
    subst (λ r. r ≤ suc (length ls)) same (cond_both (eqb n 1) 0 (suc (length ls)) (λ r. r ≤ suc (length ls)) (λ _. omega arith) (λ _. omega arith))

module _ (k : Kind) (bs : List ℕ) (number «record» byte : ℕ) where
  extended_record : (ls : List Line) (a : Answer Line) → (a ≡ refused number «record» byte → «record» ≤ suc (length ls)) → extended ls a ≡ refused number «record» byte → «record» ≤ suc (length ls)
  extended_record ls (granted l) below e = let z : ◌≡◌ {A = ℕ} 0 1 = cc in absurd (omega arith)
  extended_record ls (refused n r b) below e =
      let same : (n ≡ number) × (r ≡ «record») × (b ≡ byte) = (cc, cc, cc) in
      below cc

  further_record : (n : ℕ) (a : Answer (List Line)) → ((ms : List Line) → a ≡ granted ms → length ms ≤ 20) → (a ≡ refused number «record» byte → «record» ≤ 21)
      → further k a (record_at bs n) ≡ refused number «record» byte → «record» ≤ 21
  unfolding added
  further_record n (granted ms) few before e =
      omega (arith, few ms refl, extended_record ms (added k ms (record_at bs n)) (added_record k ms (decoded (record_at bs n)) number «record» byte) e)
  further_record n (refused m r b) few before e = before e

  lines_record : (n : ℕ) → lines_to k bs n ≡ refused number «record» byte → «record» ≤ 21
  lines_record zero e = let z : ◌≡◌ {A = ℕ} 0 1 = cc in absurd (omega arith)
  lines_record (suc n) e = further_record n (lines_to k bs n) (λ ms is. (lines_read k bs n ms is).few) (lines_record n) e

  plan_record : plan_for k bs ≡ refused number «record» byte → «record» ≤ 21
  unfolding plan_for
  plan_record e = pick (eqb (length bs % 20) 0) e
    where
      pick : (b : Bool) → cond b (lines_to k bs (length bs / 20)) (refused 1 0 0) ≡ refused number «record» byte → «record» ≤ 21
      pick true e = lines_record (length bs / 20) e
      pick false e = let same : 0 ≡ «record» = cc in omega arith

  times_record : (a : Answer (List Line)) → plan_for k bs ≡ a → times_of k a ≡ refused number «record» byte → «record» ≤ 21
  times_record (granted ls) is e = let z : ◌≡◌ {A = ℕ} 0 1 = cc in absurd (omega arith)
  times_record (refused n r b) is e =
      let same : (n ≡ number) × (r ≡ «record») × (b ≡ byte) = (cc, cc, cc) in
      plan_record cc

pub refused_record : (bs : List ℕ) (number «record» byte : ℕ) → plan_times bs ≡ refused number «record» byte → «record» ≤ 21
unfolding plan_times
refused_record bs number «record» byte e =
    times_record (kind_of (plan_letter bs)) bs number «record» byte (plan_for (kind_of (plan_letter bs)) bs) refl e
