-- How long a whole plan is, and how large its times are.
use Rattle.std.proofs.Common.{◌≡◌, ℕ, zero, suc, ◌*◌, ◌/◌, ◌%◌, ◌≤◌, Bool, true, false, cond, eqb, List, [], ◌∷◌, ◌++◌, length, sym, refl, subst, ⊎_elim, div-mul-le_self, arith}
use Rattle.std.specs.List.{AllByRecursion}
use Rattle.std.proofs.ByRecursion.{All-push}
use Rattle.std.proofs.lemmas.List.{length_push}
use Rattle.std.proofs.lemmas.Bool.{cases_eq}
use Rattle.server.specs.Kind.{Kind}
use Rattle.plan.specs.Answers.{Answer, granted, refused}
use Rattle.plan.specs.Records.{Fit}
use Rattle.plan.specs.declared.line.Line.{Line}
use Rattle.plan.specs.declared.line.Line.TheVariants.{Task, Server}
use Rattle.analysis.specs.Equation.{limit}
use Rattle.analysis.specs.Growth.{added}
use Rattle.analysis.specs.Response.{time_of}
use Rattle.analysis.specs.Times.{times, times_below}
use Rattle.analysis.proofs.Counting.{time_solves}
use Rattle.analysis.proofs.Growing.{added_grants}
use Rattle.analysis.proofs.Sweeps.{times_length}
use Rattle.report.specs.Plans.{record_at, extended, further, lines_to, plan_for, plan_letter, kind_of}
use Rattle.report.specs.Results.{times_of, plan_times}

-- the lines of n records
pub record Read (n : ℕ) (ls : List Line) : Type 0 where
  pub many : length ls ≡ n
  pub few : length ls ≤ 20
  pub fit : AllByRecursion Fit ls

module _ (k : Kind) (bs : List ℕ) where
  read_more : (n : ℕ) (ms ls : List Line) (a : Answer Line) → added k ms (record_at bs n) ≡ a → Read n ms → extended ms a ≡ granted ls → Read (suc n) ls
  read_more n ms ls (granted l) is before e =
      let grants = added_grants k ms (record_at bs n) l is in
      let same : ls ≡ ms ++ (l ∷ []) = cc in
      subst (Read (suc n)) (sym same)
      (record {
        many = omega (arith, length_push ms l, before.many);
        few = omega (arith, length_push ms l, grants.room);
        fit = All-push Fit ms l before.fit grants.fit;
      })
  read_more n ms ls (refused number «record» byte) is before e = let z : ◌≡◌ {A = ℕ} 0 1 = cc in absurd (omega arith)

  read_step : (n : ℕ) (ls : List Line) (a : Answer (List Line)) → ((ms : List Line) → a ≡ granted ms → Read n ms) → further k a (record_at bs n) ≡ granted ls → Read (suc n) ls
  read_step n ls (granted ms) before e = read_more n ms ls (added k ms (record_at bs n)) refl (before ms refl) e
  read_step n ls (refused number «record» byte) before e = let z : ◌≡◌ {A = ℕ} 0 1 = cc in absurd (omega arith)

  pub lines_read : (n : ℕ) (ls : List Line) → lines_to k bs n ≡ granted ls → Read n ls
  lines_read zero ls e =
      let same : [] ≡ ls = cc in
      subst (Read 0) same (record { many = refl; few = omega arith; fit = tt })
  lines_read (suc n) ls e = read_step n ls (lines_to k bs n) (lines_read n) e

  plan_read : (ls : List Line) → plan_for k bs ≡ granted ls → Read (length bs / 20) ls
  unfolding plan_for
  plan_read ls e = pick (eqb (length bs % 20) 0) e
    where
      pick : (b : Bool) → cond b (lines_to k bs (length bs / 20)) (refused 1 0 0) ≡ granted ls → Read (length bs / 20) ls
      pick true e = lines_read (length bs / 20) ls e
      pick false e = let z : ◌≡◌ {A = ℕ} 0 1 = cc in absurd (omega arith)

  limit_small : (l : Line) → Fit l → limit l ≤ 1000000
  limit_small (Task t) fit = omega arith
  limit_small (Server s) fit = omega arith

  time_small : (above : List Line) (l : Line) → Fit l → time_of k above l ≤ 1000000
  time_small above l fit =
      ⊎_elim
      (λ (none : time_of k above l ≡ 0). omega arith)
      (λ (some : time_of k above l ≡ 0 → ⊥). omega (arith, (time_solves k above l some).within, limit_small l fit))
      (cases_eq (time_of k above l) 0)

  below_small : (above ls : List Line) → AllByRecursion Fit ls → AllByRecursion (λ t. t ≤ 1000000) (times_below k above ls)
  below_small above [] fit = tt
  below_small above (l ∷ ls) fit = (time_small above l fit.0, below_small (above ++ (l ∷ [])) ls fit.1)

-- the times of a whole plan: at most 20, each at most 1,000,000, and one for each record
pub record Extent (bs ts : List ℕ) : Type 0 where
  pub few : length ts ≤ 20
  pub small : AllByRecursion (λ t. t ≤ 1000000) ts
  pub whole : 20 * length ts ≤ length bs

times_extent : (k : Kind) (bs ts : List ℕ) (a : Answer (List Line)) → plan_for k bs ≡ a → times_of k a ≡ granted ts → Extent bs ts
unfolding times
times_extent k bs ts (granted ls) is e =
    let read = plan_read k bs ls is in
    let same : times k ls ≡ ts = cc in
    subst (Extent bs) same
    (record {
      few = omega (arith, times_length k ls, read.few);
      small = below_small k bs [] ls read.fit;
      whole = omega (arith, times_length k ls, read.many, div-mul-le_self (length bs) 20);
    })
times_extent k bs ts (refused number «record» byte) is e = let z : ◌≡◌ {A = ℕ} 0 1 = cc in absurd (omega arith)

pub plan_extent : (bs ts : List ℕ) → plan_times bs ≡ granted ts → Extent bs ts
unfolding plan_times
plan_extent bs ts e = times_extent (kind_of (plan_letter bs)) bs ts (plan_for (kind_of (plan_letter bs)) bs) refl e
