-- What a whole plan's answer says of its times.
use Rattle.std.proofs.Common.{◌≡◌, ℕ, ◌≤◌, leb, List, length, refl, arith}
use Rattle.std.proofs.lemmas.Bool.{cond-true, le-leb}
use Rattle.plan.specs.Answers.{Answer, granted, refused}
use Rattle.report.specs.Results.{plan_times, counted}
use Rattle.report.proofs.Extents.{plan_extent}

-- a refusal where the times would have fit is the plan's own
times_refused : (a : Answer (List ℕ)) (room number «record» byte : ℕ) → ((ts : List ℕ) → a ≡ granted ts → length ts ≤ room)
    → refused number «record» byte ≡ counted a room → a ≡ refused number «record» byte
times_refused (granted ts) room number «record» byte fits e =
    let wide = cond-true (leb (length ts) room) (granted (length ts)) (refused 9 0 0) (le-leb (length ts) room (fits ts refl)) in
    let z : ◌≡◌ {A = ℕ} 0 1 = cc in
    absurd (omega arith)
times_refused (refused n r b) room number «record» byte fits e =
    let same : (n ≡ number) × (r ≡ «record») × (b ≡ byte) = (cc, cc, cc) in
    cc

-- what a caller with room for 20 times learns of a plan that is refused
pub plan_refused : (bs : List ℕ) (room number «record» byte : ℕ) → 20 ≤ room → refused number «record» byte ≡ counted (plan_times bs) room → plan_times bs ≡ refused number «record» byte
plan_refused bs room number «record» byte wide = times_refused (plan_times bs) room number «record» byte (λ ts is. omega (arith, (plan_extent bs ts is).few))
