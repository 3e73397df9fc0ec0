-- What is known of a line that a record adds.
use Rattle.std.proofs.Common.{◌≡◌, ℕ, suc, ◌+◌, ◌<◌, true, List, length, refl, ap, arith, rules}
use Rattle.server.specs.Kind.{Kind}
use Rattle.server.specs.declared.kind.Server.{Ghosts}
use Rattle.plan.specs.Answers.{Answer, granted, placed}
use Rattle.plan.specs.Records.{Decoded, line, fault, decoded, Fit}
use Rattle.plan.specs.declared.line.Line.{Line}
use Rattle.plan.proofs.DecodedLine.{decoded_fit}
use Rattle.analysis.specs.Drafts.{lines}
use Rattle.analysis.specs.Growth.{servers, served, joins, joins_if, added}
use Rattle.analysis.specs.declared.draft.Draft.{Draft}

-- a line that is granted is within its bounds, has room, and is served
pub record Grants (k : Kind) (ls : List Line) (l : Line) : Type 0 where
  pub fit : Fit l
  pub room : length ls < 20
  pub known : served k l ≡ true

joins_granted : (k : Kind) (count server_count : ℕ) (l m : Line) → joins k count server_count l ≡ granted m → (m ≡ l) × (count < 20) × (served k l ≡ true)
joins_granted k count server_count l m e = search rules

module _ (k : Kind) (ls : List Line) (bs : List ℕ) where
  -- what is added, by the numbers that a draft counts
  added_from : (count server_count : ℕ) → count ≡ length ls → server_count ≡ servers ls → (a : Answer Line) → a ≡ placed (count + 1) (decoded bs) → added k ls bs ≡ joins_if k count server_count a
  unfolding added
  added_from count server_count long many a is =
      let next : count + 1 ≡ suc (length ls) = omega arith in
      let same : placed (count + 1) (decoded bs) ≡ placed (suc (length ls)) (decoded bs) = ap (λ n. placed n (decoded bs)) next in
      cc

  grants : (l : Line) (d : Decoded) → decoded bs ≡ d → joins_if k (length ls) (servers ls) (placed (suc (length ls)) d) ≡ granted l → Grants k ls l
  grants l (line m) is e =
      let j = joins_granted k (length ls) (servers ls) m l e in
      record { fit = rw j.0 (decoded_fit bs m is); room = j.1; known = rw j.0 j.2 }
  grants l (fault number byte) is e = let z : ◌≡◌ {A = ℕ} 0 1 = cc in absurd (omega arith)

  pub added_grants : (l : Line) → added k ls bs ≡ granted l → Grants k ls l
  unfolding added
  added_grants l e = grants l (decoded bs) refl e

-- of a draft
pub added_to : (k : Kind) {S : Type 0} {g : Ghosts S} (d : Draft S g) (bs : List ℕ) (count server_count : ℕ) → count ≡ length (lines d) → server_count ≡ servers (lines d) → (a : Answer Line) → a ≡ placed (count + 1) (decoded bs)
    → added k (lines d) bs ≡ joins_if k count server_count a
added_to k d bs count server_count long many a is = added_from k (lines d) bs count server_count long many a is
