-- The times of a plan, one line after the other.
use Rattle.std.proofs.Common.{◌≡◌, ℕ, zero, suc, ◌+◌, ◌<◌, ◌≤◌, List, [], ◌∷◌, ◌++◌, length, get_or, take, drop, set, sym, refl, ap, ◌∙◌, append_assoc, arith}
use Rattle.std.proofs.lemmas.List.{take_more, drop_more, set_at, length-take-le, append-nil}
use Rattle.server.specs.Kind.{Kind}
use Rattle.plan.specs.declared.line.Line.{Line}
use Rattle.plan.specs.Records.{blank}
use Rattle.analysis.specs.Response.{time_of}
use Rattle.analysis.specs.Times.{times, times_below}

module _ (k : Kind) where
  below_length : (above ls : List Line) → length (times_below k above ls) ≡ length ls
  below_length above [] = refl
  below_length above (l ∷ ls) = ap suc (below_length (above ++ (l ∷ [])) ls)

  pub times_length : (ls : List Line) → length (times k ls) ≡ length ls
  unfolding times
  times_length ls = below_length [] ls

  below_push : (above ls : List Line) (l : Line) → times_below k above (ls ++ (l ∷ [])) ≡ times_below k above ls ++ (time_of k (above ++ ls) l ∷ [])
  below_push above [] l = ap (λ xs. time_of k xs l ∷ []) (sym (append-nil above))
  below_push above (x ∷ ls) l =
      ap (λ ts. time_of k above x ∷ ts)
      (below_push (above ++ (x ∷ [])) ls l ∙ ap (λ xs. times_below k (above ++ (x ∷ [])) ls ++ (time_of k xs l ∷ [])) (append_assoc above (x ∷ []) ls))

  -- one line more at the end
  pub times_push : (ls : List Line) (l : Line) → times k (ls ++ (l ∷ [])) ≡ times k ls ++ (time_of k ls l ∷ [])
  unfolding times
  times_push ls l = below_push [] ls l

  below_at : (above ls : List Line) (i : ℕ) → i < length ls → get_or (times_below k above ls) i 0 ≡ time_of k (above ++ take i ls) (get_or ls i blank)
  below_at above [] i within = absurd (omega arith)
  below_at above (l ∷ ls) zero within = ap (λ xs. time_of k xs l) (sym (append-nil above))
  below_at above (l ∷ ls) (suc i) within =
      below_at (above ++ (l ∷ [])) ls i (omega arith)
      ∙ ap (λ xs. time_of k xs (get_or ls i blank)) (append_assoc above (l ∷ []) (take i ls))

  -- the time at place i
  pub times_at : (ls : List Line) (i : ℕ) → i < length ls → get_or (times k ls) i 0 ≡ time_of k (take i ls) (get_or ls i blank)
  unfolding times
  times_at ls i within = below_at [] ls i within

  pub times_take : (ls : List Line) (i : ℕ) → i < length ls → times k (take (i + 1) ls) ≡ times k (take i ls) ++ (time_of k (take i ls) (get_or ls i blank) ∷ [])
  times_take ls i within = ap (times k) (take_more ls i blank within) ∙ times_push (take i ls) (get_or ls i blank)

  -- a loop that writes the time of line i over place i
  pub times_more : (ls : List Line) (out now : List ℕ) (i t : ℕ) → i < length ls → length ls ≤ length out
      → now ≡ times k (take i ls) ++ drop i out → t ≡ time_of k (take i ls) (get_or ls i blank)
      → set now i t ≡ times k (take (i + 1) ls) ++ drop (i + 1) out
  times_more ls out now i t within room before is =
      let long : length (times k (take i ls)) ≡ i = times_length (take i ls) ∙ length-take-le i ls (omega arith) in
      let rest : drop i out ≡ get_or out i 0 ∷ drop (i + 1) out = drop_more out i 0 (omega arith) in
      ap (λ xs. set xs i t) (before ∙ ap (λ xs. times k (take i ls) ++ xs) rest)
      ∙ set_at (times k (take i ls)) (get_or out i 0) (drop (i + 1) out) t i long
      ∙ ap (λ x. times k (take i ls) ++ (x ∷ drop (i + 1) out)) is
      ∙ sym (append_assoc (times k (take i ls)) (time_of k (take i ls) (get_or ls i blank) ∷ []) (drop (i + 1) out))
      ∙ ap (λ xs. xs ++ drop (i + 1) out) (sym (times_take ls i within))
