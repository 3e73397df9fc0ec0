-- A line and its record: each gives the other back.
use Rattle.std.proofs.Common.{◌≡◌, ℕ, ◌+◌, ◌^◌, ◌<◌, ◌≤◌, Bool, true, false, cond, eqb, List, [], ◌∷◌, ◌++◌, length, get_or, drop, ◌∙◌, arith, rules}
use Rattle.std.proofs.lemmas.List.{drop_more, drop_all}
use Rattle.plan.proofs.DecodedLine.{decoded_passes}
use Rattle.plan.proofs.NumberBytes.{four, number_bytes, bytes_number}
use Rattle.plan.specs.Bytes.{number}
use Rattle.plan.specs.Records.{Decoded, line, check, within, head, task, server, numbers, decoded, encoded, record_of, Fit}
use Rattle.plan.specs.declared.line.Line.{Line}
use Rattle.plan.specs.declared.line.Line.TheVariants.{Task, Server}

-- a record is read by its five parts
decoded_record : (letter work period deadline first : ℕ) → work < 2 ^ 32 → period < 2 ^ 32 → deadline < 2 ^ 32 → first < 2 ^ 32 →
    decoded (record_of letter (work ∷ period ∷ deadline ∷ first ∷ [])) ≡ head letter (0 ∷ 0 ∷ 0 ∷ []) (numbers letter work period deadline first)
unfolding decoded
decoded_record letter work period deadline first w p d f =
    rw (number_bytes work w, number_bytes period p, number_bytes deadline d, number_bytes first f)

pub decoded_encoded : (l : Line) → Fit l → decoded (encoded l) ≡ line l
unfolding encoded
decoded_encoded (Task t) fit = decoded_record 84 t.work t.period t.deadline t.first (omega arith) (omega arith) (omega arith) (omega arith) ∙ grind arith
decoded_encoded (Server s) fit = decoded_record s.letter s.budget s.period 0 0 (omega arith) (omega arith) (omega arith) (omega arith) ∙ grind arith

-- what comes after a check that is passed
passed : (b : Bool) (n k : ℕ) (rest : Decoded) (l : Line) → check b n k rest ≡ line l → rest ≡ line l
passed true n k rest l e = e
passed false n k rest l e = cc

-- the line that these five make has the record of them: first by its kind, then with the checks of period and work
kind_bytes : (letter work period deadline first : ℕ) (l : Line) → cond (eqb letter 84) (task work period deadline first) (server letter work period deadline first) ≡ line l →
    encoded l ≡ record_of letter (work ∷ period ∷ deadline ∷ first ∷ [])
unfolding encoded
kind_bytes letter work period deadline first (Task t) e =
    let same : (letter ≡ 84) × (t.work ≡ work) × (t.period ≡ period) × (t.deadline ≡ deadline) × (t.first ≡ first) = search rules in
    cc
kind_bytes letter work period deadline first (Server s) e =
    let same : (s.letter ≡ letter) × (s.budget ≡ work) × (s.period ≡ period) × (deadline ≡ 0) × (first ≡ 0) = search rules in
    cc

numbers_bytes : (letter work period deadline first : ℕ) (l : Line) → numbers letter work period deadline first ≡ line l → encoded l ≡ record_of letter (work ∷ period ∷ deadline ∷ first ∷ [])
numbers_bytes letter work period deadline first l e =
    kind_bytes letter work period deadline first l (passed (within 1 work period) 5 4 _ l (passed (within 1 period 1000000) 4 8 _ l e))

-- four bytes off the front of what is left of a list
drop_four : (bs : List ℕ) (k : ℕ) → k + 4 ≤ length bs → drop k bs ≡ four bs k ++ drop (k + 4) bs
drop_four bs k h =
    let a = drop_more bs k 0 (omega arith) in
    let b = drop_more bs (k + 1) 0 (omega arith) in
    let c = drop_more bs (k + 2) 0 (omega arith) in
    let d = drop_more bs (k + 3) 0 (omega arith) in
    let two : k + 1 + 1 ≡ k + 2 = omega arith in
    let three : k + 2 + 1 ≡ k + 3 = omega arith in
    let all : k + 3 + 1 ≡ k + 4 = omega arith in
    cc

-- a list of 20 bytes, four by four
fours : (bs : List ℕ) → length bs ≡ 20 → bs ≡ four bs 0 ++ (four bs 4 ++ (four bs 8 ++ (four bs 12 ++ four bs 16)))
fours bs long =
    let a = drop_four bs 0 (omega arith) in
    let b = drop_four bs 4 (omega arith) in
    let c = drop_four bs 8 (omega arith) in
    let d = drop_four bs 12 (omega arith) in
    let e = drop_four bs 16 (omega arith) in
    cc (drop_all 20 bs (omega arith))

pub encoded_decoded : (bs : List ℕ) → ((i : ℕ) → get_or bs i 0 < 256) → (l : Line) → decoded bs ≡ line l → encoded l ≡ bs
encoded_decoded bs below l e =
    let p = decoded_passes bs l e in
    let same = numbers_bytes (get_or bs 0 0) (number bs 4) (number bs 8) (number bs 12) (number bs 16) l p.rest in
    let listed = fours bs p.long in
    cc (bytes_number bs 4 below, bytes_number bs 8 below, bytes_number bs 12 below, bytes_number bs 16 below)
