-- The records of a plan as the chunks of its bytes.
use Rattle.std.proofs.Common.{◌≡◌, ℕ, zero, suc, ◌+◌, ◌-◌, ◌*◌, ◌/◌, ◌<◌, Bool, true, false, cond, List, length, get_or, take, drop, Option, Some, Result, find, refl, ap, ◌∙◌, arith}
use Rattle.std.specs.Option.{unwrap_or}
use Rattle.std.specs.Simd.{first_chunks}
use Rattle.std.proofs.lemmas.Grind.{common_steps}
use Rattle.std.proofs.lemmas.List.{drop-drop, get_or-take, get_or-drop}
use Rattle.std.specs.Result.{result_unwrap_or}
use Rattle.plan.specs.Records.{is_server}
use Rattle.plan.specs.Kinds.{kind_letter, Names}
use Rattle.plan.specs.declared.kind.ServerKind.{ServerKind}
use Rattle.plan.specs.declared.kind.ServerKind.TheVariants.{Polling}
use Rattle.plan.specs.declared.kind.UnknownLetter.{UnknownLetter}
use Rattle.report.specs.Plans.{letters, plan_letter, record_at, server_from}

-- the record at place i
chunk_at : (bs : List ℕ) (i n : ℕ) (d : List ℕ) → i < n → get_or (first_chunks 20 n bs) i d ≡ record_at bs i
chunk_at bs i zero d below = absurd (omega arith)
chunk_at bs zero (suc n) d below = refl
chunk_at bs (suc i) (suc n) d below =
    let place : 20 + 20 * i ≡ 20 * suc i = omega arith in
    let width : 20 * i + 20 - 20 * i ≡ 20 * suc i + 20 - 20 * suc i = omega arith in
    chunk_at (drop 20 bs) i n d (omega arith)
    ∙ ap (take (20 * i + 20 - 20 * i)) (drop-drop (20 * i) 20 bs ∙ ap (λ k. drop k bs) place)
    ∙ ap (λ k. take k (drop (20 * suc i) bs)) width

pub record_of : (bs : List ℕ) (records : List (List ℕ)) (i n : ℕ) (d : List ℕ) → records ≡ first_chunks 20 n bs → i < n → get_or records i d ≡ record_at bs i
record_of bs records i n d front below = ap (λ xs. get_or xs i d) front ∙ chunk_at bs i n d below

-- its letter
pub letter_at : (bs : List ℕ) (i n : ℕ) (d : List ℕ) → i < n → get_or (get_or (first_chunks 20 n bs) i d) 0 0 ≡ get_or bs (20 * i) 0
letter_at bs i n d below =
    let start : 20 * i + 0 ≡ 20 * i = omega arith in
    ap (λ xs. get_or xs 0 0) (chunk_at bs i n d below)
    ∙ get_or-take (20 * i + 20 - 20 * i) (drop (20 * i) bs) 0 0 (omega arith)
    ∙ get_or-drop (20 * i) bs 0 0
    ∙ ap (λ k. get_or bs k 0) start

-- the letter of the first server, from the record at place i on
letters_from : (bs : List ℕ) (i n : ℕ) → server_from bs i n ≡ unwrap_or (find is_server (letters (first_chunks 20 n (drop (20 * i) bs)))) 80
letters_from bs i zero = refl
letters_from bs i (suc n) =
    let start : 20 * i + 0 ≡ 20 * i = omega arith in
    let end : 20 * i + 20 ≡ 20 * suc i = omega arith in
    let letter : get_or (take 20 (drop (20 * i) bs)) 0 0 ≡ get_or bs (20 * i) 0 =
    get_or-take 20 (drop (20 * i) bs) 0 0 (omega arith) ∙ get_or-drop (20 * i) bs 0 0 ∙ ap (λ k. get_or bs k 0) start in
    let past : drop 20 (drop (20 * i) bs) ≡ drop (20 * suc i) bs = drop-drop 20 (20 * i) bs ∙ ap (λ k. drop k bs) end in
    rw (letter, past) (pick (is_server (get_or bs (20 * i) 0)) (get_or bs (20 * i) 0) _ _ (letters_from bs (suc i) n))
  where
    pick : (b : Bool) (letter rest : ℕ) (o : Option ℕ) → rest ≡ unwrap_or o 80 → cond b letter rest ≡ unwrap_or (cond b (Some letter) o) 80
    pick true letter rest o is = refl
    pick false letter rest o is = is

pub first_letter : (bs : List ℕ) (n : ℕ) → server_from bs 0 n ≡ unwrap_or (find is_server (letters (first_chunks 20 n bs))) 80
first_letter bs n = letters_from bs 0 n

-- a letter that names a kind, read as that kind
letter_kind : (letter : ℕ) (r : Result ServerKind UnknownLetter) → Names letter r → is_server letter ≡ true → kind_letter (result_unwrap_or r Polling) ≡ letter
letter_kind letter r names server = grind (arith, common_steps)

serves_from : (bs : List ℕ) (i n : ℕ) → is_server (server_from bs i n) ≡ true
serves_from bs i zero = refl
serves_from bs i (suc n) = pick (is_server (get_or bs (20 * i) 0)) (get_or bs (20 * i) 0) _ refl (serves_from bs (suc i) n)
  where
    pick : (b : Bool) (letter rest : ℕ) → is_server letter ≡ b → is_server rest ≡ true → is_server (cond b letter rest) ≡ true
    pick true letter rest this others = this
    pick false letter rest this others = others

pub plan_kind_letter : (bs : List ℕ) (r : Result ServerKind UnknownLetter) → Names (plan_letter bs) r → kind_letter (result_unwrap_or r Polling) ≡ plan_letter bs
unfolding plan_letter
plan_kind_letter bs r names = letter_kind (plan_letter bs) r names (serves_from bs 0 (length bs / 20))
