-- A lawful kind holds something: with nothing ever held it would break its floor.
use Rattle.std.proofs.Common.{◌≡◌, ℕ, ◌+◌, true, false, leb, sym, refl, ap, ◌∙◌, arith}
use Rattle.std.proofs.lemmas.Bool.{false≢true}
use Rattle.server.specs.Kind.{Terms, Fit, Kind}
use Rattle.server.specs.Histories.{History, inside, ready}
use Rattle.server.specs.Laws.{Lawful, Alive}

-- always wanted, and never run
abbrev starved : History
starved = record { wanted = λ n. true; ran = λ n. false }

pub lawful_alive : (k : Kind) → Lawful k → Alive k
lawful_alive k lawful letter serves none =
    let t : Terms = record { letter = letter; budget = 1; period = 1 } in
    let fit : Fit t = record { some = omega arith; within = omega arith; short = omega arith } in
    let keeps = lawful t fit serves starved (λ n ran. absurd (false≢true ran)) in
    absurd (omega (arith, keeps.floor 0 (λ i below. record { asked = refl; given = λ ready. never t (0 + i) ready })))
  where
    never : (t : Terms) (n : ℕ) → ready k t starved n ≡ true → false ≡ true
    never t n is = sym (ap (leb 1) (none (inside k t starved n))) ∙ is
