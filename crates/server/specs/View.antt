-- The terms that a `ServerTerms` holds, that they are within their bounds, and which lines of a plan give such terms.
use Rattle.std.specs.Prelude.{◌≡◌, ◌≤◌, ◌↔◌, Result, IsOk, IfOk}
use Rattle.plan.specs.declared.line.ServerLine.{ServerLine}
use Rattle.server.specs.Kind.{Terms, Fit}
use Rattle.server.specs.declared.terms.OutOfBounds.{OutOfBounds}
use Rattle.server.specs.declared.terms.ServerTerms.{ServerTerms}

abbrev pub terms_of : ServerTerms → Terms
terms_of g = record { letter = g.letter; budget = g.budget; period = g.period }

pub fit_of : (g : ServerTerms) → Fit (terms_of g)
fit_of g = record { some = g.some; within = g.within; short = g.short }

-- the terms that a server's line gives
abbrev pub terms_on : ServerLine → Terms
terms_on s = record { letter = s.letter; budget = s.budget; period = s.period }

-- what making the terms of a line gives: the line's terms, exactly if they are within the bounds
abbrev pub TermsFrom : ServerLine → Result ServerTerms OutOfBounds → Type 0
TermsFrom s r =
    (IsOk r ↔ (1 ≤ s.budget) × (s.budget ≤ s.period) × (s.period ≤ 1000000))
    × IfOk r (λ g. terms_of g ≡ terms_on s)
