-- The answers of the code, by their numbers.
use Rattle.std.specs.Prelude.{ℕ, List, [], ◌∷◌, Some, None, Ok, Err, Option, Result}
use Rattle.run.specs.declared.refusal.RunRefusal.{RunRefusal}
use Rattle.run.specs.declared.refusal.RunRefusal.TheVariants.{Line, Amount, Requests, Completions, Time, Job}
use Rattle.run.specs.declared.answers.Ticked.{Ticked}
use Rattle.run.specs.Machine.{Tick}
use Rattle.run.specs.Replies.{Reply, done, refused}

abbrev pub refusal_number : RunRefusal → ℕ
refusal_number Line = 7
refusal_number Amount = 8
refusal_number Requests = 14
refusal_number Completions = 15
refusal_number Time = 16
refusal_number Job = 17

-- what was answered
abbrev pub reply : {A : Type 0} → Result A RunRefusal → Reply A
reply (Ok x) = done x
reply (Err r) = refused (refusal_number r)

-- what a tick answered
abbrev pub tick_of : Ticked → Tick
tick_of t = record { number = t.number; line = t.line; ready = t.ready }

abbrev pub tick_reply : Result Ticked RunRefusal → Reply Tick
tick_reply (Ok t) = done (tick_of t)
tick_reply (Err r) = refused (refusal_number r)

-- none or one, as a list
abbrev pub listed : {A : Type 0} → Option A → List A
listed None = []
listed (Some x) = x ∷ []
