-- The cases that were worked out by hand.
use Rattle.std.specs.Prelude.{ℕ, zero, suc, true, false, List, [], ◌∷◌}
use Rattle.server.specs.Kind.{Terms}
use Rattle.server.specs.SporadicKind.{SporadicState}
use Rattle.server.specs.declared.entry.Entry.{Entry}
use Rattle.plan.specs.declared.line.Line.{Line}
use Rattle.plan.specs.declared.line.Line.TheVariants.{Task, Server}
use Rattle.analysis.specs.Verdicts.{passes, fails}
use Rattle.run.specs.declared.items.Completion.{Completion}
use Rattle.run.specs.Tries.{Call, offer}
use Rattle.cases.specs.Case.{Case, timed, ran, told, start, end}
use Rattle.cases.specs.Schedules.{ticks}

abbrev pub task : (work period deadline first : ℕ) → Line
task work period deadline first = Task (record { work = work; period = period; deadline = deadline; first = first })

abbrev pub server : (letter budget period : ℕ) → Line
server letter budget period = Server (record { letter = letter; budget = budget; period = period })

-- the letters of a polling, a deferrable and a sporadic server
abbrev pub P : ℕ
P = 80

abbrev pub D : ℕ
D = 68

abbrev pub S : ℕ
S = 83

-- the longest response time that there is: a lone task that asks for every tick
abbrev pub longest : Case
longest = timed (task 1000000 1000000 1000000 0 ∷ []) (1000000 ∷ []) passes

-- the budgets and periods of the sporadic servers below
abbrev pub short : Terms
short = record { letter = S; budget = 3; period = 8 }

abbrev pub long : Terms
long = record { letter = S; budget = 22; period = 100 }

abbrev pub entry : (due amount : ℕ) → Entry
entry due amount = record { due = due; amount = amount }

-- a server that holds so much, with these entries pending, no slice open, and this tick last begun
abbrev pub idle : (held : ℕ) (entries : List Entry) (first tick : ℕ) → SporadicState
idle held entries first tick = record { held = held; entries = entries; first = first; slice = 0; tick = tick }

-- the same with a slice open that began at a tick and took so much
abbrev pub open_slice : (held : ℕ) (entries : List Entry) (first slice tick : ℕ) → SporadicState
open_slice held entries first slice tick = record { held = held; entries = entries; first = first; slice = slice; tick = tick }

-- n entries of 1, due at every second tick from a tick on, before other entries
abbrev pub many : (n due : ℕ) → List Entry → List Entry
many zero due rest = rest
many (suc n) due rest = entry due 1 ∷ many n (suc (suc due)) rest

-- the plan of the first case, with this server
abbrev pub plan : ℕ → List Line
plan letter = task 1 4 4 0 ∷ server letter 2 8 ∷ task 3 12 12 0 ∷ []

-- 2 offered to the server before tick 7, and 2 before tick 10; 12 ticks in all
abbrev pub twice : List Call
twice = ticks 7 (offer 2 2 ∷ ticks 3 (offer 2 2 ∷ ticks 2 []))

abbrev pub ended : (line number ticks : ℕ) → Completion
ended line number ticks = record { line = line; number = number; ticks = ticks; early = false }

-- what ends before the first offer: two jobs of line 1, and the job of line 3 between them
abbrev pub early_jobs : List Completion → List Completion
early_jobs rest = ended 1 0 1 ∷ ended 3 0 4 ∷ ended 1 0 1 ∷ rest

abbrev pub cases : List Case
cases =
    -- a sporadic server between two tasks
    timed (task 1 4 4 0 ∷ server S 2 8 ∷ task 3 12 12 0 ∷ []) (1 ∷ 3 ∷ 7 ∷ []) passes
    -- a polling server takes as much
    ∷ timed (task 1 4 4 0 ∷ server P 2 8 ∷ task 3 12 12 0 ∷ []) (1 ∷ 3 ∷ 7 ∷ []) passes
    -- a deferrable server can take two budgets in a row
    ∷ timed (task 1 4 4 0 ∷ server D 2 8 ∷ task 3 12 12 0 ∷ []) (1 ∷ 3 ∷ 10 ∷ []) passes
    -- a deadline that is just met
    ∷ timed (task 1 4 4 0 ∷ server S 2 8 ∷ task 3 12 7 0 ∷ []) (1 ∷ 3 ∷ 7 ∷ []) passes
    -- one tick less: it is missed
    ∷ timed (task 1 4 4 0 ∷ server S 2 8 ∷ task 3 12 6 0 ∷ []) (1 ∷ 3 ∷ 0 ∷ []) (fails 18 3)
    -- a budget that leaves too little for the last line
    ∷ timed (task 1 4 4 0 ∷ server P 2 5 ∷ task 2 6 6 0 ∷ []) (1 ∷ 3 ∷ 0 ∷ []) (fails 18 3)
    -- half of it leaves enough
    ∷ timed (task 1 4 4 0 ∷ server P 1 5 ∷ task 2 6 6 0 ∷ []) (1 ∷ 2 ∷ 4 ∷ []) passes
    ∷ longest
    -- a polling server waits for its period, and then serves both requests
    ∷ ran P (plan P) twice (1 ∷ 3 ∷ 3 ∷ 3 ∷ 1 ∷ 0 ∷ 0 ∷ 0 ∷ 1 ∷ 2 ∷ 2 ∷ 0 ∷ []) (early_jobs (ended 1 0 1 ∷ ended 2 1 4 ∷ []))
    -- a deferrable server serves at once, and has its budget again at tick 8
    ∷ ran D (plan D) twice (1 ∷ 3 ∷ 3 ∷ 3 ∷ 1 ∷ 0 ∷ 0 ∷ 2 ∷ 1 ∷ 2 ∷ 2 ∷ 0 ∷ []) (early_jobs (ended 1 0 1 ∷ ended 2 1 3 ∷ []))
    -- a sporadic server serves at once, and has what it took again 8 ticks after it began to take it
    ∷ ran S (plan S) twice (1 ∷ 3 ∷ 3 ∷ 3 ∷ 1 ∷ 0 ∷ 0 ∷ 2 ∷ 1 ∷ 2 ∷ 0 ∷ 0 ∷ []) (early_jobs (ended 1 0 1 ∷ ended 2 1 3 ∷ []))
    -- a server on line 1 for which a request waits all the time runs its budget of 2 in each period of 5
    ∷ ran P (server P 2 5 ∷ []) (offer 1 9 ∷ ticks 10 []) (1 ∷ 1 ∷ 0 ∷ 0 ∷ 0 ∷ 1 ∷ 1 ∷ 0 ∷ 0 ∷ 0 ∷ []) []
    -- a tick run opens a slice at that tick, and takes 1 of what is held
    ∷ told short (idle 3 [] 0 5) (end true ∷ []) (open_slice 2 [] 5 1 5)
    -- a second tick in a row goes to the same slice
    ∷ told short (open_slice 2 [] 5 1 5) (start 6 ∷ end true ∷ []) (open_slice 1 [] 5 2 6)
    -- at 0 held the slice closes: what it took is due a period after its first tick
    ∷ told short (open_slice 1 [] 5 2 6) (start 7 ∷ end true ∷ []) (idle 0 (entry 13 3 ∷ []) 5 7)
    -- at the end of a tick not run it closes too
    ∷ told short (open_slice 2 [] 5 1 5) (start 6 ∷ end false ∷ []) (idle 2 (entry 13 1 ∷ []) 5 6)
    -- an entry goes at its due tick, and its amount is held again
    ∷ told short (idle 1 (entry 13 2 ∷ []) 5 12) (start 13 ∷ []) (idle 3 [] 5 13)
    -- not a tick earlier
    ∷ told short (idle 1 (entry 13 2 ∷ []) 5 11) (start 12 ∷ []) (idle 1 (entry 13 2 ∷ []) 5 12)
    -- an entry that goes closes an open slice
    ∷ told short (open_slice 1 (entry 13 1 ∷ []) 12 1 12) (start 13 ∷ []) (idle 2 (entry 20 1 ∷ []) 12 13)
    -- so that the next tick run begins another
    ∷ told short (open_slice 1 (entry 13 1 ∷ []) 12 1 12) (start 13 ∷ end true ∷ []) (open_slice 1 (entry 20 1 ∷ []) 13 1 13)
    -- a 16th entry has its own place
    ∷ told long (open_slice 4 (many 15 110 []) 95 3 97) (start 98 ∷ end false ∷ []) (idle 4 (many 15 110 (entry 195 3 ∷ [])) 95 98)
    -- a 17th is added to the latest, which takes the new due tick
    ∷ told long (open_slice 3 (many 15 110 (entry 190 1 ∷ [])) 95 3 97) (start 98 ∷ end false ∷ []) (idle 3 (many 15 110 (entry 195 4 ∷ [])) 95 98)
    ∷ []
