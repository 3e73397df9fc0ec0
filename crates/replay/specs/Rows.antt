-- The rows that answer the calls on a run, as text.
use Rattle.std.specs.Prelude.{ℕ, List, [], ◌∷◌, ◌++◌, Some, None, codes, Option}
use Rattle.std.specs.Int.{from_bool}
use Rattle.text.specs.Hex.{hex}
use Rattle.text.specs.Written.{labelled}
use Rattle.run.specs.Machine.{Tick, Report, task_report, server_report}
use Rattle.run.specs.Replies.{Reply, done, refused}
use Rattle.run.specs.declared.items.Completion.{Completion}

-- a line feed after it
abbrev pub row : List ℕ → List ℕ
row text = text ++ (10 ∷ [])

-- tick 7 line 2 ready 00000002
unfoldable pub tick_row : Tick → List ℕ
tick_row t = row (labelled (codes "tick ") t.number ++ (labelled (codes " line ") t.line ++ (codes " ready " ++ hex 8 t.ready)))

-- completion 2 1 3 0: line, request number, ticks, 1 if early
unfoldable pub completion_row : Completion → List ℕ
completion_row c =
    row (labelled (codes "completion ") c.line
    ++ (labelled (codes " ") c.number ++ (labelled (codes " ") c.ticks ++ labelled (codes " ") (from_bool c.early))))

-- work 2 next 12; holds 0 waits 1 needs 2
unfoldable pub report_row : Report → List ℕ
report_row (task_report unfinished next) = row (labelled (codes "work ") unfinished ++ labelled (codes " next ") next)
report_row (server_report held waits needs) =
    row (labelled (codes "holds ") held ++ (labelled (codes " waits ") waits ++ labelled (codes " needs ") needs))

-- offer 1, finish 3, refused 15, bad line 4
unfoldable pub number_row : (word : List ℕ) (n : ℕ) → List ℕ
number_row word n = row (labelled word n)

-- the row of an answer: of the result, or of the refusal
abbrev pub reply_row : {A : Type 0} → (A → List ℕ) → Reply A → List ℕ
reply_row result (done x) = result x
reply_row result (refused n) = number_row (codes "refused ") n

-- the row of a fetch
abbrev pub fetch_row : Option Completion → List ℕ
fetch_row None = row (codes "none")
fetch_row (Some c) = completion_row c
