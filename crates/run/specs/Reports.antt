-- What the code tells of a line, as a report.
use Rattle.std.specs.Prelude.{Ok, Err, Result}
use Rattle.run.specs.declared.refusal.RunRefusal.{RunRefusal}
use Rattle.run.specs.declared.report.LineReport.{LineReport}
use Rattle.run.specs.declared.report.LineReport.TheVariants.{Task, Server}
use Rattle.run.specs.Answers.{refusal_number}
use Rattle.run.specs.Machine.{Report, task_report, server_report}
use Rattle.run.specs.Replies.{Reply, done, refused}

abbrev pub report : LineReport → Report
report (Task unfinished next) = task_report unfinished next
report (Server held waits needs) = server_report held waits needs

abbrev pub reported : Result LineReport RunRefusal → Reply Report
reported (Ok r) = done (report r)
reported (Err r) = refused (refusal_number r)
