-- With 16 pending the latest entry changes.
use Rattle.std.proofs.Common.{take, set, ap, ◌∙◌, arith}
use Rattle.server.proofs.TableLaws.{table_full}
use Rattle.server.proofs.pending.Pending.write.Goals as goal

pub returns-else-self-lt16 : goal.returns-else-self-lt16
returns-else-self-lt16 c =
    let self = c.args.self.now in
    ap (λ e. take self.count (set self.entries 15 e)) c.add.ensures
    ∙ table_full self.entries self.count c.args.new _ (omega arith) (omega arith)
