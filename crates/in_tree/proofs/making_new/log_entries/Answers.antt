use Rattle.std.proofs.Common.{◌+◌, List, [], ◌∷◌, drop, subst, sym}
use Rattle.std.specs.List.{AllByRecursion}
use Rattle.log_entry.specs.declared.entry.Entry.{Entry}
use Rattle.db_tree.specs.NodeImages.{IsLoggable}
use Rattle.db_tree.proofs.Ending.{next_left}
use Rattle.in_tree.proofs.FillLogged.{LogsLeft, logs_fail, logs_more}
use Rattle.in_tree.proofs.Written.{on_err}
use Rattle.in_tree.proofs.making_new.log_entries.Goals as goal

pub returns-in_err-_at-clause-tried : goal.returns-in_err-_at-clause-tried
returns-in_err-_at-clause-tried g c =
    let i = c.loop-entry.entry-index in
    let entries = c.args.entries.now in
    on_err c.from_residual.result
    (logs_fail g.D.Disk.meaning c.args.log.now c.loop-entry.log c.append_image.new.log entries (drop i entries) (c.entry-item.result ∷ []) c.loop-entry.invariant.logs
    (drop (i + 1) entries, sym (next_left entries i c.entry-item.result c.loop-entry-test.true c.entry-item.is)) c.in_err-_at.ensures.tried)

pub loop-entry-preserved : goal.loop-entry-preserved
loop-entry-preserved g c =
    let i = c.loop-entry.entry-index in
    let entries = c.args.entries.now in
    let next = next_left entries i c.entry-item.result c.loop-entry-test.true c.entry-item.is in
    record {
      loggable = (subst (λ (l : List Entry). AllByRecursion IsLoggable l) next c.loop-entry.invariant.loggable).1;
      logs = logs_more g.D.Disk.meaning c.args.log.now c.loop-entry.log c.append_image.new.log entries (c.entry-item.result ∷ []) (drop (i + 1) entries)
          (subst (LogsLeft g.D.Disk.meaning c.args.log.now c.loop-entry.log entries) next c.loop-entry.invariant.logs) c.in_ok-_at.ensures.grew c.in_ok-_at.ensures.left;
    }
