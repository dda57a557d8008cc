use Rattle.std.proofs.Common.{◌≡◌, true, cond, ap, sym, subst}
use Rattle.std.specs.Option.{is_some}
use Rattle.lock_table.specs.declared.record_id.RecordId.{RecordId}
use Rattle.lock_table.specs.Records.{is_record}
use Rattle.lock_table.specs.Table.{lists_record}
use Rattle.lock_table.proofs.RecordLists.{list_written, list_same, list_added, on_err}
use Rattle.lock_table.proofs.listed.list_at.Goals as goal

pub returns-in_err-push_in-clause-err : goal.returns-in_err-push_in-clause-err
returns-in_err-push_in-clause-err c = on_err _ (list_same c.args.lists.now.entries _ c.args.txn c.in-Some.dbs.now c.push_in.new.dbs c.in-Some.ensures.value c.in_err-push_in.ensures.err ((c.get_mut.follows.holds c.push_in.new.dbs).3 (sym (ap is_some c.in-Some.ensures.value))).0)

pub returns-in-Some-clause-ok : goal.returns-in-Some-clause-ok
returns-in-Some-clause-ok c = list_written c.args.lists.now.entries _ c.args.txn c.args.at.now true c.in-Some.dbs.now c.push_in.new.dbs c.in-Some.ensures.value
    (subst (λ (k : RecordId). (r : RecordId) → lists_record c.push_in.new.dbs.entries r ≡ cond (is_record k r) true (lists_record c.in-Some.dbs.now.entries r)) c.in_ok-key.ensures c.in_ok-push_in.ensures.ok)
    ((c.get_mut.follows.holds c.push_in.new.dbs).3 (sym (ap is_some c.in-Some.ensures.value))).0

pub returns-clause-ok : goal.returns-clause-ok
returns-clause-ok c = list_added c.args.lists.now.entries _ c.args.txn c.args.at.now c.in_ok-dbs.dbs c.in_default.ensures.value
    (subst (λ (k : RecordId). (r : RecordId) → lists_record c.in_ok-dbs.dbs.entries r ≡ is_record k r) c.in_ok-key.ensures c.in_ok-dbs.ensures)
    (λ q. rw (← c.get_mut.follows.holds-at-none) (c.in_ok-insert.ensures.updates.0 q))
