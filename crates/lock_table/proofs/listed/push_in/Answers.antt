use Rattle.std.proofs.Common.{ap, sym, refl, []}
use Rattle.std.specs.Option.{is_some}
use Rattle.lock_table.proofs.RecordLists.{db_written, db_same, db_added, on_err, pushed}
use Rattle.lock_table.proofs.listed.push_in.Goals as goal

pub returns-in_err-push-clause-err : goal.returns-in_err-push-clause-err
returns-in_err-push-clause-err c = on_err _ (db_same c.args.dbs.now.entries _ c.args.key.db c.in-Some.list.now c.push.new.self c.in-Some.ensures.value c.in_err-push.ensures.items ((c.get_mut.follows.holds c.push.new.self).3 (sym (ap is_some c.in-Some.ensures.value))).0)

pub returns-in-Some-clause-ok : goal.returns-in-Some-clause-ok
returns-in-Some-clause-ok c = db_written c.args.dbs.now.entries _ c.args.key _ c.in-Some.list.now c.push.new.self c.in-Some.ensures.value (λ r. pushed c.in-Some.list.now.items c.push.new.self.items c.args.key c.args.key r refl c.in_ok-push.ensures.items) ((c.get_mut.follows.holds c.push.new.self).3 (sym (ap is_some c.in-Some.ensures.value))).0

pub returns-clause-ok : goal.returns-clause-ok
returns-clause-ok c = db_added c.args.dbs.now.entries _ c.args.key c.in_ok-list.list c.in_default.ensures.value (λ r. pushed [] c.in_ok-list.list.items c.args.key c.args.key r refl c.in_ok-list.ensures) (λ q. rw (← c.get_mut.follows.holds-at-none) (c.in_ok-insert.ensures.updates.0 q))
