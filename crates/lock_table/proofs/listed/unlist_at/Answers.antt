use Rattle.std.proofs.Common.{ap, sym}
use Rattle.std.specs.Option.{is_some}
use Rattle.lock_table.proofs.RecordLists.{unlisted}
use Rattle.lock_table.proofs.listed.unlist_at.Goals as goal

pub returns-in-Some : goal.returns-in-Some
returns-in-Some c = unlisted c.args.lists.now.entries _ c.args.txn c.args.at.now c.in-Some.dbs.now c.unlist_in.new.dbs c.in-Some.ensures.value c.unlist_in.ensures ((c.get_mut.follows.holds c.unlist_in.new.dbs).3 (sym (ap is_some c.in-Some.ensures.value))).0
