use Rattle.std.proofs.Common.{◌≡◌, cond, Some, None, Option, List, [], ap, sym, subst, ◌∙◌}
use Rattle.std.specs.Map.{lookup}
use Rattle.std.specs.Option.{is_some, option_map_or, unwrap_or}
use Rattle.lock_table.specs.declared.lock.Lock.{Lock}
use Rattle.lock_table.specs.Locks.{has_lock, held_by, is_blocked, blocker, after_ask}
use Rattle.std.proofs.lemmas.Bool.{both_ways}
use Rattle.lock_table.specs.declared.record_id.RecordId.{RecordId}
use Rattle.lock_table.specs.Records.{is_record, queue_at}
use Rattle.lock_table.specs.Table.{at_txn, is_listed, owner_in, SaysHeld, IsOut, IsSameTable}
use Rattle.lock_table.proofs.WholeTable.{sound_told, sound_same}
use Rattle.lock_table.proofs.QueueMaps.{at_equal, changed_equal, queue_written, same_written}
use Rattle.lock_table.proofs.RecordLists.{changed_at, on_err}
use Rattle.lock_table.proofs.CallSteps.{queue_there, out_written, told_at}
use Rattle.lock_table.proofs.calls.ask_in.Goals as goal

pub ask_there-requires : goal.ask_there-requires
ask_there-requires c = record { free = ap (λ (q : List Lock × List Lock). has_lock c.args.lock.txn q.1) (queue_there c.args.queues.now.entries c.args.at.now c.in-Some.queue.now (c.in-Some.ensures.value ∙ at_equal c.args.at.now c.args.queues.now.entries)) ∙ c.requires.free c.args.at.now }

pub returns-in_err-asked-clause-table : goal.returns-in_err-asked-clause-table
returns-in_err-asked-clause-table c = sound_same (λ r. queue_at r c.args.queues.now.entries) (λ r. queue_at r (c.get_mut.follows.lender c.ask_there.new.queue).entries) (is_listed c.args.lists.now.entries) (is_listed c.ask_there.new.lists.entries) (λ t. at_txn t c.args.pending.now.entries) (λ t. at_txn t c.ask_there.new.pending.entries)
    c.requires.table (same_written c.args.queues.now.entries _ c.args.at.now c.in-Some.queue.now c.ask_there.new.queue (c.in-Some.ensures.value ∙ at_equal c.args.at.now c.args.queues.now.entries) c.in_err-asked.ensures.err (changed_equal c.args.queues.now.entries (c.get_mut.follows.lender c.ask_there.new.queue).entries c.args.at.now (Some c.ask_there.new.queue) ((c.get_mut.follows.holds c.ask_there.new.queue).3 (sym (ap is_some c.in-Some.ensures.value))).0))
    c.ask_there.ensures.kept c.in_err-asked.ensures.err_pending

pub returns-in_err-asked-clause-err : goal.returns-in_err-asked-clause-err
returns-in_err-asked-clause-err c =
    let same : IsSameTable (record { records = c.args.queues.now.entries; pending = c.args.pending.now.entries }) (record { records = (c.get_mut.follows.lender c.ask_there.new.queue).entries; pending = c.ask_there.new.pending.entries }) = record {
      locks = same_written c.args.queues.now.entries _ c.args.at.now c.in-Some.queue.now c.ask_there.new.queue (c.in-Some.ensures.value ∙ at_equal c.args.at.now c.args.queues.now.entries) c.in_err-asked.ensures.err (changed_equal c.args.queues.now.entries (c.get_mut.follows.lender c.ask_there.new.queue).entries c.args.at.now (Some c.ask_there.new.queue) ((c.get_mut.follows.holds c.ask_there.new.queue).3 (sym (ap is_some c.in-Some.ensures.value))).0);
      pending = c.in_err-asked.ensures.err_pending;
    } in
    on_err _ same

pub returns-in-Some-clause-queues : goal.returns-in-Some-clause-queues
returns-in-Some-clause-queues c = queue_written c.args.queues.now.entries _ c.args.at.now (after_ask c.args.lock) c.in-Some.queue.now c.ask_there.new.queue (c.in-Some.ensures.value ∙ at_equal c.args.at.now c.args.queues.now.entries) c.in_ok-asked.ensures.queue (changed_equal c.args.queues.now.entries (c.get_mut.follows.lender c.ask_there.new.queue).entries c.args.at.now (Some c.ask_there.new.queue) ((c.get_mut.follows.holds c.ask_there.new.queue).3 (sym (ap is_some c.in-Some.ensures.value))).0)

pub returns-in-Some-clause-table : goal.returns-in-Some-clause-table
returns-in-Some-clause-table c =
    let old = c.args.queues.now.entries in
    let new = (c.get_mut.follows.lender c.ask_there.new.queue).entries in
    let at = c.args.at.now in
    let changed = (changed_equal c.args.queues.now.entries (c.get_mut.follows.lender c.ask_there.new.queue).entries c.args.at.now (Some c.ask_there.new.queue) ((c.get_mut.follows.holds c.ask_there.new.queue).3 (sym (ap is_some c.in-Some.ensures.value))).0) in
    sound_told (λ r. queue_at r old) (λ r. queue_at r new) (is_listed c.args.lists.now.entries) (is_listed c.ask_there.new.lists.entries) (λ t. at_txn t c.args.pending.now.entries) (λ t. at_txn t c.ask_there.new.pending.entries) at c.args.lock (option_map_or (λ _. Some at) (owner_in c.in_ok-asked.asked) None)
    c.requires.table c.requires.free (queue_written old new at (after_ask c.args.lock) c.in-Some.queue.now c.ask_there.new.queue (c.in-Some.ensures.value ∙ at_equal c.args.at.now c.args.queues.now.entries) c.in_ok-asked.ensures.queue changed)
    c.ask_there.ensures.kept (λ n. out_written c.args.lock.txn old new at c.in-Some.queue.now c.ask_there.new.queue (c.in-Some.ensures.value ∙ at_equal c.args.at.now c.args.queues.now.entries) changed (c.ask_there.ensures.listed n))
    (told_at c.args.lock (queue_at at old).0 at (owner_in c.in_ok-asked.asked) (c.in_ok-asked.ensures.answer ∙ ap (λ (q : List Lock × List Lock). blocker c.args.lock q.0) (queue_there old at c.in-Some.queue.now (c.in-Some.ensures.value ∙ at_equal c.args.at.now c.args.queues.now.entries))))
    c.in_ok-asked.ensures.pending

pub returns-clause-table : goal.returns-clause-table
returns-clause-table c =
    let old = c.args.queues.now.entries in
    let new = c.ask_first.new.queues.entries in
    let at = c.args.at.now in
    let same = ap (λ m. m.entries) c.get_mut.follows.holds-at-none in
    sound_told (λ r. queue_at r old) (λ r. queue_at r new) (is_listed c.args.lists.now.entries) (is_listed c.ask_first.new.lists.entries) (λ t. at_txn t c.args.pending.now.entries) (λ t. at_txn t c.remove.new.self.entries) at c.args.lock None
    c.requires.table c.requires.free
    (subst (λ (es : List (RecordId × (List Lock × List Lock))). (r : RecordId) → queue_at r new ≡ cond (is_record at r) (after_ask c.args.lock (queue_at r es)) (queue_at r es)) same c.in_ok-ask_first.ensures.queues)
    c.ask_first.ensures.kept (λ n o. c.ask_first.ensures.listed n (subst (λ (es : List (RecordId × (List Lock × List Lock))). IsOut c.args.lock.txn (queue_at at es)) (sym same) o))
    (λ b. absurd (both_ways (is_blocked (queue_at at old).0 c.args.lock) (ap (λ (o : Option (List Lock × List Lock)). is_blocked (unwrap_or o ([], [])).0 c.args.lock) (sym (c.in_default.ensures.value ∙ at_equal c.args.at.now c.args.queues.now.entries))) b))
    (changed_at c.args.pending.now.entries c.remove.new.self.entries c.args.lock.txn None c.remove.ensures.updates.0)

pub ask_first-requires : goal.ask_first-requires
ask_first-requires c = record { none = c.in_default.ensures.value ∙ (at_equal c.args.at.now c.args.queues.now.entries ∙ ap (λ m. lookup (is_record c.args.at.now) m.entries) (sym c.get_mut.follows.holds-at-none)) }

pub returns-in-Some-clause-answer : goal.returns-in-Some-clause-answer
returns-in-Some-clause-answer c = c.in_ok-asked.ensures.answer ∙ ap (λ (q : List Lock × List Lock). blocker c.args.lock q.0) (queue_there c.args.queues.now.entries c.args.at.now c.in-Some.queue.now (c.in-Some.ensures.value ∙ at_equal c.args.at.now c.args.queues.now.entries))

pub returns-clause-answer : goal.returns-clause-answer
returns-clause-answer c = ap (λ (o : Option (List Lock × List Lock)). blocker c.args.lock (unwrap_or o ([], [])).0) (c.in_default.ensures.value ∙ at_equal c.args.at.now c.args.queues.now.entries)

pub returns-in-Some-clause-was : goal.returns-in-Some-clause-was
returns-in-Some-clause-was c = subst (λ (q : List Lock × List Lock). SaysHeld c.in_ok-asked.asked (held_by c.args.lock.txn q.0)) (queue_there c.args.queues.now.entries c.args.at.now c.in-Some.queue.now (c.in-Some.ensures.value ∙ at_equal c.args.at.now c.args.queues.now.entries)) c.in_ok-asked.ensures.was

pub returns-clause-was : goal.returns-clause-was
returns-clause-was c = ap (λ (o : Option (List Lock × List Lock)). held_by c.args.lock.txn (unwrap_or o ([], [])).0) (c.in_default.ensures.value ∙ at_equal c.args.at.now c.args.queues.now.entries)
