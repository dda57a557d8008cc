use Rattle.std.proofs.Common.{◌||◌, ap, sym, ◌∙◌}
use Rattle.std.specs.List.{list_any}
use Rattle.lock_table.specs.Locks.{after_read}
use Rattle.lock_table.specs.Records.{is_record, queue_at}
use Rattle.lock_table.specs.Table.{is_in_one}
use Rattle.lock_table.proofs.QueueReads.{read_twice}
use Rattle.lock_table.proofs.RecordWalks.{done_begins, done_step, done_ends, done_settled}
use Rattle.lock_table.proofs.QueueReads.{settled_read}
use Rattle.lock_table.proofs.calls.read_back_all.Goals as goal

pub loop-list-init : goal.loop-list-init
loop-list-init c = λ r. done_begins (after_read c.args.txn) (queue_at r c.args.queues.now.entries) (is_in_one c.args.dbs.now.entries r) _ (ap (λ es. is_in_one es r) (c.into_iter-list-iterator.ensures.into_iter_gives ∙ c.iter-list-items.ensures.rest))

pub read_back_each-requires : goal.read_back_each-requires
read_back_each-requires c = λ r. done_settled (after_read c.args.txn) (queue_at r c.args.queues.now.entries) (queue_at r c.loop-list.queues.entries) _ _ (settled_read c.args.txn (queue_at r c.args.queues.now.entries)) (c.requires r) (c.loop-list.invariant r)

pub loop-list-preserved : goal.loop-list-preserved
loop-list-preserved c = λ r.
    done_step (after_read c.args.txn) (queue_at r c.args.queues.now.entries) (queue_at r c.loop-list.queues.entries) (queue_at r c.read_back_each.new.queues.entries)
    (is_in_one c.args.dbs.now.entries r) (list_any (is_record r) c.as_slice.result.now) (is_in_one c.next.new.self r) (is_in_one c.loop-list.list-iterator r)
    (read_twice c.args.txn (queue_at r c.args.queues.now.entries) (c.requires r)) (ap (λ es. is_in_one es r) c.in-Some.ensures.steps ∙ ap (λ xs. list_any (is_record r) xs || is_in_one c.next.new.self r) (sym c.as_slice.ensures.value)) (c.loop-list.invariant r) (c.read_back_each.ensures r)

pub returns : goal.returns
returns c = λ r. done_ends (after_read c.args.txn) (queue_at r c.args.queues.now.entries) (queue_at r c.loop-list.queues.entries) (is_in_one c.args.dbs.now.entries r) _ (ap (λ es. is_in_one es r) c.in-None.ensures.steps.0) (c.loop-list.invariant r)
