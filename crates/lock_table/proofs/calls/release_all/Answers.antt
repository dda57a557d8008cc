use Rattle.std.proofs.Common.{◌||◌, ap, sym, ◌∙◌}
use Rattle.std.specs.List.{list_any}
use Rattle.lock_table.specs.Locks.{after_release}
use Rattle.lock_table.specs.Records.{is_record, queue_at}
use Rattle.lock_table.specs.Table.{is_in_one}
use Rattle.lock_table.proofs.RecordCalls.{release_twice}
use Rattle.lock_table.proofs.RecordWalks.{done_begins, done_step, done_ends, done_settled}
use Rattle.lock_table.proofs.RecordCalls.{settled_release}
use Rattle.lock_table.proofs.calls.release_all.Goals as goal

pub loop-list-init : goal.loop-list-init
loop-list-init c = λ r. done_begins (after_release c.args.txn) (queue_at r c.args.queues.now.entries) (is_in_one c.args.dbs.now.entries r) _ (ap (λ es. is_in_one es r) (c.into_iter-list-iterator.ensures.into_iter_gives ∙ c.iter-list-items.ensures.rest))

pub release_each-requires : goal.release_each-requires
release_each-requires c = λ r. done_settled (after_release c.args.txn) (queue_at r c.args.queues.now.entries) (queue_at r c.loop-list.queues.entries) _ _ (settled_release c.args.txn (queue_at r c.args.queues.now.entries)) (c.requires r) (c.loop-list.invariant r)

pub loop-list-preserved : goal.loop-list-preserved
loop-list-preserved c = λ r.
    done_step (after_release c.args.txn) (queue_at r c.args.queues.now.entries) (queue_at r c.loop-list.queues.entries) (queue_at r c.release_each.new.queues.entries)
    (is_in_one c.args.dbs.now.entries r) (list_any (is_record r) c.as_slice.result.now) (is_in_one c.next.new.self r) (is_in_one c.loop-list.list-iterator r)
    (release_twice c.args.txn (queue_at r c.args.queues.now.entries) (c.requires r)) (ap (λ es. is_in_one es r) c.in-Some.ensures.steps ∙ ap (λ xs. list_any (is_record r) xs || is_in_one c.next.new.self r) (sym c.as_slice.ensures.value)) (c.loop-list.invariant r) (c.release_each.ensures r)

pub returns : goal.returns
returns c = λ r. done_ends (after_release c.args.txn) (queue_at r c.args.queues.now.entries) (queue_at r c.loop-list.queues.entries) (is_in_one c.args.dbs.now.entries r) _ (ap (λ es. is_in_one es r) c.in-None.ensures.steps.0) (c.loop-list.invariant r)
