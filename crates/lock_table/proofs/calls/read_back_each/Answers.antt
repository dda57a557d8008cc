use Rattle.std.proofs.Common.{◌+◌, ◌∷◌, ◌||◌, drop, refl, ap, sym, ◌∙◌}
use Rattle.std.specs.List.{list_any}
use Rattle.std.proofs.lemmas.List.{drop_all, drop_more}
use Rattle.lock_table.specs.Locks.{after_read}
use Rattle.lock_table.specs.Records.{is_record, queue_at}
use Rattle.lock_table.proofs.CallSteps.{record_either}
use Rattle.lock_table.proofs.QueueReads.{read_twice}
use Rattle.lock_table.proofs.RecordWalks.{done_begins, done_step, done_ends}
use Rattle.lock_table.proofs.calls.read_back_each.Goals as goal

pub loop-at-init : goal.loop-at-init
loop-at-init c = λ r. done_begins (after_read c.args.txn) (queue_at r c.args.queues.now.entries) (list_any (is_record r) c.args.list.now) _ refl

pub loop-at-preserved : goal.loop-at-preserved
loop-at-preserved c = λ r.
    let less = drop (c.loop-at.at-index + 1) c.args.list.now in
    let more = drop_more c.args.list.now c.loop-at.at-index c.at-item.result c.loop-at-test.true ∙ ap (λ x. x ∷ less) (sym c.at-item.is) in
    done_step (after_read c.args.txn) (queue_at r c.args.queues.now.entries) (queue_at r c.loop-at.queues.entries) (queue_at r c.read_back_at.new.queues.entries)
    (list_any (is_record r) c.args.list.now) (is_record c.at-item.result r) (list_any (is_record r) less) (list_any (is_record r) (drop c.loop-at.at-index c.args.list.now))
    (read_twice c.args.txn (queue_at r c.args.queues.now.entries) (c.requires r)) (ap (list_any (is_record r)) more ∙ ap (λ b. b || list_any (is_record r) less) (record_either r c.at-item.result)) (c.loop-at.invariant r) (c.read_back_at.ensures r)

pub returns : goal.returns
returns c = λ r. done_ends (after_read c.args.txn) (queue_at r c.args.queues.now.entries) (queue_at r c.loop-at.queues.entries) (list_any (is_record r) c.args.list.now) _ (ap (list_any (is_record r)) (drop_all c.loop-at.at-index c.args.list.now c.loop-at-test.false)) (c.loop-at.invariant r)
