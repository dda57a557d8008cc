use Rattle.std.proofs.Common.{◌+◌, ◌∷◌, drop, refl, ap, sym, ◌∙◌}
use Rattle.std.proofs.lemmas.List.{drop_all, drop_more}
use Rattle.lock_table.proofs.HolderFound.{later_begins, later_step, later_ends}
use Rattle.lock_table.proofs.holders.owns_one.Goals as goal

pub loop-at-init : goal.loop-at-init
loop-at-init c = later_begins c.args.db c.args.txn c.args.queues.now.entries c.args.list.now _ refl

pub loop-at-preserved : goal.loop-at-preserved
loop-at-preserved c =
    let less = drop (c.loop-at.at-index + 1) c.args.list.now in
    later_step c.args.db c.args.txn c.args.queues.now.entries c.args.list.now (drop c.loop-at.at-index c.args.list.now) less c.at-item.result
    (drop_more c.args.list.now c.loop-at.at-index c.at-item.result c.loop-at-test.true ∙ ap (λ x. x ∷ less) (sym c.at-item.is)) (c.owns_at.ensures.none c.if-owns_at.false) c.loop-at.invariant

pub returns-clause-none : goal.returns-clause-none
returns-clause-none c = λ _. later_ends c.args.db c.args.txn c.args.queues.now.entries c.args.list.now _ (drop_all c.loop-at.at-index c.args.list.now c.loop-at-test.false) c.loop-at.invariant
