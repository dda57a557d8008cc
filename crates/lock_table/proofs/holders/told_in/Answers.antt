use Rattle.std.proofs.Common.{◌∙◌}
use Rattle.std.specs.Map.Iter.{deref_pair}
use Rattle.std.proofs.lemmas.Map.Iter.{btree_map_turn}
use Rattle.je_order.specs.contracts.txn_id.TxnIdOrd.TheImpl.Laws as order
use Rattle.lock_table.proofs.DatabaseOwners.{left_begins, left_step, left_ends}
use Rattle.lock_table.proofs.holders.told_in.Goals as goal

pub returns-then-at-db-clause-told : goal.returns-then-at-db-clause-told
returns-then-at-db-clause-told c =
    let found = (btree_map_turn deref_pair c.loop-txn.yielded c.into_iter-txn-iterator.result c.loop-txn.txn-iterator c.next.new.self c.next.result (c.in-Some.txn, c.in-Some.at)
    c.loop-txn.yielded_by c.in-Some.is c.next.ensures.steps order.total-law c.args.pending.now (c.into_iter-txn-iterator.ensures.into_iter_gives ∙ c.iter-txn-items.ensures.rest) c.iter-txn-items.ensures.ordered).1 in
    (c.in-Some.at.now, found, c.if-at-db.true)

pub loop-txn-init : goal.loop-txn-init
loop-txn-init c = left_begins c.args.db c.args.pending.now.entries c.into_iter-txn-iterator.result (c.into_iter-txn-iterator.ensures.into_iter_gives ∙ c.iter-txn-items.ensures.rest)

pub loop-txn-preserved : goal.loop-txn-preserved
loop-txn-preserved c = left_step c.args.db c.args.pending.now.entries (c.in-Some.txn.now, c.in-Some.at.now) c.loop-txn.txn-iterator c.next.new.self c.in-Some.ensures.steps c.if-at-db.false c.loop-txn.invariant

pub returns-clause-none : goal.returns-clause-none
returns-clause-none c = left_ends c.args.db c.args.pending.now.entries c.loop-txn.txn-iterator c.in-None.ensures.steps.0 c.loop-txn.invariant
