use Rattle.std.proofs.Common.{◌∙◌}
use Rattle.std.specs.Map.Iter.{deref_pair}
use Rattle.std.proofs.lemmas.Map.Iter.{btree_map_turn}
use Rattle.je_order.specs.contracts.txn_id.TxnIdOrd.TheImpl.Laws as order
use Rattle.lock_table.proofs.HolderFound.{come_begins, come_step, come_first, come_ends}
use Rattle.lock_table.proofs.holders.first_in.Goals as goal

pub loop-txn-init : goal.loop-txn-init
loop-txn-init c = come_begins c.args.db c.args.queues.now.entries c.args.lists.now c.into_iter-txn-iterator.result (c.into_iter-txn-iterator.ensures.into_iter_gives ∙ c.iter-txn-items.ensures.rest) c.iter-txn-items.ensures.ordered c.requires

pub returns-then-owns_in-clause-first : goal.returns-then-owns_in-clause-first
returns-then-owns_in-clause-first c = come_first c.args.db c.args.queues.now.entries c.loop-txn.txn-iterator c.next.new.self (c.in-Some.txn.now, c.in-Some.dbs.now) c.in-Some.ensures.steps c.loop-txn.invariant

pub loop-txn-preserved : goal.loop-txn-preserved
loop-txn-preserved c =
    let found = (btree_map_turn deref_pair c.loop-txn.yielded c.into_iter-txn-iterator.result c.loop-txn.txn-iterator c.next.new.self c.next.result (c.in-Some.txn, c.in-Some.dbs)
    c.loop-txn.yielded_by c.in-Some.is c.next.ensures.steps order.total-law c.args.lists.now (c.into_iter-txn-iterator.ensures.into_iter_gives ∙ c.iter-txn-items.ensures.rest) c.iter-txn-items.ensures.ordered).1 in
    come_step c.args.db c.args.queues.now.entries c.args.lists.now.entries c.loop-txn.txn-iterator c.next.new.self (c.in-Some.txn.now, c.in-Some.dbs.now) c.in-Some.ensures.steps found c.requires (c.owns_in.ensures.none c.if-owns_in.false) c.loop-txn.invariant

pub returns-clause-none : goal.returns-clause-none
returns-clause-none c = come_ends c.args.db c.args.queues.now.entries c.loop-txn.txn-iterator c.in-None.ensures.steps.0 c.loop-txn.invariant
