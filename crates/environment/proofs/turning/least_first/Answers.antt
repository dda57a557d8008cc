use Rattle.std.proofs.Common.{◌∙◌}
use Rattle.std.specs.Map.Iter.{deref_pair}
use Rattle.std.proofs.lemmas.Map.Iter.{btree_map_turn}
use Rattle.je_order.specs.contracts.txn_id.TxnIdOrd.TheImpl.Laws as order
use Rattle.environment.proofs.LeastFirst.{least_step, least_all}
use Rattle.environment.proofs.turning.least_first.Goals as goal

pub loop-own-preserved : goal.loop-own-preserved
loop-own-preserved c =
    let found = (btree_map_turn deref_pair c.loop-own.yielded c.into_iter-own-iterator.result c.loop-own.own-iterator c.next.new.self c.next.result (c.in-Some.field-0-0, c.in-Some.own)
    c.loop-own.yielded_by c.in-Some.is c.next.ensures.steps order.total-law c.args.written.now (c.into_iter-own-iterator.ensures.into_iter_gives ∙ c.iter-own-items.ensures.rest) c.iter-own-items.ensures.ordered).1 in
    least_step c.args.written.now.entries c.loop-own.own-iterator c.next.new.self c.in-Some.field-0-0.now c.in-Some.own.now c.loop-own.least c.least_with-least.result c.in-Some.ensures.steps found c.least_with-least.ensures c.loop-own.invariant

pub returns : goal.returns
returns c = least_all c.args.written.now.entries c.loop-own.own-iterator c.loop-own.least c.in-None.ensures.steps.0 c.loop-own.invariant
