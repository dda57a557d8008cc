use Rattle.std.proofs.Common.{refl, inr}
use Rattle.txn_locks.proofs.taking.take_one.Goals as goal

pub returns-then-is_free_insert-clause-turn : goal.returns-then-is_free_insert-clause-turn
returns-then-is_free_insert-clause-turn c = c.is_free_insert.ensures c.if-is_free_insert.true c.args.txn

pub returns-then-is_free_insert-clause-got : goal.returns-then-is_free_insert-clause-got
returns-then-is_free_insert-clause-got c = inr (refl, refl)
