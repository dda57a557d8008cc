use Rattle.std.proofs.Common.{rules, not}
use Rattle.std.proofs.lemmas.Fn.{filter_same}
use Rattle.lock_table.specs.Locks.{is_of}
use Rattle.lock_table.proofs.lists.remove_from.Goals as goal

pub returns-clause-items : goal.returns-clause-items
returns-clause-items c = filter_same _ (λ l. not (is_of c.args.txn l)) _ (λ x b f k. search rules) _ _ c.retain.ensures.filtered
