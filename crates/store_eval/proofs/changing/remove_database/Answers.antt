use Rattle.std.proofs.Common.{rules, not}
use Rattle.store_model.specs.declared.store.Database.{Database}
use Rattle.je_order.specs.Order.{is_same_bytes}
use Rattle.store_eval.proofs.changing.remove_database.Goals as goal

pub returns : goal.returns
returns c = c.copies_where.ensures (λ (d : Database). not (is_same_bytes d.name c.args.db.now)) (λ x b h. search rules)
