use Rattle.std.proofs.Common.{rules}
use Rattle.std.specs.Ordering.{is_lt, is_gt}
use Rattle.je_order.specs.Order.{bytes_cmp}
use Rattle.store_eval.proofs.changing.add_database.Goals as goal

pub returns : goal.returns
returns c =
    c.with_item.ensures (λ d. is_lt (bytes_cmp d.name c.args.new.name)) (λ d. is_gt (bytes_cmp d.name c.args.new.name))
    (λ x b h. search rules) (λ x b h. search rules)
