use Rattle.std.proofs.Common.{◌∙◌, ap₂, sym}
use Rattle.je_order.specs.Order.{bytes_cmp}
use Rattle.record_map.proofs.HeldLaws.{by_heads}
use Rattle.record_map.proofs.sort_key.SortKey.cmp_long.Goals as goal

pub returns-in_default : goal.returns-in_default
returns-in_default c =
    sym (by_heads 15 c.args.self.now c.args.other.now c.cmp_bytes.result (sym (c.cmp_bytes.ensures ∙ ap₂ bytes_cmp c.head.ensures c.head-2.ensures))
    (λ e. absurd (c.in_default.not-Equal e)))
