use Rattle.std.proofs.Common.{◌∙◌, ap, subst, sym}
use Rattle.je_order.specs.declared.name.Name.{Name}
use Rattle.je_order.specs.Held.{padded_to}
use Rattle.record_map.specs.Held.{IsHeld, name_held}
use Rattle.record_map.proofs.HeldLaws.{short_head}
use Rattle.record_map.proofs.sort_key.SortKey.head.Goals as goal

pub returns-in-Short : goal.returns-in-Short
returns-in-Short c =
    short_head c.in-Short.field-0 c.in-Short.bytes (subst IsHeld c.in-Short.is c.self.invariant)
    ∙ ap (λ (n : Name). padded_to 15 n.key) (sym (ap name_held c.in-Short.is) ∙ c.self.view_is)
