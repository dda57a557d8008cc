use Rattle.std.proofs.Common.{◌≡◌, ◌∙◌, ap, ap₂, subst, sym}
use Rattle.je_order.specs.Order.{name_cmp}
use Rattle.record_map.specs.Held.{IsHeld, name_held}
use Rattle.record_map.specs.declared.held_name.HeldName.TheVariants.{Short}
use Rattle.record_map.proofs.HeldLaws.{cmp_short}
use Rattle.record_map.proofs.sort_key.SortKeyOrd.cmp.Goals as goal

pub returns-in-Short-Short : goal.returns-in-Short-Short
returns-in-Short-Short c =
    let both = c.in-Short-Short in
    let first : name_held (Short both.len both.bytes) ≡ c.args.self.now = sym (ap name_held both.is-0) ∙ c.self.view_is in
    let second : name_held (Short both.other_len both.other_bytes) ≡ c.args.other.now = sym (ap name_held both.is-1) ∙ c.other.view_is in
    c.cmp_short.ensures
    ∙ cmp_short both.len both.other_len both.bytes both.other_bytes (subst IsHeld both.is-0 c.self.invariant) (subst IsHeld both.is-1 c.other.invariant)
    ∙ ap₂ name_cmp first second
