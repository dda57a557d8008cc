use Rattle.std.proofs.Common.{◌∙◌, Bool, cond, None, sym, ap, subst}
use Rattle.node_core.specs.declared.slot.Marked.{Marked}
use Rattle.node_core.proofs.NodeImages.{GoesOn, may_put, put_goes_on, with_slot_is}
use Rattle.node_core.proofs.node.Node.put_slot.Goals as goal

pub returns-else-hides-clause-image : goal.returns-else-hides-clause-image
returns-else-hides-clause-image c = λ image is some.
    let n = c.args.self.now in
    let m : Marked = record { slot = c.args.slot; changed = c.is_committed-changed.result } in
    subst (GoesOn image) (sym c.in_ok-put.ensures.ok)
    (put_goes_on image n.slots m c.in_ok-put.ensures.slots.rises c.is_committed-changed.ensures (may_put _ _ (sym c.hides-hides.ensures ∙ c.if-hides.false)) (is some))

pub returns-then-hides-clause-ok : goal.returns-then-hides-clause-ok
returns-then-hides-clause-ok c =
    with_slot_is c.args.self.now c.args.slot c.is_committed-changed.result c.hides-hides.result None c.put.new.self c.is_committed-changed.ensures c.in_ok-put.ensures.ok c.hides-hides.ensures
    (ap (λ (b : Bool). cond b None c.args.self.now.full) (sym c.if-hides.true))

pub returns-else-hides-clause-ok : goal.returns-else-hides-clause-ok
returns-else-hides-clause-ok c =
    with_slot_is c.args.self.now c.args.slot c.is_committed-changed.result c.hides-hides.result c.args.self.now.full c.put.new.self c.is_committed-changed.ensures c.in_ok-put.ensures.ok c.hides-hides.ensures
    (ap (λ (b : Bool). cond b None c.args.self.now.full) (sym c.if-hides.false))
