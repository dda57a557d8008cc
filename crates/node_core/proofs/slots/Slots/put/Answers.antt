use Rattle.std.proofs.Common.{◌∙◌, List, refl, sym, ap, subst}
use Rattle.node_core.specs.declared.slot.Marked.{Marked}
use Rattle.node_core.specs.Sorted.{IsPlace, IsAt, put}
use Rattle.node_core.proofs.SlotPositions.{put_set, put_insert, are_set, are_insert, none_there}
use Rattle.node_core.proofs.slots.Slots.put.Goals as goal

pub invariant_of-self : goal.invariant_of-self
invariant_of-self c =
    let x = c.args.marked.slot.name in
    let i = c.rank_in-index.result in
    let place = subst (λ (ks : List Marked). IsPlace x ks i) c.deref.ensures.value c.rank_in-index.ensures in
    let here = subst (λ (ks : List Marked). IsAt x ks i) c.deref-2.ensures.value (c.if-is_at.ensures.found refl) in
    are_set c.args.marked c.self.inside.marked.items i c.self.invariant place here

pub returns-then-is_at-clause-ok : goal.returns-then-is_at-clause-ok
returns-then-is_at-clause-ok c =
    let x = c.args.marked.slot.name in
    let i = c.rank_in-index.result in
    let place = subst (λ (ks : List Marked). IsPlace x ks i) c.deref.ensures.value c.rank_in-index.ensures in
    let here = subst (λ (ks : List Marked). IsAt x ks i) c.deref-2.ensures.value (c.if-is_at.ensures.found refl) in
    sym (put_set c.args.marked c.self.inside.marked.items i place.before here) ∙ ap (put c.args.marked) c.self.view_is

pub invariant_of-self-2 : goal.invariant_of-self-2
invariant_of-self-2 c =
    let x = c.args.marked.slot.name in
    let i = c.rank_in-index.result in
    let ms = c.self.inside.marked.items in
    let place = subst (λ (ks : List Marked). IsPlace x ks i) c.deref.ensures.value c.rank_in-index.ensures in
    let none = none_there x c.deref-2.result.now ms c.deref-2.ensures.value c.if-is_at.ensures.there in
    rw c.in_ok-insert.ensures.items (are_insert c.args.marked ms i c.self.invariant place none (rw c.self.view_is c.requires))

pub returns-clause-ok : goal.returns-clause-ok
returns-clause-ok c =
    let x = c.args.marked.slot.name in
    let i = c.rank_in-index.result in
    let ms = c.self.inside.marked.items in
    let place = subst (λ (ks : List Marked). IsPlace x ks i) c.deref.ensures.value c.rank_in-index.ensures in
    let none = none_there x c.deref-2.result.now ms c.deref-2.ensures.value c.if-is_at.ensures.there in
    c.in_ok-insert.ensures.items ∙ sym (put_insert c.args.marked ms i place.before place.behind none) ∙ ap (put c.args.marked) c.self.view_is
