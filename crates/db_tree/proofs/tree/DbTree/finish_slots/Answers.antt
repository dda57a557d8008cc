use Rattle.std.proofs.Common.{◌∙◌, ◌<◌, ℕ, refl, subst, sym}
use Rattle.db_tree.proofs.FinishLaws.{finish_begin, finish_next, finish_past, finish_all, set_height, each_next}
use Rattle.db_tree.proofs.tree.DbTree.finish_slots.Goals as goal

pub loop-i-init : goal.loop-i-init
loop-i-init c = record { slots = finish_begin c.args.self.now.levels c.args.level c.args.children.now c.args.slots.now; height = refl; each = λ all. all }

pub loop-i-preserved : goal.loop-i-preserved
loop-i-preserved c = record {
  slots = finish_next c.args.self.now.levels c.args.level c.args.children.now c.args.slots.now c.loop-i.slots c.loop-i.i c.bounded-at.result c.index-children-i.result c.index-slots-i.result (subst (λ (n : ℕ). c.loop-i.i < n) (sym c.loop-i.invariant.height) c.loop-i-test.true) c.if-i-children.false
      c.index-children-i.is (c.bounded-at.ensures.same ∙ c.last_at.ensures) c.loop-i.invariant.slots c.loop-i.invariant.height;
  height = set_height c.loop-i.slots c.loop-i.i _ ∙ c.loop-i.invariant.height;
  each = λ all. each_next c.loop-i.slots c.loop-i.i c.bounded-at.result c.index-slots-i.result (subst (λ (n : ℕ). c.loop-i.i < n) (sym c.loop-i.invariant.height) c.loop-i-test.true) c.bounded-at.ensures.bound (c.loop-i.invariant.each all);
}

pub returns-then-i-children-clause-slots : goal.returns-then-i-children-clause-slots
returns-then-i-children-clause-slots c = c.loop-i.invariant.slots ∙ finish_past c.args.self.now.levels c.args.level c.args.children.now c.args.slots.now c.loop-i.i c.if-i-children.true

pub returns-clause-slots : goal.returns-clause-slots
returns-clause-slots c = c.loop-i.invariant.slots ∙ finish_all c.args.self.now.levels c.args.level c.args.children.now c.args.slots.now c.loop-i.i c.loop-i-test.false
