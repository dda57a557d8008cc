use Rattle.std.proofs.Common.{Some, ◌≤◌, ◌∙◌, ℕ, ap, arith, subst, sym}
use Rattle.std.proofs.lemmas.Option.{none-some}
use Rattle.tree_nodes.proofs.LevelLaws.{is_level}
use Rattle.tree_nodes.specs.declared.node.Node.{Node}
use Rattle.tree_nodes.specs.Levels.{row_of, HasPutAt}
use Rattle.record_map.specs.Cells.{value_at}
use Rattle.db_tree.specs.Content.{kept_by}
use Rattle.db_tree.proofs.NodeLogging.{image_noted}
use Rattle.db_tree.proofs.NodesExact.{none_exact, noted_exact}
use Rattle.db_tree.proofs.Over.{there_is}
use Rattle.db_tree.proofs.NoteLaws.{cleared, noted_lows, noted_waits, few_still, past_waits, none_waits}
use Rattle.db_tree.proofs.NodeSteps.{node_noted}
use Rattle.db_tree.proofs.NotingLaws.{notes_put, notes_then}
use Rattle.db_tree.proofs.tree.DbTree.note_image.Goals as goal

pub returns-clause-notes : goal.returns-clause-notes
returns-clause-notes c =
    notes_then c.args.self.now.levels c.hand_on.new.levels c.set.new.self c.hand_on.ensures.notes
    (notes_put c.hand_on.new.levels c.set.new.self c.args.level c.args.low.now c.copy-node.result c.logged.result
    (ap (value_at c.args.low.now) c.hand_on.ensures.row ∙ sym c.in-Some.ensures ∙ ap Some (sym c.copy-node.ensures)) c.set.ensures.put (ap (λ (n : Node). n.number) c.logged.ensures) (ap (λ (n : Node). n.noted) c.logged.ensures))

pub returns-clause-tree : goal.returns-clause-tree
returns-clause-tree c = λ es base newest image tree.
    let old = c.args.self.now.levels in
    let handed = c.hand_on.new.levels in
    let low = c.args.low.now in
    let there = sym c.in-Some.ensures ∙ ap Some (sym c.copy-node.ensures) in
    image_noted es base newest old handed c.set.new.self (kept_by c.args.self.now.cells) c.args.level low c.copy-node.result c.args.at c.hand_on.ensures.parts c.hand_on.ensures.row c.hand_on.ensures.others there c.hand_on.ensures.handed
    (subst (λ (n : Node). HasPutAt handed c.set.new.self c.args.level low n) c.logged.ensures c.set.ensures.put) (image c.copy-node.result there) (c.hand_on.ensures.tree es base newest (kept_by c.args.self.now.cells) tree)

pub returns-clause-lows : goal.returns-clause-lows
returns-clause-lows c =
    noted_lows c.args.self.now.levels c.hand_on.new.levels c.set.new.self c.args.level c.args.low.now c.copy-node.result _ c.hand_on.ensures.parts c.set.ensures.parts c.hand_on.ensures.alike c.hand_on.ensures.row
    (sym c.in-Some.ensures ∙ ap Some (sym c.copy-node.ensures)) c.set.ensures.put

pub returns-clause-waits : goal.returns-clause-waits
returns-clause-waits c =
    noted_waits c.args.self.now.levels c.hand_on.new.levels c.set.new.self c.args.level c.args.low.now c.copy-node.result _ c.hand_on.ensures.parts c.set.ensures.parts c.hand_on.ensures.alike c.hand_on.ensures.row
    (sym c.in-Some.ensures ∙ ap Some (sym c.copy-node.ensures)) c.set.ensures.put (ap (λ (n : Node). n.forced) c.logged.ensures)

pub returns-clause-few : goal.returns-clause-few
returns-clause-few c = few_still c.args.self.now.levels c.set.new.self c.args.level c.args.low.now (returns-clause-waits c)

pub returns-then-level-height-clause-waits : goal.returns-then-level-height-clause-waits
returns-then-level-height-clause-waits c = past_waits c.args.self.now.levels c.args.level c.args.low.now c.height-height.ensures.parts (subst (λ (n : ℕ). n ≤ c.args.level) c.height-height.ensures.value c.if-level-height.true)

pub returns-in-None-clause-waits : goal.returns-in-None-clause-waits
returns-in-None-clause-waits c = none_waits c.args.self.now.levels c.args.level c.args.low.now c.height-height.ensures.parts (sym c.in-None.ensures)

pub returns-clause-noted : goal.returns-clause-noted
returns-clause-noted c = λ some.
    node_noted c.args.self.now.levels c.hand_on.new.levels c.set.new.self c.args.level c.args.low.now c.copy-node.result _ c.args.at c.hand_on.ensures.parts c.set.ensures.parts c.hand_on.ensures.nodes c.hand_on.ensures.row
    (sym c.in-Some.ensures ∙ ap Some (sym c.copy-node.ensures)) c.logged.ensures c.set.ensures.put

pub returns-clause-cleared : goal.returns-clause-cleared
returns-clause-cleared c = λ n within there.
    cleared c.hand_on.new.levels c.set.new.self c.args.level c.args.low.now c.logged.result n c.set.ensures.put (ap (λ (m : Node). m.from) c.logged.ensures) there

pub returns-clause-up : goal.returns-clause-up
returns-clause-up c = λ some. record {
  node = c.copy-node.result;
  there = sym c.in-Some.ensures ∙ ap Some (sym c.copy-node.ensures);
  mid = c.hand_on.new.levels;
  handed = c.hand_on.ensures.up;
  put = subst (λ (n : Node). HasPutAt c.hand_on.new.levels c.set.new.self c.args.level c.args.low.now n) c.logged.ensures c.set.ensures.put;
}

pub returns-clause-exact : goal.returns-clause-exact
returns-clause-exact c = λ es due image exact.
    let handed = c.hand_on.new.levels in
    let there = sym c.in-Some.ensures ∙ ap Some (sym c.copy-node.ensures) in
    noted_exact es due c.args.self.now.levels handed c.set.new.self c.args.self.now.cells c.args.level c.args.low.now c.copy-node.result c.args.at c.height-height.ensures.parts c.len-len.ensures.rising c.hand_on.ensures.alike.lows
    (returns-clause-lows c) c.hand_on.ensures.others there (subst (λ (n : Node). HasPutAt handed c.set.new.self c.args.level c.args.low.now n) c.logged.ensures c.set.ensures.put) (image c.copy-node.result there) exact

pub returns-then-level-height-clause-exact : goal.returns-then-level-height-clause-exact
returns-then-level-height-clause-exact c = λ es due image exact.
    let rows = c.args.self.now.levels in
    let past = subst (λ (n : ℕ). n ≤ c.args.level) c.height-height.ensures.value c.if-level-height.true in
    none_exact due rows c.args.self.now.cells c.args.level c.args.low.now (λ m there. (let less = is_level rows c.args.level c.args.low.now (there_is (row_of rows c.args.level) c.args.low.now m there) in absurd (omega (arith, past, less)))) exact

pub returns-in-None-clause-exact : goal.returns-in-None-clause-exact
returns-in-None-clause-exact c = λ es due image exact.
    none_exact due c.args.self.now.levels c.args.self.now.cells c.args.level c.args.low.now (λ m there. none-some m (c.in-None.ensures ∙ there)) exact
