use Rattle.std.proofs.Common.{◌∙◌, refl, sym}
use Rattle.std.proofs.lemmas.Bool.{true≢false}
use Rattle.je_order.specs.declared.name.Name.{Name}
use Rattle.tree_nodes.specs.declared.node.Node.{Node}
use Rattle.tree_nodes.specs.Nodes.{without_mark}
use Rattle.tree_nodes.specs.Levels.{row_of}
use Rattle.db_tree.proofs.DirtyLaws.{imaged_last, imaged_may, settled_tree, unlike_away, unmarked_at}
use Rattle.db_tree.proofs.NodeSteps.{nodes_put}
use Rattle.db_tree.proofs.WaitLaws.{put_alike}
use Rattle.db_tree.proofs.tree.DbTree.settle.Goals as goal

pub returns-then-not-may_settle-clause-settled : goal.returns-then-not-may_settle-clause-settled
returns-then-not-may_settle-clause-settled c =
    let e : Name × Node = (c.over.result.0.now, c.over.result.1.now) in
    record {
      e = e;
      over = c.over.ensures.over;
      cleared = λ h. absurd (true≢false (sym (imaged_may (row_of c.args.self.now.levels 0) c.args.self.now.cells e h) ∙ sym c.may_settle.ensures ∙ c.if-not-may_settle.true));
      kept = λ h. refl;
    }

pub returns-then-differs-clause-settled : goal.returns-then-differs-clause-settled
returns-then-differs-clause-settled c =
    let e : Name × Node = (c.over.result.0.now, c.over.result.1.now) in
    record {
      e = e;
      over = c.over.ensures.over;
      cleared = λ h. absurd (true≢false (sym h
          ∙ unlike_away (row_of c.args.self.now.levels 0) c.args.self.now.cells c.args.name.now e c.over.ensures.over (sym c.differs.ensures ∙ c.if-differs.true)));
      kept = λ h. refl;
    }

pub returns-clause-settled : goal.returns-clause-settled
returns-clause-settled c =
    let e : Name × Node = (c.over.result.0.now, c.over.result.1.now) in
    record {
      e = e;
      over = c.over.ensures.over;
      cleared = λ h. unmarked_at c.args.self.now.levels c.unmark.new.self c.args.name.now e c.unmark.ensures.unmarked c.over.ensures.over;
      kept = λ h. absurd (true≢false (sym (sym c.is_as_imaged.ensures ∙ c.if-not-is_as_imaged.false) ∙ h));
    }

pub returns-clause-waits : goal.returns-clause-waits
returns-clause-waits c =
    let e : Name × Node = (c.over.result.0.now, c.over.result.1.now) in
    put_alike c.args.self.now.levels c.unmark.new.self 0 e.0 e.1 (without_mark e.1) c.height-height.ensures.parts c.unmark.ensures.parts c.over.ensures.over.there
    (unmarked_at c.args.self.now.levels c.unmark.new.self c.args.name.now e c.unmark.ensures.unmarked c.over.ensures.over) refl

pub returns-clause-nodes : goal.returns-clause-nodes
returns-clause-nodes c =
    let e : Name × Node = (c.over.result.0.now, c.over.result.1.now) in
    nodes_put c.args.self.now.levels c.unmark.new.self 0 e.0 e.1 (without_mark e.1) c.height-height.ensures.parts c.unmark.ensures.parts c.over.ensures.over.there
    (unmarked_at c.args.self.now.levels c.unmark.new.self c.args.name.now e c.unmark.ensures.unmarked c.over.ensures.over) (record { number = refl; last = refl; forced = refl })

pub returns-clause-tree : goal.returns-clause-tree
returns-clause-tree c = λ es base newest tree.
    let e : Name × Node = (c.over.result.0.now, c.over.result.1.now) in
    let imaged = imaged_last (row_of c.args.self.now.levels 0) c.args.self.now.cells e (sym c.is_as_imaged.ensures ∙ c.if-not-is_as_imaged.false) in
    settled_tree es base newest c.args.self.now.levels c.unmark.new.self c.args.self.now.cells e c.over.ensures.over.there
    (unmarked_at c.args.self.now.levels c.unmark.new.self c.args.name.now e c.unmark.ensures.unmarked c.over.ensures.over) imaged.0 imaged.1 tree
