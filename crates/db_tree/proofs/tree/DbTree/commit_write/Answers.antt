use Rattle.std.proofs.Common.{◌≤◌, ◌∙◌, ℕ, List, Option, IfSome, ap, option_map, refl, subst, sym}
use Rattle.je_order.specs.declared.name.Name.{Name}
use Rattle.record_map.specs.declared.cell.Cell.{Cell}
use Rattle.record_map.specs.Cells.{value_at, committed}
use Rattle.record_map.specs.declared.committed_change.CommittedChange.{CommittedChange}
use Rattle.record_map.proofs.NameLaws.{other_stays}
use Rattle.record_tree.specs.Occupied.{after_commit}
use Rattle.tree_nodes.specs.declared.node.Node.{Node}
use Rattle.tree_nodes.specs.Nodes.{marked}
use Rattle.db_tree.specs.Content.{kept_by}
use Rattle.db_tree.specs.Dirty.{AreExact, HasSettled, IsCommittedOver}
use Rattle.db_tree.specs.Trees.{IsTree}
use Rattle.db_tree.proofs.DirtyCommits.{commit_know}
use Rattle.db_tree.proofs.DirtyExact.{commit_exact}
use Rattle.db_tree.proofs.DirtyLaws.{put_know}
use Rattle.db_tree.proofs.AwayLaws.{away_unlike, away_waiting}
use Rattle.db_tree.proofs.NodeSteps.{nodes_marked, nodes_then, none_committed}
use Rattle.db_tree.proofs.Records.{commits, held_apart}
use Rattle.db_tree.proofs.Seen.{change_seen, commit_seen, occupied_rises}
use Rattle.db_tree.proofs.WaitLaws.{mark_alike}
use Rattle.db_tree.proofs.tree.DbTree.commit_write.Goals as goal

-- ---- where the name has no change

pub returns-in-None-clause-committed : goal.returns-in-None-clause-committed
returns-in-None-clause-committed c =
    let old = c.args.self.now.cells in
    let none = none_committed old c.args.name.now c.args.at (sym c.commit_change.ensures.from ∙ ap (option_map (λ (r : CommittedChange). r.from)) c.in-None.is) in
    (none.0, λ x. ap (λ (l : List (Name × Cell)). value_at x l) (c.commit_change.ensures.same c.in-None.is) ∙ none.1 x)

pub returns-in-None-clause-cells : goal.returns-in-None-clause-cells
returns-in-None-clause-cells c =
    let old = c.args.self.now.cells in
    let none = none_committed old c.args.name.now c.args.at (sym c.commit_change.ensures.from ∙ ap (option_map (λ (r : CommittedChange). r.from)) c.in-None.is) in
    change_seen old c.commit_change.new.self c.args.name.now (option_map (committed c.args.at none.0) (value_at c.args.name.now old)) after_commit
    c.len-before.ensures.rising c.commit_change.ensures.rising (λ x. ap (λ (l : List (Name × Cell)). value_at x l) (c.commit_change.ensures.same c.in-None.is) ∙ none.1 x) (commit_seen c.args.at none.0 (value_at c.args.name.now old))

pub returns-in-None-clause-rising : goal.returns-in-None-clause-rising
returns-in-None-clause-rising c = occupied_rises c.commit_change.new.self c.commit_change.ensures.rising

pub returns-in-None-clause-marked : goal.returns-in-None-clause-marked
returns-in-None-clause-marked c =
    subst (λ (o : Option ℕ). IsCommittedOver o c.commit_change.new.self c.args.self.now.levels c.args.self.now.levels c.args.name.now) (sym (sym c.commit_change.ensures.from ∙ ap (option_map (λ (r : CommittedChange). r.from)) c.in-None.is)) refl

pub returns-in-None-clause-tree : goal.returns-in-None-clause-tree
returns-in-None-clause-tree c = λ es base newest le commit tree.
    subst (λ (l : List (Name × Cell)). IsTree es base newest c.args.self.now.levels l) (sym (c.commit_change.ensures.same c.in-None.is)) tree

pub returns-in-None-clause-exact : goal.returns-in-None-clause-exact
returns-in-None-clause-exact c = λ due exact. subst (λ (l : List (Name × Cell)). AreExact due c.args.self.now.levels l) (sym (c.commit_change.ensures.same c.in-None.is)) exact

-- ---- where it has one

pub settle_if-requires-clause-may : goal.settle_if-requires-clause-may
settle_if-requires-clause-may c =
    away_waiting c.args.self.now.levels c.mark.new.self c.commit_change.new.self c.args.name.now c.in-Some.done.from (c.over.result.0.now, c.over.result.1.now) c.may_settle-may.result c.mark.ensures.marked c.over.ensures.over c.may_settle-may.ensures

pub settle_if-requires-clause-shown : goal.settle_if-requires-clause-shown
settle_if-requires-clause-shown c =
    away_unlike c.args.self.now.levels c.mark.new.self c.commit_change.new.self c.args.name.now c.in-Some.done.from (c.over.result.0.now, c.over.result.1.now) c.in-Some.done.is_shown c.mark.ensures.marked c.over.ensures.over c.in-Some.ensures.shown

pub returns-clause-rising : goal.returns-clause-rising
returns-clause-rising c = occupied_rises c.settle_if.new.self.cells c.len-after.ensures.rising

pub returns-clause-committed : goal.returns-clause-committed
returns-clause-committed c = (c.over.result.1.now.last, λ x. ap (λ (l : List (Name × Cell)). value_at x l) c.settle_if.ensures.cells ∙ c.in-Some.ensures.others x)

pub returns-clause-cells : goal.returns-clause-cells
returns-clause-cells c =
    let old = c.args.self.now.cells in
    let last = c.over.result.1.now.last in
    change_seen old c.settle_if.new.self.cells c.args.name.now (option_map (committed c.args.at last) (value_at c.args.name.now old)) after_commit
    c.len-before.ensures.rising c.len-after.ensures.rising (λ x. ap (λ (l : List (Name × Cell)). value_at x l) c.settle_if.ensures.cells ∙ c.in-Some.ensures.others x) (commit_seen c.args.at last (value_at c.args.name.now old))

pub returns-clause-marked : goal.returns-clause-marked
returns-clause-marked c =
    subst (λ (o : Option ℕ). IsCommittedOver o c.settle_if.new.self.cells c.args.self.now.levels c.settle_if.new.self.levels c.args.name.now) (sym (sym c.commit_change.ensures.from ∙ ap (option_map (λ (r : CommittedChange). r.from)) c.in-Some.is))
    (c.mark.new.self, c.mark.ensures.marked, subst (λ (cells : List (Name × Cell)). HasSettled cells c.mark.new.self c.settle_if.new.self.levels c.args.name.now) (sym c.settle_if.ensures.cells) c.settle_if.ensures.settled)

pub returns-clause-waits : goal.returns-clause-waits
returns-clause-waits c =
    let first = mark_alike c.args.self.now.levels c.mark.new.self 0 c.args.name.now c.in-Some.done.from c.height-height.ensures.parts c.mark.ensures.parts c.mark.ensures.marked in
    record { lows = c.settle_if.ensures.waits.lows ∙ first.lows; waits = c.settle_if.ensures.waits.waits ∙ first.waits }

pub returns-clause-nodes : goal.returns-clause-nodes
returns-clause-nodes c =
    nodes_then c.args.self.now.levels c.mark.new.self c.settle_if.new.self.levels
    (nodes_marked c.args.self.now.levels c.mark.new.self 0 c.args.name.now c.in-Some.done.from c.height-height.ensures.parts c.mark.ensures.parts c.mark.ensures.marked) c.settle_if.ensures.nodes

pub returns-clause-exact : goal.returns-clause-exact
returns-clause-exact c =
    let old = c.args.self.now.cells in
    let first = mark_alike c.args.self.now.levels c.mark.new.self 0 c.args.name.now c.in-Some.done.from c.height-height.ensures.parts c.mark.ensures.parts c.mark.ensures.marked in
    λ due exact. subst (λ (cells : List (Name × Cell)). AreExact due c.settle_if.new.self.levels cells) (sym c.settle_if.ensures.cells)
    (commit_exact due c.args.self.now.levels c.mark.new.self c.settle_if.new.self.levels old c.commit_change.new.self c.args.name.now c.in-Some.done.from c.height-height.ensures.parts c.len-before.ensures.rising c.commit_change.ensures.rising first.lows
    c.settle_if.ensures.waits.lows c.mark.ensures.marked c.settle_if.ensures.settled
    (λ x apart. c.in-Some.ensures.others x ∙ other_stays c.args.name.now x (option_map (committed c.args.at c.over.result.1.now.last) (value_at c.args.name.now old)) (value_at x old) apart) exact)

pub returns-clause-tree : goal.returns-clause-tree
returns-clause-tree c = λ es base newest written commit tree.
    let old = c.args.self.now.levels in
    let from = c.in-Some.done.from in
    let le : from ≤ newest c.args.name.now = subst (λ (o : Option ℕ). IfSome o (λ f. f ≤ newest c.args.name.now)) (sym c.commit_change.ensures.from ∙ ap (option_map (λ (r : CommittedChange). r.from)) c.in-Some.is) written in
    let e : Name × Node = (c.over.result.0.now, c.over.result.1.now) in
    let m = c.mark.ensures.marked in
    c.settle_if.ensures.tree es base newest
    (commits es base newest old c.mark.new.self (kept_by c.args.self.now.cells) (kept_by c.commit_change.new.self) c.args.name.now from c.mark.ensures.marked le
    (held_apart c.args.self.now.cells c.commit_change.new.self c.args.name.now (option_map (committed c.args.at c.over.result.1.now.last) (value_at c.args.name.now c.args.self.now.cells)) c.in-Some.ensures.others)
    (put_know es base old c.mark.new.self (kept_by c.commit_change.new.self) m.e (marked from m.e.1) m.over.there refl m.put
    (commit_know es base old c.args.self.now.cells c.commit_change.new.self c.args.name.now c.args.at e commit c.over.ensures.over (λ lsn is. tree.reads 0 c.args.name.now e lsn c.over.ensures.over is) c.in-Some.ensures.given c.in-Some.ensures.others tree.know))
    tree)
