use Rattle.std.proofs.Common.{◌≡◌, ◌∙◌, ℕ, List, Some, cond, is_eq, refl, sym, subst}
use Rattle.je_order.specs.Order.{name_cmp}
use Rattle.je_order.specs.declared.name.Name.{Name}
use Rattle.record_map.specs.declared.cell.Cell.{Cell}
use Rattle.record_map.specs.Cells.{value_at, IsRising}
use Rattle.tree_nodes.specs.declared.node.Node.{Node}
use Rattle.tree_nodes.specs.Nodes.{marked}
use Rattle.db_tree.specs.Images.{IsBin, entry_at}
use Rattle.db_tree.proofs.DirtyCommits.{redo_above, redo_know, redo_upto}
use Rattle.record_map.proofs.NameLaws.{other_stays}
use Rattle.db_tree.specs.Dirty.{AreExact}
use Rattle.db_tree.proofs.DirtyExact.{commit_exact}
use Rattle.db_tree.proofs.DirtyLaws.{put_know}
use Rattle.db_tree.proofs.AwayLaws.{away_unlike, away_waiting}
use Rattle.db_tree.specs.Content.{kept_by}
use Rattle.db_tree.specs.Trees.{HasCell, cell_or_fresh}
use Rattle.db_tree.specs.Seen.{occupied, with_value}
use Rattle.db_tree.specs.Stored.{with_logged}
use Rattle.db_tree.proofs.Records.{changes, held_apart}
use Rattle.db_tree.proofs.Seen.{change_seen, logged_seen}
use Rattle.db_tree.proofs.WaitLaws.{mark_alike}
use Rattle.db_tree.proofs.NodeSteps.{nodes_marked, nodes_then}
use Rattle.db_tree.proofs.tree.DbTree.redo_first.Goals as goal

pub settle_if-requires-clause-may : goal.settle_if-requires-clause-may
settle_if-requires-clause-may c =
    away_waiting c.args.self.now.levels c.mark.new.self c.make_logged.new.cells c.args.name.now c.args.first (c.over.result.0.now, c.over.result.1.now) c.may_settle-may.result c.mark.ensures.marked c.over.ensures.over c.may_settle-may.ensures

pub settle_if-requires-clause-shown : goal.settle_if-requires-clause-shown
settle_if-requires-clause-shown c =
    away_unlike c.args.self.now.levels c.mark.new.self c.make_logged.new.cells c.args.name.now c.args.first (c.over.result.0.now, c.over.result.1.now) c.in_ok-is_shown.is_shown c.mark.ensures.marked c.over.ensures.over c.in_ok-is_shown.ensures.shown

pub returns-clause-cells : goal.returns-clause-cells
returns-clause-cells c =
    let old = c.args.self.now.cells in
    let cell = cell_or_fresh (value_at c.args.name.now old) in
    subst (λ (cells : List (Name × Cell)). (x : Name) → value_at x (occupied cells) ≡ cond (is_eq (name_cmp c.args.name.now x)) (with_value c.args.value (value_at x (occupied old))) (value_at x (occupied old))) (sym c.settle_if.ensures.cells)
    (change_seen old c.make_logged.new.cells c.args.name.now (Some (with_logged c.args.value c.args.at c.behind-commit.result c.over.result.1.now.last cell)) (with_value c.args.value)
    c.len-before.ensures.rising c.make_logged.ensures.rising c.in_ok-is_shown.ensures.cell
    (logged_seen c.args.value c.args.at c.behind-commit.result c.over.result.1.now.last (value_at c.args.name.now old)))

pub returns-clause-logged : goal.returns-clause-logged
returns-clause-logged c =
    let old = c.args.self.now.cells in
    record {
      commit = c.behind-commit.result;
      last = c.over.result.1.now.last;
      cell = subst (λ (cells : List (Name × Cell)). HasCell old cells c.args.name.now (with_logged c.args.value c.args.at c.behind-commit.result c.over.result.1.now.last (cell_or_fresh (value_at c.args.name.now old)))) (sym c.settle_if.ensures.cells)
          c.in_ok-is_shown.ensures.cell;
    }

pub returns-clause-rising : goal.returns-clause-rising
returns-clause-rising c = subst IsRising (sym c.settle_if.ensures.cells) c.make_logged.ensures.rising

pub returns-clause-tree : goal.returns-clause-tree
returns-clause-tree c = λ es base newest le redone tree.
    let old = c.args.self.now.cells in
    let e : Name × Node = (c.over.result.0.now, c.over.result.1.now) in
    let m = c.mark.ensures.marked in
    let logged = with_logged c.args.value c.args.at c.behind-commit.result e.1.last (cell_or_fresh (value_at c.args.name.now old)) in
    let reads : (lsn : ℕ) → e.1.last ≡ Some lsn → IsBin (entry_at es lsn) = λ lsn is. tree.reads 0 c.args.name.now e lsn c.over.ensures.over is in
    c.settle_if.ensures.tree es base newest
    (changes es base newest c.args.self.now.levels c.mark.new.self (kept_by old) (kept_by c.make_logged.new.cells) c.args.name.now c.args.first c.mark.ensures.marked le
    (held_apart old c.make_logged.new.cells c.args.name.now (Some logged) c.in_ok-is_shown.ensures.cell)
    (put_know es base c.args.self.now.levels c.mark.new.self (kept_by c.make_logged.new.cells) m.e (marked c.args.first m.e.1) m.over.there refl m.put
    (redo_know es base c.args.self.now.levels old c.make_logged.new.cells c.args.name.now c.args.value c.args.at c.behind-commit.result e c.over.ensures.over
    (redo_above es base c.args.at c.behind-commit.result e.1.last redone reads c.behind-commit.ensures.above) (redo_upto es base c.args.at c.behind-commit.result e.1.last redone reads c.behind-commit.ensures.upto)
    c.in_ok-is_shown.ensures.cell tree.know))
    tree)

pub returns-clause-waits : goal.returns-clause-waits
returns-clause-waits c =
    let first = mark_alike c.args.self.now.levels c.mark.new.self 0 c.args.name.now c.args.first c.height-height.ensures.parts c.mark.ensures.parts c.mark.ensures.marked in
    record { lows = c.settle_if.ensures.waits.lows ∙ first.lows; waits = c.settle_if.ensures.waits.waits ∙ first.waits }

pub returns-clause-nodes : goal.returns-clause-nodes
returns-clause-nodes c =
    nodes_then c.args.self.now.levels c.mark.new.self c.settle_if.new.self.levels
    (nodes_marked c.args.self.now.levels c.mark.new.self 0 c.args.name.now c.args.first c.height-height.ensures.parts c.mark.ensures.parts c.mark.ensures.marked) c.settle_if.ensures.nodes

pub returns-clause-exact : goal.returns-clause-exact
returns-clause-exact c =
    let old = c.args.self.now.cells in
    let logged = with_logged c.args.value c.args.at c.behind-commit.result c.over.result.1.now.last (cell_or_fresh (value_at c.args.name.now old)) in
    let first = mark_alike c.args.self.now.levels c.mark.new.self 0 c.args.name.now c.args.first c.height-height.ensures.parts c.mark.ensures.parts c.mark.ensures.marked in
    λ due exact. subst (λ (cells : List (Name × Cell)). AreExact due c.settle_if.new.self.levels cells) (sym c.settle_if.ensures.cells)
    (commit_exact due c.args.self.now.levels c.mark.new.self c.settle_if.new.self.levels old c.make_logged.new.cells c.args.name.now c.args.first c.height-height.ensures.parts c.len-before.ensures.rising c.make_logged.ensures.rising first.lows
    c.settle_if.ensures.waits.lows c.mark.ensures.marked c.settle_if.ensures.settled
    (λ x apart. c.in_ok-is_shown.ensures.cell x ∙ other_stays c.args.name.now x (Some logged) (value_at x old) apart) exact)
