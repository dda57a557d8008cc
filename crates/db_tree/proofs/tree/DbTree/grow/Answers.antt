use Rattle.std.proofs.Common.{◌≡◌, ◌∙◌, List, length, subst, sym}
use Rattle.je_order.specs.declared.name.Name.{Name}
use Rattle.record_map.specs.declared.cell.Cell.{Cell}
use Rattle.tree_nodes.specs.Lows.{lows_of}
use Rattle.db_tree.specs.Splits.{is_raised}
use Rattle.db_tree.specs.Trees.{IsTree}
use Rattle.db_tree.proofs.GrowLaws.{numbered_high}
use Rattle.db_tree.proofs.PlaceLaws.{raised_is}
use Rattle.db_tree.proofs.SinceLaws.{splits_since}
use Rattle.db_tree.proofs.tree.DbTree.grow.Goals as goal

pub returns-then-not-is_raised-clause-since : goal.returns-then-not-is_raised-clause-since
returns-then-not-is_raised-clause-since c = λ all. splits_since c.args.mark 0 c.args.splits.now c.args.self.now.levels c.split_each.new.self.levels c.in_ok-split_each.ensures.split all

pub returns-in-Ok-clause-since : goal.returns-in-Ok-clause-since
returns-in-Ok-clause-since c = λ all. c.in-Ok.ensures.since (splits_since c.args.mark 0 c.args.splits.now c.args.self.now.levels c.split_each.new.self.levels c.in_ok-split_each.ensures.split all)

pub returns-in-Ok-clause-numbers : goal.returns-in-Ok-clause-numbers
returns-in-Ok-clause-numbers c =
    let height : length c.args.splits.now ≡ length c.args.self.now.levels = c.if-not-is_raised.false ∙ c.height.ensures.value in
    numbered_high c.args.first c.saturating_add-number.result c.args.splits.now (is_raised c.args.splits.now (lows_of c.args.self.now.levels)) c.args.self.now.levels c.split_each.new.self.levels c.raise_root.new.self.levels
    (raised_is c.args.splits.now c.args.self.now.levels c.height.result c.height.ensures.value c.if-not-is_raised.false) c.in_ok-split_each.ensures.numbers height c.in_ok-split_each.ensures.height c.in-Ok.ensures.number
    c.saturating_add-number.ensures c.in-Ok.ensures.below

pub returns-then-not-is_raised-clause-tree : goal.returns-then-not-is_raised-clause-tree
returns-then-not-is_raised-clause-tree c = λ es base newest behind tree.
    subst (λ (cells : List (Name × Cell)). IsTree es base newest c.split_each.new.self.levels cells) (sym c.note_halves.ensures) (c.in_ok-split_each.ensures.tree es base newest tree)

pub returns-in-Ok-clause-tree : goal.returns-in-Ok-clause-tree
returns-in-Ok-clause-tree c = λ es base newest behind tree.
    c.in-Ok.ensures.tree es base newest behind
    (subst (λ (cells : List (Name × Cell)). IsTree es base newest c.split_each.new.self.levels cells) (sym c.note_halves.ensures) (c.in_ok-split_each.ensures.tree es base newest tree))
