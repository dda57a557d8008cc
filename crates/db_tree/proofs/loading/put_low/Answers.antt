use Rattle.std.proofs.Common.{◌≡◌, None, subst, sym}
use Rattle.je_order.specs.declared.name.Name.{Name}
use Rattle.record_map.specs.Cells.{value_at}
use Rattle.tree_nodes.specs.Levels.{row_of}
use Rattle.db_tree.proofs.LoadingLaws.{more_put}
use Rattle.db_tree.proofs.Lows.{low_put}
use Rattle.db_tree.proofs.WaitCounts.{new_few}
use Rattle.db_tree.proofs.loading.put_low.Goals as goal

pub returns-clause-here : goal.returns-clause-here
returns-clause-here c = low_put c.args.levels.now c.split.new.self c.args.level c.args.low.now c.in_ok-copy.copy c.unlogged.result c.in_ok-copy.ensures c.in_ok-split.ensures.ok

pub returns-clause-few : goal.returns-clause-few
returns-clause-few c =
    new_few c.args.levels.now c.split.new.self c.args.level c.in_ok-copy.copy c.unlogged.result c.requires.there
    (subst (λ (y : Name). value_at y (row_of c.args.levels.now c.args.level) ≡ None) (sym c.in_ok-copy.ensures) (sym c.in_default.ensures)) c.in_ok-split.ensures.ok c.in_ok-split.ensures.low

pub returns-clause-most : goal.returns-clause-most
returns-clause-most c =
    new_few c.args.levels.now c.split.new.self c.args.level c.in_ok-copy.copy c.unlogged.result c.requires.there
    (subst (λ (y : Name). value_at y (row_of c.args.levels.now c.args.level) ≡ None) (sym c.in_ok-copy.ensures) (sym c.in_default.ensures)) c.in_ok-split.ensures.ok c.in_ok-split.ensures.low

pub returns-clause-more : goal.returns-clause-more
returns-clause-more c top le =
    more_put c.args.levels.now c.split.new.self c.args.level top c.args.low.now c.in_ok-copy.copy c.unlogged.result le c.in_ok-copy.ensures (sym c.in_default.ensures) c.in_ok-split.ensures.ok
