use Rattle.std.proofs.Common.{Some, IsSome, refl, subst, sym}
use Rattle.record_map.specs.Cells.{value_at}
use Rattle.db_tree.specs.Trees.{cell_or_fresh}
use Rattle.db_tree.proofs.Records.{cell_there, holds}
use Rattle.db_tree.proofs.Seen.{same_seen, made_seen, kept_put}
use Rattle.db_tree.proofs.tree.DbTree.put_new.Goals as goal

pub returns-clause-there : goal.returns-clause-there
returns-clause-there c =
    subst IsSome (sym (cell_there c.args.self.now.cells c.make_new.new.cells c.args.name.now (cell_or_fresh (value_at c.args.name.now c.args.self.now.cells)) c.in_ok-make_new.ensures.cell)) refl

pub returns-clause-same : goal.returns-clause-same
returns-clause-same c =
    same_seen c.args.self.now.cells c.make_new.new.cells c.len-before.ensures.rising c.len-after.ensures.rising
    (made_seen c.args.self.now.cells c.make_new.new.cells c.args.name.now c.in_ok-make_new.ensures.cell)

pub returns-clause-kept : goal.returns-clause-kept
returns-clause-kept c =
    kept_put c.args.self.now.cells c.make_new.new.cells c.args.name.now (Some (cell_or_fresh (value_at c.args.name.now c.args.self.now.cells))) c.in_ok-make_new.ensures.cell refl

pub returns-clause-tree : goal.returns-clause-tree
returns-clause-tree c = λ es base newest tree.
    holds es base newest c.args.self.now.levels c.args.self.now.cells c.make_new.new.cells c.args.name.now (cell_or_fresh (value_at c.args.name.now c.args.self.now.cells)) c.in_ok-make_new.ensures.cell refl tree
