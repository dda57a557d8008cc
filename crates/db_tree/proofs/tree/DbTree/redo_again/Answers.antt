use Rattle.std.proofs.Common.{None, Some, sym}
use Rattle.record_map.specs.Cells.{value_at}
use Rattle.db_tree.specs.Trees.{cell_or_fresh}
use Rattle.db_tree.specs.Seen.{with_value}
use Rattle.db_tree.specs.Stored.{with_logged}
use Rattle.db_tree.proofs.Records.{again_holds, holds, same_kept, made_and_changed, there_cell}
use Rattle.db_tree.proofs.DirtyCells.{exact_held}
use Rattle.db_tree.proofs.Seen.{change_seen, logged_seen}
use Rattle.db_tree.proofs.tree.DbTree.redo_again.Goals as goal

pub returns-clause-logged : goal.returns-clause-logged
returns-clause-logged c =
    let old = c.args.self.now.cells in
    record {
      commit = c.touched-commit.result;
      last = None;
      cell = made_and_changed old old c.set_logged.new.cells c.args.name.now (cell_or_fresh (value_at c.args.name.now old)) (with_logged c.args.value c.args.at c.touched-commit.result None) (there_cell old c.args.name.now c.requires.there)
          c.set_logged.ensures.others;
    }

pub returns-clause-cells : goal.returns-clause-cells
returns-clause-cells c =
    let old = c.args.self.now.cells in
    let cell = cell_or_fresh (value_at c.args.name.now old) in
    change_seen old c.set_logged.new.cells c.args.name.now (Some (with_logged c.args.value c.args.at c.touched-commit.result None cell)) (with_value c.args.value) c.len-before.ensures.rising c.set_logged.ensures.rising
    (made_and_changed old old c.set_logged.new.cells c.args.name.now cell (with_logged c.args.value c.args.at c.touched-commit.result None) (there_cell old c.args.name.now c.requires.there) c.set_logged.ensures.others)
    (logged_seen c.args.value c.args.at c.touched-commit.result None (value_at c.args.name.now old))

pub returns-clause-tree : goal.returns-clause-tree
returns-clause-tree c = λ es base newest tree.
    let old = c.args.self.now.cells in
    let cell = cell_or_fresh (value_at c.args.name.now old) in
    holds es base newest c.args.self.now.levels old c.set_logged.new.cells c.args.name.now (with_logged c.args.value c.args.at c.touched-commit.result None cell)
    (made_and_changed old old c.set_logged.new.cells c.args.name.now cell (with_logged c.args.value c.args.at c.touched-commit.result None) (there_cell old c.args.name.now c.requires.there) c.set_logged.ensures.others)
    (again_holds c.args.value c.args.at c.touched-commit.result cell (sym c.requires.already) c.touched-commit.ensures) tree

pub returns-clause-exact : goal.returns-clause-exact
returns-clause-exact c = λ due exact.
    let old = c.args.self.now.cells in
    let cell = cell_or_fresh (value_at c.args.name.now old) in
    exact_held due c.args.self.now.levels old c.set_logged.new.cells c.len-before.ensures.rising c.set_logged.ensures.rising
    (same_kept old c.set_logged.new.cells c.args.name.now (with_logged c.args.value c.args.at c.touched-commit.result None cell)
    (made_and_changed old old c.set_logged.new.cells c.args.name.now cell (with_logged c.args.value c.args.at c.touched-commit.result None) (there_cell old c.args.name.now c.requires.there) c.set_logged.ensures.others)
    (again_holds c.args.value c.args.at c.touched-commit.result cell (sym c.requires.already) c.touched-commit.ensures)) exact
