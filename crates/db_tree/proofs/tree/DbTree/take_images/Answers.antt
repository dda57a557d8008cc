use Rattle.db_tree.proofs.PlaceLaws.{taken}
use Rattle.db_tree.proofs.tree.DbTree.take_images.Goals as goal

pub returns-clause-taken : goal.returns-clause-taken
returns-clause-taken c =
    let are = taken c.args.db c.args.nodes.items c.as_slice.result.now c.in_ok-images.images.items c.args.self.now.levels c.clear_all.new.self.levels c.args.self.now.cells c.clear_all.new.self.cells c.as_slice.ensures.value c.clear_all.ensures.forced c.clear_all.ensures.cells
    c.in_ok-images.ensures.images in
    record { images = are.0; loggable = c.in_ok-images.ensures.loggable; waited = c.in_ok-images.ensures.waited; cleared = are.1 }
