use Rattle.db_tree.proofs.PlaceLaws.{cell_undone, filled_by}
use Rattle.db_tree.proofs.tree.DbTree.fill_slot.Goals as goal

pub returns-in-Ok-clause-filled : goal.returns-in-Ok-clause-filled
returns-in-Ok-clause-filled c =
    let made = c.in_ok-put_new.ensures in
    filled_by c.args.db c.args.name.now c.args.nodes.items c.in-Ok.images.items c.args.self.now c.put_new.new.self c.take_images.new.self made.levels made.list made.cell made.there made.same made.kept c.in-Ok.ensures.cells c.in-Ok.ensures.taken

pub returns-in-Err-clause-err_cells : goal.returns-in-Err-clause-err_cells
returns-in-Err-clause-err_cells c =
    cell_undone c.args.self.now.cells c.put_new.new.self.cells c.take_images.new.self.cells c.remove.new.self c.args.name.now c.len-before.ensures.rising c.remove.ensures.rising c.requires c.in_ok-put_new.ensures.cell c.in-Err.ensures.cells
    c.remove.ensures.others

pub returns-in-Ok-clause-tree : goal.returns-in-Ok-clause-tree
returns-in-Ok-clause-tree c = λ es base newest tree. c.in-Ok.ensures.tree es base newest (c.in_ok-put_new.ensures.tree es base newest tree)
