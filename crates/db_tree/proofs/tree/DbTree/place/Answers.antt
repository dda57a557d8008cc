use Rattle.std.proofs.Common.{◌∙◌, sym}
use Rattle.db_tree.proofs.PlaceLaws.{placed_there, no_numbers}
use Rattle.db_tree.proofs.tree.DbTree.place.Goals as goal

pub returns-then-has_cell-clause-placed : goal.returns-then-has_cell-clause-placed
returns-then-has_cell-clause-placed c =
    (placed_there c.args.db c.args.fanout c.args.name.now c.no_room.result c.args.self.now c.height-height.ensures.parts (sym c.has_cell.ensures ∙ c.if-has_cell.true) c.no_room.ensures.splits c.no_room.ensures.raised c.no_room.ensures.new c.no_room.ensures.images).0

pub returns-then-has_cell-clause-numbers : goal.returns-then-has_cell-clause-numbers
returns-then-has_cell-clause-numbers c = no_numbers c.args.first c.no_room.result c.args.self.now.levels c.no_room.ensures.splits c.no_room.ensures.raised
