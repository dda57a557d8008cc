use Rattle.std.proofs.Common.{◌∙◌, sym, ap}
use Rattle.record_map.specs.Cells.{last_of}
use Rattle.db_tree.proofs.ReadCells.{occupied_last}
use Rattle.db_tree.proofs.reading.last_occupied.Goals as goal

pub returns-then-is_occupied : goal.returns-then-is_occupied
returns-then-is_occupied c =
    sym (sym (ap last_of c.loop-i.invariant.same) ∙ occupied_last c.loop-i.cells c.next_back.new.self c.in-Some.name.now c.in-Some.cell.now c.in-Some.ensures.steps (sym c.is_occupied.ensures ∙ c.if-is_occupied.true))
