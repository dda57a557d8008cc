use Rattle.std.proofs.Common.{◌∙◌, ◌-◌, sym, length, arith}
use Rattle.node_core.proofs.SlotPositions.{same_item, last_of_some, place_behind}
use Rattle.node_core.proofs.slots.are_below.Goals as goal

pub returns : goal.returns
returns c below =
    let ms = c.args.marked.now in
    let m = c.index-marked-marked.result in
    let last = last_of_some ms c.is_empty.result c.is_empty.ensures c.if-is_empty.false in
    place_behind c.args.at.now ms (length ms - 1) m c.requires last (c.index-marked-marked.is ∙ same_item _ m ms (length ms - 1) (omega (arith, last))) (sym c.is_below.ensures ∙ below)
