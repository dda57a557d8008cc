use Rattle.std.proofs.Common.{◌∙◌, map, ap, subst}
use Rattle.log_entry.specs.Body.{IsEntry}
use Rattle.node_log.specs.Slots.{slot_of_child, slot_of_record}
use Rattle.node_log.proofs.NodeFromSlots.{children_slots, records_slots, in_shown, bin_shown}
use Rattle.node_log.proofs.reading.whole.Goals as goal

pub filled-requires-clause-rises : goal.filled-requires-clause-rises
filled-requires-clause-rises c =
    children_slots c.in-In.slots c.in_ok-slots-in-In.slots (c.in_ok-slots-in-In.ensures ∙ ap (map slot_of_child) c.as_slice.ensures) (subst IsEntry c.in-In.is c.requires).5

pub filled-requires-in-Bin-clause-rises : goal.filled-requires-in-Bin-clause-rises
filled-requires-in-Bin-clause-rises c =
    records_slots c.in-Bin.slots c.in_ok-slots-in-Bin.slots (c.in_ok-slots-in-Bin.ensures ∙ ap (map slot_of_record) c.as_slice-in-Bin.ensures) (subst IsEntry c.in-Bin.is c.requires).2

pub returns-in_ok-filled-in-In : goal.returns-in_ok-filled-in-In
returns-in_ok-filled-in-In c =
    in_shown c.args.entry.now c.in-In.db c.in-In.node c.in-In.level c.in-In.slots c.as_slice.result.now c.in_ok-slots-in-In.slots c.in_ok-filled-in-In.field-0
    c.in-In.is c.as_slice.ensures c.in_ok-slots-in-In.ensures c.in_ok-filled-in-In.ensures

pub returns-in_ok-filled-in-Bin : goal.returns-in_ok-filled-in-Bin
returns-in_ok-filled-in-Bin c =
    bin_shown c.args.entry.now c.in-Bin.db c.in-Bin.node c.in-Bin.slots c.as_slice-in-Bin.result.now c.in_ok-slots-in-Bin.slots c.in_ok-filled-in-Bin.field-0
    c.in-Bin.is c.as_slice-in-Bin.ensures c.in_ok-slots-in-Bin.ensures c.in_ok-filled-in-Bin.ensures
