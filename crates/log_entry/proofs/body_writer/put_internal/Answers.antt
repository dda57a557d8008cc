use Rattle.std.proofs.Common.{[], ◌∷◌}
use Rattle.std.specs.Int.{w16}
use Rattle.log_entry.specs.Items.{counted_bytes, child_slot_bytes}
use Rattle.log_entry.proofs.VectorAppends.{puts_behind, puts_then, puts_stops, push_stops}
use Rattle.log_entry.proofs.body_writer.put_internal.Goals as goal

pub returns-in_err-put_node : goal.returns-in_err-put_node
returns-in_err-put_node c = puts_stops (c.args.level ∷ counted_bytes w16 child_slot_bytes c.args.slots.now) c.from_residual.ensures.0 c.in_err-put_node.ensures

pub returns-in_err-push : goal.returns-in_err-push
returns-in_err-push c =
    puts_then c.in_ok-put_node.ensures
    (push_stops c.args.level (counted_bytes w16 child_slot_bytes c.args.slots.now) c.put_node.new.out.len c.from_residual-in_err-push.ensures.0 c.in_err-push.ensures.items c.put_node.new.out.ok.0 c.in_err-push.ensures.succeeds c.in_err-push.ensures.capacity)

pub returns : goal.returns
returns c = puts_then c.in_ok-put_node.ensures (puts_behind (c.args.level ∷ []) c.in_ok-push.ensures.items c.in_ok-push.ensures.capacity c.put_counted.ensures)
