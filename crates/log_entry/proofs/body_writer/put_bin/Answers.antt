use Rattle.std.specs.Int.{w16}
use Rattle.log_entry.specs.Items.{counted_bytes, record_slot_bytes}
use Rattle.log_entry.proofs.VectorAppends.{puts_then, puts_stops}
use Rattle.log_entry.proofs.body_writer.put_bin.Goals as goal

pub returns-in_err-put_node : goal.returns-in_err-put_node
returns-in_err-put_node c = puts_stops (counted_bytes w16 record_slot_bytes c.args.slots.now) c.from_residual.ensures.0 c.in_err-put_node.ensures

pub returns : goal.returns
returns c = puts_then c.in_ok-put_node.ensures c.put_counted.ensures
