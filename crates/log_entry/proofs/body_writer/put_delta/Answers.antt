use Rattle.std.proofs.Common.{ℕ, ◌++◌, ◌∙◌, ap}
use Rattle.std.specs.Int.{w16, w64, to_be_bytes}
use Rattle.log_entry.specs.Items.{counted_bytes, record_slot_bytes}
use Rattle.log_entry.proofs.VectorAppends.{puts_behind, puts_then, puts_stops, stops_unchanged}
use Rattle.log_entry.proofs.body_writer.put_delta.Goals as goal

pub returns-in_err-put_node : goal.returns-in_err-put_node
returns-in_err-put_node c = puts_stops (to_be_bytes w64 c.args.full ++ counted_bytes w16 record_slot_bytes c.args.slots.now) c.from_residual.ensures.0 c.in_err-put_node.ensures

pub returns-in_err-put_u64 : goal.returns-in_err-put_u64
returns-in_err-put_u64 c =
    puts_then c.in_ok-put_node.ensures
    (stops_unchanged (to_be_bytes w64 c.args.full) (counted_bytes w16 record_slot_bytes c.args.slots.now) c.from_residual-in_err-put_u64.ensures.0 c.in_err-put_u64.ensures.err c.in_err-put_u64.ensures.fits c.in_err-put_u64.ensures.capacity)

pub returns : goal.returns
returns c =
    puts_then c.in_ok-put_node.ensures
    (puts_behind (to_be_bytes w64 c.args.full) (c.in_ok-put_u64.ensures.ok ∙ ap (λ (n : ℕ). c.put_node.new.out.items ++ to_be_bytes w64 n) c.as_u64.ensures) c.in_ok-put_u64.ensures.capacity c.put_counted.ensures)
