use Rattle.std.proofs.Common.{◌++◌}
use Rattle.std.specs.Int.{w16, w32, w64, to_be_bytes}
use Rattle.log_entry.specs.Fields.{optional_bytes}
use Rattle.log_entry.specs.Items.{counted_bytes, root_bytes}
use Rattle.log_entry.proofs.VectorAppends.{puts_then, puts_stops}
use Rattle.log_entry.proofs.body_writer.put_ckpt_end.Goals as goal

pub returns-in_err-put_checkpoint : goal.returns-in_err-put_checkpoint
returns-in_err-put_checkpoint c =
    puts_stops ((to_be_bytes w64 c.args.last_txn.0 ++ (to_be_bytes w64 c.args.last_node ++ to_be_bytes w32 c.args.last_db)) ++ (optional_bytes c.args.summary ++ counted_bytes w16 root_bytes c.args.roots.now)) c.from_residual.ensures.0 c.in_err-put_checkpoint.ensures

pub returns-in_err-put_last : goal.returns-in_err-put_last
returns-in_err-put_last c =
    puts_then c.in_ok-put_checkpoint.ensures (puts_stops (optional_bytes c.args.summary ++ counted_bytes w16 root_bytes c.args.roots.now) c.from_residual-in_err-put_last.ensures.0 c.in_err-put_last.ensures)

pub returns-in_err-put_optional : goal.returns-in_err-put_optional
returns-in_err-put_optional c =
    puts_then c.in_ok-put_checkpoint.ensures (puts_then c.in_ok-put_last.ensures (puts_stops (counted_bytes w16 root_bytes c.args.roots.now) c.from_residual-in_err-put_optional.ensures.0 c.in_err-put_optional.ensures))

pub returns : goal.returns
returns c = puts_then c.in_ok-put_checkpoint.ensures (puts_then c.in_ok-put_last.ensures (puts_then c.in_ok-put_optional.ensures c.put_counted.ensures))
