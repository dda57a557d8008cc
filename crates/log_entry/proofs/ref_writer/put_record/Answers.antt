use Rattle.std.proofs.Common.{◌++◌}
use Rattle.log_entry.specs.Fields.{name_bytes}
use Rattle.log_entry.proofs.VectorAppends.{puts_then, puts_stops, puts_slice}
use Rattle.log_entry.proofs.ref_writer.put_record.Goals as goal

pub returns-in_err-put_txn : goal.returns-in_err-put_txn
returns-in_err-put_txn c = puts_stops (name_bytes (record { key = c.args.key.now; dup = c.args.dup.now }) ++ c.args.value.now) c.from_residual.ensures.0 c.in_err-put_txn.ensures

pub returns-in_err-put_strings : goal.returns-in_err-put_strings
returns-in_err-put_strings c = puts_then c.in_ok-put_txn.ensures (puts_stops c.args.value.now c.from_residual-in_err-put_strings.ensures.0 c.in_err-put_strings.ensures)

pub returns : goal.returns
returns c =
    puts_then c.in_ok-put_txn.ensures (puts_then c.in_ok-put_strings.ensures
    (puts_slice c.args.value.now c.put_strings.new.out.len c.extend_from_slice.ensures.items c.put_strings.new.out.ok.0 c.extend_from_slice.ensures.succeeds c.extend_from_slice.ensures.capacity))
