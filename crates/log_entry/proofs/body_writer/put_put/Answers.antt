use Rattle.std.proofs.Common.{◌++◌}
use Rattle.log_entry.specs.Fields.{name_bytes}
use Rattle.log_entry.proofs.VectorAppends.{puts_then, puts_stops, puts_slice}
use Rattle.log_entry.proofs.body_writer.put_put.Goals as goal

pub returns-in_err-put_txn : goal.returns-in_err-put_txn
returns-in_err-put_txn c = puts_stops (name_bytes c.args.name.now ++ c.args.value.now) c.from_residual.ensures.0 c.in_err-put_txn.ensures

pub returns-in_err-put_name : goal.returns-in_err-put_name
returns-in_err-put_name c = puts_then c.in_ok-put_txn.ensures (puts_stops c.args.value.now c.from_residual-in_err-put_name.ensures.0 c.in_err-put_name.ensures)

pub returns : goal.returns
returns c =
    puts_then c.in_ok-put_txn.ensures (puts_then c.in_ok-put_name.ensures
    (puts_slice c.args.value.now c.put_name.new.out.len c.extend_from_slice.ensures.items c.put_name.new.out.ok.0 c.extend_from_slice.ensures.succeeds c.extend_from_slice.ensures.capacity))
