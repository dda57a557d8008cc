use Rattle.log_entry.specs.Fields.{name_bytes}
use Rattle.log_entry.proofs.VectorAppends.{puts_then, puts_stops}
use Rattle.log_entry.proofs.body_writer.put_delete.Goals as goal

pub returns-in_err-put_txn : goal.returns-in_err-put_txn
returns-in_err-put_txn c = puts_stops (name_bytes c.args.name.now) c.from_residual.ensures.0 c.in_err-put_txn.ensures

pub returns : goal.returns
returns c = puts_then c.in_ok-put_txn.ensures c.put_name.ensures
