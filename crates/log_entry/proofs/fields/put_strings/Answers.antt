use Rattle.log_entry.specs.Fields.{string}
use Rattle.log_entry.proofs.VectorAppends.{puts_then, puts_stops}
use Rattle.log_entry.proofs.fields.put_strings.Goals as goal

pub returns-in_err-put_string : goal.returns-in_err-put_string
returns-in_err-put_string c = puts_stops (string c.args.dup.now) c.from_residual.ensures.0 c.in_err-put_string.ensures

pub returns : goal.returns
returns c = puts_then c.in_ok-put_string.ensures c.put_string-2.ensures
