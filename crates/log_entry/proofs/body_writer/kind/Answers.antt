use Rattle.std.proofs.Common.{sym, ap}
use Rattle.log_entry.specs.Body.{kind_of}
use Rattle.log_entry.proofs.body_writer.kind.Goals as goal

pub returns-in-Delete : goal.returns-in-Delete
returns-in-Delete c = sym (ap kind_of c.in-Delete.is)
