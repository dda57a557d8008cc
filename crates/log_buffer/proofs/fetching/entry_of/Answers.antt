use Rattle.std.proofs.Common.{◌∙◌}
use Rattle.log_buffer.proofs.ReadOnlyDisk.{read_none}
use Rattle.log_buffer.proofs.fetching.entry_of.Goals as goal

pub returns-in_err-resize-clause-only_read : goal.returns-in_err-resize-clause-only_read
returns-in_err-resize-clause-only_read g c = read_none g.D.Disk.meaning c.args.disk.now

pub returns-clause-found : goal.returns-clause-found
returns-clause-found g c = λ entry observed is encodes. c.entry_into.ensures.found entry observed (c.as_mut_slice.ensures.len ∙ c.in_ok-resize.ensures.len ∙ is) encodes
