use Rattle.log_buffer.proofs.ReadOnlyDisk.{read_then}
use Rattle.log_buffer.proofs.fetching.entry_at.Goals as goal

pub returns-in-None-clause-found : goal.returns-in-None-clause-found
returns-in-None-clause-found g c =
    λ entry observed encodes. let some = c.in_ok-size.ensures.found entry observed encodes in let none = c.in-None.is in absurd cc

pub returns-in-Some-clause-only_read : goal.returns-in-Some-clause-only_read
returns-in-Some-clause-only_read g c =
    read_then g.D.Disk.meaning c.args.disk.now _ _ c.size_at.ensures.only_read c.entry_of.ensures.only_read
