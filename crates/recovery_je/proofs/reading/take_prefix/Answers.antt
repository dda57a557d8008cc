use Rattle.std.proofs.Common.{sym, ap}
use Rattle.log_file.specs.Log.{entries_scanned}
use Rattle.recovery_je.proofs.EntryPlaces.{standing_scanned}
use Rattle.recovery_je.proofs.FilesRead.{may_stand}
use Rattle.recovery_je.proofs.reading.take_prefix.Goals as goal

pub take_entries-requires : goal.take_entries-requires
take_entries-requires c = may_stand c.args.f.0 c.args.bytes.items c.args.prefix c.requires.are c.requires.found

pub invariant_of-result : goal.invariant_of-result
invariant_of-result c =
    standing_scanned c.args.f.0 c.args.bytes.items c.in_ok-offsets.offsets.items c.args.prefix.entries c.requires.are (sym (ap entries_scanned c.requires.found)) c.in_ok-offsets.ensures.offsets
