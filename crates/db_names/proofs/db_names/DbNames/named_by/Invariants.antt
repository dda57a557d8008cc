use Rattle.std.proofs.Common.{take}
use Rattle.record_tree.specs.Stored.{lent}
use Rattle.db_names.specs.Names.{HasNames, names_in}
use Rattle.db_names.proofs.db_names.DbNames.named_by.Given as goal

abbrev pub invariant-loop-record : goal.invariant-loop-record
invariant-loop-record l = HasNames (names_in (lent (take l.record-index l.records))) l.names
