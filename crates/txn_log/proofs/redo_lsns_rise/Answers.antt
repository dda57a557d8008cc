use Rattle.txn_log.proofs.RedoLsns.{ends_from_stays, ends_from_end, redo_is_needed, waits_from}
use Rattle.txn_log.proofs.redo_lsns_rise.Goals as goal

pub returns-clause-stays : goal.returns-clause-stays
returns-clause-stays g c = ends_from_stays g.D.Disk.meaning

pub returns-clause-end : goal.returns-clause-end
returns-clause-end g c = ends_from_end g.D.Disk.meaning

pub returns-clause-needed : goal.returns-clause-needed
returns-clause-needed g c = redo_is_needed

pub returns-clause-waits : goal.returns-clause-waits
returns-clause-waits g c = waits_from
