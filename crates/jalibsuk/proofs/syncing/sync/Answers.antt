use Rattle.std.proofs.Common.{◌∙◌, sym}
use Rattle.jalibsuk.proofs.SyncLaws.{synced_valid, unsynced}
use Rattle.jalibsuk.proofs.syncing.sync.Goals as goal

pub sync_valid-requires-clause-valid : goal.sync_valid-requires-clause-valid
sync_valid-requires-clause-valid g c = λ most st here. sym (c.fault.ensures most st here) ∙ c.in_default.is

pub returns-in-Some : goal.returns-in-Some
returns-in-Some g c = record {
  usable = c.requires.usable;
  synced = unsynced g.D.Disk.meaning _ _ _ c.in-Some.is c.fault.ensures;
}

pub returns : goal.returns
returns g c =
    let done = c.sync_valid.ensures in
    record { usable = done.usable; synced = synced_valid g.D.Disk.meaning _ _ _ _ c.in_default.is c.fault.ensures done.syncs.0 done.syncs.1 done.within done.never_falls }
