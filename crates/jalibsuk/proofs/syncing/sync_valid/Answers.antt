use Rattle.std.proofs.Common.{ap}
use Rattle.std.specs.Option.{is_some}
use Rattle.jalibsuk.proofs.Usables.{begun_out, begun_valid, le_then, usable_at, within_then}
use Rattle.jalibsuk.proofs.SyncLaws.{failed_by, synced_by}
use Rattle.jalibsuk.proofs.syncing.sync_valid.Goals as goal

pub returns-in-Some : goal.returns-in-Some
returns-in-Some g c =
    let u = c.requires.usable in
    let valid = c.requires.valid u.most u.st u.here in
    let begun = c.sync_begin.ensures.begins u.most u.st u.here valid in
    let began = ap (λ o. is_some o) c.in-Some.is in
    let out = begun_out u.st (is_some c.sync_begin.result) began c.commits-begun.result (c.commits-begun.ensures u.most u.st u.here) in
    let ended = c.sync_end.ensures.ends u.most _ begun.1 (begun_valid u.st (is_some c.sync_begin.result) began valid) out in
    record {
      usable = usable_at ended.1 (c.sync_end.ensures.bounds (c.sync_begin.ensures.bounds u.bounds));
      syncs = (_, synced_by g.D.Disk.meaning _ _ _ (is_some c.sync_begin.result) began c.commits-begun.result c.sync_end.result c.commits-begun.ensures c.sync_begin.ensures.begins c.sync_begin.ensures.crash c.sync_end.ensures.ends c.sync_end.ensures.crash);
      within = within_then _ _ _ c.sync_end.ensures.within c.sync_begin.ensures.within;
      never_falls = le_then _ _ _ c.sync_begin.ensures.never_falls c.sync_end.ensures.never_falls;
    }

pub returns-in-None : goal.returns-in-None
returns-in-None g c =
    let u = c.requires.usable in
    let valid = c.requires.valid u.most u.st u.here in
    let begun = c.sync_begin.ensures.begins u.most u.st u.here valid in
    record {
      usable = usable_at begun.1 (c.sync_begin.ensures.bounds u.bounds);
      syncs = (_, failed_by g.D.Disk.meaning _ _ (is_some c.sync_begin.result) (ap (λ o. is_some o) c.in-None.is) c.sync_begin.ensures.begins c.sync_begin.ensures.crash);
      within = c.sync_begin.ensures.within;
      never_falls = c.sync_begin.ensures.never_falls;
    }
