use Rattle.std.proofs.Common.{◌≡◌, ◌≤◌, false, [], sym, subst, ◌∙◌}
use Rattle.std.specs.Prelude.{OnOk}
use Rattle.std.specs.Result.{is_err}
use Rattle.log_buffer.specs.Log.{ReadAs}
use Rattle.je_disk.specs.States.{synced, IsEither}
use Rattle.je_disk.specs.Moments.{Passes, now}
use Rattle.log_buffer.specs.Crash.{KeptThrough}
use Rattle.log_buffer.specs.Growth.{SameJobs}
use Rattle.log_buffer.proofs.GrowthLaws.{crash_either, jobs_either, jobs_then}
use Rattle.log_buffer.proofs.WriteBufferRoom.{on_ok, not_ok}
use Rattle.log_buffer.proofs.CrashSync.{closed_through, closed_keeps, closed_whole, closed_stable}
use Rattle.log_buffer.proofs.FaultCauses.{rose_then, failed_not}
use Rattle.log_buffer.proofs.buffer.LogBuffer.close.Goals as goal

pub returns-clause-crash : goal.returns-clause-crash
returns-clause-crash g c =
    let written = c.write_out-written.new.self in
    let ok : is_err c.write_out-written.result ≡ false = sym c.is_err.ensures.value ∙ c.if-is_err.false in
    λ observed log removed least begun has h.
    closed_through c.write_out-written.result g.D.Disk.meaning.observable log removed least begun (g.D.Disk.meaning.history c.args.self.disk) (g.D.Disk.meaning.history written.disk) (g.D.Disk.meaning.history c.sync-done.new.disk) written ok observed
    (on_ok c.write_out-written.result _ _ c.write_out-written.ensures.grew (λ grew. grew.log log has)) (on_ok c.write_out-written.result _ _ c.write_out-written.ensures.grew (λ grew. grew.holds observed log removed least begun has h)) (c.write_out-written.ensures.whole log has)
    (crash_either g.D.Disk.meaning c.write_out-written.result _ _ [] c.write_out-written.ensures.grew c.write_out-written.ensures.tried observed log removed least begun has h)
    (subst (λ (d : g.row.D.Denot). Passes (g.D.Disk.meaning.history d) (g.D.Disk.meaning.history c.sync-done.new.disk) (IsEither (now (g.D.Disk.meaning.history d)) (synced (now (g.D.Disk.meaning.history d))))) c.into_disk-disk.ensures (c.sync-done.ensures.moments observed))

pub returns-clause-kept : goal.returns-clause-kept
returns-clause-kept g c =
    let written = c.write_out-written.new.self in
    let ok : is_err c.write_out-written.result ≡ false = sym c.is_err.ensures.value ∙ c.if-is_err.false in
    λ observed log has.
    on_ok c.sync-done.result _ _ (c.sync-done.ensures.done observed)
    (λ done. closed_keeps c.write_out-written.result g.D.Disk.meaning.observable log (g.D.Disk.meaning.history written.disk) (g.D.Disk.meaning.history c.sync-done.new.disk) written ok observed
    (on_ok c.write_out-written.result _ _ c.write_out-written.ensures.grew (λ grew. grew.log log has)) (c.write_out-written.ensures.whole log has)
    (subst (λ (d : g.row.D.Denot). now (g.D.Disk.meaning.history c.sync-done.new.disk) ≡ synced (now (g.D.Disk.meaning.history d))) c.into_disk-disk.ensures done))

pub returns-then-is_err-clause-crash : goal.returns-then-is_err-clause-crash
returns-then-is_err-clause-crash g c =
    λ observed log removed least begun has h.
    subst (λ (d : g.row.D.Denot). KeptThrough (g.D.Disk.meaning.history c.args.self.disk) (g.D.Disk.meaning.history d) log removed least) (sym c.into_disk-disk.ensures) (crash_either g.D.Disk.meaning c.write_out-written.result _ _ [] c.write_out-written.ensures.grew c.write_out-written.ensures.tried observed log removed least begun has h)

pub returns-then-is_err-clause-kept : goal.returns-then-is_err-clause-kept
returns-then-is_err-clause-kept g c = λ observed log has. not_ok c.write_out-written.result _ (sym c.is_err.ensures.value ∙ c.if-is_err.true)

pub returns-then-is_err-clause-whole : goal.returns-then-is_err-clause-whole
returns-then-is_err-clause-whole g c = λ log has. not_ok c.write_out-written.result _ (sym c.is_err.ensures.value ∙ c.if-is_err.true)

pub returns-then-is_err-clause-stable : goal.returns-then-is_err-clause-stable
returns-then-is_err-clause-stable g c = λ observed. not_ok c.write_out-written.result _ (sym c.is_err.ensures.value ∙ c.if-is_err.true)

pub returns-clause-whole : goal.returns-clause-whole
returns-clause-whole g c =
    let ok : is_err c.write_out-written.result ≡ false = sym c.is_err.ensures.value ∙ c.if-is_err.false in
    λ log has.
    closed_whole c.write_out-written.result c.sync-done.result g.D.Disk.meaning.observable log (now (g.D.Disk.meaning.history c.into_disk-disk.result)) (now (g.D.Disk.meaning.history c.sync-done.new.disk)) ok
    (subst (λ (d : g.row.D.Denot). OnOk c.write_out-written.result (ReadAs g.D.Disk.meaning.observable (now (g.D.Disk.meaning.history d)).reads log)) (sym c.into_disk-disk.ensures) (c.write_out-written.ensures.whole log has))
    c.sync-done.ensures.done

pub returns-clause-stable : goal.returns-clause-stable
returns-clause-stable g c = λ observed. closed_stable c.sync-done.result (now (g.D.Disk.meaning.history c.into_disk-disk.result)) (now (g.D.Disk.meaning.history c.sync-done.new.disk)) (c.sync-done.ensures.done observed)

pub returns-clause-fault : goal.returns-clause-fault
returns-clause-fault g c =
    let low : g.D.Disk.meaning.faults c.args.self.disk ≤ g.D.Disk.meaning.faults c.into_disk-disk.result = subst (λ (d : g.row.D.Denot). g.D.Disk.meaning.faults c.args.self.disk ≤ g.D.Disk.meaning.faults d) (sym c.into_disk-disk.ensures) c.write_out-written.ensures.cause.never_falls in
    λ works. rose_then c.sync-done.result _ _ _ low c.sync-done.ensures.never_falls c.sync-done.ensures.fault

pub returns-clause-failed : goal.returns-clause-failed
returns-clause-failed g c =
    let ok : is_err c.write_out-written.result ≡ false = sym c.is_err.ensures.value ∙ c.if-is_err.false in
    λ failed. failed_not _ _ _ _ c.write_out-written.result _ ok c.write_out-written.ensures.cause failed

pub returns-clause-still : goal.returns-clause-still
returns-clause-still g c =
    let ok : is_err c.write_out-written.result ≡ false = sym c.is_err.ensures.value ∙ c.if-is_err.false in
    λ failed. failed_not _ _ _ _ c.write_out-written.result _ ok c.write_out-written.ensures.cause failed

pub returns-then-is_err-clause-jobs : goal.returns-then-is_err-clause-jobs
returns-then-is_err-clause-jobs g c =
    let written = c.write_out-written in
    subst (λ (d : g.row.D.Denot). SameJobs g.D.Disk.meaning c.args.self.disk d) (sym c.into_disk-disk.ensures)
    (jobs_either g.D.Disk.meaning written.result _ _ [] written.ensures.grew written.ensures.tried)

pub returns-clause-jobs : goal.returns-clause-jobs
returns-clause-jobs g c =
    let written = c.write_out-written in
    let done = c.sync-done.ensures in
    jobs_then g.D.Disk.meaning c.args.self.disk c.into_disk-disk.result c.sync-done.new.disk
    (subst (λ (d : g.row.D.Denot). SameJobs g.D.Disk.meaning c.args.self.disk d) (sym c.into_disk-disk.ensures)
    (jobs_either g.D.Disk.meaning written.result _ _ [] written.ensures.grew written.ensures.tried))
    (record { syncs = done.sync_out; reads = done.read_out; file = done.read_of })
