use Rattle.std.proofs.Common.{false, None, ap, sym, subst, ◌≡◌, ◌∙◌, ℕ}
use Rattle.je_disk.specs.Moments.{now}
use Rattle.je_answers.specs.After.{after_events}
use Rattle.log_file.specs.Log.{Log}
use Rattle.log_buffer.specs.declared.buffer.LogBuffer.{LogBuffer}
use Rattle.log_buffer.specs.Buffer.{disk_of, has_failed}
use Rattle.log_buffer.specs.Log.{HasLog}
use Rattle.engine.specs.Guarded.{IsGuardedLog}
use Rattle.engine.proofs.GuardLaws.{keeping_any}
use Rattle.engine.proofs.ObservedLaws.{of_observed, as_observed}
use Rattle.engine.proofs.ClosedLaws.{closed_safely, files_mean, run_images}
use Rattle.engine.specs.Lengths.{AreLengthsWithin}
use Rattle.engine.proofs.LengthLaws.{lengths_read}
use Rattle.environment.proofs.environment.Environment.close.Goals as goal

pub returns-clause-crash : goal.returns-clause-crash
returns-clause-crash g c = λ observed most st start journal is.
    let buffer = c.into_parts-log.result.0 in
    let log : Log = is.0 in
    let guarded = subst (λ (b : LogBuffer g.row.D.Denot). IsGuardedLog st log start (g.D.Disk.meaning.history (disk_of b)) b journal) (sym c.into_parts-log.ensures.log) is.1 in
    closed_safely st log start (g.D.Disk.meaning.history (disk_of buffer)) (g.D.Disk.meaning.history c.close_log-disk.result.0) buffer journal guarded
    (c.close_log-disk.ensures.crash observed log guarded.least (λ works. keeping_any (now (g.D.Disk.meaning.history (disk_of buffer))) buffer log guarded.least guarded.begun (guarded.works (guarded.stops works))))
    (λ failed. ap (λ (d : g.row.D.Denot). g.D.Disk.meaning.history d) (c.close_log-disk.ensures.still failed))

pub returns-clause-images : goal.returns-clause-images
returns-clause-images g c = λ observed done most st start journal here is none.
    let standing = after_events st journal in
    let same = sym c.into_parts-log.ensures.log in
    let v = here.at.valid none in
    let buffer = c.into_parts-log.result.0 in
    let log : Log = is.0 in
    let old = g.D.Disk.meaning.history (disk_of buffer) in
    let guarded = subst (λ (b : LogBuffer g.row.D.Denot). IsGuardedLog st log start (g.D.Disk.meaning.history (disk_of b)) b journal) same is.1 in
    run_images st log v.log start old (g.D.Disk.meaning.history c.close_log-disk.result.0) buffer journal standing.store guarded none
    (of_observed g.D.Disk.meaning.observable (now old) buffer v.log observed (subst (λ (b : LogBuffer g.row.D.Denot). HasLog g.D.Disk.meaning.observable (now (g.D.Disk.meaning.history (disk_of b))) b v.log) same v.has))
    v.recovers
    (c.close_log-disk.ensures.crash observed log guarded.least (λ works. keeping_any (now old) buffer log guarded.least guarded.begun (guarded.works none)))
    (c.close_log-disk.ensures.kept observed v.log (subst (λ (b : LogBuffer g.row.D.Denot). HasLog g.D.Disk.meaning.observable (now (g.D.Disk.meaning.history (disk_of b))) b v.log) same v.has)
    (subst (λ (b : LogBuffer g.row.D.Denot). has_failed b ≡ false) same v.works) done)

pub returns-clause-files : goal.returns-clause-files
returns-clause-files g c = λ observed done most st here none.
    let same = sym c.into_parts-log.ensures.log in
    let v = here.at.valid none in
    files_mean v.log (now (g.D.Disk.meaning.history c.close_log-disk.result.0)) st.store v.recovers
    (c.close_log-disk.ensures.kept observed v.log (subst (λ (b : LogBuffer g.row.D.Denot). HasLog g.D.Disk.meaning.observable (now (g.D.Disk.meaning.history (disk_of b))) b v.log) same v.has)
    (subst (λ (b : LogBuffer g.row.D.Denot). has_failed b ≡ false) same v.works) done)

pub returns-clause-lengths : goal.returns-clause-lengths
returns-clause-lengths g c = λ observed done most st start journal here is none.
    let meaning = g.D.Disk.meaning in
    let old = c.args.self.engine.trees.log in
    let buffer = c.into_parts-log.result.0 in
    let same : old ≡ buffer = sym c.into_parts-log.ensures.log in
    let log : Log = is.0 in
    let guarded = is.1 in
    let after = now (meaning.history c.close_log-disk.result.0) in
    let has = subst (λ (b : LogBuffer g.row.D.Denot). HasLog g.D.Disk.meaning.observable (now (meaning.history (disk_of b))) b log) same (as_observed g.D.Disk.meaning.observable (now (meaning.history (disk_of old))) old log observed (guarded.works none).has) in
    let works = subst (λ (b : LogBuffer g.row.D.Denot). has_failed b ≡ false) same (here.at.valid none).works in
    let sizes = guarded.sizes none in
    let bound : guarded.most ≡ most = sym sizes.max ∙ here.at.file_max in
    subst (λ (m : ℕ). AreLengthsWithin m (now start).reads after.reads) bound
    (lengths_read guarded.most (now start).reads after.reads log sizes.sizes (c.close_log-disk.ensures.whole log has works done observed))
