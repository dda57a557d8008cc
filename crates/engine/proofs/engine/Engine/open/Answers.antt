use Rattle.std.proofs.Common.{◌≡◌, ◌≤◌, ap}
use Rattle.je_disk.specs.Moments.{now}
use Rattle.engine.specs.Opening.{StopsBy}
use Rattle.engine.proofs.OpeningLaws.{if_err_both, small_tail, stops_earlier}
use Rattle.log_buffer.specs.Buffer.{disk_of}
use Rattle.engine.specs.Crash.{KeepsEntry}
use Rattle.engine.proofs.EntryLaws.{entry_later, entry_still}
use Rattle.engine.proofs.OpenedLaws.{files_read, if_ok_map, if_err_map}
use Rattle.je_disk.specs.Moments.{History, Passes}
use Rattle.engine.specs.Untouched.{IsLeftAlone}
use Rattle.engine.proofs.UntouchedLaws.{left_alone}
use Rattle.engine.proofs.engine.Engine.open.Goals as goal

pub returns-in-Ok-clause-left_alone : goal.returns-in-Ok-clause-left_alone
returns-in-Ok-clause-left_alone g c = λ observed.
    let meaning = g.D.Disk.meaning in
    let mounted = meaning.history c.read_disk.new.disk in
    if_err_map c.go_on.result (λ s. (old : History) → Passes old mounted (λ x. x ≡ now old) → now mounted ≡ now old → IsLeftAlone s.error old (meaning.history s.disk)) (λ s. IsLeftAlone s.error (meaning.history c.args.disk) (meaning.history s.disk))
    (λ s alone. alone (meaning.history c.args.disk) (c.read_disk.ensures.moments observed) (c.read_disk.ensures.same observed)) c.go_on.ensures.left_alone

pub returns-in-Err-clause-left_alone : goal.returns-in-Err-clause-left_alone
returns-in-Err-clause-left_alone g c = λ observed.
    left_alone c.in-Err.error (g.D.Disk.meaning.history c.args.disk) (g.D.Disk.meaning.history c.read_disk.new.disk) (record { same = c.read_disk.ensures.same observed; moments = c.read_disk.ensures.moments observed })

pub returns-in-Ok-clause-entry : goal.returns-in-Ok-clause-entry
returns-in-Ok-clause-entry g c = λ observed.
    let meaning = g.D.Disk.meaning in
    let mounted = meaning.history c.read_disk.new.disk in
    let later = c.go_on.ensures.entry observed (now (meaning.history c.args.disk)).reads (c.in-Ok.ensures.read) (ap (λ s. s.reads) (c.read_disk.ensures.same observed)) in
    if_ok_map c.go_on.result (λ o. KeepsEntry mounted (meaning.history (disk_of o.engine.trees.log))) (λ o. KeepsEntry (meaning.history c.args.disk) (meaning.history (disk_of o.engine.trees.log)))
    (λ o is. entry_later (meaning.history c.args.disk) mounted (meaning.history (disk_of o.engine.trees.log)) (c.read_disk.ensures.moments observed) (c.read_disk.ensures.same observed) is) later

pub returns-in-Ok-clause-stopped_entry : goal.returns-in-Ok-clause-stopped_entry
returns-in-Ok-clause-stopped_entry g c = λ observed.
    let meaning = g.D.Disk.meaning in
    let mounted = meaning.history c.read_disk.new.disk in
    let later = c.go_on.ensures.stopped_entry observed (now (meaning.history c.args.disk)).reads (c.in-Ok.ensures.read) (ap (λ s. s.reads) (c.read_disk.ensures.same observed)) in
    if_err_map c.go_on.result (λ s. KeepsEntry mounted (meaning.history s.disk)) (λ s. KeepsEntry (meaning.history c.args.disk) (meaning.history s.disk))
    (λ s is. entry_later (meaning.history c.args.disk) mounted (meaning.history s.disk) (c.read_disk.ensures.moments observed) (c.read_disk.ensures.same observed) is) later

pub returns-in-Err-clause-stopped_entry : goal.returns-in-Err-clause-stopped_entry
returns-in-Err-clause-stopped_entry g c = λ observed.
    entry_still (g.D.Disk.meaning.history c.args.disk) (g.D.Disk.meaning.history c.read_disk.new.disk) (c.read_disk.ensures.moments observed) (c.read_disk.ensures.same observed)

pub returns-in-Ok-clause-stopped : goal.returns-in-Ok-clause-stopped
returns-in-Ok-clause-stopped g c =
    let meaning = g.D.Disk.meaning in
    let reads = (now (g.D.Disk.meaning.history c.args.disk)).reads in
    let mounted = c.read_disk.new.disk in
    if_err_both c.go_on.result (λ s. StopsBy g.D.Disk.meaning.observable reads (meaning.faults mounted) (meaning.faults s.disk) s.error) (λ s. meaning.faults mounted ≤ meaning.faults s.disk)
    (λ s. StopsBy g.D.Disk.meaning.observable reads (meaning.faults c.args.disk) (meaning.faults s.disk) s.error)
    (λ s stops later. stops_earlier g.D.Disk.meaning.observable reads (meaning.faults c.args.disk) (meaning.faults mounted) (meaning.faults s.disk) s.error c.read_disk.ensures.never_falls later stops)
    (c.go_on.ensures.stopped reads c.in-Ok.ensures.read) c.go_on.ensures.stopped_faults

pub returns-in-Ok-clause-opened : goal.returns-in-Ok-clause-opened
returns-in-Ok-clause-opened g c = c.go_on.ensures.opened (now (g.D.Disk.meaning.history c.args.disk)).reads c.in-Ok.ensures.read (λ observed. ap (λ s. s.reads) (c.read_disk.ensures.same observed))

pub returns-in-Ok-clause-crash : goal.returns-in-Ok-clause-crash
returns-in-Ok-clause-crash g c = λ observed. c.go_on.ensures.crash observed (now (g.D.Disk.meaning.history c.args.disk)).reads c.in-Ok.ensures.read (ap (λ s. s.reads) (c.read_disk.ensures.same observed))

pub returns-in-Ok-clause-bounds : goal.returns-in-Ok-clause-bounds
returns-in-Ok-clause-bounds g c = c.go_on.ensures.bounds

pub returns-in-Err-clause-stopped : goal.returns-in-Err-clause-stopped
returns-in-Err-clause-stopped g c = c.in-Err.ensures.stops

pub returns-in-Err-clause-stopped_faults : goal.returns-in-Err-clause-stopped_faults
returns-in-Err-clause-stopped_faults g c = c.read_disk.ensures.never_falls

pub go_on-requires-clause-small : goal.go_on-requires-clause-small
go_on-requires-clause-small g c =
    let w = c.in-Ok.ensures.read in
    small_tail w.held c.in-Ok.read.tail (files_read g.D.Disk.meaning.observable (now (g.D.Disk.meaning.history c.args.disk)).reads c.in-Ok.read w)

pub returns-in-Ok-clause-indexes : goal.returns-in-Ok-clause-indexes
returns-in-Ok-clause-indexes g c = c.go_on.ensures.indexes (now (g.D.Disk.meaning.history c.args.disk)).reads c.in-Ok.ensures.read (λ observed. ap (λ s. s.reads) (c.read_disk.ensures.same observed))
