use Rattle.std.proofs.Common.{ℕ, refl, sym, subst, drop, le_refl}
use Rattle.je_disk.specs.Moments.{now}
use Rattle.log_buffer.specs.Buffer.{unwritten_of}
use Rattle.log_buffer.specs.Log.{Encodes}
use Rattle.log_buffer.proofs.ReadOnlyDisk.{read_none}
use Rattle.log_buffer.proofs.UnchangedBuffer.{unwritten_same}
use Rattle.log_buffer.proofs.FaultCauses.{cause_ok, cause_failed, cause_memory, err_is}
use Rattle.log_buffer.proofs.EntryReads.{standing, on_disk, in_the_unwritten}
use Rattle.log_buffer.proofs.buffer.LogBuffer.look.Goals as goal

pub returns-then-is_on_disk-clause-found : goal.returns-then-is_on_disk-clause-found
returns-then-is_on_disk-clause-found g c =
    let old = c.args.self.now in
    let state = now (g.D.Disk.meaning.history old.disk) in
    λ log entry observed has stands.
    let is = standing g.D.Disk.meaning.observable state old log c.args.at c.file-file.result.0 c.offset-offset.result entry c.file-file.ensures c.offset-offset.ensures observed has stands in
    c.fetch.ensures.found entry observed (on_disk g.D.Disk.meaning.observable state old c.file-file.result.0 c.offset-offset.result entry is (c.is_on_disk.ensures.0 c.if-is_on_disk.true))

pub returns-clause-found : goal.returns-clause-found
returns-clause-found g c =
    let old = c.args.self.now in
    let state = now (g.D.Disk.meaning.history old.disk) in
    λ log entry observed has stands.
    let is = standing g.D.Disk.meaning.observable state old log c.args.at c.file-file.result.0 c.offset-offset.result entry c.file-file.ensures c.offset-offset.ensures observed has stands in
    let encodes = in_the_unwritten g.D.Disk.meaning.observable state old c.file-file.result.0 c.offset-offset.result entry is (λ there. let t = c.is_on_disk.ensures.1 there in let f = c.if-is_on_disk.false in absurd cc) in
    c.in_ok-found.ensures entry is.within (subst (λ (n : ℕ). Encodes (drop n (unwritten_of old c.file-file.result.0)) entry) (sym c.within_unwritten-within.ensures) encodes)

pub returns-then-self-clause-cause : goal.returns-then-self-clause-cause
returns-then-self-clause-cause g c = cause_failed _ _ _ _ c.if-self.true c.if-self.true refl

pub returns-then-is_on_disk-clause-cause : goal.returns-then-is_on_disk-clause-cause
returns-then-is_on_disk-clause-cause g c = c.fetch.ensures.cause

pub returns-clause-cause : goal.returns-clause-cause
returns-clause-cause g c = cause_ok _ _ _ _ _ c.if-self.false c.if-self.false (le_refl _)

pub returns-then-is_on_disk-clause-only_read : goal.returns-then-is_on_disk-clause-only_read
returns-then-is_on_disk-clause-only_read g c = c.fetch.ensures.only_read

pub returns-then-is_on_disk-clause-kept : goal.returns-then-is_on_disk-clause-kept
returns-then-is_on_disk-clause-kept g c = c.fetch.ensures.kept

pub returns-then-self-clause-only_read : goal.returns-then-self-clause-only_read
returns-then-self-clause-only_read g c = read_none g.D.Disk.meaning c.args.self.now.disk

pub returns-then-self-clause-kept : goal.returns-then-self-clause-kept
returns-then-self-clause-kept g c = unwritten_same c.args.self.now

pub returns-in_err-found-clause-only_read : goal.returns-in_err-found-clause-only_read
returns-in_err-found-clause-only_read g c = read_none g.D.Disk.meaning c.args.self.now.disk

pub returns-in_err-found-clause-kept : goal.returns-in_err-found-clause-kept
returns-in_err-found-clause-kept g c = unwritten_same c.args.self.now

pub returns-clause-only_read : goal.returns-clause-only_read
returns-clause-only_read g c = read_none g.D.Disk.meaning c.args.self.now.disk

pub returns-clause-kept : goal.returns-clause-kept
returns-clause-kept g c = unwritten_same c.args.self.now

pub returns-in_err-found-clause-cause : goal.returns-in_err-found-clause-cause
returns-in_err-found-clause-cause g c = cause_memory _ _ _ _ _ c.if-self.false c.if-self.false (le_refl _) (err_is _ _ c.from_residual.ensures.1)
