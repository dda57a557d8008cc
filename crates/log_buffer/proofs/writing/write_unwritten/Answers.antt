use Rattle.std.proofs.Common.{◌≡◌, ◌<◌, ◌+◌, ◌-◌, ℕ, length, sym, ap, subst, ◌∙◌, arith}
use Rattle.je_disk.specs.Moments.{now}
use Rattle.je_disk.specs.States.{Files}
use Rattle.log_buffer.specs.WriteBuffer.{piece_of, bytes_for}
use Rattle.log_buffer.specs.Crash.{Holds}
use Rattle.log_buffer.specs.Writing.{IsUnwrittenOf}
use Rattle.log_buffer.proofs.WriteBufferPieces.{IsCut}
use Rattle.log_buffer.proofs.WriteBuffers.{bytes_for_from}
use Rattle.log_buffer.proofs.FilesWritten.{WrittenUpTo, put_reads, file_reads, written_first, written_next, written_all, pieced}
use Rattle.log_buffer.proofs.CrashWriteOut.{GoesOn, through_first, goes_first, read_so_far, through_next, goes_next, unwritten_next, piece_some}
use Rattle.log_buffer.proofs.DiskFaults.{fault_again, fault_none, fault_then}
use Rattle.log_buffer.proofs.writing.write_unwritten.Goals as goal

pub loop-i-init : goal.loop-i-init
loop-i-init g c =
    let start : Files = (now (g.D.Disk.meaning.history c.args.disk.now)).reads in
    let after : Files = (now (g.D.Disk.meaning.history c.write_behind.new.disk)).reads in
    let first : ℕ = c.args.last - c.files-count.result in
    let bytes = c.args.unwritten.now.bytes.items in
    let starts = c.args.unwritten.now.starts.items in
    let count = c.files-count.ensures in
    let le = c.requires in
    let here : first ≡ first + 0 = omega arith in
    record {
      first_is = omega (arith, count);
      count_is = count;
      written = λ observed. subst (WrittenUpTo bytes starts c.args.last start after) here (written_first bytes starts c.args.last first start after c.requires (omega (arith, count))
          (pieced start after first c.piece.result.now (piece_of bytes starts 0) c.piece.ensures (put_reads first c.piece.result.now (now (g.D.Disk.meaning.history c.args.disk.now)) (now (g.D.Disk.meaning.history c.write_behind.new.disk)) (c.in_ok-write_behind.ensures.state observed))));
      never_falls = c.write_behind.ensures.cause.never_falls;
      sync_out = c.write_behind.ensures.sync_out;
      read_out = c.write_behind.ensures.read_out;
      read_of = c.write_behind.ensures.read_of;
      goes = λ observed log removed least begun is h. subst (GoesOn log removed least begun (g.D.Disk.meaning.history c.args.disk.now) (g.D.Disk.meaning.history c.write_behind.new.disk)) here
          (goes_first log removed least first begun (g.D.Disk.meaning.history c.args.disk.now) (g.D.Disk.meaning.history c.write_behind.new.disk) (bytes_for bytes starts c.args.last) c.piece.result.now
          (c.piece.ensures ∙ sym (bytes_for_from bytes starts c.args.last first 0 c.requires (omega (arith, count)))) is h (c.write_behind.ensures.moments observed) (c.in_ok-write_behind.ensures.state observed));
    }

pub loop-i-preserved : goal.loop-i-preserved
loop-i-preserved g c =
    let before = c.loop-i.invariant in
    let cause = c.write_file.ensures.cause in
    let start : Files = (now (g.D.Disk.meaning.history c.args.disk.now)).reads in
    let after : Files = (now (g.D.Disk.meaning.history c.loop-i.disk)).reads in
    let next : Files = (now (g.D.Disk.meaning.history c.write_file.new.disk)).reads in
    let first : ℕ = c.args.last - c.files-count.result in
    let bytes = c.args.unwritten.now.bytes.items in
    let starts = c.args.unwritten.now.starts.items in
    let cut : IsCut (length bytes) starts = record { within = c.args.unwritten.now.within; apart = c.args.unwritten.now.apart } in
    let piece = c.piece-in-loop-i.result.now in
    let some : 0 < length piece =
    let lt = c.loop-i-test.true in let n = before.count_is in piece_some bytes starts piece cut c.loop-i.i (omega arith) c.piece-in-loop-i.ensures in
    record {
      first_is = before.first_is;
      count_is = before.count_is;
      written = λ observed. written_next bytes starts c.args.last (first + c.loop-i.i) (first + (c.loop-i.i + 1)) (c.loop-i.i + 1) start after next
          c.requires (omega arith) (let f = before.first_is in omega arith) (before.written observed)
          (pieced after next (first + (c.loop-i.i + 1)) piece (piece_of bytes starts (c.loop-i.i + 1)) c.piece-in-loop-i.ensures
          (file_reads (first + (c.loop-i.i + 1)) piece (now (g.D.Disk.meaning.history c.loop-i.disk)) (now (g.D.Disk.meaning.history c.write_file.new.disk)) some (c.in_ok-write_file.ensures.state observed)));
      never_falls = let a = before.never_falls in let b = cause.never_falls in omega arith;
      sync_out = c.write_file.ensures.sync_out ∙ before.sync_out;
      read_out = c.write_file.ensures.read_out ∙ before.read_out;
      read_of = c.write_file.ensures.read_of ∙ before.read_of;
      goes = λ observed log removed least begun is h.
          goes_next log removed least (first + c.loop-i.i) (first + (c.loop-i.i + 1)) begun (g.D.Disk.meaning.history c.args.disk.now) (g.D.Disk.meaning.history c.loop-i.disk) piece is.is_log (omega arith)
          some
          (let f = before.first_is in unwritten_next log start bytes starts piece c.args.last first (first + (c.loop-i.i + 1)) (c.loop-i.i + 1) is c.requires (omega arith) (omega arith) c.piece-in-loop-i.ensures)
          (read_so_far log bytes starts c.args.last first (first + c.loop-i.i) start after is (omega arith) (before.written observed))
          (before.goes observed log removed least begun is h)
          (g.D.Disk.meaning.history c.write_file.new.disk) (c.write_file.ensures.moments observed) (c.in_ok-write_file.ensures.state observed);
    }

pub returns-clause-done : goal.returns-clause-done
returns-clause-done g c =
    λ observed. written_all c.args.unwritten.now.bytes.items c.args.unwritten.now.starts.items c.args.last (c.args.last - c.files-count.result + c.loop-i.i) (now (g.D.Disk.meaning.history c.args.disk.now)).reads (now (g.D.Disk.meaning.history c.loop-i.disk)).reads c.requires
    (let f = c.loop-i.invariant.first_is in let n = c.loop-i.invariant.count_is in let e = c.loop-i.auto.i-end in let t = c.loop-i-test.false in omega arith)
    (c.loop-i.invariant.written observed)

pub returns-in_err-write_behind-clause-crash : goal.returns-in_err-write_behind-clause-crash
returns-in_err-write_behind-clause-crash g c =
    let bytes = c.args.unwritten.now.bytes.items in
    let starts = c.args.unwritten.now.starts.items in
    let first : ℕ = c.args.last - c.files-count.result in
    let le = c.requires in
    let count = c.files-count.ensures in
    let same : c.args.last - length starts ≡ first = ap (λ (n : ℕ). c.args.last - n) (sym c.files-count.ensures) in
    λ observed log removed least begun is h.
    through_first log removed least first begun (g.D.Disk.meaning.history c.args.disk.now) (g.D.Disk.meaning.history c.write_behind.new.disk) (bytes_for bytes starts c.args.last) c.piece.result.now
    (c.piece.ensures ∙ sym (bytes_for_from bytes starts c.args.last first 0 c.requires (omega (arith, count))))
    (subst (IsUnwrittenOf log (now (g.D.Disk.meaning.history c.args.disk.now)).reads (bytes_for bytes starts c.args.last)) same is)
    (subst (λ (n : ℕ). Holds log removed least begun n (now (g.D.Disk.meaning.history c.args.disk.now))) same h)
    (c.write_behind.ensures.moments observed)

pub returns-in_err-write_file-clause-crash : goal.returns-in_err-write_file-clause-crash
returns-in_err-write_file-clause-crash g c =
    let before = c.loop-i.invariant in
    let start : Files = (now (g.D.Disk.meaning.history c.args.disk.now)).reads in
    let after : Files = (now (g.D.Disk.meaning.history c.loop-i.disk)).reads in
    let bytes = c.args.unwritten.now.bytes.items in
    let starts = c.args.unwritten.now.starts.items in
    let first : ℕ = c.args.last - c.files-count.result in
    let cut : IsCut (length bytes) starts = record { within = c.args.unwritten.now.within; apart = c.args.unwritten.now.apart } in
    let piece = c.piece-in-loop-i.result.now in
    let same : c.args.last - length starts ≡ first = ap (λ (n : ℕ). c.args.last - n) (sym c.files-count.ensures) in
    λ observed log removed least begun is h.
    let unwritten = subst (IsUnwrittenOf log start (bytes_for bytes starts c.args.last)) same is in
    through_next log removed least (first + c.loop-i.i) (first + (c.loop-i.i + 1)) begun (g.D.Disk.meaning.history c.args.disk.now) (g.D.Disk.meaning.history c.loop-i.disk) piece is.is_log (omega arith)
    (let lt = c.loop-i-test.true in let n = before.count_is in piece_some bytes starts piece cut c.loop-i.i (omega arith) c.piece-in-loop-i.ensures)
    (let f = before.first_is in unwritten_next log start bytes starts piece c.args.last first (first + (c.loop-i.i + 1)) (c.loop-i.i + 1) unwritten c.requires (omega arith) (omega arith) c.piece-in-loop-i.ensures)
    (read_so_far log bytes starts c.args.last first (first + c.loop-i.i) start after unwritten (omega arith) (before.written observed))
    (before.goes observed log removed least begun unwritten (subst (λ (n : ℕ). Holds log removed least begun n (now (g.D.Disk.meaning.history c.args.disk.now))) same h))
    (g.D.Disk.meaning.history c.write_file.new.disk) (c.write_file.ensures.moments observed)

pub returns-clause-crash : goal.returns-clause-crash
returns-clause-crash g c =
    let same : c.args.last - length c.args.unwritten.now.starts.items ≡ c.args.last - c.files-count.result = ap (λ (n : ℕ). c.args.last - n) (sym c.files-count.ensures) in
    λ observed log removed least begun is h.
    (c.loop-i.invariant.goes observed log removed least begun
    (subst (IsUnwrittenOf log (now (g.D.Disk.meaning.history c.args.disk.now)).reads (bytes_for c.args.unwritten.now.bytes.items c.args.unwritten.now.starts.items c.args.last)) same is)
    (subst (λ (n : ℕ). Holds log removed least begun n (now (g.D.Disk.meaning.history c.args.disk.now))) same h)).through

pub returns-clause-holds : goal.returns-clause-holds
returns-clause-holds g c =
    let same : c.args.last - length c.args.unwritten.now.starts.items ≡ c.args.last - c.files-count.result = ap (λ (n : ℕ). c.args.last - n) (sym c.files-count.ensures) in
    let end : c.args.last - c.files-count.result + c.loop-i.i ≡ c.args.last =
    let f = c.loop-i.invariant.first_is in let n = c.loop-i.invariant.count_is in let e = c.loop-i.auto.i-end in let t = c.loop-i-test.false in omega arith in
    λ observed log removed least begun is h.
    subst (λ (n : ℕ). Holds log removed least begun n (now (g.D.Disk.meaning.history c.loop-i.disk))) end
    (c.loop-i.invariant.goes observed log removed least begun
    (subst (IsUnwrittenOf log (now (g.D.Disk.meaning.history c.args.disk.now)).reads (bytes_for c.args.unwritten.now.bytes.items c.args.unwritten.now.starts.items c.args.last)) same is)
    (subst (λ (n : ℕ). Holds log removed least begun n (now (g.D.Disk.meaning.history c.args.disk.now))) same h)).holds

pub returns-in_err-write_behind-clause-cause : goal.returns-in_err-write_behind-clause-cause
returns-in_err-write_behind-clause-cause g c =
    let meaning = g.D.Disk.meaning in
    fault_again (meaning.faults c.args.disk.now) (meaning.faults c.write_behind.new.disk) c.from_residual.result c.in_err-write_behind.field-0.0 c.from_residual.ensures.1 c.in_err-write_behind.ensures.cause

pub returns-in_err-write_file-clause-cause : goal.returns-in_err-write_file-clause-cause
returns-in_err-write_file-clause-cause g c =
    let meaning = g.D.Disk.meaning in
    fault_then (meaning.faults c.args.disk.now) (meaning.faults c.loop-i.disk) (meaning.faults c.write_file.new.disk) c.from_residual-in_err-write_file.result c.loop-i.invariant.never_falls
    (fault_again (meaning.faults c.loop-i.disk) (meaning.faults c.write_file.new.disk) c.from_residual-in_err-write_file.result c.in_err-write_file.field-0.0 c.from_residual-in_err-write_file.ensures.1 c.in_err-write_file.ensures.cause)

pub returns-clause-cause : goal.returns-clause-cause
returns-clause-cause g c = fault_none (g.D.Disk.meaning.faults c.args.disk.now) (g.D.Disk.meaning.faults c.loop-i.disk) tt c.loop-i.invariant.never_falls
