use Rattle.std.proofs.Common.{◌≡◌, ◌∙◌, ◌-◌, ◌+◌, ◌==◌, ℕ, List, ap, sym, subst, refl, arith, get_or, drop, length}
use Rattle.std.proofs.Math.ListN.{drop_of_length-le}
use Rattle.je_disk.specs.Moments.{now}
use Rattle.je_disk.specs.States.{State}
use Rattle.je_disk.proofs.MomentLaws.{passes_none}
use Rattle.je_lsn.specs.declared.file_no.FileNo.{FileNo}
use Rattle.log_replay.proofs.UnchangedMoments.{passes_again}
use Rattle.log_replay.proofs.GapLaws.{item_at, one_left}
use Rattle.log_printer.specs.declared.file_lines.FileLines.{FileLines}
use Rattle.log_printer.specs.Reading.{IsReadingLines}
use Rattle.log_printer.proofs.ReadingLaws.{file_stops, memory_stops, reading_begins, reading_goes_on}
use Rattle.log_printer.proofs.reading.read_files.Goals as goal

pub loop-f-init : goal.loop-f-init
loop-f-init g c =
    let start = g.D.Disk.meaning.history c.args.disk.now in
    record {
      reading = subst (λ (lines : List FileLines). IsReadingLines g.D.Disk.meaning.observable (now start).reads c.args.files.now c.args.files.now lines) (sym c.new-read.ensures.items) (reading_begins g.D.Disk.meaning.observable (now start).reads c.args.files.now);
      left = refl;
      same = λ t. refl;
      moments = λ t. passes_none start (λ s. s ≡ now start);
      never_falls = omega arith;
    }

pub loop-f-preserved : goal.loop-f-preserved
loop-f-preserved g c =
    let meaning = g.D.Disk.meaning in
    let before = c.loop-f.invariant in
    let start = meaning.history c.args.disk.now in
    let f = get_or c.args.files.now c.loop-f.f-index (record { 0 = 0 }) in
    let at = item_at c.args.files.now c.loop-f.f-index c.loop-f-test.true in
    let left : length (drop (c.loop-f.f-index + 1) c.args.files.now) ≡ c.loop-f.left - 1 = omega (arith, ap length at, before.left) in
    let read = c.in_ok-lines.ensures in
    record {
      reading =
          subst (λ (lines : List FileLines). IsReadingLines g.D.Disk.meaning.observable (now start).reads c.args.files.now (drop (c.loop-f.f-index + 1) c.args.files.now) lines) (sym c.in_ok-push_lines.ensures)
          (reading_goes_on g.D.Disk.meaning.observable (now start).reads (now (meaning.history c.loop-f.disk)).reads c.args.files.now (drop c.loop-f.f-index c.args.files.now) (drop (c.loop-f.f-index + 1) c.args.files.now) f
          c.loop-f.read.items c.in_ok-lines.lines (c.loop-f.left - 1 == 0) (λ t. ap (λ (s : State). s.reads) (before.same t)) before.reading at (ap (λ (n : ℕ). n == 0) left) read.read);
      left = sym left;
      same = λ t. read.same t ∙ before.same t;
      moments = λ t. passes_again start (meaning.history c.loop-f.disk) (meaning.history c.read_file.new.disk) (before.same t) (before.moments t) (read.moments t);
      never_falls = omega (arith, before.never_falls, read.never_falls);
    }

pub overflow_sub-left : goal.overflow_sub-left
overflow_sub-left g c = one_left c.args.files.now c.loop-f.f-index c.loop-f.left c.loop-f-test.true c.loop-f.invariant.left

pub returns-in_err-lines-clause-stops : goal.returns-in_err-lines-clause-stops
returns-in_err-lines-clause-stops g c =
    let meaning = g.D.Disk.meaning in
    let before = c.loop-f.invariant in
    let f = get_or c.args.files.now c.loop-f.f-index (record { 0 = 0 }) in
    let at = item_at c.args.files.now c.loop-f.f-index c.loop-f-test.true in
    let left : length (drop (c.loop-f.f-index + 1) c.args.files.now) ≡ c.loop-f.left - 1 = omega (arith, ap length at, before.left) in
    file_stops g.D.Disk.meaning.observable (now (meaning.history c.args.disk.now)).reads (now (meaning.history c.loop-f.disk)).reads c.args.files.now (drop c.loop-f.f-index c.args.files.now) (drop (c.loop-f.f-index + 1) c.args.files.now) f
    c.loop-f.read.items (c.loop-f.left - 1 == 0) (meaning.faults c.args.disk.now) (meaning.faults c.loop-f.disk) (meaning.faults c.read_file.new.disk) c.from_residual.result c.in_err-lines.field-0.0 (λ t. ap (λ (s : State). s.reads) (before.same t))
    before.never_falls c.in_err-lines.ensures.never_falls before.reading at (ap (λ (n : ℕ). n == 0) left) c.from_residual.ensures.1 c.in_err-lines.ensures.stops

pub returns-in_err-lines-clause-same : goal.returns-in_err-lines-clause-same
returns-in_err-lines-clause-same g c t = c.in_err-lines.ensures.same t ∙ c.loop-f.invariant.same t

pub returns-in_err-lines-clause-moments : goal.returns-in_err-lines-clause-moments
returns-in_err-lines-clause-moments g c t =
    passes_again (g.D.Disk.meaning.history c.args.disk.now) (g.D.Disk.meaning.history c.loop-f.disk) (g.D.Disk.meaning.history c.read_file.new.disk) (c.loop-f.invariant.same t) (c.loop-f.invariant.moments t) (c.in_err-lines.ensures.moments t)

pub returns-in_err-lines-clause-never_falls : goal.returns-in_err-lines-clause-never_falls
returns-in_err-lines-clause-never_falls g c = omega (arith, c.loop-f.invariant.never_falls, c.in_err-lines.ensures.never_falls)

pub returns-in_err-push_lines-clause-stops : goal.returns-in_err-push_lines-clause-stops
returns-in_err-push_lines-clause-stops g c = memory_stops _ _ _ _ _ c.from_residual-in_err-push_lines.result c.from_residual-in_err-push_lines.ensures.1

pub returns-in_err-push_lines-clause-same : goal.returns-in_err-push_lines-clause-same
returns-in_err-push_lines-clause-same g c t = c.in_ok-lines.ensures.same t ∙ c.loop-f.invariant.same t

pub returns-in_err-push_lines-clause-moments : goal.returns-in_err-push_lines-clause-moments
returns-in_err-push_lines-clause-moments g c t =
    passes_again (g.D.Disk.meaning.history c.args.disk.now) (g.D.Disk.meaning.history c.loop-f.disk) (g.D.Disk.meaning.history c.read_file.new.disk) (c.loop-f.invariant.same t) (c.loop-f.invariant.moments t) (c.in_ok-lines.ensures.moments t)

pub returns-in_err-push_lines-clause-never_falls : goal.returns-in_err-push_lines-clause-never_falls
returns-in_err-push_lines-clause-never_falls g c = omega (arith, c.loop-f.invariant.never_falls, c.in_ok-lines.ensures.never_falls)

pub returns-clause-read : goal.returns-clause-read
returns-clause-read g c =
    subst (λ (left : List FileNo). IsReadingLines g.D.Disk.meaning.observable (now (g.D.Disk.meaning.history c.args.disk.now)).reads c.args.files.now left c.loop-f.read.items) (drop_of_length-le c.args.files.now c.loop-f-test.false) c.loop-f.invariant.reading

pub returns-clause-same : goal.returns-clause-same
returns-clause-same g c = c.loop-f.invariant.same

pub returns-clause-moments : goal.returns-clause-moments
returns-clause-moments g c = c.loop-f.invariant.moments

pub returns-clause-never_falls : goal.returns-clause-never_falls
returns-clause-never_falls g c = c.loop-f.invariant.never_falls
