use Rattle.std.proofs.Common.{List, [], ◌∷◌, ◌++◌, ◌≡◌, ◌∙◌, ap, sym, subst, refl, ℕ, Some, None, arith, get_or, drop, length, ◌+◌, ◌-◌, ◌==◌}
use Rattle.je_disk.specs.Moments.{now}
use Rattle.je_disk.specs.States.{State}
use Rattle.je_disk.proofs.MomentLaws.{passes_none}
use Rattle.std.proofs.Math.ListN.{drop_of_length-le}
use Rattle.je_lsn.specs.declared.file_no.FileNo.{FileNo}
use Rattle.log_trees.specs.Placed.{Placed}
use Rattle.recovery_je.specs.LogRead.{entries_of_files, AreFilesOf}
use Rattle.recovery_je.specs.Noting.{AreNotesOf}
use Rattle.recovery_je.specs.Scanned.{IsFileRead, FileIsNoted}
use Rattle.recovery_je.specs.Measuring.{IsMeasuring}
use Rattle.log_replay.proofs.UnchangedMoments.{cause_later, cause_memory, cause_none, stays, passes_again}
use Rattle.log_replay.proofs.GapLaws.{item_at, one_left}
use Rattle.recovery_je.proofs.FilesRead.{measuring_begins, measuring_goes_on, reading_stops, read_along, in_files-push, held_more, gone_inside, take_more}
use Rattle.recovery_je.proofs.reading.measure_files.Goals as goal

pub loop-f-init : goal.loop-f-init
loop-f-init g c =
    let start = g.D.Disk.meaning.history c.args.disk.now in
    let none = c.new-read.ensures.items in
    let no_numbers = c.new-numbers.ensures.items in
    record {
      reading = subst (λ (l : List (ℕ × List Placed)). IsMeasuring g.D.Disk.meaning.observable (now start).reads c.args.files.now c.args.files.now (entries_of_files l) None c.args.lens.now.items) (sym none) (measuring_begins g.D.Disk.meaning.observable (now start).reads c.args.files.now c.args.lens.now.items c.requires.none);
      numbers = no_numbers;
      held = subst (λ (l : List ℕ). AreFilesOf l c.new-read.result.items) (sym no_numbers) (subst (AreFilesOf []) (sym none) (record { numbers_are = refl; inside = tt }));
      noted = subst (λ (l : List (ℕ × List Placed)). AreNotesOf (entries_of_files l) c.new-notes.result) (sym none) c.new-notes.ensures;
      left = refl;
      same = λ t. refl;
      moments = λ t. passes_none start (λ s. s ≡ now start);
      jobs = (refl, refl, refl, refl);
      never_falls = omega arith;
    }

pub returns-in-Stops-clause-read : goal.returns-in-Stops-clause-read
returns-in-Stops-clause-read g c =
    let history = g.D.Disk.meaning.history in
    let observable = g.D.Disk.meaning.observable in
    let before = c.loop-f.invariant in
    let reads = (now (history c.args.disk.now)).reads in
    let f = get_or c.args.files.now c.loop-f.f-index (record { 0 = 0 }) in
    let last = c.loop-f.left - 1 == 0 in
    let at = item_at c.args.files.now c.loop-f.f-index c.loop-f-test.true in
    let left : length (drop (c.loop-f.f-index + 1) c.args.files.now) ≡ c.loop-f.left - 1 = omega (arith, ap length at, before.left) in
    reading_stops observable reads c.args.files.now (drop c.loop-f.f-index c.args.files.now) (drop (c.loop-f.f-index + 1) c.args.files.now) f (entries_of_files c.loop-f.read.items)
    c.loop-f.last c.in-Stops.corruption last before.reading.reading at (ap (λ (n : ℕ). n == 0) left)
    (read_along observable reads (now (history c.loop-f.disk)).reads last f.0 _ (λ t. ap (λ (s : State). s.reads) (before.same t))
    (subst (IsFileRead observable (now (history c.loop-f.disk)).reads last f.0) c.in-Stops.is c.in_ok-corruption.ensures.read))

pub loop-f-preserved : goal.loop-f-preserved
loop-f-preserved g c =
    let history = g.D.Disk.meaning.history in
    let observable = g.D.Disk.meaning.observable in
    let before = c.loop-f.invariant in
    let start = history c.args.disk.now in
    let reads = (now start).reads in
    let f = get_or c.args.files.now c.loop-f.f-index (record { 0 = 0 }) in
    let last = c.loop-f.left - 1 == 0 in
    let at = item_at c.args.files.now c.loop-f.f-index c.loop-f-test.true in
    let left : length (drop (c.loop-f.f-index + 1) c.args.files.now) ≡ c.loop-f.left - 1 = omega (arith, ap length at, before.left) in
    let read = c.in_ok-corruption.ensures in
    let kept = c.in_ok-keep-in-GoesOn.ensures in
    let pushed = in_files-push c.loop-f.read.items c.keep.new.read.items c.in-GoesOn.file kept.files in
    let gone = subst (IsFileRead observable (now (history c.loop-f.disk)).reads last f.0) c.in-GoesOn.is read.read in
    let inside = gone_inside observable (now (history c.loop-f.disk)).reads last f.0 c.in-GoesOn.file c.in-GoesOn.tail gone in
    record {
      reading =
          subst (λ (es : List Placed). IsMeasuring observable reads c.args.files.now (drop (c.loop-f.f-index + 1) c.args.files.now) es (Some c.in-GoesOn.tail) c.keep.new.lens.items) (sym pushed)
          (measuring_goes_on observable reads c.args.files.now (drop c.loop-f.f-index c.args.files.now) (drop (c.loop-f.f-index + 1) c.args.files.now) f (entries_of_files c.loop-f.read.items)
          c.loop-f.last c.in-GoesOn.file c.in-GoesOn.tail last c.loop-f.lens.items c.keep.new.lens.items before.reading at (ap (λ (n : ℕ). n == 0) left)
          (read_along observable reads (now (history c.loop-f.disk)).reads last f.0 _ (λ t. ap (λ (s : State). s.reads) (before.same t)) gone) read.number kept.lens);
      numbers = kept.numbers ∙ ap (λ (l : List ℕ). l ++ f.0 ∷ []) before.numbers ∙ sym (take_more (λ (n : FileNo). n.0) c.args.files.now c.loop-f.f-index (record { 0 = 0 }) c.loop-f-test.true);
      held = held_more c.loop-f.numbers.items c.keep.new.numbers.items c.loop-f.read.items c.keep.new.read.items c.in-GoesOn.file f.0 before.held kept.numbers kept.files inside.0 inside.1;
      noted = subst (λ (es : List Placed). AreNotesOf es c.read_file.new.notes) (sym pushed) (subst (FileIsNoted c.loop-f.notes c.read_file.new.notes) c.in-GoesOn.is read.noted (entries_of_files c.loop-f.read.items) before.noted);
      left = sym left;
      same = λ t. read.same t ∙ before.same t;
      moments = λ t.
          passes_again start (history c.loop-f.disk) (history c.read_file.new.disk) (before.same t) (before.moments t) (read.moments t);
      jobs = (read.jobs.0 ∙ before.jobs.0, read.jobs.1 ∙ before.jobs.1, read.jobs.2 ∙ before.jobs.2, read.jobs.3 ∙ before.jobs.3);
      never_falls = omega (arith, before.never_falls, read.cause.never_falls);
    }

pub returns-in_err-corruption-clause-same : goal.returns-in_err-corruption-clause-same
returns-in_err-corruption-clause-same g c t = c.in_err-corruption.ensures.same t ∙ c.loop-f.invariant.same t

pub returns-in_err-corruption-clause-moments : goal.returns-in_err-corruption-clause-moments
returns-in_err-corruption-clause-moments g c t =
    passes_again (g.D.Disk.meaning.history c.args.disk.now) (g.D.Disk.meaning.history c.loop-f.disk) (g.D.Disk.meaning.history c.read_file.new.disk)
    (c.loop-f.invariant.same t) (c.loop-f.invariant.moments t) (c.in_err-corruption.ensures.moments t)

pub returns-in_err-corruption-clause-jobs : goal.returns-in_err-corruption-clause-jobs
returns-in_err-corruption-clause-jobs g c =
    let first = c.loop-f.invariant.jobs in
    let then_ = c.in_err-corruption.ensures.jobs in
    (then_.0 ∙ first.0, then_.1 ∙ first.1, then_.2 ∙ first.2, then_.3 ∙ first.3)

pub returns-in-Stops-clause-same : goal.returns-in-Stops-clause-same
returns-in-Stops-clause-same g c t = c.in_ok-corruption.ensures.same t ∙ c.loop-f.invariant.same t

pub returns-in-Stops-clause-moments : goal.returns-in-Stops-clause-moments
returns-in-Stops-clause-moments g c t =
    passes_again (g.D.Disk.meaning.history c.args.disk.now) (g.D.Disk.meaning.history c.loop-f.disk) (g.D.Disk.meaning.history c.read_file.new.disk)
    (c.loop-f.invariant.same t) (c.loop-f.invariant.moments t) (c.in_ok-corruption.ensures.moments t)

pub returns-in-Stops-clause-jobs : goal.returns-in-Stops-clause-jobs
returns-in-Stops-clause-jobs g c =
    let first = c.loop-f.invariant.jobs in
    let then_ = c.in_ok-corruption.ensures.jobs in
    (then_.0 ∙ first.0, then_.1 ∙ first.1, then_.2 ∙ first.2, then_.3 ∙ first.3)

pub returns-clause-same : goal.returns-clause-same
returns-clause-same g c = c.loop-f.invariant.same

pub returns-clause-moments : goal.returns-clause-moments
returns-clause-moments g c = c.loop-f.invariant.moments

pub returns-clause-jobs : goal.returns-clause-jobs
returns-clause-jobs g c = c.loop-f.invariant.jobs

pub returns-in_err-corruption-clause-cause : goal.returns-in_err-corruption-clause-cause
returns-in_err-corruption-clause-cause g c =
    let faults = g.D.Disk.meaning.faults in
    cause_later (faults c.args.disk.now) (faults c.loop-f.disk) (faults c.read_file.new.disk) c.from_residual.result c.in_err-corruption.field-0.0 c.loop-f.invariant.never_falls c.from_residual.ensures.1 c.in_err-corruption.ensures.cause

pub returns-in-Stops-clause-cause : goal.returns-in-Stops-clause-cause
returns-in-Stops-clause-cause g c =
    let faults = g.D.Disk.meaning.faults in
    cause_none (faults c.args.disk.now) (faults c.loop-f.disk) (faults c.read_file.new.disk) c.loop-f.invariant.never_falls c.in_ok-corruption.ensures.cause.never_falls

pub returns-clause-cause : goal.returns-clause-cause
returns-clause-cause g c =
    let faults = g.D.Disk.meaning.faults in
    cause_none (faults c.args.disk.now) (faults c.loop-f.disk) (faults c.loop-f.disk) c.loop-f.invariant.never_falls (stays (faults c.loop-f.disk))

pub overflow_sub-left : goal.overflow_sub-left
overflow_sub-left g c = one_left c.args.files.now c.loop-f.f-index c.loop-f.left c.loop-f-test.true c.loop-f.invariant.left

pub returns-clause-read : goal.returns-clause-read
returns-clause-read g c =
    subst (λ (left : List FileNo). IsMeasuring g.D.Disk.meaning.observable (now (g.D.Disk.meaning.history c.args.disk.now)).reads c.args.files.now left (entries_of_files c.loop-f.read.items) c.loop-f.last c.loop-f.lens.items)
    (drop_of_length-le c.args.files.now c.loop-f-test.false) c.loop-f.invariant.reading

pub returns-in_err-keep-in-GoesOn-clause-same : goal.returns-in_err-keep-in-GoesOn-clause-same
returns-in_err-keep-in-GoesOn-clause-same g c t = c.in_ok-corruption.ensures.same t ∙ c.loop-f.invariant.same t

pub returns-in_err-keep-in-GoesOn-clause-moments : goal.returns-in_err-keep-in-GoesOn-clause-moments
returns-in_err-keep-in-GoesOn-clause-moments g c t =
    passes_again (g.D.Disk.meaning.history c.args.disk.now) (g.D.Disk.meaning.history c.loop-f.disk) (g.D.Disk.meaning.history c.read_file.new.disk)
    (c.loop-f.invariant.same t) (c.loop-f.invariant.moments t) (c.in_ok-corruption.ensures.moments t)

pub returns-in_err-keep-in-GoesOn-clause-jobs : goal.returns-in_err-keep-in-GoesOn-clause-jobs
returns-in_err-keep-in-GoesOn-clause-jobs g c =
    let first = c.loop-f.invariant.jobs in
    let then_ = c.in_ok-corruption.ensures.jobs in
    (then_.0 ∙ first.0, then_.1 ∙ first.1, then_.2 ∙ first.2, then_.3 ∙ first.3)

pub returns-in_err-keep-in-GoesOn-clause-cause : goal.returns-in_err-keep-in-GoesOn-clause-cause
returns-in_err-keep-in-GoesOn-clause-cause g c =
    let faults = g.D.Disk.meaning.faults in
    cause_memory (faults c.args.disk.now) (faults c.loop-f.disk) (faults c.read_file.new.disk) c.from_residual-in_err-keep-in-GoesOn.result c.loop-f.invariant.never_falls c.in_ok-corruption.ensures.cause.never_falls c.from_residual-in_err-keep-in-GoesOn.ensures.1
