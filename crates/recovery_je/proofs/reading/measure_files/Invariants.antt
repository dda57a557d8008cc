use Rattle.std.proofs.Common.{◌≡◌, ◌≤◌, true, drop, take, map, length}
use Rattle.je_disk.specs.Moments.{now, Passes}
use Rattle.je_lsn.specs.declared.file_no.FileNo.{FileNo}
use Rattle.recovery_je.specs.Measuring.{IsMeasuring}
use Rattle.recovery_je.specs.LogRead.{entries_of_files, AreFilesOf}
use Rattle.recovery_je.specs.Noting.{AreNotesOf}
use Rattle.recovery_je.proofs.reading.measure_files.Given as goal

abbrev pub invariant-loop-f : goal.invariant-loop-f
invariant-loop-f g l =
    let history = g.D.Disk.meaning.history in
    record {
      reading : IsMeasuring g.D.Disk.meaning.observable (now (history l.initial.disk)).reads l.files (drop l.f-index l.files) (entries_of_files l.read.items) l.last l.lens.items;
      numbers : l.numbers.items ≡ map (λ (f : FileNo). f.0) (take l.f-index l.files);
      held : AreFilesOf l.numbers.items l.read.items;
      noted : AreNotesOf (entries_of_files l.read.items) l.notes;
      left : l.left ≡ length (drop l.f-index l.files);
      same : g.D.Disk.meaning.observable ≡ true → now (history l.disk) ≡ now (history l.initial.disk);
      moments : g.D.Disk.meaning.observable ≡ true → Passes (history l.initial.disk) (history l.disk) (λ s. s ≡ now (history l.initial.disk));
      jobs : (g.D.Disk.meaning.sync_out l.disk ≡ g.D.Disk.meaning.sync_out l.initial.disk) × (g.D.Disk.meaning.read_out l.disk ≡ g.D.Disk.meaning.read_out l.initial.disk)
          × (g.D.Disk.meaning.read_of l.disk ≡ g.D.Disk.meaning.read_of l.initial.disk) × (g.D.Disk.meaning.last_job l.disk ≡ g.D.Disk.meaning.last_job l.initial.disk);
      never_falls : g.D.Disk.meaning.faults l.initial.disk ≤ g.D.Disk.meaning.faults l.disk;
    }
