use Rattle.std.proofs.Common.{◌≡◌, ◌≤◌, true, drop, length}
use Rattle.je_disk.specs.Moments.{now, Passes}
use Rattle.log_printer.specs.Reading.{IsReadingLines}
use Rattle.log_printer.proofs.reading.read_files.Given as goal

abbrev pub invariant-loop-f : goal.invariant-loop-f
invariant-loop-f g l =
    let meaning = g.D.Disk.meaning in
    record {
      reading : IsReadingLines g.D.Disk.meaning.observable (now (meaning.history l.initial.disk)).reads l.files (drop l.f-index l.files) l.read.items;
      left : l.left ≡ length (drop l.f-index l.files);
      same : g.D.Disk.meaning.observable ≡ true → now (meaning.history l.disk) ≡ now (meaning.history l.initial.disk);
      moments : g.D.Disk.meaning.observable ≡ true → Passes (meaning.history l.initial.disk) (meaning.history l.disk) (λ s. s ≡ now (meaning.history l.initial.disk));
      never_falls : g.D.Disk.meaning.faults l.initial.disk ≤ g.D.Disk.meaning.faults l.disk;
    }
