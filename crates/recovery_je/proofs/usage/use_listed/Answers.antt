use Rattle.std.proofs.Common.{List, sym, subst}
use Rattle.je_disk.specs.Moments.{now}
use Rattle.recovery_je.specs.declared.file_len.FileLen.{FileLen}
use Rattle.recovery_je.specs.Measuring.{AreMeasured}
use Rattle.recovery_je.proofs.AnswerLaws.{sound}
use Rattle.recovery_je.proofs.FilesRead.{measured}
use Rattle.recovery_je.proofs.usage.use_listed.Goals as goal

pub use_files-requires-clause-sound : goal.use_files-requires-clause-sound
use_files-requires-clause-sound g c =
    let observable = g.D.Disk.meaning.observable in
    let reads = (now (g.D.Disk.meaning.history c.args.disk.now)).reads in
    sound observable reads c.args.files.now c.in_ok-read.read c.requires.files (measured observable reads c.args.files.now c.measure_files.new.lens.items c.in_ok-read.read c.in_ok-read.ensures.read)

pub returns-clause-used : goal.returns-clause-used
returns-clause-used g c =
    let observable = g.D.Disk.meaning.observable in
    let reads = (now (g.D.Disk.meaning.history c.args.disk.now)).reads in
    c.use_files.ensures.used observable reads (subst (λ (l : List FileLen). AreMeasured observable reads c.args.files.now l c.in_ok-read.read) (sym c.deref.ensures.value) c.in_ok-read.ensures.read)

pub returns-clause-corrupt : goal.returns-clause-corrupt
returns-clause-corrupt g c =
    let observable = g.D.Disk.meaning.observable in
    let reads = (now (g.D.Disk.meaning.history c.args.disk.now)).reads in
    c.use_files.ensures.corrupt observable reads (subst (λ (l : List FileLen). AreMeasured observable reads c.args.files.now l c.in_ok-read.read) (sym c.deref.ensures.value) c.in_ok-read.ensures.read)

pub returns-clause-index : goal.returns-clause-index
returns-clause-index g c =
    let observable = g.D.Disk.meaning.observable in
    let reads = (now (g.D.Disk.meaning.history c.args.disk.now)).reads in
    c.use_files.ensures.index observable reads (subst (λ (l : List FileLen). AreMeasured observable reads c.args.files.now l c.in_ok-read.read) (sym c.deref.ensures.value) c.in_ok-read.ensures.read)
