use Rattle.je_disk.specs.Moments.{now}
use Rattle.recovery_je.proofs.AnswerLaws.{sound}
use Rattle.recovery_je.proofs.recovery.recover.Goals as goal

pub returns-clause-corrupt : goal.returns-clause-corrupt
returns-clause-corrupt g c = c.recover_files.ensures.corrupt g.D.Disk.meaning.observable (now (g.D.Disk.meaning.history c.args.disk.now)).reads c.in_ok-read.ensures.read

pub returns-clause-index : goal.returns-clause-index
returns-clause-index g c = c.recover_files.ensures.index g.D.Disk.meaning.observable (now (g.D.Disk.meaning.history c.args.disk.now)).reads c.in_ok-read.ensures.read

pub recover_files-requires-clause-sound : goal.recover_files-requires-clause-sound
recover_files-requires-clause-sound g c =
    sound g.D.Disk.meaning.observable (now (g.D.Disk.meaning.history c.args.disk.now)).reads c.args.files.now c.in_ok-read.read c.requires.files c.in_ok-read.ensures.read
