use Rattle.je_disk.specs.Moments.{now}
use Rattle.recovery_je.proofs.AnswerLaws.{ok_weaker}
use Rattle.recovery_je.proofs.FilesRead.{measured}
use Rattle.recovery_je.proofs.reading.read_files.Goals as goal

pub returns-clause-read : goal.returns-clause-read
returns-clause-read g c =
    ok_weaker _ _ c.measure_files.result
    (λ read is. measured g.D.Disk.meaning.observable (now (g.D.Disk.meaning.history c.args.disk.now)).reads c.args.files.now c.measure_files.new.lens.items read is)
    c.measure_files.ensures.read
