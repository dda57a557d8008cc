use Rattle.recovery_je.proofs.reading.read_file.Goals as goal

pub returns-clause-read : goal.returns-clause-read
returns-clause-read g c = record { bytes = c.in_ok-bytes.bytes.items; are = c.in_ok-take_file.ensures.are; observed = c.in_ok-bytes.ensures.bytes; is = c.in_ok-take_file.ensures.read }
