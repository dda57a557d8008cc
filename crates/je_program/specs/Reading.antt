-- The cause of an input that was not read.
use Rattle.je_io.specs.declared.reading.ReadErr.{ReadErr}
use Rattle.je_io.specs.declared.reading.ReadErr.TheVariants.{Failed, Memory as NoMemory}
use Rattle.je_program.specs.declared.cause.Cause.{Cause}
use Rattle.je_program.specs.declared.cause.Cause.TheVariants.{Input, Memory}

abbrev pub cause_of_reading : ReadErr → Cause
cause_of_reading Failed = Input
cause_of_reading NoMemory = Memory
