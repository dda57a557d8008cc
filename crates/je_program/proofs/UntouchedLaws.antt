-- A disk that was left as it was.
use Rattle.je_disk.specs.Moments.{History}
use Rattle.engine.specs.Untouched.{IsLeftAlone, IsUntouched}
use Rattle.engine.specs.declared.open_err.OpenErr.{OpenErr}
use Rattle.engine.specs.declared.open_err.OpenErr.TheVariants.{Disk as NoDisk, Memory as NoMemory, IdsEnded as NoNumbers, Unreadable as CannotRead, WrongIndex as FoundWrong}
use Rattle.je_program.specs.declared.cause.Cause.{Cause}
use Rattle.je_program.specs.declared.cause.Cause.TheVariants.{Unreadable, WrongIndex, NoEnvironment}
use Rattle.je_program.specs.Program.{cause_of_opening}
use Rattle.je_program.specs.Untouched.{LeavesUnreadable}
use Rattle.je_program.proofs.FinishLaws.{IsRanCause}

-- it is left alone whatever the cause is
pub left_alone : (cause : Cause) (old new : History) → IsUntouched old new → LeavesUnreadable cause old new
left_alone (Unreadable corruption) old new untouched = untouched
left_alone (WrongIndex name) old new untouched = untouched
left_alone NoEnvironment old new untouched = untouched
left_alone cause old new untouched = tt

-- opening left it alone
pub stopped_alone : (error : OpenErr) (old new : History) → IsLeftAlone error old new → LeavesUnreadable (cause_of_opening error) old new
stopped_alone NoDisk old new alone = tt
stopped_alone NoMemory old new alone = tt
stopped_alone NoNumbers old new alone = tt
stopped_alone (CannotRead corruption) old new alone = alone
stopped_alone (FoundWrong name) old new alone = alone

-- a run does not end with files that cannot be opened
pub ran_alone : (cause : Cause) (old new : History) → IsRanCause cause → LeavesUnreadable cause old new
ran_alone (Unreadable corruption) old new ran = absurd ran
ran_alone (WrongIndex name) old new ran = absurd ran
ran_alone NoEnvironment old new ran = absurd ran
ran_alone cause old new ran = tt
