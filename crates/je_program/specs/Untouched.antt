-- The disk where its files cannot be opened.
use Rattle.je_disk.specs.Moments.{History}
use Rattle.engine.specs.Untouched.{IsUntouched}
use Rattle.je_program.specs.declared.cause.Cause.{Cause}
use Rattle.je_program.specs.declared.cause.Cause.TheVariants.{Unreadable, WrongIndex, NoEnvironment}

-- where the cause is that the files cannot be opened, an index is wrong, or no file is there, the disk is untouched
abbrev pub LeavesUnreadable : Cause → History → History → Type 0
LeavesUnreadable (Unreadable corruption) old new = IsUntouched old new
LeavesUnreadable (WrongIndex name) old new = IsUntouched old new
LeavesUnreadable NoEnvironment old new = IsUntouched old new
LeavesUnreadable cause old new = Unit {0}
