-- A check of files before it is written.
use Rattle.std.specs.Prelude.{ℕ, ◌≡◌, [], ◌∷◌, List, None, Bool, true}
use Rattle.je_order.specs.Counts.{HasRisen}
use Rattle.je_disk.specs.States.{Files}
use Rattle.log_file.specs.Log.{AreFiles}
use Rattle.log_replay.specs.Reading.{corruption_in}
use Rattle.check_laws.specs.declared.checked.Checked.{Checked}
use Rattle.check_laws.specs.declared.finding.Finding.{Finding}
use Rattle.check_laws.specs.Check.{check_of}
use Rattle.log_printer.specs.Reading.{HasDamagedFile, HasNoFile}
use Rattle.je_program.specs.declared.cause.Cause.{Cause}
use Rattle.je_program.specs.declared.cause.Cause.TheVariants.{Done, Disk, Unreadable, Memory, Findings, NoEnvironment}
use Rattle.je_program.specs.declared.text.Text.{Text}
use Rattle.je_program.specs.declared.text.Text.TheVariants.{Nothing, Check}

-- how a check ends that has these findings
abbrev pub cause_of_check : List Finding → Cause
cause_of_check [] = Done
cause_of_check (finding ∷ findings) = Findings

-- this is the check of files that can each be read; these are the disk's, which has some, if that is observable
pub record IsMadeOf (observable : Bool) (files : Files) (checked : Checked) : Type 0 where
  pub held : List (ℕ × List ℕ)
  pub are : observable ≡ true → AreFiles files held
  pub some : observable ≡ true → HasNoFile files → ⊥
  pub none : corruption_in held ≡ None
  pub is : checked ≡ check_of held

-- a check is to be written, which ends so
abbrev pub IsWholeCheck : Bool → Files → Cause → Text → Type 0
IsWholeCheck observable files cause (Check checked) = IsMadeOf observable files checked × (cause_of_check checked.findings ≡ cause)
IsWholeCheck observable files cause text = ⊥

-- what a cause says of the disk whose files were to be checked, and what is to be written
abbrev pub IsVerified : Bool → Files → ℕ → ℕ → Cause → Text → Type 0
IsVerified observable files before after Done text = IsWholeCheck observable files Done text
IsVerified observable files before after Findings text = IsWholeCheck observable files Findings text
IsVerified observable files before after Disk text = HasRisen before after × (text ≡ Nothing)
IsVerified observable files before after Memory text = text ≡ Nothing
IsVerified observable files before after NoEnvironment text = (observable ≡ true → HasNoFile files) × (text ≡ Nothing)
IsVerified observable files before after (Unreadable corruption) text = HasDamagedFile observable files corruption × (text ≡ Nothing)
IsVerified observable files before after cause text = ⊥
