-- Cursors.
use Rattle.std.specs.Prelude.{ℕ, zero, suc, ◌≡◌, ◌+◌, ◌⊎◌, List, Option, None, Some, Result, Ok, Err, option_map}
use Rattle.je_disk.specs.DiskMeaning.{DiskMeaning}
use Rattle.store_model.specs.declared.answer.Answer.{Answer}
use Rattle.store_model.specs.declared.answer.Answer.TheVariants.{Done, NameTaken}
use Rattle.store_model.specs.declared.call.Call.TheVariants.{Open}
use Rattle.store_model.specs.declared.motion.Motion.{Motion}
use Rattle.store_model.specs.declared.motion.Motion.TheVariants as motion
use Rattle.environment.specs.declared.environment.Environment.{Environment}
use Rattle.jalibsuk.specs.declared.error.Error.{Error}
use Rattle.jalibsuk.specs.declared.error.Error.TheVariants.{TooManyCursors}
use Rattle.jalibsuk.specs.declared.seek.Seek.{Seek}
use Rattle.jalibsuk.specs.declared.seek.Seek.TheVariants.{First, Last, Next, Prev, NextDup, PrevDup, NextNoDup, PrevNoDup, Current, Key, Range, Both, BothRange}
use Rattle.jalibsuk.specs.Told.{error_told}
use Rattle.jalibsuk.specs.Methods.{Gives}

-- the model's motion
abbrev pub motion_by : Seek → Motion
motion_by First = motion.First
motion_by Last = motion.Last
motion_by Next = motion.Next
motion_by Prev = motion.Prev
motion_by NextDup = motion.NextDup
motion_by PrevDup = motion.PrevDup
motion_by NextNoDup = motion.NextNoDup
motion_by PrevNoDup = motion.PrevNoDup
motion_by Current = motion.Current
motion_by (Key key) = motion.Key key.now
motion_by (Range key) = motion.Range key.now
motion_by (Both key value) = motion.Both key.now value.now
motion_by (BothRange key value) = motion.BothRange key.now value.now

-- what the opening of a cursor of that number came to: none where another cursor has the number, else the number or an error
abbrev pub opened_by : ℕ → Result Answer Error → Option (Result ℕ Error)
opened_by number (Ok Done) = Some (Ok number)
opened_by number (Ok NameTaken) = None
opened_by number (Ok answer) = Some (Err (error_told answer))
opened_by number (Err e) = Some (Err e)

module _ {D : Type 0} (meaning : DiskMeaning D) where
  -- a session's cursor was opened on the database of that name, if there is one, under the first of so many numbers that none of its open cursors has
  abbrev pub Opens : ℕ → ℕ → Environment D → Environment D → ℕ → Option (List ℕ) → Result ℕ Error → Type 0
  Opens zero number old new session name result = (new ≡ old) × (result ≡ Err TooManyCursors)
  Opens (suc left) number old new session name result =
      (middle : Environment D) × (answered : Result Answer Error) × Gives meaning old middle session (option_map (λ n. Open number n) name) answered
      × (((opened_by number answered ≡ None) × Opens left (number + 1) middle new session name result) ⊎ ((opened_by number answered ≡ Some result) × (new ≡ middle)))
