-- A checkpoint: its beginning, its flushes, its end, and a sync.
use Rattle.std.specs.Prelude.{ℕ, zero, suc, ◌≡◌, ◌≤◌, ◌-◌, ◌^◌, ◌⊎◌, Option, None, Some, Result, Ok, Err}
use Rattle.std.specs.declared.alloc.AllocError.{AllocError}
use Rattle.je_disk.specs.DiskMeaning.{DiskMeaning}
use Rattle.store_model.specs.declared.answer.Answer.{Answer}
use Rattle.store_model.specs.declared.answer.Answer.TheVariants.{Done, Flushed, Nothing, InCheckpoint}
use Rattle.store_model.specs.declared.step.Step.{Step}
use Rattle.store_model.specs.declared.step.Step.TheVariants.{Begin, Flush, Finish}
use Rattle.environment.specs.declared.environment.Environment.{Environment}
use Rattle.jalibsuk.specs.declared.error.Error.{Error}
use Rattle.jalibsuk.specs.declared.error.Error.TheVariants.{Memory, Unexpected}
use Rattle.jalibsuk.specs.Told.{error_told, done_in}
use Rattle.jalibsuk.specs.Methods.{Syncs}
use Rattle.jalibsuk.specs.Turned.{HasTurned}

-- what a flush came to: none where it logged a node, else that no node is left, or an error
abbrev pub flushed_by : Result Answer AllocError → Option (Result (Unit {0}) Error)
flushed_by (Ok (Flushed node)) = None
flushed_by (Ok Nothing) = Some (Ok tt)
flushed_by (Ok answer) = Some (Err (error_told answer))
flushed_by (Err e) = Some (Err Memory)

-- a checkpoint was begun, or one is under way that an earlier call left
abbrev pub checkpoint_begun : Result Answer AllocError → Result (Unit {0}) Error
checkpoint_begun (Ok Done) = Ok tt
checkpoint_begun (Ok InCheckpoint) = Ok tt
checkpoint_begun (Ok answer) = Err (error_told answer)
checkpoint_begun (Err e) = Err Memory

-- it was ended
abbrev pub checkpoint_ended : Result Answer AllocError → Result (Unit {0}) Error
checkpoint_ended (Ok answer) = done_in answer
checkpoint_ended (Err e) = Err Memory

module _ {D : Type 0} where
  -- what is done behind a part that was done; else that part's error ends all
  abbrev pub GoesOnBy : (Environment D → Environment D → Result (Unit {0}) Error → Type 0) → Result (Unit {0}) Error → Environment D → Environment D → Result (Unit {0}) Error → Type 0
  GoesOnBy Second (Ok u) old new result = Second old new result
  GoesOnBy Second (Err e) old new result = (new ≡ old) × (result ≡ Err e)

  abbrev pub InTurn : (First Second : Environment D → Environment D → Result (Unit {0}) Error → Type 0) → Environment D → Environment D → Result (Unit {0}) Error → Type 0
  InTurn First Second old new result = (middle : Environment D) × (told : Result (Unit {0}) Error) × First old middle told × GoesOnBy Second told middle new result

module _ {D : Type 0} (meaning : DiskMeaning D) where
  -- a step was taken, and this is what `f` makes of its answer
  abbrev pub Turns : {R : Type 0} → Step → (Result Answer AllocError → R) → Environment D → Environment D → R → Type 0
  Turns step f old new told = (r : Result Answer AllocError) × HasTurned meaning old new step r × (told ≡ f r)

  -- so many nodes were logged, one after another
  abbrev pub AreFlushed : ℕ → Environment D → Environment D → Type 0
  AreFlushed zero old new = new ≡ old
  AreFlushed (suc count) old new = (middle : Environment D) × AreFlushed count old middle × Turns Flush flushed_by middle new None

  -- nodes were logged until none was left, or until a flush was refused
  abbrev pub FlushesAll : Environment D → Environment D → Result (Unit {0}) Error → Type 0
  FlushesAll old new result =
      (count : ℕ) × (middle : Environment D) × AreFlushed count old middle
      × (Turns Flush flushed_by middle new (Some result) ⊎ ((2 ^ 64 - 1 ≤ count) × (new ≡ middle) × (result ≡ Err Unexpected)))

  -- a checkpoint was taken, and synced
  abbrev pub Checkpoints : Environment D → Environment D → Result (Unit {0}) Error → Type 0
  Checkpoints = InTurn (Turns Begin checkpoint_begun) (InTurn FlushesAll (InTurn (Turns Finish checkpoint_ended) (Syncs meaning)))
