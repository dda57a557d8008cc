-- What is still to be done for a call that was answered.
use Rattle.std.specs.Prelude.{Result, Ok, Err}
use Rattle.store_model.specs.declared.answer.Answer.{Answer}
use Rattle.store_model.specs.declared.answer.Answer.TheVariants.{Done, Logged, Waiting}
use Rattle.jalibsuk.specs.declared.error.Error.{Error}
use Rattle.jalibsuk.specs.declared.stage.Stage.{Stage}
use Rattle.jalibsuk.specs.declared.stage.Stage.TheVariants as stage
use Rattle.jalibsuk.specs.declared.stage.OwnStage.{OwnStage}
use Rattle.jalibsuk.specs.declared.stage.OwnStage.TheVariants as own
use Rattle.jalibsuk.specs.Told.{error_told}

-- for a commit: nothing, what its durability asks for, or an abort
abbrev pub stage_of : Result Answer Error → Stage
stage_of (Ok Done) = stage.Done
stage_of (Ok (Logged commit)) = stage.Logged
stage_of (Ok answer) = stage.Refused (error_told answer)
stage_of (Err e) = stage.Refused e

-- for a call that is a transaction of its own: its sync, its withdrawal, or nothing
abbrev pub own_stage_of : Result Answer Error → OwnStage
own_stage_of (Ok (Logged commit)) = own.Logged
own_stage_of (Ok (Waiting at owner)) = own.Waits owner
own_stage_of answered = own.Answered
