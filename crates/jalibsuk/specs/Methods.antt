-- What the methods do.
use Rattle.std.specs.Prelude.{ℕ, ◌≡◌, ◌≤◌, ◌⊎◌, Option, None, Some, Result, Ok, Err, is_some, true, false}
use Rattle.std.specs.declared.alloc.AllocError.{AllocError}
use Rattle.je_disk.specs.DiskMeaning.{DiskMeaning}
use Rattle.store_model.specs.declared.answer.Answer.{Answer}
use Rattle.store_model.specs.declared.answer.Answer.TheVariants.{Done}
use Rattle.store_model.specs.declared.isolation.Isolation.{Isolation}
use Rattle.store_model.specs.declared.durability.Durability.{Durability}
use Rattle.store_model.specs.declared.durability.Durability.TheVariants.{Sync, WriteNoSync}
use Rattle.store_model.specs.declared.call.Call.{Call}
use Rattle.store_model.specs.declared.call.Call.TheVariants.{Begin, Commit}
use Rattle.je_answers.specs.Standing.{Standing, active_of}
use Rattle.je_answers.specs.Journal.{durability_of}
use Rattle.environment.specs.declared.environment.Environment.{Environment}
use Rattle.environment.specs.declared.outcome.Outcome.{Outcome}
use Rattle.jalibsuk.specs.declared.txn.Txn.{Txn as Token}
use Rattle.jalibsuk.specs.declared.error.Error.{Error}
use Rattle.jalibsuk.specs.declared.error.Error.TheVariants.{Conflict, TooManyTransactions}
use Rattle.jalibsuk.specs.Usable.{StandsAt}
use Rattle.jalibsuk.specs.Stepped.{HasEnded, HasStepped, HasWritten}
use Rattle.jalibsuk.specs.Synced.{HasSynced}
use Rattle.jalibsuk.specs.Named.{IsMade}
use Rattle.jalibsuk.specs.Told.{answer_told, and_then, token_in, durable_in}
use Rattle.jalibsuk.specs.Stages.{own_stage_of, stage_of}
use Rattle.jalibsuk.specs.declared.stage.Stage.{Stage}
use Rattle.jalibsuk.specs.declared.stage.Stage.TheVariants as stage
use Rattle.jalibsuk.specs.declared.stage.OwnStage.{OwnStage}
use Rattle.jalibsuk.specs.declared.stage.OwnStage.TheVariants as own

-- the session of the calls that are transactions of their own
abbrev pub own_session : ℕ
own_session = 64

-- an answer, or why there is none
abbrev pub Answered : Type 0
Answered = Result Answer Error

module _ {D : Type 0} (meaning : DiskMeaning D) where
  -- a session gave a call, and this is its answer
  abbrev pub HasAsked : Environment D → Environment D → ℕ → Call → Result Answer Error → Type 0
  HasAsked old new session call answered = (r : Result Outcome AllocError) × HasStepped meaning old new session call r × (answered ≡ answer_told r)

  -- it gave the call that there is; else all is as it was
  abbrev pub Gives : Environment D → Environment D → ℕ → Option Call → Result Answer Error → Type 0
  Gives old new session asked answered =
      ((e : Error) × IsMade asked (Err e) × (answered ≡ Err e) × (new ≡ old))
      ⊎ ((call : Call) × (asked ≡ Some call) × HasAsked old new session call answered)

  -- a method gives a call, and says what it makes of the answer
  abbrev pub Calls : {R : Type 0} → (Answer → Result R Error) → Environment D → Environment D → ℕ → Option Call → Result R Error → Type 0
  Calls f old new session asked result = (answered : Result Answer Error) × Gives old new session asked answered × (result ≡ and_then answered f)

  -- ---- beginnings

  -- a session that has no transaction
  pub record IsFree (environment : Environment D) (session : ℕ) : Type 0 where
    pub none : (most : ℕ) (st : Standing) → StandsAt meaning most environment st → active_of session st.actives ≡ None

  -- a transaction began in a session that had none, and it waits for no lock; or each session has one. Sessions from 1 to 63 are for transactions: that of
  -- the calls outside them is none of these
  abbrev pub Begins : Environment D → Environment D → Isolation → Durability → Result Token Error → Type 0
  Begins old new isolation durability result =
      ((result ≡ Err TooManyTransactions) × (new ≡ old)
      × ((session : ℕ) → 1 ≤ session → session ≤ 63 → (most : ℕ) (st : Standing) → StandsAt meaning most old st → is_some (active_of session st.actives) ≡ true))
      ⊎ ((session : ℕ) × (1 ≤ session) × (session ≤ 63) × IsFree old session × (answered : Result Answer Error) × HasAsked old new session (Begin isolation durability false) answered × (result ≡ token_in session answered))

  -- ---- commits

  -- what a commit of this durability waited for, with its answer
  abbrev pub HasFollowed : Durability → Environment D → Environment D → Answer → Type 0
  HasFollowed WriteNoSync old new answer = HasWritten meaning old new answer
  HasFollowed durability old new answer = HasSynced meaning old new answer

  abbrev pub Follows : Durability → Environment D → Environment D → Result (Unit {0}) Error → Type 0
  Follows durability old new result = (answer : Answer) × HasFollowed durability old new answer × (result ≡ durable_in answer)

  -- each commit so far is durable, or the disk failed
  abbrev pub Syncs : Environment D → Environment D → Result (Unit {0}) Error → Type 0
  Syncs old new result = Follows Sync old new result

  -- what follows a commit: nothing where it changed nothing or waits for nothing; what its durability asks for where it was logged; and where it was
  -- refused the transaction is aborted
  abbrev pub Settles : Durability → ℕ → Environment D → Environment D → Stage → Result (Unit {0}) Error → Type 0
  Settles durability session old new stage.Done result = (new ≡ old) × (result ≡ Ok tt)
  Settles durability session old new stage.Logged result = Follows durability old new result
  Settles durability session old new (stage.Refused e) result = HasEnded meaning old new session × (result ≡ Err e)

  -- a session's transaction is committed
  abbrev pub Commits : Environment D → Environment D → ℕ → Result (Unit {0}) Error → Type 0
  Commits old new session result =
      (durability : Durability) × ((most : ℕ) (st : Standing) → StandsAt meaning most old st → durability ≡ durability_of (active_of session st.actives))
      × (middle : Environment D) × (answered : Result Answer Error) × HasAsked old middle session Commit answered × Settles durability session middle new (stage_of answered) result

  -- a session's transaction is committed where what was to be done in it was done, else aborted
  abbrev pub Finishes : {A : Type 0} → Environment D → Environment D → ℕ → Result A Error → Result A Error → Type 0
  Finishes old new session (Ok x) result = (committed : Result (Unit {0}) Error) × Commits old new session committed × (result ≡ and_then committed (λ u. Ok x))
  Finishes old new session (Err e) result = HasEnded meaning old new session × (result ≡ Err e)

  -- ---- calls that are transactions of their own

  -- what follows such a call: the sync of its commit; where it would wait it is withdrawn, and its session ends; else nothing
  abbrev pub SettlesNow : Environment D → Environment D → OwnStage → Result Answer Error → Result Answer Error → Type 0
  SettlesNow old new own.Answered answered result = (new ≡ old) × (result ≡ answered)
  SettlesNow old new own.Logged answered result = (followed : Result (Unit {0}) Error) × Follows Sync old new followed × (result ≡ and_then followed (λ u. Ok Done))
  SettlesNow old new (own.Waits owner) answered result = HasEnded meaning old new own_session × (result ≡ Err (Conflict owner))

  -- it is given if there is one
  abbrev pub GivesNow : Environment D → Environment D → Option Call → Result Answer Error → Type 0
  GivesNow old new asked result = (middle : Environment D) × (answered : Result Answer Error) × Gives old middle own_session asked answered × SettlesNow middle new (own_stage_of answered) answered result

  abbrev pub CallsNow : {R : Type 0} → (Answer → Result R Error) → Environment D → Environment D → Option Call → Result R Error → Type 0
  CallsNow f old new asked result = (answered : Result Answer Error) × GivesNow old new asked answered × (result ≡ and_then answered f)
