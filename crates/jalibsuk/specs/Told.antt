-- What an answer tells a caller.
use Rattle.std.specs.Prelude.{ℕ, Bool, Option, None, Some, Result, Ok, Err, true, false}
use Rattle.std.specs.declared.alloc.AllocError.{AllocError}
use Rattle.store_model.specs.declared.answer.Answer.{Answer}
use Rattle.store_model.specs.declared.answer.Answer.TheVariants.{Done, Txn, Rec, IndexRec, Count, NotFound, KeyExist, KeyEmpty, NoPosition, Durable, Waiting, NotAvailable, Deadlock, MustAbort, SessionWaits, NoTxn, InTxn, NoDatabase, NoCursor, NameTaken, HasIndex, TooMany, DatabaseInUse, ReadOnlyIndex, NotOnDuplicates, OnlyOnDuplicates, TooLong, InCheckpoint, NoCheckpoint, LogFull, IdsEnded, DiskFault, Invalid}
use Rattle.environment.specs.declared.outcome.Outcome.{Outcome}
use Rattle.jalibsuk.specs.declared.error.Error.{Error}
use Rattle.jalibsuk.specs.declared.error.Error.TheVariants as error
use Rattle.jalibsuk.specs.declared.record.Record.{Record}
use Rattle.jalibsuk.specs.declared.index_record.IndexRecord.{IndexRecord}
use Rattle.jalibsuk.specs.declared.txn.Txn.{Txn as Token}

-- the error that an answer is; `Unexpected` for one that is none
abbrev pub error_told : Answer → Error
error_told KeyExist = error.KeyExists
error_told KeyEmpty = error.KeyEmpty
error_told NoPosition = error.NoPosition
error_told (Waiting at owner) = error.Conflict owner
error_told (NotAvailable owner) = error.Conflict owner
error_told (Deadlock cycle) = error.Deadlock
error_told (MustAbort cycle) = error.Deadlock
error_told SessionWaits = error.Busy
error_told NoTxn = error.NoTransaction
error_told (InTxn txn) = error.InTransaction txn
error_told NoDatabase = error.NoDatabase
error_told NoCursor = error.NoCursor
error_told NameTaken = error.NameTaken
error_told HasIndex = error.HasIndex
error_told (TooMany count) = error.TooManyDatabases count
error_told (DatabaseInUse txn) = error.DatabaseInUse txn
error_told ReadOnlyIndex = error.ReadOnlyIndex
error_told NotOnDuplicates = error.NotOnDuplicates
error_told OnlyOnDuplicates = error.OnlyOnDuplicates
error_told (TooLong n) = error.TooLong n
error_told InCheckpoint = error.InCheckpoint
error_told NoCheckpoint = error.NoCheckpoint
error_told LogFull = error.LogFull
error_told IdsEnded = error.IdsEnded
error_told DiskFault = error.DiskFault
error_told (Invalid first) = error.Invalid first
error_told answer = error.Unexpected

-- a call that found no memory
abbrev pub answer_told : Result Outcome AllocError → Result Answer Error
answer_told (Ok o) = Ok o.answer
answer_told (Err e) = Err error.Memory

module _ {X R : Type 0} where
  -- what `f` makes of a value, or the error
  abbrev pub and_then : Result X Error → (X → Result R Error) → Result R Error
  and_then (Ok x) f = f x
  and_then (Err e) f = Err e

-- a read: the record, or none; an index gives the record's own key
abbrev pub record_told : Answer → Result (Option Record) Error
record_told (Rec key value) = Ok (Some (record { key = key; «data» = value }))
record_told (IndexRec key primary_key value) = Ok (Some (record { key = primary_key; «data» = value }))
record_told NotFound = Ok None
record_told answer = Err (error_told answer)

-- a read of an index, with the key under which it has the record; a database that is none has no such key
abbrev pub index_record_told : Answer → Result (Option IndexRecord) Error
index_record_told (IndexRec key primary_key value) = Ok (Some (record { key = key; primary_key = primary_key; «data» = value }))
index_record_told NotFound = Ok None
index_record_told (Rec key value) = Err error.NotAnIndex
index_record_told answer = Err (error_told answer)

-- a count of records
abbrev pub count_told : Answer → Result ℕ Error
count_told (Count count) = Ok count
count_told answer = Err (error_told answer)

-- a write: done, or refused
abbrev pub done_in : Answer → Result (Unit {0}) Error
done_in Done = Ok tt
done_in answer = Err (error_told answer)

-- a deletion: whether there was a record
abbrev pub deleted_in : Answer → Result Bool Error
deleted_in Done = Ok true
deleted_in NotFound = Ok false
deleted_in answer = Err (error_told answer)

-- a commit was waited for: it is durable, or the disk failed
abbrev pub durable_in : Answer → Result (Unit {0}) Error
durable_in (Durable commit) = Ok tt
durable_in answer = Err (error_told answer)

-- a transaction began, in this session
abbrev pub token_in : ℕ → Result Answer Error → Result Token Error
token_in session (Ok (Txn txn)) = Ok (record { session = session })
token_in session (Ok answer) = Err (error_told answer)
token_in session (Err e) = Err e
