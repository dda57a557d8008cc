-- What a call outside a transaction comes to on a store of both kinds of databases, refusals but NoDatabase aside.
use Rattle.std.specs.Prelude.{ℕ, List, Option, None, Some, map}
use Rattle.store_model.specs.declared.store.Store.{Store}
use Rattle.store_model.specs.declared.store.Database.{Database}
use Rattle.store_model.specs.declared.call.Call.{Call}
use Rattle.store_model.specs.declared.call.Call.TheVariants.{Get, GetBoth, Put, Delete}
use Rattle.store_model.specs.declared.answer.Answer.TheVariants.{NoDatabase}
use Rattle.store_model.specs.Store.{database_of, change_in}
use Rattle.store_model.specs.Records.{Evaluated, evaluation as record_evaluation}
use Rattle.store_model.specs.Evaluation.{Outcome, answers, evaluation}

-- the database that a call on records names
abbrev pub database_of_records : Call → Option (List ℕ)
database_of_records (Get db key rmw) = Some db
database_of_records (GetBoth db key value rmw) = Some db
database_of_records (Put db key value mode) = Some db
database_of_records (Delete db key) = Some db
database_of_records call = None

-- what was evaluated in the database of a name, as changes of the store
abbrev pub outcome_in : List ℕ → Evaluated → Outcome
outcome_in db e = record { answer = e.answer; changes = map (change_in db) e.changes }

-- a call on the records of a database comes to what it does there, with no cursor
abbrev pub records_outcome : Call → List ℕ → Option Database → Outcome
records_outcome call db None = answers NoDatabase
records_outcome call db (Some d) = outcome_in db (record_evaluation d.kind call None d.pairs)

abbrev pub outcome_on : Option (List ℕ) → Call → Store → Outcome
outcome_on None call store = evaluation call store
outcome_on (Some db) call store = records_outcome call db (database_of db store)

-- what a call comes to
abbrev pub outcome : Call → Store → Outcome
outcome call store = outcome_on (database_of_records call) call store
