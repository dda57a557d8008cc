-- A call that makes no index changes no store by making one first.
use Rattle.std.proofs.Common.{◌≡◌, ℕ, false, List, [], ◌∷◌, Option, None, Some, refl, subst}
use Rattle.store_model.specs.declared.answer.Answer.{Answer}
use Rattle.store_model.specs.declared.call.Call.{Call}
use Rattle.store_model.specs.declared.call.Call.TheVariants.{List as Lists, Create, CreateIndex, Remove, Rename, Truncate}
use Rattle.store_model.specs.declared.change.Change.{Change}
use Rattle.store_model.specs.declared.index.Index.{Index}
use Rattle.store_model.specs.declared.record_change.RecordChange.{RecordChange}
use Rattle.store_model.specs.declared.record_change.RecordChange.TheVariants.{Set, Unset}
use Rattle.store_model.specs.declared.store.Database.{Database}
use Rattle.store_model.specs.declared.store.Store.{Store}
use Rattle.store_model.specs.Evaluation.{Outcome, emptying, evaluation_in}
use Rattle.store_model.specs.Indexes.{Numbered, all_changes}
use Rattle.store_model.specs.Store.{change_in, database_of}
use Rattle.je_answers.specs.Alone.{Alone, alone, evaluated_on, records_of}
use Rattle.je_answers.specs.Refusals.{late_refusal}
use Rattle.je_answers.specs.Views.{Target, target_of, with_names}
use Rattle.db_catalog.specs.Planning.{outcome_unless}
use Rattle.txn_core.specs.Planning.{is_index, makes_index, outcome_alone, outcome_on, performed_outcome}

-- a call that makes none
abbrev pub IsOtherCall : Call → Type 0
IsOtherCall (CreateIndex db index) = ⊥
IsOtherCall call = Unit {0}

abbrev First : List Change → Type 0
First [] = Unit {0}
First (change ∷ more) = is_index change ≡ false

record_is : (name : List ℕ) (c : RecordChange) → is_index (change_in name c) ≡ false
record_is name (Set at value) = refl
record_is name (Unset at) = refl

pub named_first : (changes : List (Numbered × RecordChange)) → First (with_names changes)
named_first [] = tt
named_first (c ∷ changes) = record_is c.0.1.name c.1

pub named_no_index : (changes : List (Numbered × RecordChange)) → makes_index (with_names changes) ≡ false
named_no_index [] = refl
named_no_index (c ∷ changes) = record_is c.0.1.name c.1

on_target : (call : Call) (o : Option Target) → First (outcome_on call o).changes
on_target call None = tt
on_target call (Some g) = named_first (all_changes g.over (g.db, g.database) g.indexes records_of (evaluated_on call g).changes)

removed : (db : List ℕ) (store : Store) (o : Option Database) → First (evaluation_in (Remove db) store o).changes
removed db store None = tt
removed db store (Some d) = refl

renamed : (db to : List ℕ) (store : Store) (o : Option Database) → First (evaluation_in (Rename db to) store o).changes
renamed db to store None = tt
renamed db to store (Some d) = refl

emptied : (db : List ℕ) (store : Store) (o : Option Database) → First (evaluation_in (Truncate db) store o).changes
emptied db store None = tt
emptied db store (Some d) = by_index d.index
  where
    by_index : (o : Option Index) → First (emptying db o).changes
    by_index None = refl
    by_index (Some index) = tt

performed : (p : Alone) (session : ℕ) (call : Call) → IsOtherCall call → First (performed_outcome p session call).changes
performed p session Lists is = tt
performed p session (Create db kind) is = refl
performed p session (CreateIndex db index) is = absurd is
performed p session (Remove db) is = removed db p.store (database_of db p.store)
performed p session (Rename db to) is = renamed db to p.store (database_of db p.store)
performed p session (Truncate db) is = emptied db p.store (database_of db p.store)
performed p session call is = on_target call (target_of (alone p) session call)

unless_refused : (o : Option Answer) (outcome : Outcome) → First outcome.changes → First (outcome_unless o outcome).changes
unless_refused None outcome is = is
unless_refused (Some refusal) outcome is = tt

-- so the first change is none
pub first_is_no_index : (p : Alone) (session : ℕ) (call : Call) (change : Change) (more : List Change) → IsOtherCall call → (outcome_alone p session call).changes ≡ change ∷ more → is_index change ≡ false
first_is_no_index p session call change more other is =
    subst First is (unless_refused (late_refusal (alone p) session call) (performed_outcome p session call) (performed p session call other))
