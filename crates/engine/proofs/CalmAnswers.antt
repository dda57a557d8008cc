-- A call that changes nothing is answered with neither a commit nor a disk fault.
use Rattle.std.proofs.Common.{◌≡◌, true≢false, ℕ, length, cond, nat_lt, nat_le, is_some, IfSome, Bool, true, false, List, [], ◌∷◌, Option, None, Some, option_map, refl}
use Rattle.std.specs.List.{list_any}
use Rattle.store_model.specs.declared.index.Index.{Index}
use Rattle.store_model.specs.declared.store.Database.{Database}
use Rattle.store_model.specs.declared.answer.Answer.{Answer}
use Rattle.store_model.specs.declared.answer.Answer.TheVariants.{DiskFault, HasIndex, IdsEnded, Logged, NameTaken, NoDatabase, Rec, TooLong, TooMany}
use Rattle.store_model.specs.declared.call.Call.{Call}
use Rattle.store_model.specs.declared.call.Call.TheVariants.{List as Lists, Create, CreateIndex, Remove as Removes, Rename as Renames, Truncate, Get, GetBoth, Put, Delete}
use Rattle.store_model.specs.declared.kind.Kind.{Kind}
use Rattle.store_model.specs.declared.kind.Kind.TheVariants.{Plain, Dup}
use Rattle.store_model.specs.declared.put_mode.PutMode.{PutMode}
use Rattle.store_model.specs.declared.put_mode.PutMode.TheVariants.{NoDupData, NoOverwrite, Overwrite}
use Rattle.store_model.specs.declared.store.TheConstants.{LAST_TXN, MOST_DATABASES}
use Rattle.je_order.specs.declared.limits.TheConstants.{KEY_LIMIT}
use Rattle.store_model.specs.declared.store.Store.{Store}
use Rattle.store_model.specs.Refusals.{data_limit, database_refuses, index_refusal, is_primary, kind_refusal, or_refusal, pair_refusal, too_long}
use Rattle.store_model.specs.Indexes.{Numbered, answer_through, is_index_of}
use Rattle.store_model.specs.Evaluation.{Outcome, emptying, evaluation_in, indexing}
use Rattle.store_model.specs.Records.{deleted, evaluation, found, put_unless}
use Rattle.store_model.specs.Store.{Pair, database_of}
use Rattle.db_catalog.specs.Planning.{outcome_unless}
use Rattle.je_answers.specs.Alone.{Alone, IsAutoCommitted, alone, records_of}
use Rattle.je_answers.specs.Journal.{is_disk_fault}
use Rattle.je_answers.specs.Refusals.{database_refusal, late_refusal, name_refusal, number_refusal, target_refusal, there_refusal}
use Rattle.je_answers.specs.Views.{Target, target, target_of}
use Rattle.txn_core.specs.Planning.{outcome_alone, outcome_on, performed_outcome}
use Rattle.engine.specs.Steps.{IsNumbered}

-- a commit or a disk fault gives the answer
abbrev pub is_loud : Answer → Bool
is_loud (Logged commit) = true
is_loud DiskFault = true
is_loud answer = false

-- an answer that no commit and no disk fault gives
abbrev pub IsCalm : Answer → Type 0
IsCalm answer = is_loud answer ≡ false

pub faultless : (answer : Answer) → IsCalm answer → is_disk_fault answer ≡ false
faultless DiskFault is = absurd (true≢false is)
faultless answer is = refl

pub unnumbered : (answer : Answer) (commits : ℕ) → IsCalm answer → IsNumbered answer commits
unnumbered (Logged commit) commits is = absurd (true≢false is)
unnumbered answer commits is = tt

abbrev IsCalmRefusal : Option Answer → Type 0
IsCalmRefusal o = IfSome o IsCalm

calm_or : (a b : Option Answer) → IsCalmRefusal a → IsCalmRefusal b → IsCalmRefusal (or_refusal a b)
calm_or None b first second = second
calm_or (Some refusal) b first second = first

calm_if : (b : Bool) (a : Answer) → IsCalm a → IsCalmRefusal (cond b (Some a) None)
calm_if true a is = is
calm_if false a is = tt

calm_unless : (b : Bool) (a : Answer) → IsCalm a → IsCalmRefusal (cond b None (Some a))
calm_unless true a is = tt
calm_unless false a is = is

calm_number : (last : ℕ) → IsCalmRefusal (number_refusal last None)
calm_number last = calm_unless (nat_lt last LAST_TXN) IdsEnded refl

calm_database : (p : Alone) (db : List ℕ) → IsCalmRefusal (database_refusal (alone p) db)
calm_database p db = calm_unless (is_some (database_of db p.store)) NoDatabase refl

calm_there : (p : Alone) (session : ℕ) (call : Call) → IsAutoCommitted call → IsCalmRefusal (there_refusal (alone p) session call)
calm_there p session Lists is = tt
calm_there p session (Create db kind) is = tt
calm_there p session (CreateIndex db index) is = calm_unless (is_primary (database_of index.primary p.store)) NoDatabase refl
calm_there p session (Removes db) is = calm_database p db
calm_there p session (Renames db to) is = calm_database p db
calm_there p session (Truncate db) is = calm_database p db
calm_there p session (Get db key rmw) is = calm_database p db
calm_there p session (GetBoth db key value rmw) is = calm_database p db
calm_there p session (Put db key value mode) is = calm_database p db
calm_there p session (Delete db key) is = calm_database p db
calm_there p session call is = absurd is

calm_creation : (taken full : Bool) → IsCalmRefusal (cond taken (Some NameTaken) (cond full (Some (TooMany MOST_DATABASES)) None))
calm_creation true full = refl
calm_creation false full = calm_if full (TooMany MOST_DATABASES) refl

calm_name : (p : Alone) (session : ℕ) (call : Call) → IsAutoCommitted call → IsCalmRefusal (name_refusal (alone p) session call)
calm_name p session Lists is = tt
calm_name p session (Create db kind) is = calm_creation (is_some (database_of db p.store)) (nat_le MOST_DATABASES (length p.store.databases))
calm_name p session (CreateIndex db index) is = calm_creation (is_some (database_of db p.store)) (nat_le MOST_DATABASES (length p.store.databases))
calm_name p session (Removes db) is = calm_if (list_any (is_index_of db) p.store.databases) HasIndex refl
calm_name p session (Renames db to) is = calm_if (is_some (database_of to p.store)) NameTaken refl
calm_name p session (Truncate db) is = calm_if (list_any (is_index_of db) p.store.databases) HasIndex refl
calm_name p session (Get db key rmw) is = tt
calm_name p session (GetBoth db key value rmw) is = tt
calm_name p session (Put db key value mode) is = tt
calm_name p session (Delete db key) is = tt
calm_name p session call is = absurd is

calm_long : (limit : ℕ) (bytes : List ℕ) → IsCalmRefusal (too_long limit bytes)
calm_long limit bytes = calm_if (nat_lt limit (length bytes)) (TooLong (length bytes)) refl

calm_pair : (kind : Kind) (key value : List ℕ) → IsCalmRefusal (pair_refusal kind key value)
calm_pair kind key value = calm_or (too_long KEY_LIMIT key) (too_long (data_limit kind) value) (calm_long KEY_LIMIT key) (calm_long (data_limit kind) value)

calm_mode : (db key value : List ℕ) (mode : PutMode) (kind : Kind) → IsCalmRefusal (kind_refusal (Put db key value mode) kind)
calm_mode db key value NoDupData Plain = refl
calm_mode db key value NoDupData Dup = tt
calm_mode db key value Overwrite Plain = tt
calm_mode db key value Overwrite Dup = tt
calm_mode db key value NoOverwrite Plain = tt
calm_mode db key value NoOverwrite Dup = tt

calm_refuses : (kind : Kind) (call : Call) → IsAutoCommitted call → IsCalmRefusal (database_refuses kind call)
calm_refuses kind Lists is = tt
calm_refuses kind (Create db k) is = tt
calm_refuses kind (CreateIndex db index) is = tt
calm_refuses kind (Removes db) is = tt
calm_refuses kind (Renames db to) is = tt
calm_refuses kind (Truncate db) is = tt
calm_refuses kind (Get db key rmw) is = calm_long KEY_LIMIT key
calm_refuses kind (GetBoth db key value rmw) is = calm_pair kind key value
calm_refuses kind (Put db key value mode) is = calm_or (kind_refusal (Put db key value mode) kind) (pair_refusal kind key value) (calm_mode db key value mode kind) (calm_pair kind key value)
calm_refuses kind (Delete db key) is = calm_long KEY_LIMIT key
calm_refuses kind call is = absurd is

calm_index : (call : Call) (o : Option Index) → IsAutoCommitted call → IsCalmRefusal (index_refusal call o)
calm_index Lists o is = tt
calm_index (Create db kind) o is = tt
calm_index (CreateIndex db index) o is = tt
calm_index (Removes db) o is = tt
calm_index (Renames db to) o is = tt
calm_index (Truncate db) o is = tt
calm_index (Get db key rmw) o is = tt
calm_index (GetBoth db key value rmw) o is = tt
calm_index (Put db key value mode) None is = tt
calm_index (Put db key value mode) (Some index) is = refl
calm_index (Delete db key) o is = tt
calm_index call o is = absurd is

calm_target : (call : Call) (o : Option Target) → IsAutoCommitted call → IsCalmRefusal (target_refusal call o)
calm_target call None is = tt
calm_target call (Some g) is =
    calm_or (index_refusal call g.database.index) (database_refuses g.database.kind call) (calm_index call g.database.index is) (calm_refuses g.database.kind call is)

calm_late : (p : Alone) (session : ℕ) (call : Call) → IsAutoCommitted call → IsCalmRefusal (late_refusal (alone p) session call)
calm_late p session call is =
    calm_or (number_refusal p.last_txn None) _ (calm_number p.last_txn)
    (calm_or (there_refusal (alone p) session call) _ (calm_there p session call is)
    (calm_or (name_refusal (alone p) session call) (target_refusal call (target_of (alone p) session call)) (calm_name p session call is) (calm_target call (target_of (alone p) session call) is)))

found_calm : (taken : List Pair) → IsCalm (found None taken).answer
found_calm [] = refl
found_calm (q ∷ qs) = refl

put_calm : (kind : Kind) (key value : List ℕ) (taken : List Pair) → IsCalm (put_unless kind None None key value taken).answer
put_calm kind key value [] = refl
put_calm kind key value (q ∷ qs) = refl

deleted_calm : (kind : Kind) (taken : List Pair) → IsCalm (deleted kind None taken).answer
deleted_calm kind [] = refl
deleted_calm kind (q ∷ qs) = refl

emptying_calm : (db : List ℕ) (o : Option Index) → IsCalm (emptying db o).answer
emptying_calm db None = refl
emptying_calm db (Some index) = refl

indexing_calm : (db : List ℕ) (index : Index) (o : Option Database) → IsCalm (indexing db index o).answer
indexing_calm db index None = refl
indexing_calm db index (Some primary) = refl

catalog_calm : (db to : List ℕ) (store : Store) (o : Option Database) →
    IsCalm (evaluation_in (Removes db) store o).answer × IsCalm (evaluation_in (Renames db to) store o).answer × IsCalm (evaluation_in (Truncate db) store o).answer
catalog_calm db to store None = (refl, refl, refl)
catalog_calm db to store (Some d) = (refl, refl, emptying_calm db d.index)

-- what an index answers in its place
pub calm_through : (over : Option Numbered) (see : Numbered → List Pair) (answer : Answer) → IsCalm answer → IsCalm (answer_through over see answer)
calm_through None see answer is = is
calm_through (Some primary) see (Rec key primary_key) is = refl
calm_through (Some primary) see answer is = is

outcome_on_calm : (g : Target) (call : Call) → IsCalm (evaluation g.database.kind call g.at g.database.pairs).answer → IsCalm (outcome_on call (Some g)).answer
outcome_on_calm g call is = calm_through g.over records_of (evaluation g.database.kind call g.at g.database.pairs).answer is

records_calm : (numbers : List ℕ → ℕ) (store : Store) (number : ℕ) (o : Option Database) (db key value : List ℕ) (rmw : Bool) (mode : PutMode) →
    IsCalm (outcome_on (Get db key rmw) (option_map (target numbers store number None) o)).answer × IsCalm (outcome_on (GetBoth db key value rmw) (option_map (target numbers store number None) o)).answer
    × IsCalm (outcome_on (Put db key value mode) (option_map (target numbers store number None) o)).answer × IsCalm (outcome_on (Delete db key) (option_map (target numbers store number None) o)).answer
records_calm numbers store number None db key value rmw mode = (refl, refl, refl, refl)
records_calm numbers store number (Some d) db key value rmw mode =
    let g : Target = target numbers store number None d in (
      outcome_on_calm g (Get db key rmw) (found_calm _),
      outcome_on_calm g (GetBoth db key value rmw) (found_calm _),
      outcome_on_calm g (Put db key value mode) (put_calm d.kind key value _),
      outcome_on_calm g (Delete db key) (deleted_calm d.kind _),
    )

performed_calm : (call : Call) (p : Alone) (session : ℕ) → IsAutoCommitted call → IsCalm (performed_outcome p session call).answer
performed_calm Lists p session is = refl
performed_calm (Create db kind) p session is = refl
performed_calm (CreateIndex db index) p session is = indexing_calm db index (database_of index.primary p.store)
performed_calm (Removes db) p session is = (catalog_calm db [] p.store (database_of db p.store)).0
performed_calm (Renames db to) p session is = (catalog_calm db to p.store (database_of db p.store)).1
performed_calm (Truncate db) p session is = (catalog_calm db [] p.store (database_of db p.store)).2
performed_calm (Get db key rmw) p session is = (records_calm p.numbers p.store (p.numbers db) (database_of db p.store) db key [] rmw Overwrite).0
performed_calm (GetBoth db key value rmw) p session is = (records_calm p.numbers p.store (p.numbers db) (database_of db p.store) db key value rmw Overwrite).1
performed_calm (Put db key value mode) p session is = (records_calm p.numbers p.store (p.numbers db) (database_of db p.store) db key value true mode).2
performed_calm (Delete db key) p session is = (records_calm p.numbers p.store (p.numbers db) (database_of db p.store) db key [] true Overwrite).3
performed_calm call p session is = absurd is

unless_calm : (late : Option Answer) (o : Outcome) → IsCalmRefusal late → IsCalm o.answer → IsCalm (outcome_unless late o).answer
unless_calm None o late is = is
unless_calm (Some refusal) o late is = late

pub outcome_calm : (p : Alone) (session : ℕ) (call : Call) → IsAutoCommitted call → IsCalm (outcome_alone p session call).answer
outcome_calm p session call is = unless_calm (late_refusal (alone p) session call) (performed_outcome p session call) (calm_late p session call is) (performed_calm call p session is)
