-- An environment in which no transaction is under way between two events, as where each call is a transaction of its own: nobody has a lock,
-- so no call waits, and what the model says of a call comes down to evaluation on the committed store.
use Rattle.std.specs.Prelude.{ℕ, ◌≡◌, ◌+◌, ◌∷◌, [], List, Option, None, Some, Bool}
use Rattle.store_model.specs.declared.store.Store.{Store}
use Rattle.store_model.specs.declared.call.Call.{Call}
use Rattle.store_model.specs.declared.call.Call.TheVariants.{List as Lists, Create, CreateIndex, Remove, Rename, Truncate, Get, GetBoth, Put, Delete}
use Rattle.store_model.specs.declared.change.Change.{Change}
use Rattle.store_model.specs.declared.record_change.RecordChange.{RecordChange}
use Rattle.store_model.specs.declared.answer.Answer.{Answer}
use Rattle.store_model.specs.declared.answer.Answer.TheVariants.{Invalid}
use Rattle.store_model.specs.declared.answer.Fault.{Fault}
use Rattle.store_model.specs.declared.answer.Fault.TheVariants.{Disk}
use Rattle.store_model.specs.declared.event.Event.TheVariants.{Call as Called}
use Rattle.store_model.specs.Store.{Pair, all_changed}
use Rattle.store_model.specs.Indexes.{Numbered, answer_through, all_changes}
use Rattle.store_model.specs.Records.{Evaluated, evaluation}
use Rattle.store_model.specs.Evaluation.{evaluation as catalog_evaluation}
use Rattle.store_model.specs.Refusals.{made_by, next_txn}
use Rattle.je_answers.specs.Standing.{LockState, Standing, all_numbered}
use Rattle.je_answers.specs.Views.{Target, target_of, with_names, answered_with}
use Rattle.je_answers.specs.Refusals.{late_refusal}
use Rattle.je_answers.specs.Events.{IsDone, IsChanged, IsAnswered, auto_active}
use Rattle.je_answers.specs.After.{Fate, fate_of, after_event}
use Rattle.je_answers.specs.After.Fate.{Succeeds, IsRefused, Faults}

-- where such an environment stands
pub record Alone : Type 0 where
  pub store : Store
  pub numbers : List ℕ → ℕ
  pub last_txn : ℕ
  pub last_db : ℕ
  pub commits : ℕ
  pub begun : Option ℕ
  pub fault : Option Fault
  pub in_checkpoint : Bool

-- no owners and no waits
abbrev pub no_locks : LockState
no_locks = record { at = λ r. ([], []); pending = λ t. None }

-- where an environment without a transaction stands, as a standing
abbrev pub alone : Alone → Standing
alone p = record {
  store = p.store;
  numbers = p.numbers;
  last_txn = p.last_txn;
  last_db = p.last_db;
  commits = p.commits;
  begun = p.begun;
  fault = p.fault;
  in_checkpoint = p.in_checkpoint;
  actives = [];
  own = λ t. [];
  places = λ session. [];
  waiting = [];
  locks = no_locks;
}

-- ---- what a call may answer

-- the records of a database are those that are committed
abbrev pub records_of : Numbered → List Pair
records_of d = d.1.pairs

-- what a call comes to on the committed records; an index answers with the primary's record
abbrev pub evaluated_on : Call → Target → Evaluated
evaluated_on call g =
    let evaluated = evaluation g.database.kind call g.at g.database.pairs in
    answered_with (answer_through g.over records_of evaluated.answer) evaluated

-- the changes of a call, with those in the indexes, as changes of the store
abbrev pub changes_of_call : Target → List RecordChange → List Change
changes_of_call g changes = with_names (all_changes g.over (g.db, g.database) g.indexes records_of changes)

abbrev pub IsDoneOn : Option Target → Option Answer → Alone → ℕ → Call → Answer → Type 0
IsDoneOn None limit p session call answer = ⊥
IsDoneOn (Some g) limit p session call answer =
    let evaluated = evaluated_on call g in IsDone evaluated.changes limit (alone p) (auto_active (alone p) session) evaluated answer

abbrev pub IsPerformedAlone : Call → Option Answer → Alone → ℕ → Answer → Type 0
IsPerformedAlone Lists limit p session answer = answer ≡ (catalog_evaluation Lists p.store).answer
IsPerformedAlone (Create db kind) limit p session answer = IsChanged (catalog_evaluation (Create db kind) p.store) limit (alone p) answer
IsPerformedAlone (CreateIndex db index) limit p session answer = IsChanged (catalog_evaluation (CreateIndex db index) p.store) limit (alone p) answer
IsPerformedAlone (Remove db) limit p session answer = IsChanged (catalog_evaluation (Remove db) p.store) limit (alone p) answer
IsPerformedAlone (Rename db to) limit p session answer = IsChanged (catalog_evaluation (Rename db to) p.store) limit (alone p) answer
IsPerformedAlone (Truncate db) limit p session answer = IsChanged (catalog_evaluation (Truncate db) p.store) limit (alone p) answer
IsPerformedAlone (Get db key rmw) limit p session answer = IsDoneOn (target_of (alone p) session (Get db key rmw)) limit p session (Get db key rmw) answer
IsPerformedAlone (GetBoth db key value rmw) limit p session answer =
    IsDoneOn (target_of (alone p) session (GetBoth db key value rmw)) limit p session (GetBoth db key value rmw) answer
IsPerformedAlone (Put db key value mode) limit p session answer =
    IsDoneOn (target_of (alone p) session (Put db key value mode)) limit p session (Put db key value mode) answer
IsPerformedAlone (Delete db key) limit p session answer = IsDoneOn (target_of (alone p) session (Delete db key)) limit p session (Delete db key) answer
IsPerformedAlone call limit p session answer = ⊥

abbrev pub IsEvaluatedAlone : Option Answer → Option Answer → Alone → ℕ → Call → Answer → Type 0
IsEvaluatedAlone (Some refusal) limit p session call answer = answer ≡ refusal
IsEvaluatedAlone None limit p session call answer = IsPerformedAlone call limit p session answer

-- a call of its own: Invalid after a fault; then the refusals; then what it comes to
abbrev pub IsAnsweredAlone : Option Fault → Option Answer → Alone → ℕ → Call → Answer → Type 0
IsAnsweredAlone None limit p session call answer = IsEvaluatedAlone (late_refusal (alone p) session call) limit p session call answer
IsAnsweredAlone (Some first) limit p session call answer = answer ≡ Invalid first

-- ---- where it leaves the environment

abbrev pub drawn_alone : Alone → Alone
drawn_alone p = record p { last_txn = next_txn p.last_txn }

abbrev pub faulted_alone : Alone → Alone
faulted_alone p = record p { fault = Some Disk }

abbrev pub committed_alone : List Change → Alone → Alone
committed_alone [] p = p
committed_alone (change ∷ changes) p = record p {
  store = all_changed (change ∷ changes) p.store;
  numbers = all_numbered (change ∷ changes) p.last_db p.numbers;
  last_db = p.last_db + made_by (change ∷ changes);
  commits = p.commits + 1;
}

abbrev pub fate_alone : Fate → List Change → Alone → Alone
fate_alone Succeeds changes p = committed_alone changes (drawn_alone p)
fate_alone IsRefused changes p = drawn_alone p
fate_alone Faults changes p = faulted_alone p

abbrev pub changes_alone : List RecordChange → Target → Alone → Answer → Alone
changes_alone [] g p answer = drawn_alone p
changes_alone (change ∷ changes) g p answer = fate_alone (fate_of answer) (changes_of_call g (change ∷ changes)) p

abbrev pub target_alone : Option Target → Call → Alone → Answer → Alone
target_alone None call p answer = p
target_alone (Some g) call p answer = changes_alone (evaluated_on call g).changes g p answer

abbrev pub performed_alone : Call → Alone → ℕ → Answer → Alone
performed_alone Lists p session answer = drawn_alone p
performed_alone (Create db kind) p session answer = fate_alone (fate_of answer) (catalog_evaluation (Create db kind) p.store).changes p
performed_alone (CreateIndex db index) p session answer = fate_alone (fate_of answer) (catalog_evaluation (CreateIndex db index) p.store).changes p
performed_alone (Remove db) p session answer = fate_alone (fate_of answer) (catalog_evaluation (Remove db) p.store).changes p
performed_alone (Rename db to) p session answer = fate_alone (fate_of answer) (catalog_evaluation (Rename db to) p.store).changes p
performed_alone (Truncate db) p session answer = fate_alone (fate_of answer) (catalog_evaluation (Truncate db) p.store).changes p
performed_alone (Get db key rmw) p session answer = target_alone (target_of (alone p) session (Get db key rmw)) (Get db key rmw) p answer
performed_alone (GetBoth db key value rmw) p session answer =
    target_alone (target_of (alone p) session (GetBoth db key value rmw)) (GetBoth db key value rmw) p answer
performed_alone (Put db key value mode) p session answer = target_alone (target_of (alone p) session (Put db key value mode)) (Put db key value mode) p answer
performed_alone (Delete db key) p session answer = target_alone (target_of (alone p) session (Delete db key)) (Delete db key) p answer
performed_alone call p session answer = p

abbrev pub evaluated_alone : Option Answer → Call → Alone → ℕ → Answer → Alone
evaluated_alone (Some refusal) call p session answer = drawn_alone p
evaluated_alone None call p session answer = performed_alone call p session answer

abbrev pub after_alone : Option Fault → Call → Alone → ℕ → Answer → Alone
after_alone None call p session answer = evaluated_alone (late_refusal (alone p) session call) call p session answer
after_alone (Some first) call p session answer = p

-- ---- the law

-- the calls that are transactions of their own
abbrev pub IsAutoCommitted : Call → Type 0
IsAutoCommitted Lists = Unit {0}
IsAutoCommitted (Create db kind) = Unit {0}
IsAutoCommitted (CreateIndex db index) = Unit {0}
IsAutoCommitted (Remove db) = Unit {0}
IsAutoCommitted (Rename db to) = Unit {0}
IsAutoCommitted (Truncate db) = Unit {0}
IsAutoCommitted (Get db key rmw) = Unit {0}
IsAutoCommitted (GetBoth db key value rmw) = Unit {0}
IsAutoCommitted (Put db key value mode) = Unit {0}
IsAutoCommitted (Delete db key) = Unit {0}
IsAutoCommitted call = ⊥

-- such a call answers what the model lets it, and leaves the environment alone again
pub record CallsStayAlone (limit : Option Answer) (p : Alone) (session line : ℕ) (call : Call) (answer : Answer) : Type 0 where
  pub answers : IsAnsweredAlone p.fault limit p session call answer → IsAnswered limit (alone p) (Called session line call answer [])
  pub leaves : after_event (alone p) (Called session line call answer []) ≡ alone (after_alone p.fault call p session answer)
