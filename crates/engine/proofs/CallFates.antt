-- Where a call leaves the model that is to log changes, by what becomes of them.
use Rattle.std.proofs.Common.{◌≡◌, ℕ, List, [], ◌∷◌, Option, None, Some, refl, ap}
use Rattle.store_model.specs.declared.answer.Answer.{Answer}
use Rattle.store_model.specs.declared.call.Call.{Call}
use Rattle.store_model.specs.declared.call.Call.TheVariants.{List as Lists, Create, CreateIndex, Remove, Rename, Truncate, Get, GetBoth, Put, Delete}
use Rattle.store_model.specs.declared.change.Change.{Change}
use Rattle.store_model.specs.declared.record_change.RecordChange.{RecordChange}
use Rattle.store_model.specs.Evaluation.{Outcome}
use Rattle.db_catalog.specs.Planning.{outcome_unless}
use Rattle.je_answers.specs.Views.{Target, target_of}
use Rattle.je_answers.specs.After.{fate_of}
use Rattle.je_answers.specs.Alone.{Alone, IsAutoCommitted, alone, changes_alone, changes_of_call, evaluated_on, fate_alone, performed_alone, target_alone}
use Rattle.txn_core.specs.Planning.{outcome_on, performed_outcome}

-- a call that changes something was not refused
not_refused : (late : Option Answer) (o : Outcome) (change : Change) (more : List Change) → (outcome_unless late o).changes ≡ change ∷ more → (late ≡ None) × (o.changes ≡ change ∷ more)
not_refused None o change more is = (refl, is)
not_refused (Some refusal) o change more is = absurd cc

on_changes : (changes : List RecordChange) (g : Target) (p : Alone) (answer : Answer) (change : Change) (more : List Change) → changes_of_call g changes ≡ change ∷ more →
    changes_alone changes g p answer ≡ fate_alone (fate_of answer) (change ∷ more) p
on_changes [] g p answer change more is = absurd cc
on_changes (first ∷ changes) g p answer change more is = ap (λ (l : List Change). fate_alone (fate_of answer) l p) is

on_target : (o : Option Target) (call : Call) (p : Alone) (answer : Answer) (change : Change) (more : List Change) → (outcome_on call o).changes ≡ change ∷ more →
    target_alone o call p answer ≡ fate_alone (fate_of answer) (change ∷ more) p
on_target None call p answer change more is = absurd cc
on_target (Some g) call p answer change more is = on_changes (evaluated_on call g).changes g p answer change more is

performed : (call : Call) (p : Alone) (session : ℕ) (answer : Answer) (change : Change) (more : List Change) → IsAutoCommitted call → (performed_outcome p session call).changes ≡ change ∷ more →
    performed_alone call p session answer ≡ fate_alone (fate_of answer) (change ∷ more) p
performed Lists p session answer change more auto is = absurd cc
performed (Create db kind) p session answer change more auto is = ap (λ (l : List Change). fate_alone (fate_of answer) l p) is
performed (CreateIndex db index) p session answer change more auto is = ap (λ (l : List Change). fate_alone (fate_of answer) l p) is
performed (Remove db) p session answer change more auto is = ap (λ (l : List Change). fate_alone (fate_of answer) l p) is
performed (Rename db to) p session answer change more auto is = ap (λ (l : List Change). fate_alone (fate_of answer) l p) is
performed (Truncate db) p session answer change more auto is = ap (λ (l : List Change). fate_alone (fate_of answer) l p) is
performed (Get db key rmw) p session answer change more auto is = on_target (target_of (alone p) session (Get db key rmw)) (Get db key rmw) p answer change more is
performed (GetBoth db key value rmw) p session answer change more auto is = on_target (target_of (alone p) session (GetBoth db key value rmw)) (GetBoth db key value rmw) p answer change more is
performed (Put db key value mode) p session answer change more auto is = on_target (target_of (alone p) session (Put db key value mode)) (Put db key value mode) p answer change more is
performed (Delete db key) p session answer change more auto is = on_target (target_of (alone p) session (Delete db key)) (Delete db key) p answer change more is
performed call p session answer change more auto is = absurd auto
