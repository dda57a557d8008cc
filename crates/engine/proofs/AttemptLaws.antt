-- What a call attempts to commit where nothing is under way.
use Rattle.std.proofs.Common.{◌≡◌, ℕ, List, [], ◌∷◌, Option, None, Some, refl, ap, ◌∙◌}
use Rattle.store_model.specs.declared.answer.Answer.{Answer}
use Rattle.store_model.specs.declared.answer.Fault.{Fault}
use Rattle.store_model.specs.declared.call.Call.{Call}
use Rattle.store_model.specs.declared.call.Call.TheVariants.{List as Lists, Create, CreateIndex, Remove, Rename, Truncate, Get, GetBoth, Put, Delete}
use Rattle.store_model.specs.declared.change.Change.{Change}
use Rattle.store_model.specs.declared.need.Need.{Need}
use Rattle.store_model.specs.Refusals.{or_refusal}
use Rattle.db_catalog.specs.Planning.{outcome_unless}
use Rattle.je_answers.specs.Standing.{Standing}
use Rattle.je_answers.specs.Views.{Target, needs_in, target_of}
use Rattle.je_answers.specs.Refusals.{early_refusal, fault_refusal, late_refusal, txn_refusal}
use Rattle.je_answers.specs.Events.{auto_active, begun}
use Rattle.je_answers.specs.After.{Fate}
use Rattle.je_answers.specs.After.Fate.{Succeeds, IsRefused, Faults}
use Rattle.je_answers.specs.Journal.{changes_evaluated, changes_in, changes_of, changes_performed, changes_taken, tried}
use Rattle.je_answers.specs.Alone.{Alone, IsAutoCommitted, alone}
use Rattle.je_answers.proofs.Unlocked.{none_own, none_stopped}
use Rattle.txn_core.specs.Planning.{outcome_alone, outcome_on, performed_outcome}

-- only a fault refuses such a call early
never_inside : (call : Call) → IsAutoCommitted call → txn_refusal call None ≡ None
never_inside Lists is = refl
never_inside (Create db kind) is = refl
never_inside (CreateIndex db index) is = refl
never_inside (Remove db) is = refl
never_inside (Rename db to) is = refl
never_inside (Truncate db) is = refl
never_inside (Get db key rmw) is = refl
never_inside (GetBoth db key value rmw) is = refl
never_inside (Put db key value mode) is = refl
never_inside (Delete db key) is = refl
never_inside call is = absurd is

early_none : (p : Alone) (session : ℕ) (call : Call) → p.fault ≡ None → IsAutoCommitted call → early_refusal (alone p) session call ≡ None
early_none p session call none is =
    ap (λ (f : Option Fault). or_refusal (fault_refusal f) (txn_refusal call None)) none ∙ never_inside call is

-- its changes on records are those that evaluation makes
changes_on_records : (o : Option Target) (p : Alone) (session : ℕ) (call : Call) →
    changes_in o (begun (alone p) session) (auto_active (alone p) session) call ≡ (outcome_on call o).changes
changes_on_records None p session call = refl
changes_on_records (Some g) p session call =
    let st : Standing = begun (alone p) session in
    let a = auto_active (alone p) session in
    ap (λ (n : Option Need). changes_taken n st a call g) (none_stopped a.txn (needs_in st a call g) (λ r. ([], [])) (none_own a.txn))

changes_are : (call : Call) (p : Alone) (session : ℕ) → IsAutoCommitted call → changes_performed call (alone p) session ≡ (performed_outcome p session call).changes
changes_are Lists p session is = refl
changes_are (Create db kind) p session is = refl
changes_are (CreateIndex db index) p session is = refl
changes_are (Remove db) p session is = refl
changes_are (Rename db to) p session is = refl
changes_are (Truncate db) p session is = refl
changes_are (Get db key rmw) p session is = changes_on_records (target_of (alone p) session (Get db key rmw)) p session (Get db key rmw)
changes_are (GetBoth db key value rmw) p session is = changes_on_records (target_of (alone p) session (GetBoth db key value rmw)) p session (GetBoth db key value rmw)
changes_are (Put db key value mode) p session is = changes_on_records (target_of (alone p) session (Put db key value mode)) p session (Put db key value mode)
changes_are (Delete db key) p session is = changes_on_records (target_of (alone p) session (Delete db key)) p session (Delete db key)
changes_are call p session is = absurd is

unless_refused : (late : Option Answer) (p : Alone) (session : ℕ) (call : Call) → IsAutoCommitted call →
    changes_evaluated late (alone p) session call ≡ (outcome_unless late (performed_outcome p session call)).changes
unless_refused (Some refusal) p session call is = refl
unless_refused None p session call is = changes_are call p session is

-- what a call of a valid environment is to commit
pub alone_changes : (p : Alone) (session : ℕ) (call : Call) → p.fault ≡ None → IsAutoCommitted call →
    changes_of (early_refusal (alone p) session call) (alone p) session call ≡ (outcome_alone p session call).changes
alone_changes p session call none is =
    ap (λ (r : Option Answer). changes_of r (alone p) session call) (early_none p session call none is)
    ∙ unless_refused (late_refusal (alone p) session call) p session call is

-- ---- attempts

pub tried_refused : (changes : List Change) → tried changes IsRefused ≡ []
tried_refused [] = refl
tried_refused (change ∷ changes) = refl

pub tried_none : (changes : List Change) (fate : Fate) → changes ≡ [] → tried changes fate ≡ []
tried_none changes fate none = ap (λ (cs : List Change). tried cs fate) none

pub tried_some : (changes : List Change) (change : Change) (more : List Change) → changes ≡ change ∷ more →
    (tried changes Succeeds ≡ (change ∷ more) ∷ []) × (tried changes Faults ≡ (change ∷ more) ∷ [])
tried_some changes change more is = (ap (λ (cs : List Change). tried cs Succeeds) is, ap (λ (cs : List Change). tried cs Faults) is)
