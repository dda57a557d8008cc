-- Where the own changes of all are the same, each transaction sees the same.
use Rattle.std.proofs.Common.{◌≡◌, ℕ, List, refl, ap, ap₂, flat_map}
use Rattle.store_model.specs.declared.isolation.Isolation.{Isolation}
use Rattle.store_model.specs.declared.isolation.Isolation.TheVariants.{ReadUncommitted}
use Rattle.store_model.specs.declared.call.Call.{Call}
use Rattle.store_model.specs.declared.record_change.RecordChange.{RecordChange}
use Rattle.store_model.specs.Store.{Pair, all_pairs_changed}
use Rattle.store_model.specs.Indexes.{Numbered, all_changes}
use Rattle.je_answers.specs.declared.active.Active.{Active}
use Rattle.je_answers.specs.Standing.{Standing}
use Rattle.je_answers.specs.Views.{Target, of_db, seen_changes, view_in, changes_with}
use Rattle.je_answers.specs.After.{answered}

pub same_seen : (level : Isolation) (old new : Standing) (txn : ℕ) → new.own ≡ old.own → new.actives ≡ old.actives → seen_changes level new txn ≡ seen_changes level old txn
same_seen ReadUncommitted old new txn own actives =
    ap₂ (λ (o : ℕ → List (ℕ × RecordChange)) (as_ : List Active). flat_map (λ a. o a.txn.0) as_) own actives
same_seen level old new txn own actives = ap (λ (o : ℕ → List (ℕ × RecordChange)). o txn) own

pub same_view : (old new : Standing) (a : Active) → new.own ≡ old.own → new.actives ≡ old.actives → view_in new a ≡ view_in old a
same_view old new a own actives =
    let view : List (ℕ × RecordChange) → Numbered → List Pair = λ seen d. all_pairs_changed d.1.kind (of_db d.0 seen) d.1.pairs in
    ap view (same_seen a.level old new a.txn.0 own actives)

pub same_changes : (old new : Standing) (a : Active) (g : Target) (changes : List RecordChange) → new.own ≡ old.own → new.actives ≡ old.actives →
    changes_with new a g changes ≡ changes_with old a g changes
same_changes old new a g changes own actives =
    ap (λ (see : Numbered → List Pair). all_changes g.over (g.db, g.database) g.indexes see changes) (same_view old new a own actives)

-- an answered call changes what it was to change before it gave its locks back
pub answered_changes : (st : Standing) (a : Active) (call : Call) (g : Target) (changes : List RecordChange) → changes_with (answered a call g st) a g changes ≡ changes_with st a g changes
answered_changes st a call g changes = same_changes st (answered a call g st) a g changes refl refl
