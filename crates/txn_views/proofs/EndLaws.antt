-- What a transaction's end, and a database that goes, leave of the changes that names have.
use Rattle.std.proofs.Common.{◌≡◌, ◌≢◌, ◌⊎◌, inl, inr, ℕ, ◌==◌, List, [], Bool, true, false, cond, Option, None, Some, is_some, refl, ap, sym, subst, ◌∙◌}
use Rattle.std.proofs.lemmas.Bool.Decides.{eqb_tells}
use Rattle.je_order.specs.declared.name.Name.{Name}
use Rattle.record_map.specs.Cells.{value_at}
use Rattle.record_tree.specs.declared.tree_name.TreeName.{TreeName}
use Rattle.record_tree.specs.Occupied.{Occupied, AllCells, HasChangedAll, after_commit, after_abort, if_occupied, is_among, write_in}
use Rattle.store_model.specs.declared.record_change.RecordChange.{RecordChange}
use Rattle.txn_views.specs.Seen.{last_own, IsWriteOf, HasWrites}
use Rattle.txn_views.specs.Laws.{own_with, own_names, EndsLeaveWrites, DropsLeaveWrites}
use Rattle.txn_views.proofs.OwnLaws.{among, none_in, writes_same, only_one, last_with}

write_gone : (v : Option (List ℕ)) → write_in (if_occupied (record { value = v; write = None })) ≡ None
write_gone None = refl
write_gone (Some v) = refl

gone_by_commit : (o : Option Occupied) → write_in (after_commit o) ≡ None
gone_by_commit None = refl
gone_by_commit (Some o) = by o.write
  where
    by : (w : Option _) → write_in (after_commit (Some (record { value = o.value; write = w }))) ≡ None
    by None = write_gone o.value
    by (Some w) = write_gone w.value

gone_by_abort : (o : Option Occupied) → write_in (after_abort o) ≡ None
gone_by_abort None = refl
gone_by_abort (Some o) = write_gone o.value

-- a name that the transaction changed has no change then, and another one the change that it had
ended : (t d : ℕ) (x : Name) (own : ℕ → List (ℕ × RecordChange)) (o gone : Option Occupied) (last : Option RecordChange) → last_own d x (own t) ≡ last → write_in gone ≡ None →
    IsWriteOf d x own (write_in o) → IsWriteOf d x (own_with t [] own) (write_in (cond (is_some last) gone o))
ended t d x own o gone None is none h =
    writes_same d x own (own_with t [] own) (write_in o)
    (λ u. last_with d x t u [] own (last_own d x (own u)) (λ e. sym (ap (λ (n : ℕ). last_own d x (own n)) e ∙ is)) (λ e. refl)) h
ended t d x own o gone (Some c) is none h =
    subst (λ (w : Option _). IsWriteOf d x (own_with t [] own) w) (sym none)
    (λ u. last_with d x t u [] own None (λ e. refl) (λ apart. only_one d x own (write_in o) t u c h is apart))

ends : (change : Option Occupied → Option Occupied) → ((o : Option Occupied) → write_in (change o) ≡ None) →
    (t : ℕ) (own : ℕ → List (ℕ × RecordChange)) (old new : AllCells) (names : List TreeName) → names ≡ own_names (own t) → HasWrites old own → HasChangedAll old new names change →
    HasWrites new (own_with t [] own)
ends change none t own old new names is has changed d x =
    let o = value_at x (old d) in
    subst (λ (n : Option Occupied). IsWriteOf d x (own_with t [] own) (write_in n))
    (sym (changed d x ∙ ap (λ (b : Bool). cond b (change o) o) (ap (is_among d x) is ∙ among d x (own t))))
    (ended t d x own o (change o) (last_own d x (own t)) refl (none o) (has d x))

pub ends-leave_writes : EndsLeaveWrites
ends-leave_writes t own old new names is has (inl changed) = ends after_commit gone_by_commit t own old new names is has changed
ends-leave_writes t own old new names is has (inr changed) = ends after_abort gone_by_abort t own old new names is has changed

pub drops-leave_writes : DropsLeaveWrites
drops-leave_writes db own old new none has dropped d x = by (eqb_tells d db)
  where
    by : ((d == db) ≡ true) × (d ≡ db) ⊎ ((d == db) ≡ false) × (d ≢ db) → IsWriteOf d x own (write_in (value_at x (new d)))
    by (inl same) =
        subst (λ (l : List (Name × Occupied)). IsWriteOf d x own (write_in (value_at x l))) (sym (dropped d ∙ ap (λ (b : Bool). cond b [] (old d)) same.0))
        (λ t. ap (λ (n : ℕ). last_own n x (own t)) same.1 ∙ none_in db x (own t) (none t))
    by (inr other) =
        subst (λ (l : List (Name × Occupied)). IsWriteOf d x own (write_in (value_at x l))) (sym (dropped d ∙ ap (λ (b : Bool). cond b [] (old d)) other.0)) (has d x)
