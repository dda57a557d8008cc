-- What a transaction's changes leave of the changes that names have.
use Rattle.std.proofs.Common.{◌≡◌, ℕ, ◌==◌, List, [], ◌∷◌, ◌++◌, Bool, true, false, cond, ◌&&◌, Option, None, Some, option_map, find, reverse, map, refl, ap, ap₂, sym, subst, ◌∙◌, is_eq}
use Rattle.std.specs.List.{AllByRecursion}
use Rattle.std.specs.Option.{option_or}
use Rattle.std.proofs.lemmas.Bool.{eqb-true}
use Rattle.std.proofs.lemmas.List.{reverse-append}
use Rattle.std.proofs.lemmas.List.Folds.{find-append}
use Rattle.std.proofs.lemmas.Option.{none-some, same_Some}
use Rattle.je_order.specs.Order.{name_cmp}
use Rattle.je_order.specs.declared.name.Name.{Name}
use Rattle.je_order.specs.declared.txn_id.TxnId.{TxnId}
use Rattle.je_order.proofs.Orderings.{equal_from_test}
use Rattle.record_map.specs.declared.write.Write.{Write}
use Rattle.record_map.specs.Cells.{value_at}
use Rattle.record_map.proofs.NameLaws.{name_exact}
use Rattle.record_tree.specs.declared.tree_change.TreeChange.{TreeChange}
use Rattle.record_tree.specs.Logged.{is_change_of, last_change}
use Rattle.record_tree.specs.Occupied.{IsFreeFor, IsWritten, write_in}
use Rattle.store_model.specs.declared.record_change.RecordChange.{RecordChange}
use Rattle.store_model.specs.declared.record_change.RecordChange.TheVariants.{Set, Unset}
use Rattle.store_model.specs.Needs.{changed_name}
use Rattle.log_replay.proofs.MapRows.{flips_equal}
use Rattle.txn_core.specs.Plans.{record_planned}
use Rattle.txn_views.specs.Seen.{last_own, value_of, IsWriteOf}
use Rattle.txn_views.specs.Laws.{own_with, planned_own, WritesAreOwn}
use Rattle.txn_views.proofs.OwnLaws.{is_of, if_of, last_append, last_cons, writes_same, last_with, own_here}

-- ---- changes of records as changes of trees

planned_name : (number : ℕ) (c : RecordChange) → (record_planned number c).name ≡ changed_name c
planned_name number (Set at value) = refl
planned_name number (Unset at) = refl

planned_value : (number : ℕ) (c : RecordChange) → (record_planned number c).value ≡ value_of c
planned_value number (Set at value) = refl
planned_value number (Unset at) = refl

planned_db : (number : ℕ) (c : RecordChange) → (record_planned number c).db ≡ number
planned_db number (Set at value) = refl
planned_db number (Unset at) = refl

both_true : (a b : Bool) → (a && b) ≡ true → (a ≡ true) × (b ≡ true)
both_true true b h = (refl, h)
both_true false b h = absurd cc

planned_of : (d : ℕ) (x : Name) (c : ℕ × RecordChange) → is_change_of d x (planned_own c) ≡ is_of d x c
planned_of d x c =
    ap₂ (λ (n : ℕ) (m : Name). (n == d) && is_eq (name_cmp m x)) (planned_db c.0 c.1) (planned_name c.0 c.1)
    ∙ ap (λ (b : Bool). (c.0 == d) && b) (flips_equal x (changed_name c.1) (name_cmp x (changed_name c.1)) refl)

one_change : (d : ℕ) (x : Name) (c : TreeChange) (cs : List TreeChange) → last_change d x (c ∷ cs) ≡ option_or (last_change d x cs) (cond (is_change_of d x c) (Some c) None)
one_change d x c cs =
    ap (find (is_change_of d x)) (reverse-append (c ∷ []) cs) ∙ find-append (is_change_of d x) (reverse cs) (c ∷ [])

-- the last change of a name in the trees is the last own one
last_planned : (d : ℕ) (x : Name) (changes : List (ℕ × RecordChange)) → last_change d x (map planned_own changes) ≡ option_map (record_planned d) (last_own d x changes)
last_planned d x [] = refl
last_planned d x (c ∷ cs) =
    one_change d x (planned_own c) (map planned_own cs)
    ∙ ap₂ (λ (o : Option TreeChange) (b : Bool). option_or o (cond b (Some (planned_own c)) None)) (last_planned d x cs) (planned_of d x c)
    ∙ by (last_own d x cs) (is_of d x c) refl
    ∙ ap (option_map (record_planned d)) (sym (last_cons d x c cs))
  where
    by : (o : Option RecordChange) (b : Bool) → is_of d x c ≡ b → option_or (option_map (record_planned d) o) (cond b (Some (planned_own c)) None)
        ≡ option_map (record_planned d) (option_or o (cond b (Some c.1) None))
    by None true e = ap (λ (n : ℕ). Some (record_planned n c.1)) (eqb-true c.0 d (both_true (c.0 == d) (is_eq (name_cmp x (changed_name c.1))) e).0)
    by None false e = refl
    by (Some y) b e = refl

-- ---- the last of some changes is one of them, and is of the name

abbrev IsOneOf : (P : TreeChange → Type 0) (d : ℕ) (x : Name) (c : RecordChange) → Type 0
IsOneOf P d x c = P (record_planned d c) × (is_eq (name_cmp x (changed_name c)) ≡ true)

last_is_one : (P : TreeChange → Type 0) (d : ℕ) (x : Name) (changes : List (ℕ × RecordChange)) (c : RecordChange) → AllByRecursion P (map planned_own changes) →
    last_own d x changes ≡ Some c → IsOneOf P d x c
last_is_one P d x [] c all is = absurd (none-some c is)
last_is_one P d x (y ∷ changes) c all is =
    by (last_own d x changes) refl (is_of d x y) refl (sym (last_cons d x y changes) ∙ is) (last_is_one P d x changes c all.1)
  where
    by : (o : Option RecordChange) → last_own d x changes ≡ o → (b : Bool) → is_of d x y ≡ b → option_or (last_own d x changes) (if_of d x y) ≡ Some c →
        (last_own d x changes ≡ Some c → IsOneOf P d x c) → IsOneOf P d x c
    by (Some z) e b f h rest = rest (e ∙ (sym (ap (λ (o : Option RecordChange). option_or o (if_of d x y)) e) ∙ h))
    by None e true f h rest =
        let same : y.1 ≡ c = same_Some y.1 c (sym (ap₂ (λ (o : Option RecordChange) (b : Bool). option_or o (cond b (Some y.1) None)) e f) ∙ h) in
        let parts = both_true (y.0 == d) (is_eq (name_cmp x (changed_name y.1))) f in
        subst (λ (z : RecordChange). IsOneOf P d x z) same (subst (λ (n : ℕ). P (record_planned n y.1)) (eqb-true y.0 d parts.0) all.0, parts.1)
    by None e false f h rest = absurd (none-some c (sym (ap₂ (λ (o : Option RecordChange) (b : Bool). option_or o (cond b (Some y.1) None)) e f) ∙ h))

-- ---- a name of changes, and another one

-- nobody else has a change of a name that was free
others_none : (d : ℕ) (x : Name) (txn : TxnId) (own : ℕ → List (ℕ × RecordChange)) (o : Option Write) → IsWriteOf d x own o → IsFreeFor txn o → (u : ℕ) → (u ≡ txn.0 → ⊥) → last_own d x (own u) ≡ None
others_none d x txn own None h free u apart = h u
others_none d x txn own (Some w) h free u apart = h.others u (λ e. apart (e ∙ ap (λ (t : TxnId). t.0) free))

writes : (txn : TxnId) (changes : List (ℕ × RecordChange)) (own : ℕ → List (ℕ × RecordChange)) (d : ℕ) (x : Name) (old new : Option Write) (last : Option RecordChange) →
    last_own d x changes ≡ last → IsWriteOf d x own old → IsWritten (option_map (record_planned d) last) txn old new →
    ((c : RecordChange) → last ≡ Some c → (u : ℕ) → (u ≡ txn.0 → ⊥) → last_own d x (own u) ≡ None) →
    IsWriteOf d x (own_with txn.0 (own txn.0 ++ changes) own) new
writes txn changes own d x old new None is h written free =
    subst (λ (w : Option Write). IsWriteOf d x (own_with txn.0 (own txn.0 ++ changes) own) w) (sym written)
    (writes_same d x own (own_with txn.0 (own txn.0 ++ changes) own) old
    (λ u. last_with d x txn.0 u (own txn.0 ++ changes) own (last_own d x (own u))
    (λ e. last_append d x (own txn.0) changes ∙ ap (λ (o : Option RecordChange). option_or o (last_own d x (own txn.0))) is ∙ sym (ap (λ (n : ℕ). last_own d x (own n)) e))
    (λ apart. refl)) h)
writes txn changes own d x old new (Some c) is h written free =
    subst (λ (w : Option Write). IsWriteOf d x (own_with txn.0 (own txn.0 ++ changes) own) w) (sym written.1) (record {
      change = c;
      last = ap (last_own d x) (own_here txn.0 (own txn.0 ++ changes) own)
          ∙ last_append d x (own txn.0) changes ∙ ap (λ (o : Option RecordChange). option_or o (last_own d x (own txn.0))) is;
      value = planned_value d c;
      others = λ u apart. last_with d x txn.0 u (own txn.0 ++ changes) own None (λ e. absurd (apart e)) (λ other. free c refl u other);
    })

pub writes-are_own : WritesAreOwn
writes-are_own txn changes own old new has free written d x =
    writes txn changes own d x (write_in (value_at x (old d))) (write_in (value_at x (new d))) (last_own d x changes) refl (has d x)
    (subst (λ (o : Option TreeChange). IsWritten o txn (write_in (value_at x (old d))) (write_in (value_at x (new d)))) (last_planned d x changes) (written.writes d x))
    (λ c is u apart. others_none d x txn own (write_in (value_at x (old d))) (has d x) (free_here c is) u apart)
  where
    free_here : (c : RecordChange) → last_own d x changes ≡ Some c → IsFreeFor txn (write_in (value_at x (old d)))
    free_here c is =
        let one = last_is_one (λ t. IsFreeFor txn (write_in (value_at t.name (old t.db)))) d x changes c free is in
        let name : (record_planned d c).name ≡ x = planned_name d c ∙ sym (name_exact x (changed_name c) (equal_from_test (name_cmp x (changed_name c)) one.1)) in
        subst (λ (m : Name). IsFreeFor txn (write_in (value_at m (old d)))) name
        (subst (λ (n : ℕ). IsFreeFor txn (write_in (value_at (record_planned d c).name (old n)))) (planned_db d c) one.0)
