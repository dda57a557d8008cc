-- What trees fit while a log is read again.
use Rattle.std.proofs.Common.{◌≡◌, ◌<◌, ◌==◌, ℕ, Bool, true, false, cond, List, [], ◌∷◌, ◌++◌, None, Some, Result, Ok, Err, OnOk, refl, ap, sym, subst, is_eq}
use Rattle.std.specs.Prelude.{◌&&◌}
use Rattle.std.proofs.lemmas.Bool.{and_from, eq-eqb}
use Rattle.std.specs.List.{AllByRecursion}
use Rattle.je_order.proofs.Lists.{all_append}
use Rattle.je_order.specs.Order.{name_cmp}
use Rattle.je_order.specs.declared.name.Name.{Name}
use Rattle.je_order.specs.declared.txn_id.TxnId.{TxnId}
use Rattle.node_core.proofs.NameOrder.{itself}
use Rattle.log_entry.specs.declared.entry.Entry.TheVariants.{Put, Delete, Migrated}
use Rattle.log_trees.specs.Placed.{Placed}
use Rattle.log_trees.specs.Changes.{LoggedChange}
use Rattle.log_meaning.specs.Redo.{pushed, emptied, set_at, unset_at}
use Rattle.recovery_je.specs.Putting.{IsLogged, IsIn, FitsRedo, first_lsn}
use Rattle.recovery_je.specs.Redoing.{waits}

-- what holds so far, and of those that are left; where some are left, something more
pub record AreLeft {A : Type 0} (Fit : Type 0) (Q Some_ : A → Type 0) (left : List A) : Type 0 where
  pub fit : Fit
  pub all : AllByRecursion (λ x. Q x × Some_ x) left

all_with : {A : Type 0} (Q R : A → Type 0) (xs : List A) → AllByRecursion Q xs → ((x : A) → R x) → AllByRecursion (λ x. Q x × R x) xs
all_with Q R [] all each = tt
all_with Q R (x ∷ xs) all each = ((all.0, each x), all_with Q R xs all.1 each)

pub entries_begin : {A : Type 0} (Q : A → Type 0) (all left : List A) → left ≡ all → (Fit : Type 0) → AllByRecursion Q all → Fit → AreLeft Fit Q (λ x. Unit {0}) left
entries_begin Q all left is Fit each fit = record { fit = fit; all = subst (AllByRecursion (λ x. Q x × Unit {0})) (sym is) (all_with Q (λ x. Unit {0}) all each (λ x. tt)) }

pub changes_begin : (es : List Placed) (base : ℕ) (all left : List LoggedChange) (first : ℕ) → left ≡ all → first ≡ first_lsn all → (Fit : Type 0) → AllByRecursion (IsLogged es base) all → Fit →
    AreLeft Fit (IsLogged es base) (λ (c : LoggedChange). first < base) left
changes_begin es base all left first is first_is Fit each fit = record { fit = fit; all = subst (AllByRecursion (λ (c : LoggedChange). IsLogged es base c × (first < base))) (sym is) (by_list all first_is each) }
  where
    by_list : (cs : List LoggedChange) → first ≡ first_lsn cs → AllByRecursion (IsLogged es base) cs → AllByRecursion (λ (c : LoggedChange). IsLogged es base c × (first < base)) cs
    by_list [] at logged = tt
    by_list (c ∷ cs) at logged = all_with (IsLogged es base) (λ (k : LoggedChange). first < base) (c ∷ cs) logged (λ k. subst (λ (n : ℕ). n < base) (sym at) logged.0.0)

pub changes_more : {A : Type 0} (Fit Next : Type 0) (Q R : A → Type 0) (left rest : List A) (x : A) → left ≡ x ∷ rest → (R x → Q x → Fit → Next) → AreLeft Fit Q R left → AreLeft Next Q R rest
changes_more Fit Next Q R left rest x is step so_far =
    let all = subst (AllByRecursion (λ y. Q y × R y)) is so_far.all in
    record { fit = step all.0.1 all.0.0 so_far.fit; all = all.1 }

all_parts : {A : Type 0} (Q R : A → Type 0) (part rest : List A) → AllByRecursion (λ x. Q x × R x) (part ++ rest) → AllByRecursion Q part × AllByRecursion (λ x. Q x × R x) rest
all_parts Q R [] rest all = (tt, all)
all_parts Q R (x ∷ part) rest all = let more = all_parts Q R part rest all.1 in ((all.0.0, more.0), more.1)

pub part_more : {A : Type 0} (Fit Next : Type 0) (Q R : A → Type 0) (left rest part : List A) → left ≡ part ++ rest → (AllByRecursion Q part → Fit → Next) → AreLeft Fit Q R left → AreLeft Next Q R rest
part_more Fit Next Q R left rest part is step so_far =
    let parts = all_parts Q R part rest (subst (AllByRecursion (λ y. Q y × R y)) is so_far.all) in
    record { fit = step parts.0 so_far.fit; all = parts.1 }

-- ---- one entry

data_here : (db : ℕ) (name : Name) (value : List ℕ) → cond ((db == db) && is_eq (name_cmp name name)) (Some value) None ≡ Some value
data_here db name value = ap (λ (t : Bool). cond t (Some value) None) (and_from (db == db) (is_eq (name_cmp name name)) (eq-eqb db db refl) (ap is_eq (itself name)))

pub logged_put : (es : List Placed) (base at : ℕ) (txn : TxnId) (db : ℕ) (name : Name) (value : List ℕ) → IsIn es base (at, Put txn db name value) → IsLogged es base (set_at at db name value)
logged_put es base at txn db name value is = (is.0, (Put txn db name value, is.1, data_here db name value))

pub logged_migrated : (es : List Placed) (base at db : ℕ) (name : Name) (value : List ℕ) → IsIn es base (at, Migrated db name value) → IsLogged es base (set_at at db name value)
logged_migrated es base at db name value is = (is.0, (Migrated db name value, is.1, data_here db name value))

pub logged_delete : (es : List Placed) (base at : ℕ) (txn : TxnId) (db : ℕ) (name : Name) → IsIn es base (at, Delete txn db name) → IsLogged es base (unset_at at db name)
logged_delete es base at txn db name is = (is.0, tt)

module _ {T : Type 0} (fits : T → List Placed → ℕ → Type 0) (es : List Placed) (base : ℕ) where
  -- one more change waits
  pub fits_put : (trees : T) (old new : List (ℕ × List LoggedChange)) (txn : ℕ) (change : LoggedChange) → ((t : ℕ) → waits new t ≡ pushed txn change (waits old) t) → IsLogged es base change →
      FitsRedo fits es base trees old → FitsRedo fits es base trees new
  fits_put trees old new txn change more is before = record {
    fit = before.fit;
    logged = λ t. subst (AllByRecursion (IsLogged es base)) (sym (more t)) (by_test (waits old t) (txn == t) (before.logged t));
  }
    where
      by_test : (l : List LoggedChange) (b : Bool) → AllByRecursion (IsLogged es base) l → AllByRecursion (IsLogged es base) (cond b (l ++ change ∷ []) l)
      by_test l true all = all_append (IsLogged es base) l (change ∷ []) all (is, tt)
      by_test l false all = all

  -- the changes of a transaction are made
  pub fits_made : {X Y : Type 0} (r : Result X Y) (before after : T) (old new : List (ℕ × List LoggedChange)) (txn : ℕ) (changes : List LoggedChange) → changes ≡ waits old txn →
      ((t : ℕ) → waits new t ≡ emptied txn (waits old) t) → (AllByRecursion (IsLogged es base) changes → fits before es base → OnOk r (fits after es base)) →
      FitsRedo fits es base before old → OnOk r (FitsRedo fits es base after new)
  fits_made r before after old new txn changes taken left made at =
      by_result r (made (subst (AllByRecursion (IsLogged es base)) (sym taken) (at.logged txn)) at.fit)
    where
      by_test : (l : List LoggedChange) (b : Bool) → AllByRecursion (IsLogged es base) l → AllByRecursion (IsLogged es base) (cond b [] l)
      by_test l true all = tt
      by_test l false all = all

      by_result : {X Y : Type 0} (r : Result X Y) → OnOk r (fits after es base) → OnOk r (FitsRedo fits es base after new)
      by_result (Err e) h = tt
      by_result (Ok v) h = record { fit = h; logged = λ t. subst (AllByRecursion (IsLogged es base)) (sym (left t)) (by_test (waits old t) (txn == t) (at.logged t)) }

  -- one change is made, and the same ones wait
  pub fits_one : {X Y : Type 0} (r : Result X Y) (before after : T) (kept : List (ℕ × List LoggedChange)) → (fits before es base → OnOk r (fits after es base)) → FitsRedo fits es base before kept → OnOk r (FitsRedo fits es base after kept)
  fits_one (Err e) before after kept made at = tt
  fits_one (Ok v) before after kept made at = record { fit = made at.fit; logged = at.logged }
