-- What transactions wrote, after a change of the map.
use Rattle.std.proofs.Common.{◌≡◌, ◌≤◌, ◌<◌, ◌+◌, ◌^◌, ℕ, Bool, true, cond, List, [], ◌∷◌, ◌++◌, None, Some, Option, Result, Ok, Err, OnOk, refl, sym, ap, ap₂, ◌∙◌, subst, ⊎_elim, length}
use Rattle.std.specs.Prelude.{vec_capacity}
use Rattle.std.specs.Option.{option_map_or}
use Rattle.std.proofs.lemmas.Bool.{cases_Bool}
use Rattle.je_order.specs.declared.txn_id.TxnId.{TxnId}
use Rattle.je_order.specs.Transactions.{is_same_txn}
use Rattle.je_order.proofs.TxnIds.{same_is, same_itself}
use Rattle.lock_table.specs.Table.{at_txn}
use Rattle.lock_table.proofs.RecordLists.{IsChangedAt, changed_here, changed_there}
use Rattle.record_tree.specs.declared.tree_name.TreeName.{TreeName}
use Rattle.environment.specs.declared.written.OwnNames.{OwnNames}
use Rattle.environment.specs.Written.{HasRoomAt, had_at, names_at, first_at, first_for, first_noted}

abbrev pub Entries : Type 0
Entries = List (TxnId × OwnNames)

abbrev names_in : Option OwnNames → List TreeName
names_in o = option_map_or (λ (x : OwnNames). x.names.items) o []

abbrev had_in : Option OwnNames → ℕ
had_in o = option_map_or (λ (x : OwnNames). x.had) o 0

abbrev first_of : Option OwnNames → ℕ
first_of o = option_map_or (λ (x : OwnNames). first_noted x.names.items x.first) o 0

-- one transaction's entry is another one, with the names and the count that it had
pub names_stay : (old new : Entries) (u : TxnId) (o : Option OwnNames) (w : OwnNames) → o ≡ at_txn u old → IsChangedAt old new u (Some w) → w.names.items ≡ names_in o → (t : TxnId) → names_at t new ≡ names_at t old
names_stay old new u o w has c is t = ⊎_elim
    (λ h. ap names_in (changed_here old new u (Some w) c t h) ∙ (is ∙ ap names_in (subst (λ (x : TxnId). o ≡ at_txn x old) (same_is u t h) has)))
    (λ h. ap names_in (changed_there old new u (Some w) c t h))
    (cases_Bool (is_same_txn u t))

pub had_stays : (old new : Entries) (u : TxnId) (o : Option OwnNames) (w : OwnNames) → o ≡ at_txn u old → IsChangedAt old new u (Some w) → w.had ≡ had_in o → (t : TxnId) → had_at t new ≡ had_at t old
had_stays old new u o w has c is t = ⊎_elim
    (λ h. ap had_in (changed_here old new u (Some w) c t h) ∙ (is ∙ ap had_in (subst (λ (x : TxnId). o ≡ at_txn x old) (same_is u t h) has)))
    (λ h. ap had_in (changed_there old new u (Some w) c t h))
    (cases_Bool (is_same_txn u t))

-- and with its first LSN
pub firsts_stay : (old new : Entries) (u : TxnId) (was w : OwnNames) → Some was ≡ at_txn u old → IsChangedAt old new u (Some w) → w.names.items ≡ was.names.items → w.first ≡ was.first →
    (t : TxnId) → first_at t new ≡ first_at t old
firsts_stay old new u was w has c names is t = ⊎_elim
    (λ h. ap first_of (changed_here old new u (Some w) c t h) ∙ ap₂ (λ (l : List TreeName) (n : ℕ). first_noted l n) names is
    ∙ ap first_of (subst (λ (x : TxnId). Some was ≡ at_txn x old) (same_is u t h) has))
    (λ h. ap first_of (changed_there old new u (Some w) c t h))
    (cases_Bool (is_same_txn u t))

pub firsts_same : (old new : Entries) (u : TxnId) (was : OwnNames) → Some was ≡ at_txn u old → IsChangedAt old new u (Some was) → (t : TxnId) → first_at t new ≡ first_at t old
firsts_same old new u was has c t = ⊎_elim
    (λ h. ap first_of (changed_here old new u (Some was) c t h) ∙ ap first_of (subst (λ (x : TxnId). Some was ≡ at_txn x old) (same_is u t h) has))
    (λ h. ap first_of (changed_there old new u (Some was) c t h))
    (cases_Bool (is_same_txn u t))

-- an entry more, without names
pub firsts_made : (old new : Entries) (u : TxnId) (w : OwnNames) → None ≡ at_txn u old → IsChangedAt old new u (Some w) → w.names.items ≡ [] → (t : TxnId) → first_at t new ≡ first_at t old
firsts_made old new u w has c none t = ⊎_elim
    (λ h. ap first_of (changed_here old new u (Some w) c t h) ∙ ap (λ (l : List TreeName). first_noted l w.first) none ∙ ap first_of (subst (λ (x : TxnId). None ≡ at_txn x old) (same_is u t h) has))
    (λ h. ap first_of (changed_there old new u (Some w) c t h))
    (cases_Bool (is_same_txn u t))

-- and one less
pub firsts_less : (old new : Entries) (u : TxnId) → IsChangedAt old new u None → (t : TxnId) → first_at t new ≡ cond (is_same_txn u t) 0 (first_at t old)
firsts_less old new u c t = ⊎_elim
    (λ h. ap first_of (changed_here old new u None c t h) ∙ sym (ap (λ (b : Bool). cond b 0 (first_at t old)) h))
    (λ h. ap first_of (changed_there old new u None c t h) ∙ sym (ap (λ (b : Bool). cond b 0 (first_at t old)) h))
    (cases_Bool (is_same_txn u t))

-- names at the end of those that were there
first_more : (had more : List TreeName) (own first : ℕ) → first_noted (had ++ more) (first_for had own first) ≡ first_noted (had ++ more) (first_for had (first_noted had own) first)
first_more [] more own first = refl
first_more (n ∷ had) more own first = refl

pub firsts_more : (old new : Entries) (u : TxnId) (was w : OwnNames) (first : ℕ) (more : List TreeName) → Some was ≡ at_txn u old → IsChangedAt old new u (Some w) → w.names.items ≡ was.names.items ++ more →
    w.first ≡ first_for was.names.items was.first first →
    (t : TxnId) → first_at t new ≡ cond (is_same_txn u t) (first_noted (names_at u old ++ more) (first_for (names_at u old) (first_at u old) first)) (first_at t old)
firsts_more old new u was w first more has c names is t = ⊎_elim
    (λ h. here h ∙ sym (ap (λ (b : Bool). cond b (first_noted (names_at u old ++ more) (first_for (names_at u old) (first_at u old) first)) (first_at t old)) h))
    (λ h. ap first_of (changed_there old new u (Some w) c t h)
    ∙ sym (ap (λ (b : Bool). cond b (first_noted (names_at u old ++ more) (first_for (names_at u old) (first_at u old) first)) (first_at t old)) h))
    (cases_Bool (is_same_txn u t))
  where
    here : is_same_txn u t ≡ true → first_at t new ≡ first_noted (names_at u old ++ more) (first_for (names_at u old) (first_at u old) first)
    here h =
        ap first_of (changed_here old new u (Some w) c t h) ∙ ap₂ (λ (l : List TreeName) (n : ℕ). first_noted l n) names is ∙ first_more was.names.items more was.first first
        ∙ ap (λ (o : Option OwnNames). first_noted (names_in o ++ more) (first_for (names_in o) (first_of o) first)) has

-- the entry that is there has the room
pub has_room : (old new : Entries) (u : TxnId) (w : OwnNames) (count had : ℕ) → IsChangedAt old new u (Some w) → length w.names.items + count ≤ vec_capacity w.names → w.had + had < 2 ^ 64 → HasRoomAt u count had new
has_room old new u w count had c room fits = record { own = w; its = changed_here old new u (Some w) c u (same_itself u); room = room; fits = fits }

pub on_ok : {T E : Type 0} {A B : Type 0} → (r : Result T E) → OnOk r A → (A → B) → OnOk r B
on_ok (Ok t) a f = f a
on_ok (Err e) a f = tt
