-- Every change leaves a right store right.
use Rattle.std.proofs.Common.{◌≡◌, ℕ, List, [], ◌∷◌, ◌++◌, Bool, true, false, cond, not, Option, None, Some, map, filter, find, refl, ap, ap₂, ◌∙◌, subst, Ordering, Less, Greater, is_lt, is_gt, is_eq}
use Rattle.std.specs.List.{AllByRecursion}
use Rattle.std.specs.List.Sorted.{IsStrictlySortedBy}
use Rattle.std.specs.Ordering.{ordering_reverse, on}
use Rattle.std.specs.Cmp.{IsTotalOrder}
use Rattle.std.proofs.lemmas.Cmp.{nat_list_cmp_total, on_total, then_total}
use Rattle.std.proofs.lemmas.Option.{none-some, same_Some}
use Rattle.std.proofs.lemmas.List.Kept.{IsStrictlySortedBy-filter}
use Rattle.je_order.specs.Order.{bytes_cmp, name_cmp, is_same_bytes}
use Rattle.je_order.specs.declared.name.Name.{Name}
use Rattle.store_model.specs.declared.store.Store.{Store}
use Rattle.store_model.specs.declared.store.Database.{Database}
use Rattle.store_model.specs.declared.kind.Kind.{Kind}
use Rattle.store_model.specs.declared.kind.Kind.TheVariants.{Plain, Dup}
use Rattle.store_model.specs.declared.change.Change.{Change}
use Rattle.store_model.specs.declared.change.Change.TheVariants.{Set, Unset, Make, MakeIndex, Remove, Rename, Empty}
use Rattle.store_model.specs.Store.{all_changed, store_after, no_databases, Pair, name_of, proper, pair_for, HasRisingNames, IsStore, database_of, pairs_with, pairs_without, with_pairs, with_name, with_primary, new_database, in_database, databases_with, databases_without, databases_renamed, changed}
use Rattle.je_order.proofs.Lists.{all_weaker, all_append, all_kept, filter_all_pass}
use Rattle.je_order.proofs.Orderings.{less_from_test, greater_from_test}

-- ---- each element

found_if : {X : Type 0} (P : X → Type 0) (b : Bool) (y x : X) (rest : Option X) → cond b (Some y) rest ≡ Some x → P y → (rest ≡ Some x → P x) → P x
found_if P true y x rest h here more = subst P (same_Some y x h) here
found_if P false y x rest h here more = more h

-- what holds of each element holds of the one that is found
pub found : {X : Type 0} (P : X → Type 0) (p : X → Bool) (xs : List X) (x : X) → find p xs ≡ Some x → AllByRecursion P xs → P x
found P p [] x h all = absurd (none-some x h)
found P p (y ∷ ys) x h all = found_if P (p y) y x (find p ys) h all.0 (λ e. found P p ys x e all.1)

-- ---- byte order

bytes_total : IsTotalOrder bytes_cmp
bytes_total = nat_list_cmp_total

-- ---- elements that rise by a key

-- an element between lower and higher ones
between : {X K : Type 0} (cmp : K → K → Ordering) (total : IsTotalOrder cmp) (key : X → K) (lower higher : List X) (x : X) →
    IsStrictlySortedBy (on key cmp) lower → IsStrictlySortedBy (on key cmp) higher →
    AllByRecursion (λ y. cmp (key y) (key x) ≡ Less) lower → AllByRecursion (λ y. cmp (key x) (key y) ≡ Less) higher →
    IsStrictlySortedBy (on key cmp) (lower ++ x ∷ higher)
unfolding IsStrictlySortedBy
between cmp total key [] higher x up_low up_high below above = (above, up_high)
between {X} cmp total key (y ∷ lower) higher x up_low up_high below above =
    let P : X → Type 0 = λ z. cmp (key y) (key z) ≡ Less in (
      all_append P lower (x ∷ higher) up_low.0
          (below.0, all_weaker (λ (z : X). cmp (key x) (key z) ≡ Less) P (λ z e. total.trans (key y) (key x) (key z) below.0 e) higher above),
      between cmp total key lower higher x up_low.1 up_high below.1 above,
    )

flipped : {K : Type 0} (cmp : K → K → Ordering) (total : IsTotalOrder cmp) (a b : K) → cmp a b ≡ Greater → cmp b a ≡ Less
flipped cmp total a b h = total.antisymm b a ∙ ap ordering_reverse h

-- an element of this key put between those below it and those above it
put_between : {X K : Type 0} (cmp : K → K → Ordering) (total : IsTotalOrder cmp) (key : X → K) (k : K) (x : X) → key x ≡ k → (xs : List X) → IsStrictlySortedBy (on key cmp) xs →
    IsStrictlySortedBy (on key cmp) (filter (λ y. is_lt (cmp (key y) k)) xs ++ x ∷ filter (λ y. is_gt (cmp (key y) k)) xs)
put_between {X} {K} cmp total key k x is xs up =
    let low : X → Bool = λ y. is_lt (cmp (key y) k) in
    let high : X → Bool = λ y. is_gt (cmp (key y) k) in
    between cmp total key (filter low xs) (filter high xs) x
    (IsStrictlySortedBy-filter (on key cmp) low xs up)
    (IsStrictlySortedBy-filter (on key cmp) high xs up)
    (all_weaker (λ (y : X). low y ≡ true) (λ y. cmp (key y) (key x) ≡ Less)
    (λ y e. ap (cmp (key y)) is ∙ less_from_test (cmp (key y) k) e) (filter low xs) (filter_all_pass low xs))
    (all_weaker (λ (y : X). high y ≡ true) (λ y. cmp (key x) (key y) ≡ Less)
    (λ y e. ap (λ (n : K). cmp n (key y)) is ∙ flipped cmp total (key y) k (greater_from_test (cmp (key y) k) e)) (filter high xs) (filter_all_pass high xs))

-- ---- records

pub names_total : IsTotalOrder name_cmp
names_total = then_total (on_total (λ (n : Name). n.key) nat_list_cmp_total) (on_total (λ (n : Name). n.dup) nat_list_cmp_total)

pub names_nil : (kind : Kind) → HasRisingNames kind []
unfolding IsStrictlySortedBy
names_nil kind = tt

-- the record that is set has the name that it is set for
pub name_of-pair_for : (kind : Kind) (at : Name) (value : List ℕ) → name_of kind (pair_for kind at value) ≡ proper kind at
name_of-pair_for Plain at value = refl
name_of-pair_for Dup at value = refl

pub names_set : (kind : Kind) (at : Name) (value : List ℕ) (pairs : List Pair) → HasRisingNames kind pairs → HasRisingNames kind (pairs_with kind at value pairs)
names_set kind at value pairs up =
    put_between name_cmp names_total (name_of kind) (proper kind at) (pair_for kind at value) (name_of-pair_for kind at value) pairs up

pub names_unset : (kind : Kind) (at : Name) (pairs : List Pair) → HasRisingNames kind pairs → HasRisingNames kind (pairs_without kind at pairs)
names_unset kind at pairs up = IsStrictlySortedBy-filter (on (name_of kind) name_cmp) (λ p. not (is_eq (name_cmp (name_of kind p) (proper kind at)))) pairs up

-- ---- databases

-- the records of a database rise
abbrev AreRising : Database → Type 0
AreRising d = HasRisingNames d.kind d.pairs

name_same : (b : Bool) (d : Database) (pairs : List Pair) → (cond b (with_pairs d pairs) d).name ≡ d.name
name_same true d pairs = refl
name_same false d pairs = refl

records_either : (b : Bool) (d : Database) (pairs : List Pair) → HasRisingNames d.kind pairs → HasRisingNames d.kind d.pairs → AreRising (cond b (with_pairs d pairs) d)
records_either true d pairs new old = new
records_either false d pairs new old = old

less_along : (c : Database → Database) → ((d : Database) → (c d).name ≡ d.name) → (d : Database) (ds : List Database) →
    AllByRecursion (λ e. bytes_cmp d.name e.name ≡ Less) ds → AllByRecursion (λ e. bytes_cmp (c d).name e.name ≡ Less) (map c ds)
less_along c same d [] h = tt
less_along c same d (e ∷ ds) h = (ap₂ bytes_cmp (same d) (same e) ∙ h.0, less_along c same d ds h.1)

names_along : (c : Database → Database) → ((d : Database) → (c d).name ≡ d.name) → (ds : List Database) →
    IsStrictlySortedBy (on (λ (d : Database). d.name) bytes_cmp) ds → IsStrictlySortedBy (on (λ (d : Database). d.name) bytes_cmp) (map c ds)
unfolding IsStrictlySortedBy
names_along c same [] up = tt
names_along c same (d ∷ ds) up = (less_along c same d ds up.0, names_along c same ds up.1)

records_along : (c : Database → Database) → ((d : Database) → AreRising d → AreRising (c d)) → (ds : List Database) → AllByRecursion AreRising ds → AllByRecursion AreRising (map c ds)
records_along c step [] h = tt
records_along c step (d ∷ ds) h = (step d h.0, records_along c step ds h.1)

-- one database with other records
in_database_right : (db : List ℕ) (pairs : Database → List Pair) → ((d : Database) → AreRising d → HasRisingNames d.kind (pairs d)) →
    (store : Store) → IsStore store → IsStore (record { databases = in_database db (λ d. with_pairs d (pairs d)) store.databases })
in_database_right db pairs step store right =
    let c : Database → Database = λ d. cond (is_same_bytes d.name db) (with_pairs d (pairs d)) d in
    record {
      names = names_along c (λ d. name_same (is_same_bytes d.name db) d (pairs d)) store.databases right.names;
      records = records_along c (λ d up. records_either (is_same_bytes d.name db) d (pairs d) (step d up) up) store.databases right.records;
    }

-- one database more
with_database_right : (new : Database) (databases : List Database) → AreRising new → IsStore (record { databases = databases }) →
    IsStore (record { databases = databases_with new databases })
with_database_right new databases rising right =
    let low : Database → Bool = λ d. is_lt (bytes_cmp d.name new.name) in
    let high : Database → Bool = λ d. is_gt (bytes_cmp d.name new.name) in
    record {
      names = put_between bytes_cmp bytes_total (λ (d : Database). d.name) new.name new refl databases right.names;
      records = all_append AreRising (filter low databases) (new ∷ filter high databases) (all_kept AreRising low databases right.records) (rising, all_kept AreRising high databases right.records);
    }

-- one database less
without_database_right : (name : List ℕ) (databases : List Database) → IsStore (record { databases = databases }) → IsStore (record { databases = databases_without name databases })
without_database_right name databases right =
    let other : Database → Bool = λ d. not (is_same_bytes d.name name) in
    record {
      names = IsStrictlySortedBy-filter (on (λ (d : Database). d.name) bytes_cmp) other databases right.names;
      records = all_kept AreRising other databases right.records;
    }

-- one database under another name
renamed_right : (o : Option Database) (to : List ℕ) (databases : List Database) → ((d : Database) → o ≡ Some d → AreRising d) →
    IsStore (record { databases = databases }) → IsStore (record { databases = databases_renamed o to databases })
renamed_right None to databases rising right = right
renamed_right (Some d) to databases rising right =
    let c : Database → Database = with_primary d.name to in
    let rest : List Database = databases_with (with_name d to) (databases_without d.name databases) in
    let known : IsStore (record { databases = rest }) =
    with_database_right (with_name d to) (databases_without d.name databases) (rising d refl) (without_database_right d.name databases right) in
    record {
      names = names_along c (λ e. refl) rest known.names;
      records = records_along c (λ e up. up) rest known.records;
    }

-- ---- stores

pub new_is_right : IsStore no_databases
unfolding IsStrictlySortedBy
new_is_right = record { names = tt; records = tt }

pub changed_is_right : (change : Change) (store : Store) → IsStore store → IsStore (changed change store)
changed_is_right (Set db at value) store right =
    in_database_right db (λ d. pairs_with d.kind at value d.pairs) (λ d up. names_set d.kind at value d.pairs up) store right
changed_is_right (Unset db at) store right = in_database_right db (λ d. pairs_without d.kind at d.pairs) (λ d up. names_unset d.kind at d.pairs up) store right
changed_is_right (Make db kind) store right =
    with_database_right (new_database db kind None) store.databases (names_nil kind) (record { names = right.names; records = right.records })
changed_is_right (MakeIndex db index) store right =
    with_database_right (new_database db Dup (Some index)) store.databases (names_nil Dup) (record { names = right.names; records = right.records })
changed_is_right (Remove db) store right = without_database_right db store.databases (record { names = right.names; records = right.records })
changed_is_right (Rename db to) store right =
    renamed_right (database_of db store) to store.databases (λ d e. found AreRising (λ x. is_same_bytes x.name db) store.databases d e right.records)
    (record { names = right.names; records = right.records })
changed_is_right (Empty db) store right = in_database_right db (λ d. []) (λ d up. names_nil d.kind) store right

-- the store after transactions, and after more of them
pub store_after-append : (base : Store) (before after : List (List Change)) →
    store_after base (before ++ after) ≡ store_after (store_after base before) after
store_after-append base [] after = refl
store_after-append base (changes ∷ before) after = store_after-append (all_changed changes base) before after
