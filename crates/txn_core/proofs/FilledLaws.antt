-- The store after an index was made and its pairs came into it.
use Rattle.std.proofs.Common.{◌≡◌, ℕ, List, [], ◌∷◌, ◌++◌, Bool, true, false, cond, Option, None, Some, map, filter, find, length, refl, ap, ap₂, sym, ◌∙◌, arith, length-append, is_lt, is_gt}
use Rattle.std.specs.List.{AllByRecursion}
use Rattle.std.proofs.lemmas.Bool.{cond-true, cond-false}
use Rattle.std.proofs.lemmas.Option.{none-some, same_Some}
use Rattle.std.proofs.lemmas.List.Sums.{sum_by-cons, sum_by-append}
use Rattle.je_order.specs.declared.name.Name.{Name}
use Rattle.je_order.specs.Order.{bytes_cmp, is_same_bytes}
use Rattle.je_order.proofs.Lists.{all_kept}
use Rattle.store_model.specs.declared.store.Store.{Store}
use Rattle.store_model.specs.declared.store.Database.{Database}
use Rattle.store_model.specs.declared.kind.Kind.TheVariants.{Dup}
use Rattle.store_model.specs.declared.totals.Totals.{Totals}
use Rattle.store_model.specs.declared.change.Change.{Change}
use Rattle.store_model.specs.declared.change.Change.TheVariants.{Set, MakeIndex}
use Rattle.store_model.specs.declared.index.Index.{Index}
use Rattle.store_model.specs.Store.{Pair, named, name_of, HasRisingNames, pairs_with, pairs_changed, all_pairs_changed, new_database, with_pairs, in_database, changed, all_changed}
use Rattle.store_model.proofs.StoreLaws.{names_nil}
use Rattle.store_model.proofs.Rows.{is_name, name_is, row, row_changed, all_rising, same_pairs}
use Rattle.txn_core.specs.Totals.{totals_of}
use Rattle.txn_core.specs.Fills.{pair_put, totals_with}

-- the pairs come into the index one after another
abbrev pub puts_in : List ℕ → List Pair → List Change
puts_in db ps = map (λ p. Set db (named p.0 p.1) []) ps

-- ---- rising pairs that come into an empty database are its pairs

found_is : {X : Type 0} (test : X → Bool) (xs : List X) (x : X) → find test xs ≡ Some x → test x ≡ true
found_is test [] x h = absurd (none-some x h)
found_is {X} test (y ∷ xs) x h = by (test y) refl (found_is test xs x) h
  where
    by : (b : Bool) → test y ≡ b → (find test xs ≡ Some x → test x ≡ true) → cond b (Some y) (find test xs) ≡ Some x → test x ≡ true
    by true e rest k = ap test (sym (same_Some y x k)) ∙ e
    by false e rest k = rest k

abbrev first_of : Option Pair → Option Pair → Option Pair
first_of None p = p
first_of (Some r) p = Some r

pair_is : (r s : Pair) → named r.0 r.1 ≡ named s.0 s.1 → r ≡ s
pair_is (a, b) (c, d) h = ap₂ (λ (x y : List ℕ). (x, y)) (ap (λ (m : Name). m.key) h) (ap (λ (m : Name). m.dup) h)

row_put : (n : Name) (ps xs : List Pair) → row Dup n (all_pairs_changed Dup (map pair_put ps) xs) ≡ first_of (row Dup n ps) (row Dup n xs)
row_put n [] xs = refl
row_put n (r ∷ ps) xs =
    row_put n ps (pairs_changed Dup (pair_put r) xs)
    ∙ (ap (first_of (row Dup n ps)) (row_changed Dup (pair_put r) n xs) ∙ by (is_name (named r.0 r.1) n) refl (row Dup n ps) refl)
  where
    by : (b : Bool) → is_name (named r.0 r.1) n ≡ b → (o : Option Pair) → row Dup n ps ≡ o → first_of o (cond b (Some (r.0, r.1)) (row Dup n xs)) ≡ first_of (cond b (Some r) o) (row Dup n xs)
    by false e None f = refl
    by false e (Some s) f = refl
    by true e None f = ap (λ (p : Pair). Some p) (pair_is (r.0, r.1) r refl)
    by true e (Some s) f =
        let k = found_is (λ (p : Pair). is_name (name_of Dup p) n) ps s f in
        ap (λ (p : Pair). Some p) (pair_is s r (name_is (named s.0 s.1) n k ∙ sym (name_is (named r.0 r.1) n e)))

all_put : (ps : List Pair) → HasRisingNames Dup ps → all_pairs_changed Dup (map pair_put ps) [] ≡ ps
all_put ps up = same_pairs Dup (all_pairs_changed Dup (map pair_put ps) []) ps (all_rising Dup (map pair_put ps) [] (names_nil Dup)) up (λ n. row_put n ps [] ∙ first_none (row Dup n ps))
  where
    first_none : (o : Option Pair) → first_of o None ≡ o
    first_none None = refl
    first_none (Some r) = refl

-- ---- the other databases are left

abbrev make_store : List Database → Store
make_store ds = record { databases = ds }

-- the index with some of its pairs
abbrev index_with : List ℕ → Index → List Pair → Database
index_with db index xs = with_pairs (new_database db Dup (Some index)) xs

abbrev IsOther : List ℕ → Database → Type 0
IsOther db d = is_same_bytes d.name db ≡ false

in_none : (db : List ℕ) (change : Database → Database) (ds : List Database) → AllByRecursion (IsOther db) ds → in_database db change ds ≡ ds
in_none db change [] others = refl
in_none db change (d ∷ ds) others = ap₂ (λ (x : Database) (l : List Database). x ∷ l) (cond-false (is_same_bytes d.name db) (change d) d others.0) (in_none db change ds others.1)

in_only : (db : List ℕ) (change : Database → Database) (lower higher : List Database) (d : Database) → is_same_bytes d.name db ≡ true → AllByRecursion (IsOther db) lower →
    AllByRecursion (IsOther db) higher → in_database db change (lower ++ d ∷ higher) ≡ lower ++ change d ∷ higher
in_only db change [] higher d is below above =
    ap₂ (λ (x : Database) (l : List Database). x ∷ l) (cond-true (is_same_bytes d.name db) (change d) d is) (in_none db change higher above)
in_only db change (e ∷ lower) higher d is below above =
    ap₂ (λ (x : Database) (l : List Database). x ∷ l) (cond-false (is_same_bytes e.name db) (change e) e below.0) (in_only db change lower higher d is below.1 above)

puts_stored : (db : List ℕ) (index : Index) (lower higher : List Database) → is_same_bytes db db ≡ true → AllByRecursion (IsOther db) lower → AllByRecursion (IsOther db) higher → (ps xs : List Pair) →
    all_changed (puts_in db ps) (make_store (lower ++ index_with db index xs ∷ higher)) ≡ make_store (lower ++ index_with db index (all_pairs_changed Dup (map pair_put ps) xs) ∷ higher)
puts_stored db index lower higher itself below above [] xs = refl
puts_stored db index lower higher itself below above (p ∷ ps) xs =
    ap (λ (ds : List Database). all_changed (puts_in db ps) (make_store ds))
    (in_only db (λ d. with_pairs d (pairs_with d.kind (named p.0 p.1) [] d.pairs)) lower higher (index_with db index xs) itself below above)
    ∙ puts_stored db index lower higher itself below above ps (pairs_with Dup (named p.0 p.1) [] xs)

-- ---- totals

abbrev make_totals : ℕ → ℕ → Totals
make_totals databases records = record { databases = databases; records = records }

abbrev records_of : Database → ℕ
records_of d = length d.pairs

more_totals : (db : List ℕ) (index : Index) (lower higher : List Database) (ps : List Pair) →
    totals_with (totals_of (make_store (lower ++ index_with db index [] ∷ higher))) (length ps) ≡ totals_of (make_store (lower ++ index_with db index ps ∷ higher))
more_totals db index lower higher ps =
    let empty : Database = index_with db index [] in
    let full : Database = index_with db index ps in
    let old = length-append lower (empty ∷ higher) in
    let new = length-append lower (full ∷ higher) in
    let old_all = sum_by-append records_of lower (empty ∷ higher) in
    let old_one = sum_by-cons records_of empty higher in
    let new_all = sum_by-append records_of lower (full ∷ higher) in
    let new_one = sum_by-cons records_of full higher in
    ap₂ make_totals (omega (arith, old, new)) (omega (arith, old_all, old_one, new_all, new_one))

-- how much the store holds once the pairs are there
pub filled_totals : (db : List ℕ) (index : Index) (store : Store) (ps : List Pair) → is_same_bytes db db ≡ true → AllByRecursion (IsOther db) store.databases → HasRisingNames Dup ps →
    totals_with (totals_of (changed (MakeIndex db index) store)) (length ps) ≡ totals_of (all_changed (MakeIndex db index ∷ puts_in db ps) store)
filled_totals db index store ps itself others up =
    let lower : List Database = filter (λ d. is_lt (bytes_cmp d.name db)) store.databases in
    let higher : List Database = filter (λ d. is_gt (bytes_cmp d.name db)) store.databases in
    let below = all_kept (IsOther db) (λ d. is_lt (bytes_cmp d.name db)) store.databases others in
    let above = all_kept (IsOther db) (λ d. is_gt (bytes_cmp d.name db)) store.databases others in
    more_totals db index lower higher ps
    ∙ sym (ap totals_of (puts_stored db index lower higher itself below above ps []
    ∙ ap (λ (l : List Pair). make_store (lower ++ index_with db index l ∷ higher)) (all_put ps up)))
