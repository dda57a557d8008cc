-- A store without indexes: what it keeps, and what is found in it.
use Rattle.std.proofs.Common.{◌≡◌, ℕ, List, [], ◌∷◌, Bool, true, false, cond, not, Option, None, Some, map, filter, refl, ap, ap₂, sym, ◌∙◌, is_lt, is_gt}
use Rattle.std.specs.Prelude.{option_map}
use Rattle.std.specs.List.{AllByRecursion, list_any}
use Rattle.std.specs.Option.{option_map_or}
use Rattle.je_order.specs.Order.{bytes_cmp, is_same_bytes}
use Rattle.store_model.specs.declared.store.Store.{Store}
use Rattle.store_model.specs.declared.store.Database.{Database}
use Rattle.store_model.specs.declared.index.Index.{Index}
use Rattle.store_model.specs.declared.change.Change.{Change}
use Rattle.store_model.specs.declared.change.Change.TheVariants.{Set, Unset, Make, MakeIndex, Remove, Rename, Empty}
use Rattle.store_model.specs.Store.{Pair, database_of, pairs_with, pairs_without, with_pairs, with_name, with_primary, index_renamed, new_database, databases_with, databases_without, databases_renamed, changed, all_changed, store_after}
use Rattle.store_model.specs.Indexes.{HasNoIndex, MakesNoIndex, by_number, is_index_of, indexes_of, primary_of}
use Rattle.je_order.proofs.Lists.{all_append, all_kept, all_weaker, each_none}
use Rattle.store_model.proofs.StoreLaws.{found}

abbrev IsNoIndex : Database → Type 0
IsNoIndex d = d.index ≡ None

-- ---- what it keeps

either : (b : Bool) (d e : Database) → IsNoIndex d → IsNoIndex e → IsNoIndex (cond b d e)
either true d e first second = first
either false d e first second = second

along : (c : Database → Database) → ((d : Database) → IsNoIndex d → IsNoIndex (c d)) → (ds : List Database) → AllByRecursion IsNoIndex ds → AllByRecursion IsNoIndex (map c ds)
along c step [] h = tt
along c step (d ∷ ds) h = (step d h.0, along c step ds h.1)

in_one : (db : List ℕ) (pairs : Database → List Pair) (ds : List Database) → AllByRecursion IsNoIndex ds →
    AllByRecursion IsNoIndex (map (λ d. cond (is_same_bytes d.name db) (with_pairs d (pairs d)) d) ds)
in_one db pairs = along (λ d. cond (is_same_bytes d.name db) (with_pairs d (pairs d)) d) (λ d none. either (is_same_bytes d.name db) (with_pairs d (pairs d)) d none none)

with_one : (new : Database) (ds : List Database) → IsNoIndex new → AllByRecursion IsNoIndex ds → AllByRecursion IsNoIndex (databases_with new ds)
with_one new ds none all =
    let low : Database → Bool = λ d. is_lt (bytes_cmp d.name new.name) in
    let high : Database → Bool = λ d. is_gt (bytes_cmp d.name new.name) in
    all_append IsNoIndex (filter low ds) (new ∷ filter high ds) (all_kept IsNoIndex low ds all) (none, all_kept IsNoIndex high ds all)

without_one : (name : List ℕ) (ds : List Database) → AllByRecursion IsNoIndex ds → AllByRecursion IsNoIndex (databases_without name ds)
without_one name = all_kept IsNoIndex (λ d. not (is_same_bytes d.name name))

renaming : (o : Option Database) (to : List ℕ) (ds : List Database) → ((d : Database) → o ≡ Some d → IsNoIndex d) → AllByRecursion IsNoIndex ds →
    AllByRecursion IsNoIndex (databases_renamed o to ds)
renaming None to ds none all = all
renaming (Some d) to ds none all =
    along (with_primary d.name to) (λ e is. ap (option_map (index_renamed d.name to)) is) (databases_with (with_name d to) (databases_without d.name ds))
    (with_one (with_name d to) (databases_without d.name ds) (none d refl) (without_one d.name ds all))

-- no database that is found in it is an index
pub found_no_index : (db : List ℕ) (store : Store) (d : Database) → HasNoIndex store → database_of db store ≡ Some d → d.index ≡ None
found_no_index db store d all is = found IsNoIndex (λ e. is_same_bytes e.name db) store.databases d is all

-- a change that makes no index leaves it without
pub keeps_no_index : (change : Change) (store : Store) → MakesNoIndex change → HasNoIndex store → HasNoIndex (changed change store)
keeps_no_index (Set db at value) store makes all = in_one db (λ d. pairs_with d.kind at value d.pairs) store.databases all
keeps_no_index (Unset db at) store makes all = in_one db (λ d. pairs_without d.kind at d.pairs) store.databases all
keeps_no_index (Make db kind) store makes all = with_one (new_database db kind None) store.databases refl all
keeps_no_index (MakeIndex db index) store makes all = absurd makes
keeps_no_index (Remove db) store makes all = without_one db store.databases all
keeps_no_index (Rename db to) store makes all = renaming (database_of db store) to store.databases (λ d is. found_no_index db store d all is) all
keeps_no_index (Empty db) store makes all = in_one db (λ d. []) store.databases all

pub all_keep_no_index : (changes : List Change) (store : Store) → AllByRecursion MakesNoIndex changes → HasNoIndex store → HasNoIndex (all_changed changes store)
all_keep_no_index [] store makes all = all
all_keep_no_index (change ∷ changes) store makes all = all_keep_no_index changes (changed change store) makes.1 (keeps_no_index change store makes.0 all)

pub after_keeps_no_index : (transactions : List (List Change)) (store : Store) → AllByRecursion (AllByRecursion MakesNoIndex) transactions → HasNoIndex store →
    HasNoIndex (store_after store transactions)
after_keeps_no_index [] store makes all = all
after_keeps_no_index (changes ∷ transactions) store makes all = after_keeps_no_index transactions (all_changed changes store) makes.1 (all_keep_no_index changes store makes.0 all)

-- ---- what is found in it

not_of : (name : List ℕ) (d : Database) → IsNoIndex d → is_index_of name d ≡ false
not_of name d none = ap (λ (o : Option Index). option_map_or (λ index. is_same_bytes index.primary name) o false) none

none_pass : {X : Type 0} (p : X → Bool) (xs : List X) → AllByRecursion (λ x. p x ≡ false) xs → filter p xs ≡ []
none_pass p [] h = refl
none_pass p (x ∷ xs) h = ap (λ (b : Bool). cond b (x ∷ filter p xs) (filter p xs)) h.0 ∙ none_pass p xs h.1

-- no database has an index
pub has_no_indexes : (name : List ℕ) (store : Store) → HasNoIndex store → list_any (is_index_of name) store.databases ≡ false
has_no_indexes name store all = each_none (is_index_of name) store.databases (all_weaker IsNoIndex (λ d. is_index_of name d ≡ false) (not_of name) store.databases all)

pub no_indexes_of : (numbers : List ℕ → ℕ) (store : Store) (name : List ℕ) → HasNoIndex store → indexes_of numbers store name ≡ []
no_indexes_of numbers store name all =
    ap (by_number numbers) (none_pass (is_index_of name) store.databases (all_weaker IsNoIndex (λ d. is_index_of name d ≡ false) (not_of name) store.databases all))

-- a database that is no index has no primary, and has its own records
pub no_primary_of : (numbers : List ℕ → ℕ) (store : Store) (d : Database) → d.index ≡ None → primary_of numbers store d.index ≡ None
no_primary_of numbers store d none = ap (primary_of numbers store) none

-- a primary of no index keeps its name in all
same_index : (db to : List ℕ) (d : Database) → IsNoIndex d → with_primary db to d ≡ d
same_index db to d none = ap (λ (o : Option Index). record { name = d.name; kind = d.kind; index = o; pairs = d.pairs }) (ap (option_map (index_renamed db to)) none ∙ sym none)

same_indexes : (db to : List ℕ) (ds : List Database) → AllByRecursion IsNoIndex ds → map (with_primary db to) ds ≡ ds
same_indexes db to [] none = refl
same_indexes db to (d ∷ ds) none = ap₂ (λ (e : Database) (es : List Database). e ∷ es) (same_index db to d none.0) (same_indexes db to ds none.1)

pub renamed_alone : (d : Database) (to : List ℕ) (ds : List Database) → d.index ≡ None → AllByRecursion (λ e. e.index ≡ None) ds →
    databases_renamed (Some d) to ds ≡ databases_with (with_name d to) (databases_without d.name ds)
renamed_alone d to ds is none = same_indexes d.name to (databases_with (with_name d to) (databases_without d.name ds)) (with_one (with_name d to) (databases_without d.name ds) is (without_one d.name ds none))
