-- What planned changes leave of an environment's records, without those of the database that goes.
use Rattle.std.proofs.Common.{◌≡◌, ◌≢◌, ℕ, ◌+◌, ◌<◌, ◌≤◌, ◌==◌, Bool, true, false, cond, List, [], ◌∷◌, Option, None, Some, map, find, reverse, length, option_map, is_eq, refl, sym, ap, ap₂, subst, ◌∙◌, arith, ⊎_elim, Less}
use Rattle.std.specs.Prelude.{◌&&◌}
use Rattle.std.specs.Option.{option_or}
use Rattle.std.specs.List.{AllByRecursion}
use Rattle.std.proofs.lemmas.Bool.{true≢false, eqb-true, eqb-false, eq-eqb, ne_eqb, cond-true, cond-false, cond_both, cases_Bool}
use Rattle.std.proofs.lemmas.List.{reverse-append}
use Rattle.std.proofs.lemmas.List.Folds.{find-append}
use Rattle.je_order.specs.Order.{name_cmp, is_same_bytes}
use Rattle.je_order.specs.declared.name.Name.{Name}
use Rattle.je_order.proofs.Lists.{all_weaker}
use Rattle.node_core.proofs.NameOrder.{itself}
use Rattle.store_model.specs.declared.change.Change.{Change}
use Rattle.store_model.specs.declared.change.Change.TheVariants.{Set, Unset, Make, MakeIndex, Remove, Rename, Empty}
use Rattle.store_model.specs.declared.store.Store.{Store}
use Rattle.store_model.specs.declared.store.Database.{Database}
use Rattle.store_model.specs.declared.store.TheConstants.{MOST_DATABASES}
use Rattle.store_model.specs.Store.{all_changed}
use Rattle.store_model.specs.Evaluation.{plain_name}
use Rattle.store_model.specs.Refusals.{made_by}
use Rattle.log_replay.specs.Rows.{Row, Rows, RowChange, rows_with, row_changed, rows_changed, row_at, data_at, number_or_0, catalog_number, catalog_kind, is_catalog_row, are_distinct, are_right, numbers_of, database_by, database_in, store_of, IsRising}
use Rattle.log_replay.specs.Logging.{record_in, number_named, all_row_changes}
use Rattle.log_replay.specs.Kept.{MayBeLogged, AllMayBeLogged, with_number, numbered, all_numbered}
use Rattle.log_replay.proofs.ListLaws.{all_both, all_of_map, all_to_map, found, map_same}
use Rattle.log_replay.proofs.LoadedRows.{found as sought, same_rows}
use Rattle.log_replay.proofs.MapRows.{lookup_is_data}
use Rattle.log_replay.proofs.NameLaws.{found-with}
use Rattle.log_replay.proofs.RowLaws.{plain_name-key, rising-nil, rising_head, rising_tail}
use Rattle.log_replay.proofs.StoreLaws.{IsEnvironment, HasPrimary, IsCase, number_of_row, is_right_under, catalog_plain, catalog_numbers, catalog_cases, key_of_row, row_named, same_database, rising-row_changed}
use Rattle.log_replay.proofs.LoggedLaws.{IsSound, number-within}
use Rattle.log_replay.proofs.TransactionLaws.{IsLeft, left}
use Rattle.log_trees.proofs.Bounds.{eq_turned}
use Rattle.record_tree.specs.declared.tree_change.TreeChange.{TreeChange}
use Rattle.record_tree.specs.Logged.{is_change_of, last_change, value_changed}
use Rattle.txn_core.specs.Planning.{row_by, gone_by}
use Rattle.engine.specs.Contents.{rows_after}
use Rattle.txn_core.specs.Transactions.{is_gone}

-- ---- the data of a name

changed_by : (o : Option TreeChange) (b : Bool) (c : TreeChange) (v : Option (List ℕ)) → value_changed (option_or o (cond b (Some c) None)) v ≡ value_changed o (cond b c.value v)
changed_by (Some e) b c v = refl
changed_by None true c v = refl
changed_by None false c v = refl

last_change-cons : (d : ℕ) (x : Name) (c : TreeChange) (cs : List TreeChange) (v : Option (List ℕ)) →
    value_changed (last_change d x (c ∷ cs)) v ≡ value_changed (last_change d x cs) (cond (is_change_of d x c) c.value v)
last_change-cons d x c cs v =
    ap (λ (l : List TreeChange). value_changed (find (is_change_of d x) l) v) (reverse-append (c ∷ []) cs)
    ∙ ap (λ (o : Option TreeChange). value_changed o v) (find-append (is_change_of d x) (reverse cs) (c ∷ []))
    ∙ changed_by (last_change d x cs) (is_change_of d x c) c v

pub eqb-turned : (a b : ℕ) (t : Bool) → (a == b) ≡ t → (b == a) ≡ t
eqb-turned a b true h = eq-eqb b a (sym (eqb-true a b h))
eqb-turned a b false h = ne_eqb b a (λ e. eqb-false a b h (sym e))

-- after changes of trees a name finds what the last one of it has set, else what it found before
sought-after : (planned : List TreeChange) (rows : Rows) (d : ℕ) (x : Name) →
    sought (rows_changed (map (row_by 0) planned) rows d) x ≡ value_changed (last_change d x planned) (sought (rows d) x)
sought-after [] rows d x = refl
sought-after (c ∷ cs) rows d x =
    sought-after cs (row_changed (row_by 0 c) rows) d x
    ∙ ap (value_changed (last_change d x cs)) (by_tests (d == c.db) (is_eq (name_cmp x c.name)) refl refl)
    ∙ ap (λ (b : Bool). value_changed (last_change d x cs) (cond b c.value (sought (rows d) x))) (sym (tests (d == c.db) (is_eq (name_cmp x c.name)) refl refl))
    ∙ sym (last_change-cons d x c cs (sought (rows d) x))
  where
    tests : (a e : Bool) → (d == c.db) ≡ a → is_eq (name_cmp x c.name) ≡ e → is_change_of d x c ≡ (a && e)
    tests a e db name = ap₂ (λ p q. p && q) (eqb-turned d c.db a db) (eq_turned x c.name e name)

    by_tests : (a e : Bool) → (d == c.db) ≡ a → is_eq (name_cmp x c.name) ≡ e →
        sought (cond a (rows_with c.name c.value (rows d)) (rows d)) x ≡ cond (a && e) c.value (sought (rows d) x)
    by_tests true true db name = found-with c.name c.value x (rows d) ∙ cond-true (is_eq (name_cmp x c.name)) c.value (sought (rows d) x) name
    by_tests true false db name = found-with c.name c.value x (rows d) ∙ cond-false (is_eq (name_cmp x c.name)) c.value (sought (rows d) x) name
    by_tests false e db name = refl

pub data-after : (planned : List TreeChange) (rows : Rows) (d : ℕ) (x : Name) →
    data_at x (rows_changed (map (row_by 0) planned) rows d) ≡ value_changed (last_change d x planned) (data_at x (rows d))
data-after planned rows d x =
    sym (lookup_is_data x (rows_changed (map (row_by 0) planned) rows d))
    ∙ sought-after planned rows d x
    ∙ ap (value_changed (last_change d x planned)) (lookup_is_data x (rows d))

-- ---- the catalog by name

-- each record is found by its name
found_each : (rows : List Row) → IsRising rows → AllByRecursion (λ r. row_at r.0 rows ≡ Some r) rows
found_each [] up = tt
found_each (r ∷ rows) up = (
  cond-true (is_eq (name_cmp r.0 r.0)) (Some r) (row_at r.0 rows) (ap is_eq (itself r.0)),
  all_both (λ (y : Row). name_cmp r.0 y.0 ≡ Less) (λ (y : Row). row_at y.0 rows ≡ Some y) (λ y. row_at y.0 (r ∷ rows) ≡ Some y)
      (λ y before there. cond-false (is_eq (name_cmp r.0 y.0)) (Some r) (row_at y.0 rows) (ap is_eq before) ∙ there) rows (rising_head r rows up) (found_each rows (rising_tail r rows up)),
)

-- the number of what is found
abbrev number_by : Option Row → ℕ
number_by o = number_or_0 (record_in (option_map (λ (r : Row). r.1) o))

-- each number of the catalog is that of a name
pub each_named : (rows : Rows) → IsEnvironment rows → IsRising (rows 0) → AllByRecursion (λ r. number_named rows r.0.key ≡ catalog_number r.1) (rows 0)
each_named rows env up =
    all_both (λ (r : Row). r.0.dup ≡ []) (λ (r : Row). row_at r.0 (rows 0) ≡ Some r) (λ r. number_named rows r.0.key ≡ catalog_number r.1)
    (λ r plain there. ap number_by (ap (λ (n : Name). row_at n (rows 0)) (sym (plain_name-key r.0 plain)) ∙ there)) (rows 0)
    (catalog_plain (rows 0) env.catalog) (found_each (rows 0) up)

-- no two names have one number
pub apart_named : (rows : Rows) (last_db : ℕ) (name other : List ℕ) → IsSound rows last_db → number_named rows name ≢ 0 → number_named rows other ≡ number_named rows name →
    is_same_bytes other name ≡ true
apart_named rows last_db name other sound has same =
    let row = row_named rows name has in
    let row_other = row_named rows other (λ e. has (sym same ∙ e)) in
    let key : row_other.0.0.key ≡ other = key_of_row (rows 0) other row_other.0 sound.environment.catalog row_other.1 in
    let case_ : IsCase name row.0 row_other.0 =
    (found (IsCase name row.0) (λ r. is_eq (name_cmp r.0 (plain_name other))) (rows 0) row_other.0 row_other.1 (catalog_cases rows name row.0 sound.environment (sound.rising 0) row.1)).0 in
    ⊎_elim
    (λ one. ap (λ (k : List ℕ). is_same_bytes k name) (sym key) ∙ one.1)
    (λ two. absurd (two.0 (row_other.2 ∙ same ∙ sym row.2)))
    case_.1

-- ---- the number that goes

-- a number was allocated, and no name has it any longer
pub record IsUnnamed (last_db number : ℕ) (numbers : List ℕ → ℕ) : Type 0 where
  pub above : number ≢ 0
  pub within : number ≤ last_db
  pub none : (name : List ℕ) → numbers name ≢ number

abbrev pub IsGoneFrom : ℕ → Option ℕ → (List ℕ → ℕ) → Type 0
IsGoneFrom last_db None numbers = Unit {0}
IsGoneFrom last_db (Some number) numbers = IsUnnamed last_db number numbers

-- what holds of 0, of later numbers and of each name's number holds of each name's number after changes
numbers-with : (Q : ℕ → Type 0) (name : List ℕ) (n : ℕ) (numbers : List ℕ → ℕ) → Q n → ((other : List ℕ) → Q (numbers other)) → (other : List ℕ) → Q (with_number name n numbers other)
numbers-with Q name n numbers own each other = cond_both (is_same_bytes other name) n (numbers other) Q (λ _. own) (λ _. each other)

numbers-step : (Q : ℕ → Type 0) (change : Change) (last_db : ℕ) (numbers : List ℕ → ℕ) → Q 0 → ((n : ℕ) → last_db < n → Q n) → ((name : List ℕ) → Q (numbers name)) →
    (name : List ℕ) → Q (numbered change last_db numbers name)
numbers-step Q (Set db at value) last_db numbers none later each = each
numbers-step Q (Unset db at) last_db numbers none later each = each
numbers-step Q (Make db kind) last_db numbers none later each = numbers-with Q db (last_db + 1) numbers (later (last_db + 1) (omega arith)) each
numbers-step Q (MakeIndex db index) last_db numbers none later each = numbers-with Q db (last_db + 1) numbers (later (last_db + 1) (omega arith)) each
numbers-step Q (Remove db) last_db numbers none later each = numbers-with Q db 0 numbers none each
numbers-step Q (Rename db to) last_db numbers none later each = numbers-with Q to (numbers db) (with_number db 0 numbers) (each db) (numbers-with Q db 0 numbers none each)
numbers-step Q (Empty db) last_db numbers none later each = numbers-with Q db (last_db + 1) numbers (later (last_db + 1) (omega arith)) each

numbers-after : (Q : ℕ → Type 0) (changes : List Change) (last_db : ℕ) (numbers : List ℕ → ℕ) → Q 0 → ((n : ℕ) → last_db < n → Q n) → ((name : List ℕ) → Q (numbers name)) →
    (name : List ℕ) → Q (all_numbered changes last_db numbers name)
numbers-after Q [] last_db numbers none later each = each
numbers-after Q (c ∷ changes) last_db numbers none later each =
    numbers-after Q changes (last_db + made_by (c ∷ [])) (numbered c last_db numbers) none (λ n above. later n (omega (arith, above))) (numbers-step Q c last_db numbers none later each)

-- behind the change that it goes with
gone-first : (change : Change) (rows : Rows) (last_db : ℕ) → IsSound rows last_db → MayBeLogged rows last_db change →
    IsGoneFrom last_db (gone_by rows change) (numbered change last_db (number_named rows))
gone-first (Set db at value) rows last_db sound may = tt
gone-first (Unset db at) rows last_db sound may = tt
gone-first (Make db kind) rows last_db sound may = tt
gone-first (MakeIndex db index) rows last_db sound may = tt
gone-first (Remove db) rows last_db sound may = record {
  above = may.0;
  within = number-within rows last_db db sound may.0;
  none = λ other. cond_both (is_same_bytes other db) 0 (number_named rows other) (λ m. m ≢ number_named rows db) (λ _ e. may.0 (sym e))
      (λ differ same. true≢false (sym (apart_named rows last_db db other sound may.0 same) ∙ differ));
}
gone-first (Rename db to) rows last_db sound may = tt
gone-first (Empty db) rows last_db sound may = record {
  above = may.0;
  within = number-within rows last_db db sound may.0;
  none = λ other. cond_both (is_same_bytes other db) (last_db + 1) (number_named rows other) (λ m. m ≢ number_named rows db)
      (λ _ e. let low = number-within rows last_db db sound may.0 in absurd (omega (arith, e, low)))
      (λ differ same. true≢false (sym (apart_named rows last_db db other sound may.0 same) ∙ differ));
}

gone-after : (gone : Option ℕ) (change : Change) (changes : List Change) (last_db : ℕ) (numbers : List ℕ → ℕ) → IsGoneFrom last_db gone (numbered change last_db numbers) →
    IsGoneFrom last_db gone (all_numbered (change ∷ changes) last_db numbers)
gone-after None change changes last_db numbers is = tt
gone-after (Some number) change changes last_db numbers is = record {
  above = is.above;
  within = is.within;
  none = numbers-after (λ n. n ≢ number) changes (last_db + made_by (change ∷ [])) (numbered change last_db numbers) (λ e. is.above (sym e))
      (λ n above e. let within : number ≤ last_db = is.within in absurd (omega (arith, above, e, within))) is.none;
}

-- ---- records without those of a number that the catalog does not have

-- the records of some databases are there no longer, none of which the catalog names
record Drops (goes : ℕ → Bool) (all after : Rows) : Type 0 where
  same : (d : ℕ) → goes d ≡ false → after d ≡ all d
  none : (d : ℕ) → goes d ≡ true → after d ≡ []
  zero_stays : goes 0 ≡ false
  named : AllByRecursion (λ (r : Row). goes (catalog_number r.1) ≡ false) (all 0)

drops-environment : (goes : ℕ → Bool) (all after : Rows) → Drops goes all after → IsEnvironment all → IsEnvironment after
drops-environment goes all after drops env =
    let same : all 0 ≡ after 0 = sym (drops.same 0 drops.zero_stays) in
    record {
      catalog = subst (λ l. AllByRecursion (λ (r : Row). is_catalog_row r ≡ true) l) same env.catalog;
      distinct = subst (λ (l : List Row). are_distinct (map number_of_row l) ≡ true) same env.distinct;
      right = subst (λ l. AllByRecursion (λ (r : Row). is_right_under after r ≡ true) l) same
          (all_both (λ (r : Row). goes (catalog_number r.1) ≡ false) (λ (r : Row). is_right_under all r ≡ true) (λ r. is_right_under after r ≡ true)
          (λ r stays ok. ap (are_right (catalog_kind r.1)) (drops.same (catalog_number r.1) stays) ∙ ok) (all 0) drops.named env.right);
      few = subst (λ (l : List Row). length l ≤ MOST_DATABASES) same env.few;
    }

drops-sound : (goes : ℕ → Bool) (all after : Rows) (last_db : ℕ) → Drops goes all after → IsSound all last_db → IsSound after last_db
drops-sound goes all after last_db drops sound = record {
  environment = drops-environment goes all after drops sound.environment;
  primaries = subst (λ (l : List Row). AllByRecursion (HasPrimary l) l) (sym (drops.same 0 drops.zero_stays)) sound.primaries;
  rising = λ d. ⊎_elim (λ (e : goes d ≡ true). subst IsRising (sym (drops.none d e)) rising-nil) (λ (e : goes d ≡ false). subst IsRising (sym (drops.same d e)) (sound.rising d)) (cases_Bool (goes d));
  unused = λ d above. ⊎_elim (λ (e : goes d ≡ true). drops.none d e) (λ (e : goes d ≡ false). drops.same d e ∙ sound.unused d above) (cases_Bool (goes d));
  numbers = subst (λ l. AllByRecursion (λ (r : Row). catalog_number r.1 ≤ last_db) l) (sym (drops.same 0 drops.zero_stays)) sound.numbers;
}

drops-store : (goes : ℕ → Bool) (all after : Rows) → Drops goes all after → store_of after ≡ store_of all
drops-store goes all after drops =
    let make : List Database → Store = λ l. record { databases = l } in
    ap (λ (l : List Row). make (map (database_by l after) l)) (drops.same 0 drops.zero_stays)
    ∙ ap make (map_same (database_by (all 0) after) (database_in all) (all 0)
    (all_weaker (λ (r : Row). goes (catalog_number r.1) ≡ false) (λ r. database_by (all 0) after r ≡ database_in all r)
    (λ r stays. same_database (all 0) after all r (drops.same (catalog_number r.1) stays)) (all 0) drops.named))

-- ---- planned changes

-- changes of trees log changes of the store that may be logged where these are the records; and with the first of them this database goes
pub record ArePlanned (rows : Rows) (last_db : ℕ) (change : Change) (more : List Change) (planned : List TreeChange) (gone : Option ℕ) : Type 0 where
  pub sound : IsSound rows last_db
  pub logs : map (row_by 0) planned ≡ all_row_changes 0 last_db (change ∷ more) rows
  pub may : AllMayBeLogged rows last_db (change ∷ more)
  pub gone_is : gone ≡ gone_by rows change

-- what changes of trees leave of the records, which log these changes of the store
pub record LeavesRows (rows after : Rows) (last_db : ℕ) (changes : List Change) (planned : List TreeChange) (gone : Option ℕ) : Type 0 where
  pub sound : IsSound after (last_db + made_by changes)
  pub store : store_of after ≡ all_changed changes (store_of rows)
  pub numbers : number_named after ≡ all_numbered changes last_db (number_named rows)
  pub data_is : (d : ℕ) (x : Name) → is_gone d gone ≡ false → data_at x (after d) ≡ value_changed (last_change d x planned) (data_at x (rows d))
  -- of the database that goes, which is not the catalog, nothing is left, and the catalog does not name it
  pub none : (d : ℕ) → is_gone d gone ≡ true → after d ≡ []
  pub zero_stays : is_gone 0 gone ≡ false
  pub unnamed : AllByRecursion (λ n. is_gone n gone ≡ false) (numbers_of after)
  pub within : (d : ℕ) → is_gone d gone ≡ true → d ≤ last_db
  -- each number that it has was there before, or is a later one
  pub named : (test : ℕ → Bool) → ((d : ℕ) → last_db < d → test d ≡ true) → AllByRecursion (λ n. test n ≡ true) (numbers_of rows) → AllByRecursion (λ n. test n ≡ true) (numbers_of after)

zero-stays : (gone : Option ℕ) (last_db : ℕ) (numbers : List ℕ → ℕ) → IsGoneFrom last_db gone numbers → is_gone 0 gone ≡ false
zero-stays None last_db numbers is = refl
zero-stays (Some number) last_db numbers is = ne_eqb 0 number (λ e. is.above (sym e))

gone-within : (gone : Option ℕ) (last_db : ℕ) (numbers : List ℕ → ℕ) → IsGoneFrom last_db gone numbers → (d : ℕ) → is_gone d gone ≡ true → d ≤ last_db
gone-within None last_db numbers is d goes = absurd (true≢false (sym goes))
gone-within (Some number) last_db numbers is d goes = subst (λ n. n ≤ last_db) (sym (eqb-true d number goes)) is.within

name-stays : (gone : Option ℕ) (last_db : ℕ) (numbers : List ℕ → ℕ) → IsGoneFrom last_db gone numbers → (name : List ℕ) → is_gone (numbers name) gone ≡ false
name-stays None last_db numbers is name = refl
name-stays (Some number) last_db numbers is name = ne_eqb (numbers name) number (is.none name)

named-stay : (gone : Option ℕ) (last_db : ℕ) (rows : Rows) → IsEnvironment rows → IsRising (rows 0) → IsGoneFrom last_db gone (number_named rows) →
    AllByRecursion (λ (r : Row). is_gone (catalog_number r.1) gone ≡ false) (rows 0)
named-stay gone last_db rows env up is =
    all_weaker (λ (r : Row). number_named rows r.0.key ≡ catalog_number r.1) (λ r. is_gone (catalog_number r.1) gone ≡ false)
    (λ r named. ap (λ (m : ℕ). is_gone m gone) (sym named) ∙ name-stays gone last_db (number_named rows) is r.0.key) (rows 0) (each_named rows env up)

-- the numbers of names are those of the catalog's records, and 0
abbrev IsNoneOr : (ℕ → Bool) → ℕ → Type 0
IsNoneOr test n = (n ≢ 0) → test n ≡ true

names-pass : (test : ℕ → Bool) (rows : Rows) → AllByRecursion (λ n. test n ≡ true) (numbers_of rows) → (name : List ℕ) → IsNoneOr test (number_named rows name)
names-pass test rows all name has =
    let row = row_named rows name has in
    subst (λ n. test n ≡ true) row.2
    (found (λ (r : Row). test (catalog_number r.1) ≡ true) (λ r. is_eq (name_cmp r.0 (plain_name name))) (rows 0) row.0 row.1 (all_of_map number_of_row (λ n. test n ≡ true) (rows 0) all)).0

catalog-passes : (test : ℕ → Bool) (rows : Rows) → IsEnvironment rows → IsRising (rows 0) → ((name : List ℕ) → IsNoneOr test (number_named rows name)) →
    AllByRecursion (λ n. test n ≡ true) (numbers_of rows)
catalog-passes test rows env up each =
    all_to_map number_of_row (λ n. test n ≡ true) (rows 0)
    (all_both (λ (r : Row). catalog_number r.1 ≢ 0) (λ (r : Row). number_named rows r.0.key ≡ catalog_number r.1) (λ r. test (catalog_number r.1) ≡ true)
    (λ r above named. ap test (sym named) ∙ each r.0.key (λ e. above (sym named ∙ e))) (rows 0) (catalog_numbers (rows 0) env.catalog) (each_named rows env up))

-- what is left without the records of a number that no name has
without : (rows all : Rows) (last_db : ℕ) (changes : List Change) (planned : List TreeChange) (gone : Option ℕ) → all ≡ rows_changed (map (row_by 0) planned) rows →
    IsLeft changes last_db rows all → IsGoneFrom last_db gone (number_named all) → LeavesRows rows (rows_after planned gone rows) last_db changes planned gone
without rows all last_db changes planned gone all_is is_left is =
    let after : Rows = rows_after planned gone rows in
    let same : (d : ℕ) → is_gone d gone ≡ false → after d ≡ all d =
    λ d stays. cond-false (is_gone d gone) [] (rows_changed (map (row_by 0) planned) rows d) stays ∙ ap (λ (r : Rows). r d) (sym all_is) in
    let none : (d : ℕ) → is_gone d gone ≡ true → after d ≡ [] = λ d goes. cond-true (is_gone d gone) [] (rows_changed (map (row_by 0) planned) rows d) goes in
    let stays : is_gone 0 gone ≡ false = zero-stays gone last_db (number_named all) is in
    let numbers_in : List Row → List ℕ → ℕ = λ l name. number_or_0 (record_in (data_at (plain_name name) l)) in
    let named = named-stay gone last_db all is_left.sound.environment (is_left.sound.rising 0) is in
    let drops : Drops (λ (m : ℕ). is_gone m gone) all after = record { same = same; none = none; zero_stays = stays; named = named } in
    record {
      sound = drops-sound (λ (m : ℕ). is_gone m gone) all after (last_db + made_by changes) drops is_left.sound;
      store = drops-store (λ (m : ℕ). is_gone m gone) all after drops ∙ is_left.store;
      numbers = ap numbers_in (same 0 stays) ∙ is_left.numbers;
      data_is = λ d x here. ap (data_at x) (same d here ∙ ap (λ (r : Rows). r d) all_is) ∙ data-after planned rows d x;
      none = none;
      zero_stays = stays;
      unnamed = subst (λ (l : List Row). AllByRecursion (λ n. is_gone n gone ≡ false) (map number_of_row l)) (sym (same 0 stays)) (all_to_map number_of_row (λ n. is_gone n gone ≡ false) (all 0) named);
      within = gone-within gone last_db (number_named all) is;
      named = λ test later old. subst (λ (l : List Row). AllByRecursion (λ n. test n ≡ true) (map number_of_row l)) (sym (same 0 stays))
          (catalog-passes test all is_left.sound.environment (is_left.sound.rising 0)
          (subst (λ (f : List ℕ → ℕ). (name : List ℕ) → IsNoneOr test (f name)) (sym is_left.numbers)
          (numbers-after (IsNoneOr test) changes last_db (number_named rows) (λ above. absurd (above refl)) (λ n above _. later n above) (names-pass test rows old))));
    }

pub planned_rows : (rows : Rows) (last_db : ℕ) (change : Change) (more : List Change) (planned : List TreeChange) (gone : Option ℕ) → ArePlanned rows last_db change more planned gone →
    LeavesRows rows (rows_after planned gone rows) last_db (change ∷ more) planned gone
planned_rows rows last_db change more planned gone are =
    let all : Rows = rows_changed (map (row_by 0) planned) rows in
    let is_left : IsLeft (change ∷ more) last_db rows all =
    subst (λ (cs : List RowChange). IsLeft (change ∷ more) last_db rows (rows_changed cs rows)) (sym are.logs) (left last_db (change ∷ more) rows are.sound are.may) in
    without rows all last_db (change ∷ more) planned gone refl is_left
    (subst (IsGoneFrom last_db gone) (sym is_left.numbers)
    (gone-after gone change more last_db (number_named rows)
    (subst (λ (o : Option ℕ). IsGoneFrom last_db o (numbered change last_db (number_named rows))) (sym are.gone_is) (gone-first change rows last_db are.sound are.may.0))))

-- ---- records that have the data that changes leave, name by name

rising-after : (changes : List RowChange) (rows : Rows) → ((d : ℕ) → IsRising (rows d)) → (d : ℕ) → IsRising (rows_changed changes rows d)
rising-after [] rows up d = up d
rising-after (c ∷ changes) rows up d = rising-after changes (row_changed c rows) (λ e. rising-row_changed c rows e (up e)) d

-- are the records that the changes leave
pub rows_by_name : (planned : List TreeChange) (gone : Option ℕ) (old new : Rows) → ((d : ℕ) → IsRising (old d)) → ((d : ℕ) → IsRising (new d)) →
    ((d : ℕ) (x : Name) → data_at x (new d) ≡ cond (is_gone d gone) None (value_changed (last_change d x planned) (data_at x (old d)))) → (d : ℕ) → new d ≡ rows_after planned gone old d
rows_by_name planned gone old new up_old up_new by_name d =
    same_rows (new d) (rows_after planned gone old d) (up_new d) rising (λ q. lookup_is_data q (new d) ∙ by_name d q ∙ sym (found_after q) ∙ sym (lookup_is_data q (rows_after planned gone old d)))
  where
    rising : IsRising (rows_after planned gone old d)
    rising = cond_both (is_gone d gone) [] (rows_changed (map (row_by 0) planned) old d) IsRising (λ _. rising-nil) (λ _. rising-after (map (row_by 0) planned) old up_old d)

    found_after : (q : Name) → data_at q (rows_after planned gone old d) ≡ cond (is_gone d gone) None (value_changed (last_change d q planned) (data_at q (old d)))
    found_after q = by_test (is_gone d gone)
      where
        by_test : (b : Bool) → data_at q (cond b [] (rows_changed (map (row_by 0) planned) old d)) ≡ cond b None (value_changed (last_change d q planned) (data_at q (old d)))
        by_test true = refl
        by_test false = data-after planned old d q
