-- A transaction's own changes as changes of the store.
use Rattle.std.proofs.Common.{◌≡◌, ℕ, ◌+◌, ◌≤◌, ◌==◌, Bool, true, false, cond, List, [], ◌∷◌, ◌++◌, Option, None, Some, map, find, length, option_map, is_eq, refl, sym, ap, ap₂, subst, ◌∙◌, arith, Less, ◌⊎◌, inl, inr}
use Rattle.std.specs.Prelude.{◌≢◌, ◌&&◌}
use Rattle.std.specs.List.{AllByRecursion, flat_map}
use Rattle.std.proofs.lemmas.Bool.{true≢false, eqb-true, eqb-false, eq-eqb, ne_eqb, cond-true, cond-false}
use Rattle.std.proofs.lemmas.List.{length-map}
use Rattle.je_order.specs.Order.{name_cmp, is_same_bytes}
use Rattle.je_order.specs.declared.name.Name.{Name}
use Rattle.je_order.proofs.Lists.{all_weaker}
use Rattle.node_core.proofs.NameOrder.{itself}
use Rattle.store_model.specs.declared.change.Change.{Change}
use Rattle.store_model.specs.declared.record_change.RecordChange.{RecordChange}
use Rattle.store_model.specs.declared.record_change.RecordChange.TheVariants.{Set, Unset}
use Rattle.store_model.specs.declared.store.Store.{Store}
use Rattle.store_model.specs.declared.store.Database.{Database}
use Rattle.store_model.specs.Evaluation.{plain_name}
use Rattle.store_model.specs.Needs.{changed_name}
use Rattle.store_model.specs.Refusals.{made_by}
use Rattle.store_model.specs.Store.{all_changed, change_in}
use Rattle.je_answers.specs.Standing.{Standing, all_numbered, database_at}
use Rattle.je_answers.specs.Views.{changes_in, changes_named}
use Rattle.log_replay.specs.Rows.{Row, Rows, RowChange, IsRising, catalog_number, database_in, data_at, number_or_0, numbers_of, row_at, row_changed, rows_changed, rows_with, store_of}
use Rattle.log_replay.specs.Kept.{IsRecordChange, MayBeLogged}
use Rattle.log_replay.specs.Logging.{all_row_changes, number_named, record_in, row_changes}
use Rattle.log_replay.proofs.ListLaws.{all_both, all_of_map, all_to_map, find-map}
use Rattle.log_replay.proofs.LoadedRows.{found as sought}
use Rattle.log_replay.proofs.LoggedLaws.{IsSound}
use Rattle.log_replay.proofs.MapRows.{lookup_is_data}
use Rattle.log_replay.proofs.NameLaws.{found-with}
use Rattle.log_replay.proofs.RowLaws.{plain_name-key, rising_head, rising_tail}
use Rattle.log_replay.proofs.StoreLaws.{IsCase, IsEnvironment, catalog_cases, catalog_plain, environment_from, environment_parts, primaries_in, key_of_row, number_of_row, row_changed-there, row_named}
use Rattle.log_replay.proofs.TransactionLaws.{IsLeft, left, records_are_logged, records_may_be_logged}
use Rattle.log_trees.proofs.Bounds.{eq_turned}
use Rattle.record_tree.specs.Logged.{is_change_of, last_change, value_changed}
use Rattle.txn_log.specs.Own.{OwnChange, row_of, tree_of, value_to}
use Rattle.txn_log.specs.Committing.{MakesStore, MayBeCommitted, OwnMayBeCommitted, rows_own}
use Rattle.txn_log.proofs.OwnLaws.{last_change-cons}

-- ---- the data of a name

eqb_turned : (a b : ℕ) (t : Bool) → (a == b) ≡ t → (b == a) ≡ t
eqb_turned a b true h = eq-eqb b a (sym (eqb-true a b h))
eqb_turned a b false h = ne_eqb b a (λ e. eqb-false a b h (sym e))

sought_own : (own : List OwnChange) (rows : Rows) (d : ℕ) (x : Name) →
    sought (rows_own own rows d) x ≡ value_changed (last_change d x (map tree_of own)) (sought (rows d) x)
sought_own [] rows d x = refl
sought_own (c ∷ cs) rows d x =
    sought_own cs (row_changed (row_of c) rows) d x
    ∙ ap (value_changed (last_change d x (map tree_of cs))) (by_tests (d == c.0) (is_eq (name_cmp x (changed_name c.1))) refl refl)
    ∙ ap (λ (b : Bool). value_changed (last_change d x (map tree_of cs)) (cond b (value_to c.1) (sought (rows d) x))) (sym (tests (d == c.0) (is_eq (name_cmp x (changed_name c.1))) refl refl))
    ∙ sym (last_change-cons d x (tree_of c) (map tree_of cs) (sought (rows d) x))
  where
    tests : (a e : Bool) → (d == c.0) ≡ a → is_eq (name_cmp x (changed_name c.1)) ≡ e → is_change_of d x (tree_of c) ≡ (a && e)
    tests a e db name = ap₂ (λ p q. p && q) (eqb_turned d c.0 a db) (eq_turned x (changed_name c.1) e name)

    by_tests : (a e : Bool) → (d == c.0) ≡ a → is_eq (name_cmp x (changed_name c.1)) ≡ e →
        sought (cond a (rows_with (changed_name c.1) (value_to c.1) (rows d)) (rows d)) x ≡ cond (a && e) (value_to c.1) (sought (rows d) x)
    by_tests true true db name = found-with (changed_name c.1) (value_to c.1) x (rows d) ∙ cond-true (is_eq (name_cmp x (changed_name c.1))) (value_to c.1) (sought (rows d) x) name
    by_tests true false db name = found-with (changed_name c.1) (value_to c.1) x (rows d) ∙ cond-false (is_eq (name_cmp x (changed_name c.1))) (value_to c.1) (sought (rows d) x) name
    by_tests false e db name = refl

pub data_own : (own : List OwnChange) (rows : Rows) (d : ℕ) (x : Name) → data_at x (rows_own own rows d) ≡ value_changed (last_change d x (map tree_of own)) (data_at x (rows d))
data_own own rows d x =
    sym (lookup_is_data x (rows_own own rows d)) ∙ sought_own own rows d x ∙ ap (value_changed (last_change d x (map tree_of own))) (lookup_is_data x (rows d))

-- ---- databases by their numbers

-- each record is found by its name
found_each : (rows : List Row) → IsRising rows → AllByRecursion (λ r. row_at r.0 rows ≡ Some r) rows
found_each [] up = tt
found_each (r ∷ rows) up = (
  cond-true (is_eq (name_cmp r.0 r.0)) (Some r) (row_at r.0 rows) (ap is_eq (itself r.0)),
  all_both (λ (y : Row). name_cmp r.0 y.0 ≡ Less) (λ (y : Row). row_at y.0 rows ≡ Some y) (λ y. row_at y.0 (r ∷ rows) ≡ Some y)
      (λ y before there. cond-false (is_eq (name_cmp r.0 y.0)) (Some r) (row_at y.0 rows) (ap is_eq before) ∙ there) rows (rising_head r rows up) (found_each rows (rising_tail r rows up)),
)

abbrev number_by : Option Row → ℕ
number_by o = number_or_0 (record_in (option_map (λ (r : Row). r.1) o))

-- each number of the catalog is that of a name
pub each_named : (rows : Rows) → IsEnvironment rows → IsRising (rows 0) → AllByRecursion (λ r. number_named rows r.0.key ≡ catalog_number r.1) (rows 0)
each_named rows env up =
    all_both (λ (r : Row). r.0.dup ≡ []) (λ (r : Row). row_at r.0 (rows 0) ≡ Some r) (λ r. number_named rows r.0.key ≡ catalog_number r.1)
    (λ r plain there. ap number_by (ap (λ (n : Name). row_at n (rows 0)) (sym (plain_name-key r.0 plain)) ∙ there)) (rows 0)
    (catalog_plain (rows 0) env.catalog) (found_each (rows 0) up)

-- the database of a number is the one of the name that has it
pub record IsDatabaseOf (name : List ℕ) (o : Option Database) : Type 0 where
  pub database : Database
  pub is : o ≡ Some database
  pub name_is : database.name ≡ name

pub database_numbered : (rows : Rows) (last_db : ℕ) (st : Standing) (name : List ℕ) → MakesStore rows last_db st → number_named rows name ≢ 0 → IsDatabaseOf name (database_at (number_named rows name) st)
database_numbered rows last_db st name makes has =
    let env : IsEnvironment rows = environment_parts rows makes.environment in
    let row = row_named rows name has in
    let number : ℕ = number_named rows name in
    let test : Database → Bool = λ d. st.numbers d.name == number in
    let q : Row → Bool = λ r. is_eq (name_cmp r.0 (plain_name name)) in
    let same : AllByRecursion (λ (r : Row). test (database_in rows r) ≡ q r) (rows 0) =
    all_both (IsCase name row.0) (λ (r : Row). number_named rows r.0.key ≡ catalog_number r.1) (λ r. test (database_in rows r) ≡ q r) (λ r case_ named. by_case row.0 row.2 r named case_.1) (rows 0)
    (catalog_cases rows name row.0 env (makes.rising 0) row.1) (each_named rows env (makes.rising 0)) in
    record {
      database = database_in rows row.0;
      is = ap (λ (s : Store). find test s.databases) (sym makes.store) ∙ find-map (database_in rows) test q (rows 0) same ∙ ap (option_map (database_in rows)) row.1;
      name_is = key_of_row (rows 0) name row.0 env.catalog row.1;
    }
  where
    by_case : (row : Row) → catalog_number row.1 ≡ number_named rows name → (r : Row) → number_named rows r.0.key ≡ catalog_number r.1 →
        ((r ≡ row) × (is_same_bytes r.0.key name ≡ true) × (is_eq (name_cmp r.0 (plain_name name)) ≡ true))
        ⊎ ((catalog_number r.1 ≢ catalog_number row.1) × (is_same_bytes r.0.key name ≡ false) × (is_eq (name_cmp r.0 (plain_name name)) ≡ false)) →
        (st.numbers r.0.key == number_named rows name) ≡ is_eq (name_cmp r.0 (plain_name name))
    by_case row number r named (inl one) =
        eq-eqb (st.numbers r.0.key) (number_named rows name) (sym (makes.named r.0.key) ∙ named ∙ ap (λ (y : Row). catalog_number y.1) one.0 ∙ number) ∙ sym one.2
    by_case row number r named (inr two) =
        ne_eqb (st.numbers r.0.key) (number_named rows name) (λ e. two.0 (sym named ∙ makes.named r.0.key ∙ e ∙ sym number)) ∙ sym two.2

-- ---- own changes, as changes of the store

-- the name of an own change's database is one of the catalog's
may_above : (rows : Rows) (name : List ℕ) (c : RecordChange) → MayBeLogged rows 0 (change_in name c) → number_named rows name ≢ 0
may_above rows name (Set at value) may = may.0
may_above rows name (Unset at) may = may.0

may_record : (rows : Rows) (last_db : ℕ) (name : List ℕ) (c : RecordChange) → MayBeLogged rows 0 (change_in name c) → IsRecordChange (change_in name c) × MayBeLogged rows last_db (change_in name c)
may_record rows last_db name (Set at value) may = (tt, may)
may_record rows last_db name (Unset at) may = (tt, may)

row_logged : (rows : Rows) (last_db : ℕ) (name : List ℕ) (c : OwnChange) → number_named rows name ≡ c.0 → row_changes 0 last_db (change_in name c.1) rows ≡ row_of c ∷ []
row_logged rows last_db name c is = by_change c.1 where
  by_change : (r : RecordChange) → row_changes 0 last_db (change_in name r) rows ≡ row_of (c.0, r) ∷ []
  by_change (Set at value) = ap (λ (n : ℕ). let r : RowChange = record { txn = 0; db = n; name = at; value = Some value } in r ∷ []) is
  by_change (Unset at) = ap (λ (n : ℕ). let r : RowChange = record { txn = 0; db = n; name = at; value = None } in r ∷ []) is

-- own changes by the names of their databases
abbrev Named : Type 0
Named = List (List ℕ × RecordChange)

names_of : (rows : Rows) (own : List OwnChange) → AllByRecursion (MayBeCommitted rows) own → Named
names_of rows [] may = []
names_of rows (c ∷ own) may = (may.0.0, c.1) ∷ names_of rows own may.1

abbrev by_names : Named → List Change
by_names named = map (λ n. change_in n.0 n.1) named

named_is : (rows : Rows) (last_db : ℕ) (st : Standing) (own : List OwnChange) (may : AllByRecursion (MayBeCommitted rows) own) → MakesStore rows last_db st →
    changes_named st own ≡ by_names (names_of rows own may)
unfolding names_of
named_is rows last_db st [] may makes = refl
named_is rows last_db st (c ∷ own) may makes =
    let name : List ℕ = may.0.0 in
    let found = database_numbered rows last_db st name makes (may_above rows name c.1 may.0.2) in
    ap₂ (λ (a b : List Change). a ++ b)
    (ap (λ (o : Option Database). changes_in o c.1) (ap (λ (n : ℕ). database_at n st) (sym may.0.1) ∙ found.is) ∙ ap (λ (n : List ℕ). change_in n c.1 ∷ []) found.name_is)
    (named_is rows last_db st own may.1 makes)

named_may : (rows : Rows) (last_db : ℕ) (own : List OwnChange) (may : AllByRecursion (MayBeCommitted rows) own) →
    AllByRecursion (λ c. IsRecordChange c × MayBeLogged rows last_db c) (by_names (names_of rows own may))
unfolding names_of
named_may rows last_db [] may = tt
named_may rows last_db (c ∷ own) may = (may_record rows last_db may.0.0 c.1 may.0.2, named_may rows last_db own may.1)

named_rows : (rows : Rows) (last_db : ℕ) (own : List OwnChange) (may : AllByRecursion (MayBeCommitted rows) own) →
    flat_map (λ c. row_changes 0 last_db c rows) (by_names (names_of rows own may)) ≡ map row_of own
unfolding names_of
named_rows rows last_db [] may = refl
named_rows rows last_db (c ∷ own) may = ap₂ (λ (a b : List RowChange). a ++ b) (row_logged rows last_db may.0.0 c may.0.1) (named_rows rows last_db own may.1)

made_none : (named : Named) → made_by (by_names named) ≡ 0
made_none [] = refl
made_none (n ∷ named) = by_change n.1 (made_none named)
  where
    by_change : (r : RecordChange) → made_by (by_names named) ≡ 0 → made_by (change_in n.0 r ∷ by_names named) ≡ 0
    by_change (Set at value) rest = rest
    by_change (Unset at) rest = rest

numbered_same : (named : Named) (last : ℕ) (numbers : List ℕ → ℕ) → all_numbered (by_names named) last numbers ≡ numbers
numbered_same [] last numbers = refl
numbered_same (n ∷ named) last numbers = by_change n.1 (numbered_same named (last + 0) numbers)
  where
    by_change : (r : RecordChange) → all_numbered (by_names named) (last + 0) numbers ≡ numbers → all_numbered (change_in n.0 r ∷ by_names named) last numbers ≡ numbers
    by_change (Set at value) rest = rest
    by_change (Unset at) rest = rest

-- ---- the catalog stays

-- an own change is of a database that is not the catalog
pub own_above : (rows : Rows) (c : OwnChange) → MayBeCommitted rows c → c.0 ≢ 0
own_above rows c may e = may_above rows may.0 c.1 may.2 (may.1 ∙ e)

pub catalog_stays : (own : List OwnChange) (rows : Rows) → AllByRecursion (λ c. c.0 ≢ 0) own → rows_own own rows 0 ≡ rows 0
catalog_stays [] rows above = refl
catalog_stays (c ∷ own) rows above = catalog_stays own (row_changed (row_of c) rows) above.1 ∙ row_changed-there (row_of c) rows 0 (λ e. above.0 (sym e))

all_none : {X : Type 0} (xs : List X) → AllByRecursion (λ x. false ≡ false) xs
all_none [] = tt
all_none (x ∷ xs) = (refl, all_none xs)

sound_of : (rows : Rows) (last_db : ℕ) (st : Standing) → MakesStore rows last_db st → IsSound rows last_db
sound_of rows last_db st makes = record {
  environment = environment_parts rows makes.environment;
  primaries = primaries_in rows makes.environment;
  rising = makes.rising;
  unused = makes.unused;
  numbers = all_of_map number_of_row (λ n. n ≤ last_db) (rows 0) makes.numbers;
}

pub own_may_be_committed : OwnMayBeCommitted
unfolding names_of
own_may_be_committed rows last_db st own makes may =
    let named : Named = names_of rows own may in
    let changes : List Change = by_names named in
    let after : Rows = rows_own own rows in
    let changes_are : changes_named st own ≡ changes = named_is rows last_db st own may makes in
    let logged : all_row_changes 0 last_db changes rows ≡ map row_of own =
    records_are_logged 0 last_db changes rows (named_may rows last_db own may) ∙ named_rows rows last_db own may in
    let is_left : IsLeft changes last_db rows after =
    subst (λ (cs : List RowChange). IsLeft changes last_db rows (rows_changed cs rows)) logged
    (left last_db changes rows (sound_of rows last_db st makes) (records_may_be_logged rows last_db changes (named_may rows last_db own may))) in
    let sound : IsSound after last_db = subst (IsSound after) (let none = made_none named in omega (arith, none)) is_left.sound in
    let above : AllByRecursion (λ (c : OwnChange). c.0 ≢ 0) own = all_weaker (MayBeCommitted rows) (λ c. c.0 ≢ 0) (λ c m. own_above rows c m) own may in
    let catalog : after 0 ≡ rows 0 = catalog_stays own rows above in
    record {
      leaves = record {
        rising = sound.rising;
        environment = environment_from after sound.environment sound.primaries;
        unused = sound.unused;
        numbers = all_to_map number_of_row (λ n. n ≤ last_db) (after 0) sound.numbers;
        grows = omega arith;
        data_is = λ d x stays. data_own own rows d x;
        within = λ d goes. absurd (true≢false (sym goes));
        zero_stays = refl;
        unnamed = all_none (numbers_of after);
        named = λ test later was. subst (λ (l : List Row). AllByRecursion (λ n. test n ≡ true) (map (λ r. catalog_number r.1) l)) (sym catalog) was;
      };
      store = is_left.store ∙ ap (λ (cs : List Change). all_changed cs (store_of rows)) (sym changes_are);
      named = λ name. ap (λ (l : List Row). number_or_0 (record_in (data_at (plain_name name) l))) catalog;
      numbers = ap (λ (cs : List Change). all_numbered cs st.last_db st.numbers) changes_are ∙ numbered_same named st.last_db st.numbers;
      made = ap made_by changes_are ∙ made_none named;
      some = λ some none. empty_of own may some (sym changes_are ∙ none);
      databases = length-map (after 0) (database_in after) ∙ ap length catalog ∙ sym (length-map (rows 0) (database_in rows));
    }
  where
    empty_of : (l : List OwnChange) (m : AllByRecursion (MayBeCommitted rows) l) → l ≢ [] → by_names (names_of rows l m) ≡ [] → ⊥
    empty_of [] m some none = some refl
    empty_of (c ∷ l) m some none = cc
