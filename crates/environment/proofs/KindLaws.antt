-- The kind of a database is the one that the catalog has.
use Rattle.std.proofs.Common.{◌≡◌, ◌==◌, ℕ, Bool, true, false, List, [], ◌∷◌, map, find, Option, Some, refl, ap, sym, ◌∙◌, subst, is_eq, Less}
use Rattle.std.specs.List.{AllByRecursion}
use Rattle.std.specs.Option.{option_map}
use Rattle.std.proofs.lemmas.Bool.{cond-true, cond-false}
use Rattle.std.proofs.lemmas.Option.{none-some, same_Some}
use Rattle.je_order.specs.Order.{name_cmp}
use Rattle.je_order.specs.declared.name.Name.{Name}
use Rattle.node_core.proofs.NameOrder.{itself}
use Rattle.store_model.specs.declared.kind.Kind.{Kind}
use Rattle.store_model.specs.declared.store.Store.{Store}
use Rattle.store_model.specs.declared.store.Database.{Database}
use Rattle.je_answers.specs.Standing.{Standing, database_at}
use Rattle.log_replay.specs.Rows.{Row, Rows, IsRising as RowsRise, catalog_kind, database_in, kind_or_plain, row_at}
use Rattle.log_replay.specs.Logging.{kind_named, record_in}
use Rattle.log_replay.proofs.ListLaws.{all_both}
use Rattle.log_replay.proofs.RowLaws.{plain_name-key, rising_head, rising_tail}
use Rattle.log_replay.proofs.StoreLaws.{IsEnvironment, catalog_plain, environment_parts}
use Rattle.txn_log.specs.Committing.{MakesStore}

found_each : (rows : List Row) → RowsRise rows → AllByRecursion (λ r. row_at r.0 rows ≡ Some r) rows
found_each [] up = tt
found_each (r ∷ rows) up = (
  cond-true (is_eq (name_cmp r.0 r.0)) (Some r) (row_at r.0 rows) (ap is_eq (itself r.0)),
  all_both (λ (y : Row). name_cmp r.0 y.0 ≡ Less) (λ (y : Row). row_at y.0 rows ≡ Some y) (λ y. row_at y.0 (r ∷ rows) ≡ Some y)
      (λ y before there. cond-false (is_eq (name_cmp r.0 y.0)) (Some r) (row_at y.0 rows) (ap is_eq before) ∙ there) rows (rising_head r rows up) (found_each rows (rising_tail r rows up)),
)

abbrev kind_by : Option Row → Kind
kind_by o = kind_or_plain (record_in (option_map (λ (r : Row). r.1) o))

kind_each : (rows : Rows) → IsEnvironment rows → RowsRise (rows 0) → AllByRecursion (λ r. kind_named rows r.0.key ≡ catalog_kind r.1) (rows 0)
kind_each rows env up =
    all_both (λ (r : Row). r.0.dup ≡ []) (λ (r : Row). row_at r.0 (rows 0) ≡ Some r) (λ r. kind_named rows r.0.key ≡ catalog_kind r.1)
    (λ r plain there. ap kind_by (ap (λ (n : Name). row_at n (rows 0)) (sym (plain_name-key r.0 plain)) ∙ there)) (rows 0)
    (catalog_plain (rows 0) env.catalog) (found_each (rows 0) up)

found_has : {X Y : Type 0} (f : X → Y) (P : Y → Type 0) (test : Y → Bool) (xs : List X) (y : Y) → AllByRecursion (λ x. P (f x)) xs → find test (map f xs) ≡ Some y → P y
found_has f P test [] y all is = absurd (none-some y is)
found_has {X} {Y} f P test (x ∷ xs) y all is = by (test (f x)) refl (found_has f P test xs y all.1)
  where
    by : (b : Bool) → test (f x) ≡ b → (find test (map f xs) ≡ Some y → P y) → P y
    by true e rest = subst P (same_Some (f x) y (sym (cond-true (test (f x)) (Some (f x)) (find test (map f xs)) e) ∙ is)) all.0
    by false e rest = rest (sym (cond-false (test (f x)) (Some (f x)) (find test (map f xs)) e) ∙ is)

pub kind_at : (rows : Rows) (last_db : ℕ) (st : Standing) (number : ℕ) (database : Database) → MakesStore rows last_db st → database_at number st ≡ Some database → kind_named rows database.name ≡ database.kind
kind_at rows last_db st number database makes there =
    found_has (database_in rows) (λ (d : Database). kind_named rows d.name ≡ d.kind) (λ (d : Database). st.numbers d.name == number) (rows 0) database
    (kind_each rows (environment_parts rows makes.environment) (makes.rising 0))
    (ap (λ (s : Store). find (λ (d : Database). st.numbers d.name == number) s.databases) makes.store ∙ there)
