-- The numbers of databases, by name.
use Rattle.std.proofs.Common.{◌≡◌, ◌≢◌, ℕ, zero, suc, ◌<◌, ◌≤◌, true, Option, None, Some, IsSome, is_some, refl, ap, sym, ◌∙◌, subst, arith, ⊎_elim}
use Rattle.std.specs.List.{AllByRecursion}
use Rattle.std.specs.Ordering.{is_eq}
use Rattle.std.proofs.lemmas.Option.{none-some}
use Rattle.je_order.specs.Order.{name_cmp}
use Rattle.store_model.specs.declared.store.Database.{Database}
use Rattle.store_model.specs.Evaluation.{plain_name}
use Rattle.store_model.specs.Store.{database_of}
use Rattle.log_replay.specs.Rows.{IsRising, Row, Rows, catalog_number, is_environment, numbers_of, store_of}
use Rattle.log_replay.specs.Logging.{number_named}
use Rattle.log_replay.proofs.ListLaws.{all_of_map, found}
use Rattle.log_replay.proofs.StoreLaws.{IsCase, catalog_cases, database_of-absent, database_of-numbered, environment_parts, key_of_row, row_named}
use Rattle.engine.specs.Opening.{AreNumbers}

none_is_zero : (n : ℕ) (o : Option Database) → o ≡ None → (n ≢ 0 → (d : Database) × (o ≡ Some d)) → n ≡ 0
none_is_zero zero o none some = refl
none_is_zero (suc n) o none some = let there = some (λ e. absurd (omega (arith, e))) in absurd (none-some there.0 (sym none ∙ there.1))

some_is_not : (o : Option Database) (n : ℕ) → IsSome o → (n ≡ 0 → o ≡ None) → n ≢ 0
some_is_not o n some none zero_ = (let e : is_some o ≡ true = some in let f = ap is_some (none zero_) in cc)

-- the numbers in the catalog of an environment
pub kept_numbers : (rows : Rows) (last_db : ℕ) → is_environment rows ≡ true → IsRising (rows 0) → AllByRecursion (λ n. n ≤ last_db) (numbers_of rows) → AreNumbers (store_of rows) last_db (number_named rows)
kept_numbers rows last_db is rising numbers = record {
  none = λ name none. none_is_zero (number_named rows name) (database_of name (store_of rows)) none (λ has. (_, database_of-numbered rows name is has));
  allocated = λ name some.
      let has = some_is_not (database_of name (store_of rows)) (number_named rows name) some (database_of-absent rows name is) in
      let row = row_named rows name has in
      let within = subst (λ n. n ≤ last_db) row.2 (found (λ (r : Row). catalog_number r.1 ≤ last_db) (λ r. is_eq (name_cmp r.0 (plain_name name))) (rows 0) row.0 row.1
      (all_of_map (λ (r : Row). catalog_number r.1) (λ n. n ≤ last_db) (rows 0) numbers)).0 in
      (above (number_named rows name) has, within);
  apart = λ name other some same.
      let has = some_is_not (database_of name (store_of rows)) (number_named rows name) some (database_of-absent rows name is) in
      let row = row_named rows name has in
      let row_other = row_named rows other (λ e. has (same ∙ e)) in
      let parts = environment_parts rows is in
      let case_ : IsCase name row.0 row_other.0 =
      (found (IsCase name row.0) (λ r. is_eq (name_cmp r.0 (plain_name other))) (rows 0) row_other.0 row_other.1 (catalog_cases rows name row.0 parts rising row.1)).0 in
      ⊎_elim
      (λ one. sym (key_of_row (rows 0) name row.0 parts.catalog row.1) ∙ sym (ap (λ (r : Row). r.0.key) one.0) ∙ key_of_row (rows 0) other row_other.0 parts.catalog row_other.1)
      (λ two. absurd (two.0 (row_other.2 ∙ sym same ∙ sym row.2)))
      case_.1;
} where
  above : (n : ℕ) → n ≢ 0 → 0 < n
  above zero has = absurd (has refl)
  above (suc n) has = omega arith
