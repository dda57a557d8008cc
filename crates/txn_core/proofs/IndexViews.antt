-- Indexes of a database, as the catalog has them.
use Rattle.std.proofs.Common.{◌≡◌, ◌≢◌, ℕ, ◌==◌, Bool, true, false, ◌||◌, List, [], ◌∷◌, Option, None, Some, option_map, refl, ap, ap₂, sym, ◌∙◌, ⊎_elim, is_eq}
use Rattle.std.specs.List.{AllByRecursion, list_any}
use Rattle.std.specs.Option.{option_map_or}
use Rattle.std.proofs.lemmas.Bool.{cases_Bool, eqb-true, eqb-false, eq-eqb, ne_eqb}
use Rattle.je_order.specs.Order.{name_cmp, is_same_bytes}
use Rattle.je_order.proofs.Lists.{all_weaker}
use Rattle.store_model.specs.declared.index.Index.{Index}
use Rattle.store_model.specs.declared.extract.Extract.{Extract}
use Rattle.store_model.specs.Indexes.{is_index_of}
use Rattle.store_model.specs.Evaluation.{plain_name}
use Rattle.log_replay.specs.Rows.{Row, Rows, row_numbered, catalog_number, catalog_index, has_primary, is_made_of, is_indexed, index_over, index_in, is_environment, IsRising, database_in, store_of}
use Rattle.log_replay.specs.Logging.{number_named}
use Rattle.log_replay.proofs.ListLaws.{found, none_found, list_any-map}
use Rattle.log_replay.proofs.RowLaws.{name_cmp-plain}
use Rattle.log_replay.proofs.StoreLaws.{IsCase, environment_parts, primaries_in, catalog_plain, catalog_numbers, catalog_cases, row_named, no_row_named}
use Rattle.log_replay.proofs.LoggedLaws.{plain_there}
use Rattle.record_map.specs.Cells.{first_of}
use Rattle.std.proofs.lemmas.Option.{none-some}

any_same : {A : Type 0} (p q : A → Bool) (l : List A) → AllByRecursion (λ x. p x ≡ q x) l → list_any p l ≡ list_any q l
any_same p q [] all = refl
any_same p q (x ∷ l) all = ap₂ (λ (a b : Bool). a || b) all.0 (any_same p q l all.1)

-- the primary of an index has a name exactly where the index is made of that name's number
same_primary : (rows : Rows) (name : List ℕ) (n : ℕ) (p : Row) → is_environment rows ≡ true → IsRising (rows 0) → row_numbered n (rows 0) ≡ Some p →
    is_same_bytes p.0.key name ≡ (n == number_named rows name)
same_primary rows name n p env up is =
    ⊎_elim (λ (e : (number_named rows name == 0) ≡ true). absent (eqb-true (number_named rows name) 0 e))
    (λ (e : (number_named rows name == 0) ≡ false). there (eqb-false (number_named rows name) 0 e)) (cases_Bool (number_named rows name == 0))
  where
    numbered : (catalog_number p.1 ≢ 0) × ((catalog_number p.1 == n) ≡ true)
    numbered = found (λ (r : Row). catalog_number r.1 ≢ 0) (λ r. catalog_number r.1 == n) (rows 0) p is (catalog_numbers (rows 0) (environment_parts rows env).catalog)

    own : catalog_number p.1 ≡ n
    own = eqb-true (catalog_number p.1) n numbered.1

    plain : p.0.dup ≡ []
    plain = (found (λ (r : Row). r.0.dup ≡ []) (λ r. catalog_number r.1 == n) (rows 0) p is (catalog_plain (rows 0) (environment_parts rows env).catalog)).0

    absent : number_named rows name ≡ 0 → is_same_bytes p.0.key name ≡ (n == number_named rows name)
    absent none =
        let other = (found (λ (r : Row). is_eq (name_cmp r.0 (plain_name name)) ≡ false) (λ r. catalog_number r.1 == n) (rows 0) p is
        (none_found (λ (r : Row). is_eq (name_cmp r.0 (plain_name name))) (rows 0) (no_row_named rows name (environment_parts rows env) none))).0 in
        ap is_eq (sym (name_cmp-plain p.0 name plain)) ∙ other ∙ sym (ne_eqb n (number_named rows name) (λ e. numbered.0 (own ∙ e ∙ none)))

    there : number_named rows name ≢ 0 → is_same_bytes p.0.key name ≡ (n == number_named rows name)
    there has =
        let row = row_named rows name has in
        let one = (found (IsCase name row.0) (λ r. catalog_number r.1 == n) (rows 0) p is (catalog_cases rows name row.0 (environment_parts rows env) up row.1)).0 in
        ⊎_elim
        (λ (same : (p ≡ row.0) × (is_same_bytes p.0.key name ≡ true) × (is_eq (name_cmp p.0 (plain_name name)) ≡ true)).
        same.1 ∙ sym (eq-eqb n (number_named rows name) (sym own ∙ ap (λ (r : Row). catalog_number r.1) same.0 ∙ row.2)))
        (λ (other : (catalog_number p.1 ≢ catalog_number row.0.1) × (is_same_bytes p.0.key name ≡ false) × (is_eq (name_cmp p.0 (plain_name name)) ≡ false)).
        other.1 ∙ sym (ne_eqb n (number_named rows name) (λ e. other.0 (own ∙ e ∙ sym row.2))))
        one.1

-- a record is that of an index of the database of a name exactly where it has that name's number
same_made : (rows : Rows) (name : List ℕ) (o : Option (ℕ × Extract)) → is_environment rows ≡ true → IsRising (rows 0) → has_primary (rows 0) o ≡ true →
    option_map_or (λ (i : Index). is_same_bytes i.primary name) (index_in (rows 0) o) false ≡ is_made_of (number_named rows name) o
same_made rows name None env up has = refl
same_made rows name (Some made) env up has =
    let p = plain_there (row_numbered made.0 (rows 0)) has in
    ap (λ (o : Option Row). option_map_or (λ (i : Index). is_same_bytes i.primary name) (option_map (index_over made.1) o) false) p.1
    ∙ same_primary rows name made.0 p.0 env up p.1

-- a database has an index exactly where the catalog has one of its number
pub indexed_in : (rows : Rows) (name : List ℕ) → is_environment rows ≡ true → IsRising (rows 0) →
    list_any (is_index_of name) (store_of rows).databases ≡ is_indexed (rows 0) (number_named rows name)
indexed_in rows name env up =
    list_any-map (database_in rows) (is_index_of name) (rows 0)
    ∙ any_same (λ (r : Row). is_index_of name (database_in rows r)) (λ r. is_made_of (number_named rows name) (catalog_index r.1)) (rows 0)
    (all_weaker (λ (r : Row). has_primary (rows 0) (catalog_index r.1) ≡ true) (λ r. is_index_of name (database_in rows r) ≡ is_made_of (number_named rows name) (catalog_index r.1))
    (λ r has. same_made rows name (catalog_index r.1) env up has) (rows 0) (primaries_in rows env))

pub later_indexed : (e : Row) (l rest : List Row) (n : ℕ) → l ≡ e ∷ rest → is_made_of n (catalog_index e.1) ≡ false → is_indexed rest n ≡ is_indexed l n
later_indexed e l rest n is made = sym (ap (λ (m : List Row). is_indexed m n) is ∙ ap (λ (b : Bool). b || is_indexed rest n) made)

pub none_indexed : (l : List Row) (n : ℕ) → None ≡ first_of l → false ≡ is_indexed l n
none_indexed [] n none = refl
none_indexed (e ∷ l) n none = absurd (none-some e none)
