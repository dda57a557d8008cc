-- Which catalog record has a number after a change of the catalog, and what that says of indexes and their primaries.
use Rattle.std.proofs.Common.{◌≡◌, ◌≢◌, ℕ, List, [], ◌∷◌, ◌++◌, Bool, true, false, cond, not, ◌==◌, Option, None, Some, filter, option_map, refl, ap, sym, ◌∙◌, subst, ⊎_elim, is_eq, is_lt, is_gt}
use Rattle.std.specs.List.{AllByRecursion}
use Rattle.std.proofs.lemmas.Bool.{cond-true, cond-false, true≢false, eq-eqb, ne_eqb}
use Rattle.je_order.specs.Order.{name_cmp, is_same_bytes}
use Rattle.je_order.specs.declared.name.Name.{Name}
use Rattle.store_model.specs.declared.extract.Extract.{Extract}
use Rattle.store_model.specs.Evaluation.{plain_name}
use Rattle.log_replay.specs.Rows.{Row, row_at, rows_with, IsRising, catalog_number, row_numbered, is_plain_row, has_primary, index_over, index_in}
use Rattle.log_replay.proofs.ListLaws.{none_found_in}
use Rattle.log_replay.proofs.RowLaws.{split_where_none}
use Rattle.log_replay.proofs.StoreLaws.{IsCase}

-- whether a record has a number
abbrev has : ℕ → Row → Bool
has n r = catalog_number r.1 == n

-- ---- a record more

with_one : (n : ℕ) (new : Row) (lower higher : List Row) → catalog_number new.1 ≢ n → row_numbered n (lower ++ new ∷ higher) ≡ row_numbered n (lower ++ higher)
with_one n new [] higher other = cond-false (has n new) (Some new) (row_numbered n higher) (ne_eqb (catalog_number new.1) n other)
with_one n new (r ∷ lower) higher other = ap (λ (o : Option Row). cond (has n r) (Some r) o) (with_one n new lower higher other)

-- a record of another number leaves those of a number
pub numbered_with : (n : ℕ) (at : Name) (bytes : List ℕ) (catalog : List Row) → IsRising catalog → row_at at catalog ≡ None → catalog_number bytes ≢ n →
    row_numbered n (rows_with at (Some bytes) catalog) ≡ row_numbered n catalog
numbered_with n at bytes catalog up none other =
    with_one n (at, bytes) (filter (λ (r : Row). is_lt (name_cmp r.0 at)) catalog) (filter (λ (r : Row). is_gt (name_cmp r.0 at)) catalog) other
    ∙ ap (row_numbered n) (split_where_none catalog at up none)

new_found : (new : Row) (lower higher : List Row) → AllByRecursion (λ (r : Row). catalog_number r.1 ≢ catalog_number new.1) lower →
    row_numbered (catalog_number new.1) (lower ++ new ∷ higher) ≡ Some new
new_found new [] higher all = cond-true (has (catalog_number new.1) new) (Some new) (row_numbered (catalog_number new.1) higher) (eq-eqb (catalog_number new.1) (catalog_number new.1) refl)
new_found new (r ∷ lower) higher all =
    cond-false (has (catalog_number new.1) r) (Some r) (row_numbered (catalog_number new.1) (lower ++ new ∷ higher)) (ne_eqb (catalog_number r.1) (catalog_number new.1) all.0)
    ∙ new_found new lower higher all.1

-- and it has its own
pub numbered_new : (n : ℕ) (at : Name) (bytes : List ℕ) (catalog : List Row) → catalog_number bytes ≡ n → AllByRecursion (λ (r : Row). catalog_number r.1 ≢ n) catalog →
    row_numbered n (rows_with at (Some bytes) catalog) ≡ Some (at, bytes)
numbered_new n at bytes catalog is others =
    subst (λ (m : ℕ). AllByRecursion (λ (r : Row). catalog_number r.1 ≢ m) catalog → row_numbered m (rows_with at (Some bytes) catalog) ≡ Some (at, bytes)) is
    (λ all. new_found (at, bytes) (filter (λ (r : Row). is_lt (name_cmp r.0 at)) catalog) (filter (λ (r : Row). is_gt (name_cmp r.0 at)) catalog)
    (kept (λ r. is_lt (name_cmp r.0 at)) catalog all)) others
  where
    kept : (p : Row → Bool) (l : List Row) → AllByRecursion (λ (r : Row). catalog_number r.1 ≢ catalog_number bytes) l →
        AllByRecursion (λ (r : Row). catalog_number r.1 ≢ catalog_number bytes) (filter p l)
    kept p l all = Rattle.je_order.proofs.Lists.all_kept (λ (r : Row). catalog_number r.1 ≢ catalog_number bytes) p l all

-- ---- a record less

abbrev others_of : List ℕ → Row → Bool
others_of name r = not (is_eq (name_cmp r.0 (plain_name name)))

-- without the record of a name, those of other numbers are left
pub numbered_without : (n : ℕ) (name : List ℕ) (row : Row) (catalog : List Row) → AllByRecursion (IsCase name row) catalog → catalog_number row.1 ≢ n →
    row_numbered n (filter (others_of name) catalog) ≡ row_numbered n catalog
numbered_without n name row [] cases other = refl
numbered_without n name row (r ∷ catalog) cases other =
    let rest : row_numbered n (filter (others_of name) catalog) ≡ row_numbered n catalog = numbered_without n name row catalog cases.1 other in
    ⊎_elim
    (λ (one : (r ≡ row) × (is_same_bytes r.0.key name ≡ true) × (is_eq (name_cmp r.0 (plain_name name)) ≡ true)).
    ap (row_numbered n) (cond-false (others_of name r) (r ∷ filter (others_of name) catalog) (filter (others_of name) catalog) (ap not one.2))
    ∙ rest ∙ sym (cond-false (has n r) (Some r) (row_numbered n catalog) (ne_eqb (catalog_number r.1) n (λ e. other (ap (λ (x : Row). catalog_number x.1) (sym one.0) ∙ e)))))
    (λ (two : (catalog_number r.1 ≢ catalog_number row.1) × (is_same_bytes r.0.key name ≡ false) × (is_eq (name_cmp r.0 (plain_name name)) ≡ false)).
    ap (row_numbered n) (cond-true (others_of name r) (r ∷ filter (others_of name) catalog) (filter (others_of name) catalog) (ap not two.2))
    ∙ ap (λ (o : Option Row). cond (has n r) (Some r) o) rest)
    cases.0.1

-- the record of a name is that of its number
pub numbered_named : (name : List ℕ) (row : Row) (catalog : List Row) → AllByRecursion (IsCase name row) catalog → row_at (plain_name name) catalog ≡ Some row →
    row_numbered (catalog_number row.1) catalog ≡ Some row
numbered_named name row [] cases there = absurd cc
numbered_named name row (r ∷ catalog) cases there =
    ⊎_elim
    (λ (one : (r ≡ row) × (is_same_bytes r.0.key name ≡ true) × (is_eq (name_cmp r.0 (plain_name name)) ≡ true)).
    cond-true (has (catalog_number row.1) r) (Some r) (row_numbered (catalog_number row.1) catalog) (eq-eqb (catalog_number r.1) (catalog_number row.1) (ap (λ (x : Row). catalog_number x.1) one.0))
    ∙ ap (λ (x : Row). let o : Option Row = Some x in o) one.0)
    (λ (two : (catalog_number r.1 ≢ catalog_number row.1) × (is_same_bytes r.0.key name ≡ false) × (is_eq (name_cmp r.0 (plain_name name)) ≡ false)).
    cond-false (has (catalog_number row.1) r) (Some r) (row_numbered (catalog_number row.1) catalog) (ne_eqb (catalog_number r.1) (catalog_number row.1) two.0)
    ∙ numbered_named name row catalog cases.1 (sym (cond-false (is_eq (name_cmp r.0 (plain_name name))) (Some r) (row_at (plain_name name) catalog) two.2) ∙ there))
    cases.0.1

-- ---- primaries

-- a number that no record has is no primary's
pub no_primary : (n number : ℕ) (catalog : List Row) → AllByRecursion (λ (r : Row). catalog_number r.1 ≢ number) catalog → is_plain_row (row_numbered n catalog) ≡ true → number ≢ n
no_primary n number catalog others plain same =
    let none : row_numbered n catalog ≡ None = none_found_in (has n) catalog (each catalog others) in
    true≢false (sym plain ∙ ap is_plain_row none)
  where
    each : (l : List Row) → AllByRecursion (λ (r : Row). catalog_number r.1 ≢ number) l → AllByRecursion (λ (r : Row). has n r ≡ false) l
    each l all = Rattle.je_order.proofs.Lists.all_weaker (λ (r : Row). catalog_number r.1 ≢ number) (λ r. has n r ≡ false) (λ r h. ne_eqb (catalog_number r.1) n (λ e. h (e ∙ sym same))) l all

-- an index whose primary's record is the same in two catalogs is the same in them
abbrev pub IsMade : Type 0
IsMade = Option (ℕ × Extract)

pub same_index : (c d : List Row) (o : IsMade) → ((made : ℕ × Extract) → o ≡ Some made → row_numbered made.0 c ≡ row_numbered made.0 d) → index_in c o ≡ index_in d o
same_index c d None same = refl
same_index c d (Some made) same = ap (option_map (index_over made.1)) (same made refl)

pub same_primary : (c d : List Row) (o : IsMade) → ((made : ℕ × Extract) → o ≡ Some made → row_numbered made.0 c ≡ row_numbered made.0 d) → has_primary c o ≡ has_primary d o
same_primary c d None same = refl
same_primary c d (Some made) same = ap is_plain_row (same made refl)
