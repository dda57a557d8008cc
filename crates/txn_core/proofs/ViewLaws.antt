-- What the views of the records in memory see.
use Rattle.std.proofs.Common.{◌≡◌, ℕ, List, [], ◌∷◌, Bool, true, false, Option, None, Some, IfSome, map, filter, option_map, is_some, refl, ap, ap₂, sym, ◌∙◌, ⊎_elim, Less, is_eq, Bor, Result, IfOk, option_copied}
use Rattle.std.specs.List.{AllByRecursion}
use Rattle.std.specs.List.Sorted.{IsStrictlySortedBy}
use Rattle.std.proofs.lemmas.Bool.{cases_Bool, cond-true, cond-false}
use Rattle.std.proofs.lemmas.Option.{none-some, same_Some}
use Rattle.je_order.specs.declared.name.Name.{Name}
use Rattle.je_order.specs.Order.{name_cmp}
use Rattle.je_order.specs.Edges.{Edge}
use Rattle.je_order.specs.Edges.Edge.{First, End}
use Rattle.je_order.proofs.Orderings.{equal_from_test, name_exact}
use Rattle.je_order.proofs.Lists.{all_weaker}
use Rattle.je_order.proofs.Results.{if_ok}
use Rattle.record_map.specs.Cells.{first_of, last_of, from_edge, below_edge}
use Rattle.record_map.specs.declared.sort_key.SortKey.{SortKey}
use Rattle.record_map.specs.declared.data.Data.{Data}
use Rattle.store_model.specs.declared.kind.Kind.{Kind}
use Rattle.store_model.specs.declared.store.Database.{Database}
use Rattle.store_model.specs.Store.{name_of, database_of, names_of}
use Rattle.store_model.specs.Reads.{range, seen, at_name, taken_by, is_within, last_of as last_pair}
use Rattle.store_model.specs.Reads.Way.{Lowest, Highest}
use Rattle.store_model.specs.Evaluation.{plain_name}
use Rattle.log_replay.specs.Rows.{Row, Rows, row_at, data_at, is_environment, are_right, IsRising, pair_of, database_in, store_of}
use Rattle.log_replay.proofs.ListLaws.{filter-map, filter-none, found, none_found, map-map}
use Rattle.log_replay.proofs.RowLaws.{each_right, name_flipped, row_of_data, no_row_of_data}
use Rattle.log_replay.proofs.StoreLaws.{database_of-store_of}
use Rattle.txn_core.specs.Views.{pairs_found}

-- ---- the catalog

is_copied : (o : Option (Bor (List ℕ))) → is_some o ≡ is_some (option_copied o)
is_copied None = refl
is_copied (Some x) = refl

-- a name has a record where it has a database
pub has_database : (rows : Rows) (name : List ℕ) (o : Option (Bor (List ℕ))) → is_environment rows ≡ true → option_copied o ≡ data_at (plain_name name) (rows 0) →
    is_some o ≡ is_some (database_of name (store_of rows))
has_database rows name o env is = is_copied o ∙ ap is_some is ∙ by_row (row_at (plain_name name) (rows 0)) ∙ ap is_some (sym (database_of-store_of rows name env))
  where
    by_row : (r : Option Row) → is_some (option_map (λ (x : Row). x.1) r) ≡ is_some (option_map (database_in rows) r)
    by_row None = refl
    by_row (Some r) = refl

-- the names of the databases are the keys of the catalog
pub names_in : (rows : Rows) → map (λ (r : Row). r.0.key) (rows 0) ≡ names_of (store_of rows)
names_in rows = sym (map-map (λ (d : Database). d.name) (database_in rows) (rows 0))

pub names_ok : {E : Type 0} (rows : Rows) (r : Result (List (List ℕ)) E) → IfOk r (λ names. names ≡ map (λ (x : Row). x.0.key) (rows 0)) → IfOk r (λ names. names ≡ names_of (store_of rows))
names_ok rows r h = if_ok r (λ names e. e ∙ names_in rows) h

-- ---- the records of one database

-- a search among the pairs is one among the records
pub searched : (kind : Kind) (test : Name → Bool) (rows : List Row) → are_right kind rows ≡ true →
    filter (λ p. test (name_of kind p)) (map (pair_of kind) rows) ≡ map (pair_of kind) (filter (λ r. test r.0) rows)
searched kind test rows right =
    filter-map (pair_of kind) (λ p. test (name_of kind p)) (λ r. test r.0) rows
    (all_weaker (λ (r : Row). name_of kind (pair_of kind r) ≡ r.0) (λ r. test (name_of kind (pair_of kind r)) ≡ test r.0)
    (λ r e. ap test e) rows (each_right kind rows right))

first_listed : (kind : Kind) (rows : List Row) → pairs_found kind (first_of rows) ≡ taken_by Lowest (map (pair_of kind) rows)
first_listed kind [] = refl
first_listed kind (r ∷ rows) = refl

last_listed : (kind : Kind) (rows : List Row) → pairs_found kind (last_of rows) ≡ last_pair (map (pair_of kind) rows)
last_listed kind [] = refl
last_listed kind (r ∷ []) = refl
last_listed kind (r ∷ s ∷ rows) = last_listed kind (s ∷ rows)

-- the first record from an edge on
pub first_seen : (kind : Kind) (rows : List Row) (held edge : Edge) → are_right kind rows ≡ true → held ≡ edge →
    pairs_found kind (first_of (from_edge held rows)) ≡ seen kind Lowest (range edge End) (map (pair_of kind) rows)
first_seen kind rows held edge right is =
    ap (λ (e : Edge). pairs_found kind (first_of (from_edge e rows))) is ∙ first_listed kind (from_edge edge rows)
    ∙ ap (taken_by Lowest) (sym (searched kind (λ n. is_within (range edge End) n) rows right))

-- the last one below it
pub last_seen : (kind : Kind) (rows : List Row) (held edge : Edge) → are_right kind rows ≡ true → held ≡ edge →
    pairs_found kind (last_of (below_edge held rows)) ≡ seen kind Highest (range First edge) (map (pair_of kind) rows)
last_seen kind rows held edge right is =
    ap (λ (e : Edge). pairs_found kind (last_of (below_edge e rows))) is ∙ last_listed kind (below_edge edge rows)
    ∙ ap last_pair (sym (searched kind (λ n. is_within (range First edge) n) rows right))

-- the one record of a name
pub one_found : (name : Name) (rows : List Row) (row : Row) → IsRising rows → row_at name rows ≡ Some row → filter (λ r. is_eq (name_cmp r.0 name)) rows ≡ row ∷ []
unfolding IsStrictlySortedBy
one_found name [] row up h = absurd (none-some row h)
one_found name (r ∷ rows) row up h =
    ⊎_elim
    (λ (e : is_eq (name_cmp r.0 name) ≡ true).
    let same : r ≡ row = same_Some r row (sym (cond-true (is_eq (name_cmp r.0 name)) (Some r) (row_at name rows) e) ∙ h) in
    let at : r.0 ≡ name = name_exact r.0 name (equal_from_test (name_cmp r.0 name) e) in
    cond-true (is_eq (name_cmp r.0 name)) (r ∷ filter (λ (y : Row). is_eq (name_cmp y.0 name)) rows) (filter (λ (y : Row). is_eq (name_cmp y.0 name)) rows) e
    ∙ ap (λ l. r ∷ l) (filter-none (λ (y : Row). is_eq (name_cmp y.0 name)) rows
    (all_weaker (λ (y : Row). name_cmp r.0 y.0 ≡ Less) (λ y. is_eq (name_cmp y.0 name) ≡ false)
    (λ y less. ap (λ (n : Name). is_eq (name_cmp y.0 n)) (sym at) ∙ ap is_eq (name_flipped r.0 y.0 less)) rows up.0))
    ∙ ap (λ x. x ∷ []) same)
    (λ (e : is_eq (name_cmp r.0 name) ≡ false).
    cond-false (is_eq (name_cmp r.0 name)) (r ∷ filter (λ (y : Row). is_eq (name_cmp y.0 name)) rows) (filter (λ (y : Row). is_eq (name_cmp y.0 name)) rows) e
    ∙ one_found name rows row up.1 (sym (cond-false (is_eq (name_cmp r.0 name)) (Some r) (row_at name rows) e) ∙ h))
    (cases_Bool (is_eq (name_cmp r.0 name)))

-- a row of that name
named_row : (name : Name) (rows : List Row) (row : Row) → row_at name rows ≡ Some row → row.0 ≡ name
named_row name rows row h =
    name_exact row.0 name (equal_from_test (name_cmp row.0 name) (found (λ (r : Row). Unit {0}) (λ r. is_eq (name_cmp r.0 name)) rows row h (all_units rows)).1)
  where
    all_units : (l : List Row) → AllByRecursion (λ r. Unit {0}) l
    all_units [] = tt
    all_units (r ∷ l) = (tt, all_units l)

-- the record of a name
pub record_seen : (kind : Kind) (rows : List Row) (held name : Name) (o : Option (Bor SortKey × Bor Data)) → are_right kind rows ≡ true → IsRising rows → held ≡ name →
    IfSome o (λ p. p.0.now ≡ held) → option_map (λ p. p.1.now) o ≡ data_at held rows →
    pairs_found kind (option_map (λ p. (p.0.now, p.1.now)) o) ≡ at_name kind name (map (pair_of kind) rows)
record_seen kind rows held name None right up is key e =
    sym (searched kind (λ n. is_eq (name_cmp n name)) rows right
    ∙ ap (map (pair_of kind)) (filter-none (λ (r : Row). is_eq (name_cmp r.0 name)) rows (none_found (λ (r : Row). is_eq (name_cmp r.0 name)) rows
    (no_row_of_data name rows (ap (λ (n : Name). data_at n rows) (sym is) ∙ sym e)))))
record_seen kind rows held name (Some p) right up is key e =
    let row = row_of_data name rows p.1.now (ap (λ (n : Name). data_at n rows) (sym is) ∙ sym e) in
    let same : row.0 ≡ (p.0.now, p.1.now) = ap₂ (λ (n : Name) (d : List ℕ). (n, d)) (named_row name rows row.0 row.1 ∙ sym is ∙ sym key) row.2 in
    ap (λ (r : Row). pair_of kind r ∷ []) (sym same)
    ∙ sym (searched kind (λ n. is_eq (name_cmp n name)) rows right ∙ ap (map (pair_of kind)) (one_found name rows row.0 up row.1))
