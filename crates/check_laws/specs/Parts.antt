-- What a check finds behind the trees: files that are missing, and records that break a rule.
use Rattle.std.specs.Prelude.{◌≡◌, ℕ, ◌+◌, ◌==◌, ◌&&◌, nat_le, not, if◌then◌else◌, List, [], ◌∷◌, ◌++◌, Option, None, Some, map, filter, option_map}
use Rattle.je_order.specs.declared.name.Name.{Name}
use Rattle.store_model.specs.declared.kind.Kind.{Kind}
use Rattle.log_replay.specs.Rows.{Row, Rows, catalog_number, catalog_index, has_primary, is_right_row, are_right}
use Rattle.log_replay.specs.Reading.{gap_in}
use Rattle.log_replay.specs.Wrong.{is_right_behind, numbered_by, wrong_in, wrong_in_catalog, wrong_database}

-- the type of what a function gives
abbrev pub ResultOf : {A B : Type 0} → (A → B) → Type 0
ResultOf {A} {B} f = B

-- a database's number and kind, as the rules of environments have them
abbrev pub NumberedKind : Type 0
NumberedKind = ResultOf numbered_by

-- the first of a list
abbrev pub first_item : {A : Type 0} → List A → Option A
first_item [] = None
first_item (x ∷ xs) = Some x

-- the gaps behind a number and between rising ones: each from its first number up to the next that is there
abbrev pub gaps_behind : ℕ → List ℕ → List (ℕ × ℕ)
gaps_behind n [] = []
gaps_behind n (m ∷ ms) = if m == n + 1 then gaps_behind m ms else (n + 1, m) ∷ gaps_behind m ms

-- the gaps between rising numbers
abbrev pub gaps_in : List ℕ → List (ℕ × ℕ)
gaps_in [] = []
gaps_in (n ∷ ns) = gaps_behind n ns

-- the catalog's records that are wrong, by name; the numbers before a record are those of the ones that are left
abbrev pub wrongs_in_catalog : List Row → List ℕ → List Row → List Name
wrongs_in_catalog catalog before [] = []
wrongs_in_catalog catalog before (row ∷ rows) =
    if is_right_behind before row && has_primary catalog (catalog_index row.1) then wrongs_in_catalog catalog (before ++ catalog_number row.1 ∷ []) rows else row.0 ∷ wrongs_in_catalog catalog before rows

-- those of the catalog's records that are left
abbrev pub kept_in_catalog : List Row → List ℕ → List Row → List Row
kept_in_catalog catalog before [] = []
kept_in_catalog catalog before (row ∷ rows) =
    if is_right_behind before row && has_primary catalog (catalog_index row.1) then row ∷ kept_in_catalog catalog (before ++ catalog_number row.1 ∷ []) rows else kept_in_catalog catalog before rows

-- a database is put among others that stand in order of their numbers
abbrev pub put_by_number : NumberedKind → List NumberedKind → List NumberedKind
put_by_number d [] = d ∷ []
put_by_number d (e ∷ es) = if nat_le d.number e.number then d ∷ e ∷ es else e ∷ put_by_number d es

-- all of them in that order
abbrev pub in_number_order : List NumberedKind → List NumberedKind
in_number_order [] = []
in_number_order (d ∷ ds) = put_by_number d (in_number_order ds)

-- the databases with a wrong record, in that order
abbrev pub wrong_databases : Rows → List Row → List NumberedKind
wrong_databases rows catalog = in_number_order (filter (λ d. not (are_right d.kind (rows d.number))) (map numbered_by catalog))

-- the records that are wrong in a database of a kind
abbrev pub wrongs_in : Kind → List Row → List Name
wrongs_in kind rows = map (λ r. r.0) (filter (λ r. not (is_right_row kind r)) rows)

-- the first of each is what opening finds; and a catalog without a wrong record is kept
pub record PartsBegin : Type 0 where
  pub gaps : (ns : List ℕ) → option_map (λ g. g.0) (first_item (gaps_in ns)) ≡ gap_in ns
  pub catalog : (all : List Row) (before : List ℕ) (rows : List Row) → first_item (wrongs_in_catalog all before rows) ≡ wrong_in_catalog all before rows
  pub kept : (all : List Row) (before : List ℕ) (rows : List Row) → wrongs_in_catalog all before rows ≡ [] → kept_in_catalog all before rows ≡ rows
  pub databases : (rows : Rows) → first_item (wrong_databases rows (rows 0)) ≡ wrong_database rows
  pub records : (kind : Kind) (rows : List Row) → first_item (wrongs_in kind rows) ≡ wrong_in kind rows
