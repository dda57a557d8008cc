-- The first record that breaks a rule of environments: the catalog's records in name order, and then the databases' by
-- number and name.
use Rattle.std.specs.Prelude.{ℕ, ◌++◌, ◌∷◌, [], ◌==◌, ◌&&◌, nat_lt, nat_le, not, Bool, List, Option, None, Some, filter, find, map, option_map, length, if◌then◌else◌}
use Rattle.std.specs.List.{list_any}
use Rattle.je_order.specs.declared.name.Name.{Name}
use Rattle.store_model.specs.declared.store.TheConstants.{MOST_DATABASES}
use Rattle.store_model.specs.declared.kind.Kind.{Kind}
use Rattle.log_replay.specs.declared.place.Place.{Place}
use Rattle.log_replay.specs.declared.numbered.Numbered.{Numbered}
use Rattle.log_replay.specs.Rows.{Row, Rows, catalog_number, catalog_kind, catalog_index, has_primary, is_catalog_row, is_right_row, are_right}

-- the first of two that is there
abbrev pub or_else : {A : Type 0} → Option A → Option A → Option A
or_else (Some x) other = Some x
or_else None other = other

-- whether a catalog record is right behind records of these numbers: its own number is another one, and there may be one
-- database more
abbrev pub is_right_behind : List ℕ → Row → Bool
is_right_behind before row =
    is_catalog_row row && not (list_any (λ n. n == catalog_number row.1) before) && nat_lt (length before) MOST_DATABASES

-- the name of the first record of a catalog that is wrong, where records of these numbers stand before it; the primary of an index stands anywhere in
-- the catalog
abbrev pub wrong_in_catalog : List Row → List ℕ → List Row → Option Name
wrong_in_catalog catalog before [] = None
wrong_in_catalog catalog before (row ∷ rows) =
    if is_right_behind before row && has_primary catalog (catalog_index row.1) then wrong_in_catalog catalog (before ++ catalog_number row.1 ∷ []) rows else Some row.0

-- the name of the first record that is wrong in a database of a kind
abbrev pub wrong_in : Kind → List Row → Option Name
wrong_in kind rows = option_map (λ r. r.0) (find (λ r. not (is_right_row kind r)) rows)

-- the number and the kind of the database that a catalog record names
abbrev pub numbered_by : Row → Numbered
numbered_by row = record { number = catalog_number row.1; kind = catalog_kind row.1 }

-- the first of the databases with the least number
abbrev pub lesser : Numbered → Option Numbered → Option Numbered
lesser d None = Some d
lesser d (Some e) = Some (if nat_le d.number e.number then d else e)

-- the first of those databases that have the least number
abbrev pub least : List Numbered → Option Numbered
least [] = None
least (d ∷ ds) = lesser d (least ds)

-- the database with the least number that the catalog names and that has a wrong record
abbrev pub wrong_database : Rows → Option Numbered
wrong_database rows = least (filter (λ d. not (are_right d.kind (rows d.number))) (map numbered_by (rows 0)))

-- the place of the first wrong record of that database
abbrev pub wrong_under : Rows → Option Numbered → Option Place
wrong_under rows None = None
wrong_under rows (Some d) = option_map (λ name. record { db = d.number; name = name }) (wrong_in d.kind (rows d.number))

-- the place of the first record that is wrong
abbrev pub wrong_record : Rows → Option Place
wrong_record rows =
    or_else (option_map (λ name. record { db = 0; name = name }) (wrong_in_catalog (rows 0) [] (rows 0))) (wrong_under rows (wrong_database rows))
