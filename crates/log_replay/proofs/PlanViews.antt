-- What plans read of the records of an environment: the catalog's records are those of its databases, and the names of pairs rise.
use Rattle.std.proofs.Common.{◌≡◌, List, [], ◌∷◌, true, map, ap, sym, ◌∙◌, subst, Less}
use Rattle.std.specs.List.{AllByRecursion}
use Rattle.std.specs.List.Sorted.{IsStrictlySortedBy}
use Rattle.je_order.specs.declared.name.Name.{Name}
use Rattle.je_order.specs.Order.{name_cmp}
use Rattle.db_catalog.specs.Planning.{IsCatalogOf}
use Rattle.store_model.specs.declared.kind.Kind.{Kind}
use Rattle.store_model.specs.Store.{Pair, name_of, HasRisingNames}
use Rattle.log_replay.specs.Rows.{Row, Rows, is_environment, are_right, IsRising, pair_of, store_of}
use Rattle.log_replay.specs.Logging.{record_named}
use Rattle.log_replay.proofs.RowLaws.{each_right}
use Rattle.log_replay.proofs.LoggedLaws.{catalogs_are_of_stores}

-- a catalog's record is that of its database
pub catalog_of : (rows : Rows) → is_environment rows ≡ true → IsRising (rows 0) → IsCatalogOf (store_of rows) (record_named rows)
catalog_of rows env up = catalogs_are_of_stores rows env up

-- names that stand behind a name do so in the pairs
behind : (kind : Kind) (n : Name) (rows : List Row) → AllByRecursion (λ r. name_of kind (pair_of kind r) ≡ r.0) rows → AllByRecursion (λ (r : Row). name_cmp n r.0 ≡ Less) rows →
    AllByRecursion (λ (p : Pair). name_cmp n (name_of kind p) ≡ Less) (map (pair_of kind) rows)
behind kind n [] same h = tt
behind kind n (r ∷ rows) same h = (ap (name_cmp n) same.0 ∙ h.0, behind kind n rows same.1 h.1)

rising_by : (kind : Kind) (rows : List Row) → AllByRecursion (λ r. name_of kind (pair_of kind r) ≡ r.0) rows → IsRising rows → HasRisingNames kind (map (pair_of kind) rows)
unfolding IsStrictlySortedBy
rising_by kind [] same up = tt
rising_by kind (r ∷ rows) same up = (
  subst (λ (n : Name). AllByRecursion (λ (p : Pair). name_cmp n (name_of kind p) ≡ Less) (map (pair_of kind) rows)) (sym same.0) (behind kind r.0 rows same.1 up.0),
  rising_by kind rows same.1 up.1,
)

-- the names of the pairs rise
pub rising_pairs : (kind : Kind) (rows : List Row) → are_right kind rows ≡ true → IsRising rows → HasRisingNames kind (map (pair_of kind) rows)
rising_pairs kind rows right up = rising_by kind rows (each_right kind rows right) up
