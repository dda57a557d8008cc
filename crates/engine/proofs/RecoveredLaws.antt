-- The records of an environment that was recovered.
use Rattle.std.proofs.Common.{◌≡◌, ℕ, ◌≤◌, ◌==◌, cond, Bool, true, false, List, [], ◌∷◌, Some, None, map, is_eq, refl, ap, sym, ◌∙◌, subst}
use Rattle.std.specs.Prelude.{◌||◌}
use Rattle.std.specs.List.{AllByRecursion, list_any}
use Rattle.std.proofs.lemmas.Bool.{eq-eqb, eqb-true}
use Rattle.je_order.specs.Order.{name_cmp}
use Rattle.je_order.specs.declared.name.Name.{Name}
use Rattle.je_order.proofs.Lists.{all_weaker}
use Rattle.record_map.specs.Cells.{value_at}
use Rattle.record_tree.specs.Occupied.{AllCells, Occupied, write_in}
use Rattle.record_tree.specs.Stored.{AllStored, Stored}
use Rattle.store_model.specs.Evaluation.{plain_name}
use Rattle.log_replay.specs.Logging.{number_named, record_in}
use Rattle.log_replay.specs.Rows.{IsRising, Row, Rows, catalog_number, data_at, is_environment, number_or_0, numbers_of, store_of}
use Rattle.log_replay.proofs.RowLaws.{rising-nil}
use Rattle.log_meaning.specs.Meaning.{rows_of}
use Rattle.log_meaning.specs.Redo.{Redo}
use Rattle.log_meaning.proofs.Leaving.{same_environment, same_store}
use Rattle.recovery_je.specs.Checking.{values_of}
use Rattle.recovery_je.specs.Finishing.{is_kept}
use Rattle.recovery_je.specs.Recovering.{HasTrees}
use Rattle.recovery_je.proofs.MeaningLaws.{rows_in_trees}
use Rattle.in_tree.specs.Stored.{committed_cell}
use Rattle.txn_core.specs.Known.{IsQuiet, committed, committed_rows, has_number}

-- ---- lists of numbers

pub or_true : (b : Bool) → (b || true) ≡ true
or_true true = refl
or_true false = refl

-- each number is among them
pub each_among : (ns : List ℕ) → AllByRecursion (λ n. list_any (λ m. m == n) ns ≡ true) ns
each_among [] = tt
each_among (n ∷ ns) = (
  ap (λ (b : Bool). b || list_any (λ m. m == n) ns) (eq-eqb n n refl),
  all_weaker (λ k. list_any (λ m. m == k) ns ≡ true) (λ k. list_any (λ m. m == k) (n ∷ ns) ≡ true) (λ k h. ap (λ (b : Bool). (n == k) || b) h ∙ or_true (n == k)) ns (each_among ns),
)

-- a number that is among some is within their bound
pub among_within : (bound : ℕ) (ns : List ℕ) (d : ℕ) → AllByRecursion (λ n. n ≤ bound) ns → list_any (λ n. n == d) ns ≡ true → d ≤ bound
among_within bound [] d all h = cc
among_within bound (n ∷ ns) d all h = by_test (n == d) refl (λ rest. among_within bound ns d all.1 rest) h
  where
    by_test : (b : Bool) → (n == d) ≡ b → (list_any (λ n. n == d) ns ≡ true → d ≤ bound) → (b || list_any (λ n. n == d) ns) ≡ true → d ≤ bound
    by_test true same later here = subst (λ k. k ≤ bound) (eqb-true n d same) all.0
    by_test false other later rest = later rest

-- ---- the records that trees have

-- committed cells have the records' values
pub rows_of_cells : (records : List (Name × Stored)) → committed_rows (map committed_cell records) ≡ values_of records
rows_of_cells [] = refl
rows_of_cells (r ∷ records) = ap (λ (l : List Row). (r.0, r.1.value) ∷ l) (rows_of_cells records)

-- and no change
quiet_cells : (records : List (Name × Stored)) (x : Name) → write_in (value_at x (map committed_cell records)) ≡ None
quiet_cells [] x = refl
quiet_cells (r ∷ records) x = by_test (is_eq (name_cmp x r.0)) (quiet_cells records x)
  where
    by_test : (b : Bool) → write_in (value_at x (map committed_cell records)) ≡ None →
        write_in (cond b (Some (record { value = Some r.1.value; write = None })) (value_at x (map committed_cell records))) ≡ None
    by_test true rest = refl
    by_test false rest = rest

pub are_quiet : (cells : AllCells) (stored : AllStored) → ((d : ℕ) → cells d ≡ map committed_cell (stored d)) → IsQuiet cells
are_quiet cells stored are d x = ap (λ (l : List (Name × Occupied)). write_in (value_at x l)) (are d) ∙ quiet_cells (stored d) x

-- the records of an environment that was recovered: in the catalog and in each database that it names those of the redo, and no others
pub record AreRecovered (redo : Redo) (rows : Rows) : Type 0 where
  pub kept : (d : ℕ) → is_kept (numbers_of (rows_of redo)) d ≡ true → rows d ≡ rows_of redo d
  pub none : (d : ℕ) → is_kept (numbers_of (rows_of redo)) d ≡ false → rows d ≡ []

pub are_recovered : (redo : Redo) (has : ℕ → Bool) (stored : AllStored) (cells : AllCells) → HasTrees redo has stored → ((d : ℕ) → cells d ≡ map committed_cell (stored d)) → AreRecovered redo (committed cells)
are_recovered redo has stored cells trees are = record {
  kept = λ d h. ap committed_rows (are d) ∙ rows_of_cells (stored d) ∙ rows_in_trees redo has stored d trees h;
  none = λ d h. ap committed_rows (are d) ∙ rows_of_cells (stored d) ∙ ap values_of (trees.none d h);
}

-- the catalog is as the redo has it
pub same_catalog : (redo : Redo) (rows : Rows) → AreRecovered redo rows → rows 0 ≡ rows_of redo 0
same_catalog redo rows is = is.kept 0 refl

pub same_numbers : (redo : Redo) (rows : Rows) → AreRecovered redo rows → numbers_of rows ≡ numbers_of (rows_of redo)
same_numbers redo rows is = ap (λ (l : List Row). map (λ (r : Row). catalog_number r.1) l) (same_catalog redo rows is)

-- each name has its number there
pub same_named_numbers : (redo : Redo) (rows : Rows) → AreRecovered redo rows → (name : List ℕ) → number_named rows name ≡ number_named (rows_of redo) name
same_named_numbers redo rows is name = ap (λ (l : List Row). number_or_0 (record_in (data_at (plain_name name) l))) (same_catalog redo rows is)

-- and so are the databases that it names
same_named : (redo : Redo) (rows : Rows) → AreRecovered redo rows → AllByRecursion (λ n. rows n ≡ rows_of redo n) (numbers_of (rows_of redo))
same_named redo rows is =
    let ns : List ℕ = numbers_of (rows_of redo) in
    all_weaker (λ n. list_any (λ m. m == n) ns ≡ true) (λ n. rows n ≡ rows_of redo n) (λ n h. is.kept n (ap (λ (b : Bool). (n == 0) || b) h ∙ or_true (n == 0))) ns (each_among ns)

pub recovered_store : (redo : Redo) (rows : Rows) → AreRecovered redo rows → store_of rows ≡ store_of (rows_of redo)
recovered_store redo rows is = same_store rows (rows_of redo) (same_catalog redo rows is) (same_named redo rows is)

pub recovered_environment : (redo : Redo) (rows : Rows) → AreRecovered redo rows → is_environment rows ≡ is_environment (rows_of redo)
recovered_environment redo rows is = same_environment rows (rows_of redo) (same_catalog redo rows is) (same_named redo rows is)

pub recovered_rising : (redo : Redo) (rows : Rows) → AreRecovered redo rows → ((d : ℕ) → IsRising (rows_of redo d)) → (d : ℕ) → IsRising (rows d)
recovered_rising redo rows is up d = by_kept (is_kept (numbers_of (rows_of redo)) d) refl
  where
    by_kept : (b : Bool) → is_kept (numbers_of (rows_of redo)) d ≡ b → IsRising (rows d)
    by_kept true h = subst IsRising (sym (is.kept d h)) (up d)
    by_kept false h = subst IsRising (sym (is.none d h)) rising-nil

-- a database has a tree where the catalog names it
pub trees_made : (redo : Redo) (has : ℕ → Bool) (stored : AllStored) (rows : Rows) (d : ℕ) → HasTrees redo has stored → AreRecovered redo rows → has d ≡ has_number (numbers_of rows) d
trees_made redo has stored rows d trees is = trees.trees d ∙ ap (λ (ns : List ℕ). has_number ns d) (sym (same_numbers redo rows is))
