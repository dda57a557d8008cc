-- The own changes of transactions, as a log has them and as trees do.
use Rattle.std.specs.Prelude.{ℕ, ◌≡◌, ◌≢◌, ◌==◌, ◌&&◌, ◌||◌, nat_lt, Bool, true, false, List, Option, Some, None, find, map, reverse}
use Rattle.std.specs.List.{AllByRecursion, list_any}
use Rattle.std.specs.Option.{option_map}
use Rattle.std.specs.Ordering.{is_eq}
use Rattle.je_order.specs.Order.{name_cmp}
use Rattle.je_order.specs.declared.name.Name.{Name}
use Rattle.store_model.specs.declared.record_change.RecordChange.{RecordChange}
use Rattle.store_model.specs.declared.record_change.RecordChange.TheVariants.{Set, Unset}
use Rattle.store_model.specs.Needs.{changed_name}
use Rattle.log_replay.specs.Rows.{RowChange}
use Rattle.log_trees.specs.Changes.{LoggedChange}
use Rattle.record_tree.specs.declared.tree_change.TreeChange.{TreeChange}

-- a change of a transaction under way: the database's number, and the change
abbrev pub OwnChange : Type 0
OwnChange = ℕ × RecordChange

-- what is done to a name: it is set to data, or taken out
abbrev pub change_to : Name → Option (List ℕ) → RecordChange
change_to name (Some value) = Set name value
change_to name None = Unset name

-- the data that a change sets its name to, None where it takes it out
abbrev pub value_to : RecordChange → Option (List ℕ)
value_to (Set at value) = Some value
value_to (Unset at) = None

-- a logged change as an own change of its transaction
abbrev pub own_by : LoggedChange → OwnChange
own_by c = (c.db, change_to c.name c.written.value)

-- a change of a tree as an own change
abbrev pub own_of : TreeChange → OwnChange
own_of c = (c.db, change_to c.name c.value)

-- an own change as a change of a tree, and as a change of records
abbrev pub tree_of : OwnChange → TreeChange
tree_of c = record { db = c.0; name = changed_name c.1; value = value_to c.1; makes = None }

abbrev pub row_of : OwnChange → RowChange
row_of c = record { txn = 0; db = c.0; name = changed_name c.1; value = value_to c.1 }

-- whether own changes have one of a name
abbrev pub is_own_of : ℕ → Name → OwnChange → Bool
is_own_of d x c = (c.0 == d) && is_eq (name_cmp (changed_name c.1) x)

abbrev pub has_own : ℕ → Name → List OwnChange → Bool
has_own d x own = list_any (is_own_of d x) own

-- no other transaction under way has an own change of a name that one of these changes is of
abbrev pub AreFreeNames : (ℕ → Bool) → (ℕ → List OwnChange) → ℕ → List TreeChange → Type 0
AreFreeNames is_active own t changes = AllByRecursion (λ c. (u : ℕ) → is_active u ≡ true → u ≢ t → has_own c.db c.name (own u) ≡ false) changes

-- the transactions under way, and numbers that were not allocated
abbrev pub is_live : ℕ → (ℕ → Bool) → ℕ → Bool
is_live last_txn is_active t = nat_lt last_txn t || is_active t

-- a transaction that has no last own change of a name has none
abbrev pub NoneIsLast : Type 0
NoneIsLast = (d : ℕ) (x : Name) (own : List OwnChange) → option_map (λ c. c.1) (find (λ c. (c.0 == d) && is_eq (name_cmp x (changed_name c.1))) (reverse own)) ≡ None → has_own d x own ≡ false

-- changes of trees that make no database are those of their own changes
abbrev pub TreesAreOwn : Type 0
TreesAreOwn = (changes : List TreeChange) → AllByRecursion (λ c. c.makes ≡ None) changes → map tree_of (map own_of changes) ≡ changes

-- and back
abbrev pub OwnAreTrees : Type 0
OwnAreTrees = (own : List OwnChange) → map own_of (map tree_of own) ≡ own
