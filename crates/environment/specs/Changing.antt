-- Changes of records as one call makes them: in its database, and in the indexes of that one.
use Rattle.std.specs.Prelude.{ℕ, ◌≡◌, ◌≢◌, ◌≤◌, ◌==◌, ◌&&◌, ◌∷◌, [], List, Bool, Some, true, false, is_some, length}
use Rattle.std.specs.List.{AllByRecursion}
use Rattle.std.specs.Ordering.{is_eq}
use Rattle.je_order.specs.Order.{name_cmp}
use Rattle.log_entry.specs.Fields.{IsName}
use Rattle.store_model.specs.declared.record_change.RecordChange.{RecordChange}
use Rattle.store_model.specs.declared.record_change.RecordChange.TheVariants.{Set, Unset}
use Rattle.store_model.specs.Indexes.{Numbered}
use Rattle.store_model.specs.Needs.{changed_name}
use Rattle.je_answers.specs.Standing.{Standing, database_at}
use Rattle.je_answers.specs.Views.{with_numbers}
use Rattle.log_replay.specs.Rows.{Rows, data_at}
use Rattle.record_tree.specs.declared.tree_change.TreeChange.{TreeChange}
use Rattle.txn_views.specs.Seen.{is_right_change}

-- a change is of a database of the standing, by its number, and is right there
pub record IsRightIn (st : Standing) (c : Numbered × RecordChange) : Type 0 where
  pub there : database_at c.0.0 st ≡ Some c.0.1
  pub named : st.numbers c.0.1.name ≡ c.0.0
  pub above : c.0.0 ≢ 0
  pub right : is_right_change c.0.1.kind c.1 ≡ true

-- it makes an entry that can be encoded
abbrev pub FitsEntry : RecordChange → Type 0
FitsEntry (Set at value) = IsName at × (length value ≤ 65536)
FitsEntry (Unset at) = IsName at

-- no two changes are of one name in one database
abbrev pub AreApartIn : List (ℕ × RecordChange) → Type 0
AreApartIn [] = Unit {0}
AreApartIn (c ∷ cs) = AllByRecursion (λ e. ((c.0 == e.0) && is_eq (name_cmp (changed_name c.1) (changed_name e.1))) ≡ false) cs × AreApartIn cs

-- changes that a call may make: each is right in its database and can be logged, and no two are of one name
pub record MayMake (st : Standing) (cs : List (Numbered × RecordChange)) : Type 0 where
  pub right : AllByRecursion (IsRightIn st) cs
  pub fits : AllByRecursion (λ c. FitsEntry c.1) cs
  pub apart : AreApartIn (with_numbers cs)

-- whether the name of a change has a committed record
abbrev pub has_data : Rows → TreeChange → Bool
has_data rows c = is_some (data_at c.name (rows c.db))

-- whether a change sets a record
abbrev pub sets_data : TreeChange → Bool
sets_data c = is_some c.value
