-- Own changes of transactions in a primary and in its index.
use Rattle.std.specs.Prelude.{ℕ, ◌≡◌, ◌⊎◌, ◌++◌, ◌∷◌, [], List, false, Some, flat_map}
use Rattle.std.specs.List.{AllByRecursion}
use Rattle.je_order.specs.Order.{is_same_bytes}
use Rattle.store_model.specs.declared.kind.Kind.TheVariants.{Plain, Dup}
use Rattle.store_model.specs.declared.index.Index.{Index}
use Rattle.store_model.specs.declared.record_change.RecordChange.{RecordChange}
use Rattle.store_model.specs.declared.record_change.RecordChange.TheVariants.{Set, Unset}
use Rattle.store_model.specs.Store.{Pair, HasRisingNames, all_pairs_changed, changed_name}
use Rattle.store_model.specs.Indexes.{index_pairs, data_under, changes_in}

-- ---- what changes are of

-- no change of the record of a key, and in an index none of its pair
abbrev pub HasNoneOf : List ℕ → List RecordChange → Type 0
HasNoneOf key own = AllByRecursion (λ c. is_same_bytes (changed_name c).key key ≡ false) own

abbrev pub HasNoPairOf : List ℕ → List RecordChange → Type 0
HasNoPairOf key own = AllByRecursion (λ c. is_same_bytes (changed_name c).dup key ≡ false) own

-- two transactions change no record both
abbrev pub AreApart : List RecordChange → List RecordChange → Type 0
AreApart own other = (key : List ℕ) → HasNoneOf key own ⊎ HasNoneOf key other

-- one record is set, or some are taken out: what a call changes
abbrev pub IsUnset : RecordChange → Type 0
IsUnset (Set at value) = ⊥
IsUnset (Unset at) = Unit {0}

abbrev pub AreOfOneCall : List RecordChange → Type 0
AreOfOneCall (Set at value ∷ []) = Unit {0}
AreOfOneCall changes = AllByRecursion IsUnset changes

-- ---- an index that keeps up

-- own changes in a primary, and own changes in its index: with both the index has the pairs of the records, and in it only pairs of records change that
-- change
pub record KeepUp (index : Index) (records pairs : List Pair) (own own_pairs : List RecordChange) : Type 0 where
  pub same : all_pairs_changed Dup own_pairs pairs ≡ index_pairs index.extract (all_pairs_changed Plain own records)
  pub only : (key : List ℕ) → HasNoneOf key own → HasNoPairOf key own_pairs

-- another transaction commits
abbrev pub OthersKeepUp : Type 0
OthersKeepUp = (index : Index) (records pairs : List Pair) (own own_pairs other other_pairs : List RecordChange) →
    HasRisingNames Plain records → HasRisingNames Dup pairs → AreApart own other → KeepUp index records pairs own own_pairs → KeepUp index records pairs other other_pairs →
    KeepUp index (all_pairs_changed Plain other records) (all_pairs_changed Dup other_pairs pairs) own own_pairs

-- each of these records is seen as it is for the transaction
abbrev pub AreSeen : List Pair → List Pair → List RecordChange → Type 0
AreSeen seen records changes = AllByRecursion (λ c. data_under (changed_name c).key seen ≡ data_under (changed_name c).key records) changes

-- a call adds changes, with those in the index that come with them
abbrev pub CallsKeepUp : Type 0
CallsKeepUp = (index : Index) (records pairs seen : List Pair) (own own_pairs changes : List RecordChange) →
    HasRisingNames Plain records → HasRisingNames Dup pairs → AreOfOneCall changes → AreSeen seen (all_pairs_changed Plain own records) changes →
    KeepUp index records pairs own own_pairs → KeepUp index records pairs (own ++ changes) (own_pairs ++ flat_map (changes_in (Some index) seen) changes)

-- ---- the own changes of all

-- the own changes of a transaction in the primary and in the index
abbrev pub Owns : Type 0
Owns = List RecordChange × List RecordChange

abbrev pub AreAllApart : List Owns → Type 0
AreAllApart [] = Unit {0}
AreAllApart (o ∷ os) = AllByRecursion (λ other. AreApart other.0 o.0) os × AreAllApart os

abbrev pub AllKeepUp : Type 0
AllKeepUp = (index : Index) (records pairs : List Pair) (owns : List Owns) → HasRisingNames Plain records → HasRisingNames Dup pairs →
    pairs ≡ index_pairs index.extract records → AllByRecursion (λ o. KeepUp index records pairs o.0 o.1) owns → AreAllApart owns →
    all_pairs_changed Dup (flat_map (λ o. o.1) owns) pairs ≡ index_pairs index.extract (all_pairs_changed Plain (flat_map (λ o. o.0) owns) records)
