-- Records with their LSNs, as those of an environment, and which of them is wrong first.
use Rattle.std.specs.Prelude.{ℕ, List, Option, filter, not, unwrap_or, option_map}
use Rattle.je_order.specs.declared.name.Name.{Name}
use Rattle.record_map.specs.Cells.{value_at}
use Rattle.record_tree.specs.Stored.{AllStored}
pub use Rattle.record_tree.specs.Stored.{values_of}
use Rattle.log_replay.specs.Rows.{Row, Rows, catalog_number, catalog_kind, are_right}
use Rattle.recovery_je.specs.declared.numbered.Numbered.{Numbered}
use Rattle.log_replay.specs.Wrong.{least, numbered_by, wrong_under, wrong_record}

-- records without their LSNs
abbrev pub values_in : AllStored → Rows
values_in stored d = values_of (stored d)

-- the LSN of the record of a name, 0 where there is none
abbrev pub lsn_of : AllStored → ℕ → Name → ℕ
lsn_of stored d x = unwrap_or (option_map (λ s. s.at) (value_at x (stored d))) 0

-- the number and the kind in a catalog record
abbrev pub numbered_of : Row → Numbered
numbered_of row = record { number = catalog_number row.1; kind = catalog_kind row.1 }

-- the type of what a function gives
abbrev pub given_by : {A B : Type 0} → (A → B) → Type 0
given_by {A} {B} f = B

-- a number and a kind, as the rules of environments have them
abbrev pub Found : Type 0
Found = given_by numbered_by

abbrev pub as_found : Numbered → Found
as_found d = record { number = d.number; kind = d.kind }

-- of these databases, the one with the least number that has a wrong record
abbrev pub wrong_among : AllStored → List Found → Option Found
wrong_among stored databases = least (filter (λ d. not (are_right d.kind (values_of (stored d.number)))) databases)

-- the LSN of the first wrong record of a database, and of databases
abbrev pub wrong_lsn_of : AllStored → Option Found → Option ℕ
wrong_lsn_of stored d = option_map (λ place. lsn_of stored place.db place.name) (wrong_under (values_in stored) d)

abbrev pub wrong_lsn_under : AllStored → List Found → Option ℕ
wrong_lsn_under stored databases = wrong_lsn_of stored (wrong_among stored databases)

-- the LSN of the first record that is wrong
abbrev pub wrong_lsn_in : AllStored → Option ℕ
wrong_lsn_in stored = option_map (λ place. lsn_of stored place.db place.name) (wrong_record (values_in stored))
