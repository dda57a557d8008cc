-- What is wrong with the records in trees.
use Rattle.std.specs.Prelude.{ℕ, not, List, [], ◌++◌, filter, map}
use Rattle.std.specs.List.{flat_map}
use Rattle.je_order.specs.declared.name.Name.{Name}
use Rattle.record_tree.specs.Stored.{AllStored}
use Rattle.log_replay.specs.declared.corruption.Corruption.TheVariants.{Tree}
use Rattle.log_replay.specs.Rows.{Rows, are_right}
use Rattle.check_laws.specs.declared.finding.Finding.{Finding}
use Rattle.check_laws.specs.declared.finding.Finding.TheVariants.{Wrong}
use Rattle.check_laws.specs.Parts.{in_number_order, wrong_databases, wrongs_in, wrongs_in_catalog}
use Rattle.check_laws.specs.Rest.{catalog_left}
use Rattle.recovery_je.specs.Checking.{Found, lsn_of, values_in}

-- a record that is wrong, by the LSNs of records
abbrev pub wrong_at : (ℕ → Name → ℕ) → ℕ → Name → Finding
wrong_at lsns d x = Wrong (Tree (lsns d x))

-- those of a database, and those of databases in order
abbrev pub wrongs_of : (ℕ → Name → ℕ) → Rows → Found → List Finding
wrongs_of lsns rows d = map (wrong_at lsns d.number) (wrongs_in d.kind (rows d.number))

abbrev pub wrongs_of_all : (ℕ → Name → ℕ) → Rows → List Found → List Finding
wrongs_of_all lsns rows databases = flat_map (wrongs_of lsns rows) databases

-- those of the catalog, and then those of the databases that it still names
abbrev pub wrongs_by : (ℕ → Name → ℕ) → Rows → List Finding
wrongs_by lsns rows = map (wrong_at lsns 0) (wrongs_in_catalog (rows 0) [] (rows 0)) ++ wrongs_of_all lsns rows (wrong_databases rows (catalog_left rows))

-- the databases with a wrong record, in order of their numbers
abbrev pub wrong_among_in_order : Rows → List Found → List Found
wrong_among_in_order rows databases = in_number_order (filter (λ d. not (are_right d.kind (rows d.number))) databases)

-- those in trees
abbrev pub wrongs_stored : AllStored → List Finding
wrongs_stored stored = wrongs_by (lsn_of stored) (values_in stored)
