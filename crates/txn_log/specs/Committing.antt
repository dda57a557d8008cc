-- What a transaction's own changes come to where it commits them.
use Rattle.std.specs.Prelude.{ℕ, ◌≡◌, ◌≢◌, ◌<◌, ◌≤◌, ◌∷◌, ◌+◌, ◌++◌, true, false, List, [], map, length}
use Rattle.std.specs.List.{AllByRecursion}
use Rattle.store_model.specs.declared.change.Change.{Change}
use Rattle.store_model.specs.declared.change.Change.TheVariants.{Remove, Rename, Empty}
use Rattle.store_model.specs.Store.{all_changed, change_in, record_count}
use Rattle.store_model.specs.Refusals.{made_by}
use Rattle.je_answers.specs.Standing.{Standing}
use Rattle.je_answers.specs.Views.{changes_named}
use Rattle.log_replay.specs.Rows.{Rows, IsRising, data_at, is_environment, numbers_of, rows_changed, store_of}
use Rattle.log_replay.specs.Kept.{MayBeLogged}
use Rattle.log_replay.specs.Laws.{one_if}
use Rattle.log_replay.specs.Logging.{number_named, row_changes}
use Rattle.je_answers.specs.Standing.{all_numbered}
use Rattle.txn_log.specs.Own.{OwnChange, row_of, tree_of}
use Rattle.txn_log.specs.Leaves.{LeavesRecords}

-- an own change may be committed where these are the records: its database is there, and what it sets or takes out is a record of its kind
abbrev pub MayBeCommitted : Rows → OwnChange → Type 0
MayBeCommitted rows c = (name : List ℕ) × (number_named rows name ≡ c.0) × MayBeLogged rows 0 (change_in name c.1)

-- the records after own changes, in order
abbrev pub rows_own : List OwnChange → Rows → Rows
rows_own own rows = rows_changed (map row_of own) rows

-- records make a standing's store, with its databases' numbers
pub record MakesStore (rows : Rows) (last_db : ℕ) (st : Standing) : Type 0 where
  pub environment : is_environment rows ≡ true
  pub rising : (d : ℕ) → IsRising (rows d)
  pub unused : (d : ℕ) → last_db < d → rows d ≡ []
  pub numbers : AllByRecursion (λ n. n ≤ last_db) (numbers_of rows)
  pub store : store_of rows ≡ st.store
  pub named : (name : List ℕ) → number_named rows name ≡ st.numbers name

-- Own changes are committed: the records are as they leave them, and make the store that the changes of the store with their names leave. No
-- database's number changes, nor how many there are.
pub record OwnAreCommitted (rows : Rows) (last_db : ℕ) (st : Standing) (own : List OwnChange) : Type 0 where
  pub leaves : LeavesRecords rows (rows_own own rows) last_db last_db (λ d. false) (map tree_of own)
  pub store : store_of (rows_own own rows) ≡ all_changed (changes_named st own) (store_of rows)
  pub named : (name : List ℕ) → number_named (rows_own own rows) name ≡ number_named rows name
  pub numbers : all_numbered (changes_named st own) st.last_db st.numbers ≡ st.numbers
  pub made : made_by (changes_named st own) ≡ 0
  pub some : own ≢ [] → changes_named st own ≢ []
  pub databases : length (store_of (rows_own own rows)).databases ≡ length (store_of rows).databases

abbrev pub OwnMayBeCommitted : Type 0
OwnMayBeCommitted = (rows : Rows) (last_db : ℕ) (st : Standing) (own : List OwnChange) → MakesStore rows last_db st → AllByRecursion (MayBeCommitted rows) own → OwnAreCommitted rows last_db st own

-- ---- own changes that stay

-- it may be committed still behind changes that leave the catalog
abbrev pub MayStay : Type 0
MayStay = (rows later : Rows) (c : OwnChange) → later 0 ≡ rows 0 → MayBeCommitted rows c → MayBeCommitted later c

-- whether a change of the catalog is of another database than that of this number
abbrev pub IsElsewhere : Rows → Change → ℕ → Type 0
IsElsewhere rows (Remove db) number = number_named rows db ≢ number
IsElsewhere rows (Rename db to) number = number_named rows db ≢ number
IsElsewhere rows (Empty db) number = number_named rows db ≢ number
IsElsewhere rows change number = Unit {0}

-- and behind a change of the store that is of another database
abbrev pub MayStayElsewhere : Type 0
MayStayElsewhere = (rows later : Rows) (last_db : ℕ) (change : Change) (c : OwnChange) → MayBeLogged rows last_db change → later 0 ≡ rows_changed (row_changes 0 last_db change rows) rows 0
    → IsElsewhere rows change c.0 → MayBeCommitted rows c → MayBeCommitted later c

-- ---- how many records

-- how many of some own changes, in order, set or take out a name that has a record just then
abbrev pub records_had : List OwnChange → Rows → ℕ
records_had [] rows = 0
records_had (c ∷ own) rows = one_if (data_at (row_of c).name (rows c.0)) + records_had own (rows_own (c ∷ []) rows)

-- how many of them set a name
abbrev pub records_set : List OwnChange → ℕ
records_set [] = 0
records_set (c ∷ own) = one_if (row_of c).value + records_set own

-- the records of the store behind a commit
abbrev pub RecordsAreCounted : Type 0
RecordsAreCounted = (rows : Rows) (last_db : ℕ) (st : Standing) (own : List OwnChange) → MakesStore rows last_db st → AllByRecursion (MayBeCommitted rows) own
    → record_count (all_changed (changes_named st own) st.store) + records_had own rows ≡ record_count st.store + records_set own

-- further own changes are counted on the records that the first ones leave
abbrev pub HadGoOn : Type 0
HadGoOn = (rows : Rows) (own more : List OwnChange) → records_had (own ++ more) rows ≡ records_had own rows + records_had more (rows_own own rows)

-- and what others commit meanwhile does not matter, where it is of other names
abbrev pub HadStay : Type 0
HadStay = (rows later : Rows) (own : List OwnChange) → AllByRecursion (λ c. data_at (row_of c).name (later c.0) ≡ data_at (row_of c).name (rows c.0)) own
    → records_had own later ≡ records_had own rows
