-- What one more transaction in a log leaves.
use Rattle.std.proofs.Common.{◌≡◌, ℕ, ◌+◌, ◌<◌, ◌≤◌, List, [], ◌∷◌, ◌++◌, Bool, true, false, not, ◌==◌, Option, None, Some, map, refl, ap, ap₂, sym, ◌∙◌, subst, arith, append-nil, append_assoc}
use Rattle.std.specs.List.{AllByRecursion, flat_map}
use mathlib.Core.Path.{fun_ext}
use Rattle.std.proofs.lemmas.Bool.{ne_eqb, eq-eqb, not_from_false, not_from_true}
use Rattle.std.proofs.lemmas.List.Elements.{filter-append}
use Rattle.log_entry.specs.declared.entry.Entry.{Entry}
use Rattle.log_entry.specs.Encoding.{size_of}
use Rattle.log_file.specs.Scan.{may_follow}
use Rattle.log_entry.specs.declared.entry.Entry.TheVariants.{Commit}
use Rattle.db_catalog.specs.declared.catalog_change.CatalogChange.{CatalogChange}
use Rattle.db_catalog.specs.declared.catalog_change.CatalogChange.TheVariants.{Put as PutRecord, Delete as DeleteRecord}
use Rattle.db_catalog.specs.declared.db_record.DbRecord.{DbRecord}
use Rattle.db_catalog.specs.Catalog.{IsKind, IsRecord}
use Rattle.db_catalog.specs.Planning.{logged_as, index_in_catalog, renumbered}
use Rattle.store_model.specs.declared.change.Change.{Change}
use Rattle.store_model.specs.declared.change.Change.TheVariants.{Set, Unset, Make, MakeIndex, Remove, Rename, Empty}
use Rattle.store_model.specs.declared.kind.Kind.{Kind}
use Rattle.store_model.specs.Evaluation.{plain_name}
use Rattle.store_model.specs.Store.{proper, all_changed}
use Rattle.store_model.specs.Refusals.{made_by}
use Rattle.log_replay.specs.Rows.{data_at, number_or_0, kind_or_plain, is_right_row, Row, Rows, RowChange, row_changed, rows_changed, catalog_number, IsRising, store_of}
use Rattle.log_replay.specs.Replay.{Replay, nothing_replayed, changes_of, changes_of_others, replayed_entry, replayed}
use Rattle.log_replay.specs.Logging.{record_in, record_named, number_named, kind_named, catalog_row_change, row_changes, last_db_after, all_row_changes, entry_with, row_entry, entries_with, catalog_entry}
use Rattle.log_replay.specs.Kept.{IsOfBefore, IsKept, IsRecordChange, MayBeLogged, AllMayBeLogged, all_numbered}
use Rattle.log_replay.specs.Laws.{TransactionsAreKept, StoresAreChanged, NumbersAreChanged, KeptIsRight, DatabasesByNumber, ChangedByAnyTransaction, LoggedAsEntries, RecordsMayBeLogged, RecordsAreLogged, EntriesFollow, SizesOfAnyNumbers}
use Rattle.log_replay.proofs.ListLaws.{all_of_map, all_to_map, filter-all, filter-none}
use Rattle.je_order.proofs.Lists.{all_weaker, all_append}
use Rattle.log_replay.proofs.StoreLaws.{row_changed-there, number_of_row, store_of-same, environment_parts, primaries_in, environment_from, rising-row_changed, database_of-numbered, database_of-absent}
use Rattle.log_replay.proofs.WrongLaws.{environment_is_none}
use Rattle.log_replay.proofs.LogLaws.{IsWithin, AreWithin, within-all_changed}
use Rattle.log_replay.proofs.ReplayLaws.{replayed-append}
use Rattle.log_replay.proofs.LoggedLaws.{IsSound, step, number-within, record_for, record_fits, record_number, record_there, primary_record, fits-there, put_, rename-is, empty-is, index-is}

-- ---- the transaction's number

rows_changed-append : (a b : List RowChange) (rows : Rows) → rows_changed (a ++ b) rows ≡ rows_changed b (rows_changed a rows)
rows_changed-append [] b rows = refl
rows_changed-append (c ∷ a) b rows = rows_changed-append a b (row_changed c rows)

-- the changes of the catalog's records, by any transaction
catalog-any : (txn : ℕ) (changes : List CatalogChange) (rows : Rows) →
    rows_changed (map (catalog_row_change txn) changes) rows ≡ rows_changed (map (catalog_row_change 0) changes) rows
catalog-any txn [] rows = refl
catalog-any txn (PutRecord db row ∷ changes) rows = catalog-any txn changes (row_changed (catalog_row_change 0 (PutRecord db row)) rows)
catalog-any txn (DeleteRecord db ∷ changes) rows = catalog-any txn changes (row_changed (catalog_row_change 0 (DeleteRecord db)) rows)

pub any_txn : (txn last_db : ℕ) (change : Change) (rows : Rows) → rows_changed (row_changes txn last_db change rows) rows ≡ rows_changed (row_changes 0 last_db change rows) rows
any_txn txn last_db (Set db at value) rows = refl
any_txn txn last_db (Unset db at) rows = refl
any_txn txn last_db (Make db kind) rows = catalog-any txn (logged_as (record_named rows) (last_db + 1) (Make db kind)) rows
any_txn txn last_db (MakeIndex db index) rows = catalog-any txn (logged_as (record_named rows) (last_db + 1) (MakeIndex db index)) rows
any_txn txn last_db (Remove db) rows = catalog-any txn (logged_as (record_named rows) (last_db + 1) (Remove db)) rows
any_txn txn last_db (Rename db to) rows = catalog-any txn (logged_as (record_named rows) (last_db + 1) (Rename db to)) rows
any_txn txn last_db (Empty db) rows = catalog-any txn (logged_as (record_named rows) (last_db + 1) (Empty db)) rows

-- what several changes leave, one after another
abbrev pub rows_after : ℕ → ℕ → List Change → Rows → Rows
rows_after txn last_db changes rows = rows_changed (all_row_changes txn last_db changes rows) rows

rows_after-next : (txn last_db : ℕ) (change : Change) (changes : List Change) (rows : Rows) →
    rows_after txn last_db (change ∷ changes) rows ≡ rows_after txn (last_db_after last_db change) changes (rows_changed (row_changes txn last_db change rows) rows)
rows_after-next txn last_db change changes rows =
    rows_changed-append (row_changes txn last_db change rows) (all_row_changes txn (last_db_after last_db change) changes (rows_changed (row_changes txn last_db change rows) rows)) rows

all_any : (txn last_db : ℕ) (changes : List Change) (rows : Rows) → rows_after txn last_db changes rows ≡ rows_after 0 last_db changes rows
all_any txn last_db [] rows = refl
all_any txn last_db (change ∷ changes) rows =
    rows_after-next txn last_db change changes rows
    ∙ all_any txn (last_db_after last_db change) changes (rows_changed (row_changes txn last_db change rows) rows)
    ∙ ap (λ (r : Rows). rows_after 0 (last_db_after last_db change) changes r) (any_txn txn last_db change rows)
    ∙ sym (rows_after-next 0 last_db change changes rows)

pub changed_by_any : ChangedByAnyTransaction
changed_by_any txn last_db changes rows db = ap (λ (r : Rows). r db) (all_any txn last_db changes rows)

-- ---- entries of one change

catalog-entries : (txn : ℕ) (changes : List CatalogChange) → map row_entry (map (catalog_row_change txn) changes) ≡ map (catalog_entry txn) changes
catalog-entries txn [] = refl
catalog-entries txn (PutRecord db row ∷ changes) = ap (λ (l : List Entry). catalog_entry txn (PutRecord db row) ∷ l) (catalog-entries txn changes)
catalog-entries txn (DeleteRecord db ∷ changes) = ap (λ (l : List Entry). catalog_entry txn (DeleteRecord db) ∷ l) (catalog-entries txn changes)

pub logged_as_entries : LoggedAsEntries
logged_as_entries txn last_db (Set db at value) rows = refl
logged_as_entries txn last_db (Unset db at) rows = refl
logged_as_entries txn last_db (Make db kind) rows = catalog-entries txn (logged_as (record_named rows) (last_db + 1) (Make db kind))
logged_as_entries txn last_db (MakeIndex db index) rows = catalog-entries txn (logged_as (record_named rows) (last_db + 1) (MakeIndex db index))
logged_as_entries txn last_db (Remove db) rows = catalog-entries txn (logged_as (record_named rows) (last_db + 1) (Remove db))
logged_as_entries txn last_db (Rename db to) rows = catalog-entries txn (logged_as (record_named rows) (last_db + 1) (Rename db to))
logged_as_entries txn last_db (Empty db) rows = catalog-entries txn (logged_as (record_named rows) (last_db + 1) (Empty db))

follow-all : (cs : List RowChange) (txn : ℕ) → AllByRecursion (λ e. may_follow e ≡ true) (map row_entry cs ++ Commit (record { 0 = txn }) ∷ [])
follow-all [] txn = (refl, tt)
follow-all (c ∷ cs) txn = (by_value c.value, follow-all cs txn)
  where
    by_value : (v : Option (List ℕ)) → may_follow (entry_with c.txn c.db c.name v) ≡ true
    by_value None = refl
    by_value (Some value) = refl

pub entries_follow : EntriesFollow
entries_follow txn last_db changes rows = follow-all (all_row_changes txn last_db changes rows) txn

pub sizes_of_any_numbers : SizesOfAnyNumbers
sizes_of_any_numbers txn db c = by_value c.value
  where
    by_value : (v : Option (List ℕ)) → size_of (entry_with txn db c.name v) ≡ size_of (entry_with c.txn c.db c.name v)
    by_value None = refl
    by_value (Some value) = refl

-- ---- a change within the numbers

-- a change's own changes of records are by its transaction, and within the numbers after it
pub record IsOwn (txn last_db : ℕ) (c : RowChange) : Type 0 where
  pub by : c.txn ≡ txn
  pub within : IsWithin txn last_db c

put-own : (txn last_db : ℕ) (db : List ℕ) (r : DbRecord) → IsRecord r → r.number ≡ last_db + 1 → AllByRecursion (IsOwn txn (last_db + 1)) (put_ txn db r ∷ [])
put-own txn last_db db r fits number = (
  record { by = refl; within = record { txn = omega arith; db = omega arith; number = λ e. let is = record_number r fits in omega (arith, number, is) } },
  tt,
)

own-changes : (txn last_db : ℕ) (change : Change) (rows : Rows) → IsSound rows last_db → MayBeLogged rows last_db change →
    AllByRecursion (IsOwn txn (last_db_after last_db change)) (row_changes txn last_db change rows)
own-changes txn last_db (Set db at value) rows sound may = (
  record {
    by = refl;
    within = record {
      txn = omega arith;
      db = let low = number-within rows last_db db sound may.0 in omega (arith, low);
      number = λ e. absurd (may.0 e);
    };
  },
  tt,
)
own-changes txn last_db (Unset db at) rows sound may = (
  record {
    by = refl;
    within = record {
      txn = omega arith;
      db = let low = number-within rows last_db db sound may.0 in omega (arith, low);
      number = λ e. tt;
    };
  },
  tt,
)
own-changes txn last_db (Make db kind) rows sound may =
    put-own txn last_db db (record_for (last_db + 1) kind) (record_fits (last_db + 1) kind may.3) refl
own-changes txn last_db (MakeIndex db index) rows sound may =
    let p = primary_record (record_named rows index.primary) may.4 in
    let r : DbRecord = record { number = last_db + 1; kind = index_in_catalog p.0.number index.extract } in
    subst (λ (l : List RowChange). AllByRecursion (IsOwn txn (last_db + 1)) l) (sym (index-is txn last_db db index rows p.0 p.1))
    (put-own txn last_db db r (may.3, subst (λ (n : ℕ). IsKind (index_in_catalog n index.extract)) (ap number_or_0 p.1) may.5) refl)
own-changes txn last_db (Remove db) rows sound may = (record { by = refl; within = record { txn = omega arith; db = omega arith; number = λ e. tt } }, tt)
own-changes txn last_db (Rename db to) rows sound may =
    let r = record_there (record_named rows db) may.0 in
    subst (λ (l : List RowChange). AllByRecursion (IsOwn txn (last_db + 0)) l) (sym (rename-is txn last_db db to rows r.0 r.1)) (
      record { by = refl; within = record { txn = omega arith; db = omega arith; number = λ e. tt } },
      (
        record {
          by = refl;
          within = record {
            txn = omega arith;
            db = omega arith;
            number = λ e.
                let low = number-within rows last_db db sound may.0 in
                let same : number_named rows db ≡ r.0.number = ap number_or_0 r.1 in
                let is = record_number r.0 (fits-there (record_named rows db) r.0 r.1 may.3) in omega (arith, low, same, is);
          };
        },
        tt,
      ),
    )
own-changes txn last_db (Empty db) rows sound may =
    let r = record_there (record_named rows db) may.0 in
    subst (λ (l : List RowChange). AllByRecursion (IsOwn txn (last_db + 1)) l) (sym (empty-is txn last_db db rows r.0 r.1))
    (put-own txn last_db db (renumbered (last_db + 1) r.0) (may.1, (fits-there (record_named rows db) r.0 r.1 may.2).1) refl)

-- ---- several changes

rising-changes : (cs : List RowChange) (rows : Rows) → ((db : ℕ) → IsRising (rows db)) → (db : ℕ) → IsRising (rows_changed cs rows db)
rising-changes [] rows up db = up db
rising-changes (c ∷ cs) rows up db = rising-changes cs (row_changed c rows) (λ d. rising-row_changed c rows d (up d)) db

-- records stay right, and no number is taken back
pub sound-after : (txn last_db : ℕ) (change : Change) (rows : Rows) → IsSound rows last_db → MayBeLogged rows last_db change →
    IsSound (rows_changed (row_changes txn last_db change rows) rows) (last_db_after last_db change)
sound-after txn last_db change rows sound may =
    let after : ℕ = last_db_after last_db change in
    let within : AreWithin after (rows_changed (row_changes txn last_db change rows) rows) =
    within-all_changed txn after (row_changes txn last_db change rows) rows
    (all_weaker (IsOwn txn after) (IsWithin txn after) (λ c h. h.within) (row_changes txn last_db change rows) (own-changes txn last_db change rows sound may))
    (record {
      unused = λ db above. sound.unused db (omega arith);
      numbers = all_weaker (λ (r : Row). catalog_number r.1 ≤ last_db) (λ r. catalog_number r.1 ≤ after) (λ r h. omega arith) (rows 0) sound.numbers;
    }) in
    record {
      environment = (step txn last_db change rows sound may).environment;
      primaries = (step txn last_db change rows sound may).primaries;
      rising = rising-changes (row_changes txn last_db change rows) rows sound.rising;
      unused = within.unused;
      numbers = within.numbers;
    }

made-more : (change : Change) (changes : List Change) → made_by (change ∷ changes) ≡ made_by (change ∷ []) + made_by changes
made-more (Set db at value) changes = omega arith
made-more (Unset db at) changes = omega arith
made-more (Make db kind) changes = omega arith
made-more (MakeIndex db index) changes = omega arith
made-more (Remove db) changes = omega arith
made-more (Rename db to) changes = omega arith
made-more (Empty db) changes = omega arith

-- what several changes of the store leave
pub record IsLeft (changes : List Change) (last_db : ℕ) (old new : Rows) : Type 0 where
  pub sound : IsSound new (last_db + made_by changes)
  pub store : store_of new ≡ all_changed changes (store_of old)
  pub numbers : number_named new ≡ all_numbered changes last_db (number_named old)

pub left : (last_db : ℕ) (changes : List Change) (rows : Rows) → IsSound rows last_db → AllMayBeLogged rows last_db changes → IsLeft changes last_db rows (rows_after 0 last_db changes rows)
left last_db [] rows sound may = record { sound = subst (IsSound rows) (omega arith) sound; store = refl; numbers = refl }
left last_db (change ∷ changes) rows sound may =
    let next : Rows = rows_changed (row_changes 0 last_db change rows) rows in
    let one = step 0 last_db change rows sound may.0 in
    let rest = left (last_db_after last_db change) changes next (sound-after 0 last_db change rows sound may.0) may.1 in
    let more = made-more change changes in
    subst (IsLeft (change ∷ changes) last_db rows) (sym (rows_after-next 0 last_db change changes rows)) (record {
      sound = subst (IsSound (rows_after 0 (last_db_after last_db change) changes next)) (omega (arith, more)) rest.sound;
      store = rest.store ∙ ap (all_changed changes) one.store;
      numbers = rest.numbers ∙ ap (all_numbered changes (last_db_after last_db change)) (fun_ext one.numbers);
    })

-- all of a transaction's changes of records are its own
all-own : (txn last_db : ℕ) (changes : List Change) (rows : Rows) → IsSound rows last_db → AllMayBeLogged rows last_db changes →
    AllByRecursion (λ (c : RowChange). c.txn ≡ txn) (all_row_changes txn last_db changes rows)
all-own txn last_db [] rows sound may = tt
all-own txn last_db (change ∷ changes) rows sound may =
    let next : Rows = rows_changed (row_changes txn last_db change rows) rows in
    all_append (λ (c : RowChange). c.txn ≡ txn) (row_changes txn last_db change rows) (all_row_changes txn (last_db_after last_db change) changes next)
    (all_weaker (IsOwn txn (last_db_after last_db change)) (λ c. c.txn ≡ txn) (λ c h. h.by) (row_changes txn last_db change rows) (own-changes txn last_db change rows sound may.0))
    (all-own txn (last_db_after last_db change) changes next (sound-after txn last_db change rows sound may.0)
    (subst (λ (r : Rows). AllMayBeLogged r (last_db_after last_db change) changes) (sym (any_txn txn last_db change rows)) may.1))

-- ---- changes of records alone, which leave the catalog

same_number : (old new : Rows) (name : List ℕ) → new 0 ≡ old 0 → number_named new name ≡ number_named old name
same_number old new name same = ap (λ (l : List Row). number_or_0 (record_in (data_at (plain_name name) l))) same

same_kind : (old new : Rows) (name : List ℕ) → new 0 ≡ old 0 → kind_named new name ≡ kind_named old name
same_kind old new name same = ap (λ (l : List Row). kind_or_plain (record_in (data_at (plain_name name) l))) same

may-same : (old new : Rows) (last_db now : ℕ) (change : Change) → new 0 ≡ old 0 → IsRecordChange change → MayBeLogged old last_db change → MayBeLogged new now change
may-same old new last_db now (Set db at value) same is may =
    (λ e. may.0 (sym (same_number old new db same) ∙ e), ap (λ (k : Kind). is_right_row k (at, value)) (same_kind old new db same) ∙ may.1)
may-same old new last_db now (Unset db at) same is may = (λ e. may.0 (sym (same_number old new db same) ∙ e), ap (λ (k : Kind). proper k at) (same_kind old new db same) ∙ may.1)
may-same old new last_db now (Make db kind) same is may = absurd is
may-same old new last_db now (MakeIndex db index) same is may = absurd is
may-same old new last_db now (Remove db) same is may = absurd is
may-same old new last_db now (Rename db to) same is may = absurd is
may-same old new last_db now (Empty db) same is may = absurd is

changes-same : (txn last_db now : ℕ) (old new : Rows) (change : Change) → new 0 ≡ old 0 → IsRecordChange change → row_changes txn now change new ≡ row_changes txn last_db change old
changes-same txn last_db now old new (Set db at value) same is =
    let make : ℕ → List RowChange = λ n. record { txn = txn; db = n; name = at; value = Some value } ∷ [] in ap make (same_number old new db same)
changes-same txn last_db now old new (Unset db at) same is =
    let make : ℕ → List RowChange = λ n. record { txn = txn; db = n; name = at; value = None } ∷ [] in ap make (same_number old new db same)
changes-same txn last_db now old new (Make db kind) same is = absurd is
changes-same txn last_db now old new (MakeIndex db index) same is = absurd is
changes-same txn last_db now old new (Remove db) same is = absurd is
changes-same txn last_db now old new (Rename db to) same is = absurd is
changes-same txn last_db now old new (Empty db) same is = absurd is

catalog-same : (txn last_db : ℕ) (change : Change) (rows : Rows) → IsRecordChange change → MayBeLogged rows last_db change →
    rows_changed (row_changes txn last_db change rows) rows 0 ≡ rows 0
catalog-same txn last_db (Set db at value) rows is may =
    row_changed-there (record { txn = txn; db = number_named rows db; name = at; value = Some value }) rows 0 (λ e. may.0 (sym e))
catalog-same txn last_db (Unset db at) rows is may =
    row_changed-there (record { txn = txn; db = number_named rows db; name = at; value = None }) rows 0 (λ e. may.0 (sym e))
catalog-same txn last_db (Make db kind) rows is may = absurd is
catalog-same txn last_db (MakeIndex db index) rows is may = absurd is
catalog-same txn last_db (Remove db) rows is may = absurd is
catalog-same txn last_db (Rename db to) rows is may = absurd is
catalog-same txn last_db (Empty db) rows is may = absurd is

-- from records with the same catalog on
records-may : (base rows : Rows) (last_db now : ℕ) (changes : List Change) → rows 0 ≡ base 0 →
    AllByRecursion (λ c. IsRecordChange c × MayBeLogged base last_db c) changes → AllMayBeLogged rows now changes
records-may base rows last_db now [] same h = tt
records-may base rows last_db now (c ∷ changes) same h =
    let may = may-same base rows last_db now c same h.0.0 h.0.1 in
    (may, records-may base (rows_changed (row_changes 0 now c rows) rows) last_db (last_db_after now c) changes (catalog-same 0 now c rows h.0.0 may ∙ same) h.1)

pub records_may_be_logged : RecordsMayBeLogged
records_may_be_logged rows last_db changes h = records-may rows rows last_db last_db changes refl h

records-logged : (base rows : Rows) (txn last_db now : ℕ) (changes : List Change) → rows 0 ≡ base 0 →
    AllByRecursion (λ c. IsRecordChange c × MayBeLogged base last_db c) changes → all_row_changes txn now changes rows ≡ flat_map (λ c. row_changes txn last_db c base) changes
records-logged base rows txn last_db now [] same h = refl
records-logged base rows txn last_db now (c ∷ changes) same h =
    let may = may-same base rows last_db now c same h.0.0 h.0.1 in
    ap₂ (λ (a b : List RowChange). a ++ b) (changes-same txn last_db now base rows c same h.0.0)
    (records-logged base (rows_changed (row_changes txn now c rows) rows) txn last_db (last_db_after now c) changes (catalog-same txn now c rows h.0.0 may ∙ same) h.1)

pub records_are_logged : RecordsAreLogged
records_are_logged txn last_db changes rows h = records-logged rows rows txn last_db last_db changes refl h

-- ---- entries behind a log

-- the entry of a change puts the change behind the pending ones
replayed-row_entry : (c : RowChange) (replay : Replay) → replayed_entry (row_entry c) replay ≡ record { rows = replay.rows; pending = replay.pending ++ c ∷ [] }
replayed-row_entry c replay = by_value c.value refl
  where
    make : Option (List ℕ) → RowChange
    make value = record { txn = c.txn; db = c.db; name = c.name; value = value }

    by_value : (v : Option (List ℕ)) → c.value ≡ v → replayed_entry (entry_with c.txn c.db c.name v) replay ≡ record { rows = replay.rows; pending = replay.pending ++ make v ∷ [] }
    by_value None e = refl
    by_value (Some value) e = refl

-- and those of several
pub replayed-row_entries : (cs : List RowChange) (replay : Replay) → replayed (map row_entry cs) replay ≡ record { rows = replay.rows; pending = replay.pending ++ cs }
replayed-row_entries [] replay =
    let with_pending : List RowChange → Replay = λ l. record { rows = replay.rows; pending = l } in sym (ap with_pending (append-nil replay.pending))
replayed-row_entries (c ∷ cs) replay =
    let with_pending : List RowChange → Replay = λ l. record { rows = replay.rows; pending = l } in
    ap (replayed (map row_entry cs)) (replayed-row_entry c replay)
    ∙ replayed-row_entries cs (with_pending (replay.pending ++ c ∷ []))
    ∙ ap with_pending (append_assoc replay.pending (c ∷ []) cs)

-- a transaction later than the pending ones does its changes and leaves them
replayed-transaction : (last_txn last_db txn : ℕ) (cs : List RowChange) (replay : Replay) → AllByRecursion (IsOfBefore last_txn last_db) replay.pending →
    last_txn < txn → AllByRecursion (λ (c : RowChange). c.txn ≡ txn) cs →
    replayed_entry (Commit (record { 0 = txn })) (record { rows = replay.rows; pending = replay.pending ++ cs })
    ≡ record { rows = rows_changed cs replay.rows; pending = replay.pending }
replayed-transaction last_txn last_db txn cs replay before later own =
    let test : RowChange → Bool = λ x. x.txn == txn in
    let others : AllByRecursion (λ (x : RowChange). test x ≡ false) replay.pending =
    all_weaker (IsOfBefore last_txn last_db) (λ x. test x ≡ false)
    (λ x h. ne_eqb x.txn txn (λ e. let b : x.txn ≤ last_txn = h.txn in absurd (omega arith))) replay.pending before in
    let passes : AllByRecursion (λ (x : RowChange). test x ≡ true) cs = all_weaker (λ (c : RowChange). c.txn ≡ txn) (λ x. test x ≡ true) (λ c e. eq-eqb c.txn txn e) cs own in
    let mine : changes_of txn (replay.pending ++ cs) ≡ cs =
    filter-append test replay.pending cs
    ∙ ap₂ (λ (a b : List RowChange). a ++ b) (filter-none test replay.pending others) (filter-all test cs passes) in
    let theirs : changes_of_others txn (replay.pending ++ cs) ≡ replay.pending =
    filter-append (λ x. not (test x)) replay.pending cs
    ∙ ap₂ (λ (a b : List RowChange). a ++ b)
    (filter-all (λ x. not (test x)) replay.pending
    (all_weaker (λ (x : RowChange). test x ≡ false) (λ x. not (test x) ≡ true) (λ x e. not_from_false (test x) e) replay.pending others))
    (filter-none (λ x. not (test x)) cs (all_weaker (λ (x : RowChange). test x ≡ true) (λ x. not (test x) ≡ false) (λ x e. not_from_true (test x) e) cs passes))
    ∙ append-nil replay.pending in
    let make : List RowChange → List RowChange → Replay = λ done left. record { rows = rows_changed done replay.rows; pending = left } in
    ap₂ make mine theirs

-- ---- laws

-- what is kept is right
pub sound-kept : (entries : List Entry) (rows : Rows) (last_txn last_db : ℕ) → IsKept entries rows last_txn last_db → IsSound rows last_db
sound-kept entries rows last_txn last_db kept = record {
  environment = environment_parts rows kept.environment;
  primaries = primaries_in rows kept.environment;
  rising = kept.rising;
  unused = kept.unused;
  numbers = all_of_map number_of_row (λ n. n ≤ last_db) (rows 0) kept.numbers;
}

pub transactions_are_kept : TransactionsAreKept
transactions_are_kept entries rows new_rows last_txn last_db txn changes kept may later new =
    let before : Replay = replayed entries nothing_replayed in
    let cs : List RowChange = all_row_changes txn last_db changes rows in
    let sound : IsSound rows last_db = sound-kept entries rows last_txn last_db kept in
    let is_left : IsLeft changes last_db rows (rows_after 0 last_db changes rows) = left last_db changes rows sound may in
    let sound_then : IsSound new_rows (last_db + made_by changes) = subst (λ (r : Rows). IsSound r (last_db + made_by changes)) (sym (fun_ext new)) is_left.sound in
    let replay : replayed (entries_with entries txn last_db changes rows) nothing_replayed ≡ record { rows = rows_changed cs before.rows; pending = before.pending } =
    replayed-append entries (map row_entry cs ++ Commit (record { 0 = txn }) ∷ []) nothing_replayed
    ∙ replayed-append (map row_entry cs) (Commit (record { 0 = txn }) ∷ []) before
    ∙ ap (replayed_entry (Commit (record { 0 = txn }))) (replayed-row_entries cs before)
    ∙ replayed-transaction last_txn last_db txn cs before kept.pending later (all-own txn last_db changes rows sound may) in
    record {
      same = λ db. ap (λ (r : Replay). r.rows db) replay ∙ ap (λ (r : Rows). rows_changed cs r db) (fun_ext kept.same)
          ∙ ap (λ (r : Rows). r db) (all_any txn last_db changes rows) ∙ sym (new db);
      environment = environment_from new_rows sound_then.environment sound_then.primaries;
      rising = sound_then.rising;
      pending = subst (λ (l : List RowChange). AllByRecursion (IsOfBefore last_txn (last_db + made_by changes)) l) (sym (ap (λ (r : Replay). r.pending) replay))
          (all_weaker (IsOfBefore last_txn last_db) (IsOfBefore last_txn (last_db + made_by changes))
          (λ x h. record { txn = h.txn; db = let d : x.db ≤ last_db = h.db in omega arith }) before.pending kept.pending);
      unused = sound_then.unused;
      numbers = all_to_map number_of_row (λ n. n ≤ last_db + made_by changes) (new_rows 0) sound_then.numbers;
    }

pub stores_are_changed : StoresAreChanged
stores_are_changed entries rows new_rows last_txn last_db changes kept may new =
    store_of-same new_rows (rows_after 0 last_db changes rows) new ∙ (left last_db changes rows (sound-kept entries rows last_txn last_db kept) may).store

pub numbers_are_changed : NumbersAreChanged
numbers_are_changed entries rows new_rows last_txn last_db changes kept may new name =
    ap (λ (r : Rows). number_named r name) (fun_ext new) ∙ ap (λ (f : List ℕ → ℕ). f name) (left last_db changes rows (sound-kept entries rows last_txn last_db kept) may).numbers

pub kept_is_right : KeptIsRight
kept_is_right entries rows last_txn last_db kept = environment_is_none rows kept.environment

pub databases_by_number : DatabasesByNumber
databases_by_number rows name env = (λ none. database_of-absent rows name env none, λ has. database_of-numbered rows name env has)

-- ---- a new log
