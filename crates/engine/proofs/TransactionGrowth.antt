-- A log that gives an environment's records, longer by a transaction.
use Rattle.std.proofs.Common.{◌≡◌, ℕ, ◌+◌, ◌<◌, ◌≤◌, ◌^◌, nat_lt, Bool, true, false, cond, List, [], ◌∷◌, ◌++◌, Option, map, take, length, refl, sym, ap, ap₂, subst, ◌∙◌, arith, ⊎_elim, ◌⊎◌, inl, inr}
use Rattle.std.specs.Prelude.{if◌then◌else◌}
use Rattle.std.proofs.lemmas.List.{append-nil, map-append, take_all}
use Rattle.std.proofs.lemmas.Bool.{true≢false, ltb-true, lt-ltb, cond-false, cases_Bool}
use Rattle.std.specs.List.{AllByRecursion}
use mathlib.Core.Path.{fun_ext}
use Rattle.je_disk.specs.DiskMeaning.{DiskMeaning}
use Rattle.je_disk.specs.States.{State}
use Rattle.je_disk.specs.Moments.{now}
use Rattle.je_order.proofs.Lists.{all_weaker}
use Rattle.store_model.specs.declared.call.Call.{Call}
use Rattle.store_model.specs.declared.change.Change.{Change}
use Rattle.store_model.specs.declared.store.Store.{Store}
use Rattle.store_model.specs.Store.{all_changed, store_after}
use Rattle.store_model.specs.Refusals.{made_by}
use Rattle.je_answers.specs.Alone.{Alone}
use Rattle.log_entry.specs.declared.entry.Entry.{Entry}
use Rattle.log_file.specs.Log.{Log, IsLog}
use Rattle.log_buffer.specs.declared.buffer.LogBuffer.{LogBuffer}
use Rattle.log_buffer.specs.declared.log_pos.LogPos.{LogPos}
use Rattle.log_buffer.specs.Buffer.{disk_of, end_of, file_max_of, last_of, IsUnchanged}
use Rattle.log_buffer.specs.Flip.{pos_lsn}
use Rattle.log_buffer.specs.Growth.{longer}
use Rattle.log_buffer.specs.Laws.{placed_by}
use Rattle.log_buffer.specs.Log.{HasLog}
use Rattle.log_buffer.proofs.GrowthLaws.{appended_are_placed, grew_unchanged}
use Rattle.log_replay.specs.Rows.{Row, Rows, data_at, catalog_number, numbers_of, store_of}
use Rattle.log_replay.proofs.ListLaws.{all_both, all_of_map, all_to_map}
use Rattle.log_replay.proofs.StoreLaws.{environment_parts, environment_from, primaries_in, number_of_row}
use Rattle.log_replay.proofs.LoggedLaws.{IsSound}
use Rattle.log_trees.specs.Placed.{Placed, placed}
use Rattle.record_tree.specs.declared.tree_change.TreeChange.{TreeChange}
use Rattle.record_tree.specs.Logged.{LogsTransaction}
use Rattle.in_tree.specs.Limits.{FitsLog}
use Rattle.log_meaning.specs.Stands.{Stands}
use Rattle.log_meaning.specs.Recovery.{Leaves, Recovers, commits_in}
use Rattle.log_meaning.specs.Transactions.{RiseBehind, last_lsn, AreListed, AppendsTransaction, TransactionStands, TransactionRecovers}
use Rattle.log_meaning.proofs.Standing.{stands_fewer}
use Rattle.log_meaning.proofs.Leaving.{stands_leaves}
use Rattle.log_meaning.proofs.Appending.{lone_are_free, transactions_stand}
use Rattle.log_meaning.proofs.Recovering.{transactions_recover}
use Rattle.crash_recovery.specs.Recovery.{RecoversLog}
use Rattle.crash_recovery.specs.Appending.{HaveRoom}
use Rattle.crash_recovery.proofs.RisingLsns.{appended_rise}
use Rattle.crash_recovery.proofs.LongerLogs.{longer_is_named, longer_recovers}
use Rattle.txn_core.specs.declared.planned_changes.PlannedChanges.{PlannedChanges}
use Rattle.txn_core.specs.Totals.{totals_of}
use Rattle.txn_core.specs.Planning.{CanPlan, IsPlannedLog}
use Rattle.txn_log.specs.Checkpoints.{EndsFrom}
use Rattle.txn_log.proofs.RedoLsns.{ends_from_stays}
use Rattle.engine.specs.Contents.{Checkpoints, Contents, known, HasLogged, IsSame, drawn_contents, rows_after}
use Rattle.txn_core.specs.Transactions.{is_gone}
use Rattle.engine.specs.Environment.{GivesRecords, RecoversStore, IsValid}
use Rattle.engine.specs.Steps.{CarriesTrees, HasAppended, HasTried, txn_of}
use Rattle.engine.proofs.PlannedRows.{ArePlanned, LeavesRows, planned_rows}
use Rattle.engine.proofs.PlannedCalls.{are_planned}
use Rattle.engine.proofs.CallEntries.{transaction_no_ends}

abbrev Flags : Type 0
Flags = ℕ → Bool

-- ---- what a log gives

-- the records that a log gives are right, and their numbers were allocated
pub sound_of : (log : Log) (end : LogPos) (c : Contents) → GivesRecords log end c → IsSound c.rows c.last_db
sound_of log end c gives = record {
  environment = environment_parts c.rows gives.listed.environment;
  primaries = primaries_in c.rows gives.listed.environment;
  rising = gives.listed.rising;
  unused = gives.unused;
  numbers = all_of_map number_of_row (λ n. n ≤ c.last_db) (c.rows 0) gives.numbers;
}

-- a call may be planned on them
pub can_plan : (log : Log) (end : LogPos) (c : Contents) → GivesRecords log end c → c.totals ≡ totals_of (store_of c.rows) → CanPlan (known c)
can_plan log end c gives totals = record {
  environment = gives.listed.environment;
  rising = gives.listed.rising;
  unused = gives.unused;
  numbers = gives.numbers;
  totals = totals;
}

-- this life of the environment began at or before the log's end
pub begun_at : (log : Log) (end : LogPos) (c : Contents) (gives : GivesRecords log end c) → gives.base ≤ pos_lsn end
begun_at log end c gives = let low = gives.stands.begun in let below = gives.below in omega (arith, low, below)

-- a log that ends elsewhere
abbrev pub gives_moved : (log : Log) (end new_end : LogPos) (c : Contents) → new_end ≡ end → GivesRecords log end c → GivesRecords log new_end c
gives_moved log end new_end c ends gives = record {
  base = gives.base;
  next = gives.next;
  is_open = gives.is_open;
  stands = gives.stands;
  below = subst (λ (e : LogPos). gives.next < pos_lsn e) (sym ends) gives.below;
  listed = gives.listed;
  later = gives.later;
  unused = gives.unused;
  numbers = gives.numbers;
}

-- a later transaction is later than the last one but one
later-live : (last now t : ℕ) → last ≤ now → nat_lt now t ≡ true → nat_lt last t ≡ true
later-live last now t le live = let lt = ltb-true now t live in lt-ltb last t (omega (arith, le, lt))

-- a transaction number is allocated
pub gives_drawn : (log : Log) (end : LogPos) (c : Contents) → GivesRecords log end c → GivesRecords log end (drawn_contents c)
gives_drawn log end c gives = record {
  base = gives.base;
  next = gives.next;
  is_open = gives.is_open;
  stands = stands_fewer (placed log) gives.base gives.next gives.is_open gives.is_open (λ d x. data_at x (c.rows d)) (λ t. nat_lt c.last_txn t) (λ t. nat_lt (c.last_txn + 1) t) (λ t. [])
      gives.stands (λ d open_. open_) (λ t live. later-live c.last_txn (c.last_txn + 1) t (omega arith) live);
  below = gives.below;
  listed = gives.listed;
  later = gives.later;
  unused = gives.unused;
  numbers = gives.numbers;
}

-- nothing changes
pub gives_same : (log : Log) (end new_end : LogPos) (old new : Contents) → new_end ≡ end → IsSame old new → GivesRecords log end old → GivesRecords log new_end new
gives_same log end new_end old new ends same gives =
    let rows : old.rows ≡ new.rows = sym (fun_ext same.rows) in
    let txn : old.last_txn ≡ new.last_txn = sym same.last_txn in
    let db : old.last_db ≡ new.last_db = sym same.last_db in
    record {
      base = gives.base;
      next = gives.next;
      is_open = gives.is_open;
      stands = subst (λ (n : ℕ). Stands (placed log) gives.base gives.next gives.is_open (λ d x. data_at x (new.rows d)) (λ t. nat_lt n t) (λ t. [])) txn
          (subst (λ (r : Rows). Stands (placed log) gives.base gives.next gives.is_open (λ d x. data_at x (r d)) (λ t. nat_lt old.last_txn t) (λ t. [])) rows gives.stands);
      below = subst (λ (e : LogPos). gives.next < pos_lsn e) (sym ends) gives.below;
      listed = subst (λ (r : Rows). AreListed gives.is_open (λ d x. data_at x (r d)) r) rows gives.listed;
      later = subst (λ (n : ℕ). (d : ℕ) → n < d → gives.is_open d ≡ true) db gives.later;
      unused = subst (λ (n : ℕ). (d : ℕ) → n < d → new.rows d ≡ []) db (subst (λ (r : Rows). (d : ℕ) → old.last_db < d → r d ≡ []) rows gives.unused);
      numbers = subst (λ (n : ℕ). AllByRecursion (λ m. m ≤ n) (numbers_of new.rows)) db (subst (λ (r : Rows). AllByRecursion (λ m. m ≤ old.last_db) (numbers_of r)) rows gives.numbers);
    }

-- ---- the databases that stay

-- the catalog, its databases and later numbers, but for the database that goes
abbrev pub open_after : Option ℕ → Flags → Flags
open_after gone is_open d = if is_gone d gone then false else is_open d

open_parts : (gone : Option ℕ) (is_open : Flags) (d : ℕ) → open_after gone is_open d ≡ true → (is_gone d gone ≡ false) × (is_open d ≡ true)
open_parts gone is_open d open_ = by_test (is_gone d gone) open_
  where
    by_test : (b : Bool) → cond b false (is_open d) ≡ true → (b ≡ false) × (is_open d ≡ true)
    by_test true is = absurd (true≢false (sym is))
    by_test false is = (refl, is)

open_from : (gone : Option ℕ) (is_open : Flags) (d : ℕ) → is_gone d gone ≡ false → is_open d ≡ true → open_after gone is_open d ≡ true
open_from gone is_open d stays open_ = cond-false (is_gone d gone) false (is_open d) stays ∙ open_

-- a database with a later number stays
later-stays : (gone : Option ℕ) (last_db d : ℕ) → ((e : ℕ) → is_gone e gone ≡ true → e ≤ last_db) → last_db < d → is_gone d gone ≡ false
later-stays gone last_db d within above =
    ⊎_elim (λ (goes : is_gone d gone ≡ true). let low = within d goes in absurd (omega (arith, low, above))) (λ (stays : is_gone d gone ≡ false). stays) (cases_Bool (is_gone d gone))

-- records that changes leave are listed
listed-after : (rows after : Rows) (last_db : ℕ) (changes : List Change) (planned : List TreeChange) (gone : Option ℕ) (is_open : Flags) → LeavesRows rows after last_db changes planned gone →
    ((d : ℕ) → last_db < d → is_open d ≡ true) → AreListed is_open (λ d x. data_at x (rows d)) rows → AreListed (open_after gone is_open) (λ d x. data_at x (after d)) after
listed-after rows after last_db changes planned gone is_open leaves later listed = record {
  rising = leaves.sound.rising;
  data_is = λ d x open_. refl;
  catalog = open_from gone is_open 0 leaves.zero_stays listed.catalog;
  named = all_both (λ n. is_gone n gone ≡ false) (λ n. is_open n ≡ true) (λ n. open_after gone is_open n ≡ true) (λ n stays open_. open_from gone is_open n stays open_) (numbers_of after)
      leaves.unnamed (leaves.named is_open later listed.named);
  environment = environment_from after leaves.sound.environment leaves.sound.primaries;
}

-- ---- entries behind a log

-- entries whose LSNs rise, and others behind them
rise_append : (next : ℕ) (a b : List Placed) → RiseBehind next a → RiseBehind (last_lsn next a) b → RiseBehind next (a ++ b)
rise_append next [] b up rest = rest
rise_append next (p ∷ a) b up rest =
    let inner : RiseBehind p.0 (a ++ b) = rise_append p.0 a b up.1 rest in
    let low : next < p.0 = up.0.0 in
    ((low, all_weaker (λ (q : Placed). p.0 < q.0) (λ q. next < q.0) (λ q h. omega (arith, h, low)) (a ++ b) inner.0), inner)

-- entries at some LSNs behind this one
abbrev placed_behind : ℕ → List Entry → List Placed
placed_behind at [] = []
placed_behind at (e ∷ entries) = (at + 1, e) ∷ placed_behind (at + 1) entries

entries_behind : (at : ℕ) (entries : List Entry) → map (λ p. p.1) (placed_behind at entries) ≡ entries
entries_behind at [] = refl
entries_behind at (e ∷ entries) = ap (λ (l : List Entry). e ∷ l) (entries_behind (at + 1) entries)

rise_behind : (at : ℕ) (entries : List Entry) → RiseBehind at (placed_behind at entries)
rise_behind at [] = (tt, tt)
rise_behind at (e ∷ entries) =
    let inner : RiseBehind (at + 1) (placed_behind (at + 1) entries) = rise_behind (at + 1) entries in
    ((omega arith, all_weaker (λ (q : Placed). at + 1 < q.0) (λ q. at < q.0) (λ q h. omega (arith, h)) (placed_behind (at + 1) entries) inner.0), inner)

store_after-push : (base : Store) (transactions : List (List Change)) (own : List Change) → store_after base (transactions ++ own ∷ []) ≡ all_changed own (store_after base transactions)
store_after-push base [] own = refl
store_after-push base (changes ∷ transactions) own = store_after-push (all_changed changes base) transactions own

-- a log that recovers transactions leaves their store
leaves_all : (first : ℕ) (opening : Store) (found : ℕ) (transactions : List (List Change)) (es : List Placed) → Recovers first opening found transactions es → Leaves first es (store_after opening transactions)
leaves_all first opening found transactions es is =
    let each : Leaves first (take (length es) es) (store_after opening (take (commits_in found (length es) es) transactions)) = is.each (length es) is.within (omega arith) in
    subst (λ (l : List Placed). Leaves first l (store_after opening transactions)) (take_all (length es) es (omega arith))
    (subst (λ (ts : List (List Change)). Leaves first (take (length es) es) (store_after opening ts))
    (ap (λ (n : ℕ). take n transactions) is.all ∙ take_all (length transactions) transactions (omega arith)) each)

-- ---- a transaction behind a log that gives records

-- entries that log planned changes, behind a log that gives the records that they change
module _ (log : Log) (end : LogPos) (c : Contents) (change : Change) (later : List Change) (planned : List TreeChange) (gone : Option ℕ) (gives : GivesRecords log end c)
    (are : ArePlanned c.rows c.last_db change later planned gone) (more : List Placed) (logs : LogsTransaction (txn_of (c.last_txn + 1)) planned (map (λ p. p.1) more)) (up : RiseBehind gives.next more) where
  leaves : LeavesRows c.rows (rows_after planned gone c.rows) c.last_db (change ∷ later) planned gone
  leaves = planned_rows c.rows c.last_db change later planned gone are

  appends : AppendsTransaction gives.next gives.is_open (open_after gone gives.is_open) (λ d x. data_at x (c.rows d)) (λ d x. data_at x (rows_after planned gone c.rows d))
      (λ t. nat_lt c.last_txn t) (λ t. []) (txn_of (c.last_txn + 1)) planned more
  appends = record {
    live = lt-ltb c.last_txn (c.last_txn + 1) (omega arith);
    begins = refl;
    free = lone_are_free (λ t. nat_lt c.last_txn t) (λ t. []) (txn_of (c.last_txn + 1)) planned (λ u live. refl);
    logs = logs;
    rise = up;
    smaller = λ d open_. (open_parts gone gives.is_open d open_).1;
    after_is = λ d x open_. leaves.data_is d x (open_parts gone gives.is_open d open_).0;
  }

  listed : AreListed (open_after gone gives.is_open) (λ d x. data_at x (rows_after planned gone c.rows d)) (rows_after planned gone c.rows)
  listed = listed-after c.rows (rows_after planned gone c.rows) c.last_db (change ∷ later) planned gone gives.is_open leaves gives.later gives.listed

  stands : TransactionStands (placed log) gives.base gives.next gives.is_open (open_after gone gives.is_open) (λ d x. data_at x (c.rows d)) (λ d x. data_at x (rows_after planned gone c.rows d))
      (λ t. nat_lt c.last_txn t) (λ t. []) more
  stands = transactions_stand (placed log) gives.base gives.next gives.is_open (open_after gone gives.is_open) (λ d x. data_at x (c.rows d)) (λ d x. data_at x (rows_after planned gone c.rows d))
      (λ t. nat_lt c.last_txn t) (λ t. []) (txn_of (c.last_txn + 1)) planned more gives.stands appends

  -- a longer log with these entries gives the records that the changes leave
  pub gives_longer : (long : Log) (long_end : LogPos) (new : Contents) → placed long ≡ placed log ++ more → last_lsn gives.next more < pos_lsn long_end →
      new.rows ≡ rows_after planned gone c.rows → new.last_txn ≡ c.last_txn + 1 → new.last_db ≡ c.last_db + made_by (change ∷ later) → GivesRecords long long_end new
  gives_longer long long_end new placed_is below rows txn db =
      let is_open : Flags = open_after gone gives.is_open in
      let next : ℕ = last_lsn gives.next more in
      let back : rows_after planned gone c.rows ≡ new.rows = sym rows in
      record {
        base = gives.base;
        next = next;
        is_open = is_open;
        stands = subst (λ (r : Rows). Stands (placed long) gives.base next is_open (λ d x. data_at x (r d)) (λ t. nat_lt new.last_txn t) (λ t. [])) back
            (subst (λ (l : List Placed). Stands l gives.base next is_open (λ d x. data_at x (rows_after planned gone c.rows d)) (λ t. nat_lt new.last_txn t) (λ t. [])) (sym placed_is)
            (stands_fewer (placed log ++ more) gives.base next is_open is_open (λ d x. data_at x (rows_after planned gone c.rows d)) (λ t. nat_lt c.last_txn t) (λ t. nat_lt new.last_txn t) (λ t. [])
            stands.whole (λ d open_. open_) (λ t live. later-live c.last_txn new.last_txn t (omega (arith, txn)) live)));
        below = below;
        listed = subst (λ (r : Rows). AreListed is_open (λ d x. data_at x (r d)) r) back listed;
        later = λ d above. let higher : c.last_db < d = omega (arith, above, db) in
            open_from gone gives.is_open d (later-stays gone c.last_db d leaves.within higher) (gives.later d higher);
        unused = λ d above. ap (λ (r : Rows). r d) rows ∙ leaves.sound.unused d (omega (arith, above, db));
        numbers = subst (λ (r : Rows). AllByRecursion (λ n. n ≤ new.last_db) (numbers_of r)) back
            (all_to_map number_of_row (λ n. n ≤ new.last_db) (rows_after planned gone c.rows 0)
            (subst (λ (n : ℕ). AllByRecursion (λ (r : Row). catalog_number r.1 ≤ n) (rows_after planned gone c.rows 0)) (sym db) leaves.sound.numbers));
      }

  -- and recovers one transaction more
  pub recovers_more : (first : ℕ) (opening : Store) (found : ℕ) (transactions : List (List Change)) → Recovers first opening found transactions (placed log) →
      TransactionRecovers first opening found transactions (change ∷ later) (placed log) more
  recovers_more first opening found transactions is =
      let whole : Leaves first (placed log) (store_after opening transactions) = leaves_all first opening found transactions (placed log) is in
      let own : Leaves first (placed log) (store_of c.rows) =
      stands_leaves first (placed log) gives.base gives.next gives.is_open (λ d x. data_at x (c.rows d)) (λ t. nat_lt c.last_txn t) (λ t. []) c.rows gives.stands whole.roots whole.redo
      gives.listed.rising gives.listed.data_is gives.listed.catalog gives.listed.named gives.listed.environment in
      let store : store_of c.rows ≡ store_after opening transactions = sym own.store_is ∙ whole.store_is in
      transactions_recover first opening found transactions (change ∷ later) (placed log) gives.base gives.next gives.is_open (open_after gone gives.is_open)
      (λ d x. data_at x (c.rows d)) (λ d x. data_at x (rows_after planned gone c.rows d)) (λ t. nat_lt c.last_txn t) (λ t. []) (txn_of (c.last_txn + 1)) planned more c.rows (rows_after planned gone c.rows)
      is whole.roots whole.redo gives.stands appends gives.listed listed store (leaves.store ∙ ap (all_changed (change ∷ later)) store)

-- ---- a buffer

-- what may be said of any disk in this state
module _ {D : Type 0} where
  -- a buffer has a log that gives the records, and planned changes may be logged behind it
  pub record MayGrow (observable : Bool) (state : State) (buffer : LogBuffer D) (log : Log) (c : Contents) (change : Change) (later : List Change) (planned : PlannedChanges) : Type 0 where
    pub has : HasLog observable state buffer log
    pub gives : GivesRecords log (end_of buffer) c
    pub are : ArePlanned c.rows c.last_db change later planned.changes.items planned.gone
    pub last_db : planned.last_db ≡ c.last_db + made_by (change ∷ later)

  -- so it is where a call planned them, and numbers have their width
  pub may_grow : (observable : Bool) (state : State) (buffer : LogBuffer D) (log : Log) (c : Contents) (p : Alone) (session : ℕ) (call : Call) (planned : PlannedChanges) →
      HasLog observable state buffer log → GivesRecords log (end_of buffer) c → (l : IsPlannedLog (known c) p session call planned) → planned.last_db < 2 ^ 32 →
      MayGrow observable state buffer log c l.change l.more planned
  may_grow observable state buffer log c p session call planned has gives l fits = record {
    has = has;
    gives = gives;
    are = are_planned c p session call planned (sound_of log (end_of buffer) c gives) l fits;
    last_db = l.last_db;
  }

  -- the records that were logged make the store that the changes leave
  pub made_on : (observable : Bool) (state : State) (buffer : LogBuffer D) (log : Log) (c new : Contents) (change : Change) (later : List Change) (planned : PlannedChanges) →
      MayGrow observable state buffer log c change later planned → HasLogged c new planned → store_of new.rows ≡ all_changed (change ∷ later) (store_of c.rows)
  made_on observable state buffer log c new change later planned may logged =
      ap store_of (fun_ext logged.rows) ∙ (planned_rows c.rows c.last_db change later planned.changes.items planned.gone may.are).store

  -- ---- what is recovered

  room_for_front : (buffer : LogBuffer D) (front : List Entry) → FitsLog buffer front → HaveRoom (file_max_of buffer) (end_of buffer) front
  room_for_front buffer front fits = record { max = buffer.max; entries_are = fits.entries_are; room = fits.room }

  -- a transaction of whose entries these first ones fit the log, and the others stand anywhere behind them
  front_recovers : (observable : Bool) (state : State) (buffer : LogBuffer D) (log : Log) (c : Contents) (change : Change) (later : List Change) (planned : PlannedChanges)
      (may : MayGrow observable state buffer log c change later planned)
      (front rest : List Entry) → LogsTransaction (txn_of (c.last_txn + 1)) planned.changes.items (front ++ rest) → FitsLog buffer front →
      (first : ℕ) (opening : Store) (found : ℕ) (transactions : List (List Change)) → RecoversLog first opening found transactions log →
      TransactionRecovers first opening found transactions (change ∷ later) (placed log)
      (placed_by (file_max_of buffer) (end_of buffer) front ++ placed_behind (last_lsn may.gives.next (placed_by (file_max_of buffer) (end_of buffer) front)) rest)
  front_recovers observable state buffer log c change later planned may front rest logs fits first opening found transactions is =
      let most : ℕ = file_max_of buffer in
      let end : LogPos = end_of buffer in
      let next : ℕ = may.gives.next in
      let own : List Placed = placed_by most end front in
      let at : ℕ = last_lsn next own in
      let long = longer_is_named log end (last_of buffer) most front is.named may.has.ends (room_for_front buffer front fits) in
      let rise = appended_rise log end (last_of buffer) most front next may.has.is_log may.has.ends long.named.is_log may.gives.below in
      let entries : map (λ (p : Placed). p.1) (own ++ placed_behind at rest) ≡ front ++ rest =
      map-append (λ (p : Placed). p.1) own (placed_behind at rest) ∙ ap₂ (λ (a b : List Entry). a ++ b) rise.entries_are (entries_behind at rest) in
      recovers_more log end c change later planned.changes.items planned.gone may.gives may.are (own ++ placed_behind at rest)
      (subst (LogsTransaction (txn_of (c.last_txn + 1)) planned.changes.items) (sym entries) logs) (rise_append next own (placed_behind at rest) rise.rise (rise_behind at rest))
      first opening found transactions is.recovers

  -- all of its entries fit
  all_recover : (observable : Bool) (state : State) (buffer : LogBuffer D) (log : Log) (c : Contents) (change : Change) (later : List Change) (planned : PlannedChanges) → MayGrow observable state buffer log c change later planned →
      (entries : List Entry) → LogsTransaction (txn_of (c.last_txn + 1)) planned.changes.items entries → FitsLog buffer entries →
      (first : ℕ) (opening : Store) (found : ℕ) (transactions : List (List Change)) → RecoversLog first opening found transactions log →
      RecoversLog first opening found (transactions ++ (change ∷ later) ∷ []) (longer buffer entries log)
  all_recover observable state buffer log c change later planned may entries logs fits first opening found transactions is =
      let own : List Placed = placed_by (file_max_of buffer) (end_of buffer) entries in
      let recovery = front_recovers observable state buffer log c change later planned may entries []
      (subst (LogsTransaction (txn_of (c.last_txn + 1)) planned.changes.items) (sym (append-nil entries)) logs) fits first opening found transactions is in
      longer_recovers first opening found transactions (transactions ++ (change ∷ later) ∷ []) log (end_of buffer) (last_of buffer) (file_max_of buffer) entries is may.has.ends
      (room_for_front buffer entries fits)
      (subst (λ (l : List Placed). Recovers first opening found (transactions ++ (change ∷ later) ∷ []) (placed log ++ l)) (append-nil own) recovery.whole.recovers)

module _ {D : Type 0} (meaning : DiskMeaning D) where
  -- the longer log gives the records that were logged
  pub gives_on : (buffer longer_buffer : LogBuffer D) (log : Log) (c new : Contents) (change : Change) (later : List Change) (planned : PlannedChanges) → MayGrow meaning.observable (now (meaning.history (disk_of buffer))) buffer log c change later planned →
      HasLogged c new planned → (a : HasAppended meaning buffer longer_buffer (txn_of (c.last_txn + 1)) planned.changes.items) →
      GivesRecords (longer buffer a.entries log) (end_of longer_buffer) new
  gives_on buffer longer_buffer log c new change later planned may logged a =
      let most : ℕ = file_max_of buffer in
      let end : LogPos = end_of buffer in
      let long : IsLog (longer buffer a.entries log) = (a.grew.log log may.has).is_log in
      let rise = appended_rise log end (last_of buffer) most a.entries may.gives.next may.has.is_log may.has.ends long may.gives.below in
      gives_longer log end c change later planned.changes.items planned.gone may.gives may.are (placed_by most end a.entries)
      (subst (LogsTransaction (txn_of (c.last_txn + 1)) planned.changes.items) (sym rise.entries_are) a.logs) rise.rise
      (longer buffer a.entries log) (end_of longer_buffer) new (appended_are_placed log end (last_of buffer) most a.entries may.has.is_log may.has.ends)
      (subst (λ (e : LogPos). last_lsn may.gives.next (placed_by most end a.entries) < pos_lsn e) (sym a.grew.end) rise.below)
      (fun_ext logged.rows) logged.last_txn (logged.last_db ∙ may.last_db)

  -- the longer log recovers the transaction
  pub recovers_on : (buffer longer_buffer : LogBuffer D) (log : Log) (c : Contents) (change : Change) (later : List Change) (planned : PlannedChanges) → MayGrow meaning.observable (now (meaning.history (disk_of buffer))) buffer log c change later planned →
      (a : HasAppended meaning buffer longer_buffer (txn_of (c.last_txn + 1)) planned.changes.items) →
      (first : ℕ) (opening : Store) (found : ℕ) (transactions : List (List Change)) → RecoversLog first opening found transactions log →
      RecoversLog first opening found (transactions ++ (change ∷ later) ∷ []) (longer buffer a.entries log)
  recovers_on buffer longer_buffer log c change later planned may a = all_recover meaning.observable (now (meaning.history (disk_of buffer))) buffer log c change later planned may a.entries a.logs a.fits

  -- the log with the entries that were tried recovers the transaction, or not
  pub recovers_tried : (buffer longer_buffer : LogBuffer D) (log : Log) (c : Contents) (change : Change) (later : List Change) (planned : PlannedChanges) → MayGrow meaning.observable (now (meaning.history (disk_of buffer))) buffer log c change later planned →
      (t : HasTried meaning buffer longer_buffer (txn_of (c.last_txn + 1)) planned.changes.items) →
      (first : ℕ) (opening : Store) (found : ℕ) (transactions : List (List Change)) → RecoversLog first opening found transactions log →
      RecoversLog first opening found transactions (longer buffer t.front log) ⊎ RecoversLog first opening found (transactions ++ (change ∷ later) ∷ []) (longer buffer t.front log)
  recovers_tried buffer longer_buffer log c change later planned may t first opening found transactions is = by_rest t.is_front.0 t.is_front.1
    where
      by_rest : (rest : List Entry) → t.front ++ rest ≡ t.entries →
          RecoversLog first opening found transactions (longer buffer t.front log) ⊎ RecoversLog first opening found (transactions ++ (change ∷ later) ∷ []) (longer buffer t.front log)
      by_rest [] parts =
          inr (all_recover meaning.observable (now (meaning.history (disk_of buffer))) buffer log c change later planned may t.front (subst (LogsTransaction (txn_of (c.last_txn + 1)) planned.changes.items) (sym parts ∙ append-nil t.front) t.logs) t.fits
          first opening found transactions is)
      by_rest (e ∷ rest) parts =
          let own : List Placed = placed_by (file_max_of buffer) (end_of buffer) t.front in
          let at : ℕ = last_lsn may.gives.next own in
          let recovery = front_recovers meaning.observable (now (meaning.history (disk_of buffer))) buffer log c change later planned may t.front (e ∷ rest) (subst (LogsTransaction (txn_of (c.last_txn + 1)) planned.changes.items) (sym parts) t.logs) t.fits
          first opening found transactions is in
          inl (longer_recovers first opening found transactions transactions log (end_of buffer) (last_of buffer) (file_max_of buffer) t.front is may.has.ends (room_for_front buffer t.front t.fits)
          (recovery.fronts own (placed_behind (at + 1) rest) (at + 1, e) refl).recovers)

  -- the longer log recovers the store that the changes leave
  pub store_on : (buffer longer_buffer : LogBuffer D) (log : Log) (c : Contents) (change : Change) (later : List Change) (planned : PlannedChanges) → MayGrow meaning.observable (now (meaning.history (disk_of buffer))) buffer log c change later planned →
      (a : HasAppended meaning buffer longer_buffer (txn_of (c.last_txn + 1)) planned.changes.items) →
      (store : Store) → RecoversStore log store → RecoversStore (longer buffer a.entries log) (all_changed (change ∷ later) store)
  store_on buffer longer_buffer log c change later planned may a store is = record {
    first = is.first;
    opening = is.opening;
    base = is.base;
    transactions = is.transactions ++ (change ∷ later) ∷ [];
    recovers = recovers_on buffer longer_buffer log c change later planned may a is.first is.opening is.base is.transactions is.recovers;
    made = store_after-push is.opening is.transactions (change ∷ later) ∙ ap (all_changed (change ∷ later)) is.made;
  }

  -- ---- a valid environment

  -- a valid environment that logged changes is valid
  pub valid_on : (buffer longer_buffer : LogBuffer D) (c new : Contents) (change : Change) (later : List Change) (planned : PlannedChanges) (store : Store) →
      IsValid meaning.observable (now (meaning.history (disk_of buffer))) buffer c store → ArePlanned c.rows c.last_db change later planned.changes.items planned.gone →
      planned.last_db ≡ c.last_db + made_by (change ∷ later) → HasLogged c new planned →
      (a : HasAppended meaning buffer longer_buffer (txn_of (c.last_txn + 1)) planned.changes.items) →
      CarriesTrees meaning buffer a.entries c new → IsValid meaning.observable (now (meaning.history (disk_of longer_buffer))) longer_buffer new (all_changed (change ∷ later) store)
  unfolding gives_longer gives_on
  valid_on buffer longer_buffer c new change later planned store valid are last_db logged a carries =
      let may : MayGrow meaning.observable (now (meaning.history (disk_of buffer))) buffer valid.log c change later planned = record { has = valid.has; gives = valid.gives; are = are; last_db = last_db } in
      record {
        log = longer buffer a.entries valid.log;
        has = a.grew.log valid.log valid.has;
        works = a.grew.failed ∙ valid.works;
        gives = gives_on buffer longer_buffer valid.log c new change later planned may logged a;
        recovers = store_on buffer longer_buffer valid.log c change later planned may a store valid.recovers;
        made = made_on meaning.observable (now (meaning.history (disk_of buffer))) buffer valid.log c new change later planned may logged ∙ ap (all_changed (change ∷ later)) valid.made;
        fits = carries valid.log valid.gives.base valid.has (begun_at valid.log (end_of buffer) c valid.gives) valid.fits;
        from = subst (λ (k : Checkpoints). EndsFrom (longer buffer a.entries valid.log) valid.gives.base k.since) (sym logged.checkpoints)
            (ends_from_stays meaning buffer valid.log a.entries valid.gives.base c.checkpoints.since valid.has (transaction_no_ends (txn_of (c.last_txn + 1)) planned.changes.items a.entries a.logs) valid.from);
      }

  -- so it is where a transaction number is allocated
  pub valid_drawn : (state : State) (buffer : LogBuffer D) (c : Contents) (store : Store) → IsValid meaning.observable state buffer c store → IsValid meaning.observable state buffer (drawn_contents c) store
  unfolding gives_drawn
  valid_drawn state buffer c store valid = record {
    log = valid.log;
    has = valid.has;
    works = valid.works;
    gives = gives_drawn valid.log (end_of buffer) c valid.gives;
    recovers = valid.recovers;
    made = valid.made;
    fits = valid.fits;
    from = valid.from;
  }

  -- and where nothing changes
  pub valid_same : (old_buffer new_buffer : LogBuffer D) (old new : Contents) (store : Store) → IsUnchanged old_buffer new_buffer → IsSame old new →
      IsValid meaning.observable (now (meaning.history (disk_of old_buffer))) old_buffer old store → IsValid meaning.observable (now (meaning.history (disk_of new_buffer))) new_buffer new store
  unfolding gives_same
  valid_same old_buffer new_buffer old new store unchanged same valid = record {
    log = valid.log;
    has = (grew_unchanged meaning old_buffer new_buffer unchanged).log valid.log valid.has;
    works = unchanged.failed ∙ valid.works;
    gives = gives_same valid.log (end_of old_buffer) (end_of new_buffer) old new unchanged.kept.end same valid.gives;
    recovers = valid.recovers;
    made = ap store_of (fun_ext same.rows) ∙ valid.made;
    fits = same.fits (placed valid.log) valid.gives.base valid.fits;
    from = subst (λ (k : Checkpoints). EndsFrom valid.log valid.gives.base k.since) (sym same.checkpoints) valid.from;
  }
