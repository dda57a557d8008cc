-- A call on records that is a transaction of its own, among others.
use Rattle.std.specs.Prelude.{ℕ, ◌≡◌, ◌+◌, List, None, Some, true, map, count_by, nat_lt}
use Rattle.je_disk.specs.DiskMeaning.{DiskMeaning}
use Rattle.store_model.specs.declared.call.Call.{Call}
use Rattle.store_model.specs.declared.kind.Kind.{Kind}
use Rattle.store_model.specs.declared.record_change.RecordChange.{RecordChange}
use Rattle.store_model.specs.declared.store.TheConstants.{LAST_TXN}
use Rattle.store_model.specs.declared.totals.Totals.{Totals}
use Rattle.store_model.specs.Evaluation.{answers}
use Rattle.store_model.specs.Indexes.{Numbered}
use Rattle.store_model.specs.Records.{Evaluated}
use Rattle.je_answers.specs.Standing.{Standing, active_of}
use Rattle.je_answers.specs.Refusals.{late_refusal}
use Rattle.je_answers.specs.Views.{Target, changes_with, needs_in, outcome_of, target_of, with_numbers}
use Rattle.je_answers.specs.Events.{auto_active, begun}
use Rattle.in_tree.specs.Observed.{cells_of}
use Rattle.engine.specs.declared.engine.Engine.{Engine}
use Rattle.log_replay.specs.Rows.{Rows}
use Rattle.txn_core.specs.Known.{known_of}
use Rattle.txn_core.specs.Planning.{HaveFewNew, IsPlannedLog, outcome_alone}
use Rattle.txn_core.specs.declared.planned.Planned.{Planned}
use Rattle.txn_core.specs.declared.planned.Planned.TheVariants.{Answered, Logs, Fills}
use Rattle.txn_core.specs.declared.planned_changes.PlannedChanges.{PlannedChanges}
use Rattle.txn_log.specs.Own.{tree_of}
use Rattle.sessions.specs.declared.all_sessions.Sessions.{Sessions}
use Rattle.sessions.specs.declared.named_db.NamedDb.{NamedDb}
use Rattle.sessions.specs.Names.{AreOthersOf}
use Rattle.sessions.specs.Taking.{HasTaken}
use Rattle.standing_laws.specs.Right.{AreSound}
use Rattle.environment.specs.declared.environment.Environment.{Environment}
use Rattle.environment.specs.Calls.{IsOnRecords}
use Rattle.environment.specs.Changing.{MayMake, has_data, sets_data}
use Rattle.environment.specs.Steps.{StandsAt}
use Rattle.environment.specs.Valid.{AreBare}
use Rattle.je_answers.specs.Alone.{Alone}

-- a standing without those that are under way
abbrev pub alone_in : Standing → Alone
alone_in st = record {
  store = st.store;
  numbers = st.numbers;
  last_txn = st.last_txn;
  last_db = st.last_db;
  commits = st.commits;
  begun = st.begun;
  fault = st.fault;
  in_checkpoint = st.in_checkpoint;
}

-- what a call outside a transaction comes to in its own one, and what it changes
abbrev pub outcome_auto : Standing → ℕ → Call → Target → Evaluated
outcome_auto st session call g = outcome_of (begun st session) (auto_active st session) call g

abbrev pub changes_auto : Standing → ℕ → Call → Target → List (Numbered × RecordChange)
changes_auto st session call g = changes_with (begun st session) (auto_active st session) g (outcome_auto st session call g).changes

-- the database that it is on has this name and this kind, and these are beside it
pub record IsNamedAs (db : List ℕ) (kind : Kind) (others : List NamedDb) (g : Target) : Type 0 where
  pub name : g.database.name ≡ db
  pub its_kind : g.database.kind ≡ kind
  pub beside : AreOthersOf others g

-- what is logged of changes, with their databases' numbers, of committed records: as many records more as are set, and fewer as there were; and of
-- those of a database at most one is of a new name
pub record IsAutoLog (rows : Rows) (totals : Totals) (last_db : ℕ) (own : List (ℕ × RecordChange)) (planned : PlannedChanges) : Type 0 where
  pub changes : planned.changes.items ≡ map tree_of own
  pub last_db_is : planned.last_db ≡ last_db
  pub databases : planned.totals.databases ≡ totals.databases
  pub records : planned.totals.records + count_by (has_data rows) planned.changes.items ≡ totals.records + count_by sets_data planned.changes.items
  pub gone : planned.gone ≡ None
  pub few : HaveFewNew rows planned.changes.items

module _ {D : Type 0} where
  -- an environment with other sessions
  abbrev pub with_sessions : Sessions → Environment D → Environment D
  with_sessions s e = record { engine = e.engine; sessions = s; written = e.written }

  -- a call on records of a session without a transaction, which nothing refuses, and what it is on
  pub record IsAutoAt (most : ℕ) (meaning : DiskMeaning D) (e : Environment D) (st : Standing) (session : ℕ) (call : Call) (g : Target) : Type 0 where
    pub at : StandsAt most meaning e st
    pub sound : AreSound st
    pub valid : st.fault ≡ None
    pub bare : AreBare st
    pub db : List ℕ
    pub records : IsOnRecords db call
    pub late : late_refusal st session call ≡ None
    pub target : target_of st session call ≡ Some g
    pub stands : g.at ≡ None
    pub outside : active_of session st.actives ≡ None
    pub left : nat_lt st.last_txn LAST_TXN ≡ true

  -- it changes something, and this is logged of it
  pub record IsLoggedAuto (engine : Engine D) (st : Standing) (session : ℕ) (call : Call) (g : Target) (planned : PlannedChanges) : Type 0 where
    pub log : IsPlannedLog (known_of (cells_of engine.trees) engine.kept.totals engine.kept.last_db) (alone_in st) session call planned
    pub own : planned.changes.items ≡ map tree_of (with_numbers (changes_auto st session call g))
    pub may : MayMake st (changes_auto st session call g)

  -- what it comes to
  abbrev pub IsPlannedAuto : Engine D → Standing → ℕ → Call → Target → Planned → Type 0
  IsPlannedAuto engine st session call g (Answered answer) = outcome_alone (alone_in st) session call ≡ answers answer
  IsPlannedAuto engine st session call g (Logs planned) = IsLoggedAuto engine st session call g planned
  IsPlannedAuto engine st session call g (Fills planned) = ⊥

  -- it has begun, and got its locks
  abbrev pub IsTakenAuto : Environment D → Standing → ℕ → Call → Target → Type 0
  IsTakenAuto e st session call g = HasTaken e.sessions true (auto_active st session) (needs_in (begun st session) (auto_active st session) call g) (begun st session)
