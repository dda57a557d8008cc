-- Where no transaction is under way: what an environment is beside its engine.
use Rattle.std.proofs.Common.{◌≡◌, ℕ, ◌+◌, suc, Bool, true, false, cond, List, [], None, filter, length, refl, ap, sym, ◌∙◌, subst, arith}
use Rattle.txn_log.proofs.AtStandingLaws.{same_under}
use Rattle.je_disk.specs.States.{Files, State}
use Rattle.je_disk.specs.Moments.{History, now}
use Rattle.je_order.specs.declared.txn_id.TxnId.{TxnId}
use Rattle.store_model.specs.declared.store.Store.{Store}
use Rattle.je_answers.specs.declared.active.Active.{Active}
use Rattle.je_answers.specs.Alone.{Alone, alone}
use Rattle.je_answers.specs.Standing.{Standing}
use Rattle.log_buffer.specs.Buffer.{end_of, has_failed}
use Rattle.log_buffer.specs.Flip.{pos_lsn}
use Rattle.log_replay.specs.Rows.{Rows}
use Rattle.log_replay.specs.Logging.{number_named}
use Rattle.in_tree.specs.declared.logged_trees.LogTrees.{LogTrees}
use Rattle.in_tree.specs.Observed.{cells_of, has_tree_of, waits_of}
use Rattle.active_txns.specs.Own.{counts_at, has_some}
use Rattle.record_tree.specs.Occupied.{AllCells}
use Rattle.sessions.specs.declared.all_sessions.Sessions.{Sessions}
use Rattle.sessions.specs.AtStanding.{AreSessionsAt, owing}
use Rattle.standing_laws.specs.Right.{AreRight}
use Rattle.standing_laws.proofs.AloneRight.{alone-is_right}
use Rattle.txn_core.specs.Known.{IsQuiet, committed}
use Rattle.txn_log.specs.Gives.{GivesRecordsWith}
use Rattle.txn_views.specs.Seen.{HasWrites, IsWriteOf}
use Rattle.engine.specs.declared.engine.Engine.{Engine}
use Rattle.engine.specs.declared.kept.Kept.{Kept}
use Rattle.engine.specs.Environment.{IsValid}
use Rattle.engine.specs.Limits.{IsWithin, Reach}
use Rattle.engine.specs.Opening.{reach_in}
use Rattle.engine.specs.Whole.{AreTrees, IsAt as EngineIsAt, IsOpened as EngineIsOpened, IsOpenedSafely as EngineIsOpenedSafely, contents, reach_of as engine_reach, KeepsIndexes, KeepsNames}
use Rattle.engine.proofs.TxnGives.{gives_with_none}
use Rattle.serial_replay.specs.Reached.{IsReached}
use Rattle.environment.proofs.ReachedLaws.{starts_reached}
use Rattle.environment.proofs.Databases.{known_from}
use Rattle.environment.specs.Valid.{AreBare, AreAt, IsValidWith, Lives, owed_by, fitting, waiting_in}
use Rattle.environment.specs.Whole.{IsAt, IsOpened, IsOpenedSafely, reach_of}
use Rattle.environment.specs.Written.{AreNamesOf}
use Rattle.environment.specs.declared.environment.Environment.{Environment}
use Rattle.environment.specs.declared.written.OwnNames.{OwnNames}
use Rattle.environment.proofs.Firsts.{firsts_none}

-- nobody wrote names
pub names_none : (entries : List (TxnId × OwnNames)) (rows : Rows) → entries ≡ [] → AreNamesOf entries (λ t. []) rows
names_none entries rows none = subst (λ (l : List (TxnId × OwnNames)). AreNamesOf l (λ t. []) rows) (sym none) (record { names = λ t. refl; had = λ t. refl })

-- nobody has changes: no name has one
none_writes : (cells : AllCells) → IsQuiet cells → HasWrites cells (λ t. [])
none_writes cells quiet d x = subst (IsWriteOf d x (λ t. [])) (sym (quiet d x)) (λ t. refl)

-- nobody owes a Commit
none_owing : (p : Alone) (n : ℕ) → owing (alone p) ≡ suc n → ⊥
none_owing p n is = cc

-- and sessions owe none
none_owed : (s : Sessions) (p : Alone) → AreSessionsAt s (alone p) → owed_by s ≡ 0
none_owed s p at = ap (λ (l : List Active). length (filter (λ (a : Active). has_some (counts_at a.txn s.txns.own.entries)) l)) at.actives

module _ {D : Type 0} where
  -- a log and trees in which nobody changed anything
  wide_valid : (observable : Bool) (state : State) (trees : LogTrees D) (kept : Kept) (entries : List (TxnId × OwnNames)) (p : Alone) → IsValid observable state trees.log (contents trees kept) p.store →
      AreTrees trees → kept.last_txn ≡ p.last_txn → kept.last_db ≡ p.last_db → number_named (committed (cells_of trees)) ≡ p.numbers → AreNamesOf entries (λ t. []) (committed (cells_of trees)) →
      IsValidWith observable state trees.log (cells_of trees) (has_tree_of trees) (fitting trees) kept.since entries (alone p)
  unfolding gives_with_none
  wide_valid observable state trees kept entries p v are last_txn last_db numbers names =
      let rows : Rows = committed (cells_of trees) in
      let given : GivesRecordsWith v.log (end_of trees.log) rows kept.last_txn kept.last_db (λ t. false) (λ t. []) = gives_with_none v.log (end_of trees.log) (contents trees kept) v.gives in
      let gives : GivesRecordsWith v.log (end_of trees.log) rows p.last_txn p.last_db (λ t. false) (λ t. []) =
      subst (λ (n : ℕ). GivesRecordsWith v.log (end_of trees.log) rows n p.last_db (λ t. false) (λ t. [])) last_txn
      (subst (λ (n : ℕ). GivesRecordsWith v.log (end_of trees.log) rows kept.last_txn n (λ t. false) (λ t. [])) last_db given) in
      let lives : Lives (fitting trees) v.log kept.since (pos_lsn (end_of trees.log)) entries gives.base =
      subst (Lives (fitting trees) v.log kept.since (pos_lsn (end_of trees.log)) entries)
      (sym (same_under (λ (n : ℕ). GivesRecordsWith v.log (end_of trees.log) rows n p.last_db (λ t. false) (λ t. [])) (λ n g. g.base) last_txn
      (subst (λ (n : ℕ). GivesRecordsWith v.log (end_of trees.log) rows kept.last_txn n (λ t. false) (λ t. [])) last_db given)
      ∙ same_under (λ (n : ℕ). GivesRecordsWith v.log (end_of trees.log) rows kept.last_txn n (λ t. false) (λ t. [])) (λ n g. g.base) last_db given))
      (record { fits = v.fits; from = v.from; firsts = firsts_none entries rows (waiting_in v.log v.gives.base) (pos_lsn (end_of trees.log)) names }) in
      record {
        log = v.log;
        has = v.has;
        works = v.works;
        gives = gives;
        recovers = v.recovers;
        makes = record {
          environment = gives.listed.environment;
          rising = gives.listed.rising;
          unused = gives.unused;
          numbers = gives.numbers;
          store = v.made;
          named = λ name. ap (λ (f : List ℕ → ℕ). f name) numbers;
        };
        writes = none_writes (cells_of trees) are.quiet;
        may = λ t. tt;
        made = are.made;
        room = λ n is. absurd (none_owing p n is);
        names = names;
        fits = lives.fits;
        from = lives.from;
        firsts = lives.firsts;
      }

  -- an environment in which nobody is under way is where its engine is
  pub wide_at : (most : ℕ) (observable : Bool) (state : State) (engine : Engine D) (sessions : Sessions) (entries : List (TxnId × OwnNames)) (st : Standing) → EngineIsAt most observable state engine st →
      ((p : Alone) → AreSessionsAt sessions (alone p)) → AreNamesOf entries (λ t. []) (committed (cells_of engine.trees)) → KeepsIndexes engine → KeepsNames engine →
      AreAt most observable state engine.trees.log (cells_of engine.trees) (has_tree_of engine.trees) (fitting engine.trees) engine.kept sessions entries st
  wide_at most observable state engine sessions entries st here at names has_indexes has_names =
      let p : Alone = here.at.alone_at in
      let is = here.at.here in
      let same : st ≡ alone p = here.at.st_is in
      subst (λ (s : Standing). AreAt most observable state engine.trees.log (cells_of engine.trees) (has_tree_of engine.trees) (fitting engine.trees) engine.kept sessions entries s) (sym same) (record {
        file_max = is.file_max;
        fault = is.fault;
        last_txn = is.last_txn;
        last_db = is.last_db;
        commits = is.commits;
        totals = is.totals;
        sessions_at = at p;
        apart = tt;
        checkpoint = is.checkpoint;
        databases = λ none. known_from (committed (cells_of engine.trees)) p.last_db (alone p) engine.kept (its none).makes has_indexes has_names;
        valid = its;
      })
    where
      its : here.at.alone_at.fault ≡ None → IsValidWith observable state engine.trees.log (cells_of engine.trees) (has_tree_of engine.trees) (fitting engine.trees) engine.kept.since entries (alone here.at.alone_at)
      its none =
          wide_valid observable state engine.trees engine.kept entries here.at.alone_at (here.at.here.valid none) (here.trees (ap (λ (s : Standing). s.fault) here.at.st_is ∙ none)) here.at.here.last_txn here.at.here.last_db (here.at.here.numbers none) names

  pub wide : (most : ℕ) (observable : Bool) (state : State) (e : Environment D) (st : Standing) → EngineIsAt most observable state e.engine st →
      ((p : Alone) → AreSessionsAt e.sessions (alone p)) → AreNamesOf e.written.by_txn.entries (λ t. []) (committed (cells_of e.engine.trees)) → KeepsIndexes e.engine → KeepsNames e.engine →
      IsReached st → IsAt most observable state e st
  wide most observable state e st here at names has_indexes has_names reached = record {
    at = wide_at most observable state e.engine e.sessions e.written.by_txn.entries st here at names has_indexes has_names;
    right = λ none. subst AreRight (sym here.at.st_is) (alone-is_right here.at.alone_at);
    bare = λ none. subst AreBare (sym here.at.st_is) tt;
    reached = reached;
  }

  -- ---- how far it reaches

  -- it reaches as far as its engine
  pub reach_alone : (e : Environment D) (p : Alone) → AreSessionsAt e.sessions (alone p) → reach_of e ≡ engine_reach e.engine
  reach_alone e p at = ap (λ (f : ℕ). let r : Reach = record { file = f; node = e.engine.kept.last_node } in r) (by_failed (has_failed e.engine.trees.log))
    where
      none : owed_by e.sessions ≡ 0
      none = none_owed e.sessions p at

      by_failed : (b : Bool) → cond b 0 ((end_of e.engine.trees.log).file + waits_of e.engine.trees + owed_by e.sessions) ≡ cond b 0 ((end_of e.engine.trees.log).file + waits_of e.engine.trees)
      by_failed true = refl
      by_failed false = omega (arith, none)

  -- ---- an environment that was opened

  pub opened_wide : (most : ℕ) (observable : Bool) (files : Files) (state : State) (e : Environment D) (opening : Store) → EngineIsOpened most observable files state e.engine opening →
      ((p : Alone) → AreSessionsAt e.sessions (alone p)) → e.written.by_txn.entries ≡ [] → KeepsIndexes e.engine → KeepsNames e.engine → IsOpened most observable files state e opening
  opened_wide most observable files state e opening opened at none has_indexes has_names = (
    opened.0,
    record {
      starts = opened.1.starts;
      here = wide most observable state e opened.0 opened.1.here at (names_none e.written.by_txn.entries (committed (cells_of e.engine.trees)) none) has_indexes has_names (starts_reached observable files opening opened.0 opened.1.starts);
      reach = subst (λ (r : Reach). IsWithin r (reach_in opened.1.starts.held opened.1.starts.meaning)) (sym (reach_alone e opened.1.here.at.alone_at (at opened.1.here.at.alone_at))) opened.1.reach;
    },
  )

  pub opened_wide_safely : (most : ℕ) (files : Files) (opening : Store) (history : History) (e : Environment D) → EngineIsOpenedSafely most files opening history e.engine →
      ((p : Alone) → AreSessionsAt e.sessions (alone p)) → e.written.by_txn.entries ≡ [] → KeepsIndexes e.engine → KeepsNames e.engine → IsOpenedSafely most files opening history e
  opened_wide_safely most files opening history e opened at none has_indexes has_names = record {
    st = opened.st;
    starts = opened.starts;
    here = wide most true (now history) e opened.st opened.here at (names_none e.written.by_txn.entries (committed (cells_of e.engine.trees)) none) has_indexes has_names (starts_reached true files opening opened.st opened.starts);
    reach = subst (λ (r : Reach). IsWithin r (reach_in opened.starts.held opened.starts.meaning)) (sym (reach_alone e opened.here.at.alone_at (at opened.here.at.alone_at))) opened.reach;
    stable = opened.stable;
    guarded = opened.guarded;
  }
