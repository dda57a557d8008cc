-- Where an environment stands behind a step of maintenance, and that a guarded run goes on with it.
use mathlib.Core.Path.{fun_ext}
use Rattle.std.proofs.Common.{◌≡◌, inl, inr, ℕ, zero, suc, ◌+◌, ◌≤◌, Bool, true, false, true≢false, cond, List, [], ◌∷◌, map, length, Option, None, Some, is_some, Result, Ok, Err, IfOk, OnErr, refl, ap, sym, ◌∙◌, subst, arith}
use Rattle.std.specs.declared.alloc.AllocError.{AllocError}
use Rattle.std.proofs.lemmas.List.{length-map}
use Rattle.std.proofs.lemmas.Option.{none-some}
use Rattle.je_disk.specs.DiskMeaning.{DiskMeaning}
use Rattle.je_disk.specs.States.{State}
use Rattle.je_disk.specs.Moments.{History, now}
use Rattle.je_order.specs.Counts.{HasRisen}
use Rattle.je_order.specs.declared.txn_id.TxnId.{TxnId}
use Rattle.store_model.specs.declared.answer.Answer.{Answer}
use Rattle.store_model.specs.declared.answer.Answer.TheVariants.{LogFull, DiskFault}
use Rattle.store_model.specs.declared.answer.Fault.{Fault as Cause}
use Rattle.store_model.specs.declared.answer.Fault.TheVariants.{Disk}
use Rattle.store_model.specs.declared.event.Event.{Event}
use Rattle.store_model.specs.declared.event.Event.TheVariants.{Turn}
use Rattle.store_model.specs.declared.step.Step.{Step}
use Rattle.je_answers.specs.Standing.{Standing}
use Rattle.je_answers.specs.Events.{IsLimited, IsTurned, log_limit}
use Rattle.je_answers.specs.After.{after_events, after_turn, faulted}
use Rattle.je_answers.specs.Journal.{is_disk_fault}
use Rattle.log_entry.specs.Encoding.{size_of}
use Rattle.log_entry.specs.declared.entry.Entry.{Entry}
use Rattle.log_buffer.specs.declared.log_pos.LogPos.{LogPos}
use Rattle.log_buffer.specs.Buffer.{IsUnchanged, disk_of as disk_below, end_of, file_max_of, has_failed}
use Rattle.record_tree.specs.Occupied.{AllCells}
use Rattle.in_tree.specs.Checkpoints.{IsFullFor}
use Rattle.in_tree.specs.Limits.{TriedFitting, commit_sizes}
use Rattle.in_tree.specs.Observed.{cells_of, has_tree_of, waits_of}
use Rattle.in_tree.proofs.Far.{files_few}
use Rattle.sessions.specs.declared.all_sessions.Sessions.{Sessions}
use Rattle.sessions.specs.AtStanding.{AreSessionsAt, owing}
use Rattle.standing_laws.specs.Right.{AreRight}
use Rattle.engine.specs.declared.kept.Kept.{Kept}
use Rattle.engine.specs.Limits.{IsBoundedBy, IsWithin, Reach}
use Rattle.engine.proofs.GuardedCalls.{guarded_along}
use Rattle.serial_replay.specs.Reached.{IsReached}
use Rattle.serial_replay.proofs.Attempts.{reached_goes-on}
use Rattle.environment.specs.declared.environment.Environment.{Environment}
use Rattle.environment.specs.declared.written.OwnNames.{OwnNames}
use Rattle.environment.specs.declared.written.Written.{Written}
use Rattle.environment.specs.Limits.{IsBoundedAt, IsBoundedUnless, is_idle_step, reach_behind}
use Rattle.environment.specs.Steps.{IsLogStep, RecoversWith, StandsAt}
use Rattle.environment.specs.Turning.{Grew, HasStayed, TurnsSafely, TurnsTo}
use Rattle.environment.specs.Valid.{AreBare, IsValidWith, fitting, owed_by, KnowsDatabases}
use Rattle.environment.specs.Whole.{CanGoOn, HasDone, IsAt, IsGuarded, disk_of, end_file, reach_of}
use Rattle.environment.proofs.Answering.{guarded_step, owed_is}
use Rattle.environment.proofs.Standing.{sessions_faulted}

-- a checkpoint that is under way is no part of what holds of a standing
right_marked : (st : Standing) (begun : Bool) → AreRight st → AreRight (record st { in_checkpoint = begun })
right_marked st begun right = right

sessions_marked : (s : Sessions) (st : Standing) (begun : Bool) → AreSessionsAt s st → AreSessionsAt s (record st { in_checkpoint = begun })
sessions_marked s st begun at = at

-- none is a limit at each event
pub unless_none : (idle : Bool) (after : Reach) → IsBoundedUnless idle after None
unless_none true after = refl
unless_none false after = inl refl

commits_many : (owed : ℕ) → length (commit_sizes owed) ≡ owed
commits_many zero = refl
commits_many (suc n) = let rest = commits_many n in omega (arith, rest)

module _ {D : Type 0} (meaning : DiskMeaning D) where
  abbrev state_of : Environment D → State
  state_of e = now (meaning.history (disk_below e.engine.trees.log))

  abbrev ValidAt : Environment D → Standing → Type 0
  ValidAt e st =
      IsValidWith meaning.observable (state_of e) e.engine.trees.log (cells_of e.engine.trees) (has_tree_of e.engine.trees) (fitting e.engine.trees) e.engine.kept.since e.written.by_txn.entries st

  -- the log got an entry at most, and the environment is valid still; a log with it recovers no transaction more
  pub record HasAppended (old new : Environment D) (st : Standing) (begun : Bool) : Type 0 where
    pub entries : List Entry
    pub few : length entries ≤ 1
    pub grew : Grew meaning old.engine.trees new.engine.trees entries
    pub recovers : RecoversWith meaning old.engine.trees.log entries []
    pub valid : ValidAt new (record st { in_checkpoint = begun })
    pub fault : new.engine.kept.fault ≡ old.engine.kept.fault
    pub under_way : is_some new.engine.kept.checkpoints.under_way ≡ begun

  -- the disk failed while it was appended
  pub record HasNotAppended (old new : Environment D) : Type 0 where
    pub front : List Entry
    pub tried : TriedFitting meaning old.engine.trees.log new.engine.trees.log front
    pub recovers : RecoversWith meaning old.engine.trees.log front []
    pub fault : new.engine.kept.fault ≡ Some Disk
    pub under_way : is_some new.engine.kept.checkpoints.under_way ≡ is_some old.engine.kept.checkpoints.under_way

  module _ (old new : Environment D) (stays : HasStayed old new) where
    -- an environment with other parts, none of which changed
    pub valid_moved : (st : Standing) →
        IsValidWith meaning.observable (state_of new) new.engine.trees.log (cells_of old.engine.trees) (has_tree_of old.engine.trees) (fitting new.engine.trees) new.engine.kept.since old.written.by_txn.entries st → ValidAt new st
    valid_moved st v =
        subst (λ (c : AllCells). IsValidWith meaning.observable (state_of new) new.engine.trees.log c (has_tree_of new.engine.trees) (fitting new.engine.trees) new.engine.kept.since new.written.by_txn.entries st) (sym (fun_ext stays.cells))
        (subst (λ (h : ℕ → Bool). IsValidWith meaning.observable (state_of new) new.engine.trees.log (cells_of old.engine.trees) h (fitting new.engine.trees) new.engine.kept.since new.written.by_txn.entries st) (sym (fun_ext stays.trees))
        (subst (λ (l : List (TxnId × OwnNames)). IsValidWith meaning.observable (state_of new) new.engine.trees.log (cells_of old.engine.trees) (has_tree_of old.engine.trees) (fitting new.engine.trees) new.engine.kept.since l st)
        (sym (ap (λ (w : Written). w.by_txn.entries) stays.written)) v))

    module _ (most : ℕ) (st : Standing) (at : StandsAt most meaning old st) (none : st.fault ≡ None) where
      works : has_failed old.engine.trees.log ≡ false
      works = (at.valid none).works

      -- ---- where it stands

      at_appended : (begun : Bool) → HasAppended old new st begun → StandsAt most meaning new (record st { in_checkpoint = begun })
      at_appended begun h = record {
        file_max = h.grew.fitting.grew.max ∙ at.file_max;
        fault = h.fault ∙ at.fault;
        last_txn = ap (λ (k : Kept). k.last_txn) stays.kept ∙ at.last_txn;
        last_db = ap (λ (k : Kept). k.last_db) stays.kept ∙ at.last_db;
        commits = ap (λ (k : Kept). k.commits) stays.kept ∙ at.commits;
        totals = ap (λ (k : Kept). k.totals) stays.kept ∙ at.totals;
        sessions_at = subst (λ (s : Sessions). AreSessionsAt s (record st { in_checkpoint = begun })) (sym stays.sessions) (sessions_marked old.sessions st begun at.sessions_at);
        apart = at.apart;
        checkpoint = h.under_way;
        databases = λ calm. subst (KnowsDatabases st) (sym stays.kept) (at.databases none);
        valid = λ calm. h.valid;
      }

      at_fault : HasNotAppended old new → StandsAt most meaning new (faulted st)
      at_fault h = record {
        file_max = h.tried.tried.max ∙ at.file_max;
        fault = h.fault;
        last_txn = ap (λ (k : Kept). k.last_txn) stays.kept ∙ at.last_txn;
        last_db = ap (λ (k : Kept). k.last_db) stays.kept ∙ at.last_db;
        commits = ap (λ (k : Kept). k.commits) stays.kept ∙ at.commits;
        totals = ap (λ (k : Kept). k.totals) stays.kept ∙ at.totals;
        sessions_at = subst (λ (s : Sessions). AreSessionsAt s (faulted st)) (sym stays.sessions) (sessions_faulted old.sessions st st.begun at.sessions_at);
        apart = at.apart;
        checkpoint = h.under_way ∙ at.checkpoint;
        databases = λ calm. absurd (none-some Disk (sym calm));
        valid = λ calm. absurd (none-some Disk (sym calm));
      }

      -- ---- how far it reaches

      ends_near : (begun : Bool) → (h : HasAppended old new st begun) → end_file new.engine.trees new.sessions ≤ end_file old.engine.trees old.sessions + length h.entries
      ends_near begun h =
          let k = ap (λ (b : Bool). cond b 0 ((end_of new.engine.trees.log).file + waits_of new.engine.trees + owed_by new.sessions)) (h.grew.fitting.grew.failed ∙ works) in
          let l = ap (λ (b : Bool). cond b 0 ((end_of old.engine.trees.log).file + waits_of old.engine.trees + owed_by old.sessions)) works in
          let end = ap (λ (p : LogPos). p.file) h.grew.fitting.grew.end in
          let few = files_few (file_max_of old.engine.trees.log) (end_of old.engine.trees.log) (map size_of h.entries) in
          let many = length-map h.entries size_of in
          let waits = stays.waits in
          let owed = ap owed_by stays.sessions in
          omega (arith, k, l, end, few, many, waits, owed)

      same_node : new.engine.kept.last_node ≡ old.engine.kept.last_node
      same_node = ap (λ (k : Kept). k.last_node) stays.kept

      pub near : (begun : Bool) (line : ℕ) (step : Step) (answer : Answer) → HasAppended old new st begun → IsWithin (reach_of new) (reach_behind (reach_of old) st (Turn line step answer))
      near begun line step answer h = let far = ends_near begun h in let few = h.few in let node = same_node in record { file = omega (arith, far, few); node = omega (arith, node) }

      -- no farther, where nothing was logged
      pub stays_near : (begun : Bool) → (h : HasAppended old new st begun) → h.entries ≡ [] → IsWithin (reach_of new) (reach_of old)
      stays_near begun h is =
          let far = ends_near begun h in
          let nothing = ap (λ (l : List Entry). length l) is in
          let node = same_node in
          record { file = omega (arith, far, nothing); node = omega (arith, node) }

      pub near_fault : (line : ℕ) (step : Step) → HasNotAppended old new → IsWithin (reach_of new) (reach_behind (reach_of old) st (Turn line step DiskFault))
      near_fault line step h = record {
        file = let k = ap (λ (b : Bool). cond b 0 ((end_of new.engine.trees.log).file + waits_of new.engine.trees + owed_by new.sessions)) h.tried.tried.failed in omega (arith, k);
        node = let node = same_node in omega (arith, node);
      }

      -- where an entry, with the Commits that are owed, has no room, the log ends in its last file but one, were each in a file of its own
      pub full_is_bounded : (line : ℕ) (step : Step) (entry : Entry) → IsFullFor old.engine.trees.log (entry ∷ []) (owing st) → IsBoundedBy (reach_behind (reach_of old) st (Turn line step LogFull)) (Some LogFull)
      full_is_bounded line step entry full =
          let l = ap (λ (b : Bool). cond b 0 ((end_of old.engine.trees.log).file + waits_of old.engine.trees + owed_by old.sessions)) works in
          let few = files_few (file_max_of old.engine.trees.log) (end_of old.engine.trees.log) (size_of entry ∷ commit_sizes (owing st)) in
          let many = commits_many (owing st) in
          let owed = owed_is old.sessions st at.sessions_at in
          inr (inl (refl, omega (arith, l, few, many, owed, full)))

      -- ---- the event

      turned : (limit : Option Answer) (step : Step) (answer : Answer) → IsLimited (log_limit limit) step st.in_checkpoint answer → IsTurned st.fault limit step st.in_checkpoint answer
      turned limit step answer is = subst (λ (f : Option Cause). IsTurned f limit step st.in_checkpoint answer) (sym none) is

      pub done_appended : (limit : Option Answer) (line : ℕ) (step : Step) (answer : Answer) (begun : Bool) → AreRight st → AreBare st → IsReached st → IsBoundedAt (reach_of old) st (Turn line step answer) limit →
          IsLimited (log_limit limit) step st.in_checkpoint answer → after_turn step st answer ≡ record st { in_checkpoint = begun } → HasAppended old new st begun →
          HasDone most meaning.observable (state_of new) old new st (Turn line step answer)
      done_appended limit line step answer begun right bare reached bounded answers path h = record {
        limit = limit;
        bounded = bounded;
        answered = turned limit step answer answers;
        here = subst (IsAt most meaning.observable (state_of new) new) (sym path) (record { at = at_appended begun h; right = λ calm. right_marked st begun right; bare = λ calm. bare; reached = subst IsReached path (reached_goes-on limit st (Turn line step answer) reached (turned limit step answer answers)) });
      }

      pub done_fault : (line : ℕ) (step : Step) → IsReached st → IsLimited (log_limit None) step st.in_checkpoint DiskFault → after_turn step st DiskFault ≡ faulted st → HasNotAppended old new →
          HasDone most meaning.observable (state_of new) old new st (Turn line step DiskFault)
      done_fault line step reached answers path h = record {
        limit = None;
        bounded = unless_none (is_idle_step st (Turn line step DiskFault)) (reach_behind (reach_of old) st (Turn line step DiskFault));
        answered = turned None step DiskFault answers;
        here = subst (IsAt most meaning.observable (state_of new) new) (sym path) (record { at = at_fault h; right = λ calm. absurd (none-some Disk (sym calm)); bare = λ calm. absurd (none-some Disk (sym calm)); reached = subst IsReached path (reached_goes-on None st (Turn line step DiskFault) reached (turned None step DiskFault answers)) });
      }

      -- there was no memory
      pub left_appended : AreRight st → AreBare st → IsReached st → HasAppended old new st st.in_checkpoint → IsAt most meaning.observable (state_of new) new st
      left_appended right bare reached h = record { at = at_appended st.in_checkpoint h; right = λ calm. right; bare = λ calm. bare; reached = reached }

    pub log_appended : (st : Standing) (begun : Bool) → HasAppended old new st begun → IsLogStep meaning false old.engine.trees.log new.engine.trees.log []
    log_appended st begun h = inr (record { entries = h.entries; grew = h.grew.fitting.grew; recovers = h.recovers })

    pub log_fault : HasNotAppended old new → IsLogStep meaning true old.engine.trees.log new.engine.trees.log []
    log_fault h = record { front = h.front; tried = h.tried.tried; recovers = inl h.recovers }

  -- ---- all that a step comes to

  -- the model may have it, the environment goes on and so does its log; the disk counted a fault where it failed
  pub record HasTurned (most : ℕ) (old new : Environment D) (st : Standing) (line : ℕ) (step : Step) (answer : Answer) : Type 0 where
    pub done : HasDone most meaning.observable (state_of new) old new st (Turn line step answer)
    pub near : IsWithin (reach_of new) (reach_behind (reach_of old) st (Turn line step answer))
    pub log : IsLogStep meaning (is_disk_fault answer) old.engine.trees.log new.engine.trees.log []
    pub fault : (after_turn step st answer).fault ≡ cond (is_disk_fault answer) (Some Disk) None
    pub never_falls : meaning.faults (disk_below old.engine.trees.log) ≤ meaning.faults (disk_below new.engine.trees.log)
    pub rose : answer ≡ DiskFault → HasRisen (meaning.faults (disk_below old.engine.trees.log)) (meaning.faults (disk_below new.engine.trees.log))

  -- there was no memory, and the environment is where it was
  pub record HasNotTurned (most : ℕ) (old new : Environment D) (st : Standing) : Type 0 where
    pub left : IsAt most meaning.observable (state_of new) new st
    pub near : IsWithin (reach_of new) (reach_of old)
    pub log : IsUnchanged old.engine.trees.log new.engine.trees.log
    pub never_falls : meaning.faults (disk_below old.engine.trees.log) ≤ meaning.faults (disk_below new.engine.trees.log)

  abbrev pub Turned : ℕ → Environment D → Environment D → Standing → ℕ → Step → Result Answer AllocError → Type 0
  Turned most old new st line step (Ok answer) = HasTurned most old new st line step answer
  Turned most old new st line step (Err error) = HasNotTurned most old new st

  module _ (most : ℕ) (old new : Environment D) (stays : HasStayed old new) (st : Standing) (at : StandsAt most meaning old st) (none : st.fault ≡ None) (right : AreRight st) (bare : AreBare st) (reached : IsReached st) (line : ℕ) where
    pub turned_appended : (limit : Option Answer) (step : Step) (answer : Answer) (begun : Bool) → is_disk_fault answer ≡ false → IsBoundedAt (reach_of old) st (Turn line step answer) limit →
        IsLimited (log_limit limit) step st.in_checkpoint answer → after_turn step st answer ≡ record st { in_checkpoint = begun } → HasAppended old new st begun → HasTurned most old new st line step answer
    turned_appended limit step answer begun quiet bounded answers path h = record {
      done = done_appended old new stays most st at none limit line step answer begun right bare reached bounded answers path h;
      near = near old new stays most st at none begun line step answer h;
      log = subst (λ (b : Bool). IsLogStep meaning b old.engine.trees.log new.engine.trees.log []) (sym quiet) (log_appended old new stays st begun h);
      fault = ap (λ (s : Standing). s.fault) path ∙ none ∙ sym (ap (λ (b : Bool). cond b (Some Disk) None) quiet);
      never_falls = h.grew.fitting.never_falls;
      rose = λ is. absurd (true≢false (sym (ap is_disk_fault is) ∙ quiet));
    }

    pub turned_fault : (step : Step) → IsLimited (log_limit None) step st.in_checkpoint DiskFault → after_turn step st DiskFault ≡ faulted st → HasNotAppended old new → HasTurned most old new st line step DiskFault
    turned_fault step answers path h = record {
      done = done_fault old new stays most st at none line step reached answers path h;
      near = near_fault old new stays most st at none line step h;
      log = log_fault old new stays h;
      fault = ap (λ (s : Standing). s.fault) path;
      never_falls = h.tried.never_falls;
      rose = λ is. h.tried.rose (at.valid none).works;
    }

    pub turned_not : (h : HasAppended old new st st.in_checkpoint) → h.entries ≡ [] → HasNotTurned most old new st
    turned_not h is = record {
      left = left_appended old new stays most st at none right bare reached h;
      near = stays_near old new stays most st at none st.in_checkpoint h is;
      log = h.grew.fitting.none is;
      never_falls = h.grew.fitting.never_falls;
    }

  -- ---- a guarded run goes on

  pub guarded_turn : (most : ℕ) (old new : Environment D) (st : Standing) (start : History) (journal : List Event) (line : ℕ) (step : Step) (result : Result Answer AllocError) → meaning.observable ≡ true →
      (after_events st journal).fault ≡ None → Turned most old new (after_events st journal) line step result → IsGuarded most st start (meaning.history (disk_of old)) old journal →
      TurnsSafely most st start (meaning.history (disk_of new)) new journal line step result
  guarded_turn most old new st start journal line step (Ok answer) observed none h is =
      guarded_step meaning st start old.engine.trees.log new.engine.trees.log journal (Turn line step answer) [] is.0 observed refl h.log refl refl none h.fault is.1
  guarded_turn most old new st start journal line step (Err error) observed none h is =
      (is.0, guarded_along meaning.history st is.0 start old.engine.trees.log new.engine.trees.log journal h.log is.1 none)

  pub turns_to : (most : ℕ) (old new : Environment D) (st : Standing) (line : ℕ) (step : Step) (result : Result Answer AllocError) → Turned most old new st line step result →
      TurnsTo most meaning.observable (state_of new) old new st line step result
  turns_to most old new st line step (Ok answer) h = h.done
  turns_to most old new st line step (Err error) h = h.left

  pub turn_near : (most : ℕ) (old new : Environment D) (st : Standing) (line : ℕ) (step : Step) (result : Result Answer AllocError) → Turned most old new st line step result →
      IfOk result (λ answer. IsWithin (reach_of new) (reach_behind (reach_of old) st (Turn line step answer)))
  turn_near most old new st line step (Ok answer) h = h.near
  turn_near most old new st line step (Err error) h = tt

  pub turn_stays_near : (most : ℕ) (old new : Environment D) (st : Standing) (line : ℕ) (step : Step) (result : Result Answer AllocError) → Turned most old new st line step result → OnErr result (IsWithin (reach_of new) (reach_of old))
  turn_stays_near most old new st line step (Ok answer) h = tt
  turn_stays_near most old new st line step (Err error) h = h.near

  pub turn_never_falls : (most : ℕ) (old new : Environment D) (st : Standing) (line : ℕ) (step : Step) (result : Result Answer AllocError) → Turned most old new st line step result → meaning.faults (disk_of old) ≤ meaning.faults (disk_of new)
  turn_never_falls most old new st line step (Ok answer) h = h.never_falls
  turn_never_falls most old new st line step (Err error) h = h.never_falls

  pub turn_rose : (most : ℕ) (old new : Environment D) (st : Standing) (line : ℕ) (step : Step) (result : Result Answer AllocError) → Turned most old new st line step result → result ≡ Ok DiskFault →
      HasRisen (meaning.faults (disk_of old)) (meaning.faults (disk_of new))
  turn_rose most old new st line step (Ok answer) h is = h.rose (cc)
  turn_rose most old new st line step (Err error) h is = cc

  pub turn_bounds : (old new : Environment D) → HasStayed old new → CanGoOn old → CanGoOn new
  turn_bounds old new stays bounds = subst (λ (k : Kept). k.commits ≤ k.last_txn) (sym stays.kept) bounds
