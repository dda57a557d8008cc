-- What each step of maintenance comes to.
use Rattle.std.proofs.Common.{◌≡◌, ◌⊎◌, inl, inr, ℕ, suc, ◌≤◌, Bool, true, false, List, [], ◌∷◌, ◌++◌, length, Option, None, Some, is_some, Result, Ok, Err, refl, ap, sym, ◌∙◌, subst, arith}
use Rattle.std.specs.declared.alloc.AllocError.{AllocError}
use Rattle.je_disk.specs.DiskMeaning.{DiskMeaning}
use Rattle.je_disk.specs.Moments.{History, now}
use Rattle.store_model.specs.declared.answer.Answer.{Answer}
use Rattle.store_model.specs.declared.answer.Answer.TheVariants.{Done, Flushed, Nothing, InCheckpoint, NoCheckpoint, NodesLeft, LogFull, DiskFault, Invalid}
use Rattle.store_model.specs.declared.answer.Fault.{Fault as Cause}
use Rattle.store_model.specs.declared.event.Event.{Event}
use Rattle.store_model.specs.declared.event.Event.TheVariants.{Turn}
use Rattle.store_model.specs.declared.step.Step.{Step}
use Rattle.store_model.specs.declared.step.Step.TheVariants.{Begin, Flush, Finish as FinishStep, Sync}
use Rattle.je_answers.specs.Standing.{Standing}
use Rattle.je_answers.specs.Events.{IsLimited, IsStepped, IsTurned, log_limit}
use Rattle.je_answers.specs.After.{after_events, after_turn, faulted}
use Rattle.je_answers.specs.Journal.{is_disk_fault}
use Rattle.log_entry.specs.declared.entry.Entry.{Entry}
use Rattle.log_entry.specs.declared.root.Root.{Root}
use Rattle.log_buffer.specs.declared.buffer.LogBuffer.{LogBuffer}
use Rattle.log_buffer.specs.Buffer.{disk_of as disk_below, end_of}
use Rattle.log_buffer.specs.Flip.{pos_lsn}
use Rattle.log_meaning.specs.Growth.{is_neutral}
use Rattle.record_tree.specs.Logged.{IsFront}
use Rattle.record_tree.specs.Nodes.{NamesEnd}
use Rattle.dirty_nodes.specs.Forest.{IsMarkIn, IsSince}
use Rattle.in_tree.specs.declared.logged_trees.LogTrees.{LogTrees}
use Rattle.in_tree.specs.Checkpoints.{IsFullFor, MayEndTrees}
use Rattle.in_tree.specs.Limits.{HasRoomFor, TriedFitting, commit_sizes}
use Rattle.in_tree.specs.Observed.{cells_of, grew_none, has_tree_of, last_node_of, trees_of}
use Rattle.txn_core.specs.Known.{committed}
use Rattle.txn_log.specs.Checkpoints.{AreNeutral, EndParts, end_entry}
use Rattle.checkpointer.specs.declared.finish.Finish.{Finish}
use Rattle.checkpointer.specs.declared.under_way.UnderWay.{UnderWay}
use Rattle.checkpointer.specs.Numbers.{earlier_of}
use Rattle.checkpointer.specs.Steps.{end_of as end_by}
use Rattle.sessions.specs.AtStanding.{AreSessionsAt, owing}
use Rattle.standing_laws.specs.Right.{AreRight}
use Rattle.serial_replay.specs.Reached.{IsReached}
use Rattle.environment.specs.declared.environment.Environment.{Environment}
use Rattle.environment.specs.Limits.{IsBoundedAt, IsBoundedUnless, appends_nothing, reach_behind}
use Rattle.environment.specs.Steps.{StandsAt}
use Rattle.environment.specs.Turning.{BeginsTo, FinishesTo, FlushesTo, Grew, HasStayed, HasStopped, IsFinishOf, IsStill, StepsTo, start_entry}
use Rattle.environment.specs.Valid.{AreBare, IsValidWith, active_number, fitting}
use Rattle.environment.specs.Whole.{HasDone, IsAt, IsGuarded, disk_of, reach_of}
use Rattle.engine.proofs.GuardLaws.{guarded_quiet}
use Rattle.environment.proofs.Bases.{begun_with}
use Rattle.environment.proofs.EndingLaws.{room_unchanged}
use Rattle.environment.proofs.TurnedLogs.{image_neutral, recovers_end, recovers_neutral, tries_end, tries_neutral, valid_end, valid_neutral}
use Rattle.environment.proofs.TurningLaws.{HasAppended, HasNotAppended, Turned, full_is_bounded, turned_appended, turned_fault, turned_not, unless_none, valid_moved}

module _ {D : Type 0} (meaning : DiskMeaning D) where
  module _ (most : ℕ) (old new : Environment D) (stays : HasStayed old new) (st : Standing) (at : StandsAt most meaning old st) (none : st.fault ≡ None) (right : AreRight st) (bare : AreBare st) (reached : IsReached st) (line : ℕ) where
    abbrev log_old : LogBuffer D
    log_old = old.engine.trees.log

    abbrev log_new : LogBuffer D
    log_new = new.engine.trees.log

    abbrev Valid : Type 0
    Valid = IsValidWith meaning.observable (now (meaning.history (disk_below log_old))) log_old (cells_of old.engine.trees) (has_tree_of old.engine.trees) (fitting old.engine.trees) old.engine.kept.since old.written.by_txn.entries st

    v : Valid
    v = at.valid none

    abbrev Appended : Bool → Type 0
    Appended begun = HasAppended meaning old new st begun

    abbrev NotAppended : Type 0
    NotAppended = HasNotAppended meaning old new

    abbrev Got : List Entry → Type 0
    Got entries = Grew meaning old.engine.trees new.engine.trees entries

    abbrev Tried : List Entry → Type 0
    Tried front = TriedFitting meaning log_old log_new front

    -- ---- what the log got

    -- room for the Commits that are owed: that which there was, or as the entry left it
    room_then : (entries : List Entry) → Got entries → (entries ≡ []) ⊎ HasRoomFor log_new (commit_sizes (owing st)) → (n : ℕ) → owing st ≡ suc n → HasRoomFor log_new (commit_sizes (suc n))
    room_then entries grew (inl nothing) n is = room_unchanged log_old log_new (commit_sizes (suc n)) (grew.fitting.none nothing) (v.room n is)
    room_then entries grew (inr room) n is = subst (λ (k : ℕ). HasRoomFor log_new (commit_sizes k)) is room

    begins_at : v.gives.base ≤ pos_lsn (end_of log_old)
    begins_at = begun_with v.log (end_of log_old) (committed (cells_of old.engine.trees)) st.last_txn st.last_db (active_number st.actives) st.own v.gives

    -- entries that change nothing
    appended : (entries : List Entry) (begun : Bool) → AreNeutral entries → length entries ≤ 1 → Got entries → (entries ≡ []) ⊎ HasRoomFor log_new (commit_sizes (owing st)) →
        new.engine.kept.fault ≡ old.engine.kept.fault → new.engine.kept.since ≡ old.engine.kept.since → is_some new.engine.kept.checkpoints.under_way ≡ begun → Appended begun
    appended entries begun neutral few grew room fault since under_way = record {
      entries = entries;
      few = few;
      grew = grew;
      recovers =
          recovers_neutral meaning log_old log_new (cells_of old.engine.trees) (has_tree_of old.engine.trees) (fitting old.engine.trees) old.engine.kept.since
          old.written.by_txn.entries st v entries neutral grew.fitting;
      valid = valid_moved meaning old new stays (record st { in_checkpoint = begun })
          (subst (λ (n : ℕ). IsValidWith meaning.observable (now (meaning.history (disk_below log_new))) log_new (cells_of old.engine.trees) (has_tree_of old.engine.trees) (fitting new.engine.trees) n old.written.by_txn.entries
          (record st { in_checkpoint = begun })) (sym since)
          (valid_neutral meaning log_old log_new (cells_of old.engine.trees) (has_tree_of old.engine.trees) (fitting old.engine.trees) old.engine.kept.since
          old.written.by_txn.entries st v entries (fitting new.engine.trees) begun neutral grew.fitting (λ fits. grew.fits v.log v.gives.base v.has begins_at fits) (room_then entries grew room)));
      fault = fault;
      under_way = under_way;
    }

    still_appended : (entries : List Entry) → AreNeutral entries → length entries ≤ 1 → Got entries → (entries ≡ []) ⊎ HasRoomFor log_new (commit_sizes (owing st)) → IsStill old new → Appended st.in_checkpoint
    still_appended entries neutral few grew room still = appended entries st.in_checkpoint neutral few grew room still.fault still.since (still.under_way ∙ at.checkpoint)

    none_appended : Got [] → IsStill old new → Appended st.in_checkpoint
    none_appended grew still = still_appended [] tt (omega arith) grew (inl refl) still

    same_still : new ≡ old → IsStill old new
    same_still is = record {
      fault = ap (λ (e : Environment D). e.engine.kept.fault) is;
      since = ap (λ (e : Environment D). e.engine.kept.since) is;
      under_way = ap (λ (e : Environment D). is_some e.engine.kept.checkpoints.under_way) is;
    }

    same_trees : new.engine.trees ≡ old.engine.trees → Got []
    same_trees is =
        subst (λ (t : LogTrees D). Grew meaning old.engine.trees t []) (sym is) (grew_none meaning old.engine.trees)

    idle_appended : new ≡ old → Appended st.in_checkpoint
    idle_appended is = none_appended (same_trees (ap (λ (e : Environment D). e.engine.trees) is)) (same_still is)

    neutral_failed : (entry : Entry) (front : List Entry) → is_neutral entry ≡ true → IsFront front (entry ∷ []) → Tried front → HasStopped old new → NotAppended
    neutral_failed entry front neutral is_front tried stopped = record {
      front = front;
      tried = tried;
      recovers =
          tries_neutral meaning log_old log_new (cells_of old.engine.trees) (has_tree_of old.engine.trees) (fitting old.engine.trees) old.engine.kept.since
          old.written.by_txn.entries st v (entry ∷ []) front (neutral, tt) is_front tried;
      fault = stopped.fault;
      under_way = stopped.under_way;
    }

    -- ---- whether a checkpoint is under way

    by_under_way : (P : Bool → Type 0) (begun : Bool) → is_some old.engine.kept.checkpoints.under_way ≡ begun → P begun → P st.in_checkpoint
    by_under_way P begun is p = subst P (sym is ∙ at.checkpoint) p

    some_under_way : (w : UnderWay) → old.engine.kept.checkpoints.under_way ≡ Some w → is_some old.engine.kept.checkpoints.under_way ≡ true
    some_under_way w is = ap (λ (o : Option UnderWay). is_some o) is

    abbrev To : Step → Result Answer AllocError → Type 0
    To step result = Turned meaning most old new st line step result

    ok : (limit : Option Answer) (step : Step) (answer : Answer) (begun : Bool) → is_disk_fault answer ≡ false → IsBoundedAt (reach_of old) st (Turn line step answer) limit →
        IsLimited (log_limit limit) step st.in_checkpoint answer → after_turn step st answer ≡ record st { in_checkpoint = begun } → Appended begun → To step (Ok answer)
    ok limit step answer begun quiet bounded answers path h =
        turned_appended meaning most old new stays st at none right bare reached line limit step answer begun quiet bounded answers path h

    fault : (step : Step) → IsLimited (log_limit None) step st.in_checkpoint DiskFault → after_turn step st DiskFault ≡ faulted st → NotAppended → To step (Ok DiskFault)
    fault step answers path h = turned_fault meaning most old new stays st at none right bare reached line step answers path h

    -- no limit was met; or the log has no room, for a step that logs an entry
    free : (step : Step) (answer : Answer) → IsBoundedAt (reach_of old) st (Turn line step answer) None
    free step answer = unless_none (appends_nothing step st.in_checkpoint) (reach_behind (reach_of old) st (Turn line step answer))

    bounded : (step : Step) (entry : Entry) → appends_nothing step st.in_checkpoint ≡ false → IsFullFor log_old (entry ∷ []) (owing st) → IsBoundedAt (reach_of old) st (Turn line step LogFull) (Some LogFull)
    bounded step entry logs full =
        subst (λ (idle : Bool). IsBoundedUnless idle (reach_behind (reach_of old) st (Turn line step LogFull)) (Some LogFull)) (sym logs)
        (full_is_bounded meaning old new stays most st at none line step entry full)

    -- where there was no memory
    not_done : (step : Step) (error : AllocError) → Got [] × IsStill old new → To step (Err error)
    unfolding none_appended still_appended appended
    not_done step error h = turned_not meaning most old new stays st at none right bare reached line (none_appended h.0 h.1) refl

    -- ---- a beginning

    begun : (answer : Answer) → BeginsTo meaning (owing st) old new (Ok answer) → To Begin (Ok answer)
    begun Done h = ok None Begin Done true refl (free Begin Done) (by_under_way (λ b. IsStepped Begin b Done) false h.none_before (inl refl)) refl
        (appended (start_entry old ∷ []) true (refl, tt) (omega arith) h.grew (inr h.room) h.fault h.since h.under_way)
    begun InCheckpoint h = ok None Begin InCheckpoint st.in_checkpoint refl (free Begin InCheckpoint) (by_under_way (λ b. IsStepped Begin b InCheckpoint) true h.0 refl) refl (idle_appended h.1)
    begun LogFull h = ok (Some LogFull) Begin LogFull st.in_checkpoint refl (bounded Begin (start_entry old) (by_under_way (λ b. appends_nothing Begin b ≡ false) false h.2 refl) h.0) refl refl (none_appended h.1 h.3)
    begun DiskFault h = fault Begin (by_under_way (λ b. IsStepped Begin b DiskFault) false h.1 (inr refl)) refl (neutral_failed (start_entry old) h.0.0 refl h.0.1 h.0.2 h.2)
    begun answer h = absurd h

    begins : (result : Result Answer AllocError) → BeginsTo meaning (owing st) old new result → To Begin result
    begins (Ok answer) h = begun answer h
    begins (Err error) h = not_done Begin error h

    -- ---- a flush

    flushed : (answer : Answer) → FlushesTo meaning (owing st) old new (Ok answer) → To Flush (Ok answer)
    flushed (Flushed node) h = let has = h.0.1 in ok None Flush (Flushed node) st.in_checkpoint refl (free Flush (Flushed node)) (by_under_way (λ b. IsStepped Flush b (Flushed node)) true h.0.0 (inl (node, refl))) refl
        (still_appended (has.image ∷ []) (image_neutral has.image has.is_image, tt) (omega arith) has.grew (inr has.room) h.1)
    flushed Nothing h = ok None Flush Nothing st.in_checkpoint refl (free Flush Nothing) (by_under_way (λ b. IsStepped Flush b Nothing) true h.0.0 (inr (inl refl))) refl
        (none_appended (same_trees h.0.1.0) h.1)
    flushed NoCheckpoint h = ok None Flush NoCheckpoint st.in_checkpoint refl (free Flush NoCheckpoint) (by_under_way (λ b. IsStepped Flush b NoCheckpoint) false h.0 refl) refl (idle_appended h.1)
    flushed LogFull h = ok (Some LogFull) Flush LogFull st.in_checkpoint refl (bounded Flush h.0.1.1.0 (by_under_way (λ b. appends_nothing Flush b ≡ false) true h.0.0 refl) h.0.1.1.2) refl refl (none_appended h.0.1.2 h.1)
    flushed DiskFault h = let has = h.0.1.1 in
        fault Flush (by_under_way (λ b. IsStepped Flush b DiskFault) true h.0.0 (inr (inr refl))) refl (neutral_failed has.0 has.1 (image_neutral has.0 has.2) has.3 has.4 h.1)
    flushed answer h = absurd h

    flushes : (result : Result Answer AllocError) → FlushesTo meaning (owing st) old new result → To Flush result
    flushes (Ok answer) h = flushed answer h
    flushes (Err error) h = not_done Flush error h

    -- ---- an end

    -- what an end entry says
    abbrev Ends : Finish → UnderWay → ℕ → Entry → Type 0
    Ends f w redo entry =
        NamesEnd (λ (x : LogTrees D) since. IsSince x.trees.forest since) (λ (x : LogTrees D) lsn. IsMarkIn x.trees.forest lsn) (λ (x : LogTrees D) lsn roots. MayEndTrees x.log (trees_of x) lsn roots) last_node_of (end_by f w)
        (earlier_of w.start f.first) old.engine.trees redo entry × (f.since ≤ redo)

    abbrev parts_of : Finish → UnderWay → ℕ → List Root → EndParts
    parts_of f w redo roots =
        record { number = w.number; start = w.start; redo = redo; last_txn = record { 0 = f.last_txn }; last_node = last_node_of old.engine.trees; last_db = f.last_db; roots = roots }

    end_appended : (f : Finish) (w : UnderWay) (redo : ℕ) (entry : Entry) (begun : Bool) → IsFinishOf old (owing st) f → Ends f w redo entry → Got (entry ∷ []) → HasRoomFor log_new (commit_sizes f.owed) →
        new.engine.kept.fault ≡ old.engine.kept.fault → new.engine.kept.since ≡ redo → is_some new.engine.kept.checkpoints.under_way ≡ begun → Appended begun
    end_appended f w redo entry begun is ends grew room fault since under_way = record {
      entries = entries;
      few = omega arith;
      grew = got;
      recovers =
          recovers_end meaning log_old log_new (cells_of old.engine.trees) (has_tree_of old.engine.trees) (fitting old.engine.trees) old.engine.kept.since
          old.written.by_txn.entries st v p (last_node_of old.engine.trees) (trees_of old.engine.trees) f.first w.start refl refl since_low ends.0.upto is.first ends.0.may got.fitting;
      valid = valid_moved meaning old new stays (record st { in_checkpoint = begun })
          (subst (λ (n : ℕ). IsValidWith meaning.observable (now (meaning.history (disk_below log_new))) log_new (cells_of old.engine.trees) (has_tree_of old.engine.trees) (fitting new.engine.trees) n old.written.by_txn.entries
          (record st { in_checkpoint = begun })) (sym since)
          (valid_end meaning log_old log_new (cells_of old.engine.trees) (has_tree_of old.engine.trees) (fitting old.engine.trees) old.engine.kept.since
          old.written.by_txn.entries st v p (last_node_of old.engine.trees) (trees_of old.engine.trees) f.first w.start refl refl since_low ends.0.upto is.first ends.0.may (fitting new.engine.trees) begun got.fitting
          (λ fits. got.fits v.log v.gives.base v.has begins_at fits) (room_then entries got (inr (subst (λ (k : ℕ). HasRoomFor log_new (commit_sizes k)) is.owed_is room)))));
      fault = fault;
      under_way = under_way;
    } where
      p : EndParts
      p = parts_of f w redo ends.0.roots

      entries : List Entry
      entries = end_entry p None ∷ []

      got : Got entries
      got = subst (λ (e : Entry). Got (e ∷ [])) ends.0.entry_is grew

      since_low : old.engine.kept.since ≤ redo
      since_low = subst (λ (n : ℕ). n ≤ redo) is.since ends.1

    end_failed : (f : Finish) (w : UnderWay) (redo : ℕ) (entry : Entry) (front : List Entry) → IsFinishOf old (owing st) f → Ends f w redo entry → IsFront front (entry ∷ []) → Tried front → HasStopped old new → NotAppended
    end_failed f w redo entry front is ends is_front tried stopped = record {
      front = front;
      tried = tried;
      recovers =
          tries_end meaning log_old log_new (cells_of old.engine.trees) (has_tree_of old.engine.trees) (fitting old.engine.trees) old.engine.kept.since
          old.written.by_txn.entries st v (parts_of f w redo ends.0.roots) (last_node_of old.engine.trees) (trees_of old.engine.trees) f.first w.start refl refl (subst (λ (n : ℕ). n ≤ redo) is.since ends.1)
          ends.0.upto is.first ends.0.may front (subst (λ (e : Entry). IsFront front (e ∷ [])) ends.0.entry_is is_front) tried;
      fault = stopped.fault;
      under_way = stopped.under_way;
    }

    finished : (answer : Answer) → FinishesTo meaning (owing st) old new (Ok answer) → To FinishStep (Ok answer)
    finished Done h = let has = h.by.finishes in
        ok None FinishStep Done false refl (free FinishStep Done) (by_under_way (λ b. IsStepped FinishStep b Done) true (some_under_way h.by.checkpoint h.by.is_under_way) (inr (inl refl))) refl
        (end_appended h.by.finish h.by.checkpoint h.redo has.1.0 false h.by.is_finish has.1.1 has.1.2 has.2 h.fault h.since h.ended)
    finished (NodesLeft count) h = let has = h.0.finishes in
        ok None FinishStep (NodesLeft count) st.in_checkpoint refl (free FinishStep (NodesLeft count)) (by_under_way (λ b. IsStepped FinishStep b (NodesLeft count)) true (some_under_way h.0.checkpoint h.0.is_under_way) (inl (count, refl))) refl
        (none_appended (same_trees has.0) h.1)
    finished NoCheckpoint h = ok None FinishStep NoCheckpoint st.in_checkpoint refl (free FinishStep NoCheckpoint) (by_under_way (λ b. IsStepped FinishStep b NoCheckpoint) false h.0 refl) refl (idle_appended h.1)
    finished LogFull h = let has = h.0.finishes in
        ok (Some LogFull) FinishStep LogFull st.in_checkpoint refl (bounded FinishStep has.1.0 (by_under_way (λ b. appends_nothing FinishStep b ≡ false) true (some_under_way h.0.checkpoint h.0.is_under_way) refl) (subst (λ (k : ℕ). IsFullFor log_old (has.1.0 ∷ []) k) h.0.is_finish.owed_is has.1.2)) refl refl (none_appended has.2 h.1)
    finished DiskFault h = let has = h.0.finishes.1 in
        fault FinishStep (by_under_way (λ b. IsStepped FinishStep b DiskFault) true (some_under_way h.0.checkpoint h.0.is_under_way) (inr (inr refl))) refl
        (end_failed h.0.finish h.0.checkpoint has.2.0 has.0 has.1 h.0.is_finish has.2.1 has.3 has.4 h.1)
    finished answer h = absurd h

    finishes : (result : Result Answer AllocError) → FinishesTo meaning (owing st) old new result → To FinishStep result
    finishes (Ok answer) h = finished answer h
    finishes (Err error) h = not_done FinishStep error h

    -- ---- a step

    synced : (result : Result Answer AllocError) → (result ≡ Ok Done) × (new ≡ old) → To Sync result
    synced result h = subst (To Sync) (sym h.0) (ok None Sync Done st.in_checkpoint refl (free Sync Done) refl refl (idle_appended h.1))

    pub step_turned : (step : Step) (result : Result Answer AllocError) → StepsTo meaning (owing st) old new step result → To step result
    step_turned Begin result h = begins result h
    step_turned Flush result h = flushes result h
    step_turned FinishStep result h = finishes result h
    step_turned Sync result h = synced result h

  -- a step where no fault came before
  pub take_turned : (old new : Environment D) (step : Step) (result : Result Answer AllocError) → HasStayed old new → old.engine.kept.fault ≡ None →
      ((st : Standing) → AreSessionsAt old.sessions st → StepsTo meaning (owing st) old new step result) →
      (most : ℕ) (st : Standing) (line : ℕ) → IsAt most meaning.observable (now (meaning.history (disk_of old))) old st → Turned meaning most old new st line step result
  take_turned old new step result stays valid steps most st line here =
      let none : st.fault ≡ None = sym here.at.fault ∙ valid in
      step_turned most old new stays st here.at none (here.right none) (here.bare none) here.reached line step result (steps st here.at.sessions_at)

  -- ---- after a fault

  invalid_stays : (step : Step) (st : Standing) (first : Cause) → after_turn step st (Invalid first) ≡ st
  invalid_stays Begin st first = refl
  invalid_stays Flush st first = refl
  invalid_stays FinishStep st first = refl
  invalid_stays Sync st first = refl

  pub invalid_done : (e : Environment D) (first : Cause) → e.engine.kept.fault ≡ Some first → (most : ℕ) (st : Standing) (line : ℕ) (step : Step) → IsAt most meaning.observable (now (meaning.history (disk_of e))) e st →
      HasDone most meaning.observable (now (meaning.history (disk_of e))) e e st (Turn line step (Invalid first))
  invalid_done e first some most st line step here = record {
    limit = None;
    bounded = unless_none (appends_nothing step st.in_checkpoint) (reach_behind (reach_of e) st (Turn line step (Invalid first)));
    answered = subst (λ (f : Option Cause). IsTurned f None step st.in_checkpoint (Invalid first)) (sym (sym here.at.fault ∙ some)) refl;
    here = subst (IsAt most meaning.observable (now (meaning.history (disk_of e))) e) (sym (invalid_stays step st first)) here;
  }

  pub invalid_safely : (e : Environment D) (first : Cause) (most : ℕ) (st : Standing) (start : History) (journal : List Event) (line : ℕ) (step : Step) → IsGuarded most st start (meaning.history (disk_of e)) e journal →
      IsGuarded most st start (meaning.history (disk_of e)) e (journal ++ Turn line step (Invalid first) ∷ [])
  invalid_safely e first most st start journal line step is = (
    is.0,
    guarded_quiet st is.0 start (meaning.history (disk_of e)) e.engine.trees.log journal (Turn line step (Invalid first)) refl refl refl refl
        (ap (λ (s : Standing). s.fault) (invalid_stays step (after_events st journal) first)) is.1,
  )

module _ {D : Type 0} (meaning : DiskMeaning D) where
  -- where none is kept, none came
  pub fault_none : (e : Environment D) → e.engine.kept.fault ≡ None → (most : ℕ) (st : Standing) → IsAt most meaning.observable (now (meaning.history (disk_of e))) e st → st.fault ≡ None
  fault_none e valid most st here = sym here.at.fault ∙ valid
