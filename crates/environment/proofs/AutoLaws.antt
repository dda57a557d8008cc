-- A call on records that is a transaction of its own, among others: where its transaction ends, or waits.
use mathlib.Core.Path.{fun_ext}
use Rattle.txn_log.proofs.AtStandingLaws.{same_under}
use Rattle.std.proofs.Common.{◌≡◌, ◌∙◌, ℕ, suc, ◌≤◌, ◌<◌, zero, ◌+◌, ◌==◌, Bool, true, false, cond, not, List, [], ◌∷◌, ◌++◌, Option, None, Some, refl, ap, sym, subst, inl, ⊎_elim, arith}
use Rattle.std.specs.List.{AllByRecursion}
use Rattle.std.proofs.lemmas.Bool.{cases_Bool, cond-true, cond-false, eq-eqb, eqb-true}
use Rattle.je_disk.specs.DiskMeaning.{DiskMeaning}
use Rattle.je_disk.specs.States.{State}
use Rattle.je_disk.specs.Moments.{now}
use Rattle.je_order.specs.declared.txn_id.TxnId.{TxnId}
use Rattle.store_model.specs.declared.answer.Answer.{Answer}
use Rattle.store_model.specs.declared.call.Call.{Call}
use Rattle.store_model.specs.declared.call.Call.TheVariants.{Get, GetBoth, Put, Delete}
use Rattle.store_model.specs.declared.need.Need.{Need}
use Rattle.store_model.specs.declared.record_change.RecordChange.{RecordChange}
use Rattle.store_model.specs.declared.victim.Victim.{Victim}
use Rattle.store_model.specs.Records.{Evaluated}
use Rattle.je_answers.specs.declared.active.Active.{Active}
use Rattle.je_answers.specs.declared.wait.Wait.{Wait}
use Rattle.je_answers.specs.Standing.{Standing, active_of, with_at}
use Rattle.je_answers.specs.Views.{Target, changes_with, needs_in, outcome_of, target_of, with_names}
use Rattle.je_answers.specs.Refusals.{late_refusal}
use Rattle.je_answers.specs.Locking.{first_blocked}
use Rattle.je_answers.specs.Events.{IsDone, IsEvaluated, IsOn, IsRun, IsTaken, auto_active, begun}
use Rattle.je_answers.specs.After.{after_changes, after_evaluated, after_on, after_run, after_taking, without_session}
use Rattle.je_answers.specs.Journal.{changes_evaluated, changes_in, changes_run, changes_taken}
use Rattle.log_buffer.specs.declared.buffer.LogBuffer.{LogBuffer}
use Rattle.log_buffer.specs.Buffer.{disk_of as disk_below, end_of, has_failed}
use Rattle.log_buffer.specs.Flip.{pos_lsn}
use Rattle.log_replay.specs.Rows.{Rows}
use Rattle.record_tree.specs.Occupied.{AllCells}
use Rattle.in_tree.specs.Limits.{HasRoomFor, commit_sizes}
use Rattle.in_tree.specs.Observed.{cells_of, has_tree_of, waits_of}
use Rattle.txn_core.specs.Known.{committed}
use Rattle.txn_core.specs.Totals.{totals_of}
use Rattle.txn_log.specs.Committing.{MayBeCommitted}
use Rattle.txn_log.proofs.Giving.{still_gives}
use Rattle.txn_views.specs.Seen.{HasWrites}
use Rattle.sessions.specs.declared.all_sessions.Sessions.{Sessions}
use Rattle.sessions.specs.AtStanding.{AreSessionsAt, owing}
use Rattle.standing_laws.specs.Right.{HaveOwnWaits, IsWaitIn, is_active, txn_id}
use Rattle.standing_laws.proofs.Stopped.{LeavesSame}
use Rattle.engine.specs.Limits.{IsWithin}
use Rattle.engine.specs.Environment.{RecoversStore}
use Rattle.environment.proofs.Databases.{known_leaves}
use Rattle.environment.specs.declared.environment.Environment.{Environment}
use Rattle.environment.specs.declared.written.OwnNames.{OwnNames}
use Rattle.environment.specs.Calls.{IsOnRecords}
use Rattle.environment.specs.Limits.{owing_after, owing_with, written_evaluated, written_on, written_run, written_taken}
use Rattle.environment.specs.Steps.{HasCome, HasStepped, StandsAt}
use Rattle.environment.specs.Valid.{IsValidWith, Lives, active_number, owed_by, fitting, Forest}
use Rattle.environment.specs.Whole.{reach_of}
use Rattle.environment.specs.Written.{AreNamesOf}
use Rattle.environment.proofs.BeginLaws.{with_begun}
use Rattle.environment.proofs.EndingLaws.{room_fewer}
use Rattle.environment.proofs.ListLaws.{valid_drawn}
use Rattle.environment.proofs.Bases.{lives_at}

-- ---- a valid environment goes on where perhaps fewer transactions are under way

module _ {D : Type 0} where
  pub valid_leaves : (observable : Bool) (state : State) (buffer : LogBuffer D) (cells : AllCells) (has_tree : ℕ → Bool) (forest : Forest) (since : ℕ) (written : List (TxnId × OwnNames)) (st after : Standing) → LeavesSame st after →
      IsValidWith observable state buffer cells has_tree forest since written st → IsValidWith observable state buffer cells has_tree forest since written after
  unfolding still_gives
  valid_leaves observable state buffer cells has_tree forest since written st after same v = record {
    log = v.log;
    has = v.has;
    works = v.works;
    gives = subst (λ (d : ℕ). Rattle.txn_log.specs.Gives.GivesRecordsWith v.log (end_of buffer) (committed cells) after.last_txn d (active_number after.actives) after.own) (sym same.last_db)
        still;
    recovers = subst (RecoversStore v.log) (sym same.store) v.recovers;
    makes = record {
      environment = v.makes.environment;
      rising = v.makes.rising;
      unused = subst (λ (n : ℕ). (d : ℕ) → n < d → committed cells d ≡ []) (sym same.last_db) v.makes.unused;
      numbers = subst (λ (n : ℕ). AllByRecursion (λ m. m ≤ n) (Rattle.log_replay.specs.Rows.numbers_of (committed cells))) (sym same.last_db) v.makes.numbers;
      store = v.makes.store ∙ sym same.store;
      named = λ name. v.makes.named name ∙ ap (λ (f : List ℕ → ℕ). f name) (sym same.numbers);
    };
    writes = subst (HasWrites cells) (sym same.own) v.writes;
    may = subst (λ (own : ℕ → List (ℕ × RecordChange)). (t : ℕ) → AllByRecursion (MayBeCommitted (committed cells)) (own t)) (sym same.own) v.may;
    made = v.made;
    room = λ n is. by_owing n is (owing st) refl;
    names = subst (λ (own : ℕ → List (ℕ × RecordChange)). AreNamesOf written own (committed cells)) (sym same.own) v.names;
    fits = lives.fits;
    from = lives.from;
    firsts = lives.firsts;
  }
    where
      still : Rattle.txn_log.specs.Gives.GivesRecordsWith v.log (end_of buffer) (committed cells) after.last_txn st.last_db (active_number after.actives) after.own
      still = still_gives v.log (end_of buffer) (committed cells) st.last_txn after.last_txn st.last_db (active_number st.actives) (active_number after.actives) st.own after.own v.gives
          (let more = same.last_txn in omega (arith, more)) (λ t is. inl (same.actives (txn_id t) is, ap (λ (f : ℕ → List (ℕ × RecordChange)). f t) same.own))

      lives : Lives forest v.log since (pos_lsn (end_of buffer)) written
          (subst (λ (d : ℕ). Rattle.txn_log.specs.Gives.GivesRecordsWith v.log (end_of buffer) (committed cells) after.last_txn d (active_number after.actives) after.own) (sym same.last_db) still).base
      lives =
          subst (Lives forest v.log since (pos_lsn (end_of buffer)) written)
          (sym (same_under (λ (d : ℕ). Rattle.txn_log.specs.Gives.GivesRecordsWith v.log (end_of buffer) (committed cells) after.last_txn d (active_number after.actives) after.own) (λ d g. g.base) (sym same.last_db) still))
          (lives_at observable state buffer cells has_tree forest since written st v)

      by_owing : (n : ℕ) → owing after ≡ suc n → (m : ℕ) → owing st ≡ m → HasRoomFor buffer (commit_sizes (suc n))
      by_owing n is zero e = let less : owing after ≤ owing st = same.owing in absurd (omega (arith, less, is, e))
      by_owing n is (suc m) e = let less : owing after ≤ owing st = same.owing in room_fewer buffer (suc n) (suc m) (omega (arith, less, is, e)) (v.room m e)

-- ---- the transaction of one call goes

pub back : (session : ℕ) (as_ : List Active) (a : Active) → a.session ≡ session → active_of session as_ ≡ None → without_session session (as_ ++ a ∷ []) ≡ as_
back session [] a same none = ap (λ (b : Bool). cond (not b) (a ∷ []) []) (eq-eqb a.session session same)
back session (c ∷ cs) a same none = by_test (c.session == session) refl none (back session cs a same)
  where
    by_test : (b : Bool) → (c.session == session) ≡ b → cond b (Some c) (active_of session cs) ≡ None → (active_of session cs ≡ None → without_session session (cs ++ a ∷ []) ≡ cs) →
        cond (not b) (c ∷ without_session session (cs ++ a ∷ [])) (without_session session (cs ++ a ∷ [])) ≡ c ∷ cs
    by_test true e n rest = absurd cc
    by_test false e n rest = ap (λ (l : List Active). c ∷ l) (rest n)

pub own_back : (n : ℕ) (x : List (ℕ × RecordChange)) (own : ℕ → List (ℕ × RecordChange)) → own n ≡ [] → with_at n [] (with_at n x own) ≡ own
own_back n x own none = fun_ext (λ m. ⊎_elim
    (λ e. cond-true (m == n) [] (with_at n x own m) e ∙ (sym none ∙ ap own (sym (eqb-true m n e))))
    (λ e. cond-false (m == n) [] (with_at n x own m) e ∙ cond-false (m == n) x (own m) e)
    (cases_Bool (m == n)))

pub own_gone : (n : ℕ) (own : ℕ → List (ℕ × RecordChange)) → own n ≡ [] → with_at n [] own ≡ own
own_gone n own none = fun_ext (λ m. ⊎_elim
    (λ e. cond-true (m == n) [] (own m) e ∙ (sym none ∙ ap own (sym (eqb-true m n e))))
    (λ e. cond-false (m == n) [] (own m) e)
    (cases_Bool (m == n)))

-- a standing with others of the same transactions and own changes
pub same_leaves : (st after : Standing) → after.store ≡ st.store → after.numbers ≡ st.numbers → after.last_txn ≡ st.last_txn → after.last_db ≡ st.last_db → after.commits ≡ st.commits → after.fault ≡ st.fault →
    after.in_checkpoint ≡ st.in_checkpoint → after.own ≡ st.own → after.actives ≡ st.actives → LeavesSame st after
same_leaves st after store numbers last_txn last_db commits fault checkpoint own actives = record {
  store = store;
  numbers = numbers;
  last_txn = last_txn;
  last_db = last_db;
  commits = commits;
  fault = fault;
  checkpoint = checkpoint;
  own = own;
  actives = λ t is. subst (λ (l : List Active). is_active t l ≡ true) actives is;
  owing =
      subst (λ (l : List Active). Rattle.standing_laws.proofs.Stopped.changing after.own l ≤ Rattle.standing_laws.proofs.Stopped.changing st.own st.actives) (sym actives)
      (subst (λ (own : ℕ → List (ℕ × RecordChange)). Rattle.standing_laws.proofs.Stopped.changing own st.actives ≤ Rattle.standing_laws.proofs.Stopped.changing st.own st.actives) (sym own) (omega arith));
}

-- a session without a transaction has no call that waits
pub no_wait : (session : ℕ) (as_ : List Active) (ws : List Wait) → active_of session as_ ≡ None → AllByRecursion (IsWaitIn as_) ws → AllByRecursion (λ w. (w.session == session) ≡ false) ws
no_wait session as_ [] none each = tt
no_wait session as_ (w ∷ ws) none each = (by_test (w.session == session) refl, no_wait session as_ ws none each.1)
  where
    by_test : (b : Bool) → (w.session == session) ≡ b → b ≡ false
    by_test false e = refl
    by_test true e = let some = sym each.0.its ∙ ap (λ (s : ℕ). active_of s as_) (eqb-true w.session session e) ∙ none in absurd cc

module _ {D : Type 0} where
  -- an environment whose last number was drawn, with other sessions, where the transaction is gone again
  pub drawn_after : (most : ℕ) (meaning : DiskMeaning D) (e : Environment D) (s : Sessions) (last : ℕ) (st after : Standing) → st.last_txn ≤ last → LeavesSame (record st { last_txn = last }) after →
      AreSessionsAt s after → HaveOwnWaits after.waiting → StandsAt most meaning e st → StandsAt most meaning (with_begun e last s) after
  drawn_after most meaning e s last st after more same sessions_now apart at = record {
    file_max = at.file_max;
    fault = at.fault ∙ sym same.fault;
    last_txn = sym same.last_txn;
    last_db = at.last_db ∙ sym same.last_db;
    commits = at.commits ∙ sym same.commits;
    totals = at.totals ∙ ap totals_of (sym same.store);
    sessions_at = sessions_now;
    apart = apart;
    checkpoint = at.checkpoint ∙ sym same.checkpoint;
    databases = λ none. known_leaves (record st { last_txn = last }) after e.engine.kept same (at.databases (sym same.fault ∙ none));
    valid = λ none.
        let state = now (meaning.history (disk_below e.engine.trees.log)) in
        valid_leaves meaning.observable state e.engine.trees.log (cells_of e.engine.trees) (has_tree_of e.engine.trees) (fitting e.engine.trees) e.engine.kept.since e.written.by_txn.entries (record st { last_txn = last }) after same
        (valid_drawn meaning.observable state e.engine.trees.log (cells_of e.engine.trees) (has_tree_of e.engine.trees) (fitting e.engine.trees) e.engine.kept.since e.written.by_txn.entries st last more (at.valid (sym same.fault ∙ none)));
  }

  -- sessions that owe no more Commits reach no farther
  pub near_fewer : (e : Environment D) (s : Sessions) (last : ℕ) → owed_by s ≤ owed_by e.sessions → IsWithin (reach_of (with_begun e last s)) (reach_of e)
  near_fewer e s last less = record { file = by_failed (has_failed e.engine.trees.log); node = omega arith }
    where
      by_failed : (b : Bool) → cond b 0 ((end_of e.engine.trees.log).file + waits_of e.engine.trees + owed_by s) ≤ cond b 0 ((end_of e.engine.trees.log).file + waits_of e.engine.trees + owed_by e.sessions)
      by_failed true = omega arith
      by_failed false = omega (arith, less)

  -- ---- what a call on records comes to

  module _ (meaning : DiskMeaning D) where
    -- in whose transaction it is
    abbrev pub Runs : ℕ → Environment D → Environment D → Standing → ℕ → ℕ → Call → Answer → List Victim → Option Active → Type 0
    Runs most old new st session line call answer victims o =
        HasStepped meaning most old new (owing_with o st) (written_run o st session call) (changes_run o st session call)
        (λ limit. IsRun o limit st session line call answer victims) (after_run o st session line call answer victims) answer

    abbrev Comes : ℕ → Environment D → Environment D → Standing → ℕ → ℕ → Call → Answer → List Victim → Option Answer → Type 0
    Comes most old new st session line call answer victims late =
        HasStepped meaning most old new (owing_after st session) (written_evaluated late st session call) (changes_evaluated late st session call)
        (λ limit. IsEvaluated late limit st session line call answer victims) (after_evaluated late st session line call answer victims) answer

    come_unrefused : (most : ℕ) (old new : Environment D) (st : Standing) (session line : ℕ) (call : Call) (answer : Answer) (victims : List Victim) (db : List ℕ) → IsOnRecords db call →
        Runs most old new st session line call answer victims (active_of session st.actives) → Comes most old new st session line call answer victims None
    come_unrefused most old new st session line (Get name key rmw) answer victims db is runs = runs
    come_unrefused most old new st session line (GetBoth name key value rmw) answer victims db is runs = runs
    come_unrefused most old new st session line (Put name key value mode) answer victims db is runs = runs
    come_unrefused most old new st session line (Delete name key) answer victims db is runs = runs
    come_unrefused most old new st session line call answer victims db is runs = absurd is

    pub come_run : (most : ℕ) (old new : Environment D) (st : Standing) (session line : ℕ) (call : Call) (answer : Answer) (victims : List Victim) (db : List ℕ) (o : Option Active) → IsOnRecords db call →
        late_refusal st session call ≡ None → active_of session st.actives ≡ o → Runs most old new st session line call answer victims o → HasCome meaning most old new st session line call answer victims
    come_run most old new st session line call answer victims db o is late active runs =
        subst (Comes most old new st session line call answer victims) (sym late)
        (come_unrefused most old new st session line call answer victims db is (subst (Runs most old new st session line call answer victims) (sym active) runs))

    -- outside a transaction, on its database, with the first lock that it does not get
    abbrev On : ℕ → Environment D → Environment D → Standing → ℕ → ℕ → Call → Answer → List Victim → Option Target → Type 0
    On most old new st session line call answer victims t =
        HasStepped meaning most old new (owing st + 1) (written_on t (begun st session) (auto_active st session) call) (changes_in t (begun st session) (auto_active st session) call)
        (λ limit. IsOn t limit (begun st session) (auto_active st session) line call answer victims) (after_on t st (begun st session) (auto_active st session) line call answer victims) answer

    abbrev pub Takes : ℕ → Environment D → Environment D → Standing → ℕ → ℕ → Call → Target → Answer → List Victim → Option Need → Type 0
    Takes most old new st session line call g answer victims n =
        HasStepped meaning most old new (owing st + 1) (written_taken n (begun st session) (auto_active st session) call g) (changes_taken n (begun st session) (auto_active st session) call g)
        (λ limit. IsTaken n limit (begun st session) (auto_active st session) line call g answer victims) (after_taking n st (begun st session) (auto_active st session) line call g answer victims) answer

    pub come_taken : (most : ℕ) (old new : Environment D) (st : Standing) (session line : ℕ) (call : Call) (g : Target) (answer : Answer) (victims : List Victim) (db : List ℕ) (n : Option Need) → IsOnRecords db call →
        late_refusal st session call ≡ None → active_of session st.actives ≡ None → target_of st session call ≡ Some g →
        first_blocked (auto_active st session).txn (needs_in (begun st session) (auto_active st session) call g) st.locks.at ≡ n → Takes most old new st session line call g answer victims n →
        HasCome meaning most old new st session line call answer victims
    come_taken most old new st session line call g answer victims db n is late active target blocked takes =
        come_run most old new st session line call answer victims db None is late active
        (subst (On most old new st session line call answer victims) (sym target) (subst (Takes most old new st session line call g answer victims) (sym blocked) takes))

    -- once it has its locks, by what it evaluates to
    abbrev pub Evaluates : ℕ → Environment D → Environment D → Standing → ℕ → Call → Target → Answer → Evaluated → Type 0
    Evaluates most old new st session call g answer ev =
        HasStepped meaning most old new (owing st + 1) (with_names (changes_with (begun st session) (auto_active st session) g ev.changes))
        (with_names (changes_with (begun st session) (auto_active st session) g ev.changes))
        (λ limit. IsDone ev.changes limit (begun st session) (auto_active st session) ev answer × (◌≡◌ {A = List Victim} [] [])) (after_changes ev.changes st (begun st session) (auto_active st session) call g ev answer) answer

    pub come_ready : (most : ℕ) (old new : Environment D) (st : Standing) (session line : ℕ) (call : Call) (g : Target) (answer : Answer) (db : List ℕ) (ev : Evaluated) → IsOnRecords db call →
        late_refusal st session call ≡ None → active_of session st.actives ≡ None → target_of st session call ≡ Some g →
        first_blocked (auto_active st session).txn (needs_in (begun st session) (auto_active st session) call g) st.locks.at ≡ None → outcome_of (begun st session) (auto_active st session) call g ≡ ev →
        Evaluates most old new st session call g answer ev → HasCome meaning most old new st session line call answer []
    come_ready most old new st session line call g answer db ev is late active target blocked outcome evaluates =
        come_taken most old new st session line call g answer [] db None is late active target blocked (subst (Evaluates most old new st session call g answer) (sym outcome) evaluates)
