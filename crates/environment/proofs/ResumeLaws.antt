-- A waiting call goes on.
use mathlib.Core.Path.{fun_ext}
use Rattle.serial_replay.proofs.Attempts.{reached_goes-on}
use Rattle.serial_replay.specs.Reached.{IsReached}
use Rattle.environment.specs.Valid.{fitting}
use Rattle.std.proofs.Common.{◌≡◌, ◌∙◌, ℕ, Bool, true, false, cond, not, ◌==◌, List, [], ◌∷◌, filter, is_some, Option, None, Some, Result, Ok, Err, OnErr, ap, ap₂, refl, sym, subst, inl, inr, arith}
use Rattle.std.specs.List.{AllByRecursion}
use Rattle.std.specs.declared.alloc.AllocError.{AllocError}
use Rattle.std.proofs.lemmas.Bool.{cond-true, cond-false, eqb-true}
use Rattle.std.proofs.lemmas.Option.{none-some, same_Some}
use Rattle.je_disk.specs.DiskMeaning.{DiskMeaning}
use Rattle.je_disk.specs.Moments.{now}
use Rattle.je_order.specs.declared.txn_id.TxnId.{TxnId}
use Rattle.je_order.specs.Transactions.{is_same_txn}
use Rattle.je_order.proofs.TxnIds.{same_itself}
use Rattle.lock_table.specs.declared.record_id.RecordId.{RecordId}
use Rattle.lock_table.specs.Locks.{after_release}
use Rattle.store_model.specs.declared.answer.Answer.{Answer}
use Rattle.store_model.specs.declared.answer.Answer.TheVariants.{Invalid}
use Rattle.store_model.specs.declared.answer.Fault.{Fault}
use Rattle.store_model.specs.declared.call.Call.{Call}
use Rattle.store_model.specs.declared.change.Change.{Change}
use Rattle.store_model.specs.declared.event.Event.TheVariants.{Resume, End}
use Rattle.store_model.specs.declared.victim.Victim.{Victim}
use Rattle.store_model.specs.Refusals.{or_refusal}
use Rattle.je_answers.specs.declared.active.Active.{Active}
use Rattle.je_answers.specs.declared.wait.Wait.{Wait}
use Rattle.je_answers.specs.Standing.{LockState, Standing, active_of, wait_of, without_wait}
use Rattle.je_answers.specs.Refusals.{early_refusal, fault_refusal, waits_refusal, abort_refusal, txn_refusal}
use Rattle.je_answers.specs.Events.{IsAnswered, IsCallAnswered, IsReady, IsResumed, resumed}
use Rattle.je_answers.specs.After.{after_call, after_event, after_events, after_resumed, after_session, ended_if_any, fate_of}
use Rattle.je_answers.specs.Journal.{attempt_of, changes_of, changes_resumed, is_disk_fault, tried}
use Rattle.je_answers.specs.Locking.{forgotten, released}
use Rattle.log_buffer.specs.declared.buffer.LogBuffer.{LogBuffer}
use Rattle.log_buffer.specs.Buffer.{IsUnchanged, disk_of as disk_below}
use Rattle.in_tree.specs.Observed.{cells_of, has_tree_of}
use Rattle.sessions.specs.declared.all_sessions.Sessions.{Sessions}
use Rattle.sessions.specs.AtStanding.{AreSessionsAt}
use Rattle.standing_laws.specs.Right.{AreNumbered, AreSound, IsWaitIn}
use Rattle.standing_laws.proofs.Settling.{resumes-settle, ends-settle}
use Rattle.standing_laws.proofs.StandingsStay.{resumed_is-right, standings_stay-right}
use Rattle.standing_laws.proofs.StandingsBare.{standings_stay-bare}
use Rattle.engine.specs.Limits.{IsWithin, reach_after}
use Rattle.engine.specs.Steps.{IsNumbered}
use Rattle.engine.proofs.GuardLaws.{guarded_quiet}
use Rattle.environment.specs.declared.environment.Environment.{Environment}
use Rattle.environment.specs.declared.outcome.Outcome.{Outcome}
use Rattle.environment.specs.Calls.{MayResume, resumed_by}
use Rattle.environment.specs.Limits.{owing_after, owing_with, written_call, written_resumed, written_unless}
use Rattle.environment.specs.Resuming.{GoesAgain, MayGoOn, ResumesCall}
use Rattle.environment.specs.Steps.{Appends, HasCalled, HasNotCome, MayCall, StandsAt}
use Rattle.environment.specs.Whole.{HasDone, HasLimit, IsAt, disk_of, reach_of}
use Rattle.environment.proofs.EarlyLaws.{found_unit, same_buffer}
use Rattle.environment.proofs.Answering.{bounded, guarded_step, log_step, owed_is, owed_with}
use Rattle.environment.proofs.EndingLaws.{ended_safely, near_owed, own_waits_left, valid_waiting, within_then}

-- ---- the call that waits

found_wait : (P : Wait → Type 0) (session : ℕ) (waiting : List Wait) (w : Wait) → AllByRecursion P waiting → wait_of session waiting ≡ Some w → P w × (w.session ≡ session)
found_wait P session [] w all is = absurd (none-some w is)
found_wait P session (v ∷ waiting) w all is = by (v.session == session) refl (found_wait P session waiting w all.1)
  where
    by : (t : Bool) → (v.session == session) ≡ t → (wait_of session waiting ≡ Some w → P w × (w.session ≡ session)) → P w × (w.session ≡ session)
    by true e rest =
        subst (λ (x : Wait). P x × (x.session ≡ session)) (same_Some v w (sym (cond-true (v.session == session) (Some v) (wait_of session waiting) e) ∙ is)) (all.0, eqb-true v.session session e)
    by false e rest = rest (sym (cond-false (v.session == session) (Some v) (wait_of session waiting) e) ∙ is)

-- what holds of it
pub record IsItsWait (st : Standing) (session : ℕ) (w : Wait) : Type 0 where
  pub own : w.session ≡ session
  pub found : wait_of w.session st.waiting ≡ Some w
  pub active : Active
  pub its : active_of session st.actives ≡ Some active
  pub txn : active.txn ≡ w.txn

pub its_wait : (st : Standing) (session : ℕ) (w : Wait) → MayGoOn st session w → IsItsWait st session w
its_wait st session w may =
    let in_ = found_wait (IsWaitIn st.actives) session st.waiting w may.right.sound.waits.each may.its in
    record {
      own = in_.1;
      found = ap (λ (s : ℕ). wait_of s st.waiting) in_.1 ∙ may.its;
      active = in_.0.active;
      its = sym (ap (λ (s : ℕ). active_of s st.actives) in_.1) ∙ in_.0.its;
      txn = in_.0.same;
    }

pub sound_again : (st : Standing) (session : ℕ) (w : Wait) → MayGoOn st session w → AreSound (resumed st w)
sound_again st session w may = (resumed_is-right st w may.right (its_wait st session w may).found may.granted).sound

-- what holds of a call that was found holds of the same one
pub for_wait : (P : Wait → Type 0) (x w : Wait) → Some x ≡ Some w → P x → P w
for_wait P x w same h = subst P (same_Some x w same) h

-- no call of a session is left where its calls are taken out
none_left : (session : ℕ) (ws : List Wait) → AllByRecursion (λ v. (v.session == session) ≡ false) (filter (λ v. not (v.session == session)) ws)
none_left session [] = tt
none_left session (v ∷ ws) = by_test (v.session == session) refl (none_left session ws)
  where
    by_test : (b : Bool) → (v.session == session) ≡ b → AllByRecursion (λ u. (u.session == session) ≡ false) (filter (λ u. not (u.session == session)) ws) →
        AllByRecursion (λ u. (u.session == session) ≡ false) (cond (not b) (v ∷ filter (λ u. not (u.session == session)) ws) (filter (λ u. not (u.session == session)) ws))
    by_test true e rest = rest
    by_test false e rest = (e, rest)

-- a session may make its call again
pub may_again : (st : Standing) (session : ℕ) (w : Wait) → MayGoOn st session w → MayCall (resumed st w) session true
may_again st session w may = record {
  told = told;
  bare = may.bare;
  alone = λ a its.
      subst (λ (n : ℕ). AllByRecursion (λ v. (v.session == n) ≡ false) (filter (λ v. not (v.session == w.session)) st.waiting))
      (i.own ∙ sym (found_unit session st.actives a its)) (none_left w.session st.waiting);
}
  where
    i : IsItsWait st session w
    i = its_wait st session w may

    told : (a : Active) → active_of session st.actives ≡ Some a → cond (is_same_txn w.txn a.txn) None (st.locks.pending a.txn) ≡ None
    told a its =
        let same : w.txn ≡ a.txn = sym i.txn ∙ ap (λ (x : Active). x.txn) (same_Some i.active a (sym i.its ∙ its)) in
        ap (λ (t : TxnId). cond (is_same_txn w.txn t) None (st.locks.pending a.txn)) (sym same) ∙ ap (λ (b : Bool). cond b None (st.locks.pending a.txn)) (same_itself w.txn)

-- ---- its session ends

twice : {X : Type 0} (p : X → Bool) (xs : List X) → filter p (filter p xs) ≡ filter p xs
twice p [] = refl
twice {X} p (x ∷ xs) = by (p x) refl (twice p xs)
  where
    by : (b : Bool) → p x ≡ b → filter p (filter p xs) ≡ filter p xs → filter p (filter p (x ∷ xs)) ≡ filter p (x ∷ xs)
    by true e rest =
        let one = cond-true (p x) (x ∷ filter p xs) (filter p xs) e in
        ap (filter p) one ∙ cond-true (p x) (x ∷ filter p (filter p xs)) (filter p (filter p xs)) e ∙ ap (λ (l : List X). x ∷ l) rest ∙ sym one
    by false e rest = let one = cond-false (p x) (x ∷ filter p xs) (filter p xs) e in ap (filter p) one ∙ rest ∙ sym one

forgets : (t : TxnId) (locks : LockState) → released t (forgotten t locks) ≡ released t locks
forgets t locks =
    let make : (TxnId → Option RecordId) → LockState = λ p. record { at = λ r. after_release t (locks.at r); pending = p } in
    ap make (fun_ext (λ u. by u (is_same_txn t u)))
  where
    by : (u : TxnId) (b : Bool) → cond b None (cond b None (locks.pending u)) ≡ cond b None (locks.pending u)
    by u true = refl
    by u false = refl

-- a session that ends with its call going on ends as one whose call waits
pub left_resumed : (st : Standing) (session : ℕ) (w : Wait) → MayGoOn st session w → after_session session (resumed st w) ≡ after_session session st
left_resumed st session w may =
    ap (λ (o : Option Active). ended_if_any o (record (resumed st w) { waiting = without_wait session (without_wait w.session st.waiting) })) i.its
    ∙ ap₂ (λ (ws : List Wait) (locks : LockState). ended_with ws locks) (ap (λ (s : ℕ). without_wait session (without_wait s st.waiting)) i.own ∙ twice (λ (v : Wait). not (v.session == session)) st.waiting)
    (ap (λ (t : TxnId). released i.active.txn (forgotten t st.locks)) (sym i.txn) ∙ forgets i.active.txn st.locks)
    ∙ sym (ap (λ (o : Option Active). ended_if_any o (record st { waiting = without_wait session st.waiting })) i.its)
  where
    i : IsItsWait st session w
    i = its_wait st session w may

    ended_with : List Wait → LockState → Standing
    ended_with ws locks = record (ended_if_any (Some i.active) st) { waiting = ws; locks = locks }

-- as many Commits are owed
owing_same : (o : Option Active) (st : Standing) (w : Wait) → owing_with o (resumed st w) ≡ owing_with o st
owing_same None st w = refl
owing_same (Some a) st w = refl

-- ---- logs that are unchanged

module _ {D : Type 0} where
  pub then_unchanged : (x y z : LogBuffer D) → IsUnchanged x y → IsUnchanged y z → IsUnchanged x z
  then_unchanged x y z first next = record {
    kept = record {
      end = next.kept.end ∙ first.kept.end;
      last = next.kept.last ∙ first.kept.last;
      first = next.kept.first ∙ first.kept.first;
      written = next.kept.written ∙ first.kept.written;
      flushed_len = next.kept.flushed_len ∙ first.kept.flushed_len;
      max = next.kept.max ∙ first.kept.max;
      unwritten = λ f. next.kept.unwritten f ∙ first.kept.unwritten f;
      room = λ sizes room. next.kept.room sizes (first.kept.room sizes room);
    };
    disk = next.disk ∙ first.disk;
    failed = next.failed ∙ first.failed;
  }

  -- there was no memory for the call, and its session was ended
  pub gone_again : (meaning : DiskMeaning D) (most : ℕ) (old between new : Environment D) (st : Standing) (session : ℕ) (w : Wait) → MayGoOn st session w →
      HasNotCome meaning most old between (resumed st w) →
      ((m : ℕ) (x : Standing) → StandsAt m meaning between x → (x.fault ≡ None → AreNumbered x.last_txn x.actives) → StandsAt m meaning new (after_session session x)) →
      IsUnchanged between.engine.trees.log new.engine.trees.log → ((x : Standing) → AreSessionsAt between.sessions x → IsWithin (reach_of new) (reach_of between)) →
      HasNotCome meaning most old new (after_session session st)
  gone_again meaning most old between new st session w may h stands log near = record {
    here = subst (λ (x : Standing). StandsAt most meaning new x) (left_resumed st session w may) (stands most (resumed st w) h.here (λ none. (sound_again st session w may).numbers));
    log = then_unchanged old.engine.trees.log between.engine.trees.log new.engine.trees.log h.log log;
    near = within_then old between new h.near (near (resumed st w) h.here.sessions_at);
  }

  -- an environment whose sessions let the call go on
  abbrev pub mid : Environment D → Sessions → Environment D
  mid e s = record { engine = e.engine; sessions = s; written = e.written }

  pub resumed_at : (most : ℕ) (meaning : DiskMeaning D) (e : Environment D) (s : Sessions) (st : Standing) (w : Wait) → StandsAt most meaning e st → AreSessionsAt s (resumed st w) →
      StandsAt most meaning (mid e s) (resumed st w)
  resumed_at most meaning e s st w at now_ = record {
    file_max = at.file_max;
    fault = at.fault;
    last_txn = at.last_txn;
    last_db = at.last_db;
    commits = at.commits;
    totals = at.totals;
    sessions_at = now_;
    apart = own_waits_left (λ (v : Wait). not (v.session == w.session)) st.waiting at.apart;
    checkpoint = at.checkpoint;
    databases = at.databases;
    valid = λ none. valid_waiting meaning.observable (now (meaning.history (disk_below e.engine.trees.log))) e.engine.trees.log (cells_of e.engine.trees) (has_tree_of e.engine.trees) (fitting e.engine.trees) e.engine.kept.since e.written.by_txn.entries st
        (without_wait w.session st.waiting) (forgotten w.txn st.locks) (at.valid none);
  }

  near_mid : (e : Environment D) (s : Sessions) (st : Standing) (w : Wait) → AreSessionsAt e.sessions st → AreSessionsAt s (resumed st w) → IsWithin (reach_of (mid e s)) (reach_of e)
  near_mid e s st w at now_ = near_owed e s (owed_is s (resumed st w) now_ ∙ sym (owed_is e.sessions st at))

  limit_mid : (e : Environment D) (s : Sessions) (owed : ℕ) (changes : List Change) (limit : Option Answer) → HasLimit (mid e s) owed changes limit → HasLimit e owed changes limit
  limit_mid e s owed [] limit h = h
  limit_mid e s owed (change ∷ changes) limit h = record { planned = h.planned; rows = h.rows; makes = h.makes; is = h.is }

  module _ (meaning : DiskMeaning D) (old new : Environment D) (s : Sessions) (session : ℕ) (valid : old.engine.kept.fault ≡ None)
      (stands : (st : Standing) (w : Wait) → wait_of session st.waiting ≡ Some w → IsReady st.fault st w.txn → AreSessionsAt old.sessions st → AreSessionsAt s (resumed st w)) where
    -- what is known of an environment whose session's call may go on
    record IsGoing (most : ℕ) (st : Standing) (line : ℕ) (w : Wait) : Type 0 where
      none : st.fault ≡ None
      may : MayGoOn st session w
      line_is : line ≡ w.line
      now_ : AreSessionsAt s (resumed st w)
      at_mid : StandsAt most meaning (mid old s) (resumed st w)
      near : IsWithin (reach_of (mid old s)) (reach_of old)

    going : (most : ℕ) (st : Standing) (line : ℕ) → IsAt most meaning.observable (now (meaning.history (disk_of old))) old st → (m : MayResume st session line) → IsGoing most st line m.wait
    going most st line here m =
        let calm = sym here.at.fault ∙ valid in
        let sessions_now = stands st m.wait m.its m.ready here.at.sessions_at in
        record {
          none = calm;
          may = record { right = here.right calm; bare = here.bare calm; its = m.its; granted = subst (λ (f : Option Fault). IsReady f st m.wait.txn) calm m.ready };
          line_is = sym m.line_is;
          now_ = sessions_now;
          at_mid = resumed_at most meaning old s st m.wait here.at sessions_now;
          near = near_mid old s st m.wait here.at.sessions_at sessions_now;
        }

    abbrev Called : ℕ → Standing → Wait → Outcome → Type 0
    Called most st w o = HasCalled meaning most (mid old s) new (resumed st w) session w.line w.call o.answer o.victims

    pub near_of : (most : ℕ) (st : Standing) (line : ℕ) → IsAt most meaning.observable (now (meaning.history (disk_of old))) old st → MayResume st session line → IsWithin (reach_of (mid old s)) (reach_of old)
    near_of most st line here m = (going most st line here m).near

    -- what the call asks that goes on
    pub resumes_of : (most : ℕ) (st : Standing) (line : ℕ) → IsAt most meaning.observable (now (meaning.history (disk_of old))) old st → (m : MayResume st session line) → (w : Wait) → Some w ≡ wait_of session st.waiting →
        (x : ℕ) × (y : Standing) × StandsAt x meaning (mid old s) (resumed y w) × MayGoOn y session w
    resumes_of most st line here m w is =
        let g = going most st line here m in
        let same : Some m.wait ≡ Some w = sym m.its ∙ sym is in
        (most, st, for_wait (λ v. StandsAt most meaning (mid old s) (resumed st v)) m.wait w same g.at_mid, for_wait (λ v. MayGoOn st session v) m.wait w same g.may)

    -- the event
    answered : (most : ℕ) (st : Standing) (line : ℕ) (m : MayResume st session line) (o : Outcome) → IsGoing most st line m.wait → (has : Called most st m.wait o) → IsAnswered has.limit st (resumed_by session line o)
    answered most st line m o g has =
        subst (λ (x : Option Wait). IsResumed x has.limit st session line o.answer o.victims) (sym m.its)
        (g.line_is, m.ready, subst (λ (n : ℕ). IsCallAnswered (early_refusal (resumed st m.wait) session m.wait.call) has.limit (resumed st m.wait) session n m.wait.call o.answer o.victims) (sym g.line_is) has.answers)

    written_is : (st : Standing) (line : ℕ) (m : MayResume st session line) → written_resumed (wait_of session st.waiting) st session ≡ written_call (resumed st m.wait) session m.wait.call
    written_is st line m = ap (λ (x : Option Wait). written_resumed x st session) m.its

    after_is : (most : ℕ) (st : Standing) (line : ℕ) (m : MayResume st session line) (o : Outcome) → IsGoing most st line m.wait →
        after_event st (resumed_by session line o) ≡ after_call (early_refusal (resumed st m.wait) session m.wait.call) (resumed st m.wait) session m.wait.line m.wait.call o.answer o.victims
    after_is most st line m o g =
        ap (λ (x : Option Wait). after_resumed x st session line o.answer o.victims) m.its
        ∙ ap (λ (n : ℕ). after_call (early_refusal (resumed st m.wait) session m.wait.call) (resumed st m.wait) session n m.wait.call o.answer o.victims) g.line_is

    has_limit : (most : ℕ) (st : Standing) (line : ℕ) (m : MayResume st session line) (o : Outcome) → (has : Called most st m.wait o) →
        HasLimit old (owing_after st session) (written_resumed (wait_of session st.waiting) st session) has.limit
    has_limit most st line m o has =
        subst (λ (cs : List Change). HasLimit old (owing_after st session) cs has.limit) (sym (written_is st line m))
        (limit_mid old s (owing_after st session) (written_call (resumed st m.wait) session m.wait.call) has.limit
        (subst (λ (n : ℕ). HasLimit (mid old s) n (written_call (resumed st m.wait) session m.wait.call) has.limit) (owing_same (active_of session st.actives) st m.wait) has.has_limit))

    grows_by : (st : Standing) (line : ℕ) (m : MayResume st session line) → IsWithin (reach_of (mid old s)) (reach_of old) → IsWithin (reach_of new) (reach_after (reach_of (mid old s)) (written_call (resumed st m.wait) session m.wait.call)) →
        IsWithin (reach_of new) (reach_after (reach_of old) (written_resumed (wait_of session st.waiting) st session))
    grows_by st line m first next =
        subst (λ (cs : List Change). IsWithin (reach_of new) (reach_after (reach_of old) cs)) (sym (written_is st line m))
        (let f1 = first.file in let f2 = next.file in let n1 = first.node in let n2 = next.node in record { file = omega (arith, f1, f2); node = omega (arith, n1, n2) })

    done : (most : ℕ) (st : Standing) (line : ℕ) (o : Outcome) → IsAt most meaning.observable (now (meaning.history (disk_of old))) old st → (m : MayResume st session line) → IsGoing most st line m.wait → Called most st m.wait o →
        HasDone most meaning.observable (now (meaning.history (disk_of new))) old new st (resumed_by session line o)
    done most st line o here m g has =
        let owed = owed_is old.sessions st here.at.sessions_at in
        let with_ = owed_with (active_of session st.actives) st in
        let said = answered most st line m o g has in
        record {
          limit = has.limit;
          bounded = bounded old (owing_after st session) (written_resumed (wait_of session st.waiting) st session) has.limit (omega (arith, owed, with_)) (has_limit most st line m o has);
          answered = said;
          here = record {
            at = subst (λ (x : Standing). StandsAt most meaning new x) (sym (after_is most st line m o g)) has.here;
            right = λ after. standings_stay-right has.limit st (resumed_by session line o) g.none (here.right g.none) said;
            bare = λ after. standings_stay-bare has.limit st (resumed_by session line o) g.none (here.right g.none) (here.bare g.none) said;
            reached = reached_goes-on has.limit st (resumed_by session line o) here.reached said;
          };
        }

    attempts : (st : Standing) (line : ℕ) (m : MayResume st session line) (o : Outcome) →
        attempt_of st (resumed_by session line o) ≡ tried (changes_of (early_refusal (resumed st m.wait) session m.wait.call) (resumed st m.wait) session m.wait.call) (fate_of o.answer)
    attempts st line m o = ap (λ (x : Option Wait). tried (changes_resumed x st session) (fate_of o.answer)) m.its

    session_end : (most : ℕ) (st : Standing) → IsAt most meaning.observable (now (meaning.history (disk_of old))) old st → StandsAt most meaning new (after_session session st) → st.fault ≡ None →
        IsAt most meaning.observable (now (meaning.history (disk_of new))) new (after_event st (End session))
    session_end most st here left none = record {
      at = left;
      right = λ after. standings_stay-right None st (End session) none (here.right none) tt;
      bare = λ after. standings_stay-bare None st (End session) none (here.right none) (here.bare none) tt;
      reached = reached_goes-on None st (End session) here.reached tt;
    }

    pub resumes_call : (result : Result Outcome AllocError) →
        ((most : ℕ) (st : Standing) (w : Wait) → AreSessionsAt old.sessions st → StandsAt most meaning (mid old s) (resumed st w) → MayGoOn st session w → GoesAgain meaning most (mid old s) new st w session result) →
        IsWithin (reach_of (mid old s)) (reach_of old) → OnErr result (IsWithin (reach_of new) (reach_of (mid old s))) → ResumesCall meaning old new session result
    resumes_call (Ok o) again before_ near = record {
      goes_on = λ most st line here m. let g = going most st line here m in done most st line o here m g (again most st m.wait here.at.sessions_at g.at_mid g.may);
      exact = λ most st line here m.
          let g = going most st line here m in let has = again most st m.wait here.at.sessions_at g.at_mid g.may in
          (has.limit, has_limit most st line m o has, answered most st line m o g has);
      numbered = λ most st line here m.
          let g = going most st line here m in let has = again most st m.wait here.at.sessions_at g.at_mid g.may in
          subst (λ (x : Standing). IsNumbered o.answer x.commits) (sym (after_is most st line m o g)) has.numbered;
      grows = λ most st line here m. let g = going most st line here m in let has = again most st m.wait here.at.sessions_at g.at_mid g.may in grows_by st line m g.near has.near;
      crash = λ observed most st start journal line here m is.
          let before = after_events st journal in
          let g = going most before line here m in let has = again most before m.wait here.at.sessions_at g.at_mid g.may in
          guarded_step meaning st start old.engine.trees.log new.engine.trees.log journal (resumed_by session line o) _ is.0 observed refl (log_step meaning (is_disk_fault o.answer) old.engine new.engine.trees.log _ _ has.logged) (attempts before line m o) refl g.none
          (ap (λ (x : Standing). x.fault) (after_is most before line m o g) ∙ has.fault) is.1;
      appends = λ most st line here m.
          let g = going most st line here m in let has = again most st m.wait here.at.sessions_at g.at_mid g.may in
          subst (λ (cs : List Change). Appends meaning old new cs (attempt_of st (resumed_by session line o)) o.answer) (sym (written_is st line m))
          (subst (λ (ts : List (List Change)). Appends meaning old new (written_call (resumed st m.wait) session m.wait.call) ts o.answer) (sym (attempts st line m o)) has.logged);
      stays = tt;
      settles = λ most st line here m.
          let g = going most st line here m in let has = again most st m.wait here.at.sessions_at g.at_mid g.may in
          resumes-settle has.limit st session line o.answer o.victims (inl (here.right g.none)) (answered most st line m o g has);
    }
    resumes_call (Err error) again before_ near = record {
      goes_on = λ most st line here m. let g = going most st line here m in session_end most st here (again most st m.wait here.at.sessions_at g.at_mid g.may).here g.none;
      exact = λ most st line here m. tt;
      numbered = λ most st line here m. tt;
      grows = λ most st line here m.
          let n1 = near.file in let n2 = near.node in let m1 = before_.file in let m2 = before_.node in record { file = omega (arith, n1, m1); node = omega (arith, n2, m2) };
      crash = λ observed most st start journal line here m is.
          let before = after_events st journal in
          let g = going most before line here m in let left = again most before m.wait here.at.sessions_at g.at_mid g.may in
          (is.0, ended_safely meaning.history st is.0 start old.engine.trees.log new.engine.trees.log journal session left.log is.1);
      appends = λ most st line here m. tt;
      stays = within_then old (mid old s) new before_ near;
      settles = λ most st line here m. ends-settle st session (ap is_some m.its);
    }

-- ---- after a fault

module _ {D : Type 0} (meaning : DiskMeaning D) (old : Environment D) (s : Sessions) (session : ℕ) (first : Fault) (fault : old.engine.kept.fault ≡ Some first)
    (stands : (st : Standing) (w : Wait) → wait_of session st.waiting ≡ Some w → IsReady st.fault st w.txn → AreSessionsAt old.sessions st → AreSessionsAt s (resumed st w)) where
  abbrev after_ : Environment D
  after_ = mid old s

  record IsFaulted (st : Standing) (line : ℕ) (w : Wait) : Type 0 where
    failed : st.fault ≡ Some first
    early : early_refusal (resumed st w) session w.call ≡ Some (Invalid first)
    after : after_event st (Resume session line (Invalid first) []) ≡ resumed st w
    written : written_resumed (wait_of session st.waiting) st session ≡ []
    attempt : attempt_of st (Resume session line (Invalid first) []) ≡ []
    answered : IsAnswered None st (Resume session line (Invalid first) [])

  faulted_is : (most : ℕ) (st : Standing) (line : ℕ) → IsAt most meaning.observable (now (meaning.history (disk_of old))) old st → (m : MayResume st session line) → IsFaulted st line m.wait
  faulted_is most st line here m =
      let w = m.wait in
      let is_failed = sym here.at.fault ∙ fault in
      let refused = ap (λ (f : Option Fault). or_refusal (fault_refusal f) (later (resumed st w) w.call)) is_failed in
      record {
        failed = is_failed;
        early = refused;
        after = ap (λ (x : Option Wait). after_resumed x st session line (Invalid first) []) m.its
            ∙ ap (λ (r : Option Answer). after_call r (resumed st w) session line w.call (Invalid first) []) refused;
        written = ap (λ (x : Option Wait). written_resumed x st session) m.its ∙ ap (λ (r : Option Answer). written_unless r (resumed st w) session w.call) refused;
        attempt = ap (λ (x : Option Wait). tried (changes_resumed x st session) (fate_of (Invalid first))) m.its
            ∙ ap (λ (r : Option Answer). tried (changes_of r (resumed st w) session w.call) (fate_of (Invalid first))) refused;
        answered = subst (λ (x : Option Wait). IsResumed x None st session line (Invalid first) []) (sym m.its)
            (sym m.line_is, m.ready, subst (λ (r : Option Answer). IsCallAnswered r None (resumed st w) session line w.call (Invalid first) []) (sym refused) (refl, refl));
      }
    where
      later : Standing → Call → Option Answer
      later x call =
          let active = active_of session x.actives in or_refusal (waits_refusal x active) (or_refusal (abort_refusal call active) (txn_refusal call active))

  not_none : (st : Standing) → st.fault ≡ Some first → st.fault ≡ None → ⊥
  not_none st failed none = absurd (none-some first (sym none ∙ failed))

  at_faulted : (most : ℕ) (st : Standing) (line : ℕ) → IsAt most meaning.observable (now (meaning.history (disk_of old))) old st → (m : MayResume st session line) → IsFaulted st line m.wait →
      IsAt most meaning.observable (now (meaning.history (disk_of old))) after_ (after_event st (Resume session line (Invalid first) []))
  at_faulted most st line here m i = subst (λ (x : Standing). IsAt most meaning.observable (now (meaning.history (disk_of old))) after_ x) (sym i.after) (record {
    at = resumed_at most meaning old s st m.wait here.at (stands st m.wait m.its m.ready here.at.sessions_at);
    right = λ none. absurd (not_none st i.failed none);
    bare = λ none. absurd (not_none st i.failed none);
    reached = subst IsReached i.after (reached_goes-on None st (Resume session line (Invalid first) []) here.reached i.answered);
  })

  limit_none : (changes : List Change) (owed : ℕ) → changes ≡ [] → HasLimit old owed changes None
  limit_none changes owed none = subst (λ (cs : List Change). HasLimit old owed cs None) (sym none) refl

  within_written : (most : ℕ) (st : Standing) (line : ℕ) → IsAt most meaning.observable (now (meaning.history (disk_of old))) old st → (m : MayResume st session line) →
      IsWithin (reach_of after_) (reach_after (reach_of old) (written_resumed (wait_of session st.waiting) st session))
  within_written most st line here m =
      let near = near_mid old s st m.wait here.at.sessions_at (stands st m.wait m.its m.ready here.at.sessions_at) in
      let n1 = near.file in let n2 = near.node in record { file = omega (arith, n1); node = omega (arith, n2) }

  at_result : (answer : Answer) (victims : List Victim) → answer ≡ Invalid first → victims ≡ [] → ResumesCall meaning old after_ session (Ok (record { answer = answer; victims = victims }))
  at_result answer victims is none =
      subst (λ (a : Answer). ResumesCall meaning old after_ session (Ok (record { answer = a; victims = victims }))) (sym is)
      (subst (λ (vs : List Victim). ResumesCall meaning old after_ session (Ok (record { answer = Invalid first; victims = vs }))) (sym none) (record {
        goes_on = λ most st line here m.
            let i = faulted_is most st line here m in
            record { limit = None; bounded = inl refl; answered = i.answered; here = at_faulted most st line here m i };
        exact = λ most st line here m. let i = faulted_is most st line here m in (None, limit_none (written_resumed (wait_of session st.waiting) st session) (owing_after st session) i.written, i.answered);
        numbered = λ most st line here m. tt;
        grows = λ most st line here m. within_written most st line here m;
        crash = λ observed most st start journal line here m is_.
            let i = faulted_is most (after_events st journal) line here m in
            (is_.0, guarded_quiet st is_.0 start (meaning.history (disk_of old)) old.engine.trees.log journal (Resume session line (Invalid first) []) refl i.attempt refl refl (ap (λ (x : Standing). x.fault) i.after) is_.1);
        appends = λ most st line here m.
            let i = faulted_is most st line here m in inl (same_buffer old.engine.trees.log, i.attempt, ap (λ (cs : List Change). tried cs (fate_of (Invalid first))) i.written);
        stays = tt;
        settles = λ most st line here m.
            let i = faulted_is most st line here m in
            resumes-settle None st session line (Invalid first) [] (inr (first, i.failed)) i.answered;
      }))

  pub resumes_invalid : (o : Outcome) → o.answer ≡ Invalid first → o.victims ≡ [] → ResumesCall meaning old after_ session (Ok o)
  resumes_invalid o is none = at_result o.answer o.victims is none
