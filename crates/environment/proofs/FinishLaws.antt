-- A call of a transaction under way that changes nothing.
use mathlib.Core.Path.{fun_ext}
use Rattle.std.proofs.Common.{◌≡◌, ◌≢◌, ◌∙◌, ℕ, ◌==◌, Bool, true, false, cond, List, [], ◌++◌, filter, length, Option, None, Some, inl, inr, ◌⊎◌, ap, refl, sym, subst}
use Rattle.std.proofs.lemmas.Bool.Decides.{eqb_tells}
use Rattle.std.proofs.lemmas.List.{append-nil}
use Rattle.je_disk.specs.DiskMeaning.{DiskMeaning}
use Rattle.je_disk.specs.States.{State}
use Rattle.je_disk.specs.Moments.{now}
use Rattle.je_order.specs.declared.txn_id.TxnId.{TxnId}
use Rattle.store_model.specs.declared.answer.Answer.{Answer}
use Rattle.store_model.specs.declared.answer.Fault.TheVariants.{Disk}
use Rattle.store_model.specs.declared.call.Call.{Call}
use Rattle.store_model.specs.declared.need.Need.{Need}
use Rattle.store_model.specs.declared.place.Place.{Place}
use Rattle.store_model.specs.declared.record_change.RecordChange.{RecordChange}
use Rattle.store_model.specs.declared.victim.Victim.{Victim}
use Rattle.store_model.specs.Records.{Evaluated}
use Rattle.je_answers.specs.declared.active.Active.{Active}
use Rattle.je_answers.specs.Standing.{LockState, Standing, with_at}
use Rattle.je_answers.specs.Views.{Target, changes_with, needs_in, outcome_of, with_names}
use Rattle.je_answers.specs.Locking.{all_got}
use Rattle.je_answers.specs.Events.{IsDone, IsTaken}
use Rattle.je_answers.specs.After.{after_changes, after_taking, answered, closed, with_locks, with_outcome}
use Rattle.je_answers.specs.Journal.{changes_closed, changes_taken}
use Rattle.log_buffer.specs.declared.buffer.LogBuffer.{LogBuffer}
use Rattle.log_buffer.specs.Buffer.{disk_of as disk_below}
use Rattle.record_tree.specs.Occupied.{AllCells}
use Rattle.in_tree.specs.Observed.{cells_of, has_tree_of}
use Rattle.active_txns.specs.Own.{has_changes}
use Rattle.active_txns.specs.Own.{AreCounted}
use Rattle.sessions.specs.declared.all_sessions.Sessions.{Sessions}
use Rattle.sessions.specs.AtStanding.{AreSessionsAt, owing}
use Rattle.engine.specs.declared.engine.Engine.{Engine}
use Rattle.engine.proofs.CalmAnswers.{IsCalm, faultless, unnumbered}
use Rattle.environment.specs.declared.environment.Environment.{Environment}
use Rattle.environment.specs.declared.outcome.Outcome.{Outcome}
use Rattle.environment.specs.declared.written.OwnNames.{OwnNames}
use Rattle.environment.specs.declared.written.Written.{Written}
use Rattle.environment.specs.Access.{HasAccessed, IsTakenUp, with_move}
use Rattle.environment.specs.Limits.{owing_with, written_taken}
use Rattle.environment.specs.Steps.{HasStepped, IsCallStep, StandsAt}
use Rattle.environment.specs.Valid.{IsValidWith, fitting, Forest}
use Rattle.environment.proofs.CallChanges.{none_changed}
use Rattle.environment.proofs.Answering.{owed_is, within_more}
use Rattle.environment.proofs.EarlyLaws.{same_buffer, told_so}
use Rattle.environment.proofs.EndingLaws.{near_owed}
use Rattle.environment.proofs.RecordAnswers.{calm_outcome}

-- ---- where nothing is changed the own changes are the same

pub same_own : (n : ℕ) (own : ℕ → List (ℕ × RecordChange)) → own ≡ with_at n (own n ++ []) own
same_own n own = fun_ext (λ m. by_test m (eqb_tells m n))
  where
    by_test : (m : ℕ) → ((m == n) ≡ true) × (m ≡ n) ⊎ ((m == n) ≡ false) × (m ≢ n) → own m ≡ cond (m == n) (own n ++ []) (own m)
    by_test m (inl same) = ap own same.1 ∙ sym (append-nil (own n)) ∙ sym (ap (λ (b : Bool). cond b (own n ++ []) (own m)) same.0)
    by_test m (inr other) = sym (ap (λ (b : Bool). cond b (own n ++ []) (own m)) other.0)

-- a standing with these own changes, cursors and locks
abbrev Elsewhere : Standing → (ℕ → List (ℕ × RecordChange)) → (ℕ → List Place) → LockState → Standing
Elsewhere st own places locks = record st { own = own; places = places; locks = locks }

module _ {D : Type 0} where
  pub valid_elsewhere : (observable : Bool) (state : State) (buffer : LogBuffer D) (cells : AllCells) (has_tree : ℕ → Bool) (forest : Forest) (since : ℕ) (written : List (TxnId × OwnNames)) (st : Standing) (own : ℕ → List (ℕ × RecordChange))
      (places : ℕ → List Place) (locks : LockState) → st.own ≡ own → IsValidWith observable state buffer cells has_tree forest since written st →
      IsValidWith observable state buffer cells has_tree forest since written (Elsewhere st own places locks)
  valid_elsewhere observable state buffer cells has_tree forest since written st own places locks same v =
      subst (λ (o : ℕ → List (ℕ × RecordChange)). IsValidWith observable state buffer cells has_tree forest since written (Elsewhere st o places locks)) same (record {
        log = v.log;
        has = v.has;
        works = v.works;
        gives = v.gives;
        recovers = v.recovers;
        makes = record {
          environment = v.makes.environment;
          rising = v.makes.rising;
          unused = v.makes.unused;
          numbers = v.makes.numbers;
          store = v.makes.store;
          named = v.makes.named;
        };
        writes = v.writes;
        may = v.may;
        made = v.made;
        room = v.room;
        names = v.names;
        fits = v.fits;
        from = v.from;
        firsts = v.firsts;
      })

  -- the environment with these sessions
  abbrev pub in_sessions : Sessions → Environment D → Environment D
  in_sessions s e = record { engine = e.engine; sessions = s; written = e.written }

  pub elsewhere_at : (most : ℕ) (meaning : DiskMeaning D) (e : Environment D) (s : Sessions) (st : Standing) (own : ℕ → List (ℕ × RecordChange)) (places : ℕ → List Place) (locks : LockState) →
      st.own ≡ own → AreSessionsAt s (Elsewhere st own places locks) → StandsAt most meaning e st → StandsAt most meaning (in_sessions s e) (Elsewhere st own places locks)
  elsewhere_at most meaning e s st own places locks same stands at = record {
    file_max = at.file_max;
    fault = at.fault;
    last_txn = at.last_txn;
    last_db = at.last_db;
    commits = at.commits;
    totals = at.totals;
    sessions_at = stands;
    apart = at.apart;
    checkpoint = at.checkpoint;
    databases = at.databases;
    valid = λ none. valid_elsewhere meaning.observable (now (meaning.history (disk_below e.engine.trees.log))) e.engine.trees.log (cells_of e.engine.trees) (has_tree_of e.engine.trees) (fitting e.engine.trees) e.engine.kept.since e.written.by_txn.entries st own places locks same
        (at.valid none);
  }

  -- ---- what it comes to

  module _ (meaning : DiskMeaning D) where
    -- by the first lock that it does not get
    abbrev pub Takes : ℕ → Environment D → Environment D → Standing → Active → ℕ → Call → Target → Answer → Option Need → Type 0
    Takes most old new st a line call g answer need =
        HasStepped meaning most old new (owing_with (Some a) st) (written_taken need st a call g) (changes_taken need st a call g)
        (λ limit. IsTaken need limit st a line call g answer []) (after_taking need st st a line call g answer []) answer

    -- and where it got all, by what it evaluates to, and whether its transaction is its own
    abbrev pub Evaluates : ℕ → Environment D → Environment D → Standing → Active → Call → Target → Answer → Bool → Evaluated → Type 0
    Evaluates most old new st a call g answer auto ev =
        HasStepped meaning most old new (owing_with (Some a) st) (with_names (changes_with st a g ev.changes)) (changes_closed auto (with_names (changes_with st a g ev.changes)))
        (λ limit. IsDone ev.changes limit st a ev answer × (◌≡◌ {A = List Victim} [] [])) (after_changes ev.changes st st a call g ev answer) answer

    -- without changes, in a transaction of more calls
    abbrev pub Changes : ℕ → Environment D → Environment D → Standing → Active → Call → Target → Answer → Evaluated → Bool → Type 0
    Changes most old new st a call g answer ev auto =
        HasStepped meaning most old new (owing_with (Some a) st) [] (changes_closed auto [])
        (λ limit. (answer ≡ ev.answer) × (◌≡◌ {A = List Victim} [] [])) (closed auto a [] (with_outcome a call g ev (answered a call g st))) answer

    abbrev pub without : Evaluated → Evaluated
    without ev = record { answer = ev.answer; answered = ev.answered; changes = []; place = ev.place }

    changes_nothing : (most : ℕ) (e : Environment D) (s : Sessions) (st : Standing) (a : Active) (call : Call) (g : Target) (answer : Answer) (ev : Evaluated) → StandsAt most meaning e st → st.fault ≡ None →
        AreSessionsAt s (with_move a call ev.place (answered a call g st)) → answer ≡ ev.answer → IsCalm answer → Changes most e (in_sessions s e) st a call g answer (without ev) false
    changes_nothing most e s st a call g answer ev at none stands is calm =
        let after : Standing = with_outcome a call g (without ev) (answered a call g st) in
        let same : st.own ≡ after.own = same_own a.txn.0 st.own in
        let stands_now : AreSessionsAt s after = record { actives = stands.actives; own = subst (AreCounted s.txns.own.entries) same stands.own; places = stands.places; waiting = stands.waiting; locks = stands.locks } in
        let owes : owing after ≡ owing st = ap (λ (own : ℕ → List (ℕ × RecordChange)). length (filter (λ b. has_changes (own b.txn.0)) st.actives)) (sym same) in
        record {
          limit = None;
          has_limit = refl;
          answers = (is, refl);
          here = elsewhere_at most meaning e s st after.own after.places after.locks same stands_now at;
          numbered = unnumbered answer st.commits calm;
          fault = none ∙ ap (λ (b : Bool). cond b (Some Disk) None) (sym (faultless answer calm));
          logged = subst (λ (b : Bool). IsCallStep meaning b e.engine e.engine.trees.log [] []) (sym (faultless answer calm)) (inl (same_buffer e.engine.trees.log, refl, refl));
          near = within_more e (in_sessions s e) [] (near_owed e s (owed_is s after stands_now ∙ owes ∙ sym (owed_is e.sessions st at.sessions_at)));
        }

    evaluates_nothing : (most : ℕ) (e : Environment D) (s : Sessions) (st : Standing) (a : Active) (call : Call) (g : Target) (answer : Answer) (ev : Evaluated) (cs : List RecordChange) → ev.changes ≡ cs → cs ≡ [] →
        a.is_auto ≡ false → StandsAt most meaning e st → st.fault ≡ None → AreSessionsAt s (with_move a call ev.place (answered a call g st)) → answer ≡ ev.answer → IsCalm answer →
        Evaluates most e (in_sessions s e) st a call g answer a.is_auto ev
    evaluates_nothing most e s st a call g answer ev cs has empty auto at none stands is calm =
        subst (λ (l : List RecordChange). Evaluates most e (in_sessions s e) st a call g answer a.is_auto (record { answer = ev.answer; answered = ev.answered; changes = l; place = ev.place })) (sym (has ∙ empty))
        (subst (Changes most e (in_sessions s e) st a call g answer (without ev)) (sym auto) (changes_nothing most e s st a call g answer ev at none stands is calm))

    pub calm_taken : (before e : Environment D) (most session : ℕ) (st : Standing) (a : Active) (call : Call) (g : Target) (answer : Answer) (changes : List (ℕ × RecordChange)) →
        IsTakenUp meaning most before e st session a call g answer changes → IsCalm answer
    calm_taken before e most session st a call g answer changes up = subst IsCalm (sym up.answer_is) (calm_outcome st a call g up.records)

    pub finishes : (before e : Environment D) (s : Sessions) (most session line : ℕ) (st : Standing) (a : Active) (call : Call) (g : Target) (answer : Answer) (changes : List (ℕ × RecordChange)) (o : Outcome) →
        IsTakenUp meaning most before e st session a call g answer changes → changes ≡ [] → a.is_auto ≡ false → AreSessionsAt s (with_move a call (outcome_of st a call g).place (with_locks a (all_got a.txn (needs_in st a call g) st.locks.at) st)) →
        o.answer ≡ answer → o.victims ≡ [] → HasAccessed meaning most before (in_sessions s e) st a line call g o.answer o.victims
    finishes before e s most session line st a call g answer changes o up empty auto stands told alone =
        told_so (HasAccessed meaning most before (in_sessions s e) st a line call g) o answer told alone
        (subst (λ (w : Written). HasAccessed meaning most before (record { engine = e.engine; sessions = s; written = w }) st a line call g answer []) (sym up.written)
        (subst (λ (x : Engine D). HasAccessed meaning most before (record { engine = x; sessions = s; written = before.written }) st a line call g answer []) (sym up.engine)
        (subst (Takes most before (in_sessions s before) st a line call g answer) (sym up.taken.free)
        (evaluates_nothing most before s st a call g answer (outcome_of st a call g) (outcome_of st a call g).changes refl (none_changed st a g (outcome_of st a call g).changes (sym up.changes_are ∙ empty)) auto up.here up.valid stands up.answer_is calm))))
      where
        calm : IsCalm answer
        calm = calm_taken before e most session st a call g answer changes up
