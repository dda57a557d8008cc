-- A call on records that is a transaction of its own, among others: it waits, or changes nothing.
use Rattle.std.proofs.Common.{◌≡◌, ◌∙◌, ℕ, ◌≤◌, ◌+◌, Bool, true, true≢false, cond, List, [], ◌∷◌, ◌++◌, Option, None, Some, Result, Ok, Err, OnErr, IsErr, refl, ap, ap₂, sym, subst, inl, arith}
use Rattle.std.specs.declared.alloc.AllocError.{AllocError}
use Rattle.je_disk.specs.DiskMeaning.{DiskMeaning}
use Rattle.je_disk.specs.Moments.{now}
use Rattle.je_order.specs.declared.txn_id.TxnId.{TxnId}
use Rattle.store_model.specs.declared.answer.Answer.{Answer}
use Rattle.store_model.specs.declared.answer.Fault.TheVariants.{Disk}
use Rattle.store_model.specs.declared.call.Call.{Call}
use Rattle.store_model.specs.declared.call.Call.TheVariants.{Get, GetBoth, Put, Delete}
use Rattle.store_model.specs.declared.change.Change.{Change}
use Rattle.store_model.specs.declared.need.Need.{Need}
use Rattle.store_model.specs.declared.record_change.RecordChange.{RecordChange}
use Rattle.store_model.specs.declared.victim.Victim.{Victim}
use Rattle.store_model.specs.Evaluation.{Outcome, answers}
use Rattle.store_model.specs.Indexes.{all_changes, answer_through}
use Rattle.store_model.specs.Records.{Evaluated, evaluation}
use Rattle.store_model.specs.Refusals.{next_txn, or_refusal}
use Rattle.store_model.specs.Store.{all_pairs_changed}
use Rattle.db_catalog.specs.Planning.{outcome_unless}
use Rattle.je_answers.specs.declared.active.Active.{Active}
use Rattle.je_answers.specs.Standing.{Standing, active_of}
use Rattle.je_answers.specs.Views.{Target, answered_with, needs_in, of_db, outcome_of, target_of, with_names}
use Rattle.je_answers.specs.Refusals.{late_refusal, name_refusal, number_refusal, target_refusal, there_refusal}
use Rattle.je_answers.specs.Alone.{alone, changes_of_call, evaluated_on}
use Rattle.je_answers.specs.Locking.{all_got}
use Rattle.je_answers.specs.Events.{IsStopped, auto_active, begun, waiting_answer}
use Rattle.je_answers.specs.After.{after_stop, answered, ended, moved, with_locks, with_outcome}
use Rattle.je_answers.specs.Journal.{is_disk_fault}
use Rattle.log_buffer.specs.Buffer.{disk_of as disk_below}
use Rattle.in_tree.specs.Observed.{cells_of, has_tree_of}
use Rattle.txn_core.specs.Planning.{outcome_alone, outcome_on}
use Rattle.txn_core.specs.Totals.{totals_of}
use Rattle.active_txns.specs.Own.{AreCounted}
use Rattle.sessions.specs.declared.all_sessions.Sessions.{Sessions}
use Rattle.sessions.specs.AtStanding.{AreSessionsAt, owing}
use Rattle.open_cursors.specs.Places.{AreUnder}
use Rattle.sessions.specs.Taking.{HasStopped}
use Rattle.standing_laws.proofs.Each.{all_append}
use Rattle.standing_laws.proofs.Stopped.{LeavesSame, victims_apart, victims_leave}
use Rattle.engine.specs.Limits.{IsWithin}
use Rattle.engine.proofs.CalmAnswers.{IsCalm, faultless, unnumbered}
use Rattle.environment.proofs.Databases.{known_leaves}
use Rattle.environment.proofs.PlacesLaws.{gone_again}
use Rattle.environment.specs.declared.environment.Environment.{Environment}
use Rattle.environment.specs.declared.outcome.Outcome.{Outcome as Told}
use Rattle.environment.specs.Auto.{IsAutoAt, alone_in, changes_auto, outcome_auto}
use Rattle.environment.specs.Calls.{HasCause, IsOnRecords}
use Rattle.environment.specs.Steps.{ComesTo, HasCome, HasNotCome, IsCallStep}
use Rattle.environment.specs.Valid.{AreBare, fitting}
use Rattle.environment.specs.Whole.{reach_of}
use Rattle.environment.proofs.Answering.{owed_is, within_more}
use Rattle.environment.proofs.AutoLaws.{Evaluates, come_ready, come_taken, back, drawn_after, near_fewer, no_wait, own_back, own_gone, same_leaves, valid_leaves}
use Rattle.environment.proofs.BeginLaws.{next_is, none_own, owing_begun, valid_begun, with_begun}
use Rattle.environment.proofs.EarlyLaws.{same_buffer}

-- ---- what it comes to

-- what it comes to with these own changes
abbrev seen_with : Call → Target → List (ℕ × RecordChange) → Evaluated
seen_with call g own =
    let evaluated = evaluation g.database.kind call g.at (all_pairs_changed g.database.kind (of_db g.db own) g.database.pairs) in
    answered_with (answer_through g.over (λ d. all_pairs_changed d.1.kind (of_db d.0 own) d.1.pairs) evaluated.answer) evaluated

-- a transaction that has changed nothing sees what is committed
pub outcome_is : (st : Standing) (session : ℕ) (call : Call) (g : Target) → st.own (auto_active st session).txn.0 ≡ [] → outcome_of (begun st session) (auto_active st session) call g ≡ evaluated_on call g
outcome_is st session call g none = ap (seen_with call g) none

late_outside : (st : Standing) (session : ℕ) (call : Call) (db : List ℕ) → IsOnRecords db call → active_of session st.actives ≡ None → late_refusal st session call ≡ late_refusal (alone (alone_in st)) session call
late_outside st session (Get name key rmw) db is none = ap (λ (o : Option Active). or_refusal (number_refusal st.last_txn o)
    (or_refusal (there_refusal st session (Get name key rmw)) (or_refusal (name_refusal st session (Get name key rmw)) (target_refusal (Get name key rmw) (target_of st session (Get name key rmw)))))) none
late_outside st session (GetBoth name key value rmw) db is none = ap (λ (o : Option Active). or_refusal (number_refusal st.last_txn o)
    (or_refusal (there_refusal st session (GetBoth name key value rmw)) (or_refusal (name_refusal st session (GetBoth name key value rmw)) (target_refusal (GetBoth name key value rmw) (target_of st session (GetBoth name key value rmw)))))) none
late_outside st session (Put name key value mode) db is none = ap (λ (o : Option Active). or_refusal (number_refusal st.last_txn o)
    (or_refusal (there_refusal st session (Put name key value mode)) (or_refusal (name_refusal st session (Put name key value mode)) (target_refusal (Put name key value mode) (target_of st session (Put name key value mode)))))) none
late_outside st session (Delete name key) db is none = ap (λ (o : Option Active). or_refusal (number_refusal st.last_txn o)
    (or_refusal (there_refusal st session (Delete name key)) (or_refusal (name_refusal st session (Delete name key)) (target_refusal (Delete name key) (target_of st session (Delete name key)))))) none
late_outside st session call db is none = absurd is

plan_by : (st : Standing) (session : ℕ) (call : Call) (db : List ℕ) (late : Option Answer) (t : Option Target) → IsOnRecords db call → late_refusal (alone (alone_in st)) session call ≡ late → target_of st session call ≡ t →
    outcome_alone (alone_in st) session call ≡ outcome_unless late (outcome_on call t)
plan_by st session (Get name key rmw) db late t is unrefused target = ap₂ (λ (l : Option Answer) (x : Option Target). outcome_unless l (outcome_on (Get name key rmw) x)) unrefused target
plan_by st session (GetBoth name key value rmw) db late t is unrefused target = ap₂ (λ (l : Option Answer) (x : Option Target). outcome_unless l (outcome_on (GetBoth name key value rmw) x)) unrefused target
plan_by st session (Put name key value mode) db late t is unrefused target = ap₂ (λ (l : Option Answer) (x : Option Target). outcome_unless l (outcome_on (Put name key value mode) x)) unrefused target
plan_by st session (Delete name key) db late t is unrefused target = ap₂ (λ (l : Option Answer) (x : Option Target). outcome_unless l (outcome_on (Delete name key) x)) unrefused target
plan_by st session call db late t is unrefused target = absurd is

-- no change of the store is no change of records
none_on : (g : Target) (cs : List RecordChange) → changes_of_call g cs ≡ [] → cs ≡ []
none_on g [] none = refl
none_on g (c ∷ cs) none = absurd cc

-- ---- an answer of a call that is stopped

calm_told : (c : Option (List TxnId)) (at : _) (owner : TxnId) → IsCalm (waiting_answer c at owner)
calm_told None at owner = refl
calm_told (Some cycle) at owner = refl

pub calm_stopped : (o : Option TxnId) (st at : Standing) (session line : ℕ) (call : Call) (g : Target) (n : Need) (answer : Answer) (victims : List Victim) → IsStopped o at (auto_active st session) line call g n answer victims → IsCalm answer
calm_stopped None st at session line call g n answer victims is = absurd is
calm_stopped (Some owner) st at session line call g n answer victims is = subst IsCalm (sym is.3) (calm_told _ _ owner)

module _ {D : Type 0} (meaning : DiskMeaning D) (most : ℕ) (e : Environment D) (st : Standing) (session : ℕ) (call : Call) (g : Target)
    (may : IsAutoAt most meaning e st session call g) where
  abbrev a : Active
  a = auto_active st session

  abbrev there : Standing
  there = begun st session

  pub none_yet : st.own a.txn.0 ≡ []
  none_yet = none_own st a may.sound may.left refl

  pub plan_is : outcome_alone (alone_in st) session call ≡ outcome_on call (Some g)
  plan_is = plan_by st session call may.db None (Some g) may.records (sym (late_outside st session call may.db may.records may.outside) ∙ may.late) may.target

  pub evaluates : outcome_of there a call g ≡ evaluated_on call g
  evaluates = outcome_is st session call g none_yet

  bare_begun : AreBare there
  bare_begun = all_append (λ (b : Active). b.is_auto ≡ true → st.own b.txn.0 ≡ []) st.actives (a ∷ []) may.bare ((λ is. none_yet), tt)

  pub next : next_txn st.last_txn ≡ st.last_txn + 1
  next = next_is st.last_txn may.left

  -- ---- it waits

  pub stopped_comes : (s : Sessions) (last line : ℕ) (answer : Answer) (victims : List Victim) → last ≡ next_txn st.last_txn → HasStopped s there a line call g answer victims →
      HasCome meaning most e (with_begun e last s) st session line call answer victims
  stopped_comes s last line answer victims last_is stop =
      let after : Standing = after_stop true there a line call g stop.need victims in
      let leaves : LeavesSame there after = victims_leave there a line call g stop.need victims bare_begun in
      let calm = calm_stopped _ st there session line call g stop.need answer victims stop.answers in
      let owed_new = owed_is s after stop.stands in
      let owed_old = owed_is e.sessions st may.at.sessions_at in
      let fewer : owing after ≤ owing there = leaves.owing in
      let same = owing_begun st a none_yet in
      come_taken meaning most e (with_begun e last s) st session line call g answer victims may.db (Some stop.need) may.records may.late may.outside may.target stop.first (record {
        limit = None;
        has_limit = refl;
        answers = stop.answers;
        here = record {
          file_max = may.at.file_max;
          fault = may.at.fault ∙ sym leaves.fault;
          last_txn = last_is ∙ sym leaves.last_txn;
          last_db = may.at.last_db ∙ sym leaves.last_db;
          commits = may.at.commits ∙ sym leaves.commits;
          totals = may.at.totals ∙ ap totals_of (sym leaves.store);
          sessions_at = stop.stands;
          apart = victims_apart there a line call g stop.need victims may.at.apart (no_wait session st.actives st.waiting may.outside may.sound.waits.each);
          checkpoint = may.at.checkpoint ∙ sym leaves.checkpoint;
          databases = λ none. known_leaves there after e.engine.kept leaves (may.at.databases may.valid);
          valid = λ none.
              let state = now (meaning.history (disk_below e.engine.trees.log)) in
              valid_leaves meaning.observable state e.engine.trees.log (cells_of e.engine.trees) (has_tree_of e.engine.trees) (fitting e.engine.trees) e.engine.kept.since e.written.by_txn.entries there after leaves
              (valid_begun meaning.observable state e.engine.trees.log (cells_of e.engine.trees) (has_tree_of e.engine.trees) (fitting e.engine.trees) e.engine.kept.since e.written.by_txn.entries st a may.sound may.left refl (may.at.valid may.valid));
        };
        numbered = unnumbered answer after.commits calm;
        fault = leaves.fault ∙ may.valid ∙ ap (λ (b : Bool). cond b (Some Disk) None) (sym (faultless answer calm));
        logged = subst (λ (b : Bool). IsCallStep meaning b e.engine e.engine.trees.log [] []) (sym (faultless answer calm)) (inl (same_buffer e.engine.trees.log, refl, refl));
        near = within_more e (with_begun e last s) [] (near_fewer e s last (omega (arith, owed_new, owed_old, fewer, same)));
      })

  -- ---- it changes nothing

  -- where its transaction has ended
  pub sessions_closed : (s : Sessions) (x : List (ℕ × RecordChange)) (after : Standing) → AreSessionsAt s (ended a (with_locks a (all_got a.txn (needs_in there a call g) st.locks.at) there)) →
      after.fault ≡ st.fault → (AreUnder st.store st.numbers s.cursors → AreUnder after.store after.numbers s.cursors) → after.actives ≡ (ended a there).actives → after.own ≡ st.own → ((n : ℕ) → after.places n ≡ (ended a there).places n) → after.waiting ≡ st.waiting → after.locks ≡ (ended a (with_locks a (all_got a.txn (needs_in there a call g) st.locks.at) there)).locks →
      AreSessionsAt s after
  sessions_closed s x after at fault under actives own places waiting locks = record {
    actives = at.actives ∙ sym actives;
    own = subst (AreCounted s.txns.own.entries) (own_gone a.txn.0 st.own none_yet ∙ sym own) at.own;
    places = record { at = record { each = λ n. at.places.at.each n ∙ sym (places n); apart = at.places.at.apart }; under = under at.places.under };
    waiting = at.waiting ∙ sym waiting;
    locks = subst (λ (l : _). Rattle.sessions.specs.AtStanding.AreLocksAt after.fault s.locks.locks l) (sym locks)
        (subst (λ (f : _). Rattle.sessions.specs.AtStanding.AreLocksAt f s.locks.locks (ended a (with_locks a (all_got a.txn (needs_in there a call g) st.locks.at) there)).locks) (sym fault) at.locks);
  }

  -- the standing behind it
  abbrev pub Ended : Evaluated → Standing
  Ended ev = ended a (with_outcome a call g ev (answered a call g there))

  -- what its answer is, and where its transaction has ended
  pub answered_comes : (s : Sessions) (last line : ℕ) (answer : Answer) → last ≡ next_txn st.last_txn → Rattle.je_answers.specs.Locking.first_blocked a.txn (needs_in there a call g) st.locks.at ≡ None → IsCalm answer →
      outcome_alone (alone_in st) session call ≡ answers answer → AreSessionsAt s (ended a (with_locks a (all_got a.txn (needs_in there a call g) st.locks.at) there)) →
      HasCome meaning most e (with_begun e last s) st session line call answer []
  answered_comes s last line answer last_is free calm plan at =
      let ev : Evaluated = evaluated_on call g in
      let both : outcome_on call (Some g) ≡ answers answer = sym plan_is ∙ plan in
      let answer_is : answer ≡ ev.answer = sym (ap (λ (o : Outcome). o.answer) both) in
      let none : ev.changes ≡ [] = none_on g ev.changes (ap (λ (o : Outcome). o.changes) both) in
      come_ready meaning most e (with_begun e last s) st session line call g answer may.db ev may.records may.late may.outside may.target free evaluates
      (by_changes ev ev.changes refl none answer_is)
    where
      back_own : (more : List (ℕ × RecordChange)) → Rattle.je_answers.specs.Standing.with_at a.txn.0 [] (Rattle.je_answers.specs.Standing.with_at a.txn.0 (st.own a.txn.0 ++ more) st.own) ≡ st.own
      back_own more = own_back a.txn.0 (st.own a.txn.0 ++ more) st.own none_yet

      back_actives : (ended a there).actives ≡ st.actives
      back_actives = back session st.actives a refl may.outside

      empty : (ev : Evaluated) → answer ≡ ev.answer → Evaluates meaning most e (with_begun e last s) st session call g answer (record { answer = ev.answer; answered = ev.answered; changes = []; place = ev.place })
      empty ev is =
          let none : Evaluated = record { answer = ev.answer; answered = ev.answered; changes = []; place = ev.place } in
          let after : Standing = Ended none in
          let leaves : LeavesSame (record st { last_txn = last }) after =
          same_leaves (record st { last_txn = last }) after refl refl (sym last_is) refl refl refl refl (back_own []) back_actives in
          let stands = sessions_closed s [] after at refl (λ u. u) refl (back_own []) (gone_again a.session (moved call ev.place (st.places a.session)) st.places) refl refl in
          let owed_new = owed_is s after stands in
          let owed_old = owed_is e.sessions st may.at.sessions_at in
          let fewer : owing after ≤ owing st = leaves.owing in
          record {
            limit = None;
            has_limit = refl;
            answers = (is, refl);
            here = drawn_after most meaning e s last st after (omega (arith, last_is, next)) leaves stands may.at.apart may.at;
            numbered = unnumbered answer after.commits calm;
            fault = may.valid ∙ ap (λ (b : Bool). cond b (Some Disk) None) (sym (faultless answer calm));
            logged = subst (λ (b : Bool). IsCallStep meaning b e.engine e.engine.trees.log [] []) (sym (faultless answer calm)) (inl (same_buffer e.engine.trees.log, refl, refl));
            near = within_more e (with_begun e last s) [] (near_fewer e s last (omega (arith, owed_new, owed_old, fewer)));
          }

      by_changes : (ev : Evaluated) (cs : List RecordChange) → ev.changes ≡ cs → cs ≡ [] → answer ≡ ev.answer → Evaluates meaning most e (with_begun e last s) st session call g answer ev
      by_changes ev cs is none told =
          subst (λ (l : List RecordChange). Evaluates meaning most e (with_begun e last s) st session call g answer (record { answer = ev.answer; answered = ev.answered; changes = l; place = ev.place })) (sym (is ∙ none)) (empty ev told)

  -- ---- there is no memory

  pub not_come : (s : Sessions) → AreSessionsAt s st → HasNotCome meaning most e (Rattle.environment.specs.Auto.with_sessions s e) st
  not_come s at =
      let owed_new = owed_is s st at in
      let owed_old = owed_is e.sessions st may.at.sessions_at in
      record {
        here = record {
          file_max = may.at.file_max;
          fault = may.at.fault;
          last_txn = may.at.last_txn;
          last_db = may.at.last_db;
          commits = may.at.commits;
          totals = may.at.totals;
          sessions_at = at;
          apart = may.at.apart;
          checkpoint = may.at.checkpoint;
          databases = may.at.databases;
          valid = may.at.valid;
        };
        log = same_buffer e.engine.trees.log;
        near = near_fewer e s e.engine.kept.last_txn (omega (arith, owed_new, owed_old));
      }

-- what it comes to where no limit is asked
pub outcome_is_auto : {D : Type 0} (meaning : DiskMeaning D) (most : ℕ) (e : Environment D) (st : Standing) (session : ℕ) (call : Call) (g : Target) → IsAutoAt most meaning e st session call g →
    outcome_alone (alone_in st) session call ≡ record { answer = (outcome_auto st session call g).answer; changes = with_names (changes_auto st session call g) }
outcome_is_auto {D} meaning most e st session call g may =
    let none = none_yet meaning most e st session call g may in
    let same : outcome_auto st session call g ≡ evaluated_on call g = outcome_is st session call g none in
    let seen : with_names (changes_auto st session call g) ≡ changes_of_call g (outcome_auto st session call g).changes =
    ap (λ (own : List (ℕ × RecordChange)). with_names (all_changes g.over (g.db, g.database) g.indexes (λ d. all_pairs_changed d.1.kind (of_db d.0 own) d.1.pairs) (outcome_auto st session call g).changes)) none in
    plan_is meaning most e st session call g may
    ∙ sym (ap₂ (λ (a : Answer) (l : List Change). let o : Outcome = record { answer = a; changes = l } in o) (ap (λ (v : Evaluated). v.answer) same) (seen ∙ ap (λ (v : Evaluated). changes_of_call g v.changes) same))

-- what is far of no memory is said of the result
pub near_by : {D : Type 0} (meaning : DiskMeaning D) (most : ℕ) (old new : Environment D) (st : Standing) (session line : ℕ) (call : Call) (result : Result Told AllocError) →
    ComesTo meaning most old new st session line call result → OnErr result (IsWithin (reach_of new) (reach_of old))
near_by meaning most old new st session line call (Ok o) comes = tt
near_by meaning most old new st session line call (Err error) comes = comes.near

-- a calm answer is no fault of the disk
pub calm_so : (before after : ℕ) (o : Told) → IsCalm o.answer → after ≡ before → HasCause before after (Ok o)
calm_so before after o calm same = record {
  never_falls = omega (arith, same);
  fault = λ fault. absurd (true≢false (ap is_disk_fault (sym fault) ∙ faultless o.answer calm));
}

-- an error says that there was no memory
pub errs_come : {D : Type 0} (meaning : DiskMeaning D) (most : ℕ) (old new : Environment D) (st : Standing) (session line : ℕ) (call : Call) (result : Result Told AllocError) →
    IsErr result → HasNotCome meaning most old new st → ComesTo meaning most old new st session line call result
errs_come meaning most old new st session line call (Ok o) is h = absurd cc
errs_come meaning most old new st session line call (Err error) is h = h
