-- A call on records in a transaction.
use Rattle.std.proofs.Common.{◌≡◌, ◌∙◌, ℕ, ◌≤◌, ◌+◌, Bool, true, false, cond, List, [], Option, None, Some, Result, Ok, Err, OnErr, refl, ap, sym, subst, arith, inl}
use Rattle.std.specs.declared.alloc.AllocError.{AllocError}
use Rattle.je_disk.specs.DiskMeaning.{DiskMeaning}
use Rattle.je_disk.specs.Moments.{now}
use Rattle.store_model.specs.declared.answer.Answer.{Answer}
use Rattle.store_model.specs.declared.call.Call.{Call}
use Rattle.store_model.specs.declared.call.Call.TheVariants.{Get, GetBoth, Put, Delete, Count, Cur, CPutCur, CDel, CPut}
use Rattle.store_model.specs.declared.victim.Victim.{Victim}
use Rattle.je_answers.specs.declared.active.Active.{Active}
use Rattle.je_answers.specs.Standing.{Standing, active_of}
use Rattle.je_answers.specs.Views.{Target}
use Rattle.je_answers.specs.Events.{IsEvaluated, IsOn, IsPerformed, IsRun}
use Rattle.je_answers.specs.After.{after_evaluated, after_on, after_performed, after_run}
use Rattle.je_answers.specs.Journal.{changes_evaluated, changes_in, changes_performed, changes_run}
use Rattle.db_catalog.specs.declared.found_db.FoundDb.{FoundDb}
use Rattle.log_buffer.specs.Buffer.{end_of, has_failed}
use Rattle.in_tree.specs.Observed.{waits_of}
use Rattle.sessions.specs.declared.all_sessions.Sessions.{Sessions}
use Rattle.sessions.specs.AtStanding.{AreSessionsAt, owing}
use Rattle.engine.specs.Limits.{IsWithin}
use Rattle.environment.proofs.Databases.{known_leaves}
use Rattle.environment.specs.declared.environment.Environment.{Environment}
use Rattle.environment.specs.declared.outcome.Outcome.{Outcome}
use Rattle.environment.specs.Access.{AccessesTo, HasAccessed, IsFoundFor, IsTakenUp}
use Rattle.standing_laws.specs.Right.{AreSound, MayWait}
use Rattle.je_order.specs.declared.name.Name.{Name}
use Rattle.environment.specs.Limits.{owing_after, owing_with, written_evaluated, written_on, written_performed, written_run}
use Rattle.environment.specs.Steps.{ComesTo, HasCome, HasNotCome, HasStepped, StandsAt}
use Rattle.environment.specs.Valid.{owed_by, fitting}
use Rattle.environment.specs.Whole.{reach_of}
use Rattle.environment.proofs.Answering.{owed_is}
use Rattle.std.specs.Prelude.{◌==◌}
use Rattle.std.specs.List.{AllByRecursion}
use Rattle.je_order.specs.declared.txn_id.TxnId.{TxnId}
use Rattle.store_model.specs.declared.answer.Fault.TheVariants.{Disk}
use Rattle.store_model.specs.declared.need.Need.{Need}
use Rattle.je_answers.specs.Locking.{owner_before}
use Rattle.je_answers.specs.Events.{IsStopped, IsTaken, IsWaiting, cycle_of, lock_target, queues_before, waiting_answer}
use Rattle.je_answers.specs.After.{after_stop, after_taking}
use Rattle.je_answers.specs.Journal.{changes_taken}
use Rattle.log_buffer.specs.Buffer.{disk_of as disk_below}
use Rattle.in_tree.specs.Observed.{cells_of, has_tree_of}
use Rattle.txn_core.specs.Known.{committed}
use Rattle.sessions.specs.declared.taken.Taken.{Taken}
use Rattle.sessions.specs.declared.taken.Taken.TheVariants.{Ready, Stopped}
use Rattle.store_model.specs.Refusals.{database_refuses, or_refusal}
use Rattle.je_answers.specs.Refusals.{name_refusal, number_refusal, target_refusal, there_refusal}
use Rattle.store_model.specs.Refusals.{index_refusal}
use Rattle.txn_views.specs.declared.target_plan.TargetPlan.{TargetPlan}
use Rattle.txn_views.specs.Targets.{IsPlanIn}
use Rattle.sessions.specs.Taking.{HasStopped, HasTaken, IfReady, IfStopped}
use Rattle.standing_laws.specs.Right.{HaveOwnWaits}
use Rattle.standing_laws.proofs.Stopped.{LeavesSame, victims_apart, victims_leave}
use Rattle.txn_core.specs.Totals.{totals_of}
use Rattle.engine.proofs.CalmAnswers.{IsCalm, faultless, is_loud, unnumbered}
use Rattle.environment.specs.Calls.{HasCause}
use Rattle.environment.specs.Limits.{written_taken}
use Rattle.environment.specs.Steps.{IsCallStep}
use Rattle.environment.specs.Valid.{AreBare}
use Rattle.environment.proofs.AccessLaws.{calm_cause}
use Rattle.environment.proofs.Answering.{within_more}
use Rattle.environment.proofs.AutoLaws.{valid_leaves}
use Rattle.environment.proofs.EarlyLaws.{same_buffer}
use Rattle.environment.proofs.BesideLaws.{db_there}
use Rattle.environment.proofs.PlanLaws.{on_db}

module _ {D : Type 0} (meaning : DiskMeaning D) where
  -- what a call came to in its session's transaction is what it came to
  module _ (most : ℕ) (old new : Environment D) (st : Standing) (session line : ℕ) (db : List ℕ) (answer : Answer) (victims : List Victim) where
    Performed : Call → Type 0
    Performed call = HasStepped meaning most old new (owing_after st session) (written_performed call st session) (changes_performed call st session)
        (λ limit. IsPerformed call limit st session line answer victims) (after_performed call st session line answer victims) answer

    Run : Call → Option Active → Type 0
    Run call o = HasStepped meaning most old new (owing_with o st) (written_run o st session call) (changes_run o st session call)
        (λ limit. IsRun o limit st session line call answer victims) (after_run o st session line call answer victims) answer

    performed : (call : Call) → MayWait call → Run call (active_of session st.actives) → Performed call
    unfolding Performed Run
    performed (Get name key rmw) is run = run
    performed (GetBoth name key value rmw) is run = run
    performed (Put name key value mode) is run = run
    performed (Delete name key) is run = run
    performed (Count cursor) is run = run
    performed (Cur cursor motion rmw) is run = run
    performed (CPutCur cursor value) is run = run
    performed (CDel cursor) is run = run
    performed (CPut cursor key value mode) is run = run
    performed call is run = absurd is

    pub accessed_comes : (call : Call) (f : FoundDb) (at : Option Name) (g : Target) (a : Active) → IsFoundFor st session call db f at g → MayWait call → active_of session st.actives ≡ Some a →
        HasAccessed meaning most old new st a line call g answer victims → HasCome meaning most old new st session line call answer victims
    unfolding Performed Run
    accessed_comes call f at g a found is its accessed =
        let on : (t : Option Target) → Type 0 = λ t. HasStepped meaning most old new (owing_with (Some a) st) (written_on t st a call) (changes_in t st a call)
        (λ limit. IsOn t limit st a line call answer victims) (after_on t st st a line call answer victims) answer in
        subst (λ (late : Option Answer). HasStepped meaning most old new (owing_after st session) (written_evaluated late st session call) (changes_evaluated late st session call)
        (λ limit. IsEvaluated late limit st session line call answer victims) (after_evaluated late st session line call answer victims) answer) (sym found.late)
        (performed call is (subst (Run call) (sym its) (subst on (sym found.target) accessed)))

  pub accesses_come : (most : ℕ) (old new : Environment D) (st : Standing) (session line : ℕ) (db : List ℕ) (call : Call) (f : FoundDb) (at : Option Name) (g : Target) (a : Active) → IsFoundFor st session call db f at g → MayWait call →
      active_of session st.actives ≡ Some a → (result : Result Outcome AllocError) → AccessesTo meaning most old new st a line call g result →
      ComesTo meaning most old new st session line call result
  accesses_come most old new st session line db call f at g a found is its (Ok o) accessed = accessed_comes most old new st session line db o.answer o.victims call f at g a found is its accessed
  accesses_come most old new st session line db call f at g a found is its (Err error) accessed = accessed

  -- sessions that stand where others stood
  pub stands_with : (most : ℕ) (e : Environment D) (s : Sessions) (st : Standing) → StandsAt most meaning e st → AreSessionsAt s st → StandsAt most meaning (record e { sessions = s }) st
  stands_with most e s st here at = record {
    file_max = here.file_max;
    fault = here.fault;
    last_txn = here.last_txn;
    last_db = here.last_db;
    commits = here.commits;
    totals = here.totals;
    sessions_at = at;
    apart = here.apart;
    checkpoint = here.checkpoint;
    databases = here.databases;
    valid = here.valid;
  }

  pub reach_with : (e : Environment D) (s : Sessions) (st : Standing) → AreSessionsAt e.sessions st → AreSessionsAt s st → IsWithin (reach_of (record e { sessions = s })) (reach_of e)
  reach_with e s st before after =
      let same : owed_by s ≡ owed_by e.sessions = owed_is s st after ∙ sym (owed_is e.sessions st before) in
      record { file = by_failed (has_failed e.engine.trees.log) same; node = omega arith }
    where
      by_failed : (b : Bool) → owed_by s ≡ owed_by e.sessions →
          cond b 0 ((end_of e.engine.trees.log).file + waits_of e.engine.trees + owed_by s) ≤ cond b 0 ((end_of e.engine.trees.log).file + waits_of e.engine.trees + owed_by e.sessions)
      by_failed true same = omega arith
      by_failed false same = omega (arith, same)

  -- there was no memory for its locks
  pub not_taken : (most : ℕ) (e : Environment D) (s : Sessions) (st : Standing) → StandsAt most meaning e st → AreSessionsAt s st →
      HasNotCome meaning most e (record e { sessions = s }) st
  not_taken most e s st here at = record { here = stands_with most e s st here at; log = same_buffer e.engine.trees.log; near = reach_with e s st here.sessions_at at }

-- ---- a call that was stopped

-- its answer is calm
stopped_calm : (w : Bool) (st : Standing) (a : Active) (line : ℕ) (call : Call) (g : Target) (n : Need) (owner : TxnId) (answer : Answer) (victims : List Victim) → IsWaiting w st a line call g n owner answer victims → IsCalm answer
stopped_calm false st a line call g n owner answer victims is = ap is_loud is.0
stopped_calm true st a line call g n owner answer victims is = ap is_loud is.3 ∙ by_cycle (cycle_of a.txn is.0)
  where
    by_cycle : (o : Option (List TxnId)) → is_loud (waiting_answer o (lock_target g n) owner) ≡ false
    by_cycle None = refl
    by_cycle (Some cycle) = refl

any_stopped_calm : (o : Option TxnId) (st : Standing) (a : Active) (line : ℕ) (call : Call) (g : Target) (n : Need) (answer : Answer) (victims : List Victim) → IsStopped o st a line call g n answer victims → IsCalm answer
any_stopped_calm None st a line call g n answer victims is = absurd is
any_stopped_calm (Some owner) st a line call g n answer victims is = stopped_calm a.waits st a line call g n owner answer victims is

-- it leaves all but the sessions as it was
stop_leaves : (w : Bool) (st : Standing) (a : Active) (line : ℕ) (call : Call) (g : Target) (n : Need) (vs : List Victim) → AreBare st → LeavesSame st (after_stop w st a line call g n vs)
stop_leaves false st a line call g n vs bare = record { store = refl; numbers = refl; last_txn = refl; last_db = refl; commits = refl; fault = refl; checkpoint = refl; own = refl; actives = λ t h. h; owing = omega arith }
stop_leaves true st a line call g n vs bare = victims_leave st a line call g n vs bare

stop_apart : (w : Bool) (st : Standing) (a : Active) (line : ℕ) (call : Call) (g : Target) (n : Need) (vs : List Victim) → HaveOwnWaits st.waiting → AllByRecursion (λ v. (v.session == a.session) ≡ false) st.waiting →
    HaveOwnWaits (after_stop w st a line call g n vs).waiting
stop_apart false st a line call g n vs apart others = apart
stop_apart true st a line call g n vs apart others = victims_apart st a line call g n vs apart others

module _ {D : Type 0} (meaning : DiskMeaning D) where
  -- sessions moved, and nothing else
  pub moved_stands : (most : ℕ) (e : Environment D) (s : Sessions) (st after : Standing) → LeavesSame st after → HaveOwnWaits after.waiting → AreSessionsAt s after → StandsAt most meaning e st →
      StandsAt most meaning (record e { sessions = s }) after
  moved_stands most e s st after same apart at here = record {
    file_max = here.file_max;
    fault = here.fault ∙ sym same.fault;
    last_txn = here.last_txn ∙ sym same.last_txn;
    last_db = here.last_db ∙ sym same.last_db;
    commits = here.commits ∙ sym same.commits;
    totals = here.totals ∙ sym (ap totals_of same.store);
    sessions_at = at;
    apart = apart;
    checkpoint = here.checkpoint ∙ sym same.checkpoint;
    databases = λ none. known_leaves st after e.engine.kept same (here.databases (sym same.fault ∙ none));
    valid = λ none. valid_leaves meaning.observable (now (meaning.history (disk_below e.engine.trees.log))) e.engine.trees.log (cells_of e.engine.trees) (has_tree_of e.engine.trees) (fitting e.engine.trees) e.engine.kept.since e.written.by_txn.entries st after same
        (here.valid (sym same.fault ∙ none));
  }

  pub moved_reach : (e : Environment D) (s : Sessions) (st after : Standing) → AreSessionsAt e.sessions st → AreSessionsAt s after → owing after ≤ owing st → IsWithin (reach_of (record e { sessions = s })) (reach_of e)
  moved_reach e s st after before at fewer =
      let old : owed_by e.sessions ≡ owing st = owed_is e.sessions st before in
      let new : owed_by s ≡ owing after = owed_is s after at in
      record { file = by_failed (has_failed e.engine.trees.log) (omega (arith, old, new, fewer)); node = omega arith }
    where
      by_failed : (b : Bool) → owed_by s ≤ owed_by e.sessions →
          cond b 0 ((end_of e.engine.trees.log).file + waits_of e.engine.trees + owed_by s) ≤ cond b 0 ((end_of e.engine.trees.log).file + waits_of e.engine.trees + owed_by e.sessions)
      by_failed true le = omega arith
      by_failed false le = omega (arith, le)

  -- a call that was stopped
  pub stopped_accesses : (most : ℕ) (e : Environment D) (s : Sessions) (st : Standing) (a : Active) (line : ℕ) (call : Call) (g : Target) (answer : Answer) (victims : List Victim) → st.fault ≡ None → AreBare st →
      AllByRecursion (λ v. (v.session == a.session) ≡ false) st.waiting → StandsAt most meaning e st → HasStopped s st a line call g answer victims →
      HasAccessed meaning most e (record e { sessions = s }) st a line call g answer victims
  stopped_accesses most e s st a line call g answer victims none bare others here stop =
      let after : Standing = after_stop a.waits st a line call g stop.need victims in
      let same : LeavesSame st after = stop_leaves a.waits st a line call g stop.need victims bare in
      let calm : IsCalm answer = any_stopped_calm (owner_before a.txn stop.need (queues_before st a call g)) st a line call g stop.need answer victims stop.answers in
      let new : Environment D = record e { sessions = s } in
      subst (λ (need : Option Need). HasStepped meaning most e new (owing_with (Some a) st) (written_taken need st a call g) (changes_taken need st a call g)
      (λ limit. IsTaken need limit st a line call g answer victims) (after_taking need st st a line call g answer victims) answer) (sym stop.first) (record {
        limit = None;
        has_limit = refl;
        answers = stop.answers;
        here = moved_stands most e s st after same (stop_apart a.waits st a line call g stop.need victims here.apart others) stop.stands here;
        numbered = unnumbered answer after.commits calm;
        fault = same.fault ∙ none ∙ ap (λ (b : Bool). cond b (Some Disk) None) (sym (faultless answer calm));
        logged = subst (λ (b : Bool). IsCallStep meaning b e.engine e.engine.trees.log [] []) (sym (faultless answer calm)) (inl (same_buffer e.engine.trees.log, refl, refl));
        near = within_more e new [] (moved_reach e s st after here.sessions_at stop.stands same.owing);
      })

  pub stopped_cause : (before after : ℕ) (o : Outcome) (st : Standing) (a : Active) (line : ℕ) (call : Call) (g : Target) → after ≡ before → (s : Sessions) → HasStopped s st a line call g o.answer o.victims → HasCause before after (Ok o)
  stopped_cause before after o st a line call g same s stop =
      calm_cause before after o o.answer refl (any_stopped_calm (owner_before a.txn stop.need (queues_before st a call g)) st a line call g stop.need o.answer o.victims stop.answers) same

module _ {D : Type 0} (meaning : DiskMeaning D) where
  -- where there was no memory it reaches no farther
  pub accesses_near : (most : ℕ) (old new : Environment D) (st : Standing) (line : ℕ) (call : Call) (g : Target) (a : Active) (result : Result Outcome AllocError) →
      AccessesTo meaning most old new st a line call g result → OnErr result (IsWithin (reach_of new) (reach_of old))
  accesses_near most old new st line call g a (Ok o) accessed = tt
  accesses_near most old new st line call g a (Err error) accessed = accessed.near

-- ---- what its database refuses

or_none : (a b : Option Answer) → or_refusal a b ≡ None → (a ≡ None) × (b ≡ None)
or_none None b is = (refl, is)
or_none (Some x) b is = absurd cc

-- its database does not refuse a call that nothing refuses, whether it is an index or not
pub not_refused_there : (st : Standing) (session : ℕ) (call : Call) (db : List ℕ) (f : FoundDb) (at : Option Name) (g : Target) → IsFoundFor st session call db f at g →
    (index_refusal call g.database.index ≡ None) × (database_refuses g.database.kind call ≡ None)
not_refused_there st session call db f at g found =
    let first = or_none (number_refusal st.last_txn (active_of session st.actives)) _ found.late in
    let second = or_none (there_refusal st session call) _ first.1 in
    let third = or_none (name_refusal st session call) _ second.1 in
    or_none (index_refusal call g.database.index) (database_refuses g.database.kind call) (ap (target_refusal call) (sym found.target) ∙ third.1)

-- ---- what was taken

module _ {D : Type 0} (meaning : DiskMeaning D) where
  -- a call that was planned, and got its locks
  pub taken_up : (most : ℕ) (e : Environment D) (s : Sessions) (st : Standing) (session : ℕ) (a : Active) (call : Call) (db : List ℕ) (f : FoundDb) (at : Option Name) (g : Target) (p : TargetPlan) →
      StandsAt most meaning e st → AreSound st → st.fault ≡ None → IsFoundFor st session call db f at g → active_of session st.actives ≡ Some a → MayWait call →
      IsPlanIn st a call g p → HasTaken s true a p.needs.items st → IsTakenUp meaning most e (record e { sessions = s }) st session a call g p.answer p.changes.items
  taken_up most e s st session a call db f at g p here sound none found its may planned taken = record {
    here = here;
    sound = sound;
    valid = none;
    on = db_there (committed (cells_of e.engine.trees)) st (here.valid none).makes e.engine.kept (here.databases none) db f g (on_db st session call db f at g found);
    its = its;
    records = may;
    plain = (not_refused_there st session call db f at g found).1;
    writes = (not_refused_there st session call db f at g found).0;
    engine = refl;
    written = refl;
    taken = subst (λ (n : List Need). HasTaken s true a n st) planned.needs taken;
    answer_is = planned.answer;
    changes_are = planned.changes;
  }

pub ready_so : (t : Taken) (P : Type 0) → t ≡ Ready → IfReady t P → P
ready_so t P is h = subst (λ (x : Taken). IfReady x P) is h

pub stopped_so : (t : Taken) (P : Answer → List Victim → Type 0) (answer : Answer) (victims : List Victim) → t ≡ Stopped answer victims → IfStopped t P → P answer victims
stopped_so t P answer victims is h = subst (λ (x : Taken). IfStopped x P) is h
