-- A call that waited, is a transaction of its own, and changes something.
use Rattle.std.specs.Prelude.{is_some}
use Rattle.std.proofs.Common.{◌≡◌, ◌≢◌, ◌∙◌, ◌⊎◌, inl, inr, ℕ, zero, suc, ◌+◌, ◌≤◌, Bool, true, false, cond, List, [], ◌∷◌, ◌++◌, count_by, length, map, Ok, Option, None, Some, refl, ap, ap₂, sym, subst, arith}
use Rattle.std.proofs.lemmas.Bool.{eq-eqb}
use Rattle.std.proofs.lemmas.List.{append-nil, length-map}
use Rattle.std.specs.List.{AllByRecursion}
use Rattle.je_disk.specs.DiskMeaning.{DiskMeaning}
use Rattle.store_model.specs.declared.answer.Answer.{Answer}
use Rattle.store_model.specs.declared.answer.Answer.TheVariants.{Logged, LogFull, IdsEnded, DiskFault}
use Rattle.store_model.specs.declared.call.Call.{Call}
use Rattle.store_model.specs.declared.change.Change.{Change}
use Rattle.store_model.specs.declared.record_change.RecordChange.{RecordChange}
use Rattle.store_model.specs.declared.victim.Victim.{Victim}
use Rattle.store_model.specs.Records.{Evaluated}
use Rattle.je_answers.specs.declared.active.Active.{Active}
use Rattle.je_answers.specs.Standing.{Standing, active_of}
use Rattle.je_answers.specs.Views.{Target, changes_named, changes_with, needs_in, outcome_of, with_names, with_numbers}
use Rattle.je_answers.proofs.SameViews.{answered_changes}
use Rattle.je_answers.specs.Events.{IsLogged, log_limit}
use Rattle.je_answers.specs.After.{after_fate, answered, closed, ended, fate_of, faulted, with_locks}
use Rattle.je_answers.specs.After.{committed as committed_to}
use Rattle.je_answers.specs.After.Fate.{Succeeds}
use Rattle.je_answers.specs.Journal.{changes_closed}
use Rattle.je_order.specs.declared.txn_id.TxnId.{TxnId}
use Rattle.log_entry.specs.declared.entry.Entry.{Entry}
use Rattle.log_entry.specs.declared.entry.Entry.TheVariants.{Commit as Committed}
use Rattle.record_tree.specs.Logged.{LogsChanges}
use Rattle.engine.specs.declared.engine.Engine.{Engine}
use Rattle.log_file.specs.Log.{Log}
use Rattle.log_buffer.specs.declared.buffer.LogBuffer.{LogBuffer}
use Rattle.log_buffer.specs.Buffer.{IsUnchanged, end_of, file_max_of}
use Rattle.log_buffer.specs.declared.log_pos.LogPos.{LogPos}
use Rattle.log_buffer.specs.Flip.{end_after_all}
use Rattle.log_entry.specs.Encoding.{size_of}
use Rattle.log_buffer.specs.Growth.{Grew, log_with_all, longer}
use Rattle.log_buffer.proofs.GrowthLaws.{grew_then, grew_unchanged, tried_then, with_all-append}
use Rattle.crash_recovery.specs.Recovery.{RecoversLog}
use Rattle.standing_laws.specs.Right.{AreNumbered, txn_id}
use Rattle.engine.proofs.CalmAnswers.{IsCalm}
use Rattle.engine.specs.Limits.{IsWithin, reach_after}
use Rattle.environment.specs.declared.environment.Environment.{Environment}
use Rattle.environment.specs.declared.wrote.Wrote.{Wrote}
use Rattle.environment.specs.declared.wrote.Wrote.TheVariants.{Done, Full, NoNumbers, Failed}
use Rattle.active_txns.specs.Own.{is_set}
use Rattle.environment.specs.Committing.{HasNotSettled, HasSettled}
use Rattle.environment.specs.Ending.{HasAbandoned}
use Rattle.environment.specs.Limits.{owing_with}
use Rattle.environment.specs.OwnEnds.{AreEndedBy, HasPushedAndLogged, answer_for}
use Rattle.environment.specs.Steps.{HasFailedWith, HasGrown, HasLoggedCall, HasStepped, IsCallStep, RecoversWith, StandsAt}
use Rattle.environment.specs.Whole.{HasLimit, reach_of}
use Rattle.environment.specs.Written.{had_at}
use Rattle.environment.proofs.CommitLaws.{failed_then, grown_entries, grown_then, had_within, is_under_way, owing_one, settled, settled_near}
use Rattle.environment.proofs.FinishLaws.{Takes, in_sessions}
use Rattle.environment.proofs.CallChanges.{all_in, names_in}
use Rattle.environment.proofs.ChangeLaws.{Changed}
use Rattle.environment.proofs.RecordAnswers.{calm_outcome, well_outcome}
use Rattle.environment.specs.Valid.{owed_by}
use Rattle.environment.specs.Writing.{WritesOwn}
use Rattle.sessions.specs.AtStanding.{AreSessionsAt, owing, with_own}
use Rattle.sessions.specs.declared.all_sessions.Sessions.{Sessions}
use Rattle.in_tree.specs.Limits.{HasRoomFor, commit_sizes}
use Rattle.in_tree.specs.Observed.{waits_of}
use Rattle.engine.specs.declared.kept.Kept.{Kept}
use Rattle.store_model.specs.Store.{change_in}
use Rattle.environment.proofs.EndingLaws.{abandoned, abandoned_near, found_session}
use Rattle.environment.proofs.EarlyLaws.{told_so}
use Rattle.environment.proofs.OwnEnds.{evaluates_some, owing_pushed, some_evaluated, standing_by, steps_up, with_changes, writes_move}
use Rattle.environment.specs.Access.{AccessesTo, HasAccessed, IsDbAt, IsTakenUp, with_move}
use Rattle.environment.specs.declared.outcome.Outcome.{Outcome}
use Rattle.je_answers.specs.Locking.{all_got}

abbrev Own : Type 0
Own = List (ℕ × RecordChange)

-- ---- answers

relimit : (o : Option Answer) (x due answer : Answer) → IsLogged o x answer → ((answer ≡ x) → (answer ≡ due) ⊎ (answer ≡ DiskFault)) → IsLogged o due answer
relimit None x due answer (inl is) f = f is
relimit None x due answer (inr is) f = inr is
relimit (Some l) x due answer is f = is

logged_well : (limit : Option Answer) (x due : Answer) → fate_of x ≡ Succeeds → IsLogged (log_limit limit) x x → IsLogged (log_limit limit) due due
logged_well None x due well is = inl refl
logged_well (Some LogFull) x due well is = absurd (refused (ap fate_of (sym is) ∙ well))
  where
    refused : fate_of LogFull ≡ Succeeds → ⊥
    refused h = absurd cc
logged_well (Some IdsEnded) x due well is = absurd (refused (ap fate_of (sym is) ∙ well))
  where
    refused : fate_of IdsEnded ≡ Succeeds → ⊥
    refused h = absurd cc
logged_well (Some other) x due well is = inl refl

module _ {D : Type 0} where
  far : (a b c : Environment D) (changes : List Change) → IsWithin (reach_of b) (reach_after (reach_of a) changes) → IsWithin (reach_of c) (reach_of b) → IsWithin (reach_of c) (reach_after (reach_of a) changes)
  far a b c changes first second =
      let f1 = first.file in let n1 = first.node in let f2 = second.file in let n2 = second.node in
      record { file = omega (arith, f1, f2); node = omega (arith, n1, n2) }

module _ {D : Type 0} (meaning : DiskMeaning D) where
  -- ---- a log that grows twice

  longer_then : (x y : LogBuffer D) (a b : List Entry) (log : Log) → file_max_of y ≡ file_max_of x → end_of y ≡ end_after_all (file_max_of x) (end_of x) (map size_of a) → longer y b (longer x a log) ≡ longer x (a ++ b) log
  longer_then x y a b log max end = ap₂ (λ (m : ℕ) (p : LogPos). log_with_all m p b (longer x a log)) max end ∙ sym (with_all-append (file_max_of x) (end_of x) a b log)

  recovers_then : (x y : LogBuffer D) (a b : List Entry) (more : List (List Change)) → Grew meaning x y a → RecoversWith meaning x a [] →
      RecoversWith meaning y b more → RecoversWith meaning x (a ++ b) more
  recovers_then x y a b more grew first second observed log has f o base ts rec =
      subst (λ (l : Log). RecoversLog f o base (ts ++ more) l) (longer_then x y a b log grew.max grew.end)
      (subst (λ (l : List (List Change)). RecoversLog f o base (l ++ more) (longer y b (longer x a log))) (append-nil ts)
      (second observed (longer x a log) (grew.log log has) f o base (ts ++ []) (first observed log has f o base ts rec)))

  none_more : (x y : LogBuffer D) → IsUnchanged x y → HasGrown meaning x y []
  none_more x y un = record {
    entries = [];
    grew = grew_unchanged meaning x y un;
    recovers = λ observed log has f o base ts rec. subst (λ (l : List (List Change)). RecoversLog f o base l log) (sym (append-nil ts)) rec;
  }

  both_grown : (x y z : LogBuffer D) (more : List (List Change)) → HasGrown meaning x y [] → HasGrown meaning y z more →
      HasGrown meaning x z more
  both_grown x y z more first second = record {
    entries = first.entries ++ second.entries;
    grew = grew_then meaning x y z first.entries second.entries first.grew second.grew;
    recovers = recovers_then x y first.entries second.entries more first.grew first.recovers second.recovers;
  }

  -- a Commit behind the entries of changes
  committed_behind : (x : Engine D) (y z : LogBuffer D) (wrote : List (List Change)) (changes : List Change) (txn : TxnId) → HasLoggedCall meaning x y wrote [] txn →
      (second : HasGrown meaning y z (changes ∷ [])) → second.entries ≡ Committed txn ∷ [] → HasLoggedCall meaning x z wrote (changes ∷ []) txn
  unfolding both_grown
  committed_behind x y z wrote changes txn first second is = record {
    grown = both_grown x.trees.log y z (changes ∷ []) first.grown second;
    planned = first.planned;
    rows = first.rows;
    logs = (first.grown.entries, first.logs, ap (λ (l : List Entry). first.grown.entries ++ l) is);
  }

  -- nothing more
  idle_then : (x : Engine D) (y z : LogBuffer D) → IsCallStep meaning false x y [] [] → IsUnchanged y z → IsCallStep meaning false x z [] []
  unfolding both_grown none_more
  idle_then x y z (inl h) same = inr (txn_id 0, record { grown = both_grown x.trees.log y z [] (none_more x.trees.log y h.0) (none_more y z same); planned = []; rows = refl; logs = refl })
  idle_then x y z (inr h) same = inr (
    h.0,
    record {
      grown = both_grown x.trees.log y z [] h.1.grown (none_more y z same);
      planned = h.1.planned;
      rows = h.1.rows;
      logs = subst (LogsChanges h.0 h.1.planned) (sym (append-nil h.1.grown.entries)) h.1.logs;
    },
  )

  -- a log that failed was to commit more, or not
  more_failed : (x y : LogBuffer D) (more : List (List Change)) → HasFailedWith meaning x y [] → HasFailedWith meaning x y more
  more_failed x y more h = record { front = h.front; tried = h.tried; recovers = by h.recovers }
    where
      by : RecoversWith meaning x h.front [] ⊎ RecoversWith meaning x h.front [] →
          RecoversWith meaning x h.front [] ⊎ RecoversWith meaning x h.front more
      by (inl r) = inl r
      by (inr r) = inl r

  both_failed : (x y z : LogBuffer D) (more : List (List Change)) → HasGrown meaning x y [] → HasFailedWith meaning y z more →
      HasFailedWith meaning x z more
  both_failed x y z more first h = record {
    front = first.entries ++ h.front;
    tried = tried_then meaning x y z first.entries h.front first.grew h.tried;
    recovers = by h.recovers;
  }
    where
      by : RecoversWith meaning y h.front [] ⊎ RecoversWith meaning y h.front more →
          RecoversWith meaning x (first.entries ++ h.front) [] ⊎ RecoversWith meaning x (first.entries ++ h.front) more
      by (inl r) = inl (recovers_then x y first.entries h.front [] first.grew first.recovers r)
      by (inr r) = inr (recovers_then x y first.entries h.front more first.grew first.recovers r)

  module _ (most : ℕ) (before old new : Environment D) (st : Standing) (a : Active) (call : Call) (g : Target) (ev : Evaluated) (change : Changed) (more : List Changed) (none : st.fault ≡ None)
      (bare : st.own a.txn.0 ≡ []) (its : active_of a.session st.actives ≡ Some a) (each : AllByRecursion (λ (c : Changed). IsDbAt st c.0) (change ∷ more)) (auto : a.is_auto ≡ true) (calm : IsCalm ev.answer)
      (well : fate_of ev.answer ≡ Succeeds) where
    abbrev cs : List Changed
    cs = change ∷ more

    some : with_numbers cs ≢ []
    some is = absurd cc

    abbrev all_ : List Change
    all_ = with_names cs

    abbrev then_ : Standing
    then_ = with_changes a call ev.place (with_numbers cs) (answered a call g st)

    abbrev Autos : (Bool → Standing) → Answer → Bool → Type 0
    Autos after answer is =
        HasStepped meaning most before new (owing_with (Some a) st) all_ (changes_closed is all_)
        (λ limit. IsLogged (log_limit limit) (cond is (Logged (st.commits + 1)) ev.answer) answer × (◌≡◌ {A = List Victim} [] [])) (after is) answer

    abbrev AutosOld : (Bool → Standing) → Answer → Bool → Type 0
    AutosOld after answer is =
        HasStepped meaning most before old (owing_with (Some a) st) all_ (changes_closed is all_)
        (λ limit. IsLogged (log_limit limit) (cond is (Logged (st.commits + 1)) ev.answer) answer × (◌≡◌ {A = List Victim} [] [])) (after is) answer

    abbrev Ends : (Bool → Standing) → Answer → Type 0
    Ends after answer = Autos after answer a.is_auto

    abbrev Up : Wrote → Type 0
    Up wrote =
        HasStepped meaning most before old (owing_with (Some a) st) all_ [] (λ limit. IsLogged (log_limit limit) ev.answer (answer_for wrote ev.answer)) (standing_by st a call g ev.place cs wrote) (answer_for wrote ev.answer)

    own_then : then_.own a.txn.0 ≡ with_numbers cs
    own_then = ap (λ (b : Bool). cond b (st.own a.txn.0 ++ with_numbers cs) (st.own a.txn.0)) (eq-eqb a.txn.0 a.txn.0 refl) ∙ ap (λ (l : Own). l ++ with_numbers cs) bare

    some_then : then_.own a.txn.0 ≢ []
    some_then h = some (sym own_then ∙ h)

    named : changes_named then_ (then_.own a.txn.0) ≡ all_
    named = ap (changes_named then_) own_then ∙ names_in st cs each

    pub ends_done : (records : ℕ) → Up Done → HasLoggedCall meaning before.engine old.engine.trees.log (all_ ∷ []) [] a.txn → HasSettled meaning old new a.session a.txn records →
        records + had_at a.txn old.written.by_txn.entries ≡ old.engine.kept.totals.records + count_by (λ (c : ℕ × RecordChange). is_set c.1) (then_.own a.txn.0) →
        Ends (λ b. closed b a all_ then_) (Logged (st.commits + 1))
    ends_done records w logs h sum = subst (Autos (λ b. closed b a all_ then_) (Logged (st.commits + 1))) (sym auto) (record {
      limit = w.limit;
      has_limit = w.has_limit;
      answers = (logged_well w.limit ev.answer (Logged (st.commits + 1)) well w.answers, refl);
      here = subst (λ (l : List Change). StandsAt most meaning new (ended a (committed_to l then_))) named
          (settled meaning old new then_ a records most h its some_then sum none w.here);
      numbered = refl;
      fault = none;
      logged = inr (
        a.txn,
        subst (λ (l : List Change). HasLoggedCall meaning before.engine new.engine.trees.log (all_ ∷ []) (l ∷ []) a.txn) named
            (committed_behind before.engine old.engine.trees.log new.engine.trees.log (all_ ∷ []) (changes_named then_ (then_.own a.txn.0)) a.txn logs
            (grown_then meaning old new then_ a records (w.here.valid none) h its)
            (grown_entries meaning old new then_ a records (w.here.valid none) h its)),
      );
      near = far before old new all_ w.near (settled_near meaning old new then_ a records h its some_then w.here.sessions_at (w.here.valid none).works);
    })

    pub ends_full : Up Full → HasAbandoned old new a.session a.txn → AreNumbered st.last_txn st.actives → Ends (λ b. closed b a [] (answered a call g st)) LogFull
    ends_full w h numbers = subst (Autos (λ b. closed b a [] (answered a call g st)) LogFull) (sym auto) (record {
      limit = w.limit;
      has_limit = w.has_limit;
      answers = (relimit (log_limit w.limit) ev.answer (Logged (st.commits + 1)) LogFull w.answers (λ is. absurd (refused (ap fate_of is ∙ well))), refl);
      here = abandoned most meaning old new (answered a call g st) a h its (λ calm. numbers) w.here;
      numbered = tt;
      fault = none;
      logged = idle_then before.engine old.engine.trees.log new.engine.trees.log w.logged h.log;
      near = far before old new all_ w.near (abandoned_near most meaning old new (answered a call g st) a h w.here.sessions_at);
    })
      where
        refused : fate_of LogFull ≡ Succeeds → ⊥
        refused h = absurd cc

    pub ends_numbers : Up NoNumbers → HasAbandoned old new a.session a.txn → AreNumbered st.last_txn st.actives → Ends (λ b. closed b a [] (answered a call g st)) IdsEnded
    ends_numbers w h numbers = subst (Autos (λ b. closed b a [] (answered a call g st)) IdsEnded) (sym auto) (record {
      limit = w.limit;
      has_limit = w.has_limit;
      answers = (relimit (log_limit w.limit) ev.answer (Logged (st.commits + 1)) IdsEnded w.answers (λ is. absurd (refused (ap fate_of is ∙ well))), refl);
      here = abandoned most meaning old new (answered a call g st) a h its (λ calm. numbers) w.here;
      numbered = tt;
      fault = none;
      logged = idle_then before.engine old.engine.trees.log new.engine.trees.log w.logged h.log;
      near = far before old new all_ w.near (abandoned_near most meaning old new (answered a call g st) a h w.here.sessions_at);
    })
      where
        refused : fate_of IdsEnded ≡ Succeeds → ⊥
        refused h = absurd cc

    pub ends_failed : Up Failed → AutosOld (λ b. faulted st) DiskFault a.is_auto
    ends_failed w = subst (AutosOld (λ b. faulted st) DiskFault) (sym auto) (record {
      limit = w.limit;
      has_limit = w.has_limit;
      answers = (relimit (log_limit w.limit) ev.answer (Logged (st.commits + 1)) DiskFault w.answers (λ is. inr refl), refl);
      here = w.here;
      numbered = tt;
      fault = refl;
      logged = more_failed before.engine.trees.log old.engine.trees.log (all_ ∷ []) w.logged;
      near = w.near;
    })

    -- its changes are logged, and the disk fails while its Commit is
    abbrev own_ : Standing
    own_ = with_own a.txn.0 (with_numbers cs) st

    own_own : own_.own a.txn.0 ≡ with_numbers cs
    own_own = own_then

    named_own : changes_named own_ (own_.own a.txn.0) ≡ all_
    named_own = ap (changes_named own_) own_own ∙ names_in st cs each

    abbrev Logs : Type 0
    Logs = WritesOwn meaning before old st a.txn.0 cs (owing own_) (Ok Done)

    count_ : length all_ ≡ length cs
    count_ = length-map cs (λ c. change_in c.0.1.name c.1)

    pub ends_unsettled : (s : Sessions) → StandsAt most meaning before st → Logs → HasNotSettled meaning old new a.txn → AreSessionsAt s st → owing own_ ≡ owing_with (Some a) st →
        HasStepped meaning most before (in_sessions s new) (owing_with (Some a) st) all_ (changes_closed a.is_auto all_)
        (λ limit. IsLogged (log_limit limit) (cond a.is_auto (Logged (st.commits + 1)) ev.answer) DiskFault × (◌≡◌ {A = List Victim} [] [])) (faulted st) DiskFault
    ends_unsettled s here w h stands owes =
        subst (λ (is : Bool).
        HasStepped meaning most before (in_sessions s new) (owing_with (Some a) st) all_ (changes_closed is all_)
        (λ limit. IsLogged (log_limit limit) (cond is (Logged (st.commits + 1)) ev.answer) DiskFault × (◌≡◌ {A = List Victim} [] [])) (faulted st) DiskFault) (sym auto) (record {
          limit = None;
          has_limit = subst (λ (owed : ℕ). HasLimit before owed all_ None) owes w.2;
          answers = (inr refl, refl);
          here = record {
            file_max = h.tried.tried.max ∙ w.3 ∙ here.file_max;
            fault = ap (λ (k : Kept). k.fault) h.kept;
            last_txn = ap (λ (k : Kept). k.last_txn) h.kept ∙ ap (λ (k : Kept). k.last_txn) w.4 ∙ here.last_txn;
            last_db = ap (λ (k : Kept). k.last_db) h.kept ∙ ap (λ (k : Kept). k.last_db) w.4 ∙ here.last_db;
            commits = ap (λ (k : Kept). k.commits) h.kept ∙ ap (λ (k : Kept). k.commits) w.4 ∙ here.commits;
            totals = ap (λ (k : Kept). k.totals) h.kept ∙ ap (λ (k : Kept). k.totals) w.4 ∙ here.totals;
            sessions_at = record { actives = stands.actives; own = stands.own; places = stands.places; waiting = stands.waiting; locks = tt };
            apart = here.apart;
            checkpoint = ap (λ (k : Kept). is_some k.checkpoints.under_way) h.kept ∙ ap (λ (k : Kept). is_some k.checkpoints.under_way) w.4 ∙ here.checkpoint;
            databases = λ calm. absurd cc;
            valid = λ calm. absurd cc;
          };
          numbered = tt;
          fault = refl;
          logged = both_failed before.engine.trees.log old.engine.trees.log new.engine.trees.log (all_ ∷ []) w.1.grown
              (subst (λ (l : List Change). HasFailedWith meaning old.engine.trees.log new.engine.trees.log (l ∷ [])) named_own
              (failed_then meaning old new own_ a 0 w.0 h its));
          near = record {
            file = let k = ap (λ (b : Bool). cond b 0 ((end_of new.engine.trees.log).file + waits_of new.engine.trees + owed_by s)) h.tried.tried.failed in omega (arith, k);
            node = let k = ap (λ (k : Kept). k.last_node) h.kept in let l = ap (λ (k : Kept). k.last_node) w.4 in let n = count_ in omega (arith, k, l, n);
          };
        })

    pub room_again : Logs → (owed : ℕ) × HasRoomFor old.engine.trees.log (commit_sizes (suc owed))
    room_again w = by (owing own_) refl
      where
        one : owing (ended a own_) + 1 ≤ owing own_
        one = owing_one own_ a its some_then

        by : (n : ℕ) → owing own_ ≡ n → (owed : ℕ) × HasRoomFor old.engine.trees.log (commit_sizes (suc owed))
        by zero e = absurd (omega (arith, one, e))
        by (suc n) e = (n, w.0.room n e)

    -- so many of its names had a record at most
    pub had_again : Logs → StandsAt most meaning before st → had_at a.txn old.written.by_txn.entries ≤ before.engine.kept.totals.records + count_by (λ (c : ℕ × RecordChange). is_set c.1) (with_numbers cs)
    had_again w here =
        let k = had_within meaning old new own_ a 0 w.0 (ap (λ (k : Kept). k.totals) w.4 ∙ here.totals) in
        let l = ap (λ (k : Kept). k.totals.records) w.4 in
        let n = ap (λ (l : Own). count_by (λ (c : ℕ × RecordChange). is_set c.1) l) own_own in
        omega (arith, k, l, n)

    pub sum_again : (records : ℕ) → Logs → records + had_at a.txn old.written.by_txn.entries ≡ before.engine.kept.totals.records + count_by (λ (c : ℕ × RecordChange). is_set c.1) (with_numbers cs) →
        records + had_at a.txn old.written.by_txn.entries ≡ old.engine.kept.totals.records + count_by (λ (c : ℕ × RecordChange). is_set c.1) (then_.own a.txn.0)
    sum_again records w sum =
        let l = ap (λ (k : Kept). k.totals.records) w.4 in
        let n = ap (λ (l : Own). count_by (λ (c : ℕ × RecordChange). is_set c.1) l) own_then in
        omega (arith, sum, l, n)

  -- ---- from where the call got its locks

  module _ (before e : Environment D) (most session line : ℕ) (st : Standing) (a : Active) (call : Call) (g : Target) (answer : Answer) (changes : Own)
      (up : IsTakenUp meaning most before e st session a call g answer changes) (bare : st.own a.txn.0 ≡ []) (auto : a.is_auto ≡ true) (filled : changes ≢ []) where
    abbrev outcome_ : Evaluated
    outcome_ = outcome_of st a call g

    abbrev cs_ : List Changed
    cs_ = changes_with st a g outcome_.changes

    calm_ : IsCalm outcome_.answer
    calm_ = calm_outcome st a call g up.records

    well_ : fate_of outcome_.answer ≡ Succeeds
    well_ = well_outcome st a call g up.records

    its_ : active_of a.session st.actives ≡ Some a
    its_ = ap (λ (n : ℕ). active_of n st.actives) (found_session session a st.actives up.its) ∙ up.its

    each_ : AllByRecursion (λ (c : Changed). IsDbAt st c.0) cs_
    each_ = all_in st a g outcome_.changes up.on

    some_ : with_numbers cs_ ≢ []
    some_ is = filled (up.changes_are ∙ is)

    -- by the first of them
    by_first : (P : List Changed → Type 0) → ((c : Changed) (l : List Changed) → cs_ ≡ c ∷ l → P (c ∷ l)) → P cs_
    by_first P each = by cs_ refl
      where
        by : (l : List Changed) → cs_ ≡ l → P cs_
        by [] is = absurd (some_ (ap with_numbers is))
        by (c ∷ l) is = subst P (sym is) (each c l is)

    each_as : (c : Changed) (l : List Changed) → cs_ ≡ c ∷ l → AllByRecursion (λ (x : Changed). IsDbAt st x.0) (c ∷ l)
    each_as c l is = subst (AllByRecursion (λ (x : Changed). IsDbAt st x.0)) is each_

    -- what is told of it
    wraps : (new : Environment D) (told : Answer) (o : Outcome) → o.answer ≡ told → o.victims ≡ [] →
        HasStepped meaning most before new (owing_with (Some a) st) (with_names cs_) (changes_closed a.is_auto (with_names cs_))
        (λ limit. IsLogged (log_limit limit) (cond a.is_auto (Logged (st.commits + 1)) outcome_.answer) told × (◌≡◌ {A = List Victim} [] [])) (after_fate (fate_of told) st st a call g outcome_) told →
        AccessesTo meaning most before new st a line call g (Ok o)
    wraps new told o is alone h =
        told_so (HasAccessed meaning most before new st a line call g) o told is alone
        (subst (Takes meaning most before new st a line call g told) (sym up.taken.free)
        (evaluates_some meaning most before new st a call g told a.is_auto outcome_ outcome_.changes refl
        (some_evaluated meaning before e most session st a call g answer changes up filled) h))

    abbrev Came : Environment D → Wrote → Type 0
    Came mid wrote = HasPushedAndLogged meaning e mid a (needs_in st a call g) st cs_ (Ok wrote)

    -- its changes were written, before its transaction ends
    up_as : (mid : Environment D) (s : Sessions) (wrote : Wrote) (p : Came mid wrote) → AreEndedBy wrote s a call outcome_.place (needs_in st a call g) p.more st → (c : Changed) (l : List Changed) → cs_ ≡ c ∷ l →
        HasStepped meaning most before (in_sessions s mid) (owing_with (Some a) st) (with_names (c ∷ l)) [] (λ limit. IsLogged (log_limit limit) outcome_.answer (answer_for wrote outcome_.answer))
        (standing_by st a call g outcome_.place (c ∷ l) wrote) (answer_for wrote outcome_.answer)
    up_as mid s wrote p stands c l is =
        subst (λ (m : List Changed). HasStepped meaning most before (in_sessions s mid) (owing_with (Some a) st) (with_names m) []
        (λ limit. IsLogged (log_limit limit) outcome_.answer (answer_for wrote outcome_.answer)) (standing_by st a call g outcome_.place m wrote) (answer_for wrote outcome_.answer)) is
        (steps_up meaning before e most session st a call g answer changes up mid s wrote filled p stands)

    logs_as : (mid : Environment D) → Came mid Done → (c : Changed) (l : List Changed) → cs_ ≡ c ∷ l →
        WritesOwn meaning before mid st a.txn.0 (c ∷ l) (owing (with_own a.txn.0 (with_numbers (c ∷ l)) st)) (Ok Done)
    logs_as mid p c l is =
        subst (λ (m : List Changed). WritesOwn meaning before mid st a.txn.0 m (owing (with_own a.txn.0 (with_numbers m) st)) (Ok Done)) is
        (writes_move meaning e before mid st a.txn.0 cs_ (owing (with_own a.txn.0 (with_numbers cs_) st)) (Ok Done) up.engine p.writes)

    -- where it ends so
    abbrev Ends_ : Environment D → Answer → (List Changed → Standing) → List Changed → Type 0
    Ends_ new told after l =
        HasStepped meaning most before new (owing_with (Some a) st) (with_names l) (changes_closed a.is_auto (with_names l))
        (λ limit. IsLogged (log_limit limit) (cond a.is_auto (Logged (st.commits + 1)) outcome_.answer) told × (◌≡◌ {A = List Victim} [] [])) (after l) told

    counts_ : count_by (λ (c : ℕ × RecordChange). is_set c.1) changes ≡ count_by (λ (c : ℕ × RecordChange). is_set c.1) (with_numbers cs_)
    counts_ = ap (count_by (λ (c : ℕ × RecordChange). is_set c.1)) up.changes_are

    pub room_now : (mid : Environment D) → Came mid Done → (owed : ℕ) × HasRoomFor mid.engine.trees.log (commit_sizes (suc owed))
    room_now mid p = by_first (λ l. (owed : ℕ) × HasRoomFor mid.engine.trees.log (commit_sizes (suc owed))) (λ c l is. room_again most before mid mid st a call g outcome_ c l up.valid bare its_ (each_as c l is) auto calm_ well_ (logs_as mid p c l is))

    pub had_now : (mid : Environment D) → Came mid Done → had_at a.txn mid.written.by_txn.entries ≤ before.engine.kept.totals.records + count_by (λ (c : ℕ × RecordChange). is_set c.1) changes
    had_now mid p =
        let had = by_first (λ l. had_at a.txn mid.written.by_txn.entries ≤ before.engine.kept.totals.records + count_by (λ (x : ℕ × RecordChange). is_set x.1) (with_numbers l)) (λ c l is. had_again most before mid mid st a call g outcome_ c l up.valid bare its_ (each_as c l is) auto calm_ well_ (logs_as mid p c l is) up.here) in
        let same = counts_ in
        omega (arith, had, same)

    pub accesses_done : (mid new : Environment D) (s : Sessions) (records : ℕ) (o : Outcome) (p : Came mid Done) →
        AreSessionsAt s (with_move a call outcome_.place (with_locks a (all_got a.txn (needs_in st a call g) st.locks.at) (with_own a.txn.0 p.more st))) →
        HasSettled meaning (in_sessions s mid) new session a.txn records →
        records + had_at a.txn mid.written.by_txn.entries ≡ before.engine.kept.totals.records + count_by (λ (c : ℕ × RecordChange). is_set c.1) changes → o.answer ≡ Logged (st.commits + 1) → o.victims ≡ [] →
        AccessesTo meaning most before new st a line call g (Ok o)
    accesses_done mid new s records o p stands h sum told alone = wraps new (Logged (st.commits + 1)) o told alone
        (subst (λ (l : List Changed). HasStepped meaning most before new (owing_with (Some a) st) (with_names cs_) (changes_closed a.is_auto (with_names cs_))
        (λ limit. IsLogged (log_limit limit) (cond a.is_auto (Logged (st.commits + 1)) outcome_.answer) (Logged (st.commits + 1)) × (◌≡◌ {A = List Victim} [] []))
        (closed a.is_auto a (with_names cs_) (with_changes a call outcome_.place (with_numbers l) (answered a call g st))) (Logged (st.commits + 1))) (sym (answered_changes st a call g outcome_.changes))
        (by_first (Ends_ new (Logged (st.commits + 1)) (λ l. closed a.is_auto a (with_names l) (with_changes a call outcome_.place (with_numbers l) (answered a call g st)))) (λ c l is. ends_done most before (in_sessions s mid) new st a call g outcome_ c l up.valid bare its_ (each_as c l is) auto calm_ well_ records (up_as mid s Done p stands c l is) (logs_as mid p c l is).1
        (subst (λ (n : ℕ). HasSettled meaning (in_sessions s mid) new n a.txn records) (sym (found_session session a st.actives up.its)) h)
        (sum_again most before mid mid st a call g outcome_ c l up.valid bare its_ (each_as c l is) auto calm_ well_ records (logs_as mid p c l is) (sum ∙ ap (λ (n : ℕ). before.engine.kept.totals.records + n) (counts_ ∙ ap (λ (m : List Changed). count_by (λ (x : ℕ × RecordChange). is_set x.1) (with_numbers m)) is))))))

    pub accesses_unsettled : (mid new : Environment D) (s : Sessions) (o : Outcome) → Came mid Done → HasNotSettled meaning mid new a.txn → AreSessionsAt s st → o.answer ≡ DiskFault →
        o.victims ≡ [] → AccessesTo meaning most before (in_sessions s new) st a line call g (Ok o)
    accesses_unsettled mid new s o p h stands told alone = wraps (in_sessions s new) DiskFault o told alone
        (by_first (Ends_ (in_sessions s new) DiskFault (λ l. faulted st)) (λ c l is. ends_unsettled most before mid new st a call g outcome_ c l up.valid bare its_ (each_as c l is) auto calm_ well_ s up.here (logs_as mid p c l is) h stands
        (owing_pushed st a (with_numbers (c ∷ l)) (λ e. absurd cc) up.sound.numbers (is_under_way session a st.actives up.its))))

    pub accesses_full : (mid new : Environment D) (s : Sessions) (o : Outcome) → Came mid Full → AreSessionsAt s (with_locks a (all_got a.txn (needs_in st a call g) st.locks.at) st) → HasAbandoned (in_sessions s mid) new session a.txn →
        o.answer ≡ LogFull → o.victims ≡ [] → AccessesTo meaning most before new st a line call g (Ok o)
    accesses_full mid new s o p stands h told alone = wraps new LogFull o told alone
        (by_first (Ends_ new LogFull (λ l. closed a.is_auto a [] (answered a call g st))) (λ c l is. ends_full most before (in_sessions s mid) new st a call g outcome_ c l up.valid bare its_ (each_as c l is) auto calm_ well_ (up_as mid s Full p stands c l is)
        (subst (λ (n : ℕ). HasAbandoned (in_sessions s mid) new n a.txn) (sym (found_session session a st.actives up.its)) h) up.sound.numbers))

    pub accesses_numbers : (mid new : Environment D) (s : Sessions) (o : Outcome) → Came mid NoNumbers → AreSessionsAt s (with_locks a (all_got a.txn (needs_in st a call g) st.locks.at) st) →
        HasAbandoned (in_sessions s mid) new session a.txn → o.answer ≡ IdsEnded → o.victims ≡ [] → AccessesTo meaning most before new st a line call g (Ok o)
    accesses_numbers mid new s o p stands h told alone = wraps new IdsEnded o told alone
        (by_first (Ends_ new IdsEnded (λ l. closed a.is_auto a [] (answered a call g st))) (λ c l is. ends_numbers most before (in_sessions s mid) new st a call g outcome_ c l up.valid bare its_ (each_as c l is) auto calm_ well_ (up_as mid s NoNumbers p stands c l is)
        (subst (λ (n : ℕ). HasAbandoned (in_sessions s mid) new n a.txn) (sym (found_session session a st.actives up.its)) h) up.sound.numbers))

    pub accesses_failed : (mid : Environment D) (s : Sessions) (o : Outcome) → Came mid Failed → AreSessionsAt s st → o.answer ≡ DiskFault → o.victims ≡ [] →
        AccessesTo meaning most before (in_sessions s mid) st a line call g (Ok o)
    accesses_failed mid s o p stands told alone = wraps (in_sessions s mid) DiskFault o told alone
        (by_first (Ends_ (in_sessions s mid) DiskFault (λ l. faulted st)) (λ c l is. ends_failed most before (in_sessions s mid) (in_sessions s mid) st a call g outcome_ c l up.valid bare its_ (each_as c l is) auto calm_ well_ (up_as mid s Failed p stands c l is)))
