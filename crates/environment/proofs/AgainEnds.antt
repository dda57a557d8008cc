-- How a call ends that waited, is a transaction of its own, and changes something: by what became of its changes.
use Rattle.std.proofs.Common.{◌≡◌, ◌≢◌, ◌∙◌, ℕ, suc, ◌+◌, ◌≤◌, ◌<◌, ◌^◌, true, false, List, [], Ok, count_by, length, ap, sym, subst, arith}
use Rattle.je_disk.specs.DiskMeaning.{DiskMeaning}
use Rattle.je_order.specs.declared.txn_id.TxnId.{TxnId}
use Rattle.store_model.specs.declared.answer.Answer.{Answer}
use Rattle.store_model.specs.declared.answer.Answer.TheVariants.{Logged, LogFull, IdsEnded, DiskFault}
use Rattle.store_model.specs.declared.call.Call.{Call}
use Rattle.store_model.specs.declared.isolation.Isolation.{Isolation}
use Rattle.store_model.specs.declared.need.Need.{Need}
use Rattle.store_model.specs.declared.record_change.RecordChange.{RecordChange}
use Rattle.je_answers.specs.declared.active.Active.{Active}
use Rattle.je_answers.specs.Standing.{Standing}
use Rattle.je_answers.specs.Views.{Target, changes_with, needs_in, outcome_of}
use Rattle.je_answers.specs.Locking.{all_got}
use Rattle.je_answers.specs.After.{ended, with_locks}
use Rattle.log_buffer.specs.Buffer.{has_failed}
use Rattle.in_tree.specs.Limits.{HasRoomFor, commit_sizes}
use Rattle.engine.specs.declared.engine.Engine.{Engine}
use Rattle.engine.specs.declared.kept.Kept.{Kept}
use Rattle.sessions.specs.declared.all_sessions.Sessions.{Sessions}
use Rattle.sessions.specs.AtStanding.{AreSessionsAt, with_own}
use Rattle.sessions.specs.Taking.{HasTaken}
use Rattle.environment.specs.declared.environment.Environment.{Environment}
use Rattle.environment.specs.declared.outcome.Outcome.{Outcome}
use Rattle.environment.specs.declared.wrote.Wrote.{Wrote}
use Rattle.environment.specs.declared.wrote.Wrote.TheVariants.{Done, Full, NoNumbers, Failed}
use Rattle.environment.specs.Access.{HasAccessed, IsTakenUp, with_move}
use Rattle.environment.specs.Again.{HasWrittenAgain}
use Rattle.active_txns.specs.Own.{counted, is_set, none_counted}
use Rattle.environment.specs.Committing.{HasCommittedOwn, HasNotSettled, HasSettled, kept_committed}
use Rattle.environment.specs.Ending.{HasAbandoned}
use Rattle.environment.specs.OwnEnds.{HasPushed, HasPushedAndLogged}
use Rattle.environment.specs.Whole.{CanGoOn}
use Rattle.environment.specs.Writing.{WritesOwn}
use Rattle.environment.specs.Written.{had_at}
use Rattle.environment.proofs.CommitAgain.{accesses_done, accesses_failed, accesses_full, accesses_numbers, accesses_unsettled, had_now, room_now}
use Rattle.environment.proofs.ChangeLaws.{Changed}
use Rattle.environment.proofs.FinishLaws.{in_sessions}
use Rattle.environment.proofs.OwnEnds.{has_pushed}

abbrev Own : Type 0
Own = List (ℕ × RecordChange)

-- it had changed nothing
pub counts_none : (st : Standing) (a : Active) (txn : TxnId) → a.txn ≡ txn → st.own a.txn.0 ≡ [] → none_counted ≡ counted (st.own txn.0)
counts_none st a txn is bare = sym (subst (λ (t : TxnId). counted (st.own t.0) ≡ none_counted) is (ap counted bare))

module _ {D : Type 0} where
  -- the numbers leave room still
  pub can_again : (e : Environment D) (kept : Kept) → e.engine.kept.commits ≡ kept.commits → e.engine.kept.last_txn ≡ kept.last_txn → kept.commits < kept.last_txn → CanGoOn e
  can_again e kept commits last numbers = omega (arith, commits, last, numbers)

  pub can_committed : (e : Environment D) (kept : Kept) (records : ℕ) → e.engine.kept ≡ kept_committed kept records → kept.commits < kept.last_txn → CanGoOn e
  can_committed e kept records is numbers = subst (λ (k : Kept). k.commits ≤ k.last_txn) (sym is) (omega (arith, numbers))

module _ {D : Type 0} (meaning : DiskMeaning D) where
  -- ---- what became of its changes

  commits_same : (old now : Environment D) (st : Standing) (n : ℕ) (cs : List Changed) (owed : ℕ) (wrote : Wrote) →
      WritesOwn meaning old now st n cs owed (Ok wrote) → now.engine.kept.commits ≡ old.engine.kept.commits
  commits_same old now st n cs owed Done w = ap (λ (k : Kept). k.commits) w.4
  commits_same old now st n cs owed Full w = ap (λ (k : Kept). k.commits) w.1.kept
  commits_same old now st n cs owed NoNumbers w = ap (λ (k : Kept). k.commits) w.1.kept
  commits_same old now st n cs owed Failed w = ap (λ (k : Kept). k.commits) w.3

  last_same : (old now : Environment D) (st : Standing) (n : ℕ) (cs : List Changed) (owed : ℕ) (wrote : Wrote) →
      WritesOwn meaning old now st n cs owed (Ok wrote) → now.engine.kept.last_txn ≡ old.engine.kept.last_txn
  last_same old now st n cs owed Done w = ap (λ (k : Kept). k.last_txn) w.4
  last_same old now st n cs owed Full w = ap (λ (k : Kept). k.last_txn) w.1.kept
  last_same old now st n cs owed NoNumbers w = ap (λ (k : Kept). k.last_txn) w.1.kept
  last_same old now st n cs owed Failed w = ap (λ (k : Kept). k.last_txn) w.3

  pub written_again : (most : ℕ) (before old now : Environment D) (st : Standing) (session : ℕ) (txn : TxnId) (level : Isolation) (a : Active) (call : Call) (g : Target) (answer : Answer)
      (changes : Own) (all : ℕ) (wrote : Wrote) → IsTakenUp meaning most before old st session a call g answer changes → changes ≢ [] → a.txn ≡ txn → a.level ≡ level → a.is_auto ≡ true →
      st.own a.txn.0 ≡ [] → HasPushedAndLogged meaning old now a (needs_in st a call g) st (changes_with st a g (outcome_of st a call g).changes) (Ok wrote) →
      all ≡ old.engine.kept.totals.records + count_by (λ (c : ℕ × RecordChange). is_set c.1) changes → old.engine.kept.commits < old.engine.kept.last_txn → old.engine.kept.commits + 1 < 2 ^ 64 →
      HasWrittenAgain meaning most before now st session txn level a call g all wrote
  written_again most before old now st session txn level a call g answer changes all wrote up some is level_is auto bare pushed counted numbers fits =
      let commits = commits_same old now st a.txn.0 _ _ wrote pushed.writes in
      let last = last_same old now st a.txn.0 _ _ wrote pushed.writes in
      record {
        old = old;
        answer = answer;
        changes = changes;
        up = up;
        some = some;
        its_txn = is;
        its_level = level_is;
        auto = auto;
        bare = bare;
        pushed = pushed;
        counted = counted ∙ ap (λ (x : Engine D). x.kept.totals.records + count_by (λ (c : ℕ × RecordChange). is_set c.1) changes) up.engine;
        numbers = omega (arith, commits, last, numbers);
        fits = omega (arith, commits, fits);
      }

  module _ (most : ℕ) (before now : Environment D) (st : Standing) (session : ℕ) (txn : TxnId) (level : Isolation) (a : Active) (call : Call) (g : Target) (all : ℕ) where
    abbrev WrittenBy : Wrote → Type 0
    WrittenBy wrote = HasWrittenAgain meaning most before now st session txn level a call g all wrote

    abbrev needs_ : List Need
    needs_ = needs_in st a call g

    abbrev Accessed : Environment D → ℕ → Outcome → Type 0
    Accessed new line o = HasAccessed meaning most before new st a line call g o.answer o.victims

    -- ---- what its ends ask

    pub pushed_again : (wrote : Wrote) (w : WrittenBy wrote) (s : Sessions) → s ≡ now.sessions → HasPushed s a needs_ txn.0 w.pushed.more none_counted st
    pushed_again wrote w s same =
        has_pushed meaning s a txn needs_ w.pushed.more none_counted st w.its_txn (counts_none st a txn w.its_txn w.bare)
        (subst (λ (x : Sessions). HasTaken x true a needs_ (with_own a.txn.0 w.pushed.more st)) (sym same) w.pushed.taken)

    pub may_undo : (wrote : Wrote) → WrittenBy wrote → (s : Sessions) → s ≡ now.sessions → (x : Active) × (needs : List Need) × (more : Own) × (y : Standing) × (x.txn ≡ txn) × HasPushed s x needs txn.0 more none_counted y
    may_undo wrote w s same = (a, needs_, w.pushed.more, st, w.its_txn, pushed_again wrote w s same)

    pub may_take_back : (wrote : Wrote) → WrittenBy wrote → (s : Sessions) → s ≡ now.sessions →
        (x : Active) × (needs : List Need) × (more : Own) × (y : Standing) × (x.txn ≡ txn) × (x.level ≡ level) × HasPushed s x needs txn.0 more none_counted y
    may_take_back wrote w s same = (a, needs_, w.pushed.more, st, w.its_txn, w.its_level, pushed_again wrote w s same)

    pub taken_again : (wrote : Wrote) (w : WrittenBy wrote) (s : Sessions) → s ≡ now.sessions → HasTaken s true a needs_ (with_own a.txn.0 w.pushed.more st)
    taken_again wrote w s same = subst (λ (x : Sessions). HasTaken x true a needs_ (with_own a.txn.0 w.pushed.more st)) (sym same) w.pushed.taken

    pub may_answer : (wrote : Wrote) → WrittenBy wrote → (s : Sessions) → s ≡ now.sessions →
        (x : Active) × (needs : List Need) × (y : Standing) × (x.txn ≡ txn) × (x.level ≡ level) × HasTaken s true x needs y
    may_answer wrote w s same = (a, needs_, with_own a.txn.0 w.pushed.more st, w.its_txn, w.its_level, taken_again wrote w s same)

    -- ---- its Commit

    pub room_settles : WrittenBy Done → (owed : ℕ) × HasRoomFor now.engine.trees.log (commit_sizes (suc owed))
    room_settles w = room_now meaning before w.old most session 0 st a call g w.answer w.changes w.up w.bare w.auto w.some now w.pushed

    pub had_settles : WrittenBy Done → had_at txn now.written.by_txn.entries ≤ all
    had_settles w = subst (λ (t : TxnId). had_at t now.written.by_txn.entries ≤ all) w.its_txn within
      where
        within : had_at a.txn now.written.by_txn.entries ≤ all
        within =
            let had = had_now meaning before w.old most session 0 st a call g w.answer w.changes w.up w.bare w.auto w.some now w.pushed in
            let counted = w.counted in
            omega (arith, had, counted)

    commits_now : WrittenBy Done → now.engine.kept.commits ≡ st.commits
    commits_now w = ap (λ (k : Kept). k.commits) w.pushed.writes.4 ∙ (ap (λ (x : Engine D). x.kept.commits) w.up.engine ∙ w.up.here.commits)

    pub settled_again : (done : Environment D) (s closed : Sessions) (records line : ℕ) (o : Outcome) (w : WrittenBy Done) →
        HasCommittedOwn meaning now.engine done.engine now.written.by_txn.entries done.written.by_txn.entries txn records →
        AreSessionsAt s (with_move a call (outcome_of st a call g).place (with_locks a (all_got a.txn needs_ st.locks.at) (with_own a.txn.0 w.pushed.more st))) →
        ((x : Standing) (b : Active) → b.session ≡ session → b.txn ≡ txn → AreSessionsAt s x → AreSessionsAt closed (ended b x)) →
        records + had_at txn now.written.by_txn.entries ≡ all → o.answer ≡ Logged done.engine.kept.commits → o.victims ≡ [] → Accessed (in_sessions closed done) line o
    settled_again done s closed records line o w h stands ends sum told alone =
        accesses_done meaning before w.old most session line st a call g w.answer w.changes w.up w.bare w.auto w.some now (in_sessions closed done) s records o
        w.pushed stands
        (subst (λ (t : TxnId). HasSettled meaning (in_sessions s now) (in_sessions closed done) session t records) (sym w.its_txn) (record { committed = h; sessions = ends }))
        (subst (λ (t : TxnId). records + had_at t now.written.by_txn.entries ≡ all) (sym w.its_txn) sum ∙ w.counted)
        (told ∙ ap (λ (n : ℕ). Logged n) (ap (λ (k : Kept). k.commits) h.kept ∙ ap (λ (n : ℕ). n + 1) (commits_now w))) alone

    pub unsettled_again : (done : Environment D) (s : Sessions) (line : ℕ) (o : Outcome) → WrittenBy Done → HasNotSettled meaning now done txn → AreSessionsAt s st →
        o.answer ≡ DiskFault → o.victims ≡ [] → Accessed (in_sessions s done) line o
    unsettled_again done s line o w h stands told alone =
        accesses_unsettled meaning before w.old most session line st a call g w.answer w.changes w.up w.bare w.auto w.some now done s o w.pushed
        (subst (λ (t : TxnId). HasNotSettled meaning now done t) (sym w.its_txn) h) stands told alone

    pub works_again : WrittenBy Done → has_failed now.engine.trees.log ≡ false
    works_again w = w.pushed.writes.0.works

    -- ---- or there was none

    pub full_again : (new : Environment D) (s : Sessions) (line : ℕ) (o : Outcome) → WrittenBy Full → AreSessionsAt s (with_locks a (all_got a.txn needs_ st.locks.at) st) → HasAbandoned (in_sessions s now) new session txn →
        o.answer ≡ LogFull → o.victims ≡ [] → Accessed new line o
    full_again new s line o w stands h told alone =
        accesses_full meaning before w.old most session line st a call g w.answer w.changes w.up w.bare w.auto w.some now new s o w.pushed stands
        (subst (λ (t : TxnId). HasAbandoned (in_sessions s now) new session t) (sym w.its_txn) h) told alone

    pub numbers_again : (new : Environment D) (s : Sessions) (line : ℕ) (o : Outcome) → WrittenBy NoNumbers → AreSessionsAt s (with_locks a (all_got a.txn needs_ st.locks.at) st) →
        HasAbandoned (in_sessions s now) new session txn → o.answer ≡ IdsEnded → o.victims ≡ [] → Accessed new line o
    numbers_again new s line o w stands h told alone =
        accesses_numbers meaning before w.old most session line st a call g w.answer w.changes w.up w.bare w.auto w.some now new s o w.pushed stands
        (subst (λ (t : TxnId). HasAbandoned (in_sessions s now) new session t) (sym w.its_txn) h) told alone

    pub failed_again : (s : Sessions) (line : ℕ) (o : Outcome) → WrittenBy Failed → AreSessionsAt s st → o.answer ≡ DiskFault → o.victims ≡ [] → Accessed (in_sessions s now) line o
    failed_again s line o w stands told alone =
        accesses_failed meaning before w.old most session line st a call g w.answer w.changes w.up w.bare w.auto w.some now s o w.pushed stands told alone
