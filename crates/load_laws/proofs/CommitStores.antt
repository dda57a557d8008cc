-- What the commit of a load stores, and what stands behind its last line.
use Rattle.std.proofs.Common.{◌≡◌, ◌==◌, ◌⊎◌, inl, inr, ⊎_elim, ℕ, Bool, true, false, List, [], ◌∷◌, ◌++◌, Option, None, Some, refl, ap, sym, ◌∙◌, subst}
use Rattle.std.proofs.lemmas.Bool.{eqb-true, true≢false}
use Rattle.std.proofs.lemmas.List.{append-nil}
use Rattle.store_model.specs.declared.store.Store.{Store}
use Rattle.store_model.specs.declared.store.Database.{Database}
use Rattle.store_model.specs.declared.call.Call.TheVariants.{Commit}
use Rattle.store_model.specs.declared.change.Change.{Change}
use Rattle.store_model.specs.declared.step.Step.{Step}
use Rattle.store_model.specs.declared.step.Step.TheVariants.{Begin as BeginStep, Flush, Finish, Sync as SyncStep}
use Rattle.store_model.specs.declared.victim.Victim.{Victim}
use Rattle.store_model.specs.declared.answer.Answer.{Answer}
use Rattle.store_model.specs.declared.answer.Answer.TheVariants.{Done, DiskFault}
use Rattle.store_model.specs.declared.event.Event.{Event}
use Rattle.store_model.specs.declared.event.Event.TheVariants.{Call as Called, Resume, End, WriteOut, SyncBegin, SyncEnd, Turn}
use Rattle.store_model.specs.declared.plan.ScriptLine.TheVariants.{Maintenance}
use Rattle.store_model.specs.Store.{Pair, all_changed, database_of, store_after, with_pairs}
use Rattle.je_answers.specs.declared.active.Active.{Active}
use Rattle.je_answers.specs.Standing.{Standing, active_of, without_wait}
use Rattle.je_answers.specs.Views.{changes_named}
use Rattle.je_answers.specs.Refusals.{early_refusal, late_refusal}
use Rattle.je_answers.specs.Events.{IsAnswered, IsCallAnswered, IsEvaluated}
use Rattle.je_answers.specs.After.{AnswersAsModel, Fate, after_begin, after_call, after_commit, after_ending, after_evaluated, after_event, after_events, after_turn, committed_if_any, ended_if_any, fate_of, faulted_if}
use Rattle.je_answers.specs.After.Fate.{Faults, IsRefused, Succeeds}
use Rattle.je_answers.specs.Journal.{attempt_of, changes_ended, changes_evaluated, changes_of, lines_of, tried}
use Rattle.load_laws.specs.Given.{is_refusal}
use Rattle.load_laws.proofs.Phases.{begin_waits, end_waits_none, found_one, its_active, none_resumes, turn_waits, written_waits}
use Rattle.load_laws.proofs.LoadImages.{no_step}
use Rattle.load_laws.proofs.LoadRefusals.{IsRefusing, commit_early_refusing, commit_late_refusing, succeeds}
use Rattle.load_laws.proofs.PutStores.{finds_own, own_stored}
use Rattle.load_laws.proofs.PutSteps.{Holds}

-- ---- behind the last line

written_store : (answer : Answer) (st : Standing) → (faulted_if answer st).store ≡ st.store
written_store DiskFault st = refl
written_store answer st = refl

begun_store : (answer : Answer) (st : Standing) → (after_begin st answer).store ≡ st.store
begun_store Done st = refl
begun_store DiskFault st = refl
begun_store answer st = refl

turned_store : (step : Step) (answer : Answer) (st : Standing) → (after_turn step st answer).store ≡ st.store
turned_store BeginStep Done st = refl
turned_store Finish Done st = refl
turned_store BeginStep answer st = written_store answer st
turned_store Finish answer st = written_store answer st
turned_store Flush answer st = written_store answer st
turned_store SyncStep answer st = written_store answer st

ended_store : (o : Option Active) (st : Standing) → (ended_if_any o st).store ≡ st.store
ended_store None st = refl
ended_store (Some a) st = refl

-- where no call waits events that no line gave leave the store
pub stopped_store : (st : Standing) (limits : List (Option Answer)) (journal : List Event) → AnswersAsModel st limits journal → st.waiting ≡ [] → lines_of journal ≡ [] → (after_events st journal).store ≡ st.store
stopped_store st limits [] answers waits none = refl
stopped_store st [] (event ∷ events) answers waits none = absurd answers
stopped_store st (limit ∷ limits) (Called session line call answer victims ∷ events) answers waits none = cc
stopped_store st (limit ∷ limits) (Resume session line answer victims ∷ events) answers waits none = absurd (none_resumes limit st session line answer victims waits answers.0)
stopped_store st (limit ∷ limits) (End session ∷ events) answers waits none =
    stopped_store (after_event st (End session)) limits events answers.1 (end_waits_none st session waits) none
    ∙ ended_store (active_of session st.actives) (record st { waiting = without_wait session st.waiting })
stopped_store st (limit ∷ limits) (WriteOut answer ∷ events) answers waits none = stopped_store (after_event st (WriteOut answer)) limits events answers.1 (written_waits answer st ∙ waits) none ∙ written_store answer st
stopped_store st (limit ∷ limits) (SyncBegin answer ∷ events) answers waits none = stopped_store (after_event st (SyncBegin answer)) limits events answers.1 (begin_waits answer st ∙ waits) none ∙ begun_store answer st
stopped_store st (limit ∷ limits) (SyncEnd answer ∷ events) answers waits none =
    stopped_store (after_event st (SyncEnd answer)) limits events answers.1 (written_waits answer (record st { begun = None }) ∙ waits) none ∙ written_store answer (record st { begun = None })
stopped_store st (limit ∷ limits) (Turn line step answer ∷ events) answers waits none =
    stopped_store (after_event st (Turn line step answer)) limits events answers.1 (turn_waits step answer st ∙ waits) (no_step (line == 0) (Maintenance line step) (lines_of events) none) ∙ turned_store step answer st

-- ---- the commit

committed_store : (changes : List Change) (st : Standing) → (committed_if_any changes st).store ≡ all_changed changes st.store
committed_store [] st = refl
committed_store (change ∷ changes) st = refl

commit_fate : (fate : Fate) (changes : List Change) (a : Active) (st : Standing) → fate ≡ Succeeds → (after_commit fate changes a st).store ≡ all_changed changes st.store
commit_fate fate changes a st ok = ap (λ (f : Fate). (after_commit f changes a st).store) ok ∙ committed_store changes st

-- nothing is attempted, or the database then has these records
abbrev pub Attempts : List ℕ → Database → List Pair → List (List Change) → Type 0
Attempts db d held attempts = (attempts ≡ []) ⊎ ((store : Store) → database_of db store ≡ Some d → database_of db (store_after store attempts) ≡ Some (with_pairs d held))

pub attempts_then : (db : List ℕ) (d : Database) (held : List Pair) (first later : List (List Change)) → first ≡ [] → Attempts db d held later → Attempts db d held (first ++ later)
attempts_then db d held first later none h = subst (λ (l : List (List Change)). Attempts db d held (l ++ later)) (sym none) h

pub attempts_last : (db : List ℕ) (d : Database) (held : List Pair) (first later : List (List Change)) → later ≡ [] → Attempts db d held first → Attempts db d held (first ++ later)
attempts_last db d held first later none h = subst (λ (l : List (List Change)). Attempts db d held l) (sym (ap (λ (l : List (List Change)). first ++ l) none ∙ append-nil first)) h

module _ (db : List ℕ) (d : Database) (held : List Pair) (st : Standing) (h : Holds db d held st) where
  commit_late : (kept : Bool) (late limit : Option Answer) (line : ℕ) (answer : Answer) (victims : List Victim) → IsRefusing kept late → IsEvaluated late limit st 1 line Commit answer victims → is_refusal kept answer ≡ false →
      (after_evaluated late st 1 line Commit answer victims).store ≡ all_changed (changes_named st (st.own h.load.active.txn.0)) st.store
  commit_late kept (Some refusal) limit line answer victims refusing is ok = absurd (true≢false (sym refusing ∙ ap (is_refusal kept) (sym is.0) ∙ ok))
  commit_late kept None limit line answer victims refusing is ok =
      ap (λ (o : Option Active). (after_ending o st answer).store) (its_active st h.load)
      ∙ commit_fate (fate_of answer) (changes_named st (st.own h.load.active.txn.0)) h.load.active st (succeeds kept answer ok)

  commit_early : (kept : Bool) (early limit : Option Answer) (line : ℕ) (answer : Answer) (victims : List Victim) → IsRefusing kept early → IsCallAnswered early limit st 1 line Commit answer victims → is_refusal kept answer ≡ false →
      (after_call early st 1 line Commit answer victims).store ≡ all_changed (changes_named st (st.own h.load.active.txn.0)) st.store
  commit_early kept (Some refusal) limit line answer victims refusing is ok = absurd (true≢false (sym refusing ∙ ap (is_refusal kept) (sym is.0) ∙ ok))
  commit_early kept None limit line answer victims refusing is ok = commit_late kept (late_refusal st 1 Commit) limit line answer victims (commit_late_refusing kept st) is ok

  own_found : (store : Store) → database_of db store ≡ Some d → database_of db (all_changed (changes_named st (st.own h.load.active.txn.0)) store) ≡ Some (with_pairs d held)
  own_found store there =
      own_stored db st (st.numbers db) (finds_own db st h.last d h.have h.there) (st.own h.load.active.txn.0) store d there
      ∙ ap (λ (ps : List Pair). Some (with_pairs d ps)) h.sees

  -- a commit stores what the transaction has
  pub commit_stores : (kept : Bool) (limit : Option Answer) (line : ℕ) (answer : Answer) (victims : List Victim) → IsAnswered limit st (Called 1 line Commit answer victims) → is_refusal kept answer ≡ false →
      database_of db (after_event st (Called 1 line Commit answer victims)).store ≡ Some (with_pairs d held)
  commit_stores kept limit line answer victims is ok =
      ap (database_of db) (commit_early kept (early_refusal st 1 Commit) limit line answer victims (commit_early_refusing kept st) is ok) ∙ own_found st.store h.there

  attempt_late : (late : Option Answer) → changes_evaluated late st 1 Commit ≡ [] ⊎ (changes_evaluated late st 1 Commit ≡ changes_named st (st.own h.load.active.txn.0))
  attempt_late (Some refusal) = inl refl
  attempt_late None = inr (ap (λ (o : Option Active). changes_ended o st) (its_active st h.load))

  attempt_early : (early : Option Answer) → changes_of early st 1 Commit ≡ [] ⊎ (changes_of early st 1 Commit ≡ changes_named st (st.own h.load.active.txn.0))
  attempt_early (Some refusal) = inl refl
  attempt_early None = attempt_late (late_refusal st 1 Commit)

  -- the store that an attempted commit leaves, if there is one
  tried_store : (changes : List Change) (fate : Fate) → (tried changes fate ≡ []) ⊎ ((store : Store) → store_after store (tried changes fate) ≡ all_changed changes store)
  tried_store [] fate = inl refl
  tried_store (change ∷ changes) Succeeds = inr (λ store. refl)
  tried_store (change ∷ changes) IsRefused = inl refl
  tried_store (change ∷ changes) Faults = inr (λ store. refl)

  -- a commit attempts nothing, or what the transaction has
  pub commit_attempts : (line : ℕ) (answer : Answer) (victims : List Victim) → Attempts db d held (attempt_of st (Called 1 line Commit answer victims))
  commit_attempts line answer victims =
      let changes = changes_of (early_refusal st 1 Commit) st 1 Commit in
      ⊎_elim
      (λ (none : changes ≡ []). inl (ap (λ (cs : List Change). tried cs (fate_of answer)) none))
      (λ (own : changes ≡ changes_named st (st.own h.load.active.txn.0)). ⊎_elim
      (λ (none : tried changes (fate_of answer) ≡ []). inl none)
      (λ (done : (store : Store) → store_after store (tried changes (fate_of answer)) ≡ all_changed changes store).
      inr (λ store there. ap (database_of db) (done store ∙ ap (λ (cs : List Change). all_changed cs store) own) ∙ own_found store there))
      (tried_store changes (fate_of answer)))
      (attempt_early (early_refusal st 1 Commit))

  -- ---- events between puts

  pub holds_faulted : (answer : Answer) → Holds db d held (faulted_if answer st)
  holds_faulted DiskFault = h
  holds_faulted answer = h

  pub holds_begin : (answer : Answer) → Holds db d held (after_begin st answer)
  holds_begin Done = h
  holds_begin DiskFault = h
  holds_begin answer = h

  pub holds_end : (answer : Answer) → Holds db d held (faulted_if answer (record st { begun = None }))
  holds_end DiskFault = h
  holds_end answer = h

  pub holds_turn : (step : Step) (answer : Answer) → Holds db d held (after_turn step st answer)
  holds_turn BeginStep Done = h
  holds_turn Finish Done = h
  holds_turn BeginStep answer = holds_faulted answer
  holds_turn Finish answer = holds_faulted answer
  holds_turn Flush answer = holds_faulted answer
  holds_turn SyncStep answer = holds_faulted answer

  -- a session that ends is that of the load, or the load goes on
  pub holds_ended : (session : ℕ) → (session ≡ 1) ⊎ Holds db d held (after_event st (End session))
  holds_ended session = by (h.load.active.session == session) refl where
    by : (b : Bool) → (h.load.active.session == session) ≡ b → (session ≡ 1) ⊎ Holds db d held (after_event st (End session))
    by true e = inl (sym (eqb-true h.load.active.session session e) ∙ h.load.session)
    by false e =
        let none : active_of session st.actives ≡ None = ap (active_of session) h.load.is ∙ found_one session h.load.active false e in
        inr (subst (λ (a : Option Active). Holds db d held (ended_if_any a (record st { waiting = without_wait session st.waiting }))) (sym none)
        (record {
          load = record {
            active = h.load.active;
            is = h.load.is;
            session = h.load.session;
            own = h.load.own;
            level = h.load.level;
            waits = ap (without_wait session) h.load.waits;
            locks = h.load.locks;
          };
          there = h.there;
          only = h.only;
          last = h.last;
          have = h.have;
          sees = h.sees;
        }))
