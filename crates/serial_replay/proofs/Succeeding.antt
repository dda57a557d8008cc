-- An event that met a disk fault where it was to commit: with another answer it would have committed.
use Rattle.std.proofs.Common.{◌≡◌, ◌+◌, inl, inr, Bool, true, false, cond, ℕ, List, [], ◌∷◌, Option, None, Some, refl, ap, sym, ◌∙◌, nat_lt}
use Rattle.std.proofs.lemmas.Bool.{cond-true}
use Rattle.store_model.specs.declared.store.TheConstants.{LAST_DATABASE}
use Rattle.store_model.specs.declared.durability.Durability.{Durability}
use Rattle.store_model.specs.declared.durability.Durability.TheVariants.{Sync, WriteNoSync, NoSync}
use Rattle.store_model.specs.declared.call.Call.{Call}
use Rattle.store_model.specs.declared.call.Call.TheVariants.{Begin, Commit, Abort, List as Lists, Create, CreateIndex, Remove, Rename, Truncate, Get, GetBoth, Put, Delete, Open, Close, Dup, Count, Cur, CPutCur, CDel, CPut}
use Rattle.store_model.specs.declared.change.Change.{Change}
use Rattle.store_model.specs.declared.record_change.RecordChange.{RecordChange}
use Rattle.store_model.specs.declared.need.Need.{Need}
use Rattle.store_model.specs.declared.victim.Victim.{Victim}
use Rattle.store_model.specs.declared.answer.Fault.{Fault}
use Rattle.store_model.specs.declared.answer.Fault.TheVariants.{Disk}
use Rattle.store_model.specs.declared.answer.Answer.{Answer}
use Rattle.store_model.specs.declared.answer.Answer.TheVariants.{Logged, LogFull, IdsEnded}
use Rattle.store_model.specs.declared.event.Event.{Event}
use Rattle.store_model.specs.declared.event.Event.TheVariants.{Call as Called, Resume, End, WriteOut, SyncBegin, SyncEnd, Turn}
use Rattle.store_model.specs.Evaluation.{Outcome, evaluation}
use Rattle.store_model.specs.Refusals.{or_refusal, made_by}
use Rattle.je_answers.specs.declared.active.Active.{Active}
use Rattle.je_answers.specs.declared.wait.Wait.{Wait}
use Rattle.je_answers.specs.Standing.{Standing, active_of, wait_of}
use Rattle.je_answers.specs.Views.{Target, target_of, changes_with, with_names, changes_named, outcome_of, needs_in}
use Rattle.je_answers.specs.Locking.{first_blocked}
use Rattle.je_answers.specs.Refusals.{early_refusal, late_refusal}
use Rattle.je_answers.specs.Events.{log_limit, no_room, no_numbers, database_limit, catalog_limit, auto_active, begun, due, resumed, commit_answer, IsLogged, IsDone, IsTaken, IsOn, IsRun, IsCommitted, IsEnded, AreChanged, IsChanged, IsExclusive, IsPerformed, IsEvaluated, IsCallAnswered, IsResumed, IsAnswered}
use Rattle.je_answers.specs.After.{Fate, fate_of, after_fate, after_changes, after_taking, after_on, after_run, after_commit, after_ending, after_catalog, after_performed, after_evaluated, after_call, after_resumed, after_event}
use Rattle.je_answers.specs.After.Fate.{Succeeds, IsRefused, Faults}
use Rattle.je_answers.specs.Journal.{changes_closed, changes_taken, changes_in, changes_run, changes_ended, changes_performed, changes_evaluated, changes_of, changes_resumed, changes_by, answer_by}
use Rattle.serial_replay.proofs.Replies.{limit_is}

-- an answer that may come, with which changes are committed; and where the fault leaves the environment
pub record CanSucceed (Is : Answer → Type 0) (fault : Option Fault) : Type 0 where
  pub answer : Answer
  pub is : Is answer
  pub fate : fate_of answer ≡ Succeeds
  pub faulted : fault ≡ Some Disk

refused_faults : (P : Type 0) → IsRefused ≡ Faults → P
refused_faults P h = absurd (cc (h))

nothing : (P : Type 0) (change : Change) (rest : List Change) → [] ≡ change ∷ rest → P
nothing P change rest h = absurd (cc (h))

-- ---- what is logged

abbrev IsLimit : Option Answer → Type 0
IsLimit limit = (l : Answer) → limit ≡ Some l → fate_of l ≡ IsRefused

logged_can : (fault : Option Fault) (limit : Option Answer) (due_it answer : Answer) → fault ≡ Some Disk → IsLimit limit → fate_of due_it ≡ Succeeds → fate_of answer ≡ Faults → IsLogged limit due_it answer → CanSucceed (IsLogged limit due_it) fault
logged_can fault (Some l) due_it answer faulted_it refused succeeds faults is = refused_faults (CanSucceed (IsLogged (Some l) due_it) fault) (sym (refused l refl) ∙ (ap fate_of (sym is) ∙ faults))
logged_can fault None due_it answer faulted_it refused succeeds faults is = record { answer = due_it; is = inl refl; fate = succeeds; faulted = faulted_it }

log_limits : (limit : Option Answer) → IsLimit (log_limit limit)
log_limits limit l h = (limit_is limit l h).fate

some_refused : (x l : Answer) → fate_of x ≡ IsRefused → Some x ≡ Some l → fate_of l ≡ IsRefused
some_refused x l f h = ap fate_of (same x l h) ∙ f
  where
    same : (y z : Answer) → Some y ≡ Some z → z ≡ y
    same y z k = cc (k)

either_limit : (a b : Option Answer) → IsLimit a → IsLimit b → IsLimit (or_refusal a b)
either_limit None b f g l h = g l h
either_limit (Some x) b f g l h = f l h

room_limits : (limit : Option Answer) → IsLimit (no_room limit)
room_limits None l h = absurd (cc (h))
room_limits (Some LogFull) l h = some_refused LogFull l refl h
room_limits (Some answer) l h = absurd (cc (h))

number_limits : (limit : Option Answer) → IsLimit (no_numbers limit)
number_limits None l h = absurd (cc (h))
number_limits (Some IdsEnded) l h = some_refused IdsEnded l refl h
number_limits (Some answer) l h = absurd (cc (h))

database_limits : (b : Bool) → IsLimit (cond b (Some IdsEnded) None)
database_limits true l h = some_refused IdsEnded l refl h
database_limits false l h = absurd (cc (h))

catalog_limits : (limit : Option Answer) (st : Standing) (changes : List Change) → IsLimit (catalog_limit limit st changes)
catalog_limits limit st changes =
    either_limit (no_room limit) (or_refusal (database_limit st.last_db changes) (no_numbers limit)) (room_limits limit)
    (either_limit (database_limit st.last_db changes) (no_numbers limit) (database_limits (nat_lt LAST_DATABASE (st.last_db + made_by changes))) (number_limits limit))

-- ---- a call on records

closing : (P : Type 0) (b : Bool) (changes : List Change) (change : Change) (rest : List Change) → changes_closed b changes ≡ change ∷ rest → (b ≡ true → P) → P
closing P true changes change rest h f = f refl
closing P false changes change rest h f = nothing P change rest h

closing_nothing : (P : Type 0) (b : Bool) (change : Change) (rest : List Change) → changes_closed b [] ≡ change ∷ rest → P
closing_nothing P true change rest h = nothing P change rest h
closing_nothing P false change rest h = nothing P change rest h

done_can : (cs : List RecordChange) (limit : Option Answer) (old st : Standing) (a : Active) (call : Call) (g : Target) (answer : Answer) (change : Change) (rest : List Change) → (outcome_of st a call g).changes ≡ cs
    → changes_closed a.is_auto (with_names (changes_with st a g (outcome_of st a call g).changes)) ≡ change ∷ rest → fate_of answer ≡ Faults
    → IsDone cs limit st a (outcome_of st a call g) answer → CanSucceed (IsDone cs limit st a (outcome_of st a call g)) (after_changes cs old st a call g (outcome_of st a call g) answer).fault
done_can [] limit old st a call g answer change rest same some faults is =
    closing_nothing (CanSucceed (IsDone [] limit st a (outcome_of st a call g)) (after_changes [] old st a call g (outcome_of st a call g) answer).fault) a.is_auto change rest
    (sym (ap (λ (l : List RecordChange). changes_closed a.is_auto (with_names (changes_with st a g l))) same) ∙ some)
done_can (c ∷ cs) limit old st a call g answer change rest same some faults is =
    closing (CanSucceed (IsDone (c ∷ cs) limit st a (outcome_of st a call g)) (after_changes (c ∷ cs) old st a call g (outcome_of st a call g) answer).fault) a.is_auto (with_names (changes_with st a g (outcome_of st a call g).changes)) change rest some
    (λ auto. logged_can (after_changes (c ∷ cs) old st a call g (outcome_of st a call g) answer).fault (log_limit limit) (due st a (outcome_of st a call g)) answer
    (ap (λ (f : Fate). (after_fate f old st a call g (outcome_of st a call g)).fault) faults) (log_limits limit)
    (ap fate_of (cond-true a.is_auto (Logged (st.commits + 1)) (outcome_of st a call g).answer auto)) faults is)

taken_can : (o : Option Need) (limit : Option Answer) (old st : Standing) (a : Active) (line : ℕ) (call : Call) (g : Target) (answer : Answer) (vs : List Victim) (change : Change) (rest : List Change)
    → changes_taken o st a call g ≡ change ∷ rest → fate_of answer ≡ Faults → IsTaken o limit st a line call g answer vs → CanSucceed (λ x. IsTaken o limit st a line call g x vs) (after_taking o old st a line call g answer vs).fault
taken_can None limit old st a line call g answer vs change rest some faults is =
    let k = done_can (outcome_of st a call g).changes limit old st a call g answer change rest refl some faults is.0 in
    record { answer = k.answer; is = (k.is, is.1); fate = k.fate; faulted = k.faulted }
taken_can (Some n) limit old st a line call g answer vs change rest some faults is = nothing (CanSucceed (λ x. IsTaken (Some n) limit st a line call g x vs) (after_taking (Some n) old st a line call g answer vs).fault) change rest some

on_can : (o : Option Target) (limit : Option Answer) (old st : Standing) (a : Active) (line : ℕ) (call : Call) (answer : Answer) (vs : List Victim) (change : Change) (rest : List Change)
    → changes_in o st a call ≡ change ∷ rest → fate_of answer ≡ Faults → IsOn o limit st a line call answer vs → CanSucceed (λ x. IsOn o limit st a line call x vs) (after_on o old st a line call answer vs).fault
on_can None limit old st a line call answer vs change rest some faults is = absurd is
on_can (Some g) limit old st a line call answer vs change rest some faults is =
    taken_can (first_blocked a.txn (needs_in st a call g) st.locks.at) limit old st a line call g answer vs change rest some faults is

run_can : (o : Option Active) (limit : Option Answer) (st : Standing) (session line : ℕ) (call : Call) (answer : Answer) (vs : List Victim) (change : Change) (rest : List Change)
    → changes_run o st session call ≡ change ∷ rest → fate_of answer ≡ Faults → IsRun o limit st session line call answer vs → CanSucceed (λ x. IsRun o limit st session line call x vs) (after_run o st session line call answer vs).fault
run_can (Some a) limit st session line call answer vs change rest some faults is = on_can (target_of st session call) limit st st a line call answer vs change rest some faults is
run_can None limit st session line call answer vs change rest some faults is = on_can (target_of st session call) limit st (begun st session) (auto_active st session) line call answer vs change rest some faults is

-- ---- commits, and changes of the catalog

commit_succeeds : (d : Durability) (commits : ℕ) → fate_of (commit_answer d commits) ≡ Succeeds
commit_succeeds Sync commits = refl
commit_succeeds WriteNoSync commits = refl
commit_succeeds NoSync commits = refl

committed_can : (fault : Option Fault) (changes : List Change) (st : Standing) (a : Active) (change : Change) (rest : List Change) → fault ≡ Some Disk → changes ≡ change ∷ rest → CanSucceed (IsCommitted changes st a) fault
committed_can fault [] st a change rest faulted_it some = nothing (CanSucceed (IsCommitted [] st a) fault) change rest some
committed_can fault (c ∷ cs) st a change rest faulted_it some = record { answer = commit_answer a.durability st.commits; is = inl refl; fate = commit_succeeds a.durability st.commits; faulted = faulted_it }

ended_can : (o : Option Active) (st : Standing) (answer : Answer) (change : Change) (rest : List Change) → changes_ended o st ≡ change ∷ rest → fate_of answer ≡ Faults → IsEnded o st answer → CanSucceed (IsEnded o st) (after_ending o st answer).fault
ended_can None st answer change rest some faults is = absurd is
ended_can (Some a) st answer change rest some faults is =
    committed_can (after_ending (Some a) st answer).fault (changes_named st (st.own a.txn.0)) st a change rest (ap (λ (f : Fate). (after_commit f (changes_named st (st.own a.txn.0)) a st).fault) faults) some

changed_can : (fault : Option Fault) (changes : List Change) (outcome : Outcome) (limit : Option Answer) (st : Standing) (answer : Answer) (change : Change) (rest : List Change) → fault ≡ Some Disk → changes ≡ change ∷ rest → fate_of answer ≡ Faults
    → AreChanged changes outcome limit st answer → CanSucceed (AreChanged changes outcome limit st) fault
changed_can fault [] outcome limit st answer change rest faulted_it some faults is = nothing (CanSucceed (AreChanged [] outcome limit st) fault) change rest some
changed_can fault (c ∷ cs) outcome limit st answer change rest faulted_it some faults is = logged_can fault (catalog_limit limit st (c ∷ cs)) (Logged (st.commits + 1)) answer faulted_it (catalog_limits limit st (c ∷ cs)) refl faults is

exclusive_can : (fault : Option Fault) (n : ℕ) (outcome : Outcome) (limit : Option Answer) (st : Standing) (answer : Answer) (change : Change) (rest : List Change) → fault ≡ Some Disk → outcome.changes ≡ change ∷ rest → fate_of answer ≡ Faults
    → IsExclusive n outcome limit st answer → CanSucceed (IsExclusive n outcome limit st) fault
exclusive_can fault n outcome limit st answer change rest faulted_it some faults (inl p) =
    let k = changed_can fault outcome.changes outcome limit st answer change rest faulted_it some faults p.1 in
    record { answer = k.answer; is = inl (p.0, k.is); fate = k.fate; faulted = k.faulted }
exclusive_can fault n outcome limit st answer change rest faulted_it some faults (inr (inl p)) = refused_faults (CanSucceed (IsExclusive n outcome limit st) fault) (sym (ap fate_of p.2) ∙ faults)
exclusive_can fault n outcome limit st answer change rest faulted_it some faults (inr (inr p)) = refused_faults (CanSucceed (IsExclusive n outcome limit st) fault) (sym (ap fate_of p.2) ∙ faults)

-- no victims come with it
alone_can : (Is : Answer → Type 0) (fault : Option Fault) (vs : List Victim) → vs ≡ [] → CanSucceed Is fault → CanSucceed (λ x. Is x × (vs ≡ [])) fault
alone_can Is fault vs none k = record { answer = k.answer; is = (k.is, none); fate = k.fate; faulted = k.faulted }

-- ---- a call

performed_can : (call : Call) (limit : Option Answer) (st : Standing) (session line : ℕ) (answer : Answer) (vs : List Victim) (change : Change) (rest : List Change)
    → changes_performed call st session ≡ change ∷ rest → fate_of answer ≡ Faults → IsPerformed call limit st session line answer vs → CanSucceed (λ x. IsPerformed call limit st session line x vs) (after_performed call st session line answer vs).fault
performed_can (Begin level durability wait) limit st session line answer vs change rest some faults is = nothing (CanSucceed (λ x. IsPerformed (Begin level durability wait) limit st session line x vs) (after_performed (Begin level durability wait) st session line answer vs).fault) change rest some
performed_can Abort limit st session line answer vs change rest some faults is = nothing (CanSucceed (λ x. IsPerformed Abort limit st session line x vs) (after_performed Abort st session line answer vs).fault) change rest some
performed_can Lists limit st session line answer vs change rest some faults is = nothing (CanSucceed (λ x. IsPerformed Lists limit st session line x vs) (after_performed Lists st session line answer vs).fault) change rest some
performed_can (Open cursor db) limit st session line answer vs change rest some faults is = nothing (CanSucceed (λ x. IsPerformed (Open cursor db) limit st session line x vs) (after_performed (Open cursor db) st session line answer vs).fault) change rest some
performed_can (Close cursor) limit st session line answer vs change rest some faults is = nothing (CanSucceed (λ x. IsPerformed (Close cursor) limit st session line x vs) (after_performed (Close cursor) st session line answer vs).fault) change rest some
performed_can (Dup cursor to) limit st session line answer vs change rest some faults is = nothing (CanSucceed (λ x. IsPerformed (Dup cursor to) limit st session line x vs) (after_performed (Dup cursor to) st session line answer vs).fault) change rest some
performed_can Commit limit st session line answer vs change rest some faults is =
    alone_can (IsEnded (active_of session st.actives) st) (after_ending (active_of session st.actives) st answer).fault vs is.1 (ended_can (active_of session st.actives) st answer change rest some faults is.0)
performed_can (Create db kind) limit st session line answer vs change rest some faults is =
    alone_can (IsChanged (evaluation (Create db kind) st.store) limit st) (after_catalog (fate_of answer) (evaluation (Create db kind) st.store).changes (active_of session st.actives) st).fault vs is.1
    (changed_can (after_catalog (fate_of answer) (evaluation (Create db kind) st.store).changes (active_of session st.actives) st).fault (evaluation (Create db kind) st.store).changes (evaluation (Create db kind) st.store) limit st answer change rest
    (ap (λ (f : Fate). (after_catalog f (evaluation (Create db kind) st.store).changes (active_of session st.actives) st).fault) faults) some faults is.0)
performed_can (CreateIndex db index) limit st session line answer vs change rest some faults is =
    alone_can (IsExclusive (st.numbers index.primary) (evaluation (CreateIndex db index) st.store) limit st) (after_catalog (fate_of answer) (evaluation (CreateIndex db index) st.store).changes (active_of session st.actives) st).fault vs is.1
    (exclusive_can (after_catalog (fate_of answer) (evaluation (CreateIndex db index) st.store).changes (active_of session st.actives) st).fault (st.numbers index.primary) (evaluation (CreateIndex db index) st.store) limit st answer change rest
    (ap (λ (f : Fate). (after_catalog f (evaluation (CreateIndex db index) st.store).changes (active_of session st.actives) st).fault) faults) some faults is.0)
performed_can (Remove db) limit st session line answer vs change rest some faults is =
    alone_can (IsExclusive (st.numbers db) (evaluation (Remove db) st.store) limit st) (after_catalog (fate_of answer) (evaluation (Remove db) st.store).changes (active_of session st.actives) st).fault vs is.1
    (exclusive_can (after_catalog (fate_of answer) (evaluation (Remove db) st.store).changes (active_of session st.actives) st).fault (st.numbers db) (evaluation (Remove db) st.store) limit st answer change rest
    (ap (λ (f : Fate). (after_catalog f (evaluation (Remove db) st.store).changes (active_of session st.actives) st).fault) faults) some faults is.0)
performed_can (Rename db to) limit st session line answer vs change rest some faults is =
    alone_can (IsExclusive (st.numbers db) (evaluation (Rename db to) st.store) limit st) (after_catalog (fate_of answer) (evaluation (Rename db to) st.store).changes (active_of session st.actives) st).fault vs is.1
    (exclusive_can (after_catalog (fate_of answer) (evaluation (Rename db to) st.store).changes (active_of session st.actives) st).fault (st.numbers db) (evaluation (Rename db to) st.store) limit st answer change rest
    (ap (λ (f : Fate). (after_catalog f (evaluation (Rename db to) st.store).changes (active_of session st.actives) st).fault) faults) some faults is.0)
performed_can (Truncate db) limit st session line answer vs change rest some faults is =
    alone_can (IsExclusive (st.numbers db) (evaluation (Truncate db) st.store) limit st) (after_catalog (fate_of answer) (evaluation (Truncate db) st.store).changes (active_of session st.actives) st).fault vs is.1
    (exclusive_can (after_catalog (fate_of answer) (evaluation (Truncate db) st.store).changes (active_of session st.actives) st).fault (st.numbers db) (evaluation (Truncate db) st.store) limit st answer change rest
    (ap (λ (f : Fate). (after_catalog f (evaluation (Truncate db) st.store).changes (active_of session st.actives) st).fault) faults) some faults is.0)
performed_can (Get db key rmw) limit st session line answer vs change rest some faults is = run_can (active_of session st.actives) limit st session line (Get db key rmw) answer vs change rest some faults is
performed_can (GetBoth db key value rmw) limit st session line answer vs change rest some faults is = run_can (active_of session st.actives) limit st session line (GetBoth db key value rmw) answer vs change rest some faults is
performed_can (Put db key value mode) limit st session line answer vs change rest some faults is = run_can (active_of session st.actives) limit st session line (Put db key value mode) answer vs change rest some faults is
performed_can (Delete db key) limit st session line answer vs change rest some faults is = run_can (active_of session st.actives) limit st session line (Delete db key) answer vs change rest some faults is
performed_can (Count cursor) limit st session line answer vs change rest some faults is = run_can (active_of session st.actives) limit st session line (Count cursor) answer vs change rest some faults is
performed_can (Cur cursor motion rmw) limit st session line answer vs change rest some faults is = run_can (active_of session st.actives) limit st session line (Cur cursor motion rmw) answer vs change rest some faults is
performed_can (CPutCur cursor value) limit st session line answer vs change rest some faults is = run_can (active_of session st.actives) limit st session line (CPutCur cursor value) answer vs change rest some faults is
performed_can (CDel cursor) limit st session line answer vs change rest some faults is = run_can (active_of session st.actives) limit st session line (CDel cursor) answer vs change rest some faults is
performed_can (CPut cursor key value mode) limit st session line answer vs change rest some faults is = run_can (active_of session st.actives) limit st session line (CPut cursor key value mode) answer vs change rest some faults is

evaluated_can : (o limit : Option Answer) (st : Standing) (session line : ℕ) (call : Call) (answer : Answer) (vs : List Victim) (change : Change) (rest : List Change)
    → changes_evaluated o st session call ≡ change ∷ rest → fate_of answer ≡ Faults → IsEvaluated o limit st session line call answer vs → CanSucceed (λ x. IsEvaluated o limit st session line call x vs) (after_evaluated o st session line call answer vs).fault
evaluated_can (Some refusal) limit st session line call answer vs change rest some faults is = nothing (CanSucceed (λ x. IsEvaluated (Some refusal) limit st session line call x vs) (after_evaluated (Some refusal) st session line call answer vs).fault) change rest some
evaluated_can None limit st session line call answer vs change rest some faults is = performed_can call limit st session line answer vs change rest some faults is

call_can : (o limit : Option Answer) (st : Standing) (session line : ℕ) (call : Call) (answer : Answer) (vs : List Victim) (change : Change) (rest : List Change)
    → changes_of o st session call ≡ change ∷ rest → fate_of answer ≡ Faults → IsCallAnswered o limit st session line call answer vs → CanSucceed (λ x. IsCallAnswered o limit st session line call x vs) (after_call o st session line call answer vs).fault
call_can (Some refusal) limit st session line call answer vs change rest some faults is = nothing (CanSucceed (λ x. IsCallAnswered (Some refusal) limit st session line call x vs) (after_call (Some refusal) st session line call answer vs).fault) change rest some
call_can None limit st session line call answer vs change rest some faults is = evaluated_can (late_refusal st session call) limit st session line call answer vs change rest some faults is

resumed_can : (o : Option Wait) (limit : Option Answer) (st : Standing) (session line : ℕ) (answer : Answer) (vs : List Victim) (change : Change) (rest : List Change)
    → changes_resumed o st session ≡ change ∷ rest → fate_of answer ≡ Faults → IsResumed o limit st session line answer vs → CanSucceed (λ x. IsResumed o limit st session line x vs) (after_resumed o st session line answer vs).fault
resumed_can None limit st session line answer vs change rest some faults is = absurd is
resumed_can (Some w) limit st session line answer vs change rest some faults is =
    let k = call_can (early_refusal (resumed st w) session w.call) limit (resumed st w) session line w.call answer vs change rest some faults is.2 in
    record { answer = k.answer; is = (is.0, is.1, k.is); fate = k.fate; faulted = k.faulted }

-- the same event, with an answer that says that its changes are committed; after the one that met it there is a fault
pub record IsRedone (limit : Option Answer) (st : Standing) (event : Event) : Type 0 where
  pub other : Event
  pub is : IsAnswered limit st other
  pub changes : changes_by st other ≡ changes_by st event
  pub fate : answer_by other ≡ Succeeds
  pub faulted : (after_event st event).fault ≡ Some Disk

pub redone : (limit : Option Answer) (st : Standing) (event : Event) (change : Change) (rest : List Change) → IsAnswered limit st event → changes_by st event ≡ change ∷ rest → answer_by event ≡ Faults → IsRedone limit st event
redone limit st (Called session line call answer vs) change rest is some faults =
    let k = call_can (early_refusal st session call) limit st session line call answer vs change rest some faults is in
    record { other = Called session line call k.answer vs; is = k.is; changes = refl; fate = k.fate; faulted = k.faulted }
redone limit st (Resume session line answer vs) change rest is some faults =
    let k = resumed_can (wait_of session st.waiting) limit st session line answer vs change rest some faults is in
    record { other = Resume session line k.answer vs; is = k.is; changes = refl; fate = k.fate; faulted = k.faulted }
redone limit st (End session) change rest is some faults = nothing (IsRedone limit st (End session)) change rest some
redone limit st (WriteOut answer) change rest is some faults = nothing (IsRedone limit st (WriteOut answer)) change rest some
redone limit st (SyncBegin answer) change rest is some faults = nothing (IsRedone limit st (SyncBegin answer)) change rest some
redone limit st (SyncEnd answer) change rest is some faults = nothing (IsRedone limit st (SyncEnd answer)) change rest some
redone limit st (Turn line step answer) change rest is some faults = nothing (IsRedone limit st (Turn line step answer)) change rest some
