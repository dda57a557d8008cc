-- Where a load stands: before its transaction, in it, and behind its last line.
use Rattle.std.proofs.Common.{◌≡◌, ◌==◌, ◌⊎◌, length, nat_le, inl, inr, ℕ, Bool, true, false, cond, nat_lt, List, [], ◌∷◌, Option, None, Some, refl, ap, sym, ◌∙◌, subst}
use Rattle.std.specs.Option.{is_some}
use Rattle.std.proofs.lemmas.Bool.{eqb-true}
use Rattle.je_order.specs.declared.txn_id.TxnId.{TxnId}
use Rattle.store_model.specs.declared.store.TheConstants.{LAST_TXN, MOST_DATABASES}
use Rattle.store_model.specs.declared.kind.Kind.{Kind}
use Rattle.store_model.specs.declared.put_mode.PutMode.{PutMode}
use Rattle.store_model.specs.declared.isolation.Isolation.{Isolation}
use Rattle.store_model.specs.declared.isolation.Isolation.TheVariants.{RepeatableRead}
use Rattle.store_model.specs.declared.durability.Durability.TheVariants.{Sync}
use Rattle.store_model.specs.declared.call.Call.{Call}
use Rattle.store_model.specs.declared.call.Call.TheVariants.{Begin, Commit, Create, Put}
use Rattle.store_model.specs.declared.change.Change.{Change}
use Rattle.store_model.specs.declared.change.Change.TheVariants.{Make}
use Rattle.store_model.specs.declared.record_change.RecordChange.{RecordChange}
use Rattle.store_model.specs.declared.need.Need.{Need}
use Rattle.store_model.specs.declared.step.Step.{Step}
use Rattle.store_model.specs.declared.step.Step.TheVariants.{Begin as BeginStep, Flush, Finish, Sync as SyncStep}
use Rattle.store_model.specs.declared.victim.Victim.{Victim}
use Rattle.store_model.specs.declared.answer.Fault.{Fault}
use Rattle.store_model.specs.declared.answer.Answer.{Answer}
use Rattle.store_model.specs.declared.answer.Answer.TheVariants.{Done, DatabaseInUse, DiskFault, IdsEnded, LogFull, NameTaken, TooMany}
use Rattle.store_model.specs.declared.event.Event.{Event}
use Rattle.store_model.specs.declared.event.Event.TheVariants.{Call as Called, Resume, End, WriteOut, SyncBegin, SyncEnd, Turn}
use Rattle.store_model.specs.Records.{Evaluated}
use Rattle.store_model.specs.Refusals.{creation_refusal, next_txn, or_refusal}
use Rattle.store_model.specs.Store.{database_of}
use Rattle.je_answers.specs.declared.active.Active.{Active}
use Rattle.je_answers.specs.declared.wait.Wait.{Wait}
use Rattle.je_answers.specs.Standing.{Standing, active_of, wait_of, without_wait}
use Rattle.je_answers.specs.Views.{Target, target_of, outcome_of, needs_in}
use Rattle.je_answers.specs.Refusals.{early_refusal, fault_refusal, late_refusal}
use Rattle.je_answers.specs.Locking.{Queues, all_got, first_blocked, given_back}
use Rattle.je_answers.specs.Events.{IsAnswered, IsCallAnswered, IsEvaluated, IsResumed}
use Rattle.je_answers.specs.After.{Fate, fate_of, drawn_by, closed, ended_if_any, after_fate, after_changes, after_taking, after_on, after_run, after_commit, after_ending, after_catalog, after_evaluated, after_call, faulted_if, after_begin, after_turn, after_event}
use Rattle.je_answers.specs.After.Fate.{Succeeds, IsRefused, Faults}
use Rattle.je_answers.specs.Alone.{Alone, alone, committed_alone, drawn_alone, faulted_alone}
use Rattle.je_answers.specs.Journal.{attempt_of, changes_evaluated, changes_of, tried}
use Rattle.load_laws.specs.Given.{is_refusal}
use Rattle.load_laws.proofs.OwnLocks.{AreAllOf, all_got_of, none_blocks}

-- ---- before the transaction nothing is under way

-- nothing is under way
abbrev pub IsAlone : Standing → Type 0
IsAlone st = (p : Alone) × (st ≡ alone p)

alone_faulted : (answer : Answer) (p : Alone) → IsAlone (faulted_if answer (alone p))
alone_faulted DiskFault p = (faulted_alone p, refl)
alone_faulted answer p = (p, refl)

alone_begin : (answer : Answer) (p : Alone) → IsAlone (after_begin (alone p) answer)
alone_begin Done p = (record p { begun = Some p.commits }, refl)
alone_begin DiskFault p = (faulted_alone p, refl)
alone_begin answer p = (p, refl)

alone_turn : (step : Step) (answer : Answer) (p : Alone) → IsAlone (after_turn step (alone p) answer)
alone_turn BeginStep Done p = (record p { in_checkpoint = true }, refl)
alone_turn Finish Done p = (record p { in_checkpoint = false }, refl)
alone_turn BeginStep answer p = alone_faulted answer p
alone_turn Finish answer p = alone_faulted answer p
alone_turn Flush answer p = alone_faulted answer p
alone_turn SyncStep answer p = alone_faulted answer p

-- an event that is no call
pub alone_quiet : (p : Alone) (event : Event) → ((session line : ℕ) (call : Call) (answer : Answer) (victims : List Victim) → event ≡ Called session line call answer victims → ⊥) → IsAlone (after_event (alone p) event)
alone_quiet p (Called session line call answer victims) none = absurd (none session line call answer victims refl)
alone_quiet p (Resume session line answer victims) none = (p, refl)
alone_quiet p (End session) none = (p, refl)
alone_quiet p (WriteOut answer) none = alone_faulted answer p
alone_quiet p (SyncBegin answer) none = alone_begin answer p
alone_quiet p (SyncEnd answer) none = alone_faulted answer (record p { begun = None })
alone_quiet p (Turn line step answer) none = alone_turn step answer p

-- ---- the call that makes the database

-- what it comes to: it was refused; or it is made, and was logged or met a disk fault
pub record IsCreated (kept : Bool) (answer : Answer) (attempt : List (List Change)) (db : List ℕ) (kind : Kind) : Type 0 where
  pub is : (attempt ≡ [] × (is_refusal kept answer ≡ true)) ⊎ (attempt ≡ (Make db kind ∷ []) ∷ [])

alone_catalog : (fate : Fate) (db : List ℕ) (kind : Kind) (p : Alone) → IsAlone (after_catalog fate (Make db kind ∷ []) None (alone p))
alone_catalog Succeeds db kind p = (committed_alone (Make db kind ∷ []) (drawn_alone p), refl)
alone_catalog IsRefused db kind p = (drawn_alone p, refl)
alone_catalog Faults db kind p = (faulted_alone p, refl)

alone_late : (late : Option Answer) (p : Alone) (line : ℕ) (db : List ℕ) (kind : Kind) (answer : Answer) (victims : List Victim) → IsAlone (after_evaluated late (alone p) 1 line (Create db kind) answer victims)
alone_late (Some refusal) p line db kind answer victims = (drawn_alone p, refl)
alone_late None p line db kind answer victims = alone_catalog (fate_of answer) db kind p

alone_early : (early : Option Answer) (p : Alone) (line : ℕ) (db : List ℕ) (kind : Kind) (answer : Answer) (victims : List Victim) → IsAlone (after_call early (alone p) 1 line (Create db kind) answer victims)
alone_early (Some refusal) p line db kind answer victims = (p, refl)
alone_early None p line db kind answer victims = alone_late (late_refusal (alone p) 1 (Create db kind)) p line db kind answer victims

-- it leaves nothing under way
pub alone_create : (p : Alone) (line : ℕ) (db : List ℕ) (kind : Kind) (answer : Answer) (victims : List Victim) → IsAlone (after_event (alone p) (Called 1 line (Create db kind) answer victims))
alone_create p line db kind answer victims = alone_early (early_refusal (alone p) 1 (Create db kind)) p line db kind answer victims

-- ---- in the transaction

-- the one transaction under way is the session's, and it has each lock that is held; no call waits
pub record IsInLoadAt (actives : List Active) (waiting : List Wait) (at : Queues) : Type 0 where
  pub active : Active
  pub is : actives ≡ active ∷ []
  pub session : active.session ≡ 1
  pub own : active.is_auto ≡ false
  pub level : active.level ≡ RepeatableRead
  pub waits : waiting ≡ []
  pub locks : AreAllOf active.txn at

abbrev pub IsInLoad : Standing → Type 0
IsInLoad st = IsInLoadAt st.actives st.waiting st.locks.at

pub found_one : (session : ℕ) (a : Active) (b : Bool) → (a.session == session) ≡ b → active_of session (a ∷ []) ≡ cond b (Some a) None
found_one session a b e = rw e refl

-- its transaction is found
pub its_active : (st : Standing) (x : IsInLoad st) → active_of 1 st.actives ≡ Some x.active
its_active st x = ap (active_of 1) x.is ∙ found_one 1 x.active true (ap (λ n. n == 1) x.session)

load_faulted : (answer : Answer) (st : Standing) → IsInLoad st → IsInLoad (faulted_if answer st)
load_faulted DiskFault st h = h
load_faulted answer st h = h

load_begin : (answer : Answer) (st : Standing) → IsInLoad st → IsInLoad (after_begin st answer)
load_begin Done st h = h
load_begin DiskFault st h = h
load_begin answer st h = h

load_turn : (step : Step) (answer : Answer) (st : Standing) → IsInLoad st → IsInLoad (after_turn step st answer)
load_turn BeginStep Done st h = h
load_turn Finish Done st h = h
load_turn BeginStep answer st h = load_faulted answer st h
load_turn Finish answer st h = load_faulted answer st h
load_turn Flush answer st h = load_faulted answer st h
load_turn SyncStep answer st h = load_faulted answer st h

-- a sync, a write-out, a step
pub load_written : (st : Standing) (answer : Answer) → IsInLoad st → IsInLoad (after_event st (WriteOut answer))
load_written st answer h = load_faulted answer st h

pub load_synced : (st : Standing) (answer : Answer) → IsInLoad st → IsInLoad (after_event st (SyncBegin answer)) × IsInLoad (after_event st (SyncEnd answer))
load_synced st answer h = (load_begin answer st h, load_faulted answer (record st { begun = None }) h)

pub load_turned : (st : Standing) (line : ℕ) (step : Step) (answer : Answer) → IsInLoad st → IsInLoad (after_event st (Turn line step answer))
load_turned st line step answer h = load_turn step answer st h

-- ---- a put

pub locks_after : (level : Isolation) (t : TxnId) (ns : List Need) (at : Queues) → level ≡ RepeatableRead → AreAllOf t at → AreAllOf t (given_back level t (all_got t ns at))
locks_after level t ns at is all =
    subst (λ (l : Isolation). AreAllOf t (given_back l t (all_got t ns at))) (sym is) (all_got_of t ns at all)

-- the calls that got its locks were answered
load_locked : (st : Standing) (x : IsInLoad st) (ns : List Need) → IsInLoadAt st.actives st.waiting (given_back x.active.level x.active.txn (all_got x.active.txn ns st.locks.at))
load_locked st x ns = record {
  active = x.active;
  is = x.is;
  session = x.session;
  own = x.own;
  level = x.level;
  waits = x.waits;
  locks = locks_after x.active.level x.active.txn ns st.locks.at x.level x.locks;
}

load_closed : (b : Bool) (a : Active) (changes : List Change) (st : Standing) → b ≡ false → IsInLoad st → IsInLoad (closed b a changes st)
load_closed false a changes st e h = h
load_closed true a changes st e h = cc

put_fate : (fate : Fate) (st : Standing) (x : IsInLoad st) (call : Call) (g : Target) (e : Evaluated) → IsInLoad (after_fate fate st st x.active call g e)
put_fate Faults st x call g e = x
put_fate Succeeds st x call g e = load_closed x.active.is_auto x.active _ _ x.own (load_locked st x (needs_in st x.active call g))
put_fate IsRefused st x call g e = load_closed x.active.is_auto x.active _ _ x.own (load_locked st x (needs_in st x.active call g))

put_changes : (changes : List RecordChange) (st : Standing) (x : IsInLoad st) (call : Call) (g : Target) (e : Evaluated) (answer : Answer) → IsInLoad (after_changes changes st st x.active call g e answer)
put_changes [] st x call g e answer = put_fate Succeeds st x call g e
put_changes (change ∷ changes) st x call g e answer = put_fate (fate_of answer) st x call g e

put_taking : (o : Option Need) (st : Standing) (x : IsInLoad st) (line : ℕ) (call : Call) (g : Target) (answer : Answer) (victims : List Victim) → o ≡ None → IsInLoad (after_taking o st st x.active line call g answer victims)
put_taking None st x line call g answer victims e = put_changes (outcome_of st x.active call g).changes st x call g (outcome_of st x.active call g) answer
put_taking (Some n) st x line call g answer victims e = cc

put_on : (o : Option Target) (st : Standing) (x : IsInLoad st) (line : ℕ) (call : Call) (answer : Answer) (victims : List Victim) → IsInLoad (after_on o st st x.active line call answer victims)
put_on None st x line call answer victims = x
put_on (Some g) st x line call answer victims =
    put_taking (first_blocked x.active.txn (needs_in st x.active call g) st.locks.at) st x line call g answer victims (none_blocks x.active.txn (needs_in st x.active call g) st.locks.at x.locks)

put_run : (o : Option Active) (st : Standing) (x : IsInLoad st) (line : ℕ) (call : Call) (answer : Answer) (victims : List Victim) → o ≡ Some x.active → IsInLoad (after_run o st 1 line call answer victims)
put_run o st x line call answer victims e = subst (λ (a : Option Active). IsInLoad (after_run a st 1 line call answer victims)) (sym e) (put_on (target_of st 1 call) st x line call answer victims)

put_drawn : (o : Option Active) (st : Standing) (x : IsInLoad st) → o ≡ Some x.active → IsInLoad (drawn_by o st)
put_drawn o st x e = subst (λ (a : Option Active). IsInLoad (drawn_by a st)) (sym e) x

put_late : (late : Option Answer) (st : Standing) (x : IsInLoad st) (line : ℕ) (db key value : List ℕ) (mode : PutMode) (answer : Answer) (victims : List Victim) → IsInLoad (after_evaluated late st 1 line (Put db key value mode) answer victims)
put_late (Some refusal) st x line db key value mode answer victims = put_drawn (active_of 1 st.actives) st x (its_active st x)
put_late None st x line db key value mode answer victims = put_run (active_of 1 st.actives) st x line (Put db key value mode) answer victims (its_active st x)

put_early : (early : Option Answer) (st : Standing) (x : IsInLoad st) (line : ℕ) (db key value : List ℕ) (mode : PutMode) (answer : Answer) (victims : List Victim) → IsInLoad (after_call early st 1 line (Put db key value mode) answer victims)
put_early (Some refusal) st x line db key value mode answer victims = x
put_early None st x line db key value mode answer victims = put_late (late_refusal st 1 (Put db key value mode)) st x line db key value mode answer victims

-- a put waits for nobody, and leaves its session in its transaction
pub load_put : (st : Standing) (x : IsInLoad st) (line : ℕ) (db key value : List ℕ) (mode : PutMode) (answer : Answer) (victims : List Victim) → IsInLoad (after_event st (Called 1 line (Put db key value mode) answer victims))
load_put st x line db key value mode answer victims = put_early (early_refusal st 1 (Put db key value mode)) st x line db key value mode answer victims

-- ---- the commit

commit_waits : (fate : Fate) (changes : List Change) (a : Active) (st : Standing) → (after_commit fate changes a st).waiting ≡ st.waiting
commit_waits Succeeds [] a st = refl
commit_waits Succeeds (change ∷ changes) a st = refl
commit_waits IsRefused changes a st = refl
commit_waits Faults changes a st = refl

ending_waits : (o : Option Active) (st : Standing) (answer : Answer) → (after_ending o st answer).waiting ≡ st.waiting
ending_waits None st answer = refl
ending_waits (Some a) st answer = commit_waits (fate_of answer) _ a st

drawn_waits : (o : Option Active) (st : Standing) → (drawn_by o st).waiting ≡ st.waiting
drawn_waits None st = refl
drawn_waits (Some a) st = refl

late_waits : (late : Option Answer) (st : Standing) (line : ℕ) (answer : Answer) (victims : List Victim) → (after_evaluated late st 1 line Commit answer victims).waiting ≡ st.waiting
late_waits (Some refusal) st line answer victims = drawn_waits (active_of 1 st.actives) st
late_waits None st line answer victims = ending_waits (active_of 1 st.actives) st answer

early_waits : (early : Option Answer) (st : Standing) (line : ℕ) (answer : Answer) (victims : List Victim) → (after_call early st 1 line Commit answer victims).waiting ≡ st.waiting
early_waits (Some refusal) st line answer victims = refl
early_waits None st line answer victims = late_waits (late_refusal st 1 Commit) st line answer victims

-- behind a commit no call waits that did not before
pub commit_waits_none : (st : Standing) (line : ℕ) (answer : Answer) (victims : List Victim) → st.waiting ≡ [] → (after_event st (Called 1 line Commit answer victims)).waiting ≡ []
commit_waits_none st line answer victims e = early_waits (early_refusal st 1 Commit) st line answer victims ∙ e

-- a sync, a write-out or a step lets no call wait
pub written_waits : (answer : Answer) (st : Standing) → (faulted_if answer st).waiting ≡ st.waiting
written_waits DiskFault st = refl
written_waits answer st = refl

pub begin_waits : (answer : Answer) (st : Standing) → (after_begin st answer).waiting ≡ st.waiting
begin_waits Done st = refl
begin_waits DiskFault st = refl
begin_waits answer st = refl

pub turn_waits : (step : Step) (answer : Answer) (st : Standing) → (after_turn step st answer).waiting ≡ st.waiting
turn_waits BeginStep Done st = refl
turn_waits Finish Done st = refl
turn_waits BeginStep answer st = written_waits answer st
turn_waits Finish answer st = written_waits answer st
turn_waits Flush answer st = written_waits answer st
turn_waits SyncStep answer st = written_waits answer st

-- ---- the end of a session

ended_waits : (o : Option Active) (st : Standing) → (ended_if_any o st).waiting ≡ st.waiting
ended_waits None st = refl
ended_waits (Some a) st = refl

pub end_waits_none : (st : Standing) (session : ℕ) → st.waiting ≡ [] → (after_event st (End session)).waiting ≡ []
end_waits_none st session e = ended_waits (active_of session st.actives) (record st { waiting = without_wait session st.waiting }) ∙ ap (without_wait session) e

-- a session that ends is that of the load, or the load goes on
pub load_ended : (st : Standing) (x : IsInLoad st) (session : ℕ) → (session ≡ 1) ⊎ IsInLoad (after_event st (End session))
load_ended st x session = by (x.active.session == session) refl where
  by : (b : Bool) → (x.active.session == session) ≡ b → (session ≡ 1) ⊎ IsInLoad (after_event st (End session))
  by true e = inl (sym (eqb-true x.active.session session e) ∙ x.session)
  by false e =
      let none : active_of session st.actives ≡ None = ap (active_of session) x.is ∙ found_one session x.active false e in
      inr (subst (λ (a : Option Active). IsInLoad (ended_if_any a (record st { waiting = without_wait session st.waiting }))) (sym none)
      (record { active = x.active; is = x.is; session = x.session; own = x.own; level = x.level; waits = ap (without_wait session) x.waits; locks = x.locks }))

-- no call that waits can go on
pub none_resumes : (limit : Option Answer) (st : Standing) (session line : ℕ) (answer : Answer) (victims : List Victim) → st.waiting ≡ [] → IsAnswered limit st (Resume session line answer victims) → ⊥
none_resumes limit st session line answer victims e is =
    subst (λ (o : Option Wait). IsResumed o limit st session line answer victims) (ap (wait_of session) e) is

-- ---- the beginning

-- it was refused, and nothing is under way; or the session is in its transaction
abbrev pub HasBegun : Bool → Answer → Standing → Type 0
HasBegun kept answer st = ((is_refusal kept answer ≡ true) × IsAlone st) ⊎ IsInLoad st

no_owner : (t : TxnId) (p : Alone) → AreAllOf t (alone p).locks.at
no_owner t p = λ r. tt

begin_late : (kept : Bool) (limit : Option Answer) (b : Bool) (p : Alone) (line : ℕ) (answer : Answer) (victims : List Victim) →
    IsEvaluated (or_refusal (cond b None (Some IdsEnded)) None) limit (alone p) 1 line (Begin RepeatableRead Sync true) answer victims →
    HasBegun kept answer (after_evaluated (or_refusal (cond b None (Some IdsEnded)) None) (alone p) 1 line (Begin RepeatableRead Sync true) answer victims)
begin_late kept limit false p line answer victims is = inl (ap (is_refusal kept) is.0, (drawn_alone p, refl))
begin_late kept limit true p line answer victims is = inr (record {
  active = _;
  is = refl;
  session = refl;
  own = refl;
  level = refl;
  waits = refl;
  locks = no_owner (record { 0 = next_txn p.last_txn }) p;
})

begin_early : (kept : Bool) (limit : Option Answer) (fault : Option Fault) (p : Alone) (line : ℕ) (answer : Answer) (victims : List Victim) →
    IsCallAnswered (or_refusal (fault_refusal fault) None) limit (alone p) 1 line (Begin RepeatableRead Sync true) answer victims →
    HasBegun kept answer (after_call (or_refusal (fault_refusal fault) None) (alone p) 1 line (Begin RepeatableRead Sync true) answer victims)
begin_early kept limit (Some first) p line answer victims is = inl (ap (is_refusal kept) is.0, (p, refl))
begin_early kept limit None p line answer victims is = begin_late kept limit (nat_lt p.last_txn LAST_TXN) p line answer victims is

pub load_begun : (kept : Bool) (limit : Option Answer) (p : Alone) (line : ℕ) (answer : Answer) (victims : List Victim) →
    IsAnswered limit (alone p) (Called 1 line (Begin RepeatableRead Sync true) answer victims) → HasBegun kept answer (after_event (alone p) (Called 1 line (Begin RepeatableRead Sync true) answer victims))
load_begun kept limit p line answer victims is = begin_early kept limit p.fault p line answer victims is

-- ---- what the call that makes the database attempts

fate_refused : (kept : Bool) (answer : Answer) → fate_of answer ≡ IsRefused → is_refusal kept answer ≡ true
fate_refused kept (DatabaseInUse txn) e = refl
fate_refused kept LogFull e = refl
fate_refused kept IdsEnded e = refl
fate_refused kept answer e = cc

create_tried : (kept : Bool) (fate : Fate) (answer : Answer) (db : List ℕ) (kind : Kind) → fate_of answer ≡ fate → IsCreated kept answer (tried (Make db kind ∷ []) fate) db kind
create_tried kept Succeeds answer db kind e = record { is = inr refl }
create_tried kept IsRefused answer db kind e = record { is = inl (refl, fate_refused kept answer e) }
create_tried kept Faults answer db kind e = record { is = inr refl }

-- the refusals of that call
made_taken : (kept : Bool) (limit : Option Answer) (taken many : Bool) (p : Alone) (line : ℕ) (db : List ℕ) (kind : Kind) (answer : Answer) (victims : List Victim) →
    IsEvaluated (or_refusal (cond taken (Some NameTaken) (cond many (Some (TooMany MOST_DATABASES)) None)) None) limit (alone p) 1 line (Create db kind) answer victims →
    IsCreated kept answer (tried (changes_evaluated (or_refusal (cond taken (Some NameTaken) (cond many (Some (TooMany MOST_DATABASES)) None)) None) (alone p) 1 (Create db kind)) (fate_of answer)) db kind
made_taken kept limit true many p line db kind answer victims is = record { is = inl (refl, ap (is_refusal kept) is.0) }
made_taken kept limit false true p line db kind answer victims is = record { is = inl (refl, ap (is_refusal kept) is.0) }
made_taken kept limit false false p line db kind answer victims is = create_tried kept (fate_of answer) answer db kind refl

made_late : (kept : Bool) (limit : Option Answer) (b : Bool) (p : Alone) (line : ℕ) (db : List ℕ) (kind : Kind) (answer : Answer) (victims : List Victim) →
    IsEvaluated (or_refusal (cond b None (Some IdsEnded)) (or_refusal (creation_refusal (is_some (database_of db p.store)) (length p.store.databases)) None)) limit (alone p) 1 line (Create db kind) answer victims →
    IsCreated kept answer (tried (changes_evaluated (or_refusal (cond b None (Some IdsEnded)) (or_refusal (creation_refusal (is_some (database_of db p.store)) (length p.store.databases)) None)) (alone p) 1 (Create db kind)) (fate_of answer)) db kind
made_late kept limit false p line db kind answer victims is = record { is = inl (refl, ap (is_refusal kept) is.0) }
made_late kept limit true p line db kind answer victims is =
    made_taken kept limit (is_some (database_of db p.store)) (nat_le MOST_DATABASES (length p.store.databases)) p line db kind answer victims is

made_early : (kept : Bool) (limit : Option Answer) (fault : Option Fault) (p : Alone) (line : ℕ) (db : List ℕ) (kind : Kind) (answer : Answer) (victims : List Victim) →
    IsCallAnswered (or_refusal (fault_refusal fault) None) limit (alone p) 1 line (Create db kind) answer victims →
    IsCreated kept answer (tried (changes_of (or_refusal (fault_refusal fault) None) (alone p) 1 (Create db kind)) (fate_of answer)) db kind
made_early kept limit (Some first) p line db kind answer victims is = record { is = inl (refl, ap (is_refusal kept) is.0) }
made_early kept limit None p line db kind answer victims is = made_late kept limit (nat_lt p.last_txn LAST_TXN) p line db kind answer victims is

pub load_created : (kept : Bool) (limit : Option Answer) (p : Alone) (line : ℕ) (db : List ℕ) (kind : Kind) (answer : Answer) (victims : List Victim) →
    IsAnswered limit (alone p) (Called 1 line (Create db kind) answer victims) → IsCreated kept answer (attempt_of (alone p) (Called 1 line (Create db kind) answer victims)) db kind
load_created kept limit p line db kind answer victims is = made_early kept limit p.fault p line db kind answer victims is
