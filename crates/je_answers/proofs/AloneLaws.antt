-- Where no transaction is under way, a call of its own meets no lock and leaves none.
use Rattle.std.proofs.Common.{◌≡◌, ℕ, ◌==◌, Bool, true, false, cond, not, List, [], ◌∷◌, Option, None, Some, refl, ap, ap₂, sym, ◌∙◌, subst, inl}
use Rattle.std.proofs.lemmas.Bool.{cond-false}
use Rattle.std.proofs.lemmas.Option.{none-some}
use mathlib.Core.Path.{fun_ext}
use Rattle.je_order.specs.declared.txn_id.TxnId.{TxnId}
use Rattle.lock_table.specs.declared.record_id.RecordId.{RecordId}
use Rattle.lock_table.specs.Locks.{after_release}
use Rattle.je_order.specs.Transactions.{is_same_txn}
use Rattle.store_model.specs.declared.call.Call.{Call}
use Rattle.store_model.specs.declared.call.Call.TheVariants.{List as Lists, Create, CreateIndex, Remove, Rename, Truncate, Get, GetBoth, Put, Delete}
use Rattle.store_model.specs.declared.change.Change.{Change}
use Rattle.store_model.specs.declared.record_change.RecordChange.{RecordChange}
use Rattle.store_model.specs.declared.need.Need.{Need}
use Rattle.store_model.specs.declared.place.Place.{Place}
use Rattle.store_model.specs.Refusals.{or_refusal}
use Rattle.store_model.specs.declared.answer.Answer.{Answer}
use Rattle.store_model.specs.declared.answer.Fault.{Fault}
use Rattle.store_model.specs.Records.{Evaluated}
use Rattle.store_model.specs.Evaluation.{evaluation as catalog_evaluation}
use Rattle.je_answers.specs.declared.active.Active.{Active}
use Rattle.je_answers.specs.Standing.{LockState, Standing, with_at}
use Rattle.je_answers.specs.Views.{Target, target_of, needs_in}
use Rattle.je_answers.specs.Refusals.{fault_refusal, early_refusal, late_refusal}
use Rattle.je_answers.specs.Locking.{Queues, all_got, first_blocked, released, IsUnused}
use Rattle.je_answers.specs.Events.{IsDone, IsTaken, IsOn, IsPerformed, IsEvaluated, IsCallAnswered, auto_active, begun}
use Rattle.je_answers.specs.After.{Fate, fate_of, without_session, closed, with_outcome, answered, after_fate, after_changes, after_taking, after_on, after_catalog, after_performed, after_evaluated, after_call}
use Rattle.je_answers.specs.After.Fate.{Succeeds, IsRefused, Faults}
use Rattle.je_answers.specs.Alone.{Alone, no_locks, alone, evaluated_on, changes_of_call, IsDoneOn, IsPerformedAlone, IsEvaluatedAlone, IsAnsweredAlone, drawn_alone, committed_alone, fate_alone, changes_alone, target_alone, performed_alone, evaluated_alone, after_alone, IsAutoCommitted, CallsStayAlone}
use Rattle.je_answers.proofs.Unlocked.{same_number, none_own, none_stopped, all_gone}

-- the transaction of a call, and the environment in which it is under way
abbrev its : Alone → ℕ → Active
its p session = auto_active (alone p) session

abbrev under_way : Alone → ℕ → Standing
under_way p session = begun (alone p) session

-- ---- answers

never_stopped : (p : Alone) (session : ℕ) (needs : List Need) → first_blocked (its p session).txn needs (λ r. ([], [])) ≡ None
never_stopped p session needs = none_stopped (its p session).txn needs (λ r. ([], [])) (none_own (its p session).txn)

-- how many commits there were is all that is asked of the standing
done_alike : (changes : List RecordChange) (limit : Option Answer) (p : Alone) (session : ℕ) (e : Evaluated) (answer : Answer) →
    IsDone changes limit (alone p) (its p session) e answer → IsDone changes limit (under_way p session) (its p session) e answer
done_alike [] limit p session e answer h = h
done_alike (change ∷ changes) limit p session e answer h = h

on_target : (o : Option Target) (limit : Option Answer) (p : Alone) (session line : ℕ) (call : Call) (answer : Answer) →
    IsDoneOn o limit p session call answer → IsOn o limit (under_way p session) (its p session) line call answer []
on_target None limit p session line call answer h = absurd h
on_target (Some g) limit p session line call answer h =
    subst (λ (n : Option Need). IsTaken n limit (under_way p session) (its p session) line call g answer [])
    (sym (never_stopped p session (needs_in (under_way p session) (its p session) call g)))
    (done_alike (evaluated_on call g).changes limit p session (evaluated_on call g) answer h, refl)

unused : (p : Alone) (db : ℕ) → IsUnused (alone p) db
unused p db = record {
  locks = λ b. refl;
  pending = λ t r is same. none-some r is;
  cursors = λ session. refl;
}

performed : (call : Call) (limit : Option Answer) (p : Alone) (session line : ℕ) (answer : Answer) →
    IsPerformedAlone call limit p session answer → IsPerformed call limit (alone p) session line answer []
performed Lists limit p session line answer h = (h, refl)
performed (Create db kind) limit p session line answer h = (h, refl)
performed (CreateIndex db index) limit p session line answer h = (inl (unused p (p.numbers index.primary), h), refl)
performed (Remove db) limit p session line answer h = (inl (unused p (p.numbers db), h), refl)
performed (Rename db to) limit p session line answer h = (inl (unused p (p.numbers db), h), refl)
performed (Truncate db) limit p session line answer h = (inl (unused p (p.numbers db), h), refl)
performed (Get db key rmw) limit p session line answer h = on_target (target_of (alone p) session (Get db key rmw)) limit p session line (Get db key rmw) answer h
performed (GetBoth db key value rmw) limit p session line answer h =
    on_target (target_of (alone p) session (GetBoth db key value rmw)) limit p session line (GetBoth db key value rmw) answer h
performed (Put db key value mode) limit p session line answer h =
    on_target (target_of (alone p) session (Put db key value mode)) limit p session line (Put db key value mode) answer h
performed (Delete db key) limit p session line answer h = on_target (target_of (alone p) session (Delete db key)) limit p session line (Delete db key) answer h
performed call limit p session line answer h = absurd h

evaluated : (late : Option Answer) (limit : Option Answer) (p : Alone) (session line : ℕ) (call : Call) (answer : Answer) →
    IsEvaluatedAlone late limit p session call answer → IsEvaluated late limit (alone p) session line call answer []
evaluated (Some refusal) limit p session line call answer h = (h, refl)
evaluated None limit p session line call answer h = performed call limit p session line answer h

called : (fault : Option Fault) (limit : Option Answer) (p : Alone) (session line : ℕ) (call : Call) (answer : Answer) →
    IsAnsweredAlone fault limit p session call answer → IsCallAnswered (fault_refusal fault) limit (alone p) session line call answer []
called None limit p session line call answer h = evaluated (late_refusal (alone p) session call) limit p session line call answer h
called (Some first) limit p session line call answer h = (h, refl)

-- only a fault refuses such a call before it allocates an id
behind_fault : (fault : Option Fault) → or_refusal (fault_refusal fault) None ≡ fault_refusal fault
behind_fault None = refl
behind_fault (Some first) = refl

early_is : (p : Alone) (session : ℕ) (call : Call) → IsAutoCommitted call → early_refusal (alone p) session call ≡ fault_refusal p.fault
early_is p session Lists is = behind_fault p.fault
early_is p session (Create db kind) is = behind_fault p.fault
early_is p session (CreateIndex db index) is = behind_fault p.fault
early_is p session (Remove db) is = behind_fault p.fault
early_is p session (Rename db to) is = behind_fault p.fault
early_is p session (Truncate db) is = behind_fault p.fault
early_is p session (Get db key rmw) is = behind_fault p.fault
early_is p session (GetBoth db key value rmw) is = behind_fault p.fault
early_is p session (Put db key value mode) is = behind_fault p.fault
early_is p session (Delete db key) is = behind_fault p.fault
early_is p session call is = absurd is

-- ---- what is left

-- the same environment with something left in it
abbrev left_with : Alone → List Active → (ℕ → List (ℕ × RecordChange)) → (ℕ → List Place) → LockState → Standing
left_with p actives own places locks = record {
  store = p.store;
  numbers = p.numbers;
  last_txn = p.last_txn;
  last_db = p.last_db;
  commits = p.commits;
  begun = p.begun;
  fault = p.fault;
  in_checkpoint = p.in_checkpoint;
  actives = actives;
  own = own;
  places = places;
  waiting = [];
  locks = locks;
}

nothing_left : (p : Alone) (actives : List Active) (own : ℕ → List (ℕ × RecordChange)) (places : ℕ → List Place) (locks : LockState) →
    actives ≡ [] → own ≡ (λ t. []) → places ≡ (λ session. []) → locks ≡ no_locks → left_with p actives own places locks ≡ alone p
nothing_left p actives own places locks a o q l =
    ap (λ (x : List Active). left_with p x own places locks) a
    ∙ ap (λ (x : ℕ → List (ℕ × RecordChange)). left_with p [] x places locks) o
    ∙ ap (λ (x : ℕ → List Place). left_with p [] (λ t. []) x locks) q
    ∙ ap (λ (x : LockState). left_with p [] (λ t. []) (λ session. []) x) l

abbrev nothing_of : (X : Type 0) → List X
nothing_of X = []

emptied : {X : Type 0} (b : Bool) (xs : List X) → cond b (nothing_of X) (cond b xs (nothing_of X)) ≡ nothing_of X
emptied true xs = refl
emptied false xs = refl

still_empty : {X : Type 0} (b : Bool) → cond b (nothing_of X) (nothing_of X) ≡ nothing_of X
still_empty true = refl
still_empty false = refl

back : {X : Type 0} (n : ℕ) (xs : List X) → with_at n (nothing_of X) (with_at n xs (λ m. nothing_of X)) ≡ (λ m. nothing_of X)
back n xs = fun_ext (λ m. emptied (m == n) xs)

back_at_once : {X : Type 0} (n : ℕ) → with_at n (nothing_of X) (λ m. nothing_of X) ≡ (λ m. nothing_of X)
back_at_once n = fun_ext (λ m. still_empty (m == n))

none_active : (p : Alone) (session : ℕ) → without_session session (its p session ∷ []) ≡ []
none_active p session = cond-false (not (session == session)) (its p session ∷ []) [] (ap not (same_number session))

abbrev no_record : Option RecordId
no_record = None

never_pending : (b : Bool) → cond b None None ≡ no_record
never_pending true = refl
never_pending false = refl

abbrev locks_with : Queues → (TxnId → Option RecordId) → LockState
locks_with at pending = record { at = at; pending = pending }

pair_of_locks : (at : Queues) (pending : TxnId → Option RecordId) → ((r : RecordId) → at r ≡ ([], [])) → ((t : TxnId) → pending t ≡ None) → locks_with at pending ≡ no_locks
pair_of_locks at pending a b = ap₂ locks_with (fun_ext a) (fun_ext b)

unlocked : (t : TxnId) (ns : List Need) → released t (locks_with (all_got t ns (λ r. ([], []))) (λ u. None)) ≡ no_locks
unlocked t ns =
    pair_of_locks (λ r. after_release t (all_got t ns (λ x. ([], [])) r)) (λ u. cond (is_same_txn t u) None None) (all_gone t ns) (λ u. never_pending (is_same_txn t u))

-- ---- where a call leaves the environment

-- the transaction of the call has ended
closing : (p : Alone) (session : ℕ) (call : Call) (g : Target) (e : Evaluated) (changes : List Change) →
    closed true (its p session) changes (with_outcome (its p session) call g e (answered (its p session) call g (under_way p session))) ≡ alone (committed_alone changes (drawn_alone p))
closing p session call g e [] =
    nothing_left (drawn_alone p) _ _ _ _ (none_active p session) (back _ _) (back session _) (unlocked (its p session).txn (needs_in (under_way p session) (its p session) call g))
closing p session call g e (change ∷ changes) =
    nothing_left (committed_alone (change ∷ changes) (drawn_alone p)) _ _ _ _ (none_active p session) (back _ _) (back session _)
    (unlocked (its p session).txn (needs_in (under_way p session) (its p session) call g))

refusing : (p : Alone) (session : ℕ) (call : Call) (g : Target) →
    closed true (its p session) [] (answered (its p session) call g (under_way p session)) ≡ alone (drawn_alone p)
refusing p session call g =
    nothing_left (drawn_alone p) _ _ _ _ (none_active p session) (back_at_once _) (back_at_once session)
    (unlocked (its p session).txn (needs_in (under_way p session) (its p session) call g))

fate_leaves : (fate : Fate) (p : Alone) (session : ℕ) (call : Call) (g : Target) (e : Evaluated) →
    after_fate fate (alone p) (under_way p session) (its p session) call g e ≡ alone (fate_alone fate (changes_of_call g e.changes) p)
fate_leaves Succeeds p session call g e = closing p session call g e (changes_of_call g e.changes)
fate_leaves IsRefused p session call g e = refusing p session call g
fate_leaves Faults p session call g e = refl

changes_leave : (changes : List RecordChange) (p : Alone) (session : ℕ) (call : Call) (g : Target) (e : Evaluated) (answer : Answer) → e.changes ≡ changes →
    after_changes changes (alone p) (under_way p session) (its p session) call g e answer ≡ alone (changes_alone changes g p answer)
changes_leave [] p session call g e answer is =
    fate_leaves Succeeds p session call g e ∙ ap (λ (cs : List RecordChange). alone (fate_alone Succeeds (changes_of_call g cs) p)) is
changes_leave (change ∷ changes) p session call g e answer is =
    fate_leaves (fate_of answer) p session call g e ∙ ap (λ (cs : List RecordChange). alone (fate_alone (fate_of answer) (changes_of_call g cs) p)) is

target_leaves : (o : Option Target) (p : Alone) (session line : ℕ) (call : Call) (answer : Answer) →
    after_on o (alone p) (under_way p session) (its p session) line call answer [] ≡ alone (target_alone o call p answer)
target_leaves None p session line call answer = refl
target_leaves (Some g) p session line call answer =
    ap (λ (n : Option Need). after_taking n (alone p) (under_way p session) (its p session) line call g answer []) (never_stopped p session (needs_in (under_way p session) (its p session) call g))
    ∙ changes_leave (evaluated_on call g).changes p session call g (evaluated_on call g) answer refl

catalog_leaves : (fate : Fate) (changes : List Change) (p : Alone) → after_catalog fate changes None (alone p) ≡ alone (fate_alone fate changes p)
catalog_leaves Succeeds [] p = refl
catalog_leaves Succeeds (change ∷ changes) p = refl
catalog_leaves IsRefused changes p = refl
catalog_leaves Faults changes p = refl

performed_leaves : (call : Call) (p : Alone) (session line : ℕ) (answer : Answer) → IsAutoCommitted call →
    after_performed call (alone p) session line answer [] ≡ alone (performed_alone call p session answer)
performed_leaves Lists p session line answer is = refl
performed_leaves (Create db kind) p session line answer is = catalog_leaves (fate_of answer) (catalog_evaluation (Create db kind) p.store).changes p
performed_leaves (CreateIndex db index) p session line answer is = catalog_leaves (fate_of answer) (catalog_evaluation (CreateIndex db index) p.store).changes p
performed_leaves (Remove db) p session line answer is = catalog_leaves (fate_of answer) (catalog_evaluation (Remove db) p.store).changes p
performed_leaves (Rename db to) p session line answer is = catalog_leaves (fate_of answer) (catalog_evaluation (Rename db to) p.store).changes p
performed_leaves (Truncate db) p session line answer is = catalog_leaves (fate_of answer) (catalog_evaluation (Truncate db) p.store).changes p
performed_leaves (Get db key rmw) p session line answer is = target_leaves (target_of (alone p) session (Get db key rmw)) p session line (Get db key rmw) answer
performed_leaves (GetBoth db key value rmw) p session line answer is =
    target_leaves (target_of (alone p) session (GetBoth db key value rmw)) p session line (GetBoth db key value rmw) answer
performed_leaves (Put db key value mode) p session line answer is =
    target_leaves (target_of (alone p) session (Put db key value mode)) p session line (Put db key value mode) answer
performed_leaves (Delete db key) p session line answer is = target_leaves (target_of (alone p) session (Delete db key)) p session line (Delete db key) answer
performed_leaves call p session line answer is = absurd is

evaluated_leaves : (late : Option Answer) (call : Call) (p : Alone) (session line : ℕ) (answer : Answer) → IsAutoCommitted call →
    after_evaluated late (alone p) session line call answer [] ≡ alone (evaluated_alone late call p session answer)
evaluated_leaves (Some refusal) call p session line answer is = refl
evaluated_leaves None call p session line answer is = performed_leaves call p session line answer is

called_leaves : (fault : Option Fault) (call : Call) (p : Alone) (session line : ℕ) (answer : Answer) → IsAutoCommitted call →
    after_call (fault_refusal fault) (alone p) session line call answer [] ≡ alone (after_alone fault call p session answer)
called_leaves None call p session line answer is = evaluated_leaves (late_refusal (alone p) session call) call p session line answer is
called_leaves (Some first) call p session line answer is = refl

pub calls-stay_alone : (limit : Option Answer) (p : Alone) (session line : ℕ) (call : Call) (answer : Answer) → IsAutoCommitted call → CallsStayAlone limit p session line call answer
calls-stay_alone limit p session line call answer is = record {
  answers = λ h. subst (λ (o : Option Answer). IsCallAnswered o limit (alone p) session line call answer []) (sym (early_is p session call is)) (called p.fault limit p session line call answer h);
  leaves = ap (λ (o : Option Answer). after_call o (alone p) session line call answer []) (early_is p session call is) ∙ called_leaves p.fault call p session line answer is;
}
