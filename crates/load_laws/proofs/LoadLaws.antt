-- What the events of a load attempt.
use Rattle.std.proofs.Common.{arith, ◌≡◌, ◌≤◌, ◌+◌, ℕ, List, [], ◌∷◌, Option, Some, None, Bool, true, false, length, length-append, filter, refl}
use Rattle.store_model.specs.declared.answer.Answer.{Answer}
use Rattle.store_model.specs.declared.call.Call.{Call}
use Rattle.store_model.specs.declared.call.Call.TheVariants.{Begin, Commit, Create, Put}
use Rattle.store_model.specs.declared.change.Change.{Change}
use Rattle.store_model.specs.declared.need.Need.{Need}
use Rattle.store_model.specs.declared.event.Event.{Event}
use Rattle.store_model.specs.declared.event.Event.TheVariants.{Call as Called, Resume, End, WriteOut, SyncBegin, SyncEnd, Turn}
use Rattle.je_answers.specs.declared.active.Active.{Active}
use Rattle.je_answers.specs.Standing.{Standing, active_of}
use Rattle.je_answers.specs.Views.{Target, target_of, needs_in}
use Rattle.je_answers.specs.Refusals.{early_refusal, late_refusal}
use Rattle.je_answers.specs.Locking.{first_blocked}
use Rattle.je_answers.specs.After.{Fate, fate_of, after_event}
use Rattle.je_answers.specs.After.Fate.{Succeeds, IsRefused, Faults}
use Rattle.je_answers.specs.Journal.{attempt_of, attempts_of, changes_evaluated, changes_in, changes_of, changes_performed, changes_run, changes_taken, tried}
use Rattle.load_laws.specs.Loads.{IsInTxn, IsLoadCall, IsLoadEvent, LoadsAttemptFew, is_committing, may_commit}

tried_few : (changes : List Change) (fate : Fate) → length (tried changes fate) ≤ 1
tried_few [] fate = omega arith
tried_few (change ∷ changes) Succeeds = omega arith
tried_few (change ∷ changes) IsRefused = omega arith
tried_few (change ∷ changes) Faults = omega arith

-- a call in a transaction that its session began commits nothing
taken_none : (n : Option Need) (st : Standing) (a : Active) (call : Call) (g : Target) → a.is_auto ≡ false → changes_taken n st a call g ≡ []
taken_none None st a call g own = rw own refl
taken_none (Some n) st a call g own = refl

in_none : (g : Option Target) (st : Standing) (a : Active) (call : Call) → a.is_auto ≡ false → changes_in g st a call ≡ []
in_none None st a call own = refl
in_none (Some g) st a call own = taken_none (first_blocked a.txn (needs_in st a call g) st.locks.at) st a call g own

pub run_none : (session : ℕ) (st : Standing) (call : Call) → IsInTxn session st → changes_run (active_of session st.actives) st session call ≡ []
run_none session st call in_txn = rw in_txn.is (in_none (target_of st session call) st in_txn.active call in_txn.own)

evaluated_none : (refusal : Option Answer) (st : Standing) (session : ℕ) (call : Call) → changes_performed call st session ≡ [] → changes_evaluated refusal st session call ≡ []
evaluated_none None st session call none = none
evaluated_none (Some refusal) st session call none = refl

pub of_none : (refusal : Option Answer) (st : Standing) (session : ℕ) (call : Call) → changes_performed call st session ≡ [] → changes_of refusal st session call ≡ []
of_none None st session call none = evaluated_none (late_refusal st session call) st session call none
of_none (Some refusal) st session call none = refl

nothing : (changes : List Change) (fate : Fate) → changes ≡ [] → length (tried changes fate) ≤ 0
nothing changes fate none = rw none (omega arith)

call_few : (st : Standing) (session line : ℕ) (call : Call) (answer : Answer) → IsLoadCall session st call →
    length (tried (changes_of (early_refusal st session call) st session call) (fate_of answer)) ≤ length (filter is_committing (call ∷ []))
call_few st session line (Create db kind) answer is = tried_few (changes_of (early_refusal st session (Create db kind)) st session (Create db kind)) (fate_of answer)
call_few st session line Commit answer is = tried_few (changes_of (early_refusal st session Commit) st session Commit) (fate_of answer)
call_few st session line (Begin level durability wait) answer is =
    nothing (changes_of (early_refusal st session (Begin level durability wait)) st session (Begin level durability wait)) (fate_of answer)
    (of_none (early_refusal st session (Begin level durability wait)) st session (Begin level durability wait) refl)
call_few st session line (Put db key value mode) answer is =
    nothing (changes_of (early_refusal st session (Put db key value mode)) st session (Put db key value mode)) (fate_of answer)
    (of_none (early_refusal st session (Put db key value mode)) st session (Put db key value mode) (run_none session st (Put db key value mode) is))
call_few st session line call answer is = absurd is

same_count : (session line : ℕ) (call : Call) (answer : Answer) (victims : List _) (b : Bool) → is_committing call ≡ b →
    length (filter may_commit (Called session line call answer victims ∷ [])) ≡ length (filter is_committing (call ∷ []))
same_count session line call answer victims true e = rw e refl
same_count session line call answer victims false e = rw e refl

event_few : (st : Standing) (event : Event) → IsLoadEvent st event → length (attempt_of st event) ≤ length (filter may_commit (event ∷ []))
event_few st (Called session line call answer victims) is = rw (same_count session line call answer victims (is_committing call) refl) (call_few st session line call answer is)
event_few st (Resume session line answer victims) is = absurd is
event_few st (End session) is = omega arith
event_few st (WriteOut answer) is = omega arith
event_few st (SyncBegin answer) is = omega arith
event_few st (SyncEnd answer) is = omega arith
event_few st (Turn line step answer) is = omega arith

filter_two : (event : Event) (events : List Event) (b : Bool) → may_commit event ≡ b → length (filter may_commit (event ∷ events)) ≡ length (filter may_commit (event ∷ [])) + length (filter may_commit events)
filter_two event events true e = rw e (omega arith)
filter_two event events false e = rw e (omega arith)

pub loads_few : LoadsAttemptFew
loads_few st [] are = omega arith
loads_few st (event ∷ events) are =
    let one = event_few st event are.0 in
    let more = loads_few (after_event st event) events are.1 in
    let whole = length-append (attempt_of st event) (attempts_of (after_event st event) events) in
    let count = filter_two event events (may_commit event) refl in
    omega (arith, one, more, whole, count)
