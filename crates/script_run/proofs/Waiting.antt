-- What each kind of event leaves awaited.
use Rattle.std.proofs.Common.{◌≡◌, ℕ, Bool, true, false, List, ◌∷◌, Option, Some, None, refl, ap, sym, subst, ⊎_elim, inl, inr}
use Rattle.std.specs.Prelude.{option_map}
use Rattle.store_model.specs.declared.call.Call.{Call}
use Rattle.store_model.specs.declared.durability.Durability.{Durability}
use Rattle.store_model.specs.declared.durability.Durability.TheVariants.{Sync, WriteNoSync}
use Rattle.store_model.specs.declared.victim.Victim.{Victim}
use Rattle.store_model.specs.declared.event.Event.{Event}
use Rattle.store_model.specs.declared.event.Event.TheVariants.{Call as Called, Resume, WriteOut, SyncBegin, SyncEnd}
use Rattle.store_model.specs.declared.answer.Answer.{Answer}
use Rattle.store_model.specs.declared.answer.Answer.TheVariants.{Done, Logged, Durable, DiskFault, Invalid}
use Rattle.store_model.specs.declared.answer.Fault.{Fault}
use Rattle.store_model.specs.Journal.{is_disk_fault, is_logged}
use Rattle.store_model.specs.Refusals.{or_refusal}
use Rattle.je_answers.specs.declared.active.Active.{Active}
use Rattle.je_answers.specs.declared.wait.Wait.{Wait}
use Rattle.je_answers.specs.Standing.{Standing, active_of, wait_of}
use Rattle.je_answers.specs.Refusals.{early_refusal, fault_refusal}
use Rattle.je_answers.specs.Events.{IsAnswered, IsCallAnswered, IsResumed, IsSyncEnded, IsWrittenOut, resumed}
use Rattle.je_answers.specs.After.{after_event}
use Rattle.je_answers.specs.Journal.{IsFollowed, IsSyncedAtOnce, durability_of}
use Rattle.engine.specs.Steps.{IsNumbered}
use Rattle.script_run.specs.Events.{IsFresh, IsMet, awaited_of}
use Rattle.script_run.specs.Events.Awaited.{Ending, Follow}
use Rattle.script_run.proofs.FaultLaws.{valid_after}

pub fault_is : (answer : Answer) → is_disk_fault answer ≡ true → answer ≡ DiskFault
fault_is DiskFault h = refl
fault_is answer h = cc

-- ---- calls

-- after a fault a call is refused
pub fault_refuses : (fault : Option Fault) (first : Fault) (later : Option Answer) → fault ≡ Some first → or_refusal (fault_refusal fault) later ≡ Some (Invalid first)
fault_refuses fault first later is = ap (λ (f : Option Fault). or_refusal (fault_refusal f) later) is

-- so a call that was logged found a valid environment
logged_valid : (limit : Option Answer) (st : Standing) (session line : ℕ) (call : Call) (commit : ℕ) (victims : List Victim) →
    IsCallAnswered (early_refusal st session call) limit st session line call (Logged commit) victims → st.fault ≡ None
logged_valid limit st session line call commit victims answered = by_fault st.fault refl where
  by_fault : (fault : Option Fault) → st.fault ≡ fault → st.fault ≡ None
  by_fault None is = is
  by_fault (Some first) is =
      let early : early_refusal st session call ≡ Some (Invalid first) = fault_refuses st.fault first _ is in
      let refused = subst (λ (o : Option Answer). IsCallAnswered o limit st session line call (Logged commit) victims) early answered in
      let wrong : Logged commit ≡ Invalid first = refused.0 in cc

resumed_valid : (o : Option Wait) (limit : Option Answer) (st : Standing) (session line : ℕ) (commit : ℕ) (victims : List Victim) →
    IsResumed o limit st session line (Logged commit) victims → st.fault ≡ None
resumed_valid None limit st session line commit victims answered = absurd answered
resumed_valid (Some w) limit st session line commit victims answered = logged_valid limit (resumed st w) session line w.call commit victims answered.2

-- and left one
pub called_valid : (limit : Option Answer) (st : Standing) (session line : ℕ) (call : Call) (answer : Answer) (victims : List Victim) → is_logged answer ≡ true →
    IsAnswered limit st (Called session line call answer victims) → (after_event st (Called session line call answer victims)).fault ≡ None
called_valid limit st session line call (Logged commit) victims logged answered =
    valid_after st (Called session line call (Logged commit) victims) (logged_valid limit st session line call commit victims answered) refl
called_valid limit st session line call answer victims logged answered = cc

pub gone_on_valid : (limit : Option Answer) (st : Standing) (session line : ℕ) (answer : Answer) (victims : List Victim) → is_logged answer ≡ true →
    IsAnswered limit st (Resume session line answer victims) → (after_event st (Resume session line answer victims)).fault ≡ None
gone_on_valid limit st session line (Logged commit) victims logged answered =
    valid_after st (Resume session line (Logged commit) victims) (resumed_valid (wait_of session st.waiting) limit st session line commit victims answered) refl
gone_on_valid limit st session line answer victims logged answered = cc

-- what a call that was answered waits for
pub record IsAwaitedFor (answer : Answer) (durability : Durability) (awaited : Option Durability) : Type 0 where
  pub logged : is_logged answer ≡ true → awaited ≡ Some durability
  pub other : is_logged answer ≡ false → awaited ≡ None

pub fresh_after : (answer : Answer) (durability : Durability) (awaited : Option Durability) (st : Standing) → IsAwaitedFor answer durability awaited → (is_logged answer ≡ true → st.fault ≡ None) → IsFresh (awaited_of awaited) st
fresh_after answer durability awaited st is valid = by_case (is_logged answer) refl where
  by_case : (b : Bool) → is_logged answer ≡ b → IsFresh (awaited_of awaited) st
  by_case true e = subst (λ (o : Option Durability). IsFresh (awaited_of o) st) (sym (is.logged e)) (valid e)
  by_case false e = subst (λ (o : Option Durability). IsFresh (awaited_of o) st) (sym (is.other e)) tt

-- a commit that was logged is followed by what comes, if that is what its durability asks for
followed : (a : Option Active) (durability : Durability) (awaited : Option Durability) (commit : ℕ) (st : Standing) (later : List Event) → durability ≡ durability_of a → awaited ≡ Some durability → commit ≡ st.commits →
    IsMet (awaited_of awaited) st later → IsFollowed (durability_of a) commit later
followed a durability awaited commit st later is some number met =
    let m : IsFollowed durability st.commits later = subst (λ (o : Option Durability). IsMet (awaited_of o) st later) some met in
    let n : IsFollowed durability commit later = subst (λ (c : ℕ). IsFollowed durability c later) (sym number) m in
    subst (λ (d : Durability). IsFollowed d commit later) is n

pub called_synced : (st new : Standing) (session line : ℕ) (call : Call) (answer : Answer) (victims : List Victim) (durability : Durability) (awaited : Option Durability) (later : List Event) →
    durability ≡ durability_of (active_of session st.actives) → IsAwaitedFor answer durability awaited → IsNumbered answer new.commits → IsMet (awaited_of awaited) new later →
    IsSyncedAtOnce st (Called session line call answer victims) later
called_synced st new session line call (Logged commit) victims durability awaited later is for_ number met =
    followed (active_of session st.actives) durability awaited commit new later is (for_.logged refl) number met
called_synced st new session line call answer victims durability awaited later is for_ number met = tt

pub gone_on_synced : (st new : Standing) (session line : ℕ) (answer : Answer) (victims : List Victim) (durability : Durability) (awaited : Option Durability) (later : List Event) →
    durability ≡ durability_of (active_of session st.actives) → IsAwaitedFor answer durability awaited → IsNumbered answer new.commits → IsMet (awaited_of awaited) new later →
    IsSyncedAtOnce st (Resume session line answer victims) later
gone_on_synced st new session line (Logged commit) victims durability awaited later is for_ number met =
    followed (active_of session st.actives) durability awaited commit new later is (for_.logged refl) number met
gone_on_synced st new session line answer victims durability awaited later is for_ number met = tt

-- ---- the log on its way to the disk

-- a write-out is what a commit waits for that asks for no sync
pub written_is : (st : Standing) (answer : Answer) (later : List Event) → st.fault ≡ None → IsWrittenOut st.fault st.commits answer → IsMet (Follow WriteNoSync) st (WriteOut answer ∷ later)
written_is st answer later valid written = (
  later,
  ⊎_elim
      (λ (e : answer ≡ Durable st.commits). inl (ap (λ (a : Answer). WriteOut a ∷ later) e))
      (λ (e : answer ≡ DiskFault). inr (ap (λ (a : Answer). WriteOut a ∷ later) e))
      (subst (λ (f : Option Fault). IsWrittenOut f st.commits answer) valid written),
)

-- a sync that begins and ends is what a commit waits for
pub begun_is : (st : Standing) (later : List Event) → IsMet Ending st later → IsMet (Follow Sync) st (SyncBegin Done ∷ later)
begun_is st later met = (
  met.0,
  ⊎_elim
      (λ (e : later ≡ SyncEnd (Durable st.commits) ∷ met.0). inl (ap (λ (l : List Event). SyncBegin Done ∷ l) e))
      (λ (e : later ≡ SyncEnd DiskFault ∷ met.0). inr (inl (ap (λ (l : List Event). SyncBegin Done ∷ l) e)))
      met.1,
)

pub ended_is : (st : Standing) (answer : Answer) (later : List Event) → IsSyncEnded None (Some st.commits) answer → IsMet Ending st (SyncEnd answer ∷ later)
ended_is st answer later ended = (
  later,
  ⊎_elim
      (λ (e : answer ≡ Durable st.commits). inl (ap (λ (a : Answer). SyncEnd a ∷ later) e))
      (λ (e : answer ≡ DiskFault). inr (ap (λ (a : Answer). SyncEnd a ∷ later) e))
      ended,
)

pub unbegun_is : (st : Standing) (later : List Event) → IsMet (Follow Sync) st (SyncBegin DiskFault ∷ later)
unbegun_is st later = (later, inr (inr refl))

-- ---- the first that may go on

pub first_of : (o : Option Wait) (session line : ℕ) → option_map {U = ℕ × ℕ} (λ w. (w.session, w.line)) o ≡ Some (session, line) → option_map (λ w. w.session) o ≡ Some session
first_of (Some w) session line is = ap (λ (o : Option (ℕ × ℕ)). option_map (λ p. p.0) o) is
first_of None session line is = cc
