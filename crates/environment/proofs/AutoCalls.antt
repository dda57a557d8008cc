-- A call on records that is a transaction of its own: what it may ask.
use Rattle.std.proofs.Common.{◌≡◌, ◌∙◌, ℕ, ◌<◌, ◌+◌, true, List, None, Some, ap, sym, subst, arith}
use Rattle.je_disk.specs.DiskMeaning.{DiskMeaning}
use Rattle.store_model.specs.declared.call.Call.{Call}
use Rattle.store_model.specs.declared.call.Call.TheVariants.{Get, GetBoth, Put, Delete}
use Rattle.store_model.specs.Refusals.{next_txn}
use Rattle.je_answers.specs.declared.active.Active.{Active}
use Rattle.je_answers.specs.Standing.{Standing, active_of}
use Rattle.je_answers.specs.Views.{Target, needs_in}
use Rattle.je_answers.specs.Alone.{IsAutoCommitted}
use Rattle.je_answers.specs.Events.{auto_active, begun}
use Rattle.je_answers.specs.Refusals.{number_refusal}
use Rattle.sessions.specs.declared.all_sessions.Sessions.{Sessions}
use Rattle.sessions.specs.declared.named_db.NamedDb.{NamedDb}
use Rattle.sessions.specs.AtStanding.{AreSessionsAt, with_active}
use Rattle.sessions.specs.Names.{AreOthersOf}
use Rattle.sessions.specs.Taking.{AreNeedsOf, HasStopped, HasTaken, IfReady, IfStopped, MayAsk}
use Rattle.sessions.specs.declared.taken.Taken.{Taken}
use Rattle.sessions.specs.declared.taken.Taken.TheVariants.{Ready, Stopped}
use Rattle.store_model.specs.declared.answer.Answer.{Answer}
use Rattle.store_model.specs.declared.victim.Victim.{Victim}
use Rattle.je_order.specs.declared.txn_id.TxnId.{TxnId}
use Rattle.store_model.specs.declared.durability.Durability.TheVariants.{Sync}
use Rattle.store_model.specs.declared.isolation.Isolation.TheVariants.{RepeatableRead}
use Rattle.store_model.specs.declared.kind.Kind.{Kind}
use Rattle.store_model.specs.declared.need.Need.{Need}
use Rattle.sessions.proofs.Takes.{may_ask}
use Rattle.standing_laws.specs.Right.{AreSound}
use Rattle.standing_laws.proofs.Moves.{begun_found, drawn_untold, sound_begun}
use Rattle.standing_laws.proofs.StandingsStay.{has_number, late_number}
use Rattle.db_catalog.specs.declared.found_db.FoundDb.{FoundDb}
use Rattle.environment.specs.declared.environment.Environment.{Environment}
use Rattle.environment.specs.Access.{IsFoundFor}
use Rattle.environment.specs.Auto.{IsAutoAt, IsNamedAs}
use Rattle.environment.specs.Calls.{IsOnRecords}
use Rattle.environment.specs.Steps.{MayCall, StandsAt}
use Rattle.environment.proofs.BeginLaws.{next_is}

pub auto_call : (call : Call) (db : List ℕ) → IsOnRecords db call → IsAutoCommitted call
auto_call (Get name key rmw) db is = tt
auto_call (GetBoth name key value rmw) db is = tt
auto_call (Put name key value mode) db is = tt
auto_call (Delete name key) db is = tt
auto_call call db is = absurd is

-- it is named as it was found
pub named_as : (db : List ℕ) (found : FoundDb) (others : List NamedDb) (g : Target) → g.database.name ≡ db → g.database.kind ≡ found.kind → AreOthersOf others g → IsNamedAs db found.kind others g
named_as db found others g name kind beside = record { name = name; its_kind = kind; beside = beside }

-- what is said of a call that has its needs, and of one that was stopped
pub ready_is : (t : Taken) (P : Type 0) → t ≡ Ready → IfReady t P → P
ready_is t P is h = subst (λ (x : Taken). IfReady x P) is h

abbrev pub Stops : Sessions → Sessions → ℕ → ℕ → Call → List ℕ → Kind → List NamedDb → List Need → Answer → List Victim → Type 0
Stops old new session line call db kind others needs answer victims =
    (st : Standing) (a : Active) (g : Target) → st.fault ≡ None → AreNeedsOf st session call db kind others needs a g → AreSessionsAt old st → HasStopped new st a line call g answer victims

pub stopped_is : (old new : Sessions) (session line : ℕ) (call : Call) (db : List ℕ) (kind : Kind) (others : List NamedDb) (needs : List Need) (t : Taken) (answer : Answer) (victims : List Victim) → t ≡ Stopped answer victims →
    IfStopped t (Stops old new session line call db kind others needs) → Stops old new session line call db kind others needs answer victims
stopped_is old new session line call db kind others needs t answer victims is h = subst (λ (x : Taken). IfStopped x (Stops old new session line call db kind others needs)) is h

module _ {D : Type 0} (most : ℕ) (meaning : DiskMeaning D) (e : Environment D) (st : Standing) (session : ℕ) (call : Call) where
  pub auto_at : (g : Target) (db : List ℕ) (found : FoundDb) → StandsAt most meaning e st → AreSound st → e.engine.kept.fault ≡ None → MayCall st session true → IsFoundFor st session call db found None g → IsOnRecords db call →
      active_of session st.actives ≡ None → IsAutoAt most meaning e st session call g
  auto_at g db found at sound valid may on records outside = record {
    at = at;
    sound = sound;
    valid = sym at.fault ∙ valid;
    bare = may.bare;
    db = db;
    records = records;
    late = on.late;
    target = on.target;
    stands = on.stands;
    outside = outside;
    left = has_number st.last_txn (sym (ap (number_refusal st.last_txn) outside) ∙ late_number st session call on.late);
  }

  module _ (g : Target) (may : IsAutoAt most meaning e st session call g) where
    abbrev a : Active
    a = auto_active st session

    past : st.last_txn < a.txn.0
    past = let next = next_is st.last_txn may.left in omega (arith, next)

    pub sound_there : AreSound (begun st session)
    sound_there = sound_begun st.last_txn st.actives st.own st.places st.waiting st.locks a may.sound past may.outside

    pub may_take : (s : Sessions) → AreSessionsAt s (begun st session) → MayAsk s session true
    may_take s at = may_ask s (begun st session) session a at may.valid sound_there (begun_found st.actives a may.outside)
        (drawn_untold st.last_txn st.actives st.own st.places st.waiting st.locks a.txn may.sound past)

    pub its_active : active_of session (begun st session).actives ≡ Some a
    its_active = begun_found st.actives a may.outside

    pub number_is : e.engine.kept.last_txn + 1 ≡ next_txn st.last_txn
    number_is = ap (λ (n : ℕ). n + 1) may.at.last_txn ∙ sym (next_is st.last_txn may.left)

    -- the sessions once it has begun
    pub begun_sessions : (s : Sessions) (t : TxnId) → t.0 ≡ e.engine.kept.last_txn + 1 →
        AreSessionsAt s (with_active (record { txn = t; session = session; level = RepeatableRead; durability = Sync; waits = true; is_auto = true; deadlock = None }) st) → AreSessionsAt s (begun st session)
    begun_sessions s t is at =
        let same : (record { txn = t; session = session; level = RepeatableRead; durability = Sync; waits = true; is_auto = true; deadlock = None }) ≡ a =
        ap (λ (n : ℕ). let b : Active = record { txn = record { 0 = n }; session = session; level = RepeatableRead; durability = Sync; waits = true; is_auto = true; deadlock = None } in b) (is ∙ number_is) in
        let there : AreSessionsAt s (with_active a st) = subst (λ (b : Active). AreSessionsAt s (with_active b st)) same at in
        record { actives = there.actives; own = there.own; places = there.places; waiting = there.waiting; locks = there.locks }

    -- its needs
    pub needs_auto : (needs : List Need) (db : List ℕ) (kind : Kind) (others : List NamedDb) → IsNamedAs db kind others g → needs ≡ needs_in (begun st session) a call g → AreNeedsOf (begun st session) session call db kind others needs a g
    needs_auto needs db kind others named is = record { its = its_active; name = named.name; its_kind = named.its_kind; beside = named.beside; each = is }

    -- it has them all
    pub taken_auto : (s : Sessions) (needs : List Need) → needs ≡ needs_in (begun st session) a call g → HasTaken s true a needs (begun st session) → HasTaken s true a (needs_in (begun st session) a call g) (begun st session)
    taken_auto s needs is taken = subst (λ (n : List Need). HasTaken s true a n (begun st session)) is taken
