-- Where no transaction is under way, nobody has anything.
use mathlib.Core.Path.{fun_ext}
use Rattle.std.proofs.Common.{◌≡◌, ℕ, true, false, List, [], ◌∷◌, Some, None, Option, refl, ap, ap₂, ◌∙◌}
use Rattle.std.specs.List.{AllByRecursion}
use Rattle.std.proofs.lemmas.Bool.{both_ways, or_left}
use Rattle.std.proofs.lemmas.Option.{none-some}
use Rattle.je_order.specs.declared.txn_id.TxnId.{TxnId}
use Rattle.je_order.proofs.TxnIds.{same_itself}
use Rattle.lock_table.specs.declared.lock.Lock.{Lock}
use Rattle.lock_table.specs.declared.record_id.RecordId.{RecordId}
use Rattle.lock_table.specs.Locks.{is_of, has_lock}
use Rattle.store_model.specs.declared.place.Place.{Place}
use Rattle.store_model.specs.declared.record_change.RecordChange.{RecordChange}
use Rattle.je_answers.specs.declared.active.Active.{Active}
use Rattle.je_answers.specs.declared.wait.Wait.{Wait}
use Rattle.je_answers.specs.Standing.{LockState, Standing, active_of}
use Rattle.je_answers.specs.Alone.{Alone, alone, no_locks}
use Rattle.standing_laws.specs.Right.{is_active, has_wait, txn_id, IsWaitIn}
use Rattle.standing_laws.specs.Laws.{NoTransactionsIsAlone, AloneIsRight}

-- ---- nobody has a lock

no_lock : (ls : List Lock) → ((t : TxnId) → has_lock t ls ≡ true → ⊥) → ls ≡ []
no_lock [] none = refl
no_lock (l ∷ ls) none = absurd (none l.txn (or_left (is_of l.txn l) (has_lock l.txn ls) (same_itself l.txn)))

-- nobody waits
no_wait : (actives : List Active) (waiting : List Wait) → actives ≡ [] → AllByRecursion (IsWaitIn actives) waiting → waiting ≡ []
no_wait actives [] none all = refl
no_wait [] (w ∷ waiting) none all = absurd (none-some all.0.active all.0.its)
no_wait (a ∷ actives) (w ∷ waiting) none all = absurd cc

nobody : (t : TxnId) (actives : List Active) → actives ≡ [] → is_active t actives ≡ false
nobody t [] none = refl
nobody t (a ∷ actives) none = absurd cc

nothing : (t : TxnId) (waiting : List Wait) → waiting ≡ [] → has_wait t waiting ≡ false
nothing t [] none = refl
nothing t (w ∷ waiting) none = absurd cc

no_record : (o : Option RecordId) → ((r : RecordId) → o ≡ Some r → ⊥) → o ≡ None
no_record None none = refl
no_record (Some r) none = absurd (none r refl)

-- ---- it is alone

abbrev alone_of : Standing → Alone
alone_of st = record {
  store = st.store;
  numbers = st.numbers;
  last_txn = st.last_txn;
  last_db = st.last_db;
  commits = st.commits;
  begun = st.begun;
  fault = st.fault;
  in_checkpoint = st.in_checkpoint;
}

-- a standing with others
abbrev with_all : Standing → List Active → (ℕ → List (ℕ × RecordChange)) → (ℕ → List Place) → List Wait → LockState → Standing
with_all st actives own places waiting locks = record st { actives = actives; own = own; places = places; waiting = waiting; locks = locks }

same_locks : (locks : LockState) → ((r : RecordId) → locks.at r ≡ ([], [])) → ((t : TxnId) → locks.pending t ≡ None) → locks ≡ no_locks
same_locks locks at pending =
    let make : (RecordId → List Lock × List Lock) → (TxnId → Option RecordId) → LockState = λ a p. record { at = a; pending = p } in
    ap₂ make (fun_ext at) (fun_ext pending)

pub no_transactions-is_alone : NoTransactionsIsAlone
no_transactions-is_alone st sound none = (alone_of st, together)
  where
    waits : st.waiting ≡ []
    waits = no_wait st.actives st.waiting none sound.waits.each

    untold : (t : TxnId) (r : RecordId) → st.locks.pending t ≡ Some r → ⊥
    untold t r told = both_ways (has_wait t st.waiting) (nothing t st.waiting waits) (sound.waits.told t r told)

    owners : (r : RecordId) → (st.locks.at r).0 ≡ []
    owners r = no_lock (st.locks.at r).0 (λ t has. both_ways (is_active t st.actives) (nobody t st.actives none) (sound.owners t r has))

    waiters : (r : RecordId) → (st.locks.at r).1 ≡ []
    waiters r = no_lock (st.locks.at r).1 (λ t has. untold t r (sound.tables.alone t r has))

    at : (r : RecordId) → st.locks.at r ≡ ([], [])
    at r =
        let make : List Lock → List Lock → List Lock × List Lock = λ a b. (a, b) in
        ap₂ make (owners r) (waiters r)

    locks : st.locks ≡ no_locks
    locks = same_locks st.locks at (λ t. no_record (st.locks.pending t) (untold t))

    own : st.own ≡ (λ t. [])
    own = fun_ext (λ n. sound.own_active n (nobody (txn_id n) st.actives none))

    places : st.places ≡ (λ session. [])
    places = fun_ext (λ session. sound.places session (ap (active_of session) none))

    together : st ≡ alone (alone_of st)
    together =
        ap (λ (x : List Active). with_all st x st.own st.places st.waiting st.locks) none
        ∙ ap (λ (x : ℕ → List (ℕ × RecordChange)). with_all st [] x st.places st.waiting st.locks) own
        ∙ ap (λ (x : ℕ → List Place). with_all st [] (λ t. []) x st.waiting st.locks) places
        ∙ ap (λ (x : List Wait). with_all st [] (λ t. []) (λ session. []) x st.locks) waits
        ∙ ap (λ (x : LockState). with_all st [] (λ t. []) (λ session. []) [] x) locks

-- ---- and it is right

pub alone-is_right : AloneIsRight
alone-is_right p = record {
  sound = record {
    numbers = tt;
    waits = record { sessions = tt; each = tt; apart = tt; told = λ t r told. absurd (none-some r told) };
    tables = record {
      settled = λ r. record { owners = record { agree = tt; held = tt; apart = tt }; waits = tt; apart = tt };
      alone = λ t r has. absurd cc;
    };
    owners = λ t r has. absurd cc;
    own_active = λ n none. refl;
    own_locked = λ n. tt;
    places = λ session none. refl;
  };
  waiting = tt;
  calls = tt;
}
