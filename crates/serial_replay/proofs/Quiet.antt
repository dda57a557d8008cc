-- Steps that change neither records nor own changes: locks that are got, given back and waited for, and transactions that begin.
use Rattle.std.proofs.Common.{◌≡◌, ◌≤◌, ◌⊎◌, inl, inr, ℕ, Bool, true, false, List, [], ◌∷◌, refl, ap, ap₂, sym, ◌∙◌, subst, ⊎_elim, arith}
use Rattle.std.specs.List.{AllByRecursion}
use Rattle.std.proofs.lemmas.Bool.{cases_Bool}
use Rattle.je_order.specs.declared.name.Name.{Name}
use Rattle.je_order.specs.declared.txn_id.TxnId.{TxnId}
use Rattle.je_order.specs.Transactions.{is_same_txn}
use Rattle.je_order.proofs.TxnIds.{same_is}
use Rattle.lock_table.specs.declared.record_id.RecordId.{RecordId}
use Rattle.store_model.specs.declared.kind.Kind.{Kind}
use Rattle.store_model.specs.declared.isolation.Isolation.{Isolation}
use Rattle.store_model.specs.declared.need.Need.{Need}
use Rattle.store_model.specs.declared.store.Store.{Store}
use Rattle.store_model.specs.Reads.{at_name}
use Rattle.je_answers.specs.declared.active.Active.{Active}
use Rattle.je_answers.specs.Standing.{Standing, place_at}
use Rattle.je_answers.specs.Locking.{Queues, all_got, given_back, all_given_back}
use Rattle.standing_laws.specs.Right.{AreSound}
use Rattle.standing_laws.proofs.Among.{IsAmong}
use Rattle.serial_replay.specs.Replay.{AnsweredCall}
use Rattle.serial_replay.proofs.Holding.{Sort, IsSort, Holds, all_got_keeps}
use Rattle.serial_replay.proofs.Stores.{Numbers, base_in, pairs_in, base_at, pairs_at, IsFit}
use Rattle.serial_replay.proofs.Upkeep.{up_own}
use Rattle.serial_replay.proofs.Keeping.{occupied_at, IsStable, stable_same, well_same, IsKept, own_same, fits_kept, KeepsOf, KeepsPlaces, keeps, keeps_kept, IsGround, IsKnown}
use Rattle.serial_replay.proofs.Calling.{back_keeps, back_none}

-- ---- what stays

pub record IsQuiet (st new : Standing) : Type 0 where
  pub store : new.store ≡ st.store
  pub numbers : new.numbers ≡ st.numbers
  pub last_db : new.last_db ≡ st.last_db
  pub last_txn : st.last_txn ≤ new.last_txn
  pub own : (t : ℕ) → new.own t ≡ st.own t

-- a transaction's locks stay
abbrev pub KeepsLocks : TxnId → Standing → Standing → Type 0
KeepsLocks t st new = (sort : Sort) → IsSort sort → (r : RecordId) → Holds sort t (st.locks.at r).0 → Holds sort t (new.locks.at r).0

-- a transaction that was under way before, perhaps marked since: its locks stay, and its cursors
pub record IsSameOne (st new : Standing) (b : Active) : Type 0 where
  pub old : Active
  pub there : IsAmong old st.actives
  pub txn : old.txn ≡ b.txn
  pub level : old.level ≡ b.level
  pub session : old.session ≡ b.session
  pub auto : old.is_auto ≡ b.is_auto
  pub locks : KeepsLocks b.txn st new
  pub places : b.is_auto ≡ false → KeepsPlaces b.session st new

-- or it is a new one, of which as much holds
abbrev pub GoesOn : Standing → Standing → List AnsweredCall → Active → Type 0
GoesOn st new told b = IsSameOne st new b ⊎ KeepsOf new told b.txn b.level b.session b.is_auto

-- it is as it was
pub as_before : (st new : Standing) (b : Active) → IsAmong b st.actives → KeepsLocks b.txn st new → (b.is_auto ≡ false → KeepsPlaces b.session st new) → IsSameOne st new b
as_before st new b k locks places = record { old = b; there = k; txn = refl; level = refl; session = refl; auto = refl; locks = locks; places = places }

all_each : {X : Type 0} (P Q : X → Type 0) → ((x : X) → P x → Q x) → (xs : List X) → AllByRecursion P xs → AllByRecursion Q xs
all_each P Q f [] h = tt
all_each P Q f (x ∷ xs) h = (f x h.0, all_each P Q f xs h.1)

module _ (st new : Standing) (told : List AnsweredCall) (sound : AreSound st) (quiet : IsQuiet st new) where
  same_base : (n : ℕ) → base_at n new ≡ base_at n st
  same_base n = ap₂ (λ (m : Numbers) (s : Store). base_in m n s) quiet.numbers quiet.store

  same_pairs : (n : ℕ) → pairs_at n new ≡ pairs_at n st
  same_pairs n = ap₂ (λ (m : Numbers) (s : Store). pairs_in m n s) quiet.numbers quiet.store

  pub stable : IsStable st new
  stable = stable_same st new same_base

  occupied_now : (n : ℕ) (k : Kind) (x : Name) → occupied_at new n k x → occupied_at st n k x
  occupied_now n k x (inl r) = inl (record { pair = r.pair; there = subst (IsAmong r.pair) (same_pairs n) r.there; named = r.named })
  occupied_now n k x (inr w) = inr (record { txn = w.txn; change = w.change; there = subst (IsAmong (n, w.change)) (quiet.own w.txn) w.there; named = w.named })

  occupied_still : (n : ℕ) (k : Kind) (x : Name) → occupied_at st n k x → occupied_at new n k x
  occupied_still n k x (inl r) = inl (record { pair = r.pair; there = subst (IsAmong r.pair) (sym (same_pairs n)) r.there; named = r.named })
  occupied_still n k x (inr w) = inr (record { txn = w.txn; change = w.change; there = subst (IsAmong (n, w.change)) (sym (quiet.own w.txn)) w.there; named = w.named })

  pub kept : (t : TxnId) (level : Isolation) → KeepsLocks t st new → IsKept t level st new
  kept t level locks = record {
    locks = locks;
    alike = λ n b x used e. inl (ap (at_name b.1 x) (sym (same_pairs n)));
    occupied = λ ser n b x used e o. inl (occupied_now n b.1 x o);
    stays = λ n b x used e h o. occupied_still n b.1 x o;
  }

  pub ground_quiet : IsGround st told → IsGround new told
  ground_quiet ground = record {
    well = well_same st new quiet.store quiet.numbers quiet.last_db ground.well;
    fits = λ t. subst (AllByRecursion (IsFit new)) (sym (quiet.own t)) (fits_kept st new t sound (ground.fits t) stable);
    up = up_own st new quiet.store quiet.numbers (λ t. inl (quiet.own t)) ground.up;
    last = all_each (λ (c : AnsweredCall). c.txn.0 ≤ st.last_txn) (λ c. c.txn.0 ≤ new.last_txn) (λ c h. let k = quiet.last_txn in omega (arith, h, k)) told ground.last;
  }

  pub keeps_quiet : IsGround st told → (t : TxnId) (level : Isolation) (session : ℕ) (auto : Bool) → KeepsLocks t st new → (auto ≡ false → KeepsPlaces session st new) → KeepsOf st told t level session auto
      → KeepsOf new told t level session auto
  keeps_quiet ground t level session auto locks places k =
      keeps_kept t level session auto st new told told stable ground.well (well_same st new quiet.store quiet.numbers quiet.last_db ground.well) (kept t level locks) places (λ c i. own_same st new t sound (ground.fits t.0) stable c i) (quiet.own t.0) refl k

  pub known_quiet : IsKnown st told → ((b : Active) → IsAmong b new.actives → keeps b.level ≡ true → GoesOn st new told b) → IsKnown new told
  known_quiet known on = record { ground = ground_quiet known.ground; each = λ b k keep. by b keep (on b k keep) }
    where
      by : (b : Active) → keeps b.level ≡ true → GoesOn st new told b → KeepsOf new told b.txn b.level b.session b.is_auto
      by b keep (inr k) = k
      by b keep (inl c) = keeps_quiet known.ground b.txn b.level b.session b.is_auto c.locks c.places
          (subst (λ (x : Bool). KeepsOf st told b.txn b.level b.session x) c.auto
          (subst (λ (n : ℕ). KeepsOf st told b.txn b.level n c.old.is_auto) c.session
          (subst (λ (l : Isolation). KeepsOf st told b.txn l c.old.session c.old.is_auto) c.level
          (subst (λ (t : TxnId). KeepsOf st told t c.old.level c.old.session c.old.is_auto) c.txn (known.each c.old c.there (ap keeps c.level ∙ keep))))))

-- nothing at all changes
pub same_locks : (t : TxnId) (st new : Standing) → ((r : RecordId) → new.locks.at r ≡ st.locks.at r) → KeepsLocks t st new
same_locks t st new same sort s r h = subst (λ (q : _). Holds sort t q.0) (sym (same r)) h

-- no cursor moves
pub same_places : (session : ℕ) (st new : Standing) → new.places session ≡ st.places session → KeepsPlaces session st new
same_places session st new same cursor = ap (place_at cursor) same

-- locks that were got and given back as a level says
pub locks_with : (level : Isolation) (t u : TxnId) (ns : List Need) (st new : Standing) → ((r : RecordId) → new.locks.at r ≡ given_back level t (all_got t ns st.locks.at) r) → (t ≡ u → keeps level ≡ true) → KeepsLocks u st new
locks_with level t u ns st new same its sort s r h =
    subst (λ (q : _). Holds sort u q.0) (sym (same r)) (⊎_elim
    (λ e. subst (λ (q : _). Holds sort u q.0) (sym (back_none level t (all_got t ns st.locks.at) r (its (same_is t u e)))) (all_got_keeps sort s t u ns st.locks.at r h))
    (λ e. back_keeps sort s level t u (all_got t ns st.locks.at) r e (all_got_keeps sort s t u ns st.locks.at r h))
    (cases_Bool (is_same_txn t u)))

-- locks that are given back of transactions which keep none
pub all_back_keeps : (sort : Sort) → IsSort sort → (u : TxnId) (l : List Active) (at : Queues) (r : RecordId) → ((a : Active) → IsAmong a l → a.txn ≡ u → keeps a.level ≡ true) → Holds sort u (at r).0 → Holds sort u (all_given_back l at r).0
all_back_keeps sort s u [] at r its h = h
all_back_keeps sort s u (a ∷ l) at r its h =
    all_back_keeps sort s u l (given_back a.level a.txn at) r (λ b k e. its b (inr k) e) (⊎_elim
    (λ e. subst (λ (q : _). Holds sort u q.0) (sym (back_none a.level a.txn at r (its a (inl refl) (same_is a.txn u e)))) h)
    (λ e. back_keeps sort s a.level a.txn u at r e h)
    (cases_Bool (is_same_txn a.txn u)))
