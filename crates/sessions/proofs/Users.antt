-- Who uses a database.
use Rattle.std.proofs.Common.{◌≡◌, ℕ, ◌≤◌, ◌<◌, ◌&&◌, cond, Bool, true, false, ◌⊎◌, inl, inr, ◌||◌, nat_le, List, [], ◌∷◌, map, Some, None, Option, refl, ap, ap₂, sym, ◌∙◌, subst, ⊎_elim, arith}
use Rattle.std.specs.Prelude.{◌==◌}
use Rattle.std.specs.List.{filter, find, AllByRecursion}
use Rattle.std.specs.Option.{IfSome, IfNone, option_map, unwrap_or}
use Rattle.std.specs.Map.{lookup}
use Rattle.std.proofs.lemmas.Bool.{cases_Bool, cond-true, cond-false, both_ways, eqb-true, and_parts, and_from}
use Rattle.std.proofs.lemmas.Option.{none-some, same_Some}
use Rattle.std.proofs.lemmas.Bool.Decides.{nat_tests}
use Rattle.je_order.specs.declared.txn_id.TxnId.{TxnId}
use Rattle.je_order.specs.declared.bound.Bound.{Bound}
use Rattle.je_order.specs.Transactions.{is_same_txn}
use Rattle.je_order.proofs.TxnIds.{same_is}
use Rattle.lock_table.specs.declared.lock.Lock.{Lock}
use Rattle.lock_table.specs.declared.record_id.RecordId.{RecordId}
use Rattle.lock_table.specs.Locks.{has_lock, is_blocked, lesser, least, IsSettled}
use Rattle.lock_table.specs.Records.{is_record, queue_at}
use Rattle.lock_table.specs.Table.{Locks, locks_at, holder_of, IsToldIn, OwnsIn}
use Rattle.lock_table.proofs.QueueMaps.{record_is}
use Rattle.lock_table.proofs.DatabaseOwners.{least_owner, least_more}
use Rattle.lock_mgr.specs.Deadlock.{NoDeadlock}
use Rattle.store_model.specs.declared.place.Place.{Place}
use Rattle.je_answers.specs.declared.active.Active.{Active}
use Rattle.je_answers.specs.Standing.{LockState, Standing, active_of}
use Rattle.je_answers.specs.Locking.{has_cursor_on, HasLockIn, HasCursorIn, Uses, IsLeastUser, IsUnused, IsAwaited}
use Rattle.txn_locks.specs.Taking.{state_of}
use Rattle.open_cursors.specs.Places.{AreCursorsAt}
use Rattle.standing_laws.specs.Right.{AreNumbered, AreSound}
use Rattle.standing_laws.proofs.Among.{IsAmong, any_from, any_some, all_at, found_is, its_session}
use Rattle.sessions.specs.declared.all_sessions.Sessions.{Sessions}
use Rattle.sessions.specs.AtStanding.{AreSessionsAt}
use Rattle.sessions.proofs.Waited.{at_none}

abbrev Entry : Type 0
Entry = RecordId × (List Lock × List Lock)

abbrev in_db : ℕ → List Entry → List Entry
in_db db es = filter (λ (e : Entry). e.0.db == db) es

-- ---- the least of two

le_self : (n : ℕ) → n ≤ n
le_self n = omega arith

le_of : (x y : ℕ) → nat_le x y ≡ true → x ≤ y
le_of x y h = grind (arith, nat_tests)

le_not : (x y : ℕ) → nat_le x y ≡ false → y ≤ x
le_not x y h = grind (arith, nat_tests)

le_trans : (x y z : ℕ) → x ≤ y → y ≤ z → x ≤ z
le_trans x y z h k = omega arith

abbrev IsAtMost : Option TxnId → TxnId → Type 0
IsAtMost None u = ⊥
IsAtMost (Some t) u = t.0 ≤ u.0

lesser_left : (a b : Option TxnId) (u : TxnId) → IsAtMost a u → IsAtMost (lesser a b) u
lesser_left None b u h = absurd h
lesser_left (Some x) None u h = h
lesser_left (Some x) (Some y) u h = ⊎_elim
    (λ e. subst (λ o. IsAtMost o u) (sym (cond-true (nat_le x.0 y.0) (Some x) (Some y) e)) h)
    (λ e. subst (λ o. IsAtMost o u) (sym (cond-false (nat_le x.0 y.0) (Some x) (Some y) e)) (le_trans y.0 x.0 u.0 (le_not x.0 y.0 e) h))
    (cases_Bool (nat_le x.0 y.0))

lesser_right : (a b : Option TxnId) (u : TxnId) → IsAtMost b u → IsAtMost (lesser a b) u
lesser_right None b u h = h
lesser_right (Some x) None u h = absurd h
lesser_right (Some x) (Some y) u h = ⊎_elim
    (λ e. subst (λ o. IsAtMost o u) (sym (cond-true (nat_le x.0 y.0) (Some x) (Some y) e)) (le_trans x.0 y.0 u.0 (le_of x.0 y.0 e) h))
    (λ e. subst (λ o. IsAtMost o u) (sym (cond-false (nat_le x.0 y.0) (Some x) (Some y) e)) h)
    (cases_Bool (nat_le x.0 y.0))

or_second : (a b : Bool) → (a || b) ≡ true → a ≡ false → b ≡ true
or_second true b h e = absurd (cc (e))
or_second false b h e = h

least_le : (os : List Lock) (u : TxnId) → has_lock u os ≡ true → IsAtMost (least (map (λ (o : Lock). o.txn) os)) u
least_le [] u h = absurd (cc (h))
least_le (o ∷ os) u h = ⊎_elim
    (λ e. lesser_left (Some o.txn) (least (map (λ (x : Lock). x.txn) os)) u (subst (λ (t : TxnId). t.0 ≤ u.0) (same_is u o.txn e) (le_self u.0)))
    (λ e. lesser_right (Some o.txn) (least (map (λ (x : Lock). x.txn) os)) u (least_le os u (or_second (is_same_txn u o.txn) (has_lock u os) h e)))
    (cases_Bool (is_same_txn u o.txn))

-- ---- each owner in the database is found

here : (db : ℕ) (e : Entry) (es : List Entry) → (e.0.db == db) ≡ true → lesser (least (map (λ (o : Lock). o.txn) e.1.0)) (least_owner (in_db db es)) ≡ least_owner (in_db db (e ∷ es))
here db e es k = least_more None e (in_db db es) ∙ sym (ap least_owner (cond-true (e.0.db == db) (e ∷ in_db db es) (in_db db es) k))

there : (db : ℕ) (e : Entry) (es : List Entry) → (e.0.db == db) ≡ false → least_owner (in_db db es) ≡ least_owner (in_db db (e ∷ es))
there db e es k = sym (ap least_owner (cond-false (e.0.db == db) (e ∷ in_db db es) (in_db db es) k))

further : (db : ℕ) (e : Entry) (es : List Entry) (u : TxnId) → IsAtMost (least_owner (in_db db es)) u → IsAtMost (least_owner (in_db db (e ∷ es))) u
further db e es u h = ⊎_elim
    (λ k. subst (λ o. IsAtMost o u) (here db e es k) (lesser_right (least (map (λ (o : Lock). o.txn) e.1.0)) (least_owner (in_db db es)) u h))
    (λ k. subst (λ o. IsAtMost o u) (there db e es k) h)
    (cases_Bool (e.0.db == db))

same_number : (n : ℕ) → (n == n) ≡ true
same_number n = grind (arith, nat_tests)

owner_le : (r : RecordId) (es : List Entry) (u : TxnId) → has_lock u (queue_at r es).0 ≡ true → IsAtMost (least_owner (in_db r.db es)) u
owner_le r [] u h = absurd (cc (h))
owner_le r (e ∷ es) u h = ⊎_elim
    (λ k. subst (λ o. IsAtMost o u) (here r.db e es (ap (λ (x : RecordId). x.db == r.db) (sym (record_is r e.0 k)) ∙ same_number r.db))
    (lesser_left (least (map (λ (o : Lock). o.txn) e.1.0)) (least_owner (in_db r.db es)) u (least_le e.1.0 u (sym (ap (λ (o : Option (List Lock × List Lock)). has_lock u (unwrap_or o ([], [])).0) (cond-true (is_record r e.0) (Some e.1) (lookup (is_record r) es) k)) ∙ h))))
    (λ k. further r.db e es u (owner_le r es u (sym (ap (λ (o : Option (List Lock × List Lock)). has_lock u (unwrap_or o ([], [])).0) (cond-false (is_record r e.0) (Some e.1) (lookup (is_record r) es) k)) ∙ h)))
    (cases_Bool (is_record r e.0))

-- ---- nobody owns

same_txn : (t : TxnId) → is_same_txn t t ≡ true
same_txn t = same_number t.0

no_owner : (os : List Lock) → ((u : TxnId) → has_lock u os ≡ true → ⊥) → os ≡ []
no_owner [] h = refl
no_owner (o ∷ os) h = absurd (h o.txn (ap (λ b. b || has_lock o.txn os) (same_txn o.txn)))

no_wait : (os ws : List Lock) → os ≡ [] → AllByRecursion (λ w. is_blocked os w ≡ true) ws → ws ≡ []
no_wait os [] e h = refl
no_wait os (w ∷ ws) e h = let k : is_blocked [] w ≡ true = subst (λ (l : List Lock). is_blocked l w ≡ true) e h.0 in absurd (cc (k))

nothing_at : (q : List Lock × List Lock) → IsSettled q → ((u : TxnId) → has_lock u q.0 ≡ true → ⊥) → q ≡ ([], [])
nothing_at q settled h = let e = no_owner q.0 h in ap₂ (λ (a b : List Lock). (a, b)) e (no_wait q.0 q.1 e settled.waits)

none_owns : (db : ℕ) (v : Locks) → NoDeadlock v → None ≡ holder_of db v → (b : Bound) → locks_at (record { db = db; at = b }) v ≡ ([], [])
none_owns db v free none b = nothing_at (locks_at (record { db = db; at = b }) v) (free.sound.settled (record { db = db; at = b })) (λ u h. subst (λ o. IsAtMost o u) (sym none) (owner_le (record { db = db; at = b }) v.records u h))

-- ---- who has a cursor there

abbrev has_one : ℕ → (ℕ → List Place) → Active → Bool
has_one db places a = has_cursor_on db (places a.session)

abbrev first_with : ℕ → (ℕ → List Place) → List Active → Option TxnId
first_with db places as_ = option_map (λ (a : Active). a.txn) (find (has_one db places) as_)

-- the first is the least, since their numbers rise
cursor_le : (last db : ℕ) (places : ℕ → List Place) (as_ : List Active) (b : Active) → AreNumbered last as_ → IsAmong b as_ → has_one db places b ≡ true → IsAtMost (first_with db places as_) b.txn
cursor_le last db places [] b numbers there has = absurd there
cursor_le last db places (a ∷ as_) b numbers there has = by (has_one db places a) refl (λ h. cursor_le last db places as_ b numbers.2 h has) there
  where
    later : (h : IsAmong b as_) → a.txn.0 < b.txn.0
    later h = all_at (λ (x : Active). a.txn.0 < x.txn.0) as_ b numbers.1 h

    by : (t : Bool) → has_one db places a ≡ t → (IsAmong b as_ → IsAtMost (first_with db places as_) b.txn) → IsAmong b (a ∷ as_) → IsAtMost (option_map (λ (x : Active). x.txn) (cond t (Some a) (find (has_one db places) as_))) b.txn
    by true e rest (inl h) = subst (λ (x : Active). a.txn.0 ≤ x.txn.0) h (le_self a.txn.0)
    by true e rest (inr h) = let k = later h in omega (arith, k)
    by false e rest (inl h) = absurd (both_ways (has_one db places a) e (ap (has_one db places) h ∙ has))
    by false e rest (inr h) = rest h

found_cursor : (o : Option Active) (t : TxnId) → ◌≡◌ {A = Option TxnId} (Some t) (option_map (λ (a : Active). a.txn) o) → (a : Active) × (o ≡ Some a) × (a.txn ≡ t)
found_cursor None t e = absurd cc
found_cursor (Some a) t e = (a, refl, sym (same_Some t a.txn e))

cursor_used : (st : Standing) (db : ℕ) (t : TxnId) → ◌≡◌ {A = Option TxnId} (Some t) (first_with db st.places st.actives) → HasCursorIn st db t
cursor_used st db t e =
    let f = found_cursor (find (has_one db st.places) st.actives) t e in
    let k = found_is (has_one db st.places) st.actives f.0 f.1 in
    record {
      session = f.0.session;
      its = any_from (λ (x : Active). (x.session == f.0.session) && is_same_txn x.txn t) st.actives f.0 k.0
          (and_from (f.0.session == f.0.session) (is_same_txn f.0.txn t) (same_number f.0.session) (subst (λ (u : TxnId). is_same_txn f.0.txn u ≡ true) f.2 (same_txn f.0.txn)));
      cursor = k.1;
    }

-- whose cursor it is
its_cursor : (st : Standing) (db : ℕ) (u : TxnId) → HasCursorIn st db u → (b : Active) × IsAmong b st.actives × (has_one db st.places b ≡ true) × (b.txn ≡ u)
its_cursor st db u h =
    let b = any_some (λ (x : Active). (x.session == h.session) && is_same_txn x.txn u) st.actives h.its in
    let p = and_parts (b.0.session == h.session) (is_same_txn b.0.txn u) b.2 in
    (b.0, b.1, ap (λ (s : ℕ). has_cursor_on db (st.places s)) (eqb-true b.0.session h.session p.0) ∙ h.cursor, same_is b.0.txn u p.1)

cursor_at_most : (st : Standing) (db : ℕ) (u : TxnId) → AreNumbered st.last_txn st.actives → HasCursorIn st db u → IsAtMost (first_with db st.places st.actives) u
cursor_at_most st db u numbers h =
    let b = its_cursor st db u h in subst (IsAtMost (first_with db st.places st.actives)) b.3 (cursor_le st.last_txn db st.places st.actives b.0 numbers b.1 b.2)

-- nobody has one
no_cursor : (st : Standing) (db : ℕ) → AreSound st → ◌≡◌ {A = Option TxnId} None (first_with db st.places st.actives) → (session : ℕ) → has_cursor_on db (st.places session) ≡ false
no_cursor st db sound none session = by (active_of session st.actives) refl
  where
    by : (o : Option Active) → active_of session st.actives ≡ o → has_cursor_on db (st.places session) ≡ false
    by None e = ap (has_cursor_on db) (sound.places session e)
    by (Some a) e = ⊎_elim
        (λ has. absurd (let mine = its_session session st.actives a e in
        let k = cursor_le st.last_txn db st.places st.actives a sound.numbers mine.0 (ap (λ (s : ℕ). has_cursor_on db (st.places s)) mine.1 ∙ has) in
        subst (λ (o : Option TxnId). IsAtMost o a.txn) (sym none) k))
        (λ no_. no_)
        (cases_Bool (has_cursor_on db (st.places session)))

-- the one that is found by the code
pub cursor_user : (s : Sessions) (st : Standing) (db : ℕ) (o : Option TxnId) → AreSessionsAt s st
    → ((places : ℕ → List Place) → AreCursorsAt s.cursors places → o ≡ option_map (λ (a : Active). a.txn) (find (λ a. has_cursor_on db (places a.session)) s.txns.actives.items)) → o ≡ first_with db st.places st.actives
cursor_user s st db o at is = is st.places at.places.at ∙ ap (first_with db st.places) at.actives

-- ---- the lesser of two

neither : (a b : Option TxnId) → ◌≡◌ {A = Option TxnId} None (lesser a b) → (a ≡ None) × (b ≡ None)
neither None b e = (refl, sym e)
neither (Some x) None e = absurd cc
neither (Some x) (Some y) e = ⊎_elim
    (λ k. absurd (none-some x (e ∙ cond-true (nat_le x.0 y.0) (Some x) (Some y) k)))
    (λ k. absurd (none-some y (e ∙ cond-false (nat_le x.0 y.0) (Some x) (Some y) k)))
    (cases_Bool (nat_le x.0 y.0))

either : (a b : Option TxnId) (t : TxnId) → ◌≡◌ {A = Option TxnId} (Some t) (lesser a b) → ◌⊎◌ (◌≡◌ {A = Option TxnId} (Some t) a) (◌≡◌ {A = Option TxnId} (Some t) b)
either None b t e = inr e
either (Some x) None t e = inl e
either (Some x) (Some y) t e = ⊎_elim
    (λ k. inl (e ∙ cond-true (nat_le x.0 y.0) (Some x) (Some y) k))
    (λ k. inr (e ∙ cond-false (nat_le x.0 y.0) (Some x) (Some y) k))
    (cases_Bool (nat_le x.0 y.0))

-- ---- the answers

none_uses : (st : Standing) (db : ℕ) → ((b : Bound) → st.locks.at (record { db = db; at = b }) ≡ ([], [])) → ((session : ℕ) → has_cursor_on db (st.places session) ≡ false) → (u : TxnId) → Uses st db u → ⊥
none_uses st db locks none u (inl h) = let k : has_lock u [] ≡ true = subst (λ (q : List Lock × List Lock). has_lock u q.0 ≡ true) (locks h.0) h.1 in both_ways false refl k
none_uses st db locks none u (inr h) = both_ways (has_cursor_on db (st.places h.session)) (none h.session) h.cursor

-- who uses it is none, or one
pub record IsUser (s : Sessions) (st : Standing) (db : ℕ) (holder cursor user : Option TxnId) : Type 0 where
  pub lock : holder ≡ holder_of db s.locks.locks
  pub owns : IfSome holder (λ t. OwnsIn db t s.locks.locks.records)
  pub first : cursor ≡ first_with db st.places st.actives
  pub least : user ≡ lesser holder cursor

pub unused : (s : Sessions) (st : Standing) (db : ℕ) (holder cursor : Option TxnId) → st.fault ≡ None → AreSound st → AreSessionsAt s st → NoDeadlock s.locks.locks → IsUser s st db holder cursor None
    → ((t : TxnId) → IsToldIn db t s.locks.locks → ⊥) → IsUnused st db
unused s st db holder cursor fault sound at free is told =
    let state = at_none st.fault s.locks.locks st.locks fault at.locks in
    let n = neither holder cursor is.least in
    record {
      locks = λ b. ap (λ (l : LockState). l.at (record { db = db; at = b })) (sym state) ∙ none_owns db s.locks.locks free (sym n.0 ∙ is.lock) b;
      pending = λ t r its in_. told t (record { record_ = r; told = ap (λ (l : LockState). l.pending t) state ∙ its; there = in_ });
      cursors = no_cursor st db sound (sym n.1 ∙ is.first);
    }

pub awaited : (s : Sessions) (st : Standing) (db : ℕ) (t : TxnId) (holder cursor : Option TxnId) → st.fault ≡ None → AreSound st → AreSessionsAt s st → NoDeadlock s.locks.locks → IsUser s st db holder cursor None
    → IsToldIn db t s.locks.locks → IsAwaited st db t
awaited s st db t holder cursor fault sound at free is told =
    let state = at_none st.fault s.locks.locks st.locks fault at.locks in
    let n = neither holder cursor is.least in
    record {
      unused = none_uses st db (λ b. ap (λ (l : LockState). l.at (record { db = db; at = b })) (sym state) ∙ none_owns db s.locks.locks free (sym n.0 ∙ is.lock) b) (no_cursor st db sound (sym n.1 ∙ is.first));
      record_ = told.record_;
      pending = ap (λ (l : LockState). l.pending t) (sym state) ∙ told.told;
      there = told.there;
    }

named : (r : RecordId) (db : ℕ) → r.db ≡ db → r ≡ record { db = db; at = r.at }
named r db e = ap (λ (n : ℕ). record { db = n; at = r.at }) e

-- who owns a lock there
lock_used : (s : Sessions) (st : Standing) (db : ℕ) (t : TxnId) → state_of s.locks.locks ≡ st.locks → OwnsIn db t s.locks.locks.records → HasLockIn st.locks db t
lock_used s st db t state owns = (
  owns.record_.at,
  subst (λ (l : LockState). has_lock t (l.at (record { db = db; at = owns.record_.at })).0 ≡ true) state
      (subst (λ (r : RecordId). has_lock t (locks_at r s.locks.locks).0 ≡ true) (named owns.record_ db owns.there) owns.owns),
)

pub least_user : (s : Sessions) (st : Standing) (db : ℕ) (t : TxnId) (holder cursor : Option TxnId) → st.fault ≡ None → AreSound st → AreSessionsAt s st → IsUser s st db holder cursor (Some t) → IsLeastUser st db t
least_user s st db t holder cursor fault sound at is = record {
  uses = ⊎_elim
      (λ e. inl (lock_used s st db t state (subst (λ (o : Option TxnId). IfSome o (λ u. OwnsIn db u s.locks.locks.records)) (sym e) is.owns)))
      (λ e. inr (cursor_used st db t (e ∙ is.first)))
      (either holder cursor t is.least);
  least = λ u used. subst (λ (o : Option TxnId). IsAtMost o u) (sym is.least) (at_most u used);
}
  where
    state : state_of s.locks.locks ≡ st.locks
    state = at_none st.fault s.locks.locks st.locks fault at.locks

    at_most : (u : TxnId) → Uses st db u → IsAtMost (lesser holder cursor) u
    at_most u (inl h) = lesser_left holder cursor u (subst (λ (o : Option TxnId). IsAtMost o u) (sym is.lock)
        (owner_le (record { db = db; at = h.0 }) s.locks.locks.records u (subst (λ (l : LockState). has_lock u (l.at (record { db = db; at = h.0 })).0 ≡ true) (sym state) h.1)))
    at_most u (inr h) = lesser_right holder cursor u (subst (λ (o : Option TxnId). IsAtMost o u) (sym is.first) (cursor_at_most st db u sound.numbers h))

pub if_told : (s : Sessions) (st : Standing) (db : ℕ) (o : Option TxnId) → IfSome o (λ t. IsToldIn db t s.locks.locks) → ((t : TxnId) → IsToldIn db t s.locks.locks → IsAwaited st db t) → IfSome o (λ t. IsLeastUser st db t ⊎ IsAwaited st db t)
if_told s st db None h f = tt
if_told s st db (Some t) h f = inr (f t h)

pub if_not_told : (s : Sessions) (st : Standing) (db : ℕ) (o : Option TxnId) → IfNone o ((t : TxnId) → IsToldIn db t s.locks.locks → ⊥) → (((t : TxnId) → IsToldIn db t s.locks.locks → ⊥) → IsUnused st db) → IfNone o (IsUnused st db)
if_not_told s st db None h f = f h
if_not_told s st db (Some t) h f = tt
