-- A call that was evaluated is told: what holds of the calls holds with it too.
use Rattle.std.proofs.Common.{◌≡◌, ◌≤◌, ◌<◌, inl, inr, ℕ, ◌==◌, Bool, true, false, cond, List, [], ◌∷◌, ◌++◌, map, Option, None, Some, refl, ap, ap₂, sym, ◌∙◌, subst, ⊎_elim, arith}
use Rattle.std.specs.List.{AllByRecursion}
use Rattle.std.proofs.lemmas.Bool.{cases_Bool, cond-true, cond-false, both_ways, eqb-true}
use Rattle.je_order.specs.declared.txn_id.TxnId.{TxnId}
use Rattle.je_order.specs.Transactions.{is_same_txn}
use Rattle.je_order.proofs.TxnIds.{same_is, same_itself}
use Rattle.je_order.specs.declared.name.Name.{Name}
use Rattle.store_model.specs.declared.isolation.Isolation.{Isolation}
use Rattle.store_model.specs.declared.isolation.Isolation.TheVariants.{RepeatableRead, Serializable}
use Rattle.store_model.specs.declared.place.Place.{Place}
use Rattle.store_model.specs.declared.call.Call.{Call}
use Rattle.store_model.specs.declared.change.Change.{Change}
use Rattle.store_model.specs.declared.record_change.RecordChange.{RecordChange}
use Rattle.store_model.specs.Indexes.{Numbered}
use Rattle.je_answers.specs.declared.active.Active.{Active}
use Rattle.je_answers.specs.Standing.{Standing, place_at, database_at}
use Rattle.je_answers.specs.Views.{Target, target_of, with_numbers, changes_named, needs_in, outcome_of}
use Rattle.je_answers.specs.After.{moved}
use Rattle.je_answers.specs.Locking.{first_blocked}
use Rattle.standing_laws.specs.Right.{AreSound, AreNumbered as AreRising, MayWait, txn_id}
use Rattle.standing_laws.proofs.Among.{IsAmong, all_of, mapped_among}
use Rattle.standing_laws.proofs.Stays.{same_active}
use Rattle.serial_replay.specs.Replay.{AnsweredCall, Positions, is_evaluated, name_on, calls_of, cursor_of, nowhere, position_of, with_position, positions_after}
use Rattle.serial_replay.proofs.Shut.{IsShut, only}
use Rattle.serial_replay.proofs.Stores.{Base, over_by, base_of, base_at, IsFit, named_same, same_number}
use Rattle.serial_replay.proofs.Places.{on_records, moved_at, moved_is, after_is, IsMoved, moved_found, position_same, IsAtCursor, IsTargetOf, other_session}
use Rattle.serial_replay.proofs.Keeping.{Said, occupied_at, IsSerAs, IsSerial, IsRepeatable, IsShutPlace, IsStable, IsWell, well_same, IsKept, own_same, fits_kept, place_kept, serial_kept, repeatable_kept, Follows, positions_by, call_by, AreWhere, AreShutPlaces, KeepsOf, keeps, before_own, same_calls, keeps_kept, IsGround, EachBut, KeepsIf, IsKnown}
use Rattle.serial_replay.proofs.Here.{HasRecords, base_there}
use Rattle.serial_replay.proofs.CallUpkeep.{up_called}
use Rattle.serial_replay.proofs.Calling.{made, made_there, made_proper, IsCallOf, said_now, stable_call, kept_other, kept_own, own_other, own_its, base_new, base_is, place_now, ser_now, repeatable_now}

-- ---- lists

pub all_push : {X : Type 0} (P : X → Type 0) (xs : List X) (x : X) → AllByRecursion P xs → P x → AllByRecursion P (xs ++ x ∷ [])
all_push P [] x h k = (k, tt)
all_push P (y ∷ xs) x h k = (h.0, all_push P xs x h.1 k)

all_both : {X : Type 0} (P : X → Type 0) (xs ys : List X) → AllByRecursion P xs → AllByRecursion P ys → AllByRecursion P (xs ++ ys)
all_both P [] ys h k = k
all_both P (x ∷ xs) ys h k = (h.0, all_both P xs ys h.1 k)

pub all_each : {X : Type 0} (P Q : X → Type 0) → ((x : X) → P x → Q x) → (xs : List X) → AllByRecursion P xs → AllByRecursion Q xs
all_each P Q f [] h = tt
all_each P Q f (x ∷ xs) h = (f x h.0, all_each P Q f xs h.1)

pub map_push : {X Y : Type 0} (f : X → Y) (xs : List X) (x : X) → map f (xs ++ x ∷ []) ≡ map f xs ++ f x ∷ []
map_push f [] x = refl
map_push f (y ∷ xs) x = ap (λ l. f y ∷ l) (map_push f xs x)

-- ---- calls of a longer list

pub calls_push_its : (t : TxnId) (told : List AnsweredCall) (c : AnsweredCall) → is_same_txn t c.txn ≡ true → calls_of t (told ++ c ∷ []) ≡ calls_of t told ++ c ∷ []
calls_push_its t [] c e = cond-true (is_same_txn t c.txn) (c ∷ []) [] e
calls_push_its t (d ∷ told) c e = ⊎_elim
    (λ k. cond-true (is_same_txn t d.txn) (d ∷ calls_of t (told ++ c ∷ [])) (calls_of t (told ++ c ∷ [])) k
    ∙ (ap (λ (l : List AnsweredCall). d ∷ l) (calls_push_its t told c e) ∙ ap (λ (l : List AnsweredCall). l ++ c ∷ []) (sym (cond-true (is_same_txn t d.txn) (d ∷ calls_of t told) (calls_of t told) k))))
    (λ k. cond-false (is_same_txn t d.txn) (d ∷ calls_of t (told ++ c ∷ [])) (calls_of t (told ++ c ∷ [])) k
    ∙ (calls_push_its t told c e ∙ ap (λ (l : List AnsweredCall). l ++ c ∷ []) (sym (cond-false (is_same_txn t d.txn) (d ∷ calls_of t told) (calls_of t told) k))))
    (cases_Bool (is_same_txn t d.txn))

pub calls_push_other : (t : TxnId) (told : List AnsweredCall) (c : AnsweredCall) → is_same_txn t c.txn ≡ false → calls_of t (told ++ c ∷ []) ≡ calls_of t told
calls_push_other t [] c e = cond-false (is_same_txn t c.txn) (c ∷ []) [] e
calls_push_other t (d ∷ told) c e = ⊎_elim
    (λ k. cond-true (is_same_txn t d.txn) (d ∷ calls_of t (told ++ c ∷ [])) (calls_of t (told ++ c ∷ [])) k
    ∙ (ap (λ (l : List AnsweredCall). d ∷ l) (calls_push_other t told c e) ∙ sym (cond-true (is_same_txn t d.txn) (d ∷ calls_of t told) (calls_of t told) k)))
    (λ k. cond-false (is_same_txn t d.txn) (d ∷ calls_of t (told ++ c ∷ [])) (calls_of t (told ++ c ∷ [])) k
    ∙ (calls_push_other t told c e ∙ sym (cond-false (is_same_txn t d.txn) (d ∷ calls_of t told) (calls_of t told) k)))
    (cases_Bool (is_same_txn t d.txn))

-- no call is told of a transaction whose number is not allocated yet
pub none_told : (t : TxnId) (last : ℕ) (told : List AnsweredCall) → last < t.0 → AllByRecursion (λ c. c.txn.0 ≤ last) told → calls_of t told ≡ []
none_told t last [] more h = refl
none_told t last (c ∷ told) more h = cond-false (is_same_txn t c.txn) (c ∷ calls_of t told) (calls_of t told) (⊎_elim (λ e. absurd (above e)) (λ e. e) (cases_Bool (is_same_txn t c.txn))) ∙ none_told t last told more h.1
  where
    above : is_same_txn t c.txn ≡ true → ⊥
    above e = let k = ap (λ (x : TxnId). x.0) (same_is t c.txn e) in let m = h.0 in absurd (omega (arith, k, m, more))

pub keeps_told : (st : Standing) (told more : List AnsweredCall) (t : TxnId) (level : Isolation) (session : ℕ) (auto : Bool) → calls_of t more ≡ calls_of t told → KeepsOf st told t level session auto → KeepsOf st more t level session auto
keeps_told st told more t level session auto e k = record { said = k.said; calls = e ∙ k.calls; follows = k.follows; positions = k.positions; ser = k.ser; places = k.places; repeatable = k.repeatable }

-- the changes go on after one more call, and it leaves the cursors where they then are
pub follows_push : (before : List (ℕ × RecordChange)) (at : Positions) (said : List Said) (own : List (ℕ × RecordChange)) (s : Said) → Follows before at said own → s.before ≡ own → s.at ≡ position_of (cursor_of s.call) (positions_by said at)
    → Follows before at (said ++ s ∷ []) (own ++ s.changes)
follows_push before at [] own s h e f = (e ∙ h, f, ap (λ (l : List (ℕ × RecordChange)). l ++ s.changes) h)
follows_push before at (r ∷ said) own s h e f = (h.0, h.1, follows_push (before ++ r.changes) (positions_after r.call r.came.place at) said own s h.2 e f)

pub positions_push : (said : List Said) (at : Positions) (s : Said) → positions_by (said ++ s ∷ []) at ≡ positions_after s.call s.came.place (positions_by said at)
positions_push [] at s = refl
positions_push (r ∷ said) at s = positions_push said (positions_after r.call r.came.place at) s

pub numbered_le : (last : ℕ) (as_ : List Active) (a : Active) → AreRising last as_ → IsAmong a as_ → a.txn.0 ≤ last
numbered_le last [] a h k = absurd k
numbered_le last (b ∷ bs) a h (inl e) = subst (λ (x : Active). x.txn.0 ≤ last) e h.0
numbered_le last (b ∷ bs) a h (inr k) = numbered_le last bs a h.2 k

-- ---- one more call is told

pub ground_told : (st : Standing) (told : List AnsweredCall) (c : AnsweredCall) → IsGround st told → c.txn.0 ≤ st.last_txn → IsGround st (told ++ c ∷ [])
ground_told st told c ground h = record { well = ground.well; fits = ground.fits; up = ground.up; last = all_push (λ (d : AnsweredCall). d.txn.0 ≤ st.last_txn) told c ground.last h }

-- of its transaction, as it holds now, and of the others, of which it tells nothing
pub each_told : (st new : Standing) (a : Active) (told : List AnsweredCall) (c : AnsweredCall) → AreSound st → IsAmong a st.actives → c.txn ≡ a.txn → KeepsIf new (told ++ c ∷ []) a → EachBut a.txn new told st.actives
    → (b : Active) → IsAmong b st.actives → KeepsIf new (told ++ c ∷ []) b
each_told st new a told c sound there txn own others b k keep = ⊎_elim
    (λ e. let is : a ≡ b = same_active st.last_txn st.actives a b sound.numbers there k (same_is a.txn b.txn e) in
    subst (λ (x : Active). KeepsIf new (told ++ c ∷ []) x) is own keep)
    (λ e. let apart : b.txn ≡ a.txn → ⊥ = λ h. both_ways (is_same_txn a.txn b.txn) e (subst (λ (x : TxnId). is_same_txn a.txn x ≡ true) (sym h) (same_itself a.txn)) in
    keeps_told new told (told ++ c ∷ []) b.txn b.level b.session b.is_auto (calls_push_other b.txn told c (ap (is_same_txn b.txn) txn ∙ turned e)) (others b k apart keep))
    (cases_Bool (is_same_txn a.txn b.txn))
  where
    turned : is_same_txn a.txn b.txn ≡ false → is_same_txn b.txn a.txn ≡ false
    turned h = ⊎_elim
        (λ f. absurd (both_ways (is_same_txn a.txn b.txn) h (subst (λ (x : TxnId). is_same_txn a.txn x ≡ true) (sym (same_is b.txn a.txn f)) (same_itself a.txn))))
        (λ f. f)
        (cases_Bool (is_same_txn b.txn a.txn))

-- ---- where a call leaves what holds

-- where its cursor stands its calls left it, and at serializable its place is shut
at_is : (st : Standing) (session : ℕ) (g : Target) (o : Option ℕ) (at : Positions) → IsAtCursor (st.places session) o g → AreWhere st session at → g.at ≡ position_of o at
at_is st session g None at its stands = its
at_is st session g (Some cursor) at its stands = its.3 ∙ stands cursor its.0 its.1

same_base : (b : Base) (o : Option Base) (c : Base) → o ≡ Some b → o ≡ Some c → b ≡ c
same_base b o c e f = some_is b c (sym e ∙ f)
  where
    some_is : (x y : Base) → Some x ≡ Some y → x ≡ y
    some_is x y h = cc (h)

shut_at : (st : Standing) (t : TxnId) (session : ℕ) (g : Target) (o : Option ℕ) → IsAtCursor (st.places session) o g → database_at g.db st ≡ Some g.database → AreShutPlaces st t session → (n : Name) → g.at ≡ Some n
    → IsShut st.locks.at (occupied_at st g.db g.database.kind) t g.db (only n)
shut_at st t session g None its here shut n e = let h = sym its ∙ e in absurd (cc (h))
shut_at st t session g (Some cursor) its here shut n e =
    let p = shut cursor its.0 its.1 n (sym its.3 ∙ e) in
    let base : base_at its.0.db st ≡ Some (g.database.name, g.database.kind, over_by st.numbers g.database.index) = ap (λ (m : ℕ). base_at m st) (sym its.2) ∙ ap (base_of st.numbers) here in
    subst (λ (m : ℕ). IsShut st.locks.at (occupied_at st m g.database.kind) t m (only n)) (sym its.2)
    (subst (λ (b : Base). IsShut st.locks.at (occupied_at st its.0.db b.1) t its.0.db (only n)) (same_base p.base (base_at its.0.db st) (g.database.name, g.database.kind, over_by st.numbers g.database.index) p.there base) p.shut)

module _ (st : Standing) (a : Active) (call : Call) (g : Target) (told : List AnsweredCall) (may : MayWait call) (sound : AreSound st) (ground : IsGround st told) (on : IsTargetOf st a call g)
    (free : first_blocked a.txn (needs_in st a call g) st.locks.at ≡ None) (new : Standing) (step : IsCallOf st a call g told may sound ground on free new) where
  abbrev its : List (Numbered × RecordChange)
  its = made st a call g

  stable : IsStable st new
  stable = stable_call st a call g told may sound ground on free new step

  well_new : IsWell new
  well_new = well_same st new step.store step.numbers step.last_db ground.well

  -- each change fits
  fit_now : AllByRecursion (IsFit new) (with_numbers (made st a call g))
  fit_now = all_of (IsFit new) (with_numbers (made st a call g)) (λ c i.
      let m = mapped_among (λ (z : Numbered × RecordChange). (z.0.0, z.1)) (made st a call g) c i in
      subst (IsFit new) m.2 (record {
        base = base_there st a told sound ground m.0.0 (made_there st a call g told may sound ground on free m.0 m.1);
        there = base_new st a call g told may sound ground on free new step m.0.0.0 ∙ ap (base_of st.numbers) (made_there st a call g told may sound ground on free m.0 m.1);
        its = made_proper st a call g told may sound ground on free m.0 m.1;
      }))

  fits_new : (t : ℕ) → AllByRecursion (IsFit new) (new.own t)
  fits_new t = ⊎_elim
      (λ e. let k : t ≡ a.txn.0 = eqb-true t a.txn.0 e in
      subst (λ (m : ℕ). AllByRecursion (IsFit new) (new.own m)) (sym k)
      (subst (AllByRecursion (IsFit new)) (sym (own_its st a call g told may sound ground on free new step))
      (all_both (IsFit new) (st.own a.txn.0) (with_numbers (made st a call g)) (fits_kept st new a.txn.0 sound (ground.fits a.txn.0) stable) fit_now)))
      (λ e. subst (AllByRecursion (IsFit new)) (sym (own_other st a call g told may sound ground on free new step t (λ k. both_ways (t == a.txn.0) e (itself k)))) (fits_kept st new t sound (ground.fits t) stable))
      (cases_Bool (t == a.txn.0))
    where
      itself : t ≡ a.txn.0 → (t == a.txn.0) ≡ true
      itself k = ap (λ (m : ℕ). m == a.txn.0) k ∙ same_itself a.txn

  pub ground_call : IsAmong a st.actives → IsGround new told
  ground_call there = record {
    well = well_new;
    fits = fits_new;
    up = up_called st a call g told may sound ground on free there new step.store step.numbers step.own;
    last = subst (λ (l : ℕ). AllByRecursion (λ (c : AnsweredCall). c.txn.0 ≤ l) told) (sym step.last_txn) ground.last;
  }

  pub others_call : IsAmong a st.actives → EachBut a.txn st told st.actives → EachBut a.txn new told st.actives
  others_call there each b k apart keep =
      keeps_kept b.txn b.level b.session b.is_auto st new told told stable ground.well well_new (kept_other st a call g told may sound ground on free new step b.txn b.level apart)
      (λ own_call cursor. ap (place_at cursor) (step.places b.session
      ∙ cond-false (b.session == a.session) (moved call (outcome_of st a call g).place (st.places a.session)) (st.places b.session) (other_session st.actives a b sound.waits.sessions there k apart)))
      (λ c i. own_same st new b.txn sound (ground.fits b.txn.0) stable c i)
      (own_other st a call g told may sound ground on free new step b.txn.0 (λ e. apart (ap (λ (m : ℕ). txn_id m) e))) refl (each b k apart keep)

  -- the call as it is told
  abbrev pub told_now : AnsweredCall
  told_now = record { txn = a.txn; call = call; db = name_on (target_of st a.session call); answer = (outcome_of st a call g).answer; own = changes_named st (st.own a.txn.0) }

  -- its cursor moved
  places_its : new.places a.session ≡ moved_at (cursor_of call) (outcome_of st a call g).place (st.places a.session)
  places_its = step.places a.session
      ∙ (cond-true (a.session == a.session) (moved call (outcome_of st a call g).place (st.places a.session)) (st.places a.session) (same_number a.session) ∙ moved_is call (outcome_of st a call g).place (st.places a.session))

  module _ (keep : keeps a.level ≡ true) (auto : a.is_auto ≡ false) (named : name_on (target_of st a.session call) ≡ g.database.name) (evaluated : is_evaluated (outcome_of st a call g).answer ≡ true)
      (complete : a.level ≡ RepeatableRead → HasRecords st a) (k : KeepsOf st told a.txn a.level a.session a.is_auto) where
    abbrev s : Said
    s = said_now st a call g told may sound ground on free new step

    kept : IsKept a.txn a.level st new
    kept = kept_own st a call g told may sound ground on free new step keep

    same : (c : ℕ × RecordChange) → IsAmong c (st.own a.txn.0) → base_at c.0 st ≡ base_at c.0 new
    same c i = own_same st new a.txn sound (ground.fits a.txn.0) stable c i

    abbrev before : Positions
    before = positions_by k.said nowhere

    stands : AreWhere new a.session (positions_by (k.said ++ s ∷ []) nowhere)
    stands cursor q e =
        let m = moved_found (cursor_of call) (outcome_of st a call g).place (st.places a.session) cursor q (sym (ap (place_at cursor) places_its) ∙ e) in
        m.at
        ∙ (position_same (cursor_of call) (outcome_of st a call g).place m.old.at before cursor (k.positions auto cursor m.old m.its)
        ∙ (sym (ap (λ (f : Positions). f cursor) (after_is call (outcome_of st a call g).place before may)) ∙ sym (ap (λ (f : Positions). f cursor) (positions_push k.said nowhere s))))

    module _ (ser : a.level ≡ Serializable) where
      at_place : (n : Name) → g.at ≡ Some n → IsShut st.locks.at (occupied_at st g.db g.database.kind) a.txn g.db (only n)
      at_place n e = shut_at st a.txn a.session g (cursor_of call) on.its on.here (k.places auto ser) n e

      serial : IsSerial new a.txn s
      serial = subst (λ (b : Bool). IsSerAs b new a.txn s) (sym (on_records call may).0) (ser_now st a call g told may sound ground on free new step ser at_place evaluated)

      shut : AreShutPlaces new a.txn a.session
      shut cursor q e n h =
          let m = moved_found (cursor_of call) (outcome_of st a call g).place (st.places a.session) cursor q (sym (ap (place_at cursor) places_its) ∙ e) in
          by m (cursor_of call) refl (sym m.at ∙ h)
        where
          as_was : (m : IsMoved (cursor_of call) (outcome_of st a call g).place (st.places a.session) cursor q) → m.old.at ≡ Some n → IsShutPlace new a.txn q.db n
          as_was m f = subst (λ (d : ℕ). IsShutPlace new a.txn d n) (sym m.db) (place_kept a.txn a.level st new stable kept ground.well well_new ser m.old.db n (k.places auto ser cursor m.old m.its n f))

          some_place : (x y : Place) → Some x ≡ Some y → x ≡ y
          some_place x y i = cc (i)

          it_is : (c : ℕ) → cursor_of call ≡ Some c → (m : IsMoved (cursor_of call) (outcome_of st a call g).place (st.places a.session) cursor q) → cursor ≡ c → (outcome_of st a call g).place ≡ Some n → IsShutPlace new a.txn q.db n
          it_is c f m same_one went =
              let p = subst (λ (o : Option ℕ). IsAtCursor (st.places a.session) o g) f on.its in
              let old : m.old ≡ p.0 = some_place m.old p.0 (sym m.its ∙ (ap (λ (i : ℕ). place_at i (st.places a.session)) same_one ∙ p.1)) in
              let db : q.db ≡ g.db = m.db ∙ (ap (λ (x : Place). x.db) old ∙ sym p.2) in
              subst (λ (d : ℕ). IsShutPlace new a.txn d n) (sym db) (record {
                base = (g.database.name, g.database.kind, over_by st.numbers g.database.index);
                there = base_new st a call g told may sound ground on free new step g.db ∙ base_is st a call g told may sound ground on free;
                shut = place_now st a call g told may sound ground on free new step ser at_place n went;
              })

          by : (m : IsMoved (cursor_of call) (outcome_of st a call g).place (st.places a.session) cursor q) → (o : Option ℕ) → cursor_of call ≡ o → with_position (cursor_of call) (outcome_of st a call g).place (λ i. m.old.at) cursor ≡ Some n
              → IsShutPlace new a.txn q.db n
          by m None f i = as_was m (sym (ap (λ (o : Option ℕ). with_position o (outcome_of st a call g).place (λ j. m.old.at) cursor) f) ∙ i)
          by m (Some c) f i = at_one (cursor == c) refl (sym (ap (λ (o : Option ℕ). with_position o (outcome_of st a call g).place (λ j. m.old.at) cursor) f) ∙ i)
            where
              at_one : (b : Bool) → (cursor == c) ≡ b → cond (cursor == c) (outcome_of st a call g).place m.old.at ≡ Some n → IsShutPlace new a.txn q.db n
              at_one true j l = it_is c f m (eqb-true cursor c j) (sym (cond-true (cursor == c) (outcome_of st a call g).place m.old.at j) ∙ l)
              at_one false j l = as_was m (sym (cond-false (cursor == c) (outcome_of st a call g).place m.old.at j) ∙ l)

    own_call : KeepsOf new (told ++ told_now ∷ []) a.txn a.level a.session a.is_auto
    own_call = record {
      said = k.said ++ s ∷ [];
      calls = calls_push_its a.txn told told_now (same_itself a.txn)
          ∙ (ap₂ (λ (l : List AnsweredCall) (c : AnsweredCall). l ++ c ∷ [])
          (k.calls ∙ same_calls st new a.txn (st.own a.txn.0) same k.said (before_own [] nowhere k.said (st.own a.txn.0) k.follows))
          (ap₂ (λ (db : List ℕ) (cs : List Change). record { txn = a.txn; call = call; db = db; answer = (outcome_of st a call g).answer; own = cs }) named (named_same st.numbers new.numbers st.store new.store (st.own a.txn.0) same))
          ∙ sym (map_push (call_by new a.txn) k.said s));
      follows = subst (λ (l : List (ℕ × RecordChange)). Follows [] nowhere (k.said ++ s ∷ []) l) (sym (own_its st a call g told may sound ground on free new step))
          (follows_push [] nowhere k.said (st.own a.txn.0) s k.follows refl (at_is st a.session g (cursor_of call) before on.its (k.positions auto)));
      positions = λ own_call. stands;
      ser = λ e. all_push (IsSerial new a.txn) k.said s
          (all_each (IsSerial st a.txn) (IsSerial new a.txn) (λ r h. serial_kept a.txn a.level st new stable kept ground.well well_new e r h) k.said (k.ser e))
          (serial e);
      places = λ own_call e. shut e;
      repeatable = λ e. all_push (IsRepeatable new a.txn) k.said s
          (all_each (IsRepeatable st a.txn) (IsRepeatable new a.txn) (λ r h. repeatable_kept a.txn a.level st new stable kept ground.well well_new r r.answer h) k.said (k.repeatable e))
          (repeatable_now st a call g told may sound ground on free new step complete e);
    }

  -- a call of a transaction that goes on
  pub known_call : IsAmong a st.actives → new.actives ≡ st.actives → a.is_auto ≡ false → name_on (target_of st a.session call) ≡ g.database.name → is_evaluated (outcome_of st a call g).answer ≡ true → (a.level ≡ RepeatableRead → HasRecords st a) → IsKnown st told
      → IsKnown new (told ++ told_now ∷ [])
  known_call there same auto named evaluated complete known = record {
    ground = ground_told new told told_now (ground_call there) (subst (λ (l : ℕ). a.txn.0 ≤ l) (sym step.last_txn) (numbered_le st.last_txn st.actives a sound.numbers there));
    each = λ b k. each_told st new a told told_now sound there refl (λ keep. own_call keep auto named evaluated complete (known.each a there keep)) (others_call there (λ c i apart. known.each c i)) b (subst (IsAmong b) same k);
  }
