-- A cursor is opened or closed: nothing but the session's cursors changes, and its transaction tells of it.
use Rattle.std.proofs.Common.{◌≡◌, ◌⊎◌, inl, inr, ℕ, ◌==◌, Bool, true, false, not, cond, ◌||◌, List, [], ◌∷◌, ◌++◌, filter, Option, None, Some, refl, ap, ap₂, sym, ◌∙◌, subst, ⊎_elim, arith, append-nil, is_some}
use Rattle.std.proofs.lemmas.Bool.{cases_Bool, cond-true, cond-false, both_ways, eqb-true}
use Rattle.je_order.proofs.TxnIds.{same_itself}
use Rattle.je_order.specs.declared.name.Name.{Name}
use Rattle.store_model.specs.declared.kind.Kind.TheVariants.{Plain}
use Rattle.store_model.specs.declared.isolation.Isolation.TheVariants.{Serializable}
use Rattle.store_model.specs.declared.call.Call.{Call}
use Rattle.store_model.specs.declared.call.Call.TheVariants.{Open, Close, Dup}
use Rattle.store_model.specs.declared.place.Place.{Place}
use Rattle.store_model.specs.declared.record_change.RecordChange.{RecordChange}
use Rattle.store_model.specs.declared.answer.Answer.{Answer}
use Rattle.store_model.specs.declared.answer.Answer.TheVariants.{Done, NoCursor}
use Rattle.store_model.specs.Records.{says}
use Rattle.je_answers.specs.declared.active.Active.{Active}
use Rattle.je_answers.specs.Standing.{Standing, active_of, place_at, with_at}
use Rattle.je_answers.specs.Views.{target_of, changes_named}
use Rattle.je_answers.specs.Refusals.{cursor_refusal}
use Rattle.je_answers.specs.After.{opened, opened_at, closed_cursor}
use Rattle.standing_laws.specs.Right.{AreSound}
use Rattle.standing_laws.proofs.Among.{IsAmong, its_session, own_found}
use Rattle.serial_replay.specs.Replay.{AnsweredCall, Positions, name_on, is_evaluated, told_of, with_told, is_of_cursors, is_on_records, cursor_of, nowhere, position_of, positions_after}
use Rattle.serial_replay.proofs.Stores.{same_number}
use Rattle.serial_replay.proofs.Places.{found_with, found_without, other_session}
use Rattle.serial_replay.proofs.Keeping.{Said, IsSerAs, IsSerial, IsRepeatable, IsShutPlace, well_same, place_kept, serial_kept, repeatable_kept, Follows, positions_by, call_by, AreWhere, AreShutPlaces, KeepsOf, KeepsPlaces, EachBut, IsKnown}
use Rattle.serial_replay.proofs.Quiet.{IsQuiet, as_before, stable, kept, ground_quiet, keeps_quiet, known_quiet, same_locks}
use Rattle.serial_replay.proofs.Told.{all_push, all_each, map_push, calls_push_its, follows_push, positions_push, numbered_le, ground_told, each_told}
use Rattle.serial_replay.proofs.Replies.{auto_untold, is_told}

-- a cursor stands where one stood before, in the same database, or at no record
abbrev pub IsOldPlace : List Place → Place → Type 0
IsOldPlace ps q = ((c : ℕ) × (p : Place) × (place_at c ps ≡ Some p) × (q.db ≡ p.db) × (q.at ≡ p.at)) ⊎ (q.at ≡ None)

-- it is at no cursor
no_cursor : (call : Call) → is_of_cursors call ≡ true → cursor_of call ≡ None
no_cursor (Open cursor db) h = refl
no_cursor (Close cursor) h = refl
no_cursor (Dup cursor to) h = refl
no_cursor call h = absurd (both_ways false refl h)

module _ (call : Call) (st : Standing) (session : ℕ) (ps : List Place) (told : List AnsweredCall) (answer : Answer) (of_cursors : is_of_cursors call ≡ true) (done : answer ≡ Done) (sound : AreSound st) (known : IsKnown st told)
    (untargeted : target_of st session call ≡ None) (stands : (at : Positions) → AreWhere st session at → (c : ℕ) (q : Place) → place_at c ps ≡ Some q → q.at ≡ positions_after call None at c)
    (old : (c : ℕ) (q : Place) → place_at c ps ≡ Some q → IsOldPlace (st.places session) q) where
  abbrev new : Standing
  new = record st { places = with_at session ps st.places }

  quiet : IsQuiet st new
  quiet = record { store = refl; numbers = refl; last_db = refl; last_txn = (omega arith); own = λ t. refl }

  places_other : (other : ℕ) → (other == session) ≡ false → KeepsPlaces other st new
  places_other other e cursor = ap (place_at cursor) (cond-false (other == session) ps (st.places other) e)

  -- of a transaction that tells nothing
  untold : (active : Option Active) → active_of session st.actives ≡ active → ((a : Active) → active ≡ Some a → a.is_auto ≡ true) → IsKnown new told
  untold active its auto =
      known_quiet st new told sound quiet known (λ b k keep. inl (as_before st new b k (same_locks b.txn st new (λ r. refl)) (λ own. places_other b.session (other b k own active its auto))))
    where
      other : (b : Active) → IsAmong b st.actives → b.is_auto ≡ false → (o : Option Active) → active_of session st.actives ≡ o → ((a : Active) → o ≡ Some a → a.is_auto ≡ true) → (b.session == session) ≡ false
      other b k own o e f = ⊎_elim
          (λ h. let found = own_found st.actives b sound.waits.sessions k in
          absurd (both_ways b.is_auto own (f b (sym e ∙ (ap (λ (n : ℕ). active_of n st.actives) (sym (eqb-true b.session session h)) ∙ found)))))
          (λ h. h)
          (cases_Bool (b.session == session))

  module _ (a : Active) (its : active_of session st.actives ≡ Some a) (auto : a.is_auto ≡ false) where
    there : IsAmong a st.actives
    there = (its_session session st.actives a its).0

    its_own : a.session ≡ session
    its_own = (its_session session st.actives a its).1

    abbrev told_now : AnsweredCall
    told_now = record { txn = a.txn; call = call; db = name_on (target_of st a.session call); answer = answer; own = changes_named st (st.own a.txn.0) }

    abbrev s : Said
    s = record { db = 0; base = ([], Plain, None); call = call; at = None; came = says Done None; answer = Done; changes = []; before = st.own a.txn.0; closed = [] }

    is_its : told_now ≡ call_by new a.txn s
    is_its = ap₂ (λ (db : List ℕ) (x : Answer). record { txn = a.txn; call = call; db = db; answer = x; own = changes_named st (st.own a.txn.0) })
        (ap (λ (n : ℕ). name_on (target_of st n call)) its_own ∙ ap name_on untargeted) done

    found_here : (cursor : ℕ) (q : Place) → place_at cursor (new.places a.session) ≡ Some q → place_at cursor ps ≡ Some q
    found_here cursor q e = sym (ap (place_at cursor) (cond-true (a.session == session) ps (st.places a.session) (ap (λ (n : ℕ). n == session) its_own ∙ same_number session))) ∙ e

    own_moved : KeepsOf st told a.txn a.level a.session a.is_auto → KeepsOf new (told ++ told_now ∷ []) a.txn a.level a.session a.is_auto
    own_moved k = record {
      said = k.said ++ s ∷ [];
      calls = calls_push_its a.txn told told_now (same_itself a.txn)
          ∙ (ap₂ (λ (l : List AnsweredCall) (c : AnsweredCall). l ++ c ∷ []) k.calls is_its ∙ sym (map_push (call_by new a.txn) k.said s));
      follows = subst (λ (l : List (ℕ × RecordChange)). Follows [] nowhere (k.said ++ s ∷ []) l) (append-nil (st.own a.txn.0))
          (follows_push [] nowhere k.said (st.own a.txn.0) s k.follows refl (ap (λ (o : Option ℕ). position_of o (positions_by k.said nowhere)) (sym (no_cursor call of_cursors))));
      positions = λ own cursor q e.
          stands (positions_by k.said nowhere) (subst (λ (n : ℕ). AreWhere st n (positions_by k.said nowhere)) its_own (k.positions own)) cursor q (found_here cursor q e)
          ∙ sym (ap (λ (f : Positions). f cursor) (positions_push k.said nowhere s));
      ser = λ e. all_push (IsSerial new a.txn) k.said s
          (all_each (IsSerial st a.txn) (IsSerial new a.txn)
          (λ r h. serial_kept a.txn a.level st new (stable st new told sound quiet) (kept st new told sound quiet a.txn a.level (same_locks a.txn st new (λ x. refl))) known.ground.well (well_same st new refl refl refl known.ground.well) e r h) k.said (k.ser e))
          (subst (λ (b : Bool). IsSerAs b new a.txn s) (sym of_cursors) (refl, refl, refl));
      places = λ own e cursor q f n h. by own e q n h (old cursor q (found_here cursor q f));
      repeatable = λ e. all_push (IsRepeatable new a.txn) k.said s
          (all_each (IsRepeatable st a.txn) (IsRepeatable new a.txn)
          (λ r h. repeatable_kept a.txn a.level st new (stable st new told sound quiet) (kept st new told sound quiet a.txn a.level (same_locks a.txn st new (λ x. refl))) known.ground.well (well_same st new refl refl refl known.ground.well) r r.answer h) k.said
          (k.repeatable e))
          tt;
    }
      where
        by : a.is_auto ≡ false → a.level ≡ Serializable → (q : Place) (n : Name) → q.at ≡ Some n → IsOldPlace (st.places session) q → IsShutPlace new a.txn q.db n
        by own e q n h (inr none) = let x = sym none ∙ h in absurd (cc (x))
        by own e q n h (inl p) =
            let shut = subst (AreShutPlaces st a.txn) its_own (k.places own e) in
            subst (λ (d : ℕ). IsShutPlace new a.txn d n) (sym p.3)
            (place_kept a.txn a.level st new (stable st new told sound quiet) (kept st new told sound quiet a.txn a.level (same_locks a.txn st new (λ x. refl))) known.ground.well (well_same st new refl refl refl known.ground.well) e p.1.db n (shut p.0 p.1 p.2 n (sym p.4 ∙ h)))

    others : EachBut a.txn new told st.actives
    others b k apart keep =
        keeps_quiet st new told sound quiet known.ground b.txn b.level b.session b.is_auto (same_locks b.txn st new (λ r. refl))
        (λ own. places_other b.session (ap (λ (n : ℕ). b.session == n) (sym its_own) ∙ other_session st.actives a b sound.waits.sessions there k apart)) (known.each b k keep)

    known_told : IsKnown new (told ++ told_now ∷ [])
    known_told = record {
      ground = ground_told new told told_now (ground_quiet st new told sound quiet known.ground) (numbered_le st.last_txn st.actives a sound.numbers there);
      each = λ b k. each_told st new a told told_now sound there refl (λ keep. own_moved (known.each a there keep)) others b k;
    }

  pub known_cursors : (active : Option Active) → active_of session st.actives ≡ active → IsKnown new (with_told (told_of active st call answer) told)
  known_cursors None its = untold None its (λ a e. let h = e in absurd (cc (h)))
  known_cursors (Some a) its = by a.is_auto refl
    where
      some_is : (x y : Active) → Some x ≡ Some y → x ≡ y
      some_is x y h = cc (h)

      by : (b : Bool) → a.is_auto ≡ b → IsKnown new (with_told (told_of (Some a) st call answer) told)
      by true e = subst (λ (o : Option AnsweredCall). IsKnown new (with_told o told)) (sym (auto_untold a st call answer e)) (untold (Some a) its (λ b h. ap (λ (x : Active). x.is_auto) (sym (some_is a b h)) ∙ e))
      by false e = subst (λ (o : Option AnsweredCall). IsKnown new (with_told o told)) (sym (is_told a st call answer e (ap (λ (b : Bool). b || is_on_records call) of_cursors) (ap is_evaluated done))) (known_told a its e)

-- ---- one by one

-- where a longer list of cursors stands
opened_where : (st : Standing) (session to db : ℕ) (at value : Option Name) → place_at to (st.places session) ≡ None → at ≡ value → (positions : Positions) → AreWhere st session positions → (c : ℕ) (q : Place)
    → place_at c (st.places session ++ record { cursor = to; db = db; at = at } ∷ []) ≡ Some q → q.at ≡ with_at to value positions c
opened_where st session to db at value none same positions stands c q e = by (found_with (st.places session) (record { cursor = to; db = db; at = at }) c q e)
  where
    by : (place_at c (st.places session) ≡ Some q) ⊎ ((place_at c (st.places session) ≡ None) × (record { cursor = to; db = db; at = at } ≡ q) × (to ≡ c)) → q.at ≡ with_at to value positions c
    by (inl k) = ⊎_elim
        (λ h. let x = sym none ∙ (ap (λ (n : ℕ). place_at n (st.places session)) (sym (eqb-true c to h)) ∙ k) in absurd (cc (x)))
        (λ h. stands c q k ∙ sym (cond-false (c == to) value (positions c) h))
        (cases_Bool (c == to))
    by (inr k) = ap (λ (p : Place). p.at) (sym k.1) ∙ (same ∙ sym (cond-true (c == to) value (positions c) (ap (λ (n : ℕ). n == to) (sym k.2) ∙ same_number to)))

pub known_opened : (st : Standing) (session cursor : ℕ) (db : List ℕ) (told : List AnsweredCall) (answer : Answer) → answer ≡ Done → AreSound st → IsKnown st told → place_at cursor (st.places session) ≡ None
    → IsKnown (opened cursor (st.numbers db) None session st) (with_told (told_of (active_of session st.actives) st (Open cursor db) answer) told)
known_opened st session cursor db told answer done sound known none =
    known_cursors (Open cursor db) st session (st.places session ++ new ∷ []) told answer refl done sound known refl
    (λ at stands c q e. opened_where st session cursor (st.numbers db) None None none refl at stands c q e)
    (λ c q e. by c q (found_with (st.places session) new c q e)) (active_of session st.actives) refl
  where
    new : Place
    new = record { cursor = cursor; db = st.numbers db; at = None }

    by : (c : ℕ) (q : Place) → (place_at c (st.places session) ≡ Some q) ⊎ ((place_at c (st.places session) ≡ None) × (new ≡ q) × (cursor ≡ c)) → IsOldPlace (st.places session) q
    by c q (inl k) = inl (c, q, k, refl, refl)
    by c q (inr k) = inr (ap (λ (p : Place). p.at) (sym k.1))

pub known_closed : (st : Standing) (session cursor : ℕ) (told : List AnsweredCall) (answer : Answer) → answer ≡ Done → AreSound st → IsKnown st told
    → IsKnown (closed_cursor cursor session st) (with_told (told_of (active_of session st.actives) st (Close cursor) answer) told)
known_closed st session cursor told answer done sound known =
    known_cursors (Close cursor) st session (filter (λ (p : Place). not (p.cursor == cursor)) (st.places session)) told answer refl done sound known refl
    (λ at stands c q e. stands c q (found_without (st.places session) cursor c q e))
    (λ c q e. inl (c, q, found_without (st.places session) cursor c q e, refl, refl)) (active_of session st.actives) refl

cursor_there : (cursor : ℕ) (ps : List Place) → cursor_refusal cursor ps ≡ None → (p : Place) × (place_at cursor ps ≡ Some p)
cursor_there cursor ps h = by (place_at cursor ps) refl
  where
    by : (o : Option Place) → place_at cursor ps ≡ o → (p : Place) × (place_at cursor ps ≡ Some p)
    by None e = let k = sym (ap (λ (o : Option Place). cond (is_some o) None (Some NoCursor)) e) ∙ h in absurd (cc (k))
    by (Some p) e = (p, e)

pub known_copied : (st : Standing) (session cursor to : ℕ) (told : List AnsweredCall) (answer : Answer) → answer ≡ Done → AreSound st → IsKnown st told → cursor_refusal cursor (st.places session) ≡ None
    → place_at to (st.places session) ≡ None → IsKnown (opened_at (place_at cursor (st.places session)) to session st) (with_told (told_of (active_of session st.actives) st (Dup cursor to) answer) told)
known_copied st session cursor to told answer done sound known found none =
    let f = cursor_there cursor (st.places session) found in
    subst (λ (o : Option Place). IsKnown (opened_at o to session st) (with_told (told_of (active_of session st.actives) st (Dup cursor to) answer) told)) (sym f.1)
    (known_cursors (Dup cursor to) st session (st.places session ++ record { cursor = to; db = f.0.db; at = f.0.at } ∷ []) told answer refl done sound known refl
    (λ at stands c q e. opened_where st session to f.0.db f.0.at (at cursor) none (stands cursor f.0 f.1) at stands c q e)
    (λ c q e. by f.0 f.1 c q (found_with (st.places session) (record { cursor = to; db = f.0.db; at = f.0.at }) c q e)) (active_of session st.actives) refl)
  where
    by : (p : Place) → place_at cursor (st.places session) ≡ Some p → (c : ℕ) (q : Place)
        → (place_at c (st.places session) ≡ Some q) ⊎ ((place_at c (st.places session) ≡ None) × (record { cursor = to; db = p.db; at = p.at } ≡ q) × (to ≡ c)) → IsOldPlace (st.places session) q
    by p f c q (inl k) = inl (c, q, k, refl, refl)
    by p f c q (inr k) = inl (cursor, p, f, ap (λ (x : Place). x.db) (sym k.1), ap (λ (x : Place). x.at) (sym k.1))
