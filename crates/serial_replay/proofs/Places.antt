-- Where a session's cursors stand, and where a call leaves them.
use Rattle.std.proofs.Common.{◌≡◌, ◌⊎◌, inl, inr, ℕ, ◌==◌, Bool, true, false, not, cond, List, [], ◌∷◌, ◌++◌, map, filter, find, Option, None, Some, refl, ap, ap₂, sym, ◌∙◌, ⊎_elim}
use Rattle.std.specs.Option.{option_map}
use Rattle.std.proofs.lemmas.Bool.{cases_Bool, cond-true, cond-false, both_ways, eqb-true}
use Rattle.je_order.specs.declared.name.Name.{Name}
use Rattle.store_model.specs.declared.call.Call.{Call}
use Rattle.store_model.specs.declared.call.Call.TheVariants.{Get, GetBoth, Put, Delete, Open, Dup, Count, Cur, CPutCur, CDel, CPut}
use Rattle.store_model.specs.declared.place.Place.{Place}
use Rattle.store_model.specs.Refusals.{index_refusal}
use Rattle.je_answers.specs.declared.active.Active.{Active}
use Rattle.je_answers.specs.Standing.{Standing, active_of, place_at, database_at}
use Rattle.je_answers.specs.Views.{Target, target}
use Rattle.je_answers.specs.After.{moved_to, moved}
use Rattle.active_txns.specs.Marks.{HaveOwnSessions}
use Rattle.standing_laws.specs.Right.{MayWait}
use Rattle.standing_laws.proofs.Among.{IsAmong, found_is, filter_among, own_found}
use Rattle.serial_replay.specs.Replay.{Positions, is_of_cursors, is_on_records, cursor_of, with_position, positions_after}

-- ---- calls

pub on_records : (call : Call) → MayWait call → (is_of_cursors call ≡ false) × (is_on_records call ≡ true)
on_records (Get db key rmw) may = (refl, refl)
on_records (GetBoth db key value rmw) may = (refl, refl)
on_records (Put db key value mode) may = (refl, refl)
on_records (Delete db key) may = (refl, refl)
on_records (Count cursor) may = (refl, refl)
on_records (Cur cursor motion rmw) may = (refl, refl)
on_records (CPutCur cursor value) may = (refl, refl)
on_records (CDel cursor) may = (refl, refl)
on_records (CPut cursor key value mode) may = (refl, refl)
on_records call may = absurd may

-- ---- a call at a cursor

-- the cursor's place moves, and no other one
abbrev pub moved_at : Option ℕ → Option Name → List Place → List Place
moved_at None place ps = ps
moved_at (Some cursor) place ps = moved_to cursor place ps

pub moved_is : (call : Call) (place : Option Name) (ps : List Place) → moved call place ps ≡ moved_at (cursor_of call) place ps
moved_is (Count cursor) place ps = refl
moved_is (Cur cursor motion rmw) place ps = refl
moved_is (CPutCur cursor value) place ps = refl
moved_is (CDel cursor) place ps = refl
moved_is (CPut cursor key value mode) place ps = refl
moved_is call place ps = refl

pub after_is : (call : Call) (place : Option Name) (at : Positions) → MayWait call → positions_after call place at ≡ with_position (cursor_of call) place at
after_is (Open cursor db) place at may = absurd may
after_is (Dup cursor to) place at may = absurd may
after_is call place at may = refl

find_mapped : {X : Type 0} (p : X → Bool) (f : X → X) → ((x : X) → p (f x) ≡ p x) → (xs : List X) → find p (map f xs) ≡ option_map f (find p xs)
find_mapped p f same [] = refl
find_mapped p f same (x ∷ xs) = ⊎_elim
    (λ e. cond-true (p (f x)) (Some (f x)) (find p (map f xs)) (same x ∙ e) ∙ ap (option_map f) (sym (cond-true (p x) (Some x) (find p xs) e)))
    (λ e. cond-false (p (f x)) (Some (f x)) (find p (map f xs)) (same x ∙ e) ∙ (find_mapped p f same xs ∙ ap (option_map f) (sym (cond-false (p x) (Some x) (find p xs) e))))
    (cases_Bool (p x))

abbrev there : ℕ → Option Name → Place → Place
there cursor place p = cond (p.cursor == cursor) (record { cursor = cursor; db = p.db; at = place }) p

same_cursor : (cursor : ℕ) (place : Option Name) (p : Place) → (there cursor place p).cursor ≡ p.cursor
same_cursor cursor place p = by (p.cursor == cursor) refl
  where
    by : (b : Bool) → (p.cursor == cursor) ≡ b → (there cursor place p).cursor ≡ p.cursor
    by true e = ap (λ (q : Place). q.cursor) (cond-true (p.cursor == cursor) (record { cursor = cursor; db = p.db; at = place }) p e) ∙ sym (eqb-true p.cursor cursor e)
    by false e = ap (λ (q : Place). q.cursor) (cond-false (p.cursor == cursor) (record { cursor = cursor; db = p.db; at = place }) p e)

same_db : (cursor : ℕ) (place : Option Name) (p : Place) → (there cursor place p).db ≡ p.db
same_db cursor place p = by (p.cursor == cursor)
  where
    by : (b : Bool) → (cond b (record { cursor = cursor; db = p.db; at = place }) p).db ≡ p.db
    by true = refl
    by false = refl

its_at : (cursor : ℕ) (place : Option Name) (p : Place) → (there cursor place p).at ≡ cond (p.cursor == cursor) place p.at
its_at cursor place p = by (p.cursor == cursor)
  where
    by : (b : Bool) → (cond b (record { cursor = cursor; db = p.db; at = place }) p).at ≡ cond b place p.at
    by true = refl
    by false = refl

found_moved : (cursor : ℕ) (place : Option Name) (ps : List Place) (c : ℕ) → place_at c (moved_to cursor place ps) ≡ option_map (there cursor place) (place_at c ps)
found_moved cursor place ps c = find_mapped (λ (p : Place). p.cursor == c) (there cursor place) (λ p. ap (λ (n : ℕ). n == c) (same_cursor cursor place p)) ps

-- a cursor that is found stood in the same database before, and where it stood, or it is the one that moved
pub record IsMoved (cursor : Option ℕ) (place : Option Name) (ps : List Place) (c : ℕ) (q : Place) : Type 0 where
  pub old : Place
  pub its : place_at c ps ≡ Some old
  pub db : q.db ≡ old.db
  pub at : q.at ≡ with_position cursor place (λ m. old.at) c

some_place : (p q : Place) → Some p ≡ Some q → p ≡ q
some_place p q e = cc (e)

pub moved_found : (cursor : Option ℕ) (place : Option Name) (ps : List Place) (c : ℕ) (q : Place) → place_at c (moved_at cursor place ps) ≡ Some q → IsMoved cursor place ps c q
moved_found None place ps c q e = record { old = q; its = e; db = refl; at = refl }
moved_found (Some cursor) place ps c q e = by (place_at c ps) refl (sym (found_moved cursor place ps c) ∙ e)
  where
    by : (o : Option Place) → place_at c ps ≡ o → option_map (there cursor place) (place_at c ps) ≡ Some q → IsMoved (Some cursor) place ps c q
    by None f h = let k = sym (ap (option_map (there cursor place)) f) ∙ h in absurd (cc (k))
    by (Some old) f h =
        let is : there cursor place old ≡ q = some_place (there cursor place old) q (sym (ap (option_map (there cursor place)) f) ∙ h) in
        let number : old.cursor ≡ c = eqb-true old.cursor c (found_is (λ (p : Place). p.cursor == c) ps old f).1 in
        record {
          old = old;
          its = f;
          db = ap (λ (p : Place). p.db) (sym is) ∙ same_db cursor place old;
          at = ap (λ (p : Place). p.at) (sym is) ∙ (its_at cursor place old ∙ ap (λ (n : ℕ). cond (n == cursor) place old.at) number);
        }

pub position_same : (cursor : Option ℕ) (place at : Option Name) (positions : Positions) (c : ℕ) → at ≡ positions c → with_position cursor place (λ m. at) c ≡ with_position cursor place positions c
position_same None place at positions c e = e
position_same (Some cursor) place at positions c e = ap (cond (c == cursor) place) e

-- ---- the database that a call is on, and where its cursor stands in it

abbrev pub IsAtCursor : List Place → Option ℕ → Target → Type 0
IsAtCursor ps None g = g.at ≡ None
IsAtCursor ps (Some cursor) g = (p : Place) × (place_at cursor ps ≡ Some p) × (g.db ≡ p.db) × (g.at ≡ p.at)

pub record IsTargetOf (st : Standing) (a : Active) (call : Call) (g : Target) : Type 0 where
  pub here : database_at g.db st ≡ Some g.database
  pub its : IsAtCursor (st.places a.session) (cursor_of call) g
  pub is : target st.numbers st.store g.db g.at g.database ≡ g
  pub allowed : index_refusal call g.database.index ≡ None

-- a cursor that stands at no record, and goes to none, stands where it stood
pub stays_lost : (cursor : Option ℕ) (g : Target) (ps : List Place) (c : ℕ) → IsAtCursor ps cursor g → g.at ≡ None → place_at c (moved_at cursor None ps) ≡ place_at c ps
stays_lost None g ps c its none = refl
stays_lost (Some cursor) g ps c its none = found_moved cursor None ps c ∙ by (place_at c ps) refl
  where
    same : (old : Place) → place_at c ps ≡ Some old → (b : Bool) → (old.cursor == cursor) ≡ b → there cursor None old ≡ old
    same old f false e = cond-false (old.cursor == cursor) (record { cursor = cursor; db = old.db; at = None }) old e
    same old f true e =
        let number : old.cursor ≡ c = eqb-true old.cursor c (found_is (λ (p : Place). p.cursor == c) ps old f).1 in
        let at_it : old.cursor ≡ cursor = eqb-true old.cursor cursor e in
        let is : old ≡ its.0 = some_place old its.0 (sym f ∙ (ap (λ (n : ℕ). place_at n ps) (sym number ∙ at_it) ∙ its.1)) in
        let at_none : None ≡ old.at = sym none ∙ (its.3 ∙ ap (λ (p : Place). p.at) (sym is)) in
        cond-true (old.cursor == cursor) (record { cursor = cursor; db = old.db; at = None }) old e
        ∙ ap₂ (λ (n : ℕ) (at : Option Name). record { cursor = n; db = old.db; at = at }) (sym at_it) at_none

    by : (o : Option Place) → place_at c ps ≡ o → option_map (there cursor None) (place_at c ps) ≡ place_at c ps
    by None f = ap (option_map (there cursor None)) f ∙ sym f
    by (Some old) f = ap (option_map (there cursor None)) f ∙ (ap (λ (p : Place). Some p) (same old f (old.cursor == cursor) refl) ∙ sym f)

-- ---- cursors are opened and closed

-- a cursor of a longer list is of the list before it, or the new one
pub found_with : (ps : List Place) (new : Place) (c : ℕ) (q : Place) → place_at c (ps ++ new ∷ []) ≡ Some q → (place_at c ps ≡ Some q) ⊎ ((place_at c ps ≡ None) × (new ≡ q) × (new.cursor ≡ c))
found_with [] new c q e = ⊎_elim
    (λ h. inr (refl, some_place new q (sym (cond-true (new.cursor == c) (Some new) None h) ∙ e), eqb-true new.cursor c h))
    (λ h. let k = sym (cond-false (new.cursor == c) (Some new) None h) ∙ e in absurd (cc (k)))
    (cases_Bool (new.cursor == c))
found_with (p ∷ ps) new c q e = ⊎_elim
    (λ h. inl (cond-true (p.cursor == c) (Some p) (place_at c ps) h ∙ (sym (cond-true (p.cursor == c) (Some p) (place_at c (ps ++ new ∷ [])) h) ∙ e)))
    (λ h. by h (found_with ps new c q (sym (cond-false (p.cursor == c) (Some p) (place_at c (ps ++ new ∷ [])) h) ∙ e)))
    (cases_Bool (p.cursor == c))
  where
    by : (p.cursor == c) ≡ false → (place_at c ps ≡ Some q) ⊎ ((place_at c ps ≡ None) × (new ≡ q) × (new.cursor ≡ c)) → (place_at c (p ∷ ps) ≡ Some q) ⊎ ((place_at c (p ∷ ps) ≡ None) × (new ≡ q) × (new.cursor ≡ c))
    by h (inl k) = inl (cond-false (p.cursor == c) (Some p) (place_at c ps) h ∙ k)
    by h (inr k) = inr (cond-false (p.cursor == c) (Some p) (place_at c ps) h ∙ k.0, k.1, k.2)

not_true : (b : Bool) → not b ≡ true → b ≡ false
not_true true h = absurd (cc (h))
not_true false h = refl

-- one that is left was there
pub found_without : (ps : List Place) (cursor c : ℕ) (q : Place) → place_at c (filter (λ (p : Place). not (p.cursor == cursor)) ps) ≡ Some q → place_at c ps ≡ Some q
found_without [] cursor c q e = e
found_without (p ∷ ps) cursor c q e = ⊎_elim (gone (found_without ps cursor c q)) (stays (found_without ps cursor c q)) (cases_Bool (p.cursor == cursor))
  where
    left : List Place
    left = filter (λ (x : Place). not (x.cursor == cursor)) ps

    gone : (place_at c left ≡ Some q → place_at c ps ≡ Some q) → (p.cursor == cursor) ≡ true → place_at c (p ∷ ps) ≡ Some q
    gone more h = cond-false (p.cursor == c) (Some p) (place_at c ps) other ∙ more k
      where
        k : place_at c left ≡ Some q
        k = ap (place_at c) (sym (cond-false (not (p.cursor == cursor)) (p ∷ left) left (ap not h))) ∙ e

        other : (p.cursor == c) ≡ false
        other =
            let f = found_is (λ (x : Place). x.cursor == c) left q k in
            let m = not_true (q.cursor == cursor) (filter_among (λ (x : Place). not (x.cursor == cursor)) ps q f.0).1 in
            ⊎_elim
            (λ i. absurd (both_ways (q.cursor == cursor) m (ap (λ (n : ℕ). n == cursor) (eqb-true q.cursor c f.1 ∙ sym (eqb-true p.cursor c i)) ∙ h)))
            (λ i. i)
            (cases_Bool (p.cursor == c))

    stays : (place_at c left ≡ Some q → place_at c ps ≡ Some q) → (p.cursor == cursor) ≡ false → place_at c (p ∷ ps) ≡ Some q
    stays more h = ⊎_elim
        (λ i. cond-true (p.cursor == c) (Some p) (place_at c ps) i ∙ (sym (cond-true (p.cursor == c) (Some p) (place_at c left) i) ∙ k))
        (λ i. cond-false (p.cursor == c) (Some p) (place_at c ps) i ∙ more (sym (cond-false (p.cursor == c) (Some p) (place_at c left) i) ∙ k))
        (cases_Bool (p.cursor == c))
      where
        k : place_at c (p ∷ left) ≡ Some q
        k = ap (place_at c) (sym (cond-true (not (p.cursor == cursor)) (p ∷ left) left (ap not h))) ∙ e

-- ---- sessions

some_active : (a b : Active) → Some a ≡ Some b → a ≡ b
some_active a b e = cc (e)

-- two transactions are of two sessions
pub other_session : (as_ : List Active) (a b : Active) → HaveOwnSessions as_ → IsAmong a as_ → IsAmong b as_ → (b.txn ≡ a.txn → ⊥) → (b.session == a.session) ≡ false
other_session as_ a b own there_a there_b apart = ⊎_elim
    (λ e. absurd (apart (ap (λ (x : Active). x.txn) (some_active b a (sym (own_found as_ b own there_b) ∙ (ap (λ (n : ℕ). active_of n as_) (eqb-true b.session a.session e) ∙ own_found as_ a own there_a))))))
    (λ e. e)
    (cases_Bool (b.session == a.session))
