-- The places of cursors that are found, opened, closed and moved.
use Rattle.std.proofs.Common.{◌≡◌, ℕ, ◌==◌, ◌&&◌, ◌||◌, not, Bool, true, false, cond, List, [], ◌∷◌, ◌++◌, Option, Some, filter, refl, ap, ap₂, sym, ◌∙◌, subst, ⊎_elim}
use Rattle.std.specs.List.{find, list_any, AllByRecursion}
use Rattle.std.specs.Option.{option_map}
use Rattle.std.proofs.lemmas.Bool.{cases_Bool, cond-true, cond-false, eqb-true, and_parts}
use Rattle.je_order.specs.declared.name.Name.{Name}
use Rattle.store_model.specs.declared.place.Place.{Place}
use Rattle.je_answers.specs.Standing.{place_at, with_at}
use Rattle.je_answers.specs.Locking.{has_cursor_on}
use Rattle.je_answers.specs.After.{moved_to}
use Rattle.open_cursors.specs.declared.open_cursor.OpenCursor.{OpenCursor}
use Rattle.open_cursors.specs.declared.open_cursors.OpenCursors.{OpenCursors}
use Rattle.open_cursors.specs.Places.{AreCursorsAt, places_of, is_of, HaveOwnNumbers, moved_place, moved_cursor, moved_in}

-- ---- found

map_cond : (c : OpenCursor) (t : Bool) (f : Option OpenCursor) (g : Option Place) → option_map (λ (x : OpenCursor). x.place) f ≡ g → option_map (λ (x : OpenCursor). x.place) (cond t (Some c) f) ≡ cond t (Some c.place) g
map_cond c true f g h = refl
map_cond c false f g h = h

pub found_place : (session cursor : ℕ) (cs : List OpenCursor) → option_map (λ (c : OpenCursor). c.place) (find (is_of session cursor) cs) ≡ place_at cursor (places_of cs session)
found_place session cursor [] = refl
found_place session cursor (c ∷ cs) = by (session == c.session) (found_place session cursor cs)
  where
    by : (a : Bool) → option_map (λ (x : OpenCursor). x.place) (find (is_of session cursor) cs) ≡ place_at cursor (places_of cs session)
        → option_map (λ (x : OpenCursor). x.place) (cond (a && (c.place.cursor == cursor)) (Some c) (find (is_of session cursor) cs)) ≡ place_at cursor (cond a (c.place ∷ places_of cs session) (places_of cs session))
    by true h = map_cond c (c.place.cursor == cursor) (find (is_of session cursor) cs) (place_at cursor (places_of cs session)) h
    by false h = h

pub used_place : (session db : ℕ) (cs : List OpenCursor) → list_any (λ (c : OpenCursor). (session == c.session) && (c.place.db == db)) cs ≡ has_cursor_on db (places_of cs session)
used_place session db [] = refl
used_place session db (c ∷ cs) = by (session == c.session) (used_place session db cs)
  where
    by : (a : Bool) → list_any (λ (x : OpenCursor). (session == x.session) && (x.place.db == db)) cs ≡ has_cursor_on db (places_of cs session)
        → ((a && (c.place.db == db)) || list_any (λ (x : OpenCursor). (session == x.session) && (x.place.db == db)) cs) ≡ has_cursor_on db (cond a (c.place ∷ places_of cs session) (places_of cs session))
    by true h = ap (λ (b : Bool). (c.place.db == db) || b) h
    by false h = h

-- ---- changed

-- the places of one session are others
pub changed_at : (F : List Place → List Place) (session : ℕ) (old new : List OpenCursor) (places : ℕ → List Place) → ((s : ℕ) → places_of old s ≡ places s)
    → ((s : ℕ) → places_of new s ≡ cond (s == session) (F (places_of old s)) (places_of old s)) → (s : ℕ) → places_of new s ≡ with_at session (F (places session)) places s
changed_at F session old new places each is s = ⊎_elim
    (λ e. is s ∙ (cond-true (s == session) (F (places_of old s)) (places_of old s) e ∙ (ap F (each s ∙ ap places (eqb-true s session e)) ∙ sym (cond-true (s == session) (F (places session)) (places s) e))))
    (λ e. is s ∙ (cond-false (s == session) (F (places_of old s)) (places_of old s) e ∙ (each s ∙ sym (cond-false (s == session) (F (places session)) (places s) e))))
    (cases_Bool (s == session))

-- a change of one session's places, and none of the others'
by_session : (F : List Place → List Place) (session : ℕ) (old new : List OpenCursor) (s : ℕ) → (s ≡ session → places_of new s ≡ F (places_of old s)) → ((s == session) ≡ false → places_of new s ≡ places_of old s)
    → places_of new s ≡ cond (s == session) (F (places_of old s)) (places_of old s)
by_session F session old new s here there = ⊎_elim
    (λ e. here (eqb-true s session e) ∙ sym (cond-true (s == session) (F (places_of old s)) (places_of old s) e))
    (λ e. there e ∙ sym (cond-false (s == session) (F (places_of old s)) (places_of old s) e))
    (cases_Bool (s == session))

-- ---- opened

cons_cond : (p : Place) (t : Bool) (xs ys : List Place) → p ∷ cond t xs ys ≡ cond t (p ∷ xs) (p ∷ ys)
cons_cond p true xs ys = refl
cons_cond p false xs ys = refl

opened_each : (c : OpenCursor) (cs : List OpenCursor) (s : ℕ) → places_of (cs ++ c ∷ []) s ≡ cond (s == c.session) (places_of cs s ++ c.place ∷ []) (places_of cs s)
opened_each c [] s = refl
opened_each c (d ∷ ds) s = by (s == d.session) (opened_each c ds s)
  where
    by : (a : Bool) → places_of (ds ++ c ∷ []) s ≡ cond (s == c.session) (places_of ds s ++ c.place ∷ []) (places_of ds s)
        → cond a (d.place ∷ places_of (ds ++ c ∷ []) s) (places_of (ds ++ c ∷ []) s)
        ≡ cond (s == c.session) (cond a (d.place ∷ places_of ds s) (places_of ds s) ++ c.place ∷ []) (cond a (d.place ∷ places_of ds s) (places_of ds s))
    by true h = ap (λ (l : List Place). d.place ∷ l) h ∙ cons_cond d.place (s == c.session) (places_of ds s ++ c.place ∷ []) (places_of ds s)
    by false h = h

pub opened_places : (c : OpenCursor) (cs : List OpenCursor) (places : ℕ → List Place) → ((s : ℕ) → places_of cs s ≡ places s) → (s : ℕ)
    → places_of (cs ++ c ∷ []) s ≡ with_at c.session (places c.session ++ c.place ∷ []) places s
opened_places c cs places each = changed_at (λ (l : List Place). l ++ c.place ∷ []) c.session cs (cs ++ c ∷ []) places each (opened_each c cs)

-- ---- closed

abbrev pub without : ℕ → ℕ → List OpenCursor → List OpenCursor
without session cursor cs = filter (λ (c : OpenCursor). not (is_of session cursor c)) cs

abbrev other : ℕ → Place → Bool
other cursor p = not (p.cursor == cursor)

closed_here : (s cursor : ℕ) (cs : List OpenCursor) → places_of (without s cursor cs) s ≡ filter (other cursor) (places_of cs s)
closed_here s cursor [] = refl
closed_here s cursor (c ∷ cs) = by (s == c.session) refl (closed_here s cursor cs)
  where
    kept : (b : Bool) → (s == c.session) ≡ true → places_of (without s cursor cs) s ≡ filter (other cursor) (places_of cs s)
        → places_of (cond (not b) (c ∷ without s cursor cs) (without s cursor cs)) s ≡ cond (not b) (c.place ∷ filter (other cursor) (places_of cs s)) (filter (other cursor) (places_of cs s))
    kept true e h = h
    kept false e h = cond-true (s == c.session) (c.place ∷ places_of (without s cursor cs) s) (places_of (without s cursor cs) s) e ∙ ap (λ (l : List Place). c.place ∷ l) h

    by : (a : Bool) → (s == c.session) ≡ a → places_of (without s cursor cs) s ≡ filter (other cursor) (places_of cs s)
        → places_of (cond (not (a && (c.place.cursor == cursor))) (c ∷ without s cursor cs) (without s cursor cs)) s ≡ filter (other cursor) (cond a (c.place ∷ places_of cs s) (places_of cs s))
    by true e h = kept (c.place.cursor == cursor) e h
    by false e h = cond-false (s == c.session) (c.place ∷ places_of (without s cursor cs) s) (places_of (without s cursor cs) s) e ∙ h

-- a cursor of one session is none of another's
not_of : (s session : ℕ) (c : OpenCursor) → (s == session) ≡ false → (session == c.session) ≡ true → (s == c.session) ≡ false
not_of s session c n e = subst (λ (x : ℕ). (s == x) ≡ false) (eqb-true session c.session e) n

closed_there : (s session cursor : ℕ) (cs : List OpenCursor) → (s == session) ≡ false → places_of (without session cursor cs) s ≡ places_of cs s
closed_there s session cursor [] n = refl
closed_there s session cursor (c ∷ cs) n = by (is_of session cursor c) refl (closed_there s session cursor cs n)
  where
    by : (t : Bool) → is_of session cursor c ≡ t → places_of (without session cursor cs) s ≡ places_of cs s
        → places_of (cond (not t) (c ∷ without session cursor cs) (without session cursor cs)) s ≡ cond (s == c.session) (c.place ∷ places_of cs s) (places_of cs s)
    by true e h = h ∙ sym (cond-false (s == c.session) (c.place ∷ places_of cs s) (places_of cs s) (not_of s session c n (and_parts (session == c.session) (c.place.cursor == cursor) e).0))
    by false e h = ap (λ (l : List Place). cond (s == c.session) (c.place ∷ l) l) h

pub closed_places : (session cursor : ℕ) (cs : List OpenCursor) (places : ℕ → List Place) → ((s : ℕ) → places_of cs s ≡ places s) → (s : ℕ)
    → places_of (without session cursor cs) s ≡ with_at session (filter (λ (p : Place). not (p.cursor == cursor)) (places session)) places s
closed_places session cursor cs places each =
    changed_at (filter (other cursor)) session cs (without session cursor cs) places each
    (λ s. by_session (filter (other cursor)) session cs (without session cursor cs) s
    (λ e. subst (λ (x : ℕ). places_of (without x cursor cs) s ≡ filter (other cursor) (places_of cs s)) e (closed_here s cursor cs))
    (λ n. closed_there s session cursor cs n))

abbrev pub without_session : ℕ → List OpenCursor → List OpenCursor
without_session session cs = filter (λ (c : OpenCursor). not (session == c.session)) cs

all_here : (s : ℕ) (cs : List OpenCursor) → places_of (without_session s cs) s ≡ []
all_here s [] = refl
all_here s (c ∷ cs) = by (s == c.session) refl (all_here s cs)
  where
    by : (a : Bool) → (s == c.session) ≡ a → places_of (without_session s cs) s ≡ [] → places_of (cond (not a) (c ∷ without_session s cs) (without_session s cs)) s ≡ []
    by true e h = h
    by false e h = cond-false (s == c.session) (c.place ∷ places_of (without_session s cs) s) (places_of (without_session s cs) s) e ∙ h

all_there : (s session : ℕ) (cs : List OpenCursor) → (s == session) ≡ false → places_of (without_session session cs) s ≡ places_of cs s
all_there s session [] n = refl
all_there s session (c ∷ cs) n = by (session == c.session) refl (all_there s session cs n)
  where
    by : (t : Bool) → (session == c.session) ≡ t → places_of (without_session session cs) s ≡ places_of cs s
        → places_of (cond (not t) (c ∷ without_session session cs) (without_session session cs)) s ≡ cond (s == c.session) (c.place ∷ places_of cs s) (places_of cs s)
    by true e h = h ∙ sym (cond-false (s == c.session) (c.place ∷ places_of cs s) (places_of cs s) (not_of s session c n e))
    by false e h = ap (λ (l : List Place). cond (s == c.session) (c.place ∷ l) l) h

pub all_closed_places : (session : ℕ) (cs : List OpenCursor) (places : ℕ → List Place) → ((s : ℕ) → places_of cs s ≡ places s) → (s : ℕ)
    → places_of (without_session session cs) s ≡ with_at session [] places s
all_closed_places session cs places each =
    changed_at (λ (l : List Place). []) session cs (without_session session cs) places each
    (λ s. by_session (λ (l : List Place). []) session cs (without_session session cs) s
    (λ e. subst (λ (x : ℕ). places_of (without_session x cs) s ≡ []) e (all_here s cs))
    (λ n. all_there s session cs n))

-- ---- moved

-- the place of a cursor of that number
abbrev stand : ℕ → Option Name → Place → Place
stand cursor at p = record { cursor = cursor; db = p.db; at = at }

stands : (cursor : ℕ) (at : Option Name) (p : Place) → (p.cursor == cursor) ≡ true → moved_place at p ≡ stand cursor at p
stands cursor at p e = ap (λ (n : ℕ). stand n at p) (eqb-true p.cursor cursor e)

-- where none is of that number none is moved
none_moved : (s cursor : ℕ) (at : Option Name) (cs : List OpenCursor) → AllByRecursion (λ d. is_of s cursor d ≡ false) cs → moved_to cursor at (places_of cs s) ≡ places_of cs s
none_moved s cursor at [] none = refl
none_moved s cursor at (c ∷ cs) none = by (s == c.session) none.0 (none_moved s cursor at cs none.1)
  where
    by : (a : Bool) → (a && (c.place.cursor == cursor)) ≡ false → moved_to cursor at (places_of cs s) ≡ places_of cs s
        → moved_to cursor at (cond a (c.place ∷ places_of cs s) (places_of cs s)) ≡ cond a (c.place ∷ places_of cs s) (places_of cs s)
    by true n h = ap₂ (λ (p : Place) (l : List Place). p ∷ l) (cond-false (c.place.cursor == cursor) (stand cursor at c.place) c.place n) h
    by false n h = h

moved_here : (s cursor : ℕ) (at : Option Name) (cs : List OpenCursor) → HaveOwnNumbers cs → places_of (moved_in s cursor at cs) s ≡ moved_to cursor at (places_of cs s)
moved_here s cursor at [] own = refl
moved_here s cursor at (c ∷ cs) own = by (s == c.session) (c.place.cursor == cursor) refl refl (moved_here s cursor at cs own.1)
  where
    none : (s == c.session) ≡ true → (c.place.cursor == cursor) ≡ true → AllByRecursion (λ d. is_of s cursor d ≡ false) cs
    none e k = subst (λ (x : ℕ). AllByRecursion (λ d. is_of x cursor d ≡ false) cs) (sym (eqb-true s c.session e))
        (subst (λ (x : ℕ). AllByRecursion (λ d. is_of c.session x d ≡ false) cs) (eqb-true c.place.cursor cursor k) own.0)

    by : (a b : Bool) → (s == c.session) ≡ a → (c.place.cursor == cursor) ≡ b → places_of (moved_in s cursor at cs) s ≡ moved_to cursor at (places_of cs s)
        → places_of (cond (a && b) (moved_cursor at c ∷ cs) (c ∷ moved_in s cursor at cs)) s ≡ moved_to cursor at (cond a (c.place ∷ places_of cs s) (places_of cs s))
    by true true e k h = cond-true (s == c.session) (moved_place at c.place ∷ places_of cs s) (places_of cs s) e
        ∙ ap₂ (λ (p : Place) (l : List Place). p ∷ l) (stands cursor at c.place k ∙ sym (cond-true (c.place.cursor == cursor) (stand cursor at c.place) c.place k)) (sym (none_moved s cursor at cs (none e k)))
    by true false e k h = cond-true (s == c.session) (c.place ∷ places_of (moved_in s cursor at cs) s) (places_of (moved_in s cursor at cs) s) e
        ∙ ap₂ (λ (p : Place) (l : List Place). p ∷ l) (sym (cond-false (c.place.cursor == cursor) (stand cursor at c.place) c.place k)) h
    by false b e k h = cond-false (s == c.session) (c.place ∷ places_of (moved_in s cursor at cs) s) (places_of (moved_in s cursor at cs) s) e ∙ h

moved_there : (s session cursor : ℕ) (at : Option Name) (cs : List OpenCursor) → (s == session) ≡ false → places_of (moved_in session cursor at cs) s ≡ places_of cs s
moved_there s session cursor at [] n = refl
moved_there s session cursor at (c ∷ cs) n = by (is_of session cursor c) refl (moved_there s session cursor at cs n)
  where
    by : (t : Bool) → is_of session cursor c ≡ t → places_of (moved_in session cursor at cs) s ≡ places_of cs s
        → places_of (cond t (moved_cursor at c ∷ cs) (c ∷ moved_in session cursor at cs)) s ≡ cond (s == c.session) (c.place ∷ places_of cs s) (places_of cs s)
    by true e h = let k = not_of s session c n (and_parts (session == c.session) (c.place.cursor == cursor) e).0 in
        cond-false (s == c.session) (moved_place at c.place ∷ places_of cs s) (places_of cs s) k ∙ sym (cond-false (s == c.session) (c.place ∷ places_of cs s) (places_of cs s) k)
    by false e h = ap (λ (l : List Place). cond (s == c.session) (c.place ∷ l) l) h

pub moved_places : (session cursor : ℕ) (at : Option Name) (cs : List OpenCursor) (places : ℕ → List Place) → HaveOwnNumbers cs → ((s : ℕ) → places_of cs s ≡ places s) → (s : ℕ)
    → places_of (moved_in session cursor at cs) s ≡ with_at session (moved_to cursor at (places session)) places s
moved_places session cursor at cs places own each =
    changed_at (moved_to cursor at) session cs (moved_in session cursor at cs) places each
    (λ s. by_session (moved_to cursor at) session cs (moved_in session cursor at cs) s
    (λ e. subst (λ (x : ℕ). places_of (moved_in x cursor at cs) s ≡ moved_to cursor at (places_of cs s)) e (moved_here s cursor at cs own))
    (λ n. moved_there s session cursor at cs n))

-- where one session's places are what they were, all are
pub same_places : (o : OpenCursors) (places : ℕ → List Place) (session : ℕ) → AreCursorsAt o places → AreCursorsAt o (with_at session (places session) places)
same_places o places session at = record {
  each = λ s. at.each s ∙ ⊎_elim
      (λ e. ap places (eqb-true s session e) ∙ sym (cond-true (s == session) (places session) (places s) e))
      (λ e. sym (cond-false (s == session) (places session) (places s) e))
      (cases_Bool (s == session));
  apart = at.apart;
}
