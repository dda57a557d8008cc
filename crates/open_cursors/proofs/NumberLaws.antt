-- No two cursors of a session have one number, whichever are opened, closed and moved.
use Rattle.std.proofs.Common.{◌≡◌, ℕ, ◌==◌, ◌&&◌, Bool, true, false, cond, List, [], ◌∷◌, ◌++◌, Option, Some, None, filter, refl, ap, ap₂, sym, ◌∙◌, subst, ⊎_elim, arith}
use Rattle.std.specs.List.{AllByRecursion}
use Rattle.std.proofs.lemmas.Bool.{cases_Bool, cond-true, cond-false}
use Rattle.std.proofs.lemmas.Bool.Decides.{nat_tests}
use Rattle.std.proofs.lemmas.Option.{none-some}
use Rattle.je_order.specs.declared.name.Name.{Name}
use Rattle.store_model.specs.declared.place.Place.{Place}
use Rattle.je_answers.specs.Standing.{place_at}
use Rattle.open_cursors.specs.declared.open_cursor.OpenCursor.{OpenCursor}
use Rattle.open_cursors.specs.Places.{places_of, is_of, HaveOwnNumbers, moved_cursor, moved_in}

-- ---- opened

same_either : (m n : ℕ) → (m == n) ≡ (n == m)
same_either m n = grind (arith, nat_tests)

turned_of : (c d : OpenCursor) → is_of c.session c.place.cursor d ≡ false → is_of d.session d.place.cursor c ≡ false
turned_of c d h = ap₂ (λ (a b : Bool). a && b) (same_either d.session c.session) (same_either c.place.cursor d.place.cursor) ∙ h

-- no cursor is of a number that is not open
none_of : (session cursor : ℕ) (cs : List OpenCursor) → place_at cursor (places_of cs session) ≡ None → AllByRecursion (λ d. is_of session cursor d ≡ false) cs
none_of session cursor [] h = tt
none_of session cursor (c ∷ cs) h = by (session == c.session) (c.place.cursor == cursor) refl refl (none_of session cursor cs) h
  where
    found : (b : Bool) → (c.place.cursor == cursor) ≡ b → place_at cursor (c.place ∷ places_of cs session) ≡ None → (b ≡ false) × (place_at cursor (places_of cs session) ≡ None)
    found true e k = absurd (none-some c.place (sym k ∙ cond-true (c.place.cursor == cursor) (Some c.place) (place_at cursor (places_of cs session)) e))
    found false e k = (refl, sym (cond-false (c.place.cursor == cursor) (Some c.place) (place_at cursor (places_of cs session)) e) ∙ k)

    by : (a b : Bool) → (session == c.session) ≡ a → (c.place.cursor == cursor) ≡ b → (place_at cursor (places_of cs session) ≡ None → AllByRecursion (λ d. is_of session cursor d ≡ false) cs) → place_at cursor (cond a (c.place ∷ places_of cs session) (places_of cs session)) ≡ None
        → (is_of session cursor c ≡ false) × AllByRecursion (λ d. is_of session cursor d ≡ false) cs
    by true b e k rest n = let f = found b k n in (ap₂ (λ (x y : Bool). x && y) e (k ∙ f.0), rest f.1)
    by false b e k rest n = (ap (λ (x : Bool). x && (c.place.cursor == cursor)) e, rest n)

all_and : (P : OpenCursor → Type 0) (cs : List OpenCursor) (c : OpenCursor) → AllByRecursion P cs → P c → AllByRecursion P (cs ++ c ∷ [])
all_and P [] c h k = (k, tt)
all_and P (d ∷ ds) c h k = (h.0, all_and P ds c h.1 k)

own_and : (cs : List OpenCursor) (c : OpenCursor) → HaveOwnNumbers cs → AllByRecursion (λ d. is_of c.session c.place.cursor d ≡ false) cs → HaveOwnNumbers (cs ++ c ∷ [])
own_and [] c h none = (tt, tt)
own_and (d ∷ ds) c h none = (all_and (λ x. is_of d.session d.place.cursor x ≡ false) ds c h.0 (turned_of c d none.0), own_and ds c h.1 none.1)

pub opened_own : (c : OpenCursor) (cs : List OpenCursor) (places : ℕ → List Place) → ((s : ℕ) → places_of cs s ≡ places s) → place_at c.place.cursor (places c.session) ≡ None → HaveOwnNumbers cs → HaveOwnNumbers (cs ++ c ∷ [])
opened_own c cs places each free own = own_and cs c own (none_of c.session c.place.cursor cs (ap (place_at c.place.cursor) (each c.session) ∙ free))

-- ---- closed

all_filter : (P : OpenCursor → Type 0) (p : OpenCursor → Bool) (cs : List OpenCursor) → AllByRecursion P cs → AllByRecursion P (filter p cs)
all_filter P p [] h = tt
all_filter P p (c ∷ cs) h = ⊎_elim
    (λ e. subst (AllByRecursion P) (sym (cond-true (p c) (c ∷ filter p cs) (filter p cs) e)) (h.0, all_filter P p cs h.1))
    (λ e. subst (AllByRecursion P) (sym (cond-false (p c) (c ∷ filter p cs) (filter p cs) e)) (all_filter P p cs h.1))
    (cases_Bool (p c))

pub closed_own : (p : OpenCursor → Bool) (cs : List OpenCursor) → HaveOwnNumbers cs → HaveOwnNumbers (filter p cs)
closed_own p [] h = tt
closed_own p (c ∷ cs) h = ⊎_elim
    (λ e. subst HaveOwnNumbers (sym (cond-true (p c) (c ∷ filter p cs) (filter p cs) e)) (all_filter (λ d. is_of c.session c.place.cursor d ≡ false) p cs h.0, closed_own p cs h.1))
    (λ e. subst HaveOwnNumbers (sym (cond-false (p c) (c ∷ filter p cs) (filter p cs) e)) (closed_own p cs h.1))
    (cases_Bool (p c))

-- ---- moved

all_moved : (s n session cursor : ℕ) (at : Option Name) (cs : List OpenCursor) → AllByRecursion (λ d. is_of s n d ≡ false) cs → AllByRecursion (λ d. is_of s n d ≡ false) (moved_in session cursor at cs)
all_moved s n session cursor at [] h = tt
all_moved s n session cursor at (c ∷ cs) h = ⊎_elim
    (λ e. subst (AllByRecursion (λ d. is_of s n d ≡ false)) (sym (cond-true (is_of session cursor c) (moved_cursor at c ∷ cs) (c ∷ moved_in session cursor at cs) e)) h)
    (λ e. subst (AllByRecursion (λ d. is_of s n d ≡ false)) (sym (cond-false (is_of session cursor c) (moved_cursor at c ∷ cs) (c ∷ moved_in session cursor at cs) e)) (h.0, all_moved s n session cursor at cs h.1))
    (cases_Bool (is_of session cursor c))

pub moved_own : (session cursor : ℕ) (at : Option Name) (cs : List OpenCursor) → HaveOwnNumbers cs → HaveOwnNumbers (moved_in session cursor at cs)
moved_own session cursor at [] h = tt
moved_own session cursor at (c ∷ cs) h = ⊎_elim
    (λ e. subst HaveOwnNumbers (sym (cond-true (is_of session cursor c) (moved_cursor at c ∷ cs) (c ∷ moved_in session cursor at cs) e)) h)
    (λ e. subst HaveOwnNumbers (sym (cond-false (is_of session cursor c) (moved_cursor at c ∷ cs) (c ∷ moved_in session cursor at cs) e))
    (all_moved c.session c.place.cursor session cursor at cs h.0, moved_own session cursor at cs h.1))
    (cases_Bool (is_of session cursor c))
