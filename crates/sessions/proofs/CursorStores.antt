-- The databases of open cursors go by their names in a store that changed.
use Rattle.std.proofs.Common.{◌≡◌, ℕ, ◌==◌, ◌&&◌, ◌||◌, Bool, true, false, List, [], ◌∷◌, refl, ap, ap₂, sym, ◌∙◌, subst, arith}
use Rattle.std.specs.List.{AllByRecursion, list_any}
use Rattle.std.proofs.lemmas.Bool.{cond-true}
use Rattle.std.proofs.lemmas.Bool.Decides.{nat_tests}
use Rattle.store_model.specs.declared.store.Store.{Store}
use Rattle.store_model.specs.declared.kind.Kind.{Kind}
use Rattle.store_model.specs.declared.change.Change.{Change}
use Rattle.store_model.specs.Store.{all_changed}
use Rattle.je_answers.specs.Standing.{Standing, all_numbered}
use Rattle.je_answers.specs.Locking.{has_cursor_on}
use Rattle.open_cursors.specs.declared.open_cursor.OpenCursor.{OpenCursor}
use Rattle.open_cursors.specs.declared.open_cursors.OpenCursors.{OpenCursors}
use Rattle.open_cursors.specs.Under.{IsUnderIn}
use Rattle.open_cursors.specs.Places.{AreCursorsAt, AreUnder, places_of}
use Rattle.open_cursors.proofs.PlaceLaws.{used_place}
use Rattle.standing_laws.specs.Right.{IsUnder, HasCursorOn}
use Rattle.standing_laws.proofs.NamedDatabases.{IsOfRecord, under_all}
use Rattle.sessions.specs.declared.all_sessions.Sessions.{Sessions}
use Rattle.sessions.specs.AtStanding.{AreCursorsOn, AreSessionsAt}

-- ---- changes of records

each_weaker : (P Q : OpenCursor → Type 0) (cs : List OpenCursor) → ((c : OpenCursor) → P c → Q c) → AllByRecursion P cs → AllByRecursion Q cs
each_weaker P Q [] f all = tt
each_weaker P Q (c ∷ cs) f all = (f c all.0, each_weaker P Q cs f all.1)

pub under_changed : (o : OpenCursors) (changes : List Change) (store : Store) (last : ℕ) (numbers : List ℕ → ℕ) → AllByRecursion IsOfRecord changes → AreUnder store numbers o
    → AreUnder (all_changed changes store) (all_numbered changes last numbers) o
under_changed o changes store last numbers all under =
    each_weaker (λ c. IsUnderIn store numbers c.place.db c.name c.kind) (λ c. IsUnderIn (all_changed changes store) (all_numbered changes last numbers) c.place.db c.name c.kind) o.cursors.items
    (λ c u. under_all changes store last numbers c.place.db c.name c.kind all u) under

-- the sessions stand at a store whose records changed, as they stood before
pub sessions_changed : (s : Sessions) (changes : List Change) (last : ℕ) (st : Standing) → AllByRecursion IsOfRecord changes → AreSessionsAt s st
    → AreSessionsAt s (record st { store = all_changed changes st.store; numbers = all_numbered changes last st.numbers })
sessions_changed s changes last st all at = record {
  actives = at.actives;
  own = at.own;
  places = record { at = at.places.at; under = under_changed s.cursors changes st.store last st.numbers all at.places.under };
  waiting = at.waiting;
  locks = at.locks;
}

-- ---- any changes that keep the databases on which a session has a cursor

abbrev is_on : OpenCursor → OpenCursor → Bool
is_on d c = (d.session == c.session) && (c.place.db == d.place.db)

same_number : (n : ℕ) → (n == n) ≡ true
same_number n = grind (arith, nat_tests)

itself : (c : OpenCursor) → is_on c c ≡ true
itself c = ap₂ (λ (a b : Bool). a && b) (same_number c.session) (same_number c.place.db)

or_right : (a b : Bool) → b ≡ true → (a || b) ≡ true
or_right true b e = refl
or_right false b e = e

one_more : (c : OpenCursor) (cs ds : List OpenCursor) → AllByRecursion (λ d. list_any (is_on d) cs ≡ true) ds → AllByRecursion (λ d. list_any (is_on d) (c ∷ cs) ≡ true) ds
one_more c cs [] all = tt
one_more c cs (d ∷ ds) all = (or_right (is_on d c) (list_any (is_on d) cs) all.0, one_more c cs ds all.1)

each_on : (cs : List OpenCursor) → AllByRecursion (λ d. list_any (is_on d) cs ≡ true) cs
each_on [] = tt
each_on (c ∷ cs) = (ap (λ (b : Bool). b || list_any (is_on c) cs) (itself c), one_more c cs cs (each_on cs))

walk : (P Q : OpenCursor → Type 0) (all cs : List OpenCursor) → ((c : OpenCursor) → list_any (is_on c) all ≡ true → P c → Q c) → AllByRecursion (λ c. list_any (is_on c) all ≡ true) cs → AllByRecursion P cs → AllByRecursion Q cs
walk P Q all [] f on h = tt
walk P Q all (c ∷ cs) f on h = (f c on.0 h.0, walk P Q all cs f on.1 h.1)

-- its session has it
has_it : (o : OpenCursors) (st : Standing) (c : OpenCursor) → AreCursorsAt o st.places → list_any (is_on c) o.cursors.items ≡ true → HasCursorOn st c.place.db
has_it o st c at on = (c.session, ap (has_cursor_on c.place.db) (sym (at.each c.session)) ∙ (sym (used_place c.session c.place.db o.cursors.items) ∙ on))

pub under_kept : (o : OpenCursors) (st after : Standing) → ((number : ℕ) (name : List ℕ) (kind : Kind) → HasCursorOn st number → IsUnder st number name kind → IsUnder after number name kind)
    → AreCursorsOn o st.store st.numbers st.places → AreUnder after.store after.numbers o
under_kept o st after keeps at =
    walk (λ c. IsUnderIn st.store st.numbers c.place.db c.name c.kind) (λ c. IsUnderIn after.store after.numbers c.place.db c.name c.kind) o.cursors.items o.cursors.items
    (λ c on u. keeps c.place.db c.name c.kind (has_it o st c at.at on) u) (each_on o.cursors.items) at.under

-- ---- no cursor

none_there : (cs : List OpenCursor) → ((s : ℕ) → places_of cs s ≡ []) → cs ≡ []
none_there [] none = refl
none_there (c ∷ cs) none = absurd (some_none (sym (cond-true (c.session == c.session) (c.place ∷ places_of cs c.session) (places_of cs c.session) (same_number c.session)) ∙ none c.session))
  where
    some_none : c.place ∷ places_of cs c.session ≡ [] → ⊥
    some_none e = cc

pub under_none : (o : OpenCursors) (store : Store) (numbers : List ℕ → ℕ) → ((s : ℕ) → places_of o.cursors.items s ≡ []) → AreUnder store numbers o
under_none o store numbers none = subst (λ (l : List OpenCursor). AllByRecursion (λ c. IsUnderIn store numbers c.place.db c.name c.kind) l) (sym (none_there o.cursors.items none)) tt
