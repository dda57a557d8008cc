-- The open cursors of all sessions, as each session's list of places.
use Rattle.std.specs.Prelude.{ℕ, ◌≡◌, ◌==◌, ◌&&◌, ◌∷◌, [], List, Option, Bool, false, if◌then◌else◌}
use Rattle.std.specs.List.{AllByRecursion}
use Rattle.je_order.specs.declared.name.Name.{Name}
use Rattle.store_model.specs.declared.store.Store.{Store}
use Rattle.store_model.specs.declared.place.Place.{Place}
use Rattle.open_cursors.specs.Under.{IsUnderIn}
use Rattle.open_cursors.specs.declared.open_cursor.OpenCursor.{OpenCursor}
use Rattle.open_cursors.specs.declared.open_cursors.OpenCursors.{OpenCursors}

-- the cursors of a session, in the order in which they were opened
abbrev pub places_of : List OpenCursor → ℕ → List Place
places_of [] session = []
places_of (c ∷ cs) session = if session == c.session then c.place ∷ places_of cs session else places_of cs session

-- whether it is the cursor of that session and number
abbrev pub is_of : ℕ → ℕ → OpenCursor → Bool
is_of session cursor c = (session == c.session) && (c.place.cursor == cursor)

-- no two of these cursors are of one session and number
abbrev pub HaveOwnNumbers : List OpenCursor → Type 0
HaveOwnNumbers [] = Unit {0}
HaveOwnNumbers (c ∷ cs) = AllByRecursion (λ d. is_of c.session c.place.cursor d ≡ false) cs × HaveOwnNumbers cs

-- the open cursors of each session are these
pub record AreCursorsAt (open_ : OpenCursors) (places : ℕ → List Place) : Type 0 where
  pub each : (session : ℕ) → places_of open_.cursors.items session ≡ places session
  pub apart : HaveOwnNumbers open_.cursors.items

-- each open cursor's database goes by its name in a store, with its number and its kind
abbrev pub AreUnder : Store → (List ℕ → ℕ) → OpenCursors → Type 0
AreUnder store numbers open_ = AllByRecursion (λ c. IsUnderIn store numbers c.place.db c.name c.kind) open_.cursors.items

-- ---- inside
-- a cursor stands elsewhere
abbrev pub moved_place : Option Name → Place → Place
moved_place at p = record { cursor = p.cursor; db = p.db; at = at }

abbrev pub moved_cursor : Option Name → OpenCursor → OpenCursor
moved_cursor at c = record { session = c.session; place = moved_place at c.place; name = c.name; kind = c.kind }

-- the first cursor of a session and number does
abbrev pub moved_in : ℕ → ℕ → Option Name → List OpenCursor → List OpenCursor
moved_in session cursor at [] = []
moved_in session cursor at (c ∷ cs) = if is_of session cursor c then moved_cursor at c ∷ cs else c ∷ moved_in session cursor at cs
