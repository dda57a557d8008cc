-- The first transaction whose session has a cursor on a database, by the open cursors and by each session's places.
use Rattle.std.proofs.Common.{◌≡◌, ℕ, ◌==◌, ◌&&◌, Bool, cond, List, [], ◌∷◌, Option, Some, refl, ap, ap₂, ◌∙◌}
use Rattle.std.specs.List.{find, list_any}
use Rattle.store_model.specs.declared.place.Place.{Place}
use Rattle.je_answers.specs.declared.active.Active.{Active}
use Rattle.je_answers.specs.Locking.{has_cursor_on}
use Rattle.open_cursors.specs.declared.open_cursor.OpenCursor.{OpenCursor}
use Rattle.open_cursors.specs.declared.open_cursors.OpenCursors.{OpenCursors}
use Rattle.open_cursors.specs.Places.{AreCursorsAt}
use Rattle.open_cursors.proofs.PlaceLaws.{used_place}

find_same : (p q : Active → Bool) → ((a : Active) → p a ≡ q a) → (as_ : List Active) → find p as_ ≡ find q as_
find_same p q same [] = refl
find_same p q same (a ∷ as_) = ap₂ (λ (b : Bool) (o : Option Active). cond b (Some a) o) (same a) (find_same p q same as_)

pub same_user : (db : ℕ) (o : OpenCursors) (places : ℕ → List Place) (as_ bs : List Active) → AreCursorsAt o places → as_ ≡ bs
    → find (λ (a : Active). list_any (λ (c : OpenCursor). (a.session == c.session) && (c.place.db == db)) o.cursors.items) as_ ≡ find (λ (a : Active). has_cursor_on db (places a.session)) bs
same_user db o places as_ bs at is =
    find_same (λ (a : Active). list_any (λ (c : OpenCursor). (a.session == c.session) && (c.place.db == db)) o.cursors.items) (λ (a : Active). has_cursor_on db (places a.session))
    (λ a. used_place a.session db o.cursors.items ∙ ap (has_cursor_on db) (at.each a.session)) as_
    ∙ ap (find (λ (a : Active). has_cursor_on db (places a.session))) is
