-- A cursor is moved: the walk along the cursors.
use Rattle.std.proofs.Common.{◌≡◌, ℕ, ◌<◌, ◌+◌, true, List, ◌++◌, ◌∷◌, Option, Some, length, get_or, take, drop, ap, ap₂, refl, sym, ◌∙◌}
use Rattle.std.specs.List.{slice_set}
use Rattle.std.proofs.lemmas.List.{drop_more, take-set, take-append-drop}
use Rattle.std.proofs.lemmas.Grind.{drop-set_at}
use Rattle.std.proofs.lemmas.Option.{slice_get-get_or}
use Rattle.std.proofs.lemmas.Bool.{cond-true}
use Rattle.je_order.specs.declared.name.Name.{Name}
use Rattle.open_cursors.specs.declared.open_cursor.OpenCursor.{OpenCursor}
use Rattle.open_cursors.specs.Places.{is_of, moved_cursor, moved_in}

set_parts : (xs : List OpenCursor) (i : ℕ) (y : OpenCursor) → i < length xs → slice_set xs i y ≡ take i xs ++ y ∷ drop (i + 1) xs
set_parts xs i y within = sym (take-append-drop i (slice_set xs i y)) ∙ ap₂ (λ (a b : List OpenCursor). a ++ b) (take-set xs i y) (drop-set_at xs i i y refl within)

some_is : (x y : OpenCursor) → Some x ≡ Some y → x ≡ y
some_is x y e = cc

-- the cursor is here
pub move_here : (session cursor : ℕ) (at : Option Name) (xs first : List OpenCursor) (i : ℕ) (x y : OpenCursor) → i < length xs → is_of session cursor (get_or xs i x) ≡ true
    → take i xs ++ moved_in session cursor at (drop i xs) ≡ moved_in session cursor at first → slice_set xs i (moved_cursor at (get_or xs i y)) ≡ moved_in session cursor at first
move_here session cursor at xs first i x y within its so =
    let z = get_or xs i y in
    let same : get_or xs i x ≡ z = some_is (get_or xs i x) z (sym (slice_get-get_or xs i x within) ∙ slice_get-get_or xs i y within) in
    let test : is_of session cursor z ≡ true = ap (is_of session cursor) (sym same) ∙ its in
    set_parts xs i (moved_cursor at z) within
    ∙ (ap (λ (l : List OpenCursor). take i xs ++ l) (sym (cond-true (is_of session cursor z) (moved_cursor at z ∷ drop (i + 1) xs) (z ∷ moved_in session cursor at (drop (i + 1) xs)) test))
    ∙ (ap (λ (l : List OpenCursor). take i xs ++ moved_in session cursor at l) (sym (drop_more xs i y within)) ∙ so))
