-- What holds of each open cursor goes on to hold.
use Rattle.std.proofs.Common.{◌≡◌, ℕ, ◌==◌, Bool, true, false, cond, List, [], ◌∷◌, ◌++◌, Option, Some, None, filter, refl, sym, subst, ⊎_elim}
use Rattle.std.proofs.Common.{Bor}
use Rattle.std.specs.List.{find, AllByRecursion}
use Rattle.std.specs.Option.{option_copied, IfSome}
use Rattle.std.proofs.lemmas.Bool.{cases_Bool, cond-true, cond-false, eqb-true, and_parts}
use Rattle.std.proofs.lemmas.Option.{none-some, same_Some}
use Rattle.je_order.specs.declared.name.Name.{Name}
use Rattle.open_cursors.specs.declared.open_cursor.OpenCursor.{OpenCursor}
use Rattle.open_cursors.specs.Places.{is_of, moved_cursor, moved_in}

abbrev pub Each : (OpenCursor → Type 0) → List OpenCursor → Type 0
Each P cs = AllByRecursion P cs

pub on_opened : (P : OpenCursor → Type 0) (cs : List OpenCursor) (c : OpenCursor) → P c → Each P cs → Each P (cs ++ c ∷ [])
on_opened P [] c its all = (its, tt)
on_opened P (d ∷ ds) c its all = (all.0, on_opened P ds c its all.1)

pub on_left : (P : OpenCursor → Type 0) (p : OpenCursor → Bool) (cs : List OpenCursor) → Each P cs → Each P (filter p cs)
on_left P p [] all = tt
on_left P p (c ∷ cs) all = ⊎_elim
    (λ e. subst (Each P) (sym (cond-true (p c) (c ∷ filter p cs) (filter p cs) e)) (all.0, on_left P p cs all.1))
    (λ e. subst (Each P) (sym (cond-false (p c) (c ∷ filter p cs) (filter p cs) e)) (on_left P p cs all.1))
    (cases_Bool (p c))

pub on_moved : (P : OpenCursor → Type 0) (session cursor : ℕ) (at : Option Name) → ((c : OpenCursor) → P c → P (moved_cursor at c)) → (cs : List OpenCursor) → Each P cs → Each P (moved_in session cursor at cs)
on_moved P session cursor at step [] all = tt
on_moved P session cursor at step (c ∷ cs) all = ⊎_elim
    (λ e. subst (Each P) (sym (cond-true (is_of session cursor c) (moved_cursor at c ∷ cs) (c ∷ moved_in session cursor at cs) e)) (step c all.0, all.1))
    (λ e. subst (Each P) (sym (cond-false (is_of session cursor c) (moved_cursor at c ∷ cs) (c ∷ moved_in session cursor at cs) e)) (all.0, on_moved P session cursor at step cs all.1))
    (cases_Bool (is_of session cursor c))

-- of a cursor that is found
pub on_found : (P : OpenCursor → Type 0) (p : OpenCursor → Bool) (cs : List OpenCursor) (c : OpenCursor) → find p cs ≡ Some c → Each P cs → P c
on_found P p [] c is all = absurd (none-some c is)
on_found P p (d ∷ ds) c is all = by (p d) (on_found P p ds c) is
  where
    by : (b : Bool) → (find p ds ≡ Some c → Each P ds → P c) → cond b (Some d) (find p ds) ≡ Some c → P c
    by true rest e = subst P (same_Some d c e) all.0
    by false rest e = rest e all.1

pub its_session : (session cursor : ℕ) (cs : List OpenCursor) (c : OpenCursor) → find (is_of session cursor) cs ≡ Some c → c.session ≡ session
its_session session cursor [] c is = absurd (none-some c is)
its_session session cursor (d ∷ ds) c is = by (is_of session cursor d) refl (its_session session cursor ds c) is
  where
    by : (b : Bool) → is_of session cursor d ≡ b → (find (is_of session cursor) ds ≡ Some c → c.session ≡ session) → cond b (Some d) (find (is_of session cursor) ds) ≡ Some c → c.session ≡ session
    by true t rest e = subst (λ (x : OpenCursor). x.session ≡ session) (same_Some d c e) (sym (eqb-true session d.session (and_parts (session == d.session) (d.place.cursor == cursor) t).0))
    by false t rest e = rest e

-- the same of an option
pub if_found : (P : OpenCursor → Type 0) (p : OpenCursor → Bool) (cs : List OpenCursor) (o : Option (Bor OpenCursor)) → option_copied o ≡ find p cs → Each P cs → IfSome o (λ c. P c.now)
if_found P p cs None is all = tt
if_found P p cs (Some c) is all = on_found P p cs c.now (sym is) all

pub if_its : (session cursor : ℕ) (cs : List OpenCursor) (o : Option (Bor OpenCursor)) → option_copied o ≡ find (is_of session cursor) cs → IfSome o (λ c. c.now.session ≡ session)
if_its session cursor cs None is = tt
if_its session cursor cs (Some c) is = its_session session cursor cs c.now (sym is)
