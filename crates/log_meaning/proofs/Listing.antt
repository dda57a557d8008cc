-- Records as lists, and name by name.
use Rattle.std.proofs.Common.{◌≡◌, ℕ, ◌==◌, Bool, true, false, cond, List, [], ◌∷◌, is_eq, refl, sym, ap, ap₂, ◌∙◌}
use Rattle.std.specs.Prelude.{◌&&◌}
use Rattle.std.proofs.lemmas.Bool.{eqb-true, eqb-false, eq-eqb, ne_eqb, cond-true, cond-false, cond_both}
use Rattle.je_order.specs.declared.name.Name.{Name}
use Rattle.je_order.specs.Order.{name_cmp}
use Rattle.log_replay.specs.Rows.{Rows, rows_with, no_rows, IsRising}
use Rattle.log_replay.proofs.MapRows.{lookup_is_data}
use Rattle.log_replay.proofs.LoadedRows.{found}
use Rattle.log_replay.proofs.NameLaws.{found-with}
use Rattle.log_replay.proofs.RowLaws.{rising-changed, rising-nil}
use Rattle.log_trees.specs.Changes.{Written, unwritten, LoggedChange, is_of, last_of, rows_after}
use Rattle.log_trees.proofs.Bounds.{eq_turned}
use Rattle.log_meaning.specs.Listing.{ListedByName, ListedInOrder}

-- ---- several changes

eqb-turned : (a b : ℕ) (t : Bool) → (a == b) ≡ t → (b == a) ≡ t
eqb-turned a b true h = eq-eqb b a (sym (eqb-true a b h))
eqb-turned a b false h = ne_eqb b a (λ e. eqb-false a b h (sym e))

pub found-after : (changes : List LoggedChange) (rows : Rows) (w : Written) (d : ℕ) (q : Name) → found (rows d) q ≡ w.value → found (rows_after changes rows d) q ≡ (last_of d q changes w).value
found-after [] rows w d q is = is
found-after (c ∷ changes) rows w d q is =
    found-after changes (λ e. cond (e == c.db) (rows_with c.name c.written.value (rows e)) (rows e)) (cond (is_of d q c) c.written w) d q
    (by_tests (d == c.db) (is_eq (name_cmp q c.name)) refl refl ∙ ap (λ (b : Bool). (cond b c.written w).value) (sym (tests (d == c.db) (is_eq (name_cmp q c.name)) refl refl)))
  where
    tests : (a e : Bool) → (d == c.db) ≡ a → is_eq (name_cmp q c.name) ≡ e → is_of d q c ≡ (a && e)
    tests a e db name = ap₂ (λ x y. x && y) (eqb-turned d c.db a db) (eq_turned q c.name e name)

    by_tests : (a e : Bool) → (d == c.db) ≡ a → is_eq (name_cmp q c.name) ≡ e →
        found (cond a (rows_with c.name c.written.value (rows d)) (rows d)) q ≡ (cond (a && e) c.written w).value
    by_tests true true db name = found-with c.name c.written.value q (rows d) ∙ cond-true (is_eq (name_cmp q c.name)) c.written.value (found (rows d) q) name
    by_tests true false db name = found-with c.name c.written.value q (rows d) ∙ cond-false (is_eq (name_cmp q c.name)) c.written.value (found (rows d) q) name ∙ is
    by_tests false e db name = is

pub rising-after : (changes : List LoggedChange) (rows : Rows) → ((d : ℕ) → IsRising (rows d)) → (d : ℕ) → IsRising (rows_after changes rows d)
rising-after [] rows up d = up d
rising-after (c ∷ changes) rows up d =
    rising-after changes (λ e. cond (e == c.db) (rows_with c.name c.written.value (rows e)) (rows e))
    (λ e. cond_both (e == c.db) (rows_with c.name c.written.value (rows e)) (rows e) IsRising (λ _. rising-changed (rows e) c.name c.written.value (up e)) (λ _. up e)) d

pub listed_by_name : ListedByName
listed_by_name changes d x = sym (lookup_is_data x (rows_after changes no_rows d)) ∙ found-after changes no_rows unwritten d x refl

pub listed_in_order : ListedInOrder
listed_in_order changes d = rising-after changes no_rows (λ e. rising-nil) d
