-- A redo and a replay with one list of pending changes, entry by entry. The data of each put may be marked with its LSN.
use Rattle.std.proofs.Common.{◌≡◌, ℕ, ◌<◌, ◌==◌, nat_le, Bool, true, false, not, cond, List, [], ◌∷◌, ◌++◌, option_map, map, refl, sym, ap, subst, ◌∙◌, arith}
use Rattle.std.proofs.lemmas.Bool.{true≢false, eqb-true, eqb-false, le-leb, cond-true, cond-false}
use Rattle.std.proofs.lemmas.List.{append-nil, map-append}
use Rattle.std.proofs.lemmas.List.Elements.{filter-append}
use Rattle.std.specs.List.{AllByRecursion}
use Rattle.je_order.specs.declared.name.Name.{Name}
use Rattle.log_entry.specs.declared.entry.Entry.{Entry}
use Rattle.log_entry.specs.declared.entry.Entry.TheVariants.{Put, Delete, Commit}
use Rattle.log_replay.specs.Rows.{Rows, no_rows, RowChange, rows_changed}
use Rattle.log_replay.specs.Replay.{Replay, nothing_replayed, changes_of, changes_of_others, replayed_entry, replayed}
use Rattle.je_order.proofs.Lists.{all_append}
use Rattle.log_trees.specs.Placed.{Placed}
use Rattle.log_trees.specs.Changes.{Written, LoggedChange, is_of, last_of, rows_after}
use Rattle.log_meaning.specs.Redo.{Redo, nothing_redone, set_at, unset_at, redo_entry, redo_all, from, redone}
use Rattle.log_meaning.specs.Plain.{is_plain}

-- how a put's data is marked, by its LSN
abbrev pub Mark : Type 0
Mark = ℕ → List ℕ → List ℕ

abbrev pub mark_entry : Mark → ℕ → Entry → Entry
mark_entry mark lsn (Put txn db name value) = Put txn db name (mark lsn value)
mark_entry mark lsn entry = entry

abbrev pub mark_written : Mark → Written → Written
mark_written mark w = record { at = w.at; value = option_map (mark w.at) w.value }

abbrev pub mark_change : Mark → LoggedChange → LoggedChange
mark_change mark c = record { db = c.db; name = c.name; written = mark_written mark c.written }

abbrev pub row_of : Mark → ℕ → LoggedChange → RowChange
row_of mark t c = record { txn = t; db = c.db; name = c.name; value = option_map (mark c.written.at) c.written.value }

-- ---- records after changes

pub rows_after-append : (a b : List LoggedChange) (rows : Rows) → rows_after (a ++ b) rows ≡ rows_after b (rows_after a rows)
rows_after-append [] b rows = refl
rows_after-append (c ∷ a) b rows = rows_after-append a b _

changed_after : (mark : Mark) (t : ℕ) (cs : List LoggedChange) (rows : Rows) → rows_changed (map (row_of mark t) cs) rows ≡ rows_after (map (mark_change mark) cs) rows
changed_after mark t [] rows = refl
changed_after mark t (c ∷ cs) rows = changed_after mark t cs _

-- ---- one list of changes

others_none : (t : ℕ) (cs : List RowChange) → changes_of t (changes_of_others t cs) ≡ []
others_none t [] = refl
others_none t (c ∷ cs) = by_test (c.txn == t) refl (others_none t cs)
  where
    by_test : (b : Bool) → (c.txn == t) ≡ b → changes_of t (changes_of_others t cs) ≡ [] → changes_of t (cond (not b) (c ∷ changes_of_others t cs) (changes_of_others t cs)) ≡ []
    by_test true is rest = rest
    by_test false is rest = cond-false (c.txn == t) (c ∷ changes_of t (changes_of_others t cs)) (changes_of t (changes_of_others t cs)) is ∙ rest

others_kept : (u t : ℕ) (cs : List RowChange) → (u == t) ≡ false → changes_of t (changes_of_others u cs) ≡ changes_of t cs
others_kept u t [] other = refl
others_kept u t (c ∷ cs) other = by_tests (c.txn == u) (c.txn == t) refl refl (others_kept u t cs other)
  where
    by_tests : (a b : Bool) → (c.txn == u) ≡ a → (c.txn == t) ≡ b → changes_of t (changes_of_others u cs) ≡ changes_of t cs →
        changes_of t (cond (not a) (c ∷ changes_of_others u cs) (changes_of_others u cs)) ≡ cond b (c ∷ changes_of t cs) (changes_of t cs)
    by_tests true true of_u of_t rest = absurd (eqb-false u t other (sym (eqb-true c.txn u of_u) ∙ eqb-true c.txn t of_t))
    by_tests true false of_u of_t rest = rest
    by_tests false true of_u of_t rest =
        cond-true (c.txn == t) (c ∷ changes_of t (changes_of_others u cs)) (changes_of t (changes_of_others u cs)) of_t ∙ ap (λ (l : List RowChange). c ∷ l) rest
    by_tests false false of_u of_t rest = cond-false (c.txn == t) (c ∷ changes_of t (changes_of_others u cs)) (changes_of t (changes_of_others u cs)) of_t ∙ rest

others_are : (u t : ℕ) (cs : List RowChange) → changes_of t (changes_of_others u cs) ≡ cond (u == t) [] (changes_of t cs)
others_are u t cs = by_test (u == t) refl
  where
    by_test : (b : Bool) → (u == t) ≡ b → changes_of t (changes_of_others u cs) ≡ cond b [] (changes_of t cs)
    by_test true is = subst (λ (n : ℕ). changes_of t (changes_of_others n cs) ≡ []) (sym (eqb-true u t is)) (others_none t cs)
    by_test false is = others_kept u t cs is

-- one change more at the end
one_more : (mark : Mark) (u t : ℕ) (cs : List RowChange) (c : LoggedChange) (mine : List LoggedChange) → changes_of t cs ≡ map (row_of mark t) mine →
    changes_of t (cs ++ row_of mark u c ∷ []) ≡ map (row_of mark t) (cond (u == t) (mine ++ c ∷ []) mine)
one_more mark u t cs c mine is =
    filter-append (λ (e : RowChange). e.txn == t) cs (row_of mark u c ∷ []) ∙ ap (λ (l : List RowChange). l ++ cond (u == t) (row_of mark u c ∷ []) []) is ∙ by_test (u == t) refl
  where
    by_test : (b : Bool) → (u == t) ≡ b → map (row_of mark t) mine ++ cond b (row_of mark u c ∷ []) [] ≡ map (row_of mark t) (cond b (mine ++ c ∷ []) mine)
    by_test true at =
        ap (λ (n : ℕ). map (row_of mark t) mine ++ row_of mark n c ∷ []) (eqb-true u t at) ∙ sym (map-append (row_of mark t) mine (c ∷ []))
    by_test false at = append-nil (map (row_of mark t) mine)

-- ---- entry by entry

-- a replay of marked entries has the records and pending changes of a redo
pub record AreAlike (mark : Mark) (replay : Replay) (redo : Redo) : Type 0 where
  pub rows : replay.rows ≡ rows_after (map (mark_change mark) redo.done) no_rows
  pub pending : (t : ℕ) → changes_of t replay.pending ≡ map (row_of mark t) (redo.pending t)

alike_entry : (mark : Mark) (at : ℕ) (entry : Entry) (replay : Replay) (redo : Redo) → is_plain entry ≡ true → AreAlike mark replay redo →
    AreAlike mark (replayed_entry (mark_entry mark at entry) replay) (redo_entry at entry redo)
alike_entry mark at (Put txn db name value) replay redo plain is = record {
  rows = is.rows;
  pending = λ t. one_more mark txn.0 t replay.pending (set_at at db name value) (redo.pending t) (is.pending t);
}
alike_entry mark at (Delete txn db name) replay redo plain is = record {
  rows = is.rows;
  pending = λ t. one_more mark txn.0 t replay.pending (unset_at at db name) (redo.pending t) (is.pending t);
}
alike_entry mark at (Commit txn) replay redo plain is = record {
  rows =
      ap (λ (l : List RowChange). rows_changed l replay.rows) (is.pending txn.0)
      ∙ changed_after mark txn.0 (redo.pending txn.0) replay.rows
      ∙ ap (rows_after (map (mark_change mark) (redo.pending txn.0))) is.rows
      ∙ sym (rows_after-append (map (mark_change mark) redo.done) (map (mark_change mark) (redo.pending txn.0)) no_rows)
      ∙ ap (λ (l : List LoggedChange). rows_after l no_rows) (sym (map-append (mark_change mark) redo.done (redo.pending txn.0)));
  pending = λ t. others_are txn.0 t replay.pending ∙ ap (λ (l : List RowChange). cond (txn.0 == t) [] l) (is.pending t) ∙ emptied_map t (txn.0 == t);
}
  where
    emptied_map : (t : ℕ) (b : Bool) → cond b [] (map (row_of mark t) (redo.pending t)) ≡ map (row_of mark t) (cond b [] (redo.pending t))
    emptied_map t true = refl
    emptied_map t false = refl
alike_entry mark at entry replay redo plain is = absurd (true≢false (sym plain))

alike_all : (mark : Mark) (es : List Placed) (replay : Replay) (redo : Redo) → AllByRecursion (λ p. is_plain p.1 ≡ true) es → AreAlike mark replay redo →
    AreAlike mark (replayed (map (λ (p : Placed). mark_entry mark p.0 p.1) es) replay) (redo_all es redo)
alike_all mark [] replay redo plain is = is
alike_all mark (p ∷ es) replay redo plain is = alike_all mark es _ (redo_entry p.0 p.1 redo) plain.1 (alike_entry mark p.0 p.1 replay redo plain.0 is)

-- ---- whole logs

from-0 : (es : List Placed) → from 0 es ≡ es
from-0 [] = refl
from-0 (p ∷ es) = cond-true (nat_le 0 p.0) (p ∷ from 0 es) (from 0 es) (le-leb 0 p.0 (omega arith)) ∙ ap (λ (l : List Placed). p ∷ l) (from-0 es)

pub all_from_0 : (es : List Placed) → from 0 es ≡ es
all_from_0 es = from-0 es

pub alike : (mark : Mark) (es : List Placed) → AllByRecursion (λ p. is_plain p.1 ≡ true) es →
    AreAlike mark (replayed (map (λ (p : Placed). mark_entry mark p.0 p.1) es) nothing_replayed) (redone 0 es)
alike mark es plain =
    subst (λ (l : List Placed). AreAlike mark (replayed (map (λ (p : Placed). mark_entry mark p.0 p.1) es) nothing_replayed) (redo_all l nothing_redone)) (sym (from-0 es))
    (alike_all mark es nothing_replayed nothing_redone plain (record { rows = refl; pending = λ t. refl }))

-- ---- what stands under a name

pub last-marked : (mark : Mark) (d : ℕ) (x : Name) (cs : List LoggedChange) (w : Written) → last_of d x (map (mark_change mark) cs) (mark_written mark w) ≡ mark_written mark (last_of d x cs w)
last-marked mark d x [] w = refl
last-marked mark d x (c ∷ cs) w = ap (last_of d x (map (mark_change mark) cs)) (by_test (is_of d x c)) ∙ last-marked mark d x cs (cond (is_of d x c) c.written w)
  where
    by_test : (b : Bool) → cond b (mark_written mark c.written) (mark_written mark w) ≡ mark_written mark (cond b c.written w)
    by_test true = refl
    by_test false = refl

-- ---- LSNs

-- the LSNs of a redo's changes are those of its entries
record AreBelow (limit : ℕ) (redo : Redo) : Type 0 where
  done : AllByRecursion (λ c. c.written.at < limit) redo.done
  pending : (t : ℕ) → AllByRecursion (λ c. c.written.at < limit) (redo.pending t)

below_push : (limit t : ℕ) (b : Bool) (c : LoggedChange) (pending : ℕ → List LoggedChange) → c.written.at < limit → AllByRecursion (λ e. e.written.at < limit) (pending t) →
    AllByRecursion (λ e. e.written.at < limit) (cond b (pending t ++ c ∷ []) (pending t))
below_push limit t true c pending lt all = all_append (λ (e : LoggedChange). e.written.at < limit) (pending t) (c ∷ []) all (lt, tt)
below_push limit t false c pending lt all = all

below_entry : (limit at : ℕ) (entry : Entry) (redo : Redo) → is_plain entry ≡ true → at < limit → AreBelow limit redo → AreBelow limit (redo_entry at entry redo)
below_entry limit at (Put txn db name value) redo plain lt is = record { done = is.done; pending = λ t. below_push limit t (txn.0 == t) (set_at at db name value) redo.pending lt (is.pending t) }
below_entry limit at (Delete txn db name) redo plain lt is = record { done = is.done; pending = λ t. below_push limit t (txn.0 == t) (unset_at at db name) redo.pending lt (is.pending t) }
below_entry limit at (Commit txn) redo plain lt is = record {
  done = all_append (λ (c : LoggedChange). c.written.at < limit) redo.done (redo.pending txn.0) is.done (is.pending txn.0);
  pending = λ t. emptied_below t (txn.0 == t) (is.pending t);
}
  where
    emptied_below : (t : ℕ) (b : Bool) → AllByRecursion (λ c. c.written.at < limit) (redo.pending t) → AllByRecursion (λ c. c.written.at < limit) (cond b [] (redo.pending t))
    emptied_below t true all = tt
    emptied_below t false all = all
below_entry limit at entry redo plain lt is = absurd (true≢false (sym plain))

below_all : (limit : ℕ) (es : List Placed) (redo : Redo) → AllByRecursion (λ p. is_plain p.1 ≡ true) es → AllByRecursion (λ p. p.0 < limit) es → AreBelow limit redo → AreBelow limit (redo_all es redo)
below_all limit [] redo plain low is = is
below_all limit (p ∷ es) redo plain low is = below_all limit es (redo_entry p.0 p.1 redo) plain.1 low.1 (below_entry limit p.0 p.1 redo plain.0 low.0 is)

pub done_below : (limit : ℕ) (es : List Placed) → AllByRecursion (λ p. is_plain p.1 ≡ true) es → AllByRecursion (λ p. p.0 < limit) es →
    AllByRecursion (λ c. c.written.at < limit) (redone 0 es).done
done_below limit es plain low =
    subst (λ (l : List Placed). AllByRecursion (λ c. c.written.at < limit) (redo_all l nothing_redone).done) (sym (from-0 es))
    (below_all limit es nothing_redone plain low (record { done = tt; pending = λ t. tt })).done
