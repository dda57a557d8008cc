-- Records while a log is read again.
use Rattle.std.proofs.Common.{◌≡◌, ◌<◌, ℕ, Bool, true, false, cond, List, [], ◌∷◌, ◌++◌, Option, ◌==◌, reverse, refl, sym, ap, subst, arith, ◌∙◌}
use Rattle.std.specs.Prelude.{nat_le}
use Rattle.std.proofs.lemmas.Bool.{le-leb}
use Rattle.std.proofs.lemmas.List.{reverse-append}
use Rattle.je_order.specs.declared.name.Name.{Name}
use Rattle.record_map.specs.Cells.{value_at}
use Rattle.record_tree.specs.Stored.{Stored, AllStored}
use Rattle.log_trees.specs.Placed.{Placed}
use Rattle.log_trees.specs.Changes.{Written, unwritten, LoggedChange, is_of, last_of}
use Rattle.log_trees.proofs.Rooted.{last_of-append}
use Rattle.log_meaning.specs.Redo.{Redo, emptied, redo_entry, redo_all, from, record_at}
use Rattle.recovery_je.specs.Redoing.{waits, there, stored_after, HasMade, IsRedoAt}

-- what stands under a name after changes, by what was written there
pub after_written : (d : ℕ) (x : Name) (cs : List LoggedChange) (w : Written) → stored_after d x cs (there w) ≡ there (last_of d x cs w)
after_written d x [] w = refl
after_written d x (c ∷ cs) w = ap (stored_after d x cs) (by_test (is_of d x c)) ∙ after_written d x cs (cond (is_of d x c) c.written w)
  where
    by_test : (b : Bool) → cond b (there c.written) (there w) ≡ there (cond b c.written w)
    by_test true = refl
    by_test false = refl

-- changes are made behind those that were
pub are_done : (old new : AllStored) (changes cs : List LoggedChange) (redo : Redo) (d : ℕ) (x : Name) → HasMade changes old new → changes ≡ cs → value_at x (old d) ≡ there (record_at redo d x) →
    value_at x (new d) ≡ there (last_of d x (redo.done ++ cs) unwritten)
are_done old new changes cs redo d x made same at =
    made d x
    ∙ ap (λ (l : List LoggedChange). stored_after d x l (value_at x (old d))) same
    ∙ ap (stored_after d x cs) at
    ∙ after_written d x cs (record_at redo d x)
    ∙ ap there (sym (last_of-append d x redo.done cs unwritten))

pub committed : (old new : AllStored) (kept left : List (ℕ × List LoggedChange)) (txn : ℕ) (changes : List LoggedChange) (redo : Redo) → HasMade changes old new → changes ≡ waits kept txn →
    ((t : ℕ) → waits left t ≡ emptied txn (waits kept) t) → IsRedoAt old kept redo →
    IsRedoAt new left (record { done = redo.done ++ redo.pending txn; pending = emptied txn redo.pending })
committed old new kept left txn changes redo made taken rest at = record {
  records = λ d x. are_done old new changes (redo.pending txn) redo d x made (taken ∙ at.pending txn) (at.records d x);
  pending = λ t. rest t ∙ ap (λ (l : List LoggedChange). cond (txn == t) [] l) (at.pending t);
}

pub migrated : (old new : AllStored) (kept : List (ℕ × List LoggedChange)) (change : LoggedChange) (redo : Redo) → HasMade (change ∷ []) old new → IsRedoAt old kept redo →
    IsRedoAt new kept (record { done = redo.done ++ change ∷ []; pending = redo.pending })
migrated old new kept change redo made at = record {
  records = λ d x. are_done old new (change ∷ []) (change ∷ []) redo d x made refl (at.records d x);
  pending = at.pending;
}

-- ---- several changes

-- of items that lie the other way round the last one is the first
pub last_is_first : {A : Type 0} (old new left : List A) (x : A) → old ≡ new ++ x ∷ [] → left ≡ new → reverse old ≡ x ∷ reverse left
last_is_first old new left x is same = ap reverse is ∙ reverse-append new (x ∷ []) ∙ ap (λ (l : List _). x ∷ reverse l) (sym same)

pub changes_go_on : (d : ℕ) (x : Name) (old new : AllStored) (left rest : List LoggedChange) (change : LoggedChange) (target : Option Stored) → HasMade (change ∷ []) old new → left ≡ change ∷ rest →
    stored_after d x left (value_at x (old d)) ≡ target → stored_after d x rest (value_at x (new d)) ≡ target
changes_go_on d x old new left rest change target made is so_far =
    ap (stored_after d x rest) (made d x) ∙ ap (λ (l : List LoggedChange). stored_after d x l (value_at x (old d))) (sym is) ∙ so_far

pub changes_end : (d : ℕ) (x : Name) (new : AllStored) (left : List LoggedChange) (target : Option Stored) → left ≡ [] → stored_after d x left (value_at x (new d)) ≡ target → value_at x (new d) ≡ target
changes_end d x new left target none so_far = ap (λ (l : List LoggedChange). stored_after d x l (value_at x (new d))) (sym none) ∙ so_far

-- ---- several entries

-- entries were taken, and these are left
pub record IsTakingFrom (redo : ℕ) (all left : List Placed) (r : Redo) (stored : AllStored) (kept : List (ℕ × List LoggedChange)) : Type 0 where
  pub here : Redo
  pub at : IsRedoAt stored kept here
  pub rest : redo_all (from redo left) here ≡ redo_all (from redo all) r

abbrev pub IsTaking : ℕ → List Placed → List Placed → AllStored → List (ℕ × List LoggedChange) → AllStored → List (ℕ × List LoggedChange) → Type 0
IsTaking redo all left start begun stored kept = (r : Redo) → IsRedoAt start begun r → IsTakingFrom redo all left r stored kept

pub taking_begins : (redo : ℕ) (all left : List Placed) (stored : AllStored) (kept : List (ℕ × List LoggedChange)) → left ≡ all → IsTaking redo all left stored kept stored kept
taking_begins redo all left stored kept is r at = record { here = r; at = at; rest = ap (λ (l : List Placed). redo_all (from redo l) r) is }

one_more : (redo : ℕ) (p : Placed) (rest : List Placed) (r : Redo) → redo_all (from redo rest) (redo_all (from redo (p ∷ [])) r) ≡ redo_all (from redo (p ∷ rest)) r
one_more redo p rest r = by_test (nat_le redo p.0)
  where
    by_test : (b : Bool) → redo_all (from redo rest) (redo_all (cond b (p ∷ []) []) r) ≡ redo_all (cond b (p ∷ from redo rest) (from redo rest)) r
    by_test true = refl
    by_test false = refl

pub taking_goes_on : (redo : ℕ) (all left rest : List Placed) (p : Placed) (start : AllStored) (begun : List (ℕ × List LoggedChange)) (old : AllStored) (kept : List (ℕ × List LoggedChange))
    (new : AllStored) (more : List (ℕ × List LoggedChange)) → left ≡ p ∷ rest → ((r : Redo) → IsRedoAt old kept r → IsRedoAt new more (redo_all (from redo (p ∷ [])) r)) →
    IsTaking redo all left start begun old kept → IsTaking redo all rest start begun new more
taking_goes_on redo all left rest p start begun old kept new more is step so_far r at =
    let before = so_far r at in record {
      here = redo_all (from redo (p ∷ [])) before.here;
      at = step before.here before.at;
      rest = one_more redo p rest before.here ∙ ap (λ (l : List Placed). redo_all (from redo l) before.here) (sym is) ∙ before.rest;
    }

-- entries are taken, with those behind them
some_more : (redo : ℕ) (part rest : List Placed) (r : Redo) → redo_all (from redo rest) (redo_all (from redo part) r) ≡ redo_all (from redo (part ++ rest)) r
some_more redo [] rest r = refl
some_more redo (p ∷ part) rest r = by_test (some_more redo part rest) (nat_le redo p.0)
  where
    by_test : ((k : Redo) → redo_all (from redo rest) (redo_all (from redo part) k) ≡ redo_all (from redo (part ++ rest)) k) → (b : Bool) →
        redo_all (from redo rest) (redo_all (cond b (p ∷ from redo part) (from redo part)) r) ≡ redo_all (cond b (p ∷ from redo (part ++ rest)) (from redo (part ++ rest))) r
    by_test later true = later (redo_entry p.0 p.1 r)
    by_test later false = later r

pub taking_part : (redo : ℕ) (all left rest part : List Placed) (start : AllStored) (begun : List (ℕ × List LoggedChange)) (old : AllStored) (kept : List (ℕ × List LoggedChange))
    (new : AllStored) (more : List (ℕ × List LoggedChange)) → left ≡ part ++ rest → ((r : Redo) → IsRedoAt old kept r → IsRedoAt new more (redo_all (from redo part) r)) →
    IsTaking redo all left start begun old kept → IsTaking redo all rest start begun new more
taking_part redo all left rest part start begun old kept new more is step so_far r at =
    let before = so_far r at in record {
      here = redo_all (from redo part) before.here;
      at = step before.here before.at;
      rest = some_more redo part rest before.here ∙ ap (λ (l : List Placed). redo_all (from redo l) before.here) (sym is) ∙ before.rest;
    }

pub taking_ends : (redo : ℕ) (all left : List Placed) (start : AllStored) (begun : List (ℕ × List LoggedChange)) (stored : AllStored) (kept : List (ℕ × List LoggedChange)) → left ≡ [] →
    IsTaking redo all left start begun stored kept → (r : Redo) → IsRedoAt start begun r → IsRedoAt stored kept (redo_all (from redo all) r)
taking_ends redo all left start begun stored kept none so_far r at =
    let here = so_far r at in
    subst (IsRedoAt stored kept) (ap (λ (l : List Placed). redo_all (from redo l) here.here) (sym none) ∙ here.rest) here.at

pub one_at : (redo : ℕ) (p : Placed) (r : Redo) → (p.0 < redo → ⊥) → redo_entry p.0 p.1 r ≡ redo_all (from redo (p ∷ [])) r
one_at redo p r ge = ap (λ (b : Bool). redo_all (cond b (p ∷ []) []) r) (sym (le-leb redo p.0 (omega (arith, ge))))
