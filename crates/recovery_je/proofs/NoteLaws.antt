-- What is noted of entries while they are read.
use Rattle.std.proofs.Common.{◌≡◌, ◌≤◌, ℕ, Bool, true, false, cond, arith, List, [], ◌∷◌, ◌++◌, ◌&&◌, Option, None, Some, refl, sym, ap, ap₂, subst, ◌∙◌, append_assoc}
use Rattle.std.specs.Prelude.{not}
use Rattle.std.proofs.lemmas.Bool.{le-leb}
use Rattle.std.proofs.lemmas.List.{append-nil}
use Rattle.log_entry.specs.declared.entry.Entry.{Entry}
use Rattle.log_replay.specs.Wrong.{or_else}
use Rattle.log_trees.specs.Placed.{Placed}
use Rattle.log_meaning.specs.Checkpoint.{Checkpoint, checkpoint_in, last_end}
use Rattle.log_meaning.specs.ReadNodes.{is_delta}
use Rattle.recovery_je.specs.declared.numbers.Numbers.{Numbers}
use Rattle.recovery_je.specs.declared.read_notes.ReadNotes.{ReadNotes}
use Rattle.recovery_je.specs.Noting.{AreNotesOf, NotesMore}
use Rattle.recovery_je.specs.Numbers.{with_entry, with_placed, none_numbered, numbers_over}
use Rattle.recovery_je.specs.Putting.{are_whole}

-- ---- one entry more

and_later : (a b c : Bool) → ((a && b) && c) ≡ (a && (b && c))
and_later true b c = refl
and_later false b c = refl

and_true : (a : Bool) → (a && true) ≡ a
and_true true = refl
and_true false = refl

whole_more : (es : List Placed) (p : Placed) → are_whole (es ++ p ∷ []) ≡ (are_whole es && not (is_delta p.1))
whole_more [] p = and_true (not (is_delta p.1))
whole_more (q ∷ es) p = ap (λ (b : Bool). not (is_delta q.1) && b) (whole_more es p) ∙ sym (and_later (not (is_delta q.1)) (are_whole es) (not (is_delta p.1)))

else_later : (a b c : Option Checkpoint) → or_else (or_else a b) c ≡ or_else a (or_else b c)
else_later None b c = refl
else_later (Some x) b c = refl

end_more : (es : List Placed) (p : Placed) → last_end (es ++ p ∷ []) ≡ or_else (checkpoint_in p.0 p.1) (last_end es)
end_more [] p = else_none (checkpoint_in p.0 p.1)
  where
    else_none : (o : Option Checkpoint) → or_else None o ≡ or_else o None
    else_none None = refl
    else_none (Some x) = refl
end_more (q ∷ es) p =
    ap (λ (o : Option Checkpoint). or_else o (checkpoint_in q.0 q.1)) (end_more es p) ∙ else_later (checkpoint_in p.0 p.1) (last_end es) (checkpoint_in q.0 q.1)

pub over_append : (r : ℕ) (a b : List Placed) (n : Numbers) → numbers_over r (a ++ b) n ≡ numbers_over r b (numbers_over r a n)
over_append r [] b n = refl
over_append r (p ∷ a) b n = over_append r a b (with_placed r p n)

-- each entry stands at 0 or behind it
behind_zero : (p : Placed) (n : Numbers) → with_placed 0 p n ≡ with_entry p.1 n
behind_zero p n = ap (λ (b : Bool). cond b (with_entry p.1 n) n) (le-leb 0 p.0 (omega arith))

pub with_behind : (redo lsn : ℕ) (entry e : Entry) (result n : Numbers) → result ≡ with_entry entry n → entry ≡ e → redo ≤ lsn → result ≡ with_placed redo (lsn, e) n
with_behind redo lsn entry e result n is same le =
    is ∙ ap (λ (x : Entry). with_entry x n) same ∙ ap (λ (b : Bool). cond b (with_entry e n) n) (sym (le-leb redo lsn le))

-- what was noted, with one entry more
pub noted_more : (at : ℕ) (entry : Entry) (old : ReadNotes) (whole : Bool) (end found : Option Checkpoint) (numbers : Numbers) → whole ≡ (old.whole && not (is_delta entry)) → found ≡ checkpoint_in at entry → end ≡ or_else found old.end → numbers ≡ with_entry entry old.numbers →
    NotesMore ((at, entry) ∷ []) old (record { whole = whole; end = end; numbers = numbers })
noted_more at entry old whole end found numbers whole_is found_is end_is numbers_are es noted = record {
  whole = whole_is ∙ ap (λ (b : Bool). b && not (is_delta entry)) noted.whole ∙ sym (whole_more es (at, entry));
  end = end_is ∙ ap₂ (λ (a b : Option Checkpoint). or_else a b) found_is noted.end ∙ sym (end_more es (at, entry));
  numbers = numbers_are ∙ ap (with_entry entry) noted.numbers ∙ sym (behind_zero (at, entry) (numbers_over 0 es none_numbered)) ∙ sym (over_append 0 es ((at, entry) ∷ []) none_numbered);
}

-- ---- several entries

-- entries were noted, and others behind them
pub noted_on : (start old new : ReadNotes) (done : List Placed) (p : Placed) → NotesMore done start old → NotesMore (p ∷ []) old new → NotesMore (done ++ p ∷ []) start new
noted_on start old new done p so_far more es noted = subst (λ (l : List Placed). AreNotesOf l new) (append_assoc es done (p ∷ [])) (more (es ++ done) (so_far es noted))

pub noted_none : (notes : ReadNotes) → NotesMore [] notes notes
noted_none notes es noted = subst (λ (l : List Placed). AreNotesOf l notes) (sym (append-nil es)) noted
