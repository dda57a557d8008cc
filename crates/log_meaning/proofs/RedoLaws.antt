-- Redo over a log that is one entry longer.
use Rattle.std.proofs.Common.{◌≡◌, ℕ, ◌<◌, ◌≤◌, nat_le, cond, List, [], ◌∷◌, ◌++◌, Option, None, Some, unwrap_or, refl, sym, ap, ◌∙◌, append_assoc}
use Rattle.std.proofs.lemmas.Bool.{le-leb, lt-leb, cond-true, cond-false}
use Rattle.std.proofs.lemmas.List.Elements.{filter-append}
use Rattle.std.specs.List.{AllByRecursion}
use Rattle.log_entry.specs.declared.entry.Entry.{Entry}
use Rattle.log_entry.specs.declared.entry.Entry.TheVariants.{Put, Delete, Migrated, Commit}
use Rattle.log_replay.specs.Wrong.{or_else}
use Rattle.log_trees.specs.Placed.{Placed}
use Rattle.log_trees.specs.Changes.{LoggedChange}
use Rattle.log_trees.specs.Trees.{rows_of_roots}
use Rattle.log_trees.proofs.Staying.{roots_stay}
use Rattle.log_meaning.specs.Redo.{Redo, nothing_redone, redo_entry, redo_all, from, redone}
use Rattle.log_meaning.specs.Checkpoint.{Checkpoint, no_checkpoint, checkpoint_in, last_end, last_checkpoint, behind, restarted_from, restarted}

pub redo_all-append : (a b : List Placed) (redo : Redo) → redo_all (a ++ b) redo ≡ redo_all b (redo_all a redo)
redo_all-append [] b redo = refl
redo_all-append (p ∷ a) b redo = redo_all-append a b (redo_entry p.0 p.1 redo)

redone-push : (r : ℕ) (es : List Placed) (p : Placed) → redone r (es ++ p ∷ []) ≡ redo_all (cond (nat_le r p.0) (p ∷ []) []) (redone r es)
redone-push r es p =
    ap (λ (l : List Placed). redo_all l nothing_redone) (filter-append (λ (q : Placed). nat_le r q.0) es (p ∷ []))
    ∙ redo_all-append (from r es) (cond (nat_le r p.0) (p ∷ []) []) nothing_redone

-- an entry at the LSN or behind it is redone, and one before it is not
pub redone-in : (r : ℕ) (es : List Placed) (p : Placed) → r ≤ p.0 → redone r (es ++ p ∷ []) ≡ redo_entry p.0 p.1 (redone r es)
redone-in r es p le = redone-push r es p ∙ ap (λ (l : List Placed). redo_all l (redone r es)) (cond-true (nat_le r p.0) (p ∷ []) [] (le-leb r p.0 le))

pub redone-out : (r : ℕ) (es : List Placed) (p : Placed) → p.0 < r → redone r (es ++ p ∷ []) ≡ redone r es
redone-out r es p lt = redone-push r es p ∙ ap (λ (l : List Placed). redo_all l (redone r es)) (cond-false (nat_le r p.0) (p ∷ []) [] (lt-leb r p.0 lt))

-- a log with nothing at an LSN or behind it redoes nothing from there on
pub redone-none : (r : ℕ) (es : List Placed) → AllByRecursion (λ p. p.0 < r) es → redone r es ≡ nothing_redone
redone-none r [] all = refl
redone-none r (p ∷ es) all =
    ap (λ (l : List Placed). redo_all l nothing_redone) (cond-false (nat_le r p.0) (p ∷ from r es) (from r es) (lt-leb r p.0 all.0)) ∙ redone-none r es all.1

or_else-assoc : {A : Type 0} (a b c : Option A) → or_else (or_else a b) c ≡ or_else a (or_else b c)
or_else-assoc None b c = refl
or_else-assoc (Some x) b c = refl

or_else-none : {A : Type 0} (a : Option A) → or_else a None ≡ a
or_else-none None = refl
or_else-none (Some x) = refl

pub last_end-push : (es : List Placed) (p : Placed) → last_end (es ++ p ∷ []) ≡ or_else (checkpoint_in p.0 p.1) (last_end es)
last_end-push [] p = sym (or_else-none (checkpoint_in p.0 p.1))
last_end-push (q ∷ es) p =
    ap (λ (o : Option Checkpoint). or_else o (checkpoint_in q.0 q.1)) (last_end-push es p) ∙ or_else-assoc (checkpoint_in p.0 p.1) (last_end es) (checkpoint_in q.0 q.1)

-- an entry behind records that stood before
pub behind-entry : (rows : List LoggedChange) (at : ℕ) (entry : Entry) (redo : Redo) → redo_entry at entry (behind rows redo) ≡ behind rows (redo_entry at entry redo)
behind-entry rows at (Put txn db name value) redo = refl
behind-entry rows at (Delete txn db name) redo = refl
behind-entry rows at (Migrated db name value) redo =
    let make : List LoggedChange → Redo = λ l. record { done = l; pending = redo.pending } in ap make (append_assoc rows redo.done _)
behind-entry rows at (Commit txn) redo =
    let make : List LoggedChange → Redo = λ l. record { done = l; pending = (redo_entry at (Commit txn) redo).pending } in ap make (append_assoc rows redo.done (redo.pending txn.0))
behind-entry rows at entry redo = refl

-- an entry that ends no checkpoint leaves the last one
pub last_checkpoint-push : (es : List Placed) (p : Placed) → checkpoint_in p.0 p.1 ≡ None → last_checkpoint (es ++ p ∷ []) ≡ last_checkpoint es
last_checkpoint-push es p none =
    ap (λ (o : Option Checkpoint). unwrap_or o no_checkpoint) (last_end-push es p ∙ ap (λ (o : Option Checkpoint). or_else o (last_end es)) none)

-- a log with one more entry behind its last checkpoint is read again with that entry more
pub restarted-push : (es : List Placed) (p : Placed) → checkpoint_in p.0 p.1 ≡ None → (last_checkpoint es).at ≤ p.0 → (last_checkpoint es).redo ≤ p.0 →
    restarted (es ++ p ∷ []) ≡ redo_entry p.0 p.1 (restarted es)
restarted-push es p none at redo =
    let c : Checkpoint = last_checkpoint es in
    ap (restarted_from (es ++ p ∷ [])) (last_checkpoint-push es p none)
    ∙ ap (λ (l : List LoggedChange). behind l (redone c.redo (es ++ p ∷ []))) (roots_stay es (p ∷ []) c.at c.roots (at, tt))
    ∙ ap (behind (rows_of_roots es c.at c.roots)) (redone-in c.redo es p redo)
    ∙ sym (behind-entry (rows_of_roots es c.at c.roots) p.0 p.1 (redone c.redo es))
