-- What images show is the same in a longer log.
use Rattle.std.proofs.Common.{◌≡◌, ◌==◌, ◌≤◌, ◌<◌, ◌⊎◌, ◌++◌, ℕ, zero, suc, [], ◌∷◌, Bool, true, false, cond, Option, None, Some, refl, ap, sym, subst, ◌∙◌, inl, inr, arith}
use Rattle.std.specs.Option.{option_and_then}
use Rattle.std.proofs.lemmas.Option.{none-some}
use Rattle.je_order.specs.declared.name.Name.{Name}
use Rattle.log_entry.specs.declared.entry.Entry.{Entry}
use Rattle.tree_nodes.specs.declared.node.Node.{Node}
use Rattle.tree_nodes.specs.Nodes.{IsOver}
use Rattle.tree_nodes.specs.Levels.{row_of}
use Rattle.db_tree.specs.Images.{Placed, entry_at, record_in, child_in, last_says, shows, shown, version_imaged, IsBin, IsRead}
use Rattle.db_tree.specs.Trees.{IsBehind, IsMarked}
use Rattle.db_tree.specs.Laws.{TreesStayInLongerLogs}
use Rattle.db_tree.proofs.Says.{all_front}

-- an entry that is there stays
entry_stays : (es more : Placed) (at : ℕ) (e : Entry) → entry_at es at ≡ Some e → entry_at (es ++ more) at ≡ Some e
entry_stays [] more at e h = absurd (none-some e h)
entry_stays (p ∷ es) more at e h = by_test (p.0 == at) (entry_stays es more at e) h
  where
    by_test : (t : Bool) → (entry_at es at ≡ Some e → entry_at (es ++ more) at ≡ Some e) → cond t (Some p.1) (entry_at es at) ≡ Some e → cond t (Some p.1) (entry_at (es ++ more) at) ≡ Some e
    by_test true rest is = is
    by_test false rest is = rest is

-- so does one that is an image of a BIN, and one that shows a child
bin_stays : (es more : Placed) (at : ℕ) → IsBin (entry_at es at) → entry_at (es ++ more) at ≡ entry_at es at
bin_stays es more at h = by_entry (entry_at es at) refl h
  where
    by_entry : (o : Option Entry) → entry_at es at ≡ o → IsBin o → entry_at (es ++ more) at ≡ o
    by_entry None e h = absurd h
    by_entry (Some entry) e h = entry_stays es more at entry e

child_stays : (es more : Placed) (at child : ℕ) (x : Name) → child_in (entry_at es at) x ≡ Some child → entry_at (es ++ more) at ≡ entry_at es at
child_stays es more at child x h = by_entry (entry_at es at) refl h
  where
    by_entry : (o : Option Entry) → entry_at es at ≡ o → child_in o x ≡ Some child → entry_at (es ++ more) at ≡ o
    by_entry None e h = absurd (none-some child h)
    by_entry (Some entry) e h = entry_stays es more at entry e

pub read_stays : (es more : Placed) (level at : ℕ) (x : Name) → IsRead es level at x → IsRead (es ++ more) level at x
read_stays es more zero at x h = subst IsBin (sym (bin_stays es more at h)) h
read_stays es more (suc level) at x h =
    (h.0, ap (λ (o : Option Entry). child_in o x) (child_stays es more at h.0 x h.1) ∙ h.1, read_stays es more level h.0 x h.2)

pub shows_stays : (es more : Placed) (level at : ℕ) (x : Name) → IsRead es level at x → shows (es ++ more) level at x ≡ shows es level at x
shows_stays es more zero at x h = ap (λ (o : Option Entry). record_in o x) (bin_stays es more at h)
shows_stays es more (suc level) at x h =
    ap (option_and_then (λ child. shows (es ++ more) level child x)) (ap (λ (o : Option Entry). child_in o x) (child_stays es more at h.0 x h.1) ∙ h.1)
    ∙ shows_stays es more level h.0 x h.2
    ∙ sym (ap (option_and_then (λ child. shows es level child x)) h.1)

-- a mark counts as before
pub behind_stays : (base : ℕ) (newest newer : Name → ℕ) (n : Node) (x : Name) → newest x ≤ newer x → IsBehind base newest n x → IsBehind base newer n x
behind_stays base newest newer n x le behind = (behind.0, behind.1, by_side behind.2)
  where
    by_side : (behind.0 ≤ newest x) ⊎ (behind.0 < base) → (behind.0 ≤ newer x) ⊎ (behind.0 < base)
    by_side (inl h) = inl (omega arith)
    by_side (inr h) = inr h

pub longer : TreesStayInLongerLogs
longer es more base newest newer rows held le tree = record {
  reads = λ level x e at over is. read_stays es more level at x (tree.reads level x e at over is);
  leaf = λ x e over. at_leaf x e (same_says x e over e.1.last refl) (tree.leaf x e over);
  inner = λ level x e c upper lower. at_inner level x e c (same_shown (suc level) x e upper e.1.last refl) (same_shown level x c lower c.1.last refl) (tree.inner level x e c upper lower);
  names = λ level x e c at upper lower is. at_names level x e c at (tree.reads (suc level) x e at upper is) (tree.names level x e c at upper lower is);
  know = record {
    shown = λ x e at over is. ap (λ (o : Option Entry). version_imaged o x) (bin_stays es more at (tree.reads 0 x e at over is)) ∙ tree.know.shown x e at over is;
    unset = tree.know.unset;
    touched = λ x next low all. tree.know.touched x next low (all_front next es more all);
  };
}
  where
    same_shown : (level : ℕ) (x : Name) (e : Name × Node) → IsOver (row_of rows level) x e → (last : Option ℕ) → e.1.last ≡ last → shown (es ++ more) level last x ≡ shown es level last x
    same_shown level x e over None is = refl
    same_shown level x e over (Some at) is = shows_stays es more level at x (tree.reads level x e at over is)

    same_says : (x : Name) (e : Name × Node) → IsOver (row_of rows 0) x e → (last : Option ℕ) → e.1.last ≡ last → last_says (es ++ more) last x ≡ last_says es last x
    same_says x e over None is = refl
    same_says x e over (Some at) is = ap (λ (o : Option Entry). version_imaged o x) (bin_stays es more at (tree.reads 0 x e at over is))

    at_leaf : (x : Name) (e : Name × Node) → last_says (es ++ more) e.1.last x ≡ last_says es e.1.last x → (last_says es e.1.last x ≡ (held x).version) ⊎ IsBehind base newest e.1 x →
        (last_says (es ++ more) e.1.last x ≡ (held x).version) ⊎ IsBehind base newer e.1 x
    at_leaf x e same (inl h) = inl (same ∙ h)
    at_leaf x e same (inr h) = inr (behind_stays base newest newer e.1 x (le x) h)

    at_inner : (level : ℕ) (x : Name) (e c : Name × Node) → shown (es ++ more) (suc level) e.1.last x ≡ shown es (suc level) e.1.last x → shown (es ++ more) level c.1.last x ≡ shown es level c.1.last x →
        (shown es (suc level) e.1.last x ≡ shown es level c.1.last x) ⊎ IsBehind base newest e.1 x → (shown (es ++ more) (suc level) e.1.last x ≡ shown (es ++ more) level c.1.last x) ⊎ IsBehind base newer e.1 x
    at_inner level x e c upper lower (inl h) = inl (upper ∙ h ∙ sym lower)
    at_inner level x e c upper lower (inr h) = inr (behind_stays base newest newer e.1 x (le x) h)

    at_names : (level : ℕ) (x : Name) (e c : Name × Node) (at : ℕ) → IsRead es (suc level) at x → (child_in (entry_at es at) x ≡ c.1.last) ⊎ IsMarked e.1 → (child_in (entry_at (es ++ more) at) x ≡ c.1.last) ⊎ IsMarked e.1
    at_names level x e c at read (inl h) = inl (ap (λ (o : Option Entry). child_in o x) (child_stays es more at read.0 x read.1) ∙ h)
    at_names level x e c at read (inr h) = inr h
