-- What the last images of BINs say of names.
use Rattle.std.proofs.Common.{◌≡◌, ◌==◌, ◌≤◌, ◌<◌, ◌++◌, ℕ, List, [], ◌∷◌, Bool, true, false, cond, Option, None, Some, IsSome, find, refl, ap, sym, subst, ◌∙◌, is_eq}
use Rattle.std.specs.List.{AllByRecursion}
use Rattle.std.proofs.lemmas.Bool.{eqb-true, le-ltb, true≢false}
use Rattle.je_order.specs.Order.{name_cmp}
use Rattle.je_order.specs.declared.name.Name.{Name}
use Rattle.log_entry.specs.declared.record_slot.RecordSlot.{RecordSlot}
use Rattle.log_entry.specs.declared.entry.Entry.{Entry}
use Rattle.log_entry.specs.declared.entry.Entry.TheVariants.{Bin}
use Rattle.tree_nodes.specs.declared.node.Node.{Node}
use Rattle.tree_nodes.specs.Nodes.{NodeRow, IsOver}
use Rattle.tree_nodes.specs.Levels.{row_of}
use Rattle.db_tree.specs.Content.{NameState, lsn_of, shown_held}
use Rattle.db_tree.specs.Images.{Placed, IsBin, entry_at, lsn_in, record_in, last_says, shown, slot_version, version_imaged, version_of_slot}
use Rattle.db_tree.specs.Trees.{KnowImages}

-- ---- what an image says

slot_says : (o : Option RecordSlot) → lsn_of (slot_version o) ≡ lsn_in o
slot_says None = refl
slot_says (Some slot) = by_lsn slot.lsn
  where
    by_lsn : (lsn : Option ℕ) → lsn_of (version_of_slot lsn) ≡ lsn
    by_lsn None = refl
    by_lsn (Some at) = refl

-- a record stands in an image where the image says
pub image_says : (o : Option Entry) (x : Name) → lsn_of (version_imaged o x) ≡ record_in o x
image_says (Some (Bin db node slots)) x = slot_says (find (λ slot. is_eq (name_cmp x slot.name)) slots)
image_says o x = refl

pub says_shown : (es : Placed) (last : Option ℕ) (x : Name) → lsn_of (last_says es last x) ≡ shown es 0 last x
says_shown es None x = refl
says_shown es (Some at) x = image_says (entry_at es at) x

-- an image behind the Commit of a name shows what is committed
pub shown_behind : (at : ℕ) (h : NameState) → h.touched ≤ at → shown_held at h ≡ h.version
shown_behind at h le = ap (λ (t : Bool). cond t h.shown h.version) (le-ltb at h.touched le)

-- ---- what is known of images

pub know_same : (es : Placed) (base : ℕ) (rows : List NodeRow) (held next : Name → NameState) → ((x : Name) → next x ≡ held x) → KnowImages es base rows held → KnowImages es base rows next
know_same es base rows held next same know = record {
  shown = λ x e at over is. know.shown x e at over is ∙ ap (λ (h : NameState). shown_held at h) (sym (same x));
  unset = λ x is. same x ∙ know.unset x (sym (ap (λ (h : NameState). h.version) (same x)) ∙ is);
  touched = λ x at low all. subst (λ (h : NameState). h.touched ≤ at) (sym (same x)) (know.touched x at low all);
}

-- so it is where each BIN's last image is that of a BIN that was over the name
pub know_come : (es : Placed) (base : ℕ) (old new : List NodeRow) (held : Name → NameState) →
    ((x : Name) (e : Name × Node) → IsOver (row_of new 0) x e → (w : Name × Node) × IsOver (row_of old 0) x w × (e.1.last ≡ w.1.last)) → KnowImages es base old held → KnowImages es base new held
know_come es base old new held from know = record {
  shown = λ x e at over is. let w = from x e over in know.shown x w.0 at w.1 (sym w.2 ∙ is);
  unset = know.unset;
  touched = know.touched;
}

-- the entries in front of others
pub all_front : (next : ℕ) (es more : Placed) → AllByRecursion (λ p. p.0 < next) (es ++ more) → AllByRecursion (λ p. p.0 < next) es
all_front next [] more all = tt
all_front next (p ∷ es) more all = (all.0, all_front next es more all.1)

-- an entry stands before what is behind all entries
pub entry_before : (next : ℕ) (es : Placed) (at : ℕ) → AllByRecursion (λ p. p.0 < next) es → IsSome (entry_at es at) → at < next
entry_before next [] at all some = absurd (true≢false (sym some))
entry_before next (p ∷ es) at all some = by_test (p.0 == at) refl some (λ there. entry_before next es at all.1 there)
  where
    by_test : (t : Bool) → (p.0 == at) ≡ t → IsSome (cond t (Some p.1) (entry_at es at)) → (IsSome (entry_at es at) → at < next) → at < next
    by_test true is there rest = subst (λ (n : ℕ). n < next) (eqb-true p.0 at is) all.0
    by_test false is there rest = rest there

-- so does an image of a BIN
pub bin_before : (next : ℕ) (es : Placed) (at : ℕ) → AllByRecursion (λ p. p.0 < next) es → IsBin (entry_at es at) → at < next
bin_before next es at all bin = entry_before next es at all (by_entry (entry_at es at) bin)
  where
    by_entry : (o : Option Entry) → IsBin o → IsSome o
    by_entry None h = absurd h
    by_entry (Some e) h = refl
