-- Trees that are made of the images that were read.
use Rattle.std.specs.Prelude.{nat_lt}
use Rattle.std.proofs.Common.{◌≡◌, ◌⊎◌, ◌<◌, ◌≤◌, ◌&&◌, not, ℕ, suc, List, Bool, true, false, cond, Option, None, Some, map, refl, ap, ap₂, sym, subst, ◌∙◌, inl, inr, arith, length}
use Rattle.std.specs.Option.{option_and_then}
use Rattle.std.specs.List.{AllByRecursion}
use Rattle.std.proofs.lemmas.Bool.{true≢false}
use Rattle.std.proofs.lemmas.Option.{none-some, same_Some}
use Rattle.je_order.specs.Edges.{is_below, is_between}
use Rattle.je_order.specs.Edges.Edge.{At}
use Rattle.je_order.specs.declared.name.Name.{Name}
use Rattle.log_entry.specs.declared.child_slot.ChildSlot.{ChildSlot}
use Rattle.log_entry.specs.declared.entry.Entry.{Entry}
use Rattle.record_map.specs.Cells.{fresh, value_at, upper_edge}
use Rattle.tree_nodes.specs.declared.node.Node.{Node}
use Rattle.tree_nodes.specs.Nodes.{NodeRow, IsOver, IsUpTo, low_behind}
use Rattle.tree_nodes.specs.Levels.{row_of, AreParts}
use Rattle.log_trees.specs.Bounds.{Child, children}
use Rattle.log_trees.specs.Sound.{Home}
use Rattle.log_trees.specs.Building.{child_shown}
use Rattle.node_core.specs.declared.slot.Version.{Version}
use Rattle.node_core.specs.declared.slot.Version.TheVariants.{Unset}
use Rattle.record_map.specs.declared.cell.Cell.{Cell}
use Rattle.db_tree.specs.Content.{name_state, held_under, kept_by, shown_held}
use Rattle.db_tree.specs.Images.{Placed, entry_at, child_in, child_over, last_says, shows, shown, version_imaged, IsRead}
use Rattle.db_tree.proofs.Contents.{within}
use Rattle.db_tree.proofs.NodesExact.{forced_exact}
use Rattle.db_tree.proofs.ReadExact.{read_exact}
use Rattle.db_tree.proofs.Over.{over_once}
use Rattle.db_tree.proofs.Says.{entry_before}
use Rattle.db_tree.proofs.Within.{over_within}
use Rattle.db_tree.specs.Trees.{IsBehind, KnowImages}
use Rattle.tree_images.specs.ReadLaws.{AreAsRead, IsChildNode, IsAsRead, ReadTreesFit, IsUnread, UnreadTreesFit}
use Rattle.tree_images.proofs.Images.{over_child, images_are_read}
use Rattle.tree_images.proofs.Neighbours.{same_within, sides_of}

-- the child that an image shows for a name within its bounds, of what holds of all its children
record IsFor (Q : Child → Type 0) (x : Name) (child : ℕ) : Type 0 where
  found : Child
  holds : Q found
  at : child ≡ found.at
  from : IsUpTo found.low x
  upto : is_below (upper_edge found.high) x ≡ true

over_for : (Q : Child → Type 0) (x low : Name) (high : Option Name) (slots : List ChildSlot) → 0 < length slots → is_between (At low) (upper_edge high) x ≡ true → AllByRecursion Q (children low high (map child_shown slots)) →
    (child : ℕ) × (child_over x slots ≡ Some child) × IsFor Q x child
over_for Q x low high slots some inside all =
    let over = over_child Q x low high slots some (same_within low high x ∙ inside) all in
    let is = over.2 in
    let sides = sides_of is.found.low x is.found.high (sym (same_within is.found.low is.found.high x) ∙ is.inside) in
    (over.0, over.1, record { found = is.found; holds = is.holds; at = is.at; from = sides.0; upto = sides.1 })

module _ (es : Placed) (home : ℕ → Home) (last d : ℕ) (rows : List NodeRow) (parts : AreParts rows) (each : (level : ℕ) (low : Name) (n : Node) → value_at low (row_of rows level) ≡ Some n → IsAsRead es home last d rows level low n) where
  -- an IN's image shows what its child's does
  pub inner_same : (k : ℕ) (x : Name) (e c : Name × Node) → IsOver (row_of rows (suc k)) x e → IsOver (row_of rows k) x c → shown es (suc k) e.1.last x ≡ shown es k c.1.last x
  inner_same k x e c upper lower =
      let a : IsAsRead es home last d rows (suc k) e.0 e.1 = each (suc k) e.0 e.1 upper.there in
      let found = over_for (IsChildNode (row_of rows k)) x e.0 (low_behind e.0 (row_of rows (suc k))) a.sound.slots a.sound.entry.4 (within (row_of rows (suc k)) x e upper) a.below in
      by_child a.at a.image (ap (λ (o : Option Entry). option_and_then (λ child. shows es k child x) (child_in o x)) a.sound.image ∙ ap (option_and_then (λ child. shows es k child x)) found.1) found.2
    where
      by_child : {child : ℕ} (at : ℕ) → e.1.last ≡ Some at → shows es (suc k) at x ≡ shows es k child x → IsFor (IsChildNode (row_of rows k)) x child → shown es (suc k) e.1.last x ≡ shown es k c.1.last x
      by_child {child} at image showing is_for =
          let node : IsChildNode (row_of rows k) is_for.found = is_for.holds in
          let inside : is_between (At is_for.found.low) (upper_edge (low_behind is_for.found.low (row_of rows k))) x ≡ true =
          ap₂ (λ (a : Bool) (o : Option Name). not a && is_below (upper_edge o) x) is_for.from node.behind ∙ is_for.upto in
          let over : IsOver (row_of rows k) x (is_for.found.low, node.node) = over_within (row_of rows k) x is_for.found.low node.node (parts.rising k) node.there inside in
          let names : c.0 ≡ is_for.found.low = over_once (row_of rows k) x c (is_for.found.low, node.node) lower over in
          let same : c.1 ≡ node.node = same_Some c.1 node.node (sym lower.there ∙ ap (λ (y : Name). value_at y (row_of rows k)) names ∙ node.there) in
          ap (λ (o : Option ℕ). shown es (suc k) o x) image
          ∙ showing
          ∙ ap (λ (i : ℕ). shows es k i x) is_for.at
          ∙ sym (ap (λ (n : Node). shown es k n.last x) same ∙ ap (λ (o : Option ℕ). shown es k o x) node.last)

  -- and names its child's last image
  pub named : (k : ℕ) (x : Name) (e c : Name × Node) (at : ℕ) → IsOver (row_of rows (suc k)) x e → IsOver (row_of rows k) x c → e.1.last ≡ Some at → child_in (entry_at es at) x ≡ c.1.last
  named k x e c at upper lower is =
      let a : IsAsRead es home last d rows (suc k) e.0 e.1 = each (suc k) e.0 e.1 upper.there in
      let found = over_for (IsChildNode (row_of rows k)) x e.0 (low_behind e.0 (row_of rows (suc k))) a.sound.slots a.sound.entry.4 (within (row_of rows (suc k)) x e upper) a.below in
      by_child (ap (λ (i : ℕ). child_in (entry_at es i) x) (same_Some at a.at (sym is ∙ a.image)) ∙ ap (λ (o : Option Entry). child_in o x) a.sound.image ∙ found.1) found.2
    where
      by_child : {child : ℕ} → child_in (entry_at es at) x ≡ Some child → IsFor (IsChildNode (row_of rows k)) x child → child_in (entry_at es at) x ≡ c.1.last
      by_child {child} naming is_for =
          let node : IsChildNode (row_of rows k) is_for.found = is_for.holds in
          let inside : is_between (At is_for.found.low) (upper_edge (low_behind is_for.found.low (row_of rows k))) x ≡ true =
          ap₂ (λ (a : Bool) (o : Option Name). not a && is_below (upper_edge o) x) is_for.from node.behind ∙ is_for.upto in
          let over : IsOver (row_of rows k) x (is_for.found.low, node.node) = over_within (row_of rows k) x is_for.found.low node.node (parts.rising k) node.there inside in
          let names : c.0 ≡ is_for.found.low = over_once (row_of rows k) x c (is_for.found.low, node.node) lower over in
          let same : c.1 ≡ node.node = same_Some c.1 node.node (sym lower.there ∙ ap (λ (y : Name). value_at y (row_of rows k)) names ∙ node.there) in
          naming ∙ ap (λ (i : ℕ). Some i) is_for.at ∙ sym (ap (λ (n : Node). n.last) same ∙ node.last)

-- ---- cells

-- what was read knows what the images say that it was read from
know_read : (es : Placed) (base : ℕ) (rows : List NodeRow) (cells : List (Name × Cell)) → AreAsRead es cells →
    ((x : Name) (e : Name × Node) (at : ℕ) → IsOver (row_of rows 0) x e → e.1.last ≡ Some at → version_imaged (entry_at es at) x ≡ (kept_by cells x).version) → KnowImages es base rows (kept_by cells)
know_read es base rows cells read held = record {
  shown = λ x e at over is. held x e at over is ∙ sym (shown_at x at (value_at x cells) refl);
  unset = λ x is. unset_at x (value_at x cells) refl is;
  touched = λ x next low all. touched_at x next all (value_at x cells) refl;
}
  where
    same_shown : (t : Bool) (a b : Version) → a ≡ b → cond t a b ≡ b
    same_shown true a b is = is
    same_shown false a b is = refl

    shown_at : (x : Name) (at : ℕ) (o : Option Cell) → value_at x cells ≡ o → shown_held at (held_under o) ≡ (held_under o).version
    shown_at x at None there = same_shown (nat_lt at 0) Unset Unset refl
    shown_at x at (Some cell) there = same_shown (nat_lt at cell.touched) cell.shown cell.version (read.shown x cell there)

    unset_at : (x : Name) (o : Option Cell) → value_at x cells ≡ o → (held_under o).version ≡ Unset → held_under o ≡ name_state fresh
    unset_at x None there is = refl
    unset_at x (Some cell) there is = absurd (read.committed x cell there is)

    touched_at : (x : Name) (next : ℕ) → AllByRecursion (λ p. p.0 < next) es → (o : Option Cell) → value_at x cells ≡ o → (held_under o).touched ≤ next
    touched_at x next all None there = omega arith
    touched_at x next all (Some cell) there = let less : cell.touched < next = entry_before next es cell.touched all (read.touched x cell there) in omega (arith, less)

-- ---- trees

pub read_fit : ReadTreesFit
read_fit es base newest home last d rows cells parts top each up recorded as_read held = record {
  tree = record {
    reads = λ level x e at over is. reads level x e at over (each level e.0 e.1 over.there) is;
    leaf = λ x e over. leaf x e over (each 0 e.0 e.1 over.there);
    inner = λ level x e c upper lower. inl (inner_same es home last d rows parts each level x e c upper lower);
    names = λ level x e c at upper lower is. inl (named es home last d rows parts each level x e c at upper lower is);
    know = know_read es base rows cells as_read held;
  };
  imaged = record {
    numbers = λ level low n there. (let a : IsAsRead es home last d rows level low n = each level low n there in a.own);
    images = λ level low n there waits among. (let a : IsAsRead es home last d rows level low n = each level low n there in inl (a.at, a.image, a.sound));
    top = top;
  };
  recorded = recorded;
  exact = λ low n there out. (let a : IsAsRead es home last d rows 0 low n = each 0 low n there in read_exact (row_of rows 0) cells low n a.at up as_read.shown a.still a.image a.unmarked);
}
  where
    reads : (level : ℕ) (x : Name) (e : Name × Node) (at : ℕ) → IsOver (row_of rows level) x e → IsAsRead es home last d rows level e.0 e.1 → e.1.last ≡ Some at → IsRead es level at x
    reads level x e at over a is =
        subst (λ (i : ℕ). IsRead es level i x) (same_Some a.at at (sym a.image ∙ is)) (images_are_read es home last d level e.0 (low_behind e.0 (row_of rows level)) a.at x a.sound (same_within e.0 (low_behind e.0 (row_of rows level)) x ∙ within (row_of rows level) x e over))

    leaf : (x : Name) (e : Name × Node) → IsOver (row_of rows 0) x e → IsAsRead es home last d rows 0 e.0 e.1 → (last_says es e.1.last x ≡ (kept_by cells x).version) ⊎ IsBehind base newest e.1 x
    leaf x e over a = inl (ap (λ (o : Option ℕ). last_says es o x) a.image ∙ held x e a.at over a.image)

-- a tree whose nodes all wait
pub unread_fit : UnreadTreesFit
unread_fit es base newest home last d rows cells top each recorded as_read = record {
  tree = record {
    reads = λ level x e at over is. absurd (none-some at (sym (each level e.0 e.1 over.there).image ∙ is));
    leaf = λ x e over. inr (behind (each 0 e.0 e.1 over.there));
    inner = λ level x e c upper lower. inr (behind (each (suc level) e.0 e.1 upper.there));
    names = λ level x e c at upper lower is. (let u = each (suc level) e.0 e.1 upper.there in inr (u.from, u.marked));
    know = know_read es base rows cells as_read (λ x e at over is. absurd (none-some at (sym (each 0 e.0 e.1 over.there).image ∙ is)));
  };
  imaged = record {
    numbers = λ level low n there. (each level low n there).own;
    images = λ level low n there waits among. absurd (true≢false (sym (each level low n there).waits ∙ waits));
    top = top;
  };
  recorded = recorded;
  exact = λ low n there out. forced_exact (row_of rows 0) cells low n (each 0 low n there).waits;
}
  where
    behind : {level : ℕ} {low x : Name} {n : Node} → IsUnread home last d base level low n → IsBehind base newest n x
    behind u = (u.from, u.marked, inr u.older)
