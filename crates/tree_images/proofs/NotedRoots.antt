-- What a checkpoint noted, where nodes are split, a tree is made, or a checkpoint begins.
use Rattle.std.proofs.Common.{◌≡◌, ◌<◌, ◌-◌, ◌==◌, ◌&&◌, ◌||◌, ◌⊎◌, inl, inr, ℕ, zero, suc, Bool, true, false, not, cond, List, [], ◌∷◌, Option, None, Some, IsSome, is_some, length, refl, ap, sym, subst, ◌∙◌, arith, is_eq, eq-eqb}
use Rattle.std.specs.Prelude.{IfSome}
use Rattle.std.specs.List.{list_any}
use Rattle.std.specs.Map.{keys_of}
use Rattle.std.proofs.lemmas.Bool.{true≢false, cases_order}
use Rattle.std.proofs.lemmas.Option.{none-some, same_Some}
use Rattle.je_order.specs.Order.{name_cmp}
use Rattle.je_order.specs.declared.name.Name.{Name}
use Rattle.record_map.specs.Cells.{value_at}
use Rattle.record_map.proofs.NameLaws.{same_or_other, name_same, other_stays, same_gets}
use Rattle.tree_nodes.specs.declared.node.Node.{Node}
use Rattle.tree_nodes.specs.Nodes.{NodeRow, IsOver, is_dirty, least, noted_as}
use Rattle.tree_nodes.specs.Levels.{row_of, AreParts}
use Rattle.tree_nodes.specs.Lows.{low_up_to}
use Rattle.tree_nodes.specs.Noted.{AreNoted, is_low_over, is_to_note}
use Rattle.tree_nodes.proofs.LevelLaws.{is_level}
use Rattle.tree_nodes.proofs.NoteLaws.{noted_keys, noted_was}
use Rattle.db_tree.specs.declared.node_at.NodeAt.{NodeAt}
use Rattle.db_tree.specs.declared.node_split.NodeSplit.{NodeSplit}
use Rattle.db_tree.specs.NodeSteps.{IsOneNode}
use Rattle.db_tree.specs.Notes.{is_noted_at, is_noted_one}
use Rattle.db_tree.specs.Splitting.{AreGrown, AreSplit, IsRaisedFrom}
use Rattle.db_tree.specs.Waiting.{is_among}
use Rattle.db_tree.proofs.Order.{up_trans}
use Rattle.db_tree.proofs.Over.{over_low, over_once, there_is}
use Rattle.tree_images.specs.Notes.{NotesHold}
use Rattle.tree_images.proofs.Grown.{height_split}
use Rattle.tree_images.proofs.LateMarks.{and_true, or_left, or_right}
use Rattle.tree_images.proofs.NodeSteps.{some_there}
use Rattle.tree_images.proofs.NotedNodes.{WasNode, notes_split, notes_weaker, some_weaker, splits_was}
use Rattle.tree_images.proofs.Paths.{low_is_over}
use Rattle.tree_images.proofs.Splits.{row_raised}

each_passes : (o : Option ℕ) (P : ℕ → Type 0) → ((n : ℕ) → P n) → IfSome o P
each_passes None P all = tt
each_passes (Some n) P all = all n

none_passes : (o : Option ℕ) (P : ℕ → Type 0) → o ≡ None → IfSome o P
none_passes None P none = tt
none_passes (Some n) P none = absurd (none-some n (sym none))

-- ---- a new root

module _ (late : ℕ → Bool) (due : List NodeAt) (splits : List NodeSplit) (old mid new : List NodeRow) (was : AreParts old) (now : AreParts new)
    (top : (level : ℕ) (low : Name) → suc level ≡ length old → IsSome (value_at low (row_of old level)) → low ≡ least)
    (new_top : (level : ℕ) (low : Name) → suc level ≡ length new → IsSome (value_at low (row_of new level)) → low ≡ least)
    (among : (level : ℕ) → suc level ≡ length new → is_among due level least ≡ true)
    (split : AreSplit 0 splits old mid) (root : IsRaisedFrom true mid new) (notes : NotesHold (λ level x. late) mid) where
  abbrev passes : ℕ → Name → ℕ → Bool
  passes level x lsn = (is_among due level x && (suc level == length new)) || late lsn

  height : length mid ≡ length old
  height = height_split splits old mid split

  -- each level is an old one, or the root's
  level_cases_of : (k : ℕ) → k < length new → (k < length mid) ⊎ (suc k ≡ length new)
  level_cases_of k lt = by_order (cases_order k (length mid))
    where
      up : length new ≡ suc (length mid)
      up = root.1

      by_order : (k ≡ length mid) ⊎ ((k < length mid) ⊎ (length mid < k)) → (k < length mid) ⊎ (suc k ≡ length new)
      by_order (inl same) = inr (omega (arith, same, up))
      by_order (inr (inl less)) = inl less
      by_order (inr (inr more)) = absurd (omega (arith, more, lt, up))

  is_there : (k : ℕ) (x : Name) (n : Node) → value_at x (row_of new k) ≡ Some n → k < length new
  is_there k x n there = is_level new k x (there_is (row_of new k) x n there)

  root_passes : (level : ℕ) (low : Name) (n : Node) → value_at low (row_of new level) ≡ Some n → suc level ≡ length new → (lsn : ℕ) → passes level low lsn ≡ true
  root_passes level low n there at lsn =
      or_left (is_among due level low && (suc level == length new)) (late lsn)
      (and_true (is_among due level low) (suc level == length new)
      (subst (λ (y : Name). is_among due level y ≡ true) (sym (new_top level low at (there_is (row_of new level) low n there))) (among level at))
      (eq-eqb (suc level) (length new) at))

  marks : (level : ℕ) (low : Name) (n : Node) → value_at low (row_of new level) ≡ Some n → n.noted ≡ false → (level < length mid) ⊎ (suc level ≡ length new) → IfSome n.from (λ lsn. passes level low lsn ≡ true)
  marks level low n there unnoted (inl lt) =
      some_weaker n.from (λ lsn. late lsn ≡ true) (λ lsn. passes level low lsn ≡ true) (λ lsn h. or_right (is_among due level low && (suc level == length new)) (late lsn) h)
      (notes.marks level low n (ap (value_at low) (sym (row_raised true mid new level root lt)) ∙ there) unnoted)
  marks level low n there unnoted (inr at) = each_passes n.from (λ lsn. passes level low lsn ≡ true) (root_passes level low n there at)

  -- of the old root's level each node is noted as the old root was
  as_root : (k : ℕ) (x : Name) (c : Name × Node) (r : Node) → suc k ≡ length old → IsOver (row_of mid k) x c → value_at least (row_of mid k) ≡ Some r → c.1.noted ≡ r.noted
  as_root k x c r at over there =
      let a : WasNode (row_of old k) x c.1 = splits_was 0 splits old mid split k x c over in
      let b : WasNode (row_of old k) least r = splits_was 0 splits old mid split k least (least, r) (over_low (row_of mid k) least r there) in
      let a_low : a.was.0 ≡ least = top k a.was.0 at (there_is (row_of old k) a.was.0 a.was.1 a.over.there) in
      let b_low : b.was.0 ≡ least = top k b.was.0 at (there_is (row_of old k) b.was.0 b.was.1 b.over.there) in
      a.noted
      ∙ ap (λ (n : Node). n.noted) (same_Some a.was.1 b.was.1 (sym a.over.there ∙ ap (λ (y : Name). value_at y (row_of old k)) (a_low ∙ sym b_low) ∙ b.over.there))
      ∙ sym b.noted

  pub root_notes : NotesHold passes new
  root_notes = record { marks = λ level low n there unnoted. marks level low n there unnoted (level_cases_of level (is_there level low n there)); above = λ level x e c upper lower noted. above level x e c upper lower noted (level_cases_of (suc level) (is_there (suc level) e.0 e.1 upper.there)) }
    where
      above : (level : ℕ) (x : Name) (e c : Name × Node) → IsOver (row_of new (suc level)) x e → IsOver (row_of new level) x c → c.1.noted ≡ true → (suc level < length mid) ⊎ (suc (suc level) ≡ length new) → e.1.noted ≡ true
      above level x e c upper lower noted (inl lt) =
          notes.above level x e c (subst (λ (row : NodeRow). IsOver row x e) (row_raised true mid new (suc level) root lt) upper)
          (subst (λ (row : NodeRow). IsOver row x c) (row_raised true mid new level root (omega (arith, lt))) lower) noted
      above level x e c upper lower noted (inr at) =
          ap is_noted_one (sym root_there) ∙ root_noted ∙ ap is_noted_one old_root.1 ∙ sym (as_root level x c old_root.0 (omega (arith, here, height)) (subst (λ (row : NodeRow). IsOver row x c) row lower) old_root.1) ∙ noted
        where
          here : suc level ≡ length mid
          here = (let up : length new ≡ suc (length mid) = root.1 in omega (arith, at, up))

          row : row_of new level ≡ row_of mid level
          row = row_raised true mid new level root (omega (arith, here))

          old_root : (r : Node) × (value_at least (row_of mid level) ≡ Some r)
          old_root = some_there (row_of mid level) least (subst (λ (l : NodeRow). IsSome (value_at least l)) row (now.parts level (let up : length new ≡ suc (length mid) = root.1 in omega (arith, here, up))))

          root_there : value_at least (row_of new (suc level)) ≡ Some e.1
          root_there = subst (λ (y : Name). value_at y (row_of new (suc level)) ≡ Some e.1) (new_top (suc level) e.0 at (there_is (row_of new (suc level)) e.0 e.1 upper.there)) upper.there

          root_noted : is_noted_one (value_at least (row_of new (suc level))) ≡ is_noted_one (value_at least (row_of mid level))
          root_noted =
              ap (λ (k : ℕ). is_noted_at new k least) here ∙ root.3 ∙ ap (λ (k : ℕ). is_noted_at mid k least) (let e : length mid - 1 ≡ level = omega (arith, here) in e)

-- nodes were split, and a root was put above them, or not
pub notes_grown : (late : ℕ → Bool) (due : List NodeAt) (splits : List NodeSplit) (raised : Bool) (old new : List NodeRow) → AreParts old → AreParts new → AreGrown splits raised old new →
    ((level : ℕ) (low : Name) → suc level ≡ length old → IsSome (value_at low (row_of old level)) → low ≡ least) → ((level : ℕ) (low : Name) → suc level ≡ length new → IsSome (value_at low (row_of new level)) → low ≡ least) →
    (raised ≡ true → (level : ℕ) → suc level ≡ length new → is_among due level least ≡ true) → NotesHold (λ level x. late) old →
    NotesHold (λ level x lsn. (is_among due level x && (suc level == length new)) || late lsn) new
notes_grown late due splits true old new was now grown top new_top among notes =
    root_notes late due splits old grown.mid new was now top new_top (among refl) grown.split grown.root (notes_split (λ k. late) splits old grown.mid grown.split notes)
notes_grown late due splits false old new was now grown top new_top among notes =
    notes_weaker (λ level x. late) (λ level x lsn. (is_among due level x && (suc level == length new)) || late lsn) new (λ level x lsn h. or_right (is_among due level x && (suc level == length new)) (late lsn) h)
    (subst (NotesHold (λ level x. late)) (sym grown.root) (notes_split (λ k. late) splits old grown.mid grown.split notes))

-- ---- a new tree

pub notes_one_node : (passes : ℕ → Name → ℕ → Bool) (rows : List NodeRow) (number : ℕ) → IsOneNode rows number → NotesHold passes rows
notes_one_node passes rows number one = record { marks = λ level low n there unnoted. marks level low n there; above = λ level x e c upper lower noted. no_level level e.0 e.1 upper.there }
  where
    no_level : {A : Type 0} (level : ℕ) (low : Name) (n : Node) → value_at low (row_of rows (suc level)) ≡ Some n → A
    no_level level low n there = let height : length rows ≡ 1 = one.height in let lt = is_level rows (suc level) low (there_is (row_of rows (suc level)) low n there) in absurd (omega (arith, height, lt))

    marks : (level : ℕ) (low : Name) (n : Node) → value_at low (row_of rows level) ≡ Some n → IfSome n.from (λ lsn. passes level low lsn ≡ true)
    marks zero low n there = by_test (is_eq (name_cmp least low)) (sym (one.put low) ∙ there)
      where
        by_test : (t : Bool) → cond t (Some one.root) None ≡ Some n → IfSome n.from (λ lsn. passes 0 low lsn ≡ true)
        by_test true is = none_passes n.from (λ lsn. passes 0 low lsn ≡ true) (sym (ap (λ (o : Node). o.from) (same_Some one.root n is)) ∙ one.from)
        by_test false is = absurd (none-some n is)
    marks (suc level) low n there = no_level level low n there

-- ---- a checkpoint begins

either_false : (a b : Bool) → (a || b) ≡ false → (a ≡ false) × (b ≡ false)
either_false true b h = absurd (true≢false h)
either_false false b h = (refl, h)

no_mark : (n : Node) → is_dirty n ≡ false → n.from ≡ None
no_mark n clean = by_from n.from (either_false (n.forced || not (is_some n.last)) (is_some n.from) clean).1
  where
    by_from : (o : Option ℕ) → is_some o ≡ false → o ≡ None
    by_from None none = refl
    by_from (Some lsn) none = absurd (true≢false none)

to_note_clean : (rows : List NodeRow) (level : ℕ) (e : Name × Node) → is_to_note rows level e ≡ false → is_dirty e.1 ≡ false
to_note_clean rows zero e not_noted = not_noted
to_note_clean rows (suc k) e not_noted = (either_false (is_dirty e.1) (list_any (λ c. is_to_note rows k c && is_low_over (row_of rows (suc k)) c.0 e.0) (row_of rows k)) not_noted).0

pub any_at : (p : Name × Node → Bool) (row : NodeRow) (x : Name) (n : Node) → value_at x row ≡ Some n → p (x, n) ≡ true → list_any p row ≡ true
any_at p [] x n there passed = absurd (none-some n there)
any_at p (e ∷ row) x n there passed = by_name (same_or_other x e.0) (λ further. any_at p row x n further passed)
  where
    by_name : (x ≡ e.0) ⊎ (is_eq (name_cmp x e.0) ≡ false) → (value_at x row ≡ Some n → list_any p row ≡ true) → list_any p (e ∷ row) ≡ true
    by_name (inr apart) next = or_right (p e) (list_any p row) (next (sym (other_stays x e.0 (Some e.1) (value_at x row) apart) ∙ there))
    by_name (inl same) next =
        let is : e.1 ≡ n = same_Some e.1 n (sym (same_gets e.0 (Some e.1) (value_at e.0 row)) ∙ subst (λ (y : Name). value_at y (e ∷ row) ≡ Some n) same there) in
        or_left (p e) (list_any p row) (subst (λ (y : Name). p (y, e.1) ≡ true) same (subst (λ (m : Node). p (x, m) ≡ true) (sym is) passed))

module _ (passes : ℕ → Name → ℕ → Bool) (old new : List NodeRow) (now : AreParts new) (are : AreNoted old new) where
  was : (level : ℕ) (x : Name) (n : Node) → value_at x (row_of new level) ≡ Some n → (m : Node) × (value_at x (row_of old level) ≡ Some m) × (n ≡ noted_as (is_to_note old level (x, m)) m)
  was level x n there = noted_was (is_to_note old level) (row_of old level) x n (sym (ap (value_at x) (are.each level)) ∙ there)

  keys : (level : ℕ) → keys_of (row_of new level) ≡ keys_of (row_of old level)
  keys level = ap (λ (row : NodeRow). keys_of row) (are.each level) ∙ noted_keys (is_to_note old level) (row_of old level)

  above : (level : ℕ) (x : Name) (e c : Name × Node) → IsOver (row_of new (suc level)) x e → IsOver (row_of new level) x c → c.1.noted ≡ true → e.1.noted ≡ true
  above level x e c upper lower noted = ap (λ (n : Node). n.noted) p.2 ∙ or_right (is_dirty p.0) (list_any child (row_of old level)) (any_at child (row_of old level) c.0 q.0 q.1 (and_true (is_to_note old level (c.0, q.0)) (is_low_over (row_of old (suc level)) c.0 e.0) to_note over))
    where
      p : (m : Node) × (value_at e.0 (row_of old (suc level)) ≡ Some m) × (e.1 ≡ noted_as (is_to_note old (suc level) (e.0, m)) m)
      p = was (suc level) e.0 e.1 upper.there

      q : (m : Node) × (value_at c.0 (row_of old level) ≡ Some m) × (c.1 ≡ noted_as (is_to_note old level (c.0, m)) m)
      q = was level c.0 c.1 lower.there

      child : Name × Node → Bool
      child n = is_to_note old level n && is_low_over (row_of old (suc level)) n.0 e.0

      to_note : is_to_note old level (c.0, q.0) ≡ true
      to_note = sym (ap (λ (n : Node). n.noted) q.2) ∙ noted

      over_child : IsOver (row_of new (suc level)) c.0 e
      over_child = record {
        there = upper.there;
        below = lower.most e.0 (now.nested level e.0 (there_is (row_of new (suc level)) e.0 e.1 upper.there)) upper.below;
        most = λ r some up. upper.most r some (up_trans r c.0 x up lower.below);
      }

      found : (node : Node) × IsOver (row_of new (suc level)) c.0 (low_up_to c.0 (keys_of (row_of new (suc level))), node)
      found = low_is_over (row_of new (suc level)) c.0 (now.rising (suc level)) (now.parts (suc level) (is_level new (suc level) e.0 (there_is (row_of new (suc level)) e.0 e.1 upper.there)))

      over : is_low_over (row_of old (suc level)) c.0 e.0 ≡ true
      over =
          ap (λ (names : List Name). is_eq (name_cmp (low_up_to c.0 names) e.0)) (sym (keys (suc level)))
          ∙ ap (λ (y : Name). is_eq (name_cmp y e.0)) (over_once (row_of new (suc level)) c.0 (low_up_to c.0 (keys_of (row_of new (suc level))), found.0) e found.1 over_child)
          ∙ ap is_eq (name_same e.0)

  -- each node that is not noted is clean
  pub notes_begun : NotesHold passes new
  notes_begun = record { marks = λ level x n there unnoted. marks level x n (was level x n there) unnoted; above = above }
    where
      marks : (level : ℕ) (x : Name) (n : Node) → (m : Node) × (value_at x (row_of old level) ≡ Some m) × (n ≡ noted_as (is_to_note old level (x, m)) m) → n.noted ≡ false → IfSome n.from (λ lsn. passes level x lsn ≡ true)
      marks level x n w unnoted =
          none_passes n.from (λ lsn. passes level x lsn ≡ true)
          (ap (λ (o : Node). o.from) w.2 ∙ no_mark w.0 (to_note_clean old level (x, w.0) (sym (ap (λ (o : Node). o.noted) w.2) ∙ unnoted)))
