-- A tree whose nodes are those that the images below its root show fits the log.
use Rattle.std.proofs.Common.{◌≡◌, ◌≤◌, ◌<◌, ◌⊎◌, ℕ, zero, suc, Bool, true, false, List, [], ◌∷◌, Option, None, Some, IsSome, map, length, refl, ap, sym, subst, ◌∙◌, inl, inr, arith, is_lt, Ordering, Less, Equal, Greater}
use Rattle.std.specs.Prelude.{IfSome, option_map}
use Rattle.std.proofs.lemmas.Bool.{true≢false, cases_order, eqb-true}
use Rattle.std.proofs.lemmas.Option.{none-some, same_Some}
use Rattle.std.specs.List.{AllByRecursion}
use Rattle.je_order.specs.Order.{name_cmp}
use Rattle.je_order.specs.declared.name.Name.{Name}
use Rattle.je_order.proofs.Lists.{all_weaker}
use Rattle.node_core.specs.declared.node.Node.{Node as Shown}
use Rattle.record_map.specs.Cells.{value_at}
use Rattle.record_map.proofs.NameLaws.{up_from_back}
use Rattle.tree_nodes.proofs.LevelLaws.{is_level}
use Rattle.log_entry.specs.Body.{IsEntry}
use Rattle.log_entry.specs.declared.child_slot.ChildSlot.{ChildSlot}
use Rattle.record_tree.specs.LoadedNodes.{LoadedNode, node_read, least}
use Rattle.tree_nodes.specs.declared.node.Node.{Node}
use Rattle.tree_nodes.specs.Nodes.{NodeRow, low_behind, IsUpTo}
use Rattle.tree_nodes.specs.Levels.{row_of, AreParts}
use Rattle.log_trees.specs.Images.{NamedLsn, slots_shown, node_at}
use Rattle.log_trees.specs.Building.{child_shown}
use Rattle.log_trees.specs.Bounds.{is_below, is_within, Child, children}
use Rattle.log_trees.specs.Sound.{AreUp, Home, at_home, IsTreeAt}
use Rattle.log_trees.proofs.Bounds.{less_of, within_parts, within_from, not_below_itself, low_turned, within_next, none_below_least}
use Rattle.log_trees.proofs.Cut.{side_by_side, cut_slots, children_cut, cut_within, cut_up, cut_some}
use Rattle.log_trees.proofs.Shown.{child_slots_of, right_children}
use Rattle.log_meaning.specs.ReadNodes.{is_delta}
use Rattle.db_tree.specs.Images.{Placed}
use Rattle.db_tree.specs.Loading.{loaded_by, loaded_in}
use Rattle.tree_images.specs.Sound.{IsNumber}
use Rattle.tree_images.specs.ReadLaws.{IsChildNode, IsAsRead, IsUnread}
use Rattle.tree_images.proofs.Neighbours.{next_is, none_is}
use Rattle.tree_images.proofs.ReadNodes.{ShowsNodes, IsShown, slot_less}
use Rattle.tree_images.proofs.ReadImages.{IsInEntry, in_entry, in_shown, image_entry, entry_holds, sound, slots_of_sound}

-- ---- nodes of levels

some_there : (row : NodeRow) (low : Name) → IsSome (option_map loaded_by (value_at low row)) → IsSome (value_at low row)
some_there row low some = by_option (value_at low row) some
  where
    by_option : (o : Option Node) → IsSome (option_map loaded_by o) → IsSome o
    by_option None h = h
    by_option (Some n) h = refl

pub there_some : (row : NodeRow) (low : Name) → IsSome (value_at low row) → IsSome (option_map loaded_by (value_at low row))
there_some row low some = by_option (value_at low row) some
  where
    by_option : (o : Option Node) → IsSome o → IsSome (option_map loaded_by o)
    by_option None h = h
    by_option (Some n) h = refl

-- a node that is there as it was read
pub there_as : (o : Option Node) (l : LoadedNode) → option_map loaded_by o ≡ Some l → (n : Node) × (o ≡ Some n) × (loaded_by n ≡ l)
there_as None l h = absurd (none-some l h)
there_as (Some n) l h = (n, refl, same_Some (loaded_by n) l h)

number_read : (n : Node) (m at : ℕ) (t : Bool) → loaded_by n ≡ node_read m at t → n.number ≡ m
number_read n m at true e = ap (λ (l : LoadedNode). l.number) e
number_read n m at false e = ap (λ (l : LoadedNode). l.number) e

-- ---- names within the bounds of children

pub find_child : (Q : Child → Type 0) (q low : Name) (high : Option Name) (s : NamedLsn) (slots : List NamedLsn) → AllByRecursion Q (side_by_side low high (s ∷ slots)) → is_within low high q ≡ true →
    (c : Child) × Q c × (is_within c.low c.high q ≡ true)
find_child Q q low high s [] all inside = (record { low = low; high = high; at = s.1 }, all.0, inside)
find_child Q q low high s (t ∷ slots) all inside = by_test (is_lt (name_cmp q t.0)) refl (λ in_next. find_child Q q t.0 high t slots all.1 in_next)
  where
    bounds : (is_lt (name_cmp q low) ≡ false) × (is_below q high ≡ true)
    bounds = within_parts low high q inside

    by_test : (b : Bool) → is_lt (name_cmp q t.0) ≡ b → (is_within t.0 high q ≡ true → (c : Child) × Q c × (is_within c.low c.high q ≡ true)) → (c : Child) × Q c × (is_within c.low c.high q ≡ true)
    by_test true is rest = (record { low = low; high = Some t.0; at = s.1 }, all.0, within_from low (Some t.0) q bounds.0 is)
    by_test false is rest = rest (within_from t.0 high q is bounds.1)

module _ (es : Placed) (keeps : Bool) (most : ℕ) (home : ℕ → Home) (d : ℕ) (rows : List NodeRow) (parts : AreParts rows) (entries : AllByRecursion (λ p. IsEntry p.1) es) where
  abbrev nodes : ℕ → Name → Option LoadedNode
  nodes = loaded_in rows

  -- an upper bound is a low of a level
  abbrev IsBound : ℕ → Option Name → Type 0
  IsBound k high = IfSome high (λ h. IsSome (value_at h (row_of rows k)))

  -- a node of a level with a low: its image and the tree below it
  pub record IsFound (k : ℕ) (low : Name) (high : Option Name) (at : ℕ) : Type 0 where
    pub shown : ShowsNodes es keeps most nodes k low high at
    pub tree : IsTreeAt es (at_home home d) d k low high at
    pub below : is_below low high ≡ true
    pub bound : IsBound k high

  -- its image
  pub top_of : (k : ℕ) (low : Name) (high : Option Name) (at : ℕ) → ShowsNodes es keeps most nodes k low high at → (node : Shown) × IsShown es keeps most nodes k low high at node
  top_of zero low high at s = (s.0, s.1)
  top_of (suc k) low high at s = (s.0, s.1)

  pub low_there : (k : ℕ) (low : Name) (high : Option Name) (at : ℕ) → ShowsNodes es keeps most nodes k low high at → IsSome (value_at low (row_of rows k))
  low_there k low high at s = let top = top_of k low high at s in some_there (row_of rows k) low (subst IsSome (sym top.1.here) refl)

  bound_below : (k : ℕ) (high : Option Name) → IsBound (suc k) high → IsBound k high
  bound_below k None h = h
  bound_below k (Some n) h = parts.nested k n h

  first_there : (k : ℕ) (low : Name) (high : Option Name) (s : NamedLsn) (slots : List NamedLsn) → AllByRecursion (λ (c : Child). ShowsNodes es keeps most nodes k c.low c.high c.at) (side_by_side low high (s ∷ slots)) → IsSome (value_at low (row_of rows k))
  first_there k low high s [] all = low_there k low high s.1 all.0
  first_there k low high s (t ∷ slots) all = low_there k low (Some t.0) s.1 all.0

  all_found : (k : ℕ) (low : Name) (high : Option Name) (slots : List NamedLsn) → is_below low high ≡ true → IsBound k high → AllByRecursion (λ s. is_within low high s.0 ≡ true) slots → AreUp slots →
      AllByRecursion (λ (c : Child). ShowsNodes es keeps most nodes k c.low c.high c.at) (side_by_side low high slots) → AllByRecursion (λ (c : Child). IsTreeAt es (at_home home d) d k c.low c.high c.at) (side_by_side low high slots) →
      AllByRecursion (λ (c : Child). IsFound k c.low c.high c.at) (side_by_side low high slots)
  all_found k low high [] below bound within up shown trees = tt
  all_found k low high (s ∷ []) below bound within up shown trees = (record { shown = shown.0; tree = trees.0; below = below; bound = bound }, tt)
  all_found k low high (s ∷ t ∷ slots) below bound within up shown trees =
      let bounds = within_parts low high t.0 within.1.0 in
      let less = slot_less low s t (within_parts low high s.0 within.0).0 up.0.0 in (
        record { shown = shown.0; tree = trees.0; below = less; bound = first_there k t.0 high t slots shown.1 },
        all_found k t.0 high (t ∷ slots) bounds.1 bound (within_next low high t slots within.1 up.1) up.1 shown.1 trees.1,
      )

  -- the children of a node that was found, side by side
  pub children_found : (k : ℕ) (low : Name) (high : Option Name) (at : ℕ) (f : IsFound (suc k) low high at) →
      AllByRecursion (λ (c : Child). IsFound k c.low c.high c.at) (side_by_side low high (child_slots_of low high f.tree.node))
  children_found k low high at f =
      let is : f.shown.0 ≡ f.tree.node = same_Some f.shown.0 f.tree.node (sym f.shown.1.image ∙ f.tree.image) in
      all_found k low high (child_slots_of low high f.tree.node) f.below (bound_below k high f.bound) (cut_within low high (slots_shown f.tree.node) f.below f.tree.up) (cut_up low high (slots_shown f.tree.node) f.tree.up)
      (subst (AllByRecursion (λ (c : Child). ShowsNodes es keeps most nodes k c.low c.high c.at)) (children_cut low high (slots_shown f.tree.node) f.tree.up)
      (subst (λ (n : Shown). AllByRecursion (λ (c : Child). ShowsNodes es keeps most nodes k c.low c.high c.at) (children low high (slots_shown n))) is f.shown.2))
      (right_children es (at_home home d) d k low high at f.tree)

  -- an IN has a child
  pub some_child : (k : ℕ) (low : Name) (high : Option Name) (at : ℕ) (f : IsFound (suc k) low high at) → (s : NamedLsn) × (slots : List NamedLsn) × (child_slots_of low high f.tree.node ≡ s ∷ slots)
  some_child k low high at f =
      let e : IsInEntry es at (suc (suc k)) f.tree.node = in_entry es at k f.tree.node entries f.tree.image f.tree.level_is in
      by_slots e.slots e.entry.4 (in_shown es at (suc (suc k)) f.tree.node e)
    where
      by_slots : (slots : List ChildSlot) → 0 < length slots → slots_shown f.tree.node ≡ map child_shown slots → (s : NamedLsn) × (rest : List NamedLsn) × (child_slots_of low high f.tree.node ≡ s ∷ rest)
      by_slots [] some is = absurd (omega (arith, some))
      by_slots (s ∷ slots) some is = let left = cut_some low high (child_shown s) (map child_shown slots) in (left.0, left.1, ap (cut_slots low high) is ∙ left.2)

  -- a node of a level with a low within the bounds of one that was found
  abbrev Finds : ℕ → Name → Type 0
  Finds j q = (h : Option Name) × (a : ℕ) × IsFound j q h a

  same_level : (k : ℕ) (low : Name) (high : Option Name) (at j : ℕ) (q : Name) → IsFound k low high at → IsSome (nodes j q) → is_within low high q ≡ true → j ≡ k → Finds j q
  same_level k low high at j q f some inside same =
      let top = top_of k low high at f.shown in
      let is : q ≡ low = top.1.alone q (subst (λ (i : ℕ). IsSome (nodes i q)) same some) inside in
      (high, at, subst (λ (i : ℕ). IsFound i q high at) (sym same) (subst (λ (x : Name). IsFound k x high at) (sym is) f))

  descend : (k : ℕ) (low : Name) (high : Option Name) (at j : ℕ) (q : Name) → IsFound k low high at → j ≤ k → IsSome (nodes j q) → is_within low high q ≡ true → Finds j q
  descend zero low high at j q f le some inside = same_level 0 low high at j q f some inside (omega (arith, le))
  descend (suc k) low high at j q f le some inside =
      let slot = some_child k low high at f in
      let found = find_child (λ (c : Child). IsFound k c.low c.high c.at) q low high slot.0 slot.1
      (subst (λ (l : List NamedLsn). AllByRecursion (λ (c : Child). IsFound k c.low c.high c.at) (side_by_side low high l)) slot.2 (children_found k low high at f)) inside in
      by_order (cases_order j (suc k)) (λ below. descend k found.0.low found.0.high found.0.at j q found.1 below some found.2)
    where
      by_order : (j ≡ suc k) ⊎ ((j < suc k) ⊎ (suc k < j)) → (j ≤ k → Finds j q) → Finds j q
      by_order (inl same) rest = same_level (suc k) low high at j q f some inside same
      by_order (inr (inl less)) rest = rest (omega (arith, less))
      by_order (inr (inr more)) rest = absurd (omega (arith, more, le))

  -- ---- bounds

  pub behind : (k : ℕ) (low : Name) (high : Option Name) (at : ℕ) → IsFound k low high at → low_behind low (row_of rows k) ≡ high
  behind k low high at f = by_high high (top_of k low high at f.shown).1.alone f.below f.bound
    where
      no_less : (low q : Name) → name_cmp low q ≡ Less → q ≡ low → ⊥
      no_less low q less e = true≢false (sym (ap is_lt less) ∙ ap (λ (x : Name). is_lt (name_cmp low x)) e ∙ not_below_itself low)

      by_high : (o : Option Name) → ((q : Name) → IsSome (nodes k q) → is_within low o q ≡ true → q ≡ low) → is_below low o ≡ true → IsBound k o → low_behind low (row_of rows k) ≡ o
      by_high None alone below bound =
          none_is (row_of rows k) low (λ q some less. no_less low q less (alone q (there_some (row_of rows k) q some) (within_from low None q (low_turned low q less) refl)))
      by_high (Some h) alone below bound =
          next_is (row_of rows k) low h (parts.rising k) bound (less_of (name_cmp low h) below) (λ q some less. up q some less (name_cmp q h) refl)
        where
          up : (q : Name) → IsSome (value_at q (row_of rows k)) → name_cmp low q ≡ Less → (o : Ordering) → name_cmp q h ≡ o → IsUpTo h q
          up q some less Less is = absurd (no_less low q less (alone q (there_some (row_of rows k) q some) (within_from low (Some h) q (low_turned low q less) (ap is_lt is))))
          up q some less Equal is = up_from_back q h (ap is_lt is)
          up q some less Greater is = up_from_back q h (ap is_lt is)

  -- ---- one node

  tree_node : (k : ℕ) (low : Name) (high : Option Name) (at : ℕ) → IsTreeAt es (at_home home d) d k low high at → (node : Shown) × (node_at es at ≡ Some node) × at_home home d node.number k low
  tree_node zero low high at t = (t.node, t.image, t.home)
  tree_node (suc k) low high at t = (t.node, t.image, t.home)

  -- it is there as it was read, and its number has its place
  record IsOwn (last k : ℕ) (low : Name) (at : ℕ) (n : Node) : Type 0 where
    own : IsNumber home last d n.number k low
    loaded : loaded_by n ≡ node_read n.number at keeps

  is_own : (last : ℕ) → most ≤ last → (k : ℕ) (low : Name) (high : Option Name) (at : ℕ) (n : Node) → IsFound k low high at → value_at low (row_of rows k) ≡ Some n → IsOwn last k low at n
  is_own last le k low high at n f there =
      let top = top_of k low high at f.shown in
      let tree = tree_node k low high at f.tree in
      let is : loaded_by n ≡ node_read top.0.number at keeps = same_Some (loaded_by n) (node_read top.0.number at keeps) (sym (ap (option_map loaded_by) there) ∙ top.1.here) in
      let number : n.number ≡ top.0.number = number_read n top.0.number at keeps is in
      let few : top.0.number ≤ most = top.1.allocated in
      let node : top.0 ≡ tree.0 = same_Some top.0 tree.0 (sym top.1.image ∙ tree.1) in
      record {
        own = (omega (arith, few, le, number), ap home (number ∙ ap (λ (x : Shown). x.number) node) ∙ tree.2);
        loaded = is ∙ ap (λ (i : ℕ). node_read i at keeps) (sym number);
      }

  -- a node without an image waits
  pub as_unread : (last base : ℕ) → most ≤ last → keeps ≡ false → AllByRecursion (λ p. p.0 < base) es → (k : ℕ) (low : Name) (high : Option Name) (at : ℕ) (n : Node) → IsFound k low high at →
      value_at low (row_of rows k) ≡ Some n → IsUnread home last d base k low n
  as_unread last base le not_kept behind_ k low high at n f there =
      let own = is_own last le k low high at n f there in
      let is : loaded_by n ≡ node_read n.number at false = own.loaded ∙ ap (node_read n.number at) not_kept in
      let found = image_entry es at (tree_node k low high at f.tree).0 (tree_node k low high at f.tree).1 in
      let held = entry_holds (λ i e. i < base) es at found.0 behind_ found.1 in
      let same : held.0 ≡ at = eqb-true held.0 at held.1 in
      record {
        own = own.own;
        image = ap (λ (l : LoadedNode). l.last) is;
        waits = ap (λ (l : LoadedNode). l.waits) is;
        from = at;
        marked = ap (λ (l : LoadedNode). l.from) is;
        older = subst (λ (i : ℕ). i < base) same held.2;
      }

  module _ (last : ℕ) (le : most ≤ last) (kept : keeps ≡ true) (whole : AllByRecursion (λ p. is_delta p.1 ≡ false) es) where
    read_is : (k : ℕ) (low : Name) (high : Option Name) (at : ℕ) (n : Node) → IsFound k low high at → value_at low (row_of rows k) ≡ Some n → loaded_by n ≡ node_read n.number at true
    read_is k low high at n f there = (is_own last le k low high at n f there).loaded ∙ ap (node_read n.number at) kept

    pub last_is : (k : ℕ) (low : Name) (high : Option Name) (at : ℕ) (n : Node) → IsFound k low high at → value_at low (row_of rows k) ≡ Some n → n.last ≡ Some at
    last_is k low high at n f there = ap (λ (l : LoadedNode). l.last) ((is_own last le k low high at n f there).loaded ∙ ap (node_read n.number at) kept)

    child_node : (k : ℕ) (c : Child) → IsFound k c.low c.high c.at → IsChildNode (row_of rows k) c
    child_node k c f =
        let top = top_of k c.low c.high c.at f.shown in
        let node = there_as (value_at c.low (row_of rows k)) (node_read top.0.number c.at keeps) top.1.here in
        record { node = node.0; there = node.1; last = last_is k c.low c.high c.at node.0 f node.1; behind = behind k c.low c.high c.at f }

    -- a node with an image is as that shows it
    read_at : (k : ℕ) (low : Name) (at : ℕ) (n : Node) → IsFound k low (low_behind low (row_of rows k)) at → value_at low (row_of rows k) ≡ Some n → IsAsRead es home last d rows k low n
    read_at zero low at n f there = record {
      at = at;
      image = last_is 0 low (low_behind low (row_of rows 0)) at n f there;
      unmarked = ap (λ (l : LoadedNode). l.from) (read_is 0 low (low_behind low (row_of rows 0)) at n f there);
      still = ap (λ (l : LoadedNode). l.waits) (read_is 0 low (low_behind low (row_of rows 0)) at n f there);
      own = (is_own last le 0 low (low_behind low (row_of rows 0)) at n f there).own;
      sound = sound es keeps most home last d entries whole le 0 low (low_behind low (row_of rows 0)) at nodes f.shown f.tree;
      below = tt;
    }
    read_at (suc k) low at n f there =
        let high : Option Name = low_behind low (row_of rows (suc k)) in
        record {
          at = at;
          image = last_is (suc k) low high at n f there;
          unmarked = ap (λ (l : LoadedNode). l.from) (read_is (suc k) low high at n f there);
          still = ap (λ (l : LoadedNode). l.waits) (read_is (suc k) low high at n f there);
          own = (is_own last le (suc k) low high at n f there).own;
          sound = sound es keeps most home last d entries whole le (suc k) low high at nodes f.shown f.tree;
          below = subst (λ (l : List NamedLsn). AllByRecursion (IsChildNode (row_of rows k)) (children low high l)) (slots_of_sound es keeps most home last d entries whole le k low high at nodes f.shown f.tree)
              (subst (AllByRecursion (IsChildNode (row_of rows k))) (sym (children_cut low high (slots_shown f.tree.node) f.tree.up))
              (all_weaker (λ (c : Child). IsFound k c.low c.high c.at) (IsChildNode (row_of rows k)) (child_node k) (side_by_side low high (child_slots_of low high f.tree.node)) (children_found k low high at f)));
        }

    pub as_read : (k : ℕ) (low : Name) (high : Option Name) (at : ℕ) (n : Node) → IsFound k low high at → value_at low (row_of rows k) ≡ Some n → IsAsRead es home last d rows k low n
    as_read k low high at n f there = read_at k low at n (subst (λ (o : Option Name). IsFound k low o at) (sym (behind k low high at f)) f) there

  -- ---- all nodes, where that of the topmost level is found

  module _ (top at : ℕ) (root : IsFound top least None at) (none : (j : ℕ) (q : Name) → top < j → nodes j q ≡ None) where
    pub each_found : (level : ℕ) (low : Name) (n : Node) → value_at low (row_of rows level) ≡ Some n → Finds level low
    each_found level low n there =
        by_order (cases_order level top)
      where
        some : IsSome (nodes level low)
        some = subst IsSome (sym (ap (option_map loaded_by) there)) refl

        found : level ≤ top → Finds level low
        found le = descend top least None at level low root le some (within_from least None low (none_below_least low) refl)

        by_order : (level ≡ top) ⊎ ((level < top) ⊎ (top < level)) → Finds level low
        by_order (inl same) = found (omega (arith, same))
        by_order (inr (inl less)) = found (omega (arith, less))
        by_order (inr (inr more)) = absurd (true≢false (sym (subst IsSome (none level low more) some)))

    pub height : length rows ≡ suc top
    height = by_order (cases_order (length rows) (suc top))
      where
        over : top < length rows
        over = is_level rows top least (low_there top least None at root.shown)

        by_order : (length rows ≡ suc top) ⊎ ((length rows < suc top) ⊎ (suc top < length rows)) → length rows ≡ suc top
        by_order (inl same) = same
        by_order (inr (inl less)) = let o : top < length rows = over in absurd (omega (arith, o, less))
        by_order (inr (inr more)) =
            absurd (true≢false (sym (subst IsSome (none (suc top) least (omega arith)) (there_some (row_of rows (suc top)) least (parts.parts (suc top) more)))))

    pub only_root : (level : ℕ) (low : Name) → suc level ≡ length rows → IsSome (value_at low (row_of rows level)) → low ≡ least
    only_root level low is some =
        let h : length rows ≡ suc top = height in
        let same : level ≡ top = omega (arith, is, h) in
        (top_of top least None at root.shown).1.alone low (subst (λ (i : ℕ). IsSome (nodes i low)) same (there_some (row_of rows level) low some)) (within_from least None low (none_below_least low) refl)
