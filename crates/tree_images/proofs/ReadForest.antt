-- The trees that reading a checkpoint's roots gives fit the log that was read.
use Rattle.std.proofs.Common.{◌≡◌, ◌≤◌, ◌<◌, ◌+◌, ◌==◌, ◌⊎◌, ℕ, zero, suc, Bool, true, false, cond, List, [], ◌∷◌, Option, None, Some, IsSome, length, refl, ap, sym, subst, ◌∙◌, inl, inr, arith, min}
use Rattle.std.specs.Prelude.{IfSome, find, option_map}
use Rattle.std.specs.Option.{option_and_then}
use mathlib.Core.Path.{fun_ext}
use Rattle.std.proofs.lemmas.Bool.{true≢false, cases_order, ne_eqb, eq-eqb}
use Rattle.std.proofs.lemmas.Option.{none-some, same_Some}
use Rattle.std.specs.List.{AllByRecursion}
use Rattle.je_order.specs.declared.name.Name.{Name}
use Rattle.log_entry.specs.Body.{IsEntry}
use Rattle.log_entry.specs.declared.root.Root.{Root}
use Rattle.record_map.specs.declared.cell.Cell.{Cell}
use Rattle.record_map.specs.Cells.{value_at, IsRising}
use Rattle.record_tree.specs.LoadedNodes.{LoadedNode, AllNodes, least}
use Rattle.tree_nodes.specs.declared.node.Node.{Node}
use Rattle.tree_nodes.specs.Nodes.{NodeRow, IsOver}
use Rattle.tree_nodes.specs.Levels.{row_of, AreParts}
use Rattle.tree_nodes.proofs.LevelLaws.{is_level}
use Rattle.log_trees.specs.Images.{level_of, level_at}
use Rattle.log_trees.specs.Trees.{shows as shows_slot, written_at, tree_shows, shows_by_level, root_of}
use Rattle.log_trees.specs.Sound.{least_name, Home, at_home, IsTreeAt, IsRootAt}
use Rattle.log_trees.proofs.Bounds.{within_from, none_below_least}
use Rattle.log_trees.proofs.Rooted.{RiseFrom, rise_of, roots_show_rows}
use Rattle.log_meaning.specs.ReadNodes.{is_delta, stored_of, ArePutEach, IsRootPut, Loaded}
use Rattle.log_meaning.proofs.Loading.{roots_nodes}
use Rattle.record_tree.specs.LoadedSlots.{ReadSlot, has_committed_slot}
use Rattle.db_tree.specs.declared.tree.DbTree.{DbTree}
use Rattle.node_core.specs.declared.slot.Version.{Version}
use Rattle.node_core.specs.declared.slot.Version.TheVariants.{There, Deleted, Unset}
use Rattle.db_tree.specs.Content.{held_by, kept_by, lsn_of}
use Rattle.db_tree.specs.Images.{Placed, entry_at, shown, shows, version_imaged}
use Rattle.db_tree.specs.Loading.{loaded_in, slot_read}
use Rattle.db_tree.specs.Stored.{stored_under}
use Rattle.db_tree.proofs.Over.{over_once, is_over, there_is}
use Rattle.db_tree.proofs.Says.{image_says}
use Rattle.tree_images.specs.Fits.{AreRecorded, FitsTree}
use Rattle.tree_images.specs.Forest.{latest_at, IsLoggedWrite}
use Rattle.tree_images.specs.ReadLaws.{IsAsRead, IsReadTree, ReadForestsFit}
use Rattle.tree_images.proofs.ReadSlots.{IsGone, IsReadAs, cells_read, deleted_is, gone_says, says_gone, slot_got, slot_is, was_gone}
use Rattle.tree_images.proofs.LateMarks.{none_begun}
use Rattle.tree_images.proofs.Images.{images_show}
use Rattle.tree_images.proofs.Read.{inner_same, read_fit, unread_fit}
use Rattle.tree_images.proofs.ReadNodes.{ShowsNodes, IsPut, nodes_put}
use Rattle.tree_images.proofs.ReadImages.{sound}
use Rattle.tree_images.proofs.ReadTrees.{IsFound, there_some, as_read, as_unread, each_found, only_root, last_is, low_there, height}
use Rattle.tree_images.proofs.ReadRecords.{shown_data, held_is, recorded_is}

-- ---- versions

-- two versions are the same that are of the same record, or say both that it was deleted
versions_same : (a b : Version) → lsn_of a ≡ lsn_of b → (a ≡ Deleted → b ≡ Deleted) → (b ≡ Deleted → a ≡ Deleted) → a ≡ b
versions_same (There l) (There m) is to back = ap There (same_Some l m is)
versions_same (There l) Deleted is to back = absurd (none-some l (sym is))
versions_same (There l) Unset is to back = absurd (none-some l (sym is))
versions_same Deleted b is to back = sym (to refl)
versions_same Unset (There m) is to back = absurd (none-some m is)
versions_same Unset Deleted is to back = back refl
versions_same Unset Unset is to back = refl

-- ---- one tree

module _ (es : Placed) (home : ℕ → Home) (last d : ℕ) (rows : List NodeRow) (parts : AreParts rows) (each : (level : ℕ) (low : Name) (n : Node) → value_at low (row_of rows level) ≡ Some n → IsAsRead es home last d rows level low n) where
  -- what a node's image shows of a name, its BIN's does
  shown_down : (k : ℕ) (x : Name) (e c : Name × Node) → IsOver (row_of rows k) x e → IsOver (row_of rows 0) x c → shown es k e.1.last x ≡ shown es 0 c.1.last x
  shown_down zero x e c upper lower =
      let names : e.0 ≡ c.0 = over_once (row_of rows 0) x e c upper lower in
      ap (λ (n : Node). shown es 0 n.last x) (same_Some e.1 c.1 (sym upper.there ∙ ap (λ (y : Name). value_at y (row_of rows 0)) names ∙ lower.there))
  shown_down (suc k) x e c upper lower =
      let within : suc k < length rows = is_level rows (suc k) e.0 (there_is (row_of rows (suc k)) e.0 e.1 upper.there) in
      let mid = is_over (row_of rows k) x (parts.rising k) (parts.parts k (omega (arith, within))) in
      inner_same es home last d rows parts each k x e mid.0 upper mid.1 ∙ shown_down k x mid.0 c mid.1 lower

module _ (es : Placed) (keeps : Bool) (most : ℕ) (home : ℕ → Home) (last base d : ℕ) (tree : DbTree) (parts : AreParts tree.levels) (entries : AllByRecursion (λ p. IsEntry p.1) es) (below : AllByRecursion (λ p. p.0 < base) es) (le : most ≤ last)
    (top at : ℕ) (root : IsFound es keeps most home d tree.levels parts entries top least None at) (none : (j : ℕ) (q : Name) → top < j → loaded_in tree.levels j q ≡ None)
    (records : (x : Name) → stored_under (value_at x tree.cells) ≡ stored_of (written_at es d x (shows_slot es top at x))) (quiet : (x : Name) (cell : Cell) → value_at x tree.cells ≡ Some cell → cell.write ≡ None)
    (rising : IsRising tree.cells) (slots : Name → Option ReadSlot) (slots_are : (x : Name) → slots x ≡ option_map slot_read (value_at x tree.cells)) (read_as : (x : Name) → IsReadAs es None (slots x) (IsGone es top least None at x)) (got : (x : Name) → IsGone es top least None at x → has_committed_slot (slots x) ≡ true) (newest : Name → ℕ) where
  recorded : AreRecorded es d tree.cells
  recorded x cell there = recorded_is es d x cell (shows_slot es top at x) (sym (ap stored_under there) ∙ records x) (quiet x cell there)

  root_over : (x : Name) (e : Name × Node) → IsOver (row_of tree.levels top) x e → e.0 ≡ least
  root_over x e over =
      only_root es keeps most home d tree.levels parts entries top at root none top e.0 (sym (height_is top)) (there_is (row_of tree.levels top) e.0 e.1 over.there)
    where
      height_is : (k : ℕ) → length tree.levels ≡ suc top
      height_is k = height es keeps most home d tree.levels parts entries top at root none

  kept_fits : keeps ≡ true → AllByRecursion (λ p. is_delta p.1 ≡ false) es → FitsTree es base newest home last d tree.levels tree.cells
  kept_fits kept whole = read_fit es base newest home last d tree.levels tree.cells parts (only_root es keeps most home d tree.levels parts entries top at root none) each rising recorded (cells_read es d tree.cells slots (IsGone es top least None at) slots_are read_as recorded) says_it
    where
      each : (level : ℕ) (low : Name) (n : Node) → value_at low (row_of tree.levels level) ≡ Some n → IsAsRead es home last d tree.levels level low n
      each level low n there =
          let f = each_found es keeps most home d tree.levels parts entries top at root none level low n there in
          as_read es keeps most home d tree.levels parts entries last le kept whole level low f.0 f.1 n f.2 there

      held : (x : Name) (e : Name × Node) (a : ℕ) → IsOver (row_of tree.levels 0) x e → e.1.last ≡ Some a → shows es 0 a x ≡ held_by tree.cells x
      held x e a over is =
          let within : top < length tree.levels = is_level tree.levels top least (root_there) in
          let upper = is_over (row_of tree.levels top) x (parts.rising top) (parts.parts top within) in
          let names : upper.0.0 ≡ least = root_over x upper.0 upper.1 in
          let there : value_at least (row_of tree.levels top) ≡ Some upper.0.1 = ap (λ (y : Name). value_at y (row_of tree.levels top)) (sym names) ∙ upper.1.there in
          let image : upper.0.1.last ≡ Some at = last_is es keeps most home d tree.levels parts entries last le kept whole top least None at upper.0.1 root there in
          let shows_root = images_show es home last d top least None at x (sound es keeps most home last d entries whole le top least None at (loaded_in tree.levels) root.shown root.tree)
          (within_from least None x (none_below_least x) refl) in
          sym (ap (λ (o : Option ℕ). shown es 0 o x) is)
          ∙ sym (shown_down es home last d tree.levels parts each top x upper.0 e upper.1 over)
          ∙ ap (λ (o : Option ℕ). shown es top o x) image
          ∙ sym shows_root
          ∙ sym (held_is es d x tree.cells (shows_slot es top at x) (records x)
          (λ lsn shows_it. shown_data es (at_home home d) d top least None at lsn x root.tree (within_from least None x (none_below_least x) refl) shows_it))
        where
          root_there : IsSome (value_at least (row_of tree.levels top))
          root_there = low_there es keeps most home d tree.levels parts entries top least None at root.shown

      deleted : (x : Name) (e : Name × Node) (a : ℕ) → IsOver (row_of tree.levels 0) x e → e.1.last ≡ Some a → version_imaged (entry_at es a) x ≡ Deleted → (kept_by tree.cells x).version ≡ Deleted
      deleted x e a over is says =
          deleted_is (value_at x tree.cells)
          (sym (ap has_committed_slot (slots_are x)) ∙ got x (says_gone es keeps most home d tree.levels parts entries last le kept whole top at root x e a over is (within_from least None x (none_below_least x) refl) says))
          (sym (held x e a over is) ∙ sym (image_says (entry_at es a) x) ∙ ap lsn_of says)

      says_it : (x : Name) (e : Name × Node) (a : ℕ) → IsOver (row_of tree.levels 0) x e → e.1.last ≡ Some a → version_imaged (entry_at es a) x ≡ (kept_by tree.cells x).version
      says_it x e a over is =
          versions_same (version_imaged (entry_at es a) x) (kept_by tree.cells x).version (image_says (entry_at es a) x ∙ held x e a over is) (deleted x e a over is)
          (λ gone. gone_says es keeps most home d tree.levels parts entries last le kept whole top at root x e a over is (was_gone es (value_at x tree.cells) (slots x) (IsGone es top least None at x) (slots_are x) (read_as x) gone))

  unread_fits : keeps ≡ false → FitsTree es base newest home last d tree.levels tree.cells
  unread_fits not_kept =
      unread_fit es base newest home last d tree.levels tree.cells (only_root es keeps most home d tree.levels parts entries top at root none)
      (λ level low n there.
      (let f = each_found es keeps most home d tree.levels parts entries top at root none level low n there in
      as_unread es keeps most home d tree.levels parts entries last base le not_kept below level low f.0 f.1 n f.2 there)) recorded (cells_read es d tree.cells slots (IsGone es top least None at) slots_are read_as recorded)

  pub tree_fits : (keeps ≡ true → AllByRecursion (λ p. is_delta p.1 ≡ false) es) → FitsTree es base newest home last d tree.levels tree.cells
  tree_fits whole = by_keeps (cases_bool keeps)
    where
      cases_bool : (t : Bool) → (t ≡ true) ⊎ (t ≡ false)
      cases_bool true = inl refl
      cases_bool false = inr refl

      by_keeps : (keeps ≡ true) ⊎ (keeps ≡ false) → FitsTree es base newest home last d tree.levels tree.cells
      by_keeps (inl kept) = kept_fits kept (whole kept)
      by_keeps (inr not_kept) = unread_fits not_kept

-- ---- all roots

tree_level : (es : Placed) (home : ℕ → ℕ → Name → Type 0) (d above : ℕ) (low : Name) (high : Option Name) (at : ℕ) → IsTreeAt es home d above low high at → level_at es at ≡ suc above
tree_level es home d zero low high at tree = ap level_of tree.image ∙ tree.level_is
tree_level es home d (suc above) low high at tree = ap level_of tree.image ∙ tree.level_is

module _ (es : Placed) (keeps : Bool) (most : ℕ) (home : ℕ → Home) (end : ℕ) where
  -- a root's tree has the nodes that its image shows
  record IsRootTree (roots : List Root) (nodes : AllNodes) (d : ℕ) : Type 0 where
    at : ℕ
    there : root_of d roots ≡ Some at
    above : ℕ
    level : level_at es at ≡ suc above
    tree : IsTreeAt es (at_home home d) d above least None at
    shown : ShowsNodes es keeps most (nodes d) above least None at
    none : (j : ℕ) (q : Name) → above < j → nodes d j q ≡ None

  abbrev HasNone : AllNodes → ℕ → Type 0
  HasNone nodes d = (j : ℕ) (q : Name) → nodes d j q ≡ None

  -- each database from a number on has the tree of its root, or no node; nodes of others are as before
  record AreRootTrees (b : ℕ) (roots : List Root) (old new : AllNodes) : Type 0 where
    trees : (d : ℕ) → b ≤ d → IsRootTree roots new d ⊎ HasNone new d
    same : (d : ℕ) → d < b → (j : ℕ) (q : Name) → new d j q ≡ old d j q

  one_more : (b : ℕ) (r : Root) (roots : List Root) (old mid new : AllNodes) → b ≤ r.db → IsRootPut es keeps most r old mid → IsRootAt es home end r → ((d : ℕ) → b ≤ d → HasNone old d) →
      (((d : ℕ) → r.db + 1 ≤ d → HasNone mid d) → AreRootTrees (r.db + 1) roots mid new) → AreRootTrees b (r ∷ roots) old new
  one_more b r roots old mid new low first is none rest_of = record {
    trees = λ d le. trees d le (cases_order d r.db);
    same = λ d less j q.
        rest.same d (omega (arith, less, low)) j q
        ∙ one.same d j q (λ e1 le inside. absurd (omega (arith, less, low, e1)));
  }
    where
      above_is : is.above ≡ first.0
      above_is = let level : suc is.above ≡ suc first.0 = sym (tree_level es (at_home home r.db) r.db is.above least_name None r.image is.tree) ∙ first.1 in omega (arith, level)

      tree : IsTreeAt es (at_home home r.db) r.db first.0 least None r.image
      tree = subst (λ (k : ℕ). IsTreeAt es (at_home home r.db) r.db k least None r.image) above_is is.tree

      none_here : HasNone old r.db
      none_here = none r.db low

      one : IsPut es keeps most (at_home home r.db) r.db old mid first.0 least None (ShowsNodes es keeps most (mid r.db) first.0 least None r.image)
      one = nodes_put es keeps most (at_home home r.db) r.db first.0 least None r.image old mid first.2 tree refl (λ j le. inl refl) (λ j le q some inside. absurd (true≢false (sym (subst IsSome (none_here j q) some))))

      later : (d : ℕ) → r.db + 1 ≤ d → HasNone mid d
      later d le j q = one.same d j q (λ e1 l inside. absurd (omega (arith, le, e1))) ∙ none d (omega (arith, low, le)) j q

      rest : AreRootTrees (r.db + 1) roots mid new
      rest = rest_of later

      trees : (d : ℕ) → b ≤ d → (d ≡ r.db) ⊎ ((d < r.db) ⊎ (r.db < d)) → IsRootTree (r ∷ roots) new d ⊎ HasNone new d
      trees d le (inr (inl less)) = inr (λ j q. rest.same d (omega (arith, less)) j q ∙ one.same d j q (λ e1 l inside. absurd (omega (arith, less, e1))) ∙ none d le j q)
      trees d le (inl same) = inl (subst (IsRootTree (r ∷ roots) new) (sym same) (record {
        at = r.image;
        there = ap (λ (t : Bool). option_map (λ (s : Root). s.image) (cond t (Some r) (find (λ (s : Root). s.db == r.db) roots))) (eq-eqb r.db r.db refl);
        above = first.0;
        level = first.1;
        tree = tree;
        shown = subst (λ (n : ℕ → Name → Option LoadedNode). ShowsNodes es keeps most n first.0 least None r.image) (sym (fun_ext (λ j. fun_ext (λ q. rest.same r.db (omega arith) j q)))) one.shown;
        none = λ j q more.
            rest.same r.db (omega arith) j q
            ∙ one.same r.db j q (λ e1 l inside. absurd (omega (arith, more, l))) ∙ none_here j q;
      }))
      trees d le (inr (inr more)) = by_rest (rest.trees d (omega (arith, more)))
        where
          by_rest : IsRootTree roots new d ⊎ HasNone new d → IsRootTree (r ∷ roots) new d ⊎ HasNone new d
          by_rest (inr h) = inr h
          by_rest (inl t) = inl (record {
            at = t.at;
            there = ap (λ (b : Bool). option_map (λ (s : Root). s.image) (cond b (Some r) (find (λ (s : Root). s.db == d) roots))) (ne_eqb r.db d (λ (e : r.db ≡ d). absurd (omega (arith, e, more)))) ∙ t.there;
            above = t.above;
            level = t.level;
            tree = t.tree;
            shown = t.shown;
            none = t.none;
          })

  root_trees : (b : ℕ) (roots : List Root) (old new : AllNodes) → RiseFrom b roots → ArePutEach (IsRootPut es keeps most) roots old new → AllByRecursion (IsRootAt es home end) roots → ((d : ℕ) → b ≤ d → HasNone old d) →
      AreRootTrees b roots old new
  root_trees b [] old new up put all none = record { trees = λ d le. inr (λ j q. put d j q ∙ none d le j q); same = λ d less j q. put d j q }
  root_trees b (r ∷ roots) old new up put all none = one_more b r roots old put.0 new up.0 put.1 all.0 none (λ later. root_trees (r.db + 1) roots put.0 new up.1 put.2 all.1 later)

-- ---- the whole

pub forests_fit : ReadForestsFit
forests_fit es c nodes slots stored last base trees read numbers below each = record {
  home = read.home;
  fits = λ d tree is. fits d tree (each d tree is);
  writes = λ d tree is x cell there. subst (λ w. IfSome w (λ w. IsLoggedWrite es base d x w.value)) (sym ((each d tree is).quiet x cell there)) tt;
  notes = λ d tree is start begun. absurd (none_begun es base start below begun);
}
  where
    le : read.most ≤ last
    le = let reach : min read.most 0x7fffffffffffffff ≤ last = read.reach in omega (arith, reach, numbers)

    after : Loaded
    after = record { nodes = nodes; slots = slots }

    roots : AreRootTrees es read.keeps read.most read.home c.at 0 c.roots read.begun.nodes nodes
    roots =
        root_trees es read.keeps read.most read.home c.at 0 c.roots read.begun.nodes nodes (rise_of c.roots read.rise) (roots_nodes es read.keeps read.most c.roots read.begun after read.put) read.right (λ d low j q. read.none d j q)

    fits : (d : ℕ) (tree : DbTree) → IsReadTree nodes slots stored d tree → FitsTree es base (latest_at base es d) read.home last d tree.levels tree.cells
    fits d tree t = by_root (roots.trees d (omega arith))
      where
        same : nodes d ≡ loaded_in tree.levels
        same = fun_ext (λ level. fun_ext (λ low. t.nodes_are level low))

        by_root : IsRootTree es read.keeps read.most read.home c.at c.roots nodes d ⊎ HasNone es read.keeps read.most read.home c.at nodes d → FitsTree es base (latest_at base es d) read.home last d tree.levels tree.cells
        by_root (inr none) =
            absurd (true≢false (sym (subst IsSome (sym (t.nodes_are 0 least) ∙ none 0 least) (there_some (row_of tree.levels 0) least (t.parts.parts 0 t.parts.some)))))
        by_root (inl r) =
            tree_fits es read.keeps read.most read.home last base d tree t.parts read.entries below le r.above r.at root (λ j q more. sym (t.nodes_are j q) ∙ r.none j q more) records t.quiet
            t.rising (slots d) t.slots_are (slot_is es read.keeps read.most read.home c.at read.entries c.roots read.begun after (rise_of c.roots read.rise) read.put read.right read.bare d r.at r.above r.there r.level)
            (slot_got es read.keeps read.most read.home c.at read.entries c.roots read.begun after (rise_of c.roots read.rise) read.put read.right read.bare d r.at r.above r.there r.level)
            (latest_at base es d) read.whole
          where
            root : IsFound es read.keeps read.most read.home d tree.levels t.parts read.entries r.above least None r.at
            root = record { shown = subst (λ (n : ℕ → Name → Option LoadedNode). ShowsNodes es read.keeps read.most n r.above least None r.at) same r.shown; tree = r.tree; below = refl; bound = tt }

            records : (x : Name) → stored_under (value_at x tree.cells) ≡ stored_of (written_at es d x (shows_slot es r.above r.at x))
            records x =
                sym (t.records_are x) ∙ read.records d x ∙ ap stored_of (roots_show_rows es read.home c.at c.roots d x read.rise read.right
                ∙ ap (λ (o : Option ℕ). written_at es d x (option_and_then (λ (a : ℕ). tree_shows es a x) o)) r.there ∙ ap (λ (l : ℕ). written_at es d x (shows_by_level es l r.at x)) r.level)
