-- The roots of trees that fit a log.
use Rattle.std.proofs.Common.{◌≡◌, ◌==◌, ◌≤◌, ◌<◌, ◌⊎◌, ◌-◌, ◌++◌, ℕ, zero, suc, List, [], ◌∷◌, Bool, true, false, cond, Option, None, Some, IsSome, is_some, option_map, refl, ap, sym, subst, ◌∙◌, inl, inr, arith, length, unwrap_or}
use Rattle.std.specs.Prelude.{find}
use Rattle.std.specs.Option.{option_and_then}
use Rattle.std.specs.List.{AllByRecursion}
use Rattle.std.proofs.lemmas.Bool.{true≢false, and_parts, ltb-true, eqb-true, ne_eqb, eq-eqb}
use Rattle.std.proofs.lemmas.Option.{none-some, same_Some}
use Rattle.je_order.specs.declared.name.Name.{Name}
use Rattle.je_order.proofs.Lists.{all_weaker}
use Rattle.node_core.specs.declared.slot.Version.{Version}
use Rattle.node_core.specs.declared.slot.Version.TheVariants.{There, Deleted, Unset}
use Rattle.log_entry.specs.declared.entry.Entry.{Entry}
use Rattle.log_entry.specs.declared.root.Root.{Root}
use Rattle.log_entry.specs.Items.{rises, rises_from, root_before}
use Rattle.record_map.specs.declared.cell.Cell.{Cell}
use Rattle.record_map.specs.Cells.{value_at}
use Rattle.tree_nodes.specs.declared.node.Node.{Node}
use Rattle.tree_nodes.specs.Nodes.{least, low_behind}
use Rattle.tree_nodes.specs.Levels.{row_of}
use Rattle.log_trees.specs.Changes.{Written, unwritten, last_of}
use Rattle.log_trees.specs.Images.{level_of, level_at}
use Rattle.log_trees.specs.Trees.{shows_by_level, tree_shows, written_at, rows_of_roots, root_of}
use Rattle.log_trees.specs.Sound.{Home, IsTreeAt, at_home, IsRootAt}
use Rattle.log_trees.proofs.Bounds.{within_from, none_below_least}
use Rattle.log_trees.proofs.Rooted.{roots_show_rows}
use Rattle.log_trees.specs.Walk.{read_roots}
use Rattle.log_trees.proofs.LongerLogs.{readings_stay}
use Rattle.log_trees.proofs.Reading.{roots_are_read}
use Rattle.log_trees.proofs.Staying.{roots_stay}
use Rattle.log_meaning.specs.Checkpoint.{Checkpoint, no_checkpoint}
use Rattle.log_meaning.proofs.RedoLaws.{last_end-push}
use Rattle.log_meaning.proofs.Recovering.{read_as}
use Rattle.log_entry.specs.declared.entry.Entry.TheVariants.{CkptEnd}
use Rattle.db_tree.specs.declared.tree.DbTree.{DbTree}
use Rattle.db_tree.specs.Content.{held_by, kept_by, lsn_of, lsn_under}
use Rattle.db_tree.specs.Images.{Placed, entry_at, shows, shown}
use Rattle.db_tree.specs.Stored.{stored_by}
use Rattle.record_tree.specs.Stored.{Stored}
use Rattle.db_tree.proofs.Covering.{covered}
use Rattle.tree_images.specs.Sound.{IsSoundImage}
use Rattle.tree_images.specs.Fits.{HasSoundImage, IsUnlogged, AreRecorded}
use Rattle.tree_images.specs.Roots.{newest_at, FitsForest, topmost, root_image, AreRootsOf, MayBeRoot, data_under, data_in_tree}
use Rattle.tree_images.specs.Laws.{RootsOfFittingTreesAreRight, RootsOfFittingTreesAreRead}
use Rattle.tree_images.proofs.Images.{images_are_trees, images_show}
use Rattle.tree_images.proofs.Lows.{none_behind_least, only_over}

-- ---- a log

-- an entry that an LSN names stands below each LSN that the log is below
pub named_below : (es : Placed) (at lsn : ℕ) (e : Entry) → AllByRecursion (λ p. p.0 < at) es → entry_at es lsn ≡ Some e → lsn < at
named_below [] at lsn e below is = absurd (none-some e is)
named_below (p ∷ es) at lsn e below is = by_test (p.0 == lsn) refl (named_below es at lsn e below.1) is
  where
    by_test : (t : Bool) → (p.0 == lsn) ≡ t → (entry_at es lsn ≡ Some e → lsn < at) → cond t (Some p.1) (entry_at es lsn) ≡ Some e → lsn < at
    by_test true same rest h = subst (λ (n : ℕ). n < at) (eqb-true p.0 lsn same) below.0
    by_test false same rest h = rest h

-- a sound image stands there
pub image_there : (es : Placed) (home : ℕ → Home) (last d level : ℕ) (low : Name) (high : Option Name) (at : ℕ) → IsSoundImage es home last d level low high at → (e : Entry) × (entry_at es at ≡ Some e)
image_there es home last d zero low high at s = (_, s.image)
image_there es home last d (suc above) low high at s = (_, s.image)

-- ---- the list of roots

abbrev IsFound : List Root → Root → Type 0
IsFound roots r = root_of r.db roots ≡ Some r.image

-- each root of a list that rises is the one of its database
found_behind : (b : Root) (roots : List Root) → rises_from root_before b roots ≡ true → AllByRecursion (λ r. b.db < r.db) roots
found_behind b [] up = tt
found_behind b (r ∷ roots) up =
    let both = and_parts (root_before b r) (rises_from root_before r roots) up in
    let lt : b.db < r.db = ltb-true b.db r.db both.0 in
    (lt, all_weaker (λ (s : Root). r.db < s.db) (λ s. b.db < s.db) (λ s h. omega (arith, h, lt)) roots (found_behind r roots both.1))

found_first : (b : Root) (roots : List Root) → IsFound (b ∷ roots) b
found_first b roots = ap (λ (t : Bool). option_map (λ (s : Root). s.image) (cond t (Some b) (find (λ (s : Root). s.db == b.db) roots))) (eq-eqb b.db b.db refl)

found_later : (b r : Root) (roots : List Root) → b.db < r.db → IsFound roots r → IsFound (b ∷ roots) r
found_later b r roots lt is =
    ap (λ (t : Bool). option_map (λ (s : Root). s.image) (cond t (Some b) (find (λ (s : Root). s.db == r.db) roots))) (ne_eqb b.db r.db (λ (e : b.db ≡ r.db). absurd (omega (arith, lt, e)))) ∙ is

rest_rises : (b : Root) (roots : List Root) → rises_from root_before b roots ≡ true → rises root_before roots ≡ true
rest_rises b [] up = refl
rest_rises b (r ∷ roots) up = (and_parts (root_before b r) (rises_from root_before r roots) up).1

both_hold : {A : Type 0} (P Q R : A → Type 0) (xs : List A) → ((x : A) → P x → Q x → R x) → AllByRecursion P xs → AllByRecursion Q xs → AllByRecursion R xs
both_hold P Q R [] both p q = tt
both_hold P Q R (x ∷ xs) both p q = (both x p.0 q.0, both_hold P Q R xs both p.1 q.1)

pub roots_found : (roots : List Root) → rises root_before roots ≡ true → AllByRecursion (IsFound roots) roots
roots_found [] up = tt
roots_found (b ∷ roots) up =
    (found_first b roots, both_hold (λ (r : Root). b.db < r.db) (IsFound roots) (IsFound (b ∷ roots)) roots (λ r lt is. found_later b r roots lt is) (found_behind b roots up) (roots_found roots (rest_rises b roots up)))

-- ---- one tree

module _ (es : Placed) (base at : ℕ) (home : ℕ → Home) (last redo : ℕ) (below : AllByRecursion (λ (p : ℕ × Entry). p.0 < at) es) (begun : base ≤ redo) (trees : ℕ → Option DbTree) (forest : FitsForest es base home last trees)
    (may : (d : ℕ) (tree : DbTree) → trees d ≡ Some tree → MayBeRoot redo tree.levels) where
  -- where a tree's root is
  abbrev top_of : DbTree → ℕ
  top_of tree = length tree.levels - 1

  top_is : (d : ℕ) (tree : DbTree) → trees d ≡ Some tree → suc (top_of tree) ≡ length tree.levels
  top_is d tree is = let some = (may d tree is).parts.some in omega (arith, some)

  -- the image of a tree's root is sound, for all names
  root_sound : (d : ℕ) (tree : DbTree) (image : ℕ) → trees d ≡ Some tree → root_image tree ≡ Some image → IsSoundImage es home last d (top_of tree) least None image
  root_sound d tree image is named = by_node (topmost tree.levels) refl named
    where
      bare : low_behind least (row_of tree.levels (top_of tree)) ≡ None
      bare = none_behind_least (row_of tree.levels (top_of tree)) (λ q h. (forest d tree is).imaged.top (top_of tree) q (top_is d tree is) h)

      by_image : (n : Node) → n.last ≡ Some image → HasSoundImage es home last d tree.levels (top_of tree) least n ⊎ IsUnlogged tree.levels (top_of tree) n → IsSoundImage es home last d (top_of tree) least None image
      by_image n has (inl h) =
          subst (λ (l : ℕ). IsSoundImage es home last d (top_of tree) least None l) (same_Some h.0 image (sym h.1 ∙ has))
          (subst (λ (o : Option Name). IsSoundImage es home last d (top_of tree) least o h.0) bare h.2)
      by_image n has (inr h) = absurd (none-some image (sym h.0 ∙ has))

      by_node : (o : Option Node) → topmost tree.levels ≡ o → option_and_then (λ (n : Node). n.last) o ≡ Some image → IsSoundImage es home last d (top_of tree) least None image
      by_node None there has = absurd (none-some image has)
      by_node (Some n) there has = by_image n has ((forest d tree is).imaged.images (top_of tree) least n there ((may d tree is).logged n image there has) refl)

  root_is : (d : ℕ) (tree : DbTree) (image : ℕ) → trees d ≡ Some tree → root_image tree ≡ Some image → IsTreeAt es (at_home home d) d (top_of tree) least None image
  root_is d tree image is named = images_are_trees es home last d (top_of tree) least None image (root_sound d tree image is named)

  -- a root in the list is right
  root_right : (roots : List Root) → AreRootsOf trees roots → (r : Root) → IsFound roots r → IsRootAt es home at r
  root_right roots are r found = by_tree (trees r.db) refl (sym (are.each r.db) ∙ found)
    where
      by_tree : (o : Option DbTree) → trees r.db ≡ o → option_and_then root_image o ≡ Some r.image → IsRootAt es home at r
      by_tree None is named = absurd (none-some r.image named)
      by_tree (Some tree) is named =
          let there = image_there es home last r.db (top_of tree) least None r.image (root_sound r.db tree r.image is named) in
          record { lower = named_below es at r.image there.0 below there.1; above = top_of tree; tree = root_is r.db tree r.image is named }

  pub all_right : (roots : List Root) → AreRootsOf trees roots → AllByRecursion (IsRootAt es home at) roots
  all_right roots are = all_weaker (IsFound roots) (IsRootAt es home at) (root_right roots are) roots (roots_found roots are.rise)

  -- ---- what the roots show

  tree_level : (d above image : ℕ) (low : Name) (high : Option Name) → IsTreeAt es (at_home home d) d above low high image → level_at es image ≡ suc above
  tree_level d zero image low high tree = ap level_of tree.image ∙ tree.level_is
  tree_level d (suc above) image low high tree = ap level_of tree.image ∙ tree.level_is

  root_shows : (d : ℕ) (tree : DbTree) (image : ℕ) (x : Name) → trees d ≡ Some tree → root_image tree ≡ Some image → tree_shows es image x ≡ shows es (top_of tree) image x
  root_shows d tree image x is named =
      ap (λ (l : ℕ). shows_by_level es l image x) (tree_level d (top_of tree) image least None (root_is d tree image is named))
      ∙ images_show es home last d (top_of tree) least None image x (root_sound d tree image is named) (within_from least None x (none_below_least x) refl)

  -- the data that is committed under a name stands where its cell says
  held_data : (d : ℕ) (x : Name) (cells : List (Name × Cell)) → AreRecorded es d cells → (written_at es d x (held_by cells x)).value ≡ data_under (value_at x cells)
  held_data d x cells is = by_cell (value_at x cells) refl
    where
      by_version : (cell : Cell) (v : Version) → value_at x cells ≡ Some cell → cell.version ≡ v → (written_at es d x (lsn_of v)).value ≡ option_map (λ (s : Stored). s.value) (stored_by v cell.«data»)
      by_version cell (There lsn) there version = (is x cell there).committed lsn version
      by_version cell Deleted there version = refl
      by_version cell Unset there version = refl

      by_cell : (o : Option Cell) → value_at x cells ≡ o → (written_at es d x (lsn_under o)).value ≡ data_under o
      by_cell None there = refl
      by_cell (Some cell) there = by_version cell cell.version there refl

  -- the topmost node's image shows what is committed, or that was committed at the redo LSN or behind it
  abbrev IsShown : ℕ → Name → DbTree → Option ℕ → Type 0
  IsShown d x tree o = (shown es (top_of tree) o x ≡ held_by tree.cells x) ⊎ (redo ≤ newest_at base es d x)

  top_covered : (d : ℕ) (x : Name) (tree : DbTree) → trees d ≡ Some tree → IsShown d x tree (root_image tree)
  top_covered d x tree is = by_node (topmost tree.levels) refl
    where
      m : MayBeRoot redo tree.levels
      m = may d tree is

      by_node : (o : Option Node) → topmost tree.levels ≡ o → IsShown d x tree (option_and_then (λ (n : Node). n.last) o)
      by_node None there = absurd (none_there (m.parts.parts (top_of tree) (let up = top_is d tree is in omega (arith, up))) there)
        where
          none_there : IsSome (topmost tree.levels) → topmost tree.levels ≡ None → ⊥
          none_there some none = true≢false (sym some ∙ ap is_some none)
      by_node (Some n) there =
          covered es base redo (newest_at base es d) tree.levels (kept_by tree.cells) m.parts begun (λ level y e over f from. m.marks level y e f over from) (forest d tree is).tree (top_of tree) x (least, n)
          (only_over (row_of tree.levels (top_of tree)) x n there (λ q h. (forest d tree is).imaged.top (top_of tree) q (top_is d tree is) h))

  abbrev AreLaid : ℕ → Name → Option ℕ → Option (List ℕ) → Type 0
  AreLaid d x o value = ((written_at es d x (option_and_then (λ image. tree_shows es image x) o)).value ≡ value) ⊎ (redo ≤ newest_at base es d x)

  tree_covered : (d : ℕ) (x : Name) (tree : DbTree) → trees d ≡ Some tree → AreLaid d x (root_image tree) (data_under (value_at x tree.cells))
  tree_covered d x tree is = by_side (top_covered d x tree is)
    where
      same_shown : (o : Option ℕ) → root_image tree ≡ o → option_and_then (λ image. tree_shows es image x) o ≡ shown es (top_of tree) o x
      same_shown None named = refl
      same_shown (Some image) named = root_shows d tree image x is named

      by_side : IsShown d x tree (root_image tree) → AreLaid d x (root_image tree) (data_under (value_at x tree.cells))
      by_side (inl h) =
          inl (ap (λ (o : Option ℕ). (written_at es d x o).value) (same_shown (root_image tree) refl ∙ h)
          ∙ held_data d x tree.cells (forest d tree is).recorded)
      by_side (inr h) = inr h

  database_covered : (d : ℕ) (x : Name) (o : Option DbTree) → trees d ≡ o → AreLaid d x (option_and_then root_image o) (data_in_tree x o)
  database_covered d x None is = inl refl
  database_covered d x (Some tree) is = tree_covered d x tree is

  all_covered : (d : ℕ) (x : Name) (roots : List Root) (value : Option (List ℕ)) → AreRootsOf trees roots → value ≡ data_in_tree x (trees d) →
      ((last_of d x (rows_of_roots es at roots) unwritten).value ≡ value) ⊎ (redo ≤ newest_at base es d x)
  all_covered d x roots value are is =
      subst (λ (w : Written). (w.value ≡ value) ⊎ (redo ≤ newest_at base es d x)) (sym (roots_show_rows es home at roots d x are.rise (all_right roots are)))
      (subst (λ (o : Option ℕ). AreLaid d x o value) (sym (are.each d))
      (subst (λ (v : Option (List ℕ)). AreLaid d x (option_and_then root_image (trees d)) v) (sym is) (database_covered d x (trees d) refl)))

pub roots_right : RootsOfFittingTreesAreRight
roots_right es base at is_open rows home last redo trees roots below begun forest are open_rows may = record {
  covered = λ d x is. all_covered es base at home last redo below begun trees forest may d x roots (rows d x) are (open_rows d x is);
  right = all_right es base at home last redo below begun trees forest may roots are;
}

-- ---- they are read

pub roots_read : RootsOfFittingTreesAreRead
roots_read es base at is_open rows home redo trees roots number start last_txn last_node last_db summary are right files =
    let read = roots_are_read files es home at roots are.rise right.right in
    subst (λ (k : Checkpoint). (numbers : List ℕ) × (read_roots files (es ++ p ∷ []) k.at k.roots ≡ read_as numbers (rows_of_roots (es ++ p ∷ []) k.at k.roots)))
    (sym (ap (λ (o : Option Checkpoint). unwrap_or o no_checkpoint) (last_end-push es p)))
    (read.0, readings_stay files es (p ∷ []) at roots (omega arith, tt) ∙ read.1 ∙ ap (read_as read.0) (sym (roots_stay es (p ∷ []) at roots (omega arith, tt))))
  where
    p : ℕ × Entry
    p = (at, CkptEnd number start redo last_txn last_node last_db summary roots)
