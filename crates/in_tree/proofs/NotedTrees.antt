-- A checkpoint notes nodes of the trees.
use Rattle.std.proofs.Common.{◌≡◌, ◌≤◌, ◌==◌, ◌&&◌, ℕ, Bool, true, false, not, List, [], ◌∷◌, ◌++◌, Option, None, Some, IsSome, Result, Ok, Err, OnOk, option_map, is_some, is_eq, refl, ap, sym, subst, ◌∙◌, arith}
use Rattle.std.specs.Ordering.{nat_cmp}
use Rattle.std.specs.BTreeMap.{get}
use Rattle.std.proofs.lemmas.Option.{none-some, same_Some}
use Rattle.std.proofs.Math.Nat.{le_refl}
use Rattle.je_disk.specs.DiskMeaning.{DiskMeaning}
use Rattle.je_order.specs.declared.name.Name.{Name}
use Rattle.log_entry.specs.declared.entry.Entry.{Entry}
use Rattle.log_buffer.specs.declared.buffer.LogBuffer.{LogBuffer}
use Rattle.log_trees.specs.Placed.{Placed, placed}
use Rattle.record_map.specs.declared.cell.Cell.{Cell}
use Rattle.record_map.specs.Cells.{value_at}
use Rattle.record_tree.specs.Occupied.{AreSame}
use Rattle.record_tree.specs.declared.node_place.NodePlace.{NodePlace}
use Rattle.record_tree.specs.declared.tree_err.TreeErr.{TreeErr}
use Rattle.tree_nodes.specs.declared.node.Node.{Node}
use Rattle.tree_nodes.specs.Nodes.{NodeRow, is_dirty, noted_as}
use Rattle.tree_nodes.specs.Levels.{row_of}
use Rattle.tree_nodes.specs.Lows.{lows_of}
use Rattle.tree_nodes.specs.Noted.{AreNoted, is_to_note}
use Rattle.tree_nodes.proofs.NoteLaws.{noted_value}
use Rattle.db_tree.specs.declared.node_at.NodeAt.{NodeAt}
use Rattle.db_tree.specs.declared.node_image.NodeImage.{NodeImage}
use Rattle.db_tree.specs.declared.tree.DbTree.{DbTree}
use Rattle.db_tree.specs.Content.{kept_by}
use Rattle.db_tree.specs.Dirty.{AreExact, is_as_imaged}
use Rattle.db_tree.specs.Notes.{AreNotesKept, note_of}
use Rattle.db_tree.specs.Seen.{occupied}
use Rattle.db_tree.specs.Splits.{count_waiting}
use Rattle.db_tree.proofs.NodesExact.{imaged_same}
use Rattle.db_tree.proofs.NotingLaws.{noted_alike, noted_nodes, noted_tree}
use Rattle.tree_images.specs.Fits.{FitsTree}
use Rattle.tree_images.specs.Forest.{AreLogged, ForestFits, latest_at}
use Rattle.tree_images.specs.Notes.{may_stay}
use Rattle.tree_images.proofs.ForestSteps.{fits_stay, writes_stay}
use Rattle.tree_images.proofs.NodeSteps.{same_imaged}
use Rattle.tree_images.proofs.NotedRoots.{notes_begun}
use Rattle.dirty_nodes.specs.Marks.{is_dirty_at, is_noted_at, is_one, is_to_note_at}
use Rattle.dirty_nodes.specs.Forest.{AreNotedTrees, IsNotedOne, IsNotedTree, at_place, is_dirty_in, is_noted_in, is_to_note_in}
use Rattle.in_tree.specs.Checkpoints.{HasGot, IsAloneIn, IsClean}
use Rattle.in_tree.specs.Carrying.{LogFact, carries_then}
use Rattle.in_tree.specs.Fitting.{fitting_then, fitting_unchanged}
use Rattle.in_tree.specs.Limits.{GrewFitting}
use Rattle.in_tree.specs.Forest.{Forest, Replaces, cells_of, cells_seen, is_there}
use Rattle.in_tree.specs.declared.logged_trees.LogTrees.{LogTrees}
use Rattle.in_tree.specs.declared.trees.Trees.{Trees}
use Rattle.in_tree.specs.Growing.{TreesGrew, trees_at}
use Rattle.in_tree.specs.Observed.{GrewTrees}
use Rattle.in_tree.specs.Shapes.{shape_of, shapes_of}
use Rattle.in_tree.specs.Waits.{waits_in}
use Rattle.dirty_nodes.proofs.Forests.{nat_same}
use Rattle.in_tree.proofs.Appending.{is_appended}
use Rattle.in_tree.proofs.DueLogging.{some_entry}
use Rattle.in_tree.proofs.Forests.{others, replaced}
use Rattle.in_tree.proofs.Waits.{alike_levels, shapes_at, waits_same}

-- ---- notes that are kept

abbrev one_noted : Option (ℕ × Bool) → ℕ → Bool
one_noted None number = false
one_noted (Some n) number = (n.0 == number) && n.1

noted_by : (o : Option Node) (number : ℕ) → is_one (λ n. n.noted) o number ≡ one_noted (option_map note_of o) number
noted_by None number = refl
noted_by (Some n) number = refl

kept_at : (old new : List NodeRow) → AreNotesKept old new → (level : ℕ) (low : Name) (number : ℕ) → is_noted_at new level low number ≡ is_noted_at old level low number
kept_at old new kept level low number =
    noted_by (value_at low (row_of new level)) number
    ∙ ap (λ (o : Option (ℕ × Bool)). one_noted o number) (kept level low)
    ∙ sym (noted_by (value_at low (row_of old level)) number)

-- one tree changed, in which the same nodes are noted
pub tree_notes : (old new : Forest) (db : ℕ) (tree next : DbTree) → Some tree ≡ get nat_cmp old db → Replaces old new db (Some next) → AreNotesKept tree.levels next.levels → (p : NodePlace) → is_noted_in new p ≡ is_noted_in old p
tree_notes old new db tree next there has kept p = by_number (is_eq (nat_cmp db p.db)) refl
  where
    by_number : (b : Bool) → is_eq (nat_cmp db p.db) ≡ b → is_noted_in new p ≡ is_noted_in old p
    by_number false apart = ap (λ (o : Option DbTree). at_place is_noted_at o p) (others old new db (Some next) has p.db apart)
    by_number true same =
        let at : db ≡ p.db = nat_same db p.db same in
        ap (λ (o : Option DbTree). at_place is_noted_at o p) (ap (get nat_cmp new) (sym at) ∙ replaced old new db (Some next) has)
        ∙ kept_at tree.levels next.levels kept p.level p.low p.node
        ∙ ap (λ (o : Option DbTree). at_place is_noted_at o p) (there ∙ ap (get nat_cmp old) at)

-- ---- nodes that are noted

-- a node of a tree whose nodes were noted is noted where it was dirty or above a dirty one
noted_one : (old new : List NodeRow) → AreNoted old new → (level : ℕ) (low : Name) (number : ℕ) → is_noted_at new level low number ≡ is_to_note_at old level low number
noted_one old new are level low number =
    ap (λ (o : Option Node). is_one (λ n. n.noted) o number) (ap (value_at low) (are.each level) ∙ noted_value (is_to_note old level) (row_of old level) low)
    ∙ by_node (value_at low (row_of old level))
  where
    by_node : (o : Option Node) → is_one (λ n. n.noted) (option_map (λ n. noted_as (is_to_note old level (low, n)) n) o) number ≡ is_one (λ n. is_to_note old level (low, n)) o number
    by_node None = refl
    by_node (Some n) = refl

-- notes do not matter for what is dirty
notes_exact : (due : List NodeAt) (old new : List NodeRow) (cells : List (Name × Cell)) → lows_of new ≡ lows_of old → AreNoted old new → AreExact due old cells → AreExact due new cells
notes_exact due old new cells lows are exact low n there out = by_node (value_at low (row_of old 0)) refl (sym (ap (value_at low) (are.each 0) ∙ noted_value (is_to_note old 0) (row_of old 0) low) ∙ there)
  where
    by_node : (o : Option Node) → value_at low (row_of old 0) ≡ o → option_map (λ m. noted_as (is_to_note old 0 (low, m)) m) o ≡ Some n → is_dirty n ≡ not (is_as_imaged (row_of new 0) cells (low, n))
    by_node None was is = absurd (none-some n is)
    by_node (Some m) was is =
        subst (λ (k : Node). is_dirty k ≡ not (is_as_imaged (row_of new 0) cells (low, k))) (same_Some (noted_as (is_to_note old 0 (low, m)) m) n is)
        (exact low m was out ∙ sym (ap not (imaged_same old new cells low m lows)))

module _ (old new : Forest) (are : AreNotedTrees old new) where
  -- what is the same of a tree and of one whose nodes are noted is the same of all trees
  by_tree : {A : Type 0} (f : Option DbTree → A) → ((t u : DbTree) → IsNotedTree t u → f (Some u) ≡ f (Some t)) → (o n : Option DbTree) → IsNotedOne o n → f n ≡ f o
  by_tree f same None None h = refl
  by_tree f same None (Some u) h = absurd h
  by_tree f same (Some t) None h = absurd h
  by_tree f same (Some t) (Some u) h = same t u h

  pub noted_cells : AreSame (cells_seen old) (cells_seen new)
  noted_cells d = by_tree (λ (o : Option DbTree). occupied (cells_of o)) (λ t u h. ap occupied h.cells) (get nat_cmp old d) (get nat_cmp new d) (are d)

  pub noted_trees : (d : ℕ) → is_there new d ≡ is_there old d
  noted_trees d = by_tree (λ (o : Option DbTree). is_some o) (λ t u h. refl) (get nat_cmp old d) (get nat_cmp new d) (are d)

  pub noted_waits : waits_in new ≡ waits_in old
  noted_waits = waits_same (shapes_of old) (shapes_of new) 4294967296 (λ d less.
      ap count_waiting (shapes_at new d less)
      ∙ by_tree (λ (o : Option DbTree). count_waiting (shape_of o)) (λ t u h. alike_levels t u (noted_alike t.levels u.levels h.noted)) (get nat_cmp old d) (get nat_cmp new d) (are d)
      ∙ sym (ap count_waiting (shapes_at old d less)))

  pub noted_places : (p : NodePlace) → is_noted_in new p ≡ is_to_note_in old p
  noted_places p = by_place (get nat_cmp old p.db) (get nat_cmp new p.db) (are p.db)
    where
      by_place : (o n : Option DbTree) → IsNotedOne o n → at_place is_noted_at n p ≡ at_place is_to_note_at o p
      by_place None None h = refl
      by_place None (Some u) h = absurd h
      by_place (Some t) None h = absurd h
      by_place (Some t) (Some u) h = noted_one t.levels u.levels h.noted p.level p.low p.node

  -- what the nodes of a tree were noted from, and its cells
  noted_tree_at : (d : ℕ) (tree : DbTree) → get nat_cmp new d ≡ Some tree → (t : DbTree) × (get nat_cmp old d ≡ Some t) × IsNotedTree t tree
  noted_tree_at d tree there = by_old (get nat_cmp old d) refl (are d)
    where
      by_old : (o : Option DbTree) → get nat_cmp old d ≡ o → IsNotedOne (get nat_cmp old d) (get nat_cmp new d) → (t : DbTree) × (get nat_cmp old d ≡ Some t) × IsNotedTree t tree
      by_old None is h = absurd (subst (λ (o : Option DbTree). IsNotedOne o (Some tree)) is (subst (λ (n : Option DbTree). IsNotedOne (get nat_cmp old d) n) there h))
      by_old (Some t) is h = (t, is, subst (λ (o : Option DbTree). IsNotedOne o (Some tree)) is (subst (λ (n : Option DbTree). IsNotedOne (get nat_cmp old d) n) there h))

  -- trees that fit a log fit it with entries more, also with the beginning of a checkpoint
  noted_fits : (es more : List Placed) (base last : ℕ) → ForestFits es base last (trees_at old) → ForestFits (es ++ more) base last (trees_at new)
  noted_fits es more base last f = record {
    home = f.home;
    fits = λ d tree there. fits_stay es more base f.home f.home last last d tree [] (λ number within. refl) (le_refl last) (fits_at d tree (noted_tree_at d tree there));
    writes = λ d tree there. writes_stay es more base d tree.cells (writes_at d tree (noted_tree_at d tree there));
    notes = λ d tree there start begun. (let n = noted_tree_at d tree there in notes_begun (may_stay (es ++ more) base start [] tree.levels) n.0.levels tree.levels n.2.parts n.2.noted);
  }
    where
      fits_at : (d : ℕ) (tree : DbTree) → (t : DbTree) × (get nat_cmp old d ≡ Some t) × IsNotedTree t tree → FitsTree es base (latest_at base es d) f.home last d tree.levels tree.cells
      fits_at d tree n =
          let fits = f.fits d n.0 n.1 in
          subst (λ cells. FitsTree es base (latest_at base es d) f.home last d tree.levels cells) (sym n.2.cells)
          (record {
            tree = noted_tree n.0.levels tree.levels n.2.noted es base (latest_at base es d) (kept_by n.0.cells) fits.tree;
            imaged = same_imaged es f.home last d [] n.0.levels tree.levels (noted_nodes n.0.levels tree.levels n.2.noted) fits.imaged;
            recorded = fits.recorded;
            exact = notes_exact [] n.0.levels tree.levels n.0.cells (noted_nodes n.0.levels tree.levels n.2.noted).lows n.2.noted fits.exact;
          })

      writes_at : (d : ℕ) (tree : DbTree) → (t : DbTree) × (get nat_cmp old d ≡ Some t) × IsNotedTree t tree → AreLogged es base d tree.cells
      writes_at d tree n = subst (AreLogged es base d) (sym n.2.cells) (f.writes d n.0 n.1)

-- ---- over the log

module _ {D : Type 0} (meaning : DiskMeaning D) where
  -- the log got an entry, and nodes of the trees were noted behind it
  pub noted_behind : (x y z : LogTrees D) (entry : Entry) (at : ℕ) → HasGot meaning x.log y.log entry at → y.trees ≡ x.trees → AreNotedTrees y.trees.forest z.trees.forest →
      z.trees.last_node ≡ y.trees.last_node → z.log ≡ y.log → GrewTrees meaning x z (entry ∷ [])
  noted_behind x y z entry at got trees are last log =
      subst (λ (l : LogBuffer D). TreesGrew meaning x.log l x.trees.last_node z.trees.last_node (trees_at x.trees.forest) (trees_at z.trees.forest) (entry ∷ [])) (sym log)
      (subst (λ (n : ℕ). TreesGrew meaning x.log y.log x.trees.last_node n (trees_at x.trees.forest) (trees_at z.trees.forest) (entry ∷ [])) (sym (last ∙ ap (λ (t : Trees). t.last_node) trees)) here)
    where
      kept : GrewFitting meaning x.log got.mid []
      kept = fitting_unchanged meaning x.log got.mid got.same

      noted : AreNotedTrees x.trees.forest z.trees.forest
      noted = subst (λ (t : Trees). AreNotedTrees t.forest z.trees.forest) trees are

      Before : LogFact
      Before es base = ForestFits es base x.trees.last_node (trees_at x.trees.forest)

      After : LogFact
      After es base = ForestFits es base x.trees.last_node (trees_at z.trees.forest)

      here : TreesGrew meaning x.log y.log x.trees.last_node x.trees.last_node (trees_at x.trees.forest) (trees_at z.trees.forest) (entry ∷ [])
      here = record {
        fitting = fitting_then meaning x.log got.mid y.log [] (entry ∷ []) kept got.grew;
        fits = carries_then meaning x.log got.mid [] (entry ∷ []) Before Before After kept (λ l base has begun f. f)
            (λ l base has begun f. (let a = is_appended meaning got.mid y.log entry l base at got.grew got.at_is has begun in
            subst (λ (es : List Placed). After es base) (sym a.is) (noted_fits x.trees.forest z.trees.forest noted (placed l) ((at, entry) ∷ []) base x.trees.last_node f)));
        still = λ none. absurd (some_entry entry none);
      }

-- ---- a node that was logged

not_one : (o : Option Node) (number : ℕ) → ((n : Node) → o ≡ Some n → is_dirty n ≡ false) → is_one is_dirty o number ≡ false
not_one None number clean = refl
not_one (Some n) number clean = ap (λ (b : Bool). (n.number == number) && b) (clean n refl) ∙ none (n.number == number)
  where
    none : (b : Bool) → (b && false) ≡ false
    none true = refl
    none false = refl

-- the node of an image that was logged by itself is clean
pub alone_clean : (result : Result (Unit {0}) TreeErr) (old new : Forest) (db : ℕ) (tree next : DbTree) (place : NodePlace) (image : NodeImage) → place.db ≡ db → IsAloneIn old place image → Some tree ≡ get nat_cmp old db →
    Replaces old new db (Some next) → (IsSome (value_at image.low (row_of tree.levels image.level)) → OnOk result (IsClean next.levels image.level image.low)) → OnOk result (is_dirty_in new place ≡ false)
alone_clean (Err e) old new db tree next place image own alone there has clean = tt
alone_clean (Ok u) old new db tree next place image own alone there has clean =
    ap (λ (o : Option DbTree). at_place is_dirty_at o place) (ap (get nat_cmp new) own ∙ replaced old new db (Some next) has) ∙ not_one (value_at place.low (row_of next.levels place.level)) place.node at
  where
    is : alone.0 ≡ tree
    is = same_Some alone.0 tree (sym alone.1 ∙ ap (get nat_cmp old) own ∙ sym there)

    at : IsClean next.levels place.level place.low
    at =
        subst (λ (level : ℕ). IsClean next.levels level place.low) alone.2.level
        (subst (IsClean next.levels image.level) alone.2.low (clean (subst (λ (t : DbTree). IsSome (value_at image.low (row_of t.levels image.level))) is alone.2.there)))

-- what holds holds where a call ends well
pub on_ok : {A E : Type 0} (result : Result A E) (P : Type 0) → P → OnOk result P
on_ok (Ok x) P holds = holds
on_ok (Err e) P holds = tt

pub le_from : (a b : ℕ) → a ≡ b → a ≤ b
le_from a b same = omega (arith, same)
