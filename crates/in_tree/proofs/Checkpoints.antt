-- What a checkpoint logs of the trees.
use Rattle.std.proofs.Common.{◌≡◌, ◌≤◌, ◌<◌, ◌⊎◌, ◌==◌, ◌&&◌, ◌++◌, ◌||◌, ℕ, suc, zero, cond, Bool, true, false, List, [], ◌∷◌, Option, None, Some, is_some, IsSome, length, map, filter, nat_lt, ◌-◌, refl, ap, ap₂, sym, subst, ◌∙◌, inl, inr, arith, not}
use Rattle.std.specs.List.{list_any}
use Rattle.std.specs.Ordering.{is_eq}
use Rattle.std.specs.Map.{keys_of}
use Rattle.je_order.specs.Order.{name_cmp}
use Rattle.std.proofs.Math.Nat.{le_refl}
use Rattle.std.proofs.lemmas.Option.{same_Some}
use Rattle.std.proofs.lemmas.Bool.{true≢false, eqb-true, ltb-false, ne_eqb}
use Rattle.je_order.specs.declared.name.Name.{Name}
use Rattle.je_disk.specs.DiskMeaning.{DiskMeaning}
use Rattle.log_entry.specs.declared.entry.Entry.{Entry}
use Rattle.log_entry.specs.declared.entry.Entry.TheVariants.{CkptStart, CkptEnd}
use Rattle.log_file.specs.Scan.{may_follow}
use Rattle.log_buffer.specs.declared.buffer.LogBuffer.{LogBuffer}
use Rattle.log_buffer.specs.Buffer.{IsUnchanged}
use Rattle.log_trees.specs.Placed.{Placed, placed}
use Rattle.log_trees.specs.Sound.{Home}
use Rattle.je_order.specs.Edges.{is_between}
use Rattle.je_order.specs.Edges.Edge.{At}
use Rattle.record_map.specs.Cells.{value_at, upper_edge}
use Rattle.record_map.proofs.NameLaws.{same_or_other, other_stays}
use Rattle.record_tree.specs.Logged.{AreImages, IsFront, IsImage}
use Rattle.record_tree.specs.declared.node_place.NodePlace.{NodePlace}
use Rattle.record_tree.specs.declared.checkpoint_end.CheckpointEnd.{CheckpointEnd}
use Rattle.record_tree.specs.Nodes.{NamesEnd}
use Rattle.tree_nodes.specs.declared.node.Node.{Node}
use Rattle.tree_nodes.specs.Levels.{row_of, AreParts}
use Rattle.tree_nodes.specs.Nodes.{NodeRow, least, low_behind}
use Rattle.tree_nodes.proofs.LevelLaws.{is_level}
use Rattle.db_tree.specs.declared.tree.DbTree.{DbTree}
use Rattle.db_tree.specs.NodeSteps.{IsNoted}
use Rattle.db_tree.specs.declared.node_image.NodeImage.{NodeImage}
use Rattle.db_tree.specs.NodeImages.{AreBelowLogged, children_of, node_of, IsNodeImage}
use Rattle.db_tree.specs.Waiting.{is_forced, is_same_name, waits_at}
use Rattle.tree_images.specs.Forest.{FitsDue, ForestDue, ForestFits}
use Rattle.tree_images.specs.NodeLaws.{AreChildrenLogged}
use Rattle.tree_images.specs.Roots.{MayBeRoot}
use Rattle.tree_images.proofs.ForestSteps.{forest_stays}
use Rattle.tree_images.proofs.NodeSteps.{more_due}
use Rattle.dirty_nodes.specs.Marks.{AllFrom, AllSince, is_before, is_marked_before}
use Rattle.dirty_nodes.specs.Forest.{IsMarkIn, IsMarkOrIn, IsSince}
use Rattle.dirty_nodes.proofs.Forests.{all_since_in, each_get}
use Rattle.in_tree.specs.declared.logged_trees.LogTrees.{LogTrees}
use Rattle.in_tree.specs.declared.trees.Trees.{Trees}
use Rattle.in_tree.specs.Carrying.{LogFact, carries_then}
use Rattle.tree_images.specs.Notes.{is_late, is_root_due, is_start, may_stay}
use Rattle.tree_images.proofs.LateMarks.{or_right}
use Rattle.tree_images.proofs.NotedNodes.{notes_weaker}
use Rattle.in_tree.specs.Checkpoints.{HasGot, IsAloneIn, IsAloneOf, IsCheckpointEntry, IsClean, IsEndEntry, MayEndTrees}
use Rattle.in_tree.specs.Fitting.{fitting_then, fitting_tried, fitting_unchanged}
use Rattle.in_tree.specs.Growing.{trees_at, none_due, GrewForest, TreesGrew}
use Rattle.in_tree.specs.Limits.{GrewFitting, TriedFitting}
use Rattle.in_tree.specs.Logging.{LogsRoom, TriesImage}
use Rattle.in_tree.specs.Placing.{due_one}
use Rattle.db_tree.proofs.NodesExact.{exact_more}
use Rattle.in_tree.proofs.Written.{even_sizes}
use Rattle.in_tree.proofs.Appending.{is_appended}
use Rattle.in_tree.proofs.DueLogging.{some_entry}
use Rattle.in_tree.specs.Forest.{Forest}

-- ---- dirty nodes

-- a node whose image was just noted is not dirty
pub noted_clean : (old new : List NodeRow) (level : ℕ) (low : Name) (at : ℕ) → IsSome (value_at low (row_of old level)) → IsNoted old new level low at →
    (level < length old → (n : Node) → value_at low (row_of new level) ≡ Some n → n.from ≡ None) → IsClean new level low
noted_clean old new level low at there noted cleared n is =
    let w = noted.here n is in
    let unmarked : n.from ≡ None = cleared (is_level old level low there) n is in
    ap₂ (λ (a b : Bool). a || b) (ap₂ (λ (f : Bool) (l : Option ℕ). f || not (is_some l)) w.2.forced w.2.last) (ap is_some unmarked)

-- ---- a node whose children do not wait

either_false : (a b : Bool) → (a || b) ≡ false → (a ≡ false) × (b ≡ false)
either_false true b h = absurd (true≢false h)
either_false false b h = (refl, h)

-- what holds of none of the names that pass a test does not hold of a name that passes it
none_passed : (p w : Name → Bool) (row : NodeRow) (x : Name) → IsSome (value_at x row) → p x ≡ true → list_any w (keys_of (filter (λ (f : Name × Node). p f.0) row)) ≡ false → w x ≡ false
none_passed p w [] x h is none = absurd (true≢false (sym h))
none_passed p w (e ∷ row) x h is none = by_test (p e.0) refl (λ rest some. none_passed p w row x some is rest) none
  where
    Rest : Type 0
    Rest = list_any w (keys_of (filter (λ (f : Name × Node). p f.0) row)) ≡ false → IsSome (value_at x row) → w x ≡ false

    by_name : (x ≡ e.0) ⊎ (is_eq (name_cmp x e.0) ≡ false) → Rest → list_any w (keys_of (filter (λ (f : Name × Node). p f.0) row)) ≡ false → (x ≡ e.0 → w e.0 ≡ false) → w x ≡ false
    by_name (inl same) rest none here = ap w same ∙ here same
    by_name (inr apart) rest none here = rest none (subst IsSome (other_stays x e.0 (Some e.1) (value_at x row) apart) h)

    by_test : (t : Bool) → p e.0 ≡ t → Rest → list_any w (keys_of (cond t (e ∷ filter (λ (f : Name × Node). p f.0) row) (filter (λ (f : Name × Node). p f.0) row))) ≡ false → w x ≡ false
    by_test true pe rest none =
        let parts = either_false (w e.0) (list_any w (keys_of (filter (λ (f : Name × Node). p f.0) row))) none in
        by_name (same_or_other x e.0) rest parts.1 (λ same. parts.0)
    by_test false pe rest none = by_name (same_or_other x e.0) rest none (λ same. absurd (true≢false (sym is ∙ ap p same ∙ pe)))

below_logged : (rows : List NodeRow) (level : ℕ) (low : Name) (children : List Name) → children ≡ children_of level low rows → AreBelowLogged rows level children →
    AreChildrenLogged rows (record { level = level; low = low } ∷ []) level low
below_logged rows zero low children is below = tt
below_logged rows (suc k) low children is below = λ q c there between. (
  sym (ap is_forced there) ∙ none_passed (is_between (At low) (upper_edge (low_behind low (row_of rows (suc k))))) (waits_at rows k) (row_of rows k) q (subst IsSome (sym there) refl) between
      (ap (list_any (waits_at rows k)) (sym is) ∙ below),
  ap (λ (t : Bool). (t && is_same_name low q) || false) (ne_eqb (suc k) k (λ same. omega (arith, same))),
)

-- ---- a checkpoint's end

-- an LSN that is a mark of a node is not before one since which images lack something
pub mark_since : (forest : Forest) (since lsn : ℕ) → IsSince forest since → IsMarkIn forest lsn → since ≤ lsn
mark_since forest since lsn all mark =
    let each = each_get (all_since_in since) forest all mark.db mark.tree mark.there in
    by_test (nat_lt lsn since) refl (either (mark.mark.node.forced) (is_marked_before mark.mark.node.from since) (each mark.mark.level mark.mark.low mark.mark.node mark.mark.there))
  where
    either : (a b : Bool) → (a || b) ≡ false → b ≡ false
    either true b h = absurd (true≢false h)
    either false b h = h

    by_test : (t : Bool) → nat_lt lsn since ≡ t → is_marked_before mark.mark.node.from since ≡ false → since ≤ lsn
    by_test false is h = ltb-false lsn since is
    by_test true is h = absurd (true≢false (sym is ∙ sym (ap (λ (o : Option ℕ). is_marked_before o since) mark.mark.from) ∙ h))

-- a mark is not before an LSN
from_at : (from : Option ℕ) (least lsn : ℕ) → is_marked_before from least ≡ false → from ≡ Some lsn → least ≤ lsn
from_at from least lsn unmarked is = ltb-false lsn least (sym (ap (λ (o : Option ℕ). is_marked_before o least) is) ∙ unmarked)

not_forced : (since : ℕ) (n : Node) → is_before since n ≡ false → n.forced ≡ false
not_forced since n h = by_test n.forced refl
  where
    by_test : (t : Bool) → n.forced ≡ t → n.forced ≡ false
    by_test false is = is
    by_test true is = absurd (true≢false (sym (ap (λ (f : Bool). f || is_marked_before n.from since) is) ∙ h))

-- a checkpoint's end may name the root of a tree
tree_may_end : (tree : DbTree) (since redo : ℕ) → AreParts tree.levels → AllSince since tree.levels → AllFrom redo tree.levels → MayBeRoot redo tree.levels
tree_may_end tree since redo parts all from = record {
  parts = parts;
  logged = λ n at top last. not_forced since n (all (length tree.levels - 1) least n top);
  marks = λ level x e lsn over is. from_at e.1.from redo lsn (from level e.0 e.1 over.there) is;
}

module _ {D : Type 0} where
  pub end_names : (x : LogTrees D) (end : CheckpointEnd) (bound redo since : ℕ) (entry : Entry) → IsSince x.trees.forest since → IsEndEntry x.log x.trees end bound redo entry →
      NamesEnd (λ (y : LogTrees D) n. IsSince y.trees.forest n) (λ (y : LogTrees D) n. IsMarkIn y.trees.forest n) (λ (y : LogTrees D) n roots. MayEndTrees y.log (trees_at y.trees.forest) n roots) (λ (y : LogTrees D). y.trees.last_node) end bound x redo entry
  end_names x end bound redo since entry all e = record {
    roots = e.roots;
    entry_is = e.entry_is;
    upto = e.upto;
    least = e.some;
    from = λ low is le. by_mark low is le e.some;
    may = record {
      roots_are = e.roots_are;
      each = λ d tree there. tree_may_end tree since redo (e.all d tree there).1 (each_get (all_since_in since) x.trees.forest all d tree there) (e.all d tree there).0;
      rising = λ d tree there. (e.all d tree there).2;
      below = (let upto = e.upto in let below = e.below in omega (arith, upto, below));
    };
  }
    where
      by_mark : (low : ℕ) → IsSince x.trees.forest low → low ≤ bound → IsMarkOrIn bound x.trees.forest redo → low ≤ redo
      by_mark low is le (inl same) = subst (λ (n : ℕ). low ≤ n) (sym same) le
      by_mark low is le (inr mark) = mark_since x.trees.forest low redo is mark

-- ---- entries

one_of : (images : List Entry) → length images ≡ 1 → (e : Entry) × (images ≡ e ∷ [])
one_of [] one = cc
one_of (e ∷ []) one = (e, refl)
one_of (e ∷ f ∷ more) one = cc

pub plain_follows : (e : Entry) → IsCheckpointEntry e → may_follow e ≡ true
plain_follows (CkptStart number) is = refl
plain_follows (CkptEnd number start redo last_txn last_node last_db summary roots) is = refl
plain_follows e is = absurd is

module _ {D : Type 0} (meaning : DiskMeaning D) where
  -- an entry was logged of which the trees have nothing
  pub plain_grows : (old new : LogBuffer D) (e : Entry) (at : ℕ) (before after : Trees) → HasGot meaning old new e at → is_start e ≡ false → after ≡ before →
      TreesGrew meaning old new before.last_node after.last_node (trees_at before.forest) (trees_at after.forest) (e ∷ [])
  plain_grows old new e at before after got plain trees_same =
      subst (λ (t : Trees). TreesGrew meaning old new before.last_node t.last_node (trees_at before.forest) (trees_at t.forest) (e ∷ [])) (sym trees_same) here
    where
      mid : LogBuffer D
      mid = got.mid

      kept : GrewFitting meaning old mid []
      kept = fitting_unchanged meaning old mid got.same

      Fits : LogFact
      Fits es base = ForestFits es base before.last_node (trees_at before.forest)

      here : TreesGrew meaning old new before.last_node before.last_node (trees_at before.forest) (trees_at before.forest) (e ∷ [])
      here = record {
        fitting = fitting_then meaning old mid new [] (e ∷ []) kept got.grew;
        fits = carries_then meaning old mid [] (e ∷ []) Fits Fits Fits kept (λ log base has begun f. f)
            (λ log base has begun f. (let a = is_appended meaning mid new e log base at got.grew got.at_is has begun in
            subst (λ (es : List Placed). Fits es base) (sym a.is) (forest_stays (placed log) ((at, e) ∷ []) base before.last_node before.last_node (trees_at before.forest) (trees_at before.forest) none_due (le_refl before.last_node) (λ d. refl) (plain, tt) f)));
        still = λ none. absurd (some_entry e none);
      }

  -- ---- an image of a node by itself

  -- a tree that fits, but for an image of a node whose children do not wait
  alone_due : (es : List Placed) (base : ℕ) (home : ℕ → Home) (last d : ℕ) (tree : DbTree) (place : NodePlace) (image : NodeImage) → place.db ≡ d → IsAloneOf tree place image → FitsDue es base home last d tree [] →
      FitsDue es base home last d tree (image ∷ [])
  alone_due es base home last d tree place image db alone fits = record {
    before = tree.levels;
    due = record {
      parts = alone.parts;
      rising = alone.rising;
      imaged = more_due es home last d [] (node_of image ∷ []) tree.levels (λ level low among. absurd (true≢false (sym among))) fits.imaged;
      recorded = fits.recorded;
      exact = exact_more [] (node_of image ∷ []) tree.levels tree.cells (λ low among. absurd (true≢false (sym among))) fits.exact;
      order = (alone.there, children_logged, tt);
      made = (subst (λ (b : ℕ). IsNodeImage b tree.levels tree.cells image) db alone.made, tt);
      lows = refl;
      numbers = λ level low. refl;
    };
    is_tree = fits.tree;
  }
    where
      children_logged : AreChildrenLogged tree.levels (node_of image ∷ []) image.level image.low
      children_logged = below_logged tree.levels image.level image.low image.children.items alone.made.children alone.below

  pub alone_grows : (old mid new : LogBuffer D) (place : NodePlace) (image : NodeImage) (before after : Trees) (forest : Forest) → IsUnchanged old mid → IsAloneIn before.forest place image → after ≡ before →
      LogsRoom meaning place.db (image ∷ []) mid new after.forest forest →
      (e : Entry) × IsImage e × TreesGrew meaning old new before.last_node after.last_node (trees_at before.forest) (trees_at forest) (e ∷ [])
  alone_grows old mid new place image before after forest same alone trees_same logs =
      subst (λ (t : Trees). LogsRoom meaning place.db (image ∷ []) mid new t.forest forest →
      (e : Entry) × IsImage e × TreesGrew meaning old new before.last_node t.last_node (trees_at before.forest) (trees_at forest) (e ∷ [])) (sym trees_same) by_logs logs
    where
      kept : GrewFitting meaning old mid []
      kept = fitting_unchanged meaning old mid same

      Fits : LogFact
      Fits es base = ForestFits es base before.last_node (trees_at before.forest)

      After : LogFact
      After es base = ForestFits es base before.last_node (trees_at forest)

      due : ℕ → List NodeImage
      due d = due_one place.db (image ∷ []) d ++ []

      owes : (es : List Placed) (base : ℕ) → Fits es base → ForestDue es base before.last_node (trees_at before.forest) due
      owes es base f = record {
        home = f.home;
        fits = λ d tree there. by_test d tree there (place.db == d) refl;
        writes = f.writes;
        notes = λ d tree there start begun.
            notes_weaker (may_stay es base start [] tree.levels) (may_stay es base start (map node_of (due d)) tree.levels) tree.levels
            (λ level x lsn h. or_right (is_root_due (map node_of (due d)) tree.levels level x) (is_late es base start lsn) h) (f.notes d tree there start begun);
      } where
        by_test : (d : ℕ) (tree : DbTree) → trees_at before.forest d ≡ Some tree → (t : Bool) → place.db == d ≡ t → FitsDue es base f.home before.last_node d tree (cond t (image ∷ []) [] ++ [])
        by_test d tree there true is =
            let own : place.db ≡ d = eqb-true place.db d is in
            let tree_is : alone.0 ≡ tree = same_Some alone.0 tree (sym alone.1 ∙ ap (trees_at before.forest) own ∙ there) in
            alone_due es base f.home before.last_node d tree place image own (subst (λ (t : DbTree). IsAloneOf t place image) tree_is alone.2) (f.fits d tree there)
        by_test d tree there false is = f.fits d tree there

      one_grows : (e : Entry) → GrewForest meaning mid new before.forest forest due none_due (e ∷ []) →
          TreesGrew meaning old new before.last_node before.last_node (trees_at before.forest) (trees_at forest) (e ∷ [])
      one_grows e grew = record {
        fitting = fitting_then meaning old mid new [] (e ∷ []) kept grew.fitting;
        fits = carries_then meaning old mid [] (e ∷ []) Fits (λ es base. ForestDue es base before.last_node (trees_at before.forest) due) After kept (λ log base has begun f. owes (placed log) base f)
            (grew.fits before.last_node);
        still = λ none. absurd (some_entry e none);
      }

      by_logs : LogsRoom meaning place.db (image ∷ []) mid new before.forest forest →
          (e : Entry) × IsImage e × TreesGrew meaning old new before.last_node before.last_node (trees_at before.forest) (trees_at forest) (e ∷ [])
      by_logs l =
          let one = one_of l.0 (even_sizes l.0 (image ∷ []) l.2) in
          let grew : GrewForest meaning mid new before.forest forest due none_due (one.0 ∷ []) =
          subst (GrewForest meaning mid new before.forest forest due none_due) one.1 (l.3 none_due) in (
            one.0,
            (subst AreImages one.1 l.1).0,
            one_grows one.0 grew,
          )

  -- the log failed with an image
  pub alone_tried : (old mid new : LogBuffer D) → IsUnchanged old mid → TriesImage meaning mid new →
      (image : Entry) × (front : List Entry) × IsImage image × IsFront front (image ∷ []) × TriedFitting meaning old new front
  alone_tried old mid new same tries = (
    tries.0,
    tries.0 ∷ [],
    tries.1,
    ([], refl),
    fitting_tried meaning old mid new [] (tries.0 ∷ []) (fitting_unchanged meaning old mid same) tries.2,
  )
