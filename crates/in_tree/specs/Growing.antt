-- Trees that fit their log while it grows.
use Rattle.std.proofs.Common.{◌≡◌, ◌≤◌, ℕ, List, [], ◌++◌, Option}
use Rattle.std.specs.Ordering.{nat_cmp}
use Rattle.std.specs.BTreeMap.{get}
use Rattle.je_disk.specs.DiskMeaning.{DiskMeaning}
use Rattle.je_disk.specs.Moments.{now}
use Rattle.log_entry.specs.declared.entry.Entry.{Entry}
use Rattle.log_buffer.specs.declared.buffer.LogBuffer.{LogBuffer}
use Rattle.log_file.specs.Log.{Log}
use Rattle.log_buffer.specs.Buffer.{disk_of, end_of}
use Rattle.log_buffer.specs.Flip.{pos_lsn}
use Rattle.log_buffer.specs.Growth.{longer}
use Rattle.log_buffer.specs.Log.{HasLog}
use Rattle.log_trees.specs.Placed.{Placed, placed}
use Rattle.log_trees.specs.Sound.{Home}
use Rattle.db_tree.specs.declared.node_image.NodeImage.{NodeImage}
use Rattle.db_tree.specs.declared.tree.DbTree.{DbTree}
use Rattle.tree_images.specs.Forest.{FitsDue, ForestDue, ForestFits}
use Rattle.tree_images.specs.Notes.{HasNotes}
use Rattle.in_tree.specs.Forest.{Forest}
use Rattle.in_tree.specs.Placing.{due_one}
use Rattle.in_tree.specs.Limits.{GrewFitting}
use Rattle.in_tree.specs.Fitting.{fitting_none, fitting_then, none_both}
use Rattle.in_tree.specs.Carrying.{LogFact, Carries, carries_here, carries_then}

-- the trees, by their databases' numbers
abbrev pub trees_at : Forest → ℕ → Option DbTree
trees_at forest d = get nat_cmp forest d

-- nothing is due
abbrev pub none_due : ℕ → List NodeImage
none_due d = []

-- the trees of all databases fit a log but for images that are due, with node numbers up to a last one
abbrev pub IsForestDue : ℕ → Forest → (ℕ → List NodeImage) → LogFact
IsForestDue last forest due es base = ForestDue es base last (trees_at forest) due

-- a tree fits a log but for images that are due, and what a checkpoint noted of it is noted still
abbrev pub IsFitDue : (ℕ → Home) → ℕ → ℕ → DbTree → List NodeImage → LogFact
IsFitDue home last d tree images es base = FitsDue es base home last d tree images × HasNotes es base images tree.levels

module _ {D : Type 0} (meaning : DiskMeaning D) where
  -- the log got images that were due of one tree: others are left
  pub record GrewTree (old new : LogBuffer D) (before after : DbTree) (images left : List NodeImage) (entries : List Entry) : Type 0 where
    pub fitting : GrewFitting meaning old new entries
    pub fits : (home : ℕ → Home) (last d : ℕ) (rest : List NodeImage) → Carries meaning old entries (IsFitDue home last d before (images ++ rest)) (IsFitDue home last d after (left ++ rest))
    -- where it got none they fit whatever they fitted
    pub still : entries ≡ [] → (es : List Placed) (base : ℕ) (home : ℕ → Home) (last d : ℕ) (rest : List NodeImage) → IsFitDue home last d before (images ++ rest) es base → IsFitDue home last d after (left ++ rest) es base

  pub grew_tree_none : (x : LogBuffer D) (tree : DbTree) (images : List NodeImage) → GrewTree x x tree tree images images []
  grew_tree_none x tree images = record {
    fitting = fitting_none meaning x;
    fits = λ home last d rest. carries_here meaning x (IsFitDue home last d tree (images ++ rest)) (IsFitDue home last d tree (images ++ rest)) (λ es base h. h);
    still = λ none es base home last d rest h. h;
  }

  pub grew_tree_then : (x y z : LogBuffer D) (s t u : DbTree) (i j k : List NodeImage) (a b : List Entry) → GrewTree x y s t i j a → GrewTree y z t u j k b → GrewTree x z s u i k (a ++ b)
  grew_tree_then x y z s t u i j k a b first second = record {
    fitting = fitting_then meaning x y z a b first.fitting second.fitting;
    fits = λ home last d rest. carries_then meaning x y a b (IsFitDue home last d s (i ++ rest)) (IsFitDue home last d t (j ++ rest)) (IsFitDue home last d u (k ++ rest))
        first.fitting (first.fits home last d rest) (second.fits home last d rest);
    still = λ none es base home last d rest h. (let parts = none_both a b none in second.still parts.1 es base home last d rest (first.still parts.0 es base home last d rest h));
  }

  -- the log got entries: trees that fit it but for what was due fit the longer one but for what is due
  pub record GrewForest (old new : LogBuffer D) (before after : Forest) (due next_due : ℕ → List NodeImage) (entries : List Entry) : Type 0 where
    pub fitting : GrewFitting meaning old new entries
    pub fits : (last : ℕ) → Carries meaning old entries (IsForestDue last before due) (IsForestDue last after next_due)
    pub still : entries ≡ [] → (es : List Placed) (base last : ℕ) → IsForestDue last before due es base → IsForestDue last after next_due es base

  pub grew_forest_none : (x : LogBuffer D) (forest : Forest) (due : ℕ → List NodeImage) → GrewForest x x forest forest due due []
  grew_forest_none x forest due = record {
    fitting = fitting_none meaning x;
    fits = λ last. carries_here meaning x (IsForestDue last forest due) (IsForestDue last forest due) (λ es base h. h);
    still = λ none es base last h. h;
  }

  pub grew_forest_then : (x y z : LogBuffer D) (f g h : Forest) (i j k : ℕ → List NodeImage) (a b : List Entry) → GrewForest x y f g i j a → GrewForest y z g h j k b → GrewForest x z f h i k (a ++ b)
  grew_forest_then x y z f g h i j k a b first second = record {
    fitting = fitting_then meaning x y z a b first.fitting second.fitting;
    fits = λ last. carries_then meaning x y a b (IsForestDue last f i) (IsForestDue last g j) (IsForestDue last h k) first.fitting (first.fits last) (second.fits last);
    still = λ none es base last fits. (let parts = none_both a b none in second.still parts.1 es base last (first.still parts.0 es base last fits));
  }

  -- the log got images that were due of a database's tree, with others
  abbrev pub GrewSlot : LogBuffer D → LogBuffer D → Forest → Forest → ℕ → List NodeImage → List Entry → Type 0
  GrewSlot old new before after db images entries = (due : ℕ → List NodeImage) → GrewForest old new before after (λ d. due_one db images d ++ due d) due entries

  -- The log got these entries, which fit it; trees that fitted it fit the longer one.
  pub record TreesGrew (old new : LogBuffer D) (last later : ℕ) (before after : ℕ → Option DbTree) (entries : List Entry) : Type 0 where
    pub fitting : GrewFitting meaning old new entries
    pub fits : (log : Log) (base : ℕ) → HasLog meaning.observable (now (meaning.history (disk_of old))) old log → base ≤ pos_lsn (end_of old) → ForestFits (placed log) base last before →
        ForestFits (placed (longer old entries log)) base later after
    -- where it got none they fit whatever they fitted
    pub still : entries ≡ [] → (es : List Placed) (base : ℕ) → ForestFits es base last before → ForestFits es base later after

  pub trees_grew_none : (x : LogBuffer D) (last : ℕ) (trees : ℕ → Option DbTree) → TreesGrew x x last last trees trees []
  trees_grew_none x last trees = record { fitting = fitting_none meaning x; fits = λ log base has begun fits. fits; still = λ none es base fits. fits }

  pub trees_grew_then : (x y z : LogBuffer D) (k m n : ℕ) (s t u : ℕ → Option DbTree) (a b : List Entry) → TreesGrew x y k m s t a → TreesGrew y z m n t u b → TreesGrew x z k n s u (a ++ b)
  trees_grew_then x y z k m n s t u a b first second = record {
    fitting = fitting_then meaning x y z a b first.fitting second.fitting;
    fits = carries_then meaning x y a b (λ es base. ForestFits es base k s) (λ es base. ForestFits es base m t) (λ es base. ForestFits es base n u) first.fitting first.fits second.fits;
    still = λ none es base fits. (let parts = none_both a b none in second.still parts.1 es base (first.still parts.0 es base fits));
  }
