-- The trees of all databases while the log grows and one of them changes.
use Rattle.std.proofs.Common.{◌≡◌, ◌≤◌, ◌⊎◌, ◌++◌, ◌||◌, ℕ, Bool, true, false, List, [], ◌∷◌, Option, None, Some, map, refl, sym, subst, ◌∙◌, inl, inr}
use Rattle.std.specs.Prelude.{IfSome, Box}
use Rattle.std.specs.Global.{Global}
use Rattle.std.proofs.lemmas.List.{append-nil}
use Rattle.std.proofs.Math.Nat.{le_trans}
use Rattle.je_order.specs.declared.name.Name.{Name}
use Rattle.record_map.specs.declared.cell.Cell.{Cell}
use Rattle.record_map.specs.declared.write.Write.{Write}
use Rattle.tree_nodes.specs.Nodes.{NodeRow}
use Rattle.log_trees.specs.Sound.{Home}
use Rattle.db_tree.specs.declared.node_image.NodeImage.{NodeImage}
use Rattle.db_tree.specs.declared.tree.DbTree.{DbTree}
use Rattle.db_tree.specs.Content.{kept_by}
use Rattle.db_tree.specs.Images.{Placed}
use Rattle.db_tree.specs.NodeImages.{node_of}
use Rattle.db_tree.specs.Trees.{IsTree}
use Rattle.db_tree.proofs.Longer.{longer}
use Rattle.db_tree.proofs.SplitLaws.{level_cases}
use Rattle.tree_images.specs.Forest.{latest_at, AreLogged, FitsDue, ForestDue, IsLoggedWrite}
use Rattle.tree_images.specs.Laws.{AgreesUpTo}
use Rattle.tree_images.specs.LogLaws.{AreDue}
use Rattle.tree_images.specs.Notes.{HasNotes, is_late, is_root_due, may_stay}
use Rattle.tree_images.proofs.Latest.{latest_rises, logged_rises}
use Rattle.tree_images.proofs.LateMarks.{HasNoStart, begun_back, changed_grows, late_grows}
use Rattle.tree_images.proofs.Longer.{imaged_stays, recorded_stays, trees_stay}
use Rattle.tree_images.proofs.NotedNodes.{notes_weaker}

-- ---- a longer log

pub tree_stays : (es more : Placed) (base d : ℕ) (rows : List NodeRow) (cells : List (Name × Cell)) → IsTree es base (latest_at base es d) rows cells →
    IsTree (es ++ more) base (latest_at base (es ++ more) d) rows cells
tree_stays es more base d rows cells is = longer es more base (latest_at base es d) (latest_at base (es ++ more) d) rows (kept_by cells) (latest_rises base es more d) is

pub due_stays : (es more : Placed) (home other : ℕ → Home) (last later d : ℕ) (before rows : List NodeRow) (cells : List (Name × Cell)) (images : List NodeImage) → AgreesUpTo last home other → last ≤ later →
    AreDue es home last d before rows cells images → AreDue (es ++ more) other later d before rows cells images
due_stays es more home other last later d before rows cells images agrees le due = record {
  parts = due.parts;
  rising = due.rising;
  imaged = imaged_stays es more home other last later d (map node_of images) rows agrees le due.imaged;
  recorded = recorded_stays es more d cells due.recorded;
  exact = due.exact;
  order = due.order;
  made = due.made;
  lows = due.lows;
  numbers = due.numbers;
}

-- a tree fits a longer log with more numbers, but for the same images
pub fits_stay : (es more : Placed) (base : ℕ) (home other : ℕ → Home) (last later d : ℕ) (tree : DbTree) (images : List NodeImage) → AgreesUpTo last home other → last ≤ later →
    FitsDue es base home last d tree images → FitsDue (es ++ more) base other later d tree images
fits_stay es more base home other last later d tree [] agrees le fits =
    trees_stay es more base (latest_at base es d) (latest_at base (es ++ more) d) home other last later d [] tree.levels tree.cells (latest_rises base es more d) agrees le fits
fits_stay es more base home other last later d tree (image ∷ images) agrees le is = record {
  before = is.before;
  due = due_stays es more home other last later d is.before tree.levels tree.cells (image ∷ images) agrees le is.due;
  is_tree = tree_stays es more base d tree.levels tree.cells is.is_tree;
}

-- and its cells' changes are logged still
pub writes_stay : (es more : Placed) (base d : ℕ) (cells : List (Name × Cell)) → AreLogged es base d cells → AreLogged (es ++ more) base d cells
writes_stay es more base d cells all x cell there = by_write cell.write (all x cell there)
  where
    by_write : (o : Option (Box Write Global)) → IfSome o (λ w. IsLoggedWrite es base d x w.value) → IfSome o (λ w. IsLoggedWrite (es ++ more) base d x w.value)
    by_write None h = h
    by_write (Some w) h = record { upto = le_trans h.upto (logged_rises base es more d x w.value.txn.0); own = changed_grows es more base w.value.txn.0 w.value.at h.own }

-- and what a checkpoint noted is noted still, where none begins
pub notes_stay : (es more : Placed) (base : ℕ) (images : List NodeImage) (rows : List NodeRow) → HasNoStart more → HasNotes es base images rows → HasNotes (es ++ more) base images rows
notes_stay es more base images rows none notes start begun =
    notes_weaker (may_stay es base start (map node_of images) rows) (may_stay (es ++ more) base start (map node_of images) rows) rows
    (λ level x lsn h. either_late level x lsn (is_root_due (map node_of images) rows level x) h) (notes start (begun_back es more base start none begun))
  where
    either_late : (level : ℕ) (x : Name) (lsn : ℕ) (b : Bool) → (b || is_late es base start lsn) ≡ true → (b || is_late (es ++ more) base start lsn) ≡ true
    either_late level x lsn true h = refl
    either_late level x lsn false h = late_grows es more base start lsn h

-- the same where nothing is logged
pub fits_here : (es : Placed) (base : ℕ) (home other : ℕ → Home) (last later d : ℕ) (tree : DbTree) (images : List NodeImage) → AgreesUpTo last home other → last ≤ later →
    FitsDue es base home last d tree images → FitsDue es base other later d tree images
fits_here es base home other last later d tree images agrees le fits =
    subst (λ (l : Placed). FitsDue l base other later d tree images) (append-nil es) (fits_stay es [] base home other last later d tree images agrees le fits)

-- ---- one tree changes

-- trees fit with these homes
abbrev pub FitsWith : Placed → ℕ → (ℕ → Home) → ℕ → (ℕ → Option DbTree) → (ℕ → List NodeImage) → Type 0
FitsWith es base home last trees due = (f : ForestDue es base last trees due) × (f.home ≡ home)

pub forest_step : (es more : Placed) (base last later d : ℕ) (old new : ℕ → Option DbTree) (due next_due : ℕ → List NodeImage) (other : ℕ → Home) (f : ForestDue es base last old due) →
    AgreesUpTo last f.home other → last ≤ later → ((b : ℕ) → (b ≡ d → ⊥) → new b ≡ old b) → ((b : ℕ) → (b ≡ d → ⊥) → next_due b ≡ due b) →
    ((tree : DbTree) → new d ≡ Some tree → FitsDue (es ++ more) base other later d tree (next_due d)) → ((tree : DbTree) → new d ≡ Some tree → AreLogged (es ++ more) base d tree.cells) →
    HasNoStart more → ((tree : DbTree) → new d ≡ Some tree → HasNotes (es ++ more) base (next_due d) tree.levels) → FitsWith (es ++ more) base other later new next_due
forest_step es more base last later d old new due next_due other f agrees le others same_due here writes none notes = (
  record {
    home = other;
    fits = λ b tree there. fits_by b tree there (level_cases b d);
    writes = λ b tree there. writes_by b tree there (level_cases b d);
    notes = λ b tree there. notes_by b tree there (level_cases b d);
  },
  refl,
)
  where
    fits_by : (b : ℕ) (tree : DbTree) → new b ≡ Some tree → (b ≡ d) ⊎ (b ≡ d → ⊥) → FitsDue (es ++ more) base other later b tree (next_due b)
    fits_by b tree there (inl same) =
        subst (λ (i : ℕ). FitsDue (es ++ more) base other later i tree (next_due i)) (sym same) (here tree (subst (λ (i : ℕ). new i ≡ Some tree) same there))
    fits_by b tree there (inr away) =
        subst (λ (l : List NodeImage). FitsDue (es ++ more) base other later b tree l) (sym (same_due b away))
        (fits_stay es more base f.home other last later b tree (due b) agrees le (f.fits b tree (sym (others b away) ∙ there)))

    writes_by : (b : ℕ) (tree : DbTree) → new b ≡ Some tree → (b ≡ d) ⊎ (b ≡ d → ⊥) → AreLogged (es ++ more) base b tree.cells
    writes_by b tree there (inl same) =
        subst (λ (i : ℕ). AreLogged (es ++ more) base i tree.cells) (sym same) (writes tree (subst (λ (i : ℕ). new i ≡ Some tree) same there))
    writes_by b tree there (inr away) = writes_stay es more base b tree.cells (f.writes b tree (sym (others b away) ∙ there))

    notes_by : (b : ℕ) (tree : DbTree) → new b ≡ Some tree → (b ≡ d) ⊎ (b ≡ d → ⊥) → HasNotes (es ++ more) base (next_due b) tree.levels
    notes_by b tree there (inl same) =
        subst (λ (i : ℕ). HasNotes (es ++ more) base (next_due i) tree.levels) (sym same) (notes tree (subst (λ (i : ℕ). new i ≡ Some tree) same there))
    notes_by b tree there (inr away) =
        subst (λ (l : List NodeImage). HasNotes (es ++ more) base l tree.levels) (sym (same_due b away)) (notes_stay es more base (due b) tree.levels none (f.notes b tree (sym (others b away) ∙ there)))

-- where nothing is logged
pub forest_here : (es : Placed) (base last later d : ℕ) (old new : ℕ → Option DbTree) (due next_due : ℕ → List NodeImage) (other : ℕ → Home) (f : ForestDue es base last old due) →
    AgreesUpTo last f.home other → last ≤ later → ((b : ℕ) → (b ≡ d → ⊥) → new b ≡ old b) → ((b : ℕ) → (b ≡ d → ⊥) → next_due b ≡ due b) →
    ((tree : DbTree) → new d ≡ Some tree → FitsDue es base other later d tree (next_due d)) → ((tree : DbTree) → new d ≡ Some tree → AreLogged es base d tree.cells) →
    ((tree : DbTree) → new d ≡ Some tree → HasNotes es base (next_due d) tree.levels) → FitsWith es base other later new next_due
forest_here es base last later d old new due next_due other f agrees le others same_due here writes notes =
    subst (λ (l : Placed). FitsWith l base other later new next_due) (append-nil es)
    (forest_step es [] base last later d old new due next_due other f agrees le others same_due
    (λ tree there. subst (λ (l : Placed). FitsDue l base other later d tree (next_due d)) (sym (append-nil es)) (here tree there))
    (λ tree there. subst (λ (l : Placed). AreLogged l base d tree.cells) (sym (append-nil es)) (writes tree there)) tt
    (λ tree there. subst (λ (l : Placed). HasNotes l base (next_due d) tree.levels) (sym (append-nil es)) (notes tree there)))

-- all trees are as they were, and the log is longer
pub forest_stays : (es more : Placed) (base last later : ℕ) (old new : ℕ → Option DbTree) (due : ℕ → List NodeImage) → last ≤ later → ((d : ℕ) → new d ≡ old d) → HasNoStart more → ForestDue es base last old due →
    ForestDue (es ++ more) base later new due
forest_stays es more base last later old new due le same none f = record {
  home = f.home;
  fits = λ d tree there. fits_stay es more base f.home f.home last later d tree (due d) (λ number within. refl) le (f.fits d tree (sym (same d) ∙ there));
  writes = λ d tree there. writes_stay es more base d tree.cells (f.writes d tree (sym (same d) ∙ there));
  notes = λ d tree there. notes_stay es more base (due d) tree.levels none (f.notes d tree (sym (same d) ∙ there));
}

pub forest_same : (es : Placed) (base last : ℕ) (old new : ℕ → Option DbTree) (due : ℕ → List NodeImage) → ((d : ℕ) → new d ≡ old d) → ForestDue es base last old due → ForestDue es base last new due
forest_same es base last old new due same f = record {
  home = f.home;
  fits = λ d tree there. f.fits d tree (sym (same d) ∙ there);
  writes = λ d tree there. f.writes d tree (sym (same d) ∙ there);
  notes = λ d tree there. f.notes d tree (sym (same d) ∙ there);
}
