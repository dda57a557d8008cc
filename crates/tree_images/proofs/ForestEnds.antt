-- The end of a checkpoint that names the roots of trees that fit the log.
use Rattle.std.proofs.Common.{◌≤◌, ◌⊎◌, inl, inr, ℕ, List}
use Rattle.std.proofs.Math.Nat.{le_trans}
use Rattle.je_order.specs.declared.name.Name.{Name}
use Rattle.tree_nodes.specs.declared.node.Node.{Node}
use Rattle.tree_nodes.specs.Nodes.{NodeRow}
use Rattle.db_tree.specs.Images.{Placed}
use Rattle.db_tree.specs.Content.{NameState, kept_by}
use Rattle.db_tree.specs.Trees.{IsBehind, IsTreeOf}
use Rattle.tree_images.specs.EndLaws.{ForestsMayEnd}
use Rattle.tree_images.specs.Forest.{latest_at}
use Rattle.tree_images.specs.Roots.{FitsForest, newest_at}
use Rattle.tree_images.specs.Laws.{AreRightRoots}
use Rattle.tree_images.proofs.LatestNewest.{latest_are_newest}
use Rattle.tree_images.proofs.Roots.{roots_right}

-- a greater bound keeps what is behind
behind_more : (base : ℕ) (newest newer : Name → ℕ) (n : Node) (x : Name) → newest x ≤ newer x → IsBehind base newest n x → IsBehind base newer n x
behind_more base newest newer n x le (f, is, inl upto) = (f, is, inl (le_trans upto le))
behind_more base newest newer n x le (f, is, inr low) = (f, is, inr low)

or_behind : {A : Type 0} (base : ℕ) (newest newer : Name → ℕ) (n : Node) (x : Name) → newest x ≤ newer x → A ⊎ IsBehind base newest n x → A ⊎ IsBehind base newer n x
or_behind base newest newer n x le (inl same) = inl same
or_behind base newest newer n x le (inr behind) = inr (behind_more base newest newer n x le behind)

tree_more : (es : Placed) (base : ℕ) (newest newer : Name → ℕ) (rows : List NodeRow) (held : Name → NameState) → ((x : Name) → newest x ≤ newer x) → IsTreeOf es base newest rows held → IsTreeOf es base newer rows held
tree_more es base newest newer rows held le t = record {
  reads = t.reads;
  leaf = λ x e over. or_behind base newest newer e.1 x (le x) (t.leaf x e over);
  inner = λ level x e c over below. or_behind base newest newer e.1 x (le x) (t.inner level x e c over below);
  names = t.names;
  know = t.know;
}

pub forests_may_end : ForestsMayEnd
forests_may_end first es base next at is_open rows is_live logged redo roots last trees s up below lt from fits are rows_are may = record {
  later = lt;
  from = from.from;
  upto = from.upto;
  file = from.file;
  covered = right.covered;
  own = from.own;
  home = fits.home;
  right = right.right;
  rise = are.rise;
} where
  newer : (d : ℕ) (x : Name) → latest_at base es d x ≤ newest_at base es d x
  newer d x = latest_are_newest es base next is_open rows is_live logged d x s up

  forest : FitsForest es base fits.home last trees
  forest d tree there =
      let f = fits.fits d tree there in
      record { tree = tree_more es base (latest_at base es d) (newest_at base es d) tree.levels (kept_by tree.cells) (newer d) f.tree; imaged = f.imaged; recorded = f.recorded; exact = f.exact }

  right : AreRightRoots es base at is_open rows fits.home redo roots
  right = roots_right es base at is_open rows fits.home last redo trees roots below from.from forest are rows_are may
