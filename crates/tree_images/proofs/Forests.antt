-- The trees of all databases where one of them took the place of another one.
use Rattle.std.proofs.Common.{◌≡◌, ◌⊎◌, ◌++◌, ℕ, [], Some, sym, subst, ◌∙◌, inl, inr}
use Rattle.db_tree.proofs.SplitLaws.{level_cases}
use Rattle.tree_images.specs.Fits.{FitsTree}
use Rattle.tree_images.specs.Roots.{newest_at}
use Rattle.tree_images.specs.Laws.{ForestsStay}
use Rattle.tree_images.proofs.Longer.{trees_stay}

pub forests_stay : ForestsStay
forests_stay es more base home other last later d old new forest newer agrees le others here b tree there = by_database (level_cases b d)
  where
    by_database : (b ≡ d) ⊎ (b ≡ d → ⊥) → FitsTree (es ++ more) base (newest_at base (es ++ more) b) other later b tree.levels tree.cells
    by_database (inl same) =
        subst (λ (i : ℕ). FitsTree (es ++ more) base (newest_at base (es ++ more) i) other later i tree.levels tree.cells) (sym same) (here tree (subst (λ (i : ℕ). new i ≡ Some tree) same there))
    by_database (inr away) =
        trees_stay es more base (newest_at base es b) (newest_at base (es ++ more) b) home other last later b [] tree.levels tree.cells (newer b) agrees le (forest b tree (sym (others b away) ∙ there))
