-- The images of a log that trees reach.
use Rattle.std.specs.Prelude.{ℕ, zero, suc, List, [], ◌∷◌, Option, None, Some}
use Rattle.std.specs.List.{flat_map}
use Rattle.je_order.specs.declared.name.Name.{Name}
use Rattle.log_entry.specs.declared.entry.Entry.{Entry}
use Rattle.log_entry.specs.declared.entry.Entry.TheVariants.{BinDelta}
use Rattle.log_entry.specs.declared.root.Root.{Root}
use Rattle.log_trees.specs.Placed.{Placed, entry_at}
use Rattle.log_trees.specs.Images.{level_at}
use Rattle.log_trees.specs.Bounds.{least_name}
use Rattle.log_trees.specs.Trees.{children_at}

-- where the full image of a delta stands
abbrev pub full_image : Option Entry → List ℕ
full_image (Some (BinDelta db node full slots)) = full ∷ []
full_image other = []

-- an image of a BIN, and of a delta its full image too
abbrev pub bin_images : List Placed → ℕ → List ℕ
bin_images es at = at ∷ full_image (entry_at es at)

-- the images of the tree below an image that stands `above` levels above its BINs, and whose names lie within these bounds
abbrev pub images_below : List Placed → ℕ → Name → Option Name → ℕ → List ℕ
images_below es zero low high at = bin_images es at
images_below es (suc above) low high at = at ∷ flat_map (λ c. images_below es above c.low c.high c.at) (children_at es (suc (suc above)) low high at)

-- the images of the tree whose root's image stands at an LSN
abbrev pub images_by_level : List Placed → ℕ → ℕ → List ℕ
images_by_level es zero at = []
images_by_level es (suc above) at = images_below es above least_name None at

-- the images of one root's tree
abbrev pub images_of_root : List Placed → Root → List ℕ
images_of_root es root = images_by_level es (level_at es root.image) root.image
