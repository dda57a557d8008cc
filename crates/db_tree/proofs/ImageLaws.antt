-- The images of nodes.
use Rattle.std.proofs.Common.{◌≡◌, ◌-◌, ◌+◌, ◌++◌, ◌∷◌, [], ℕ, zero, suc, List, Bool, true, false, Option, None, Some, option_map, map, refl, ap, ap₂, sym, ◌∙◌, arith}
use Rattle.std.specs.List.{AllByRecursion}
use Rattle.std.specs.Map.{keys_of}
use Rattle.je_order.specs.Edges.Edge.{At}
use Rattle.je_order.specs.declared.name.Name.{Name}
use Rattle.log_entry.specs.Encoding.{size_of}
use Rattle.log_entry.specs.declared.entry.Entry.{Entry}
use Rattle.log_entry.specs.declared.entry.Entry.TheVariants.{In, Bin}
use Rattle.node_core.specs.declared.slot.Slot.{Slot}
use Rattle.record_map.specs.declared.cell.Cell.{Cell}
use Rattle.record_map.specs.Cells.{value_at, between_edges, upper_edge}
use Rattle.tree_nodes.specs.declared.node.Node.{Node}
use Rattle.tree_nodes.specs.Nodes.{NodeRow, low_behind}
use Rattle.tree_nodes.specs.Levels.{row_of, slot_of}
use Rattle.tree_nodes.specs.Lows.{lows_of, lows_at, low_after}
use Rattle.tree_nodes.proofs.LowLaws.{lows_at_is, low_after_is}
use Rattle.db_tree.specs.declared.node_at.NodeAt.{NodeAt}
use Rattle.db_tree.specs.declared.node_image.NodeImage.{NodeImage}
use Rattle.db_tree.specs.Content.{record_slots}
use Rattle.db_tree.specs.NodeImages.{kept_child, kept_in, number_in, number_of, entry_of, node_entry, children_of, node_of, sizes_in, IsNodeImage, AreNodeImages}
use Rattle.db_tree.specs.Shapes.{AreForced, forced_if}
use Rattle.db_tree.specs.Splits.{Shape, image_size, node_size}
use Rattle.db_tree.specs.Waiting.{is_among}
use Rattle.db_tree.proofs.ForcedLaws.{force_slots, force_behind, force_keys}
use Rattle.db_tree.proofs.ImageSizes.{bin_size, in_size}

-- ---- one image

pub children_none : (level : ℕ) (low : Name) (rows : List NodeRow) → level ≡ 0 → [] ≡ children_of level low rows
children_none level low rows is = ap (λ (l : ℕ). children_of l low rows) (sym is)

pub slot_names : (row : NodeRow) → map (λ (s : Slot). s.name) (map slot_of row) ≡ keys_of row
slot_names [] = refl
slot_names (e ∷ row) = ap (λ (l : List Name). e.0 ∷ l) (slot_names row)

pub children_are : (level : ℕ) (low : Name) (high : Option Name) (rows : List NodeRow) (slots : List Slot) → (level ≡ 0 → ⊥) → high ≡ low_behind low (row_of rows level) →
    slots ≡ map slot_of (between_edges (At low) (upper_edge high) (row_of rows (level - 1))) → map (λ (s : Slot). s.name) slots ≡ children_of level low rows
children_are zero low high rows slots other above are = absurd (other refl)
children_are (suc level) low high rows slots other above are =
    let below : suc level - 1 ≡ level = omega arith in
    ap (map (λ (s : Slot). s.name)) are
    ∙ slot_names (between_edges (At low) (upper_edge high) (row_of rows (suc level - 1)))
    ∙ ap₂ (λ (h : Option Name) (l : ℕ). keys_of (between_edges (At low) (upper_edge h) (row_of rows l))) above below

pub bin_is : (db number level : ℕ) (low : Name) (high : Option Name) (rows : List NodeRow) (cells : List (Name × Cell)) → level ≡ 0 → high ≡ low_behind low (row_of rows level) →
    Bin db number (record_slots (between_edges (At low) (upper_edge high) cells)) ≡ entry_of db number level low rows cells
bin_is db number level low high rows cells is above =
    ap (λ (h : Option Name). Bin db number (record_slots (between_edges (At low) (upper_edge h) cells))) (above ∙ ap (λ (l : ℕ). low_behind low (row_of rows l)) is)
    ∙ ap (λ (l : ℕ). entry_of db number l low rows cells) (sym is)

pub in_is : (db number level : ℕ) (low : Name) (high : Option Name) (rows : List NodeRow) (cells : List (Name × Cell)) (slots : List Slot) → (level ≡ 0 → ⊥) → high ≡ low_behind low (row_of rows level) →
    slots ≡ map slot_of (between_edges (At low) (upper_edge high) (row_of rows (level - 1))) → In db number (level + 1) (map kept_child slots) ≡ entry_of db number level low rows cells
in_is db number zero low high rows cells slots other above are = absurd (other refl)
in_is db number (suc level) low high rows cells slots other above are =
    let below : suc level - 1 ≡ level = omega arith in
    ap (λ (l : List Slot). In db number (suc level + 1) (map kept_child l)) are
    ∙ ap₂ (λ (h : Option Name) (l : ℕ). kept_in db number (suc level) (At low) (upper_edge h) (row_of rows l)) above below

-- the image of the node that a level has
pub image_is : (db level : ℕ) (low : Name) (n : Node) (rows : List NodeRow) (cells : List (Name × Cell)) (entry : Entry) → value_at low (row_of rows level) ≡ Some n → entry ≡ entry_of db n.number level low rows cells →
    entry ≡ node_entry db level low rows cells
image_is db level low n rows cells entry there is = is ∙ ap (λ (o : Option Node). entry_of db (number_in o) level low rows cells) (sym there)

-- ---- several images

pub all_more : (P : NodeImage → Type 0) (xs : List NodeImage) (x : NodeImage) → AllByRecursion P xs → P x → AllByRecursion P (xs ++ x ∷ [])
all_more P [] x all is = (is, tt)
all_more P (y ∷ xs) x all is = (all.0, all_more P xs x all.1 is)

-- ---- sizes

-- the image of a node is as long as the lows and the cells make it
pub entry_size : (db number level : ℕ) (low : Name) (rows : List NodeRow) (cells : List (Name × Cell)) →
    size_of (entry_of db number level low rows cells) ≡ image_size cells (lows_of rows) level (At low) (upper_edge (low_after low (lows_at (lows_of rows) level)))
entry_size db number zero low rows cells =
    bin_size db number cells (lows_of rows) 0 (At low) (upper_edge (low_behind low (row_of rows 0))) refl
    ∙ ap (λ (h : Option Name). image_size cells (lows_of rows) 0 (At low) (upper_edge h)) (low_after_is low (row_of rows 0) ∙ ap (low_after low) (sym (lows_at_is rows 0)))
entry_size db number (suc level) low rows cells =
    let below : level ≡ suc level - 1 = omega arith in
    ap (λ (l : ℕ). size_of (kept_in db number (suc level) (At low) (upper_edge (low_behind low (row_of rows (suc level)))) (row_of rows l))) below
    ∙ in_size db number cells rows (suc level) (At low) (upper_edge (low_behind low (row_of rows (suc level)))) (λ (h : suc level ≡ 0). absurd (omega (arith, h)))
    ∙ ap (λ (h : Option Name). image_size cells (lows_of rows) (suc level) (At low) (upper_edge h)) (low_after_is low (row_of rows (suc level)) ∙ ap (low_after low) (sym (lows_at_is rows (suc level))))

sizes_by : (db : ℕ) (rows : List NodeRow) (shape : Shape) (images : List NodeImage) → lows_of rows ≡ shape.lows → AllByRecursion (IsNodeImage db rows shape.cells) images → sizes_in images ≡ map (node_size shape) (map node_of images)
sizes_by db rows shape [] same all = refl
sizes_by db rows shape (x ∷ images) same all =
    ap₂ (λ (n : ℕ) (l : List ℕ). n ∷ l)
    (ap size_of all.0.entry
    ∙ entry_size db (number_of rows x.level x.low) x.level x.low rows shape.cells
    ∙ ap (λ (lows : List (List Name)). image_size shape.cells lows x.level (At x.low) (upper_edge (low_after x.low (lows_at lows x.level)))) same)
    (sizes_by db rows shape images same all.1)

pub sizes_are : (db : ℕ) (rows : List NodeRow) (shape : Shape) (nodes : List NodeAt) (images : List NodeImage) → lows_of rows ≡ shape.lows → AreNodeImages db rows shape.cells nodes images → sizes_in images ≡ map (node_size shape) nodes
sizes_are db rows shape nodes images same are = sizes_by db rows shape images same are.each ∙ ap (map (node_size shape)) are.nodes

-- ---- images of nodes that wait no more

pub number_kept : (t b : Bool) (o : Option Node) → number_in (option_map (forced_if t b) o) ≡ number_in o
number_kept t b None = refl
number_kept true b (Some n) = refl
number_kept false b (Some n) = refl

entry_kept : (b : Bool) (ns : List NodeAt) (old new : List NodeRow) (db number level : ℕ) (low : Name) (cells : List (Name × Cell)) → AreForced b ns old new → entry_of db number level low old cells ≡ entry_of db number level low new cells
entry_kept b ns old new db number zero low cells are = ap (λ (h : Option Name). Bin db number (record_slots (between_edges (At low) (upper_edge h) cells))) (sym (force_behind b ns old new 0 low are))
entry_kept b ns old new db number (suc level) low cells are =
    ap (λ (h : Option Name). kept_in db number (suc level) (At low) (upper_edge h) (row_of old level)) (sym (force_behind b ns old new (suc level) low are))
    ∙ ap (λ (l : List Slot). In db number (suc level + 1) (map kept_child l)) (sym (force_slots b ns old new level (At low) (upper_edge (low_behind low (row_of new (suc level)))) are))

children_kept : (b : Bool) (ns : List NodeAt) (old new : List NodeRow) (level : ℕ) (low : Name) → AreForced b ns old new → children_of level low old ≡ children_of level low new
children_kept b ns old new zero low are = refl
children_kept b ns old new (suc level) low are =
    ap (λ (h : Option Name). keys_of (between_edges (At low) (upper_edge h) (row_of old level))) (sym (force_behind b ns old new (suc level) low are))
    ∙ sym (force_keys b ns old new level (At low) (upper_edge (low_behind low (row_of new (suc level)))) are)

image_kept : (b : Bool) (ns : List NodeAt) (old new : List NodeRow) (db : ℕ) (cells : List (Name × Cell)) (image : NodeImage) → AreForced b ns old new → IsNodeImage db old cells image → IsNodeImage db new cells image
image_kept b ns old new db cells image are is = record {
  entry = is.entry
      ∙ ap (λ (n : ℕ). entry_of db n image.level image.low old cells) (sym (ap number_in (are.each image.level image.low) ∙ number_kept (is_among ns image.level image.low) b (value_at image.low (row_of old image.level))))
      ∙ entry_kept b ns old new db (number_of new image.level image.low) image.level image.low cells are;
  children = is.children ∙ children_kept b ns old new image.level image.low are;
}

pub images_kept : (b : Bool) (ns nodes : List NodeAt) (old new : List NodeRow) (db : ℕ) (cells : List (Name × Cell)) (images : List NodeImage) → AreForced b ns old new → AreNodeImages db old cells nodes images → AreNodeImages db new cells nodes images
images_kept b ns nodes old new db cells images forced are = record { nodes = are.nodes; each = each images are.each }
  where
    each : (l : List NodeImage) → AllByRecursion (IsNodeImage db old cells) l → AllByRecursion (IsNodeImage db new cells) l
    each [] all = tt
    each (x ∷ l) all = (image_kept b ns old new db cells x forced all.0, each l all.1)
