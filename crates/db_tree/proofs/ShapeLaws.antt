-- Trees, as far as their splits depend on them.
use Rattle.std.proofs.Common.{◌≡◌, List, ap, ◌∙◌}
use Rattle.je_order.specs.declared.name.Name.{Name}
use Rattle.record_map.specs.declared.cell.Cell.{Cell}
use Rattle.db_tree.specs.Splits.{Shape}

abbrev shape_by : List (Name × Cell) → List (List Name) → List (List Name) → Shape
shape_by cells lows waiting = record { cells = cells; lows = lows; waiting = waiting }

pub shape_is : (cells more : List (Name × Cell)) (lows others : List (List Name)) (waiting still : List (List Name)) → cells ≡ more → lows ≡ others → waiting ≡ still → shape_by cells lows waiting ≡ shape_by more others still
shape_is cells more lows others waiting still c l w =
    ap (λ (x : List (Name × Cell)). shape_by x lows waiting) c ∙ ap (λ (x : List (List Name)). shape_by more x waiting) l ∙ ap (λ (x : List (List Name)). shape_by more others x) w
