-- Searches among the cells that a transaction sees, and walks over them.
use Rattle.std.proofs.Common.{◌≡◌, ℕ, List, [], ◌∷◌, Bool, true, false, cond, not, ◌&&◌, find, Option, None, Some, option_map, map, filter, refl, ap, sym, ◌∙◌, Bor}
use Rattle.std.proofs.lemmas.Map.Made.{lookup-map_values}
use Rattle.std.specs.BTreeMap.{is_at}
use Rattle.std.specs.Map.{keys_of}
use Rattle.je_order.specs.Order.{name_cmp}
use Rattle.je_order.specs.declared.name.Name.{Name}
use Rattle.je_order.specs.declared.txn_id.TxnId.{TxnId}
use Rattle.je_order.specs.Edges.{Edge, is_below, is_between}
use Rattle.je_order.specs.Edges.Edge.{At, Behind, End}
use Rattle.record_map.specs.Cells.{value_at, IsRising, first_of, last_of, from_edge, below_edge}
use Rattle.record_map.specs.declared.sort_key.SortKey.{SortKey}
use Rattle.record_map.specs.declared.cell.Cell.{Cell}
use Rattle.record_tree.specs.Occupied.{Occupied, occupied_by, value_in}
use Rattle.store_model.specs.declared.isolation.Isolation.{Isolation}
use Rattle.log_replay.specs.Rows.{data_at}
use Rattle.txn_core.proofs.ReadingLaws.{found_from, passed_from, none_from, found_below, passed_below, none_below_edge, committed_at}
use Rattle.txn_views.specs.Seen.{seen_value, seen_cell, seen_rows, still_rises}

-- what is seen of the cells that pass a test of their names
seen_filter : (level : Isolation) (txn : TxnId) (p : Name → Bool) (cells : List (Name × Occupied)) →
    map (seen_cell level txn) (filter (λ e. p e.0) cells) ≡ filter (λ e. p e.0) (map (seen_cell level txn) cells)
seen_filter level txn p [] = refl
seen_filter level txn p (e ∷ cells) =
    by (p e.0) ∙ ap (λ (l : List (Name × Occupied)). cond (p e.0) (seen_cell level txn e ∷ l) l) (seen_filter level txn p cells)
  where
    rest : List (Name × Occupied)
    rest = filter (λ f. p f.0) cells

    by : (b : Bool) → map (seen_cell level txn) (cond b (e ∷ rest) rest) ≡ cond b (seen_cell level txn e ∷ map (seen_cell level txn) rest) (map (seen_cell level txn) rest)
    by true = refl
    by false = refl

first_map : (level : Isolation) (txn : TxnId) (cells : List (Name × Occupied)) → option_map (seen_cell level txn) (first_of cells) ≡ first_of (map (seen_cell level txn) cells)
first_map level txn [] = refl
first_map level txn (e ∷ cells) = refl

last_map : (level : Isolation) (txn : TxnId) (cells : List (Name × Occupied)) → option_map (seen_cell level txn) (last_of cells) ≡ last_of (map (seen_cell level txn) cells)
last_map level txn [] = refl
last_map level txn (e ∷ []) = refl
last_map level txn (e ∷ f ∷ cells) = last_map level txn (f ∷ cells)

-- ---- from an edge on

first_seen : (level : Isolation) (txn : TxnId) (edge : Edge) (o : Option (Name × Occupied)) (cells : List (Name × Occupied)) → o ≡ first_of (from_edge edge cells) →
    option_map (seen_cell level txn) o ≡ first_of (from_edge edge (map (seen_cell level txn) cells))
first_seen level txn edge o cells is =
    ap (option_map (seen_cell level txn)) is ∙ first_map level txn (from_edge edge cells) ∙ ap first_of (seen_filter level txn (λ n. is_between edge End n) cells)

pub found_next : (level : Isolation) (txn : TxnId) (edge : Edge) (e : Name × Occupied) (cells : List (Name × Occupied)) (value : List ℕ) → IsRising cells → Some e ≡ first_of (from_edge edge cells) →
    Some value ≡ seen_value level txn e.1 → Some (e.0, value) ≡ first_of (from_edge edge (seen_rows level txn cells))
found_next level txn edge e cells value up is has =
    found_from edge (seen_cell level txn e) (map (seen_cell level txn) cells) value (still_rises level txn cells up) (first_seen level txn edge (Some e) cells is) has

pub passed_next : (level : Isolation) (txn : TxnId) (edge : Edge) (e : Name × Occupied) (cells : List (Name × Occupied)) → IsRising cells → Some e ≡ first_of (from_edge edge cells) →
    None ≡ seen_value level txn e.1 → from_edge (Behind e.0) (seen_rows level txn cells) ≡ from_edge edge (seen_rows level txn cells)
passed_next level txn edge e cells up is none =
    passed_from edge (seen_cell level txn e) (map (seen_cell level txn) cells) (still_rises level txn cells up) (first_seen level txn edge (Some e) cells is) none

pub none_next : (level : Isolation) (txn : TxnId) (edge : Edge) (cells : List (Name × Occupied)) → None ≡ first_of (from_edge edge cells) → None ≡ first_of (from_edge edge (seen_rows level txn cells))
none_next level txn edge cells is = none_from edge (map (seen_cell level txn) cells) (first_seen level txn edge None cells is)

-- ---- below an edge

last_seen : (level : Isolation) (txn : TxnId) (edge : Edge) (o : Option (Name × Occupied)) (cells : List (Name × Occupied)) → o ≡ last_of (below_edge edge cells) →
    option_map (seen_cell level txn) o ≡ last_of (below_edge edge (map (seen_cell level txn) cells))
last_seen level txn edge o cells is =
    ap (option_map (seen_cell level txn)) is ∙ last_map level txn (below_edge edge cells) ∙ ap last_of (seen_filter level txn (λ n. is_below edge n) cells)

pub found_last : (level : Isolation) (txn : TxnId) (edge : Edge) (e : Name × Occupied) (cells : List (Name × Occupied)) (value : List ℕ) → IsRising cells → Some e ≡ last_of (below_edge edge cells) →
    Some value ≡ seen_value level txn e.1 → Some (e.0, value) ≡ last_of (below_edge edge (seen_rows level txn cells))
found_last level txn edge e cells value up is has =
    found_below edge (seen_cell level txn e) (map (seen_cell level txn) cells) value (still_rises level txn cells up) (last_seen level txn edge (Some e) cells is) has

pub passed_last : (level : Isolation) (txn : TxnId) (edge : Edge) (e : Name × Occupied) (cells : List (Name × Occupied)) → IsRising cells → Some e ≡ last_of (below_edge edge cells) →
    None ≡ seen_value level txn e.1 → below_edge (At e.0) (seen_rows level txn cells) ≡ below_edge edge (seen_rows level txn cells)
passed_last level txn edge e cells up is none =
    passed_below edge (seen_cell level txn e) (map (seen_cell level txn) cells) (still_rises level txn cells up) (last_seen level txn edge (Some e) cells is) none

pub none_last : (level : Isolation) (txn : TxnId) (edge : Edge) (cells : List (Name × Occupied)) → None ≡ last_of (below_edge edge cells) → None ≡ last_of (below_edge edge (seen_rows level txn cells))
none_last level txn edge cells is = none_below_edge edge (map (seen_cell level txn) cells) (last_seen level txn edge None cells is)

-- ---- one name

-- the data of a name, from its cell
pub data_seen : (level : Isolation) (txn : TxnId) (name : Name) (o : Option Occupied) (cells : List (Name × Occupied)) → IsRising cells → o ≡ value_at name cells →
    value_in (option_map (λ p. record { value = seen_value level txn p; write = p.write }) o) ≡ data_at name (seen_rows level txn cells)
data_seen level txn name o cells up is =
    let seen : Occupied → Occupied = λ p. record { value = seen_value level txn p; write = p.write } in
    ap (λ (found : Option Occupied). value_in (option_map seen found)) is
    ∙ sym (committed_at name (map (seen_cell level txn) cells) (still_rises level txn cells up) ∙ ap value_in (lookup-map_values seen (is_at (name_cmp name)) cells))

-- ---- occupied names

-- the first occupied name that is not below an edge
pub first_name : (edge : Edge) (cells : List (Name × Occupied)) → option_map (λ (e : Name × Occupied). e.0) (first_of (from_edge edge cells)) ≡ find (λ n. not (is_below edge n)) (keys_of cells)
first_name edge [] = refl
first_name edge (e ∷ cells) = by (is_below edge e.0) (first_name edge cells)
  where
    by : (b : Bool) → option_map (λ (f : Name × Occupied). f.0) (first_of (from_edge edge cells)) ≡ find (λ n. not (is_below edge n)) (keys_of cells) →
        option_map (λ (f : Name × Occupied). f.0) (first_of (cond (not b && true) (e ∷ from_edge edge cells) (from_edge edge cells))) ≡ cond (not b) (Some e.0) (find (λ n. not (is_below edge n)) (keys_of cells))
    by true rest = rest
    by false rest = refl

-- the name of the cell that was found
pub name_of_found : (held edge : Edge) (o : Option (Bor SortKey × Bor Cell)) (cells : List (Name × Occupied)) → held ≡ edge →
    option_map (λ p. (p.0.now, occupied_by p.1.now)) o ≡ first_of (from_edge held cells) → option_map (λ p. p.0.now) o ≡ find (λ n. not (is_below edge n)) (keys_of cells)
name_of_found held edge o cells same is =
    by o ∙ ap (option_map (λ (e : Name × Occupied). e.0)) is ∙ ap (λ (x : Edge). option_map (λ (e : Name × Occupied). e.0) (first_of (from_edge x cells))) same ∙ first_name edge cells
  where
    by : (o : Option (Bor SortKey × Bor Cell)) → option_map (λ p. p.0.now) o ≡ option_map (λ (e : Name × Occupied). e.0) (option_map (λ p. (p.0.now, occupied_by p.1.now)) o)
    by None = refl
    by (Some p) = refl
