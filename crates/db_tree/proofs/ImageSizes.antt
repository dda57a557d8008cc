-- How long images are.
use Rattle.std.proofs.Common.{◌≡◌, ◌+◌, ◌-◌, ◌∷◌, [], ℕ, zero, suc, List, IfOk, Result, Ok, Err, map, filter, length, refl, ap, ap₂, sym, ◌∙◌, arith, length-append}
use Rattle.std.specs.Int.{w64, to_be_bytes}
use Rattle.std.specs.List.{flat_map}
use Rattle.std.specs.Map.{keys_of}
use Rattle.je_order.specs.Edges.{Edge, is_between}
use Rattle.je_order.specs.declared.name.Name.{Name}
use Rattle.log_entry.specs.Encoding.{size_of}
use Rattle.log_entry.specs.Fields.{name_bytes}
use Rattle.log_entry.specs.Items.{child_slot_bytes}
use Rattle.log_entry.specs.declared.child_slot.ChildSlot.{ChildSlot}
use Rattle.log_entry.specs.declared.entry.Entry.{Entry}
use Rattle.log_entry.specs.declared.entry.Entry.TheVariants.{In, Bin}
use Rattle.record_map.specs.declared.cell.Cell.{Cell}
use Rattle.record_map.specs.Cells.{between_edges}
use Rattle.tree_nodes.specs.Nodes.{NodeRow}
use Rattle.tree_nodes.specs.Levels.{row_of, slot_of}
use Rattle.tree_nodes.specs.Lows.{lows_of, lows_at}
use Rattle.tree_nodes.proofs.LowLaws.{keys_passed, lows_at_is}
use Rattle.db_tree.specs.Content.{record_slots}
use Rattle.db_tree.specs.NodeImages.{kept_child, kept_children, kept_in}
use Rattle.db_tree.specs.Splits.{any_child, image_size}

-- a slot is as long whatever its LSN is
pub slot_length : (a b : ChildSlot) → a.name ≡ b.name → length (child_slot_bytes a) ≡ length (child_slot_bytes b)
slot_length a b same =
    length-append (name_bytes a.name) (to_be_bytes w64 a.child)
    ∙ ap (λ (n : ℕ). n + 8) (ap (λ (name : Name). length (name_bytes name)) same)
    ∙ sym (length-append (name_bytes b.name) (to_be_bytes w64 b.child))

-- slots of the same names are as long
pub slots_length : (a b : List ChildSlot) → map (λ slot. slot.name) a ≡ map (λ slot. slot.name) b → length (flat_map child_slot_bytes a) ≡ length (flat_map child_slot_bytes b)
slots_length [] [] same = refl
slots_length [] (y ∷ ys) same = absurd (omega (arith, ap length same))
slots_length (x ∷ xs) [] same = absurd (omega (arith, ap length same))
slots_length (x ∷ xs) (y ∷ ys) same =
    length-append (child_slot_bytes x) (flat_map child_slot_bytes xs)
    ∙ ap₂ (λ (m n : ℕ). m + n) (slot_length x y (head_same x.name y.name _ _ same)) (slots_length xs ys (tail_same x.name y.name _ _ same))
    ∙ sym (length-append (child_slot_bytes y) (flat_map child_slot_bytes ys))
  where
    first_or : Name → List Name → Name
    first_or n [] = n
    first_or n (m ∷ ms) = m

    rest_of : List Name → List Name
    rest_of [] = []
    rest_of (m ∷ ms) = ms

    head_same : (m n : Name) (ms ns : List Name) → m ∷ ms ≡ n ∷ ns → m ≡ n
    head_same m n ms ns h = ap (first_or m) h

    tail_same : (m n : Name) (ms ns : List Name) → m ∷ ms ≡ n ∷ ns → ms ≡ ns
    tail_same m n ms ns h = ap rest_of h

-- an IN's image is as long as its slots' names make it
pub in_size_is : (db number of_level : ℕ) (a b : List ChildSlot) → map (λ slot. slot.name) a ≡ map (λ slot. slot.name) b → size_of (In db number of_level a) ≡ size_of (In 0 0 0 b)
in_size_is db number of_level a b same = ap (λ (n : ℕ). 14 + (15 + n)) (slots_length a b same)

kept_names : (row : NodeRow) → map (λ (slot : ChildSlot). slot.name) (map kept_child (map slot_of row)) ≡ keys_of row
kept_names [] = refl
kept_names (e ∷ row) = ap (λ (names : List Name). e.0 ∷ names) (kept_names row)

any_names : (names : List Name) → map (λ (slot : ChildSlot). slot.name) (map any_child names) ≡ names
any_names [] = refl
any_names (name ∷ names) = ap (λ (l : List Name). name ∷ l) (any_names names)

pub bin_size : (db number : ℕ) (cells : List (Name × Cell)) (lows : List (List Name)) (level : ℕ) (from upto : Edge) → level ≡ 0 →
    size_of (Bin db number (record_slots (between_edges from upto cells))) ≡ image_size cells lows level from upto
bin_size db number cells lows level from upto is = ap (λ (l : ℕ). image_size cells lows l from upto) (sym is)

pub in_size : (db number : ℕ) (cells : List (Name × Cell)) (rows : List NodeRow) (level : ℕ) (from upto : Edge) → (level ≡ 0 → ⊥) →
    size_of (kept_in db number level from upto (row_of rows (level - 1))) ≡ image_size cells (lows_of rows) level from upto
in_size db number cells rows zero from upto other = absurd (other refl)
in_size db number cells rows (suc level) from upto other =
    let below : suc level - 1 ≡ level = omega arith in
    ap (λ (l : ℕ). size_of (kept_in db number (suc level) from upto (row_of rows l))) below
    ∙ in_size_is db number (suc level + 1) (kept_children from upto (row_of rows level)) (map any_child (filter (is_between from upto) (lows_at (lows_of rows) level)))
    (kept_names (between_edges from upto (row_of rows level))
    ∙ keys_passed (is_between from upto) (row_of rows level)
    ∙ ap (filter (is_between from upto)) (sym (lows_at_is rows level))
    ∙ sym (any_names (filter (is_between from upto) (lows_at (lows_of rows) level))))

pub size_if_ok : {E : Type 0} (r : Result Entry E) (entry : Entry) (size : ℕ) → size_of entry ≡ size → IfOk r (λ e. e ≡ entry) → IfOk r (λ e. size_of e ≡ size)
size_if_ok (Ok e) entry size is same = ap size_of same ∙ is
size_if_ok (Err x) entry size is same = tt
