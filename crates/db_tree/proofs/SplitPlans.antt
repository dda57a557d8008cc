-- Which nodes are split, by what is read of them.
use Rattle.std.proofs.Common.{◌≡◌, ◌+◌, ◌-◌, ◌<◌, ◌∷◌, [], ℕ, zero, suc, List, Bool, true, false, cond, Option, None, Some, filter, length, drop, refl, ap, ap₂, sym, ◌∙◌, arith, option_map}
use Rattle.std.specs.Prelude.{◌/◌, nat_lt}
use Rattle.std.specs.List.{slice_get}
use Rattle.std.specs.Map.{keys_of}
use Rattle.std.proofs.lemmas.List.{drop_more}
use Rattle.std.proofs.lemmas.Map.Entries.{length-keys_of}
use Rattle.std.proofs.lemmas.Option.{none-some, same_Some, slice_get-map}
use Rattle.je_order.specs.Edges.{is_between}
use Rattle.je_order.specs.Edges.Edge.{At}
use Rattle.je_order.specs.declared.name.Name.{Name}
use Rattle.record_map.specs.declared.cell.Cell.{Cell}
use Rattle.record_map.specs.Cells.{count_if, upper_edge}
use Rattle.tree_nodes.specs.Nodes.{NodeRow, low_behind}
use Rattle.tree_nodes.specs.Levels.{row_of}
use Rattle.tree_nodes.specs.Lows.{lows_of, lows_at, low_up_to, low_after}
use Rattle.tree_nodes.proofs.LowLaws.{keys_passed, lows_at_is, low_after_is}
use Rattle.db_tree.specs.declared.node_split.NodeSplit.{NodeSplit}
use Rattle.db_tree.specs.Splits.{slot_names, middle_name, split_at, split_over, then_above, splits_from}

-- ---- the slots of a node

-- the slots of BINs are those of cells
pub bin_names : (p : Name → Bool) (cells : List (Name × Cell)) (lows : List (List Name)) (level : ℕ) → level ≡ 0 → keys_of (filter (λ e. p e.0) cells) ≡ filter p (slot_names cells lows level)
bin_names p cells lows level is = keys_passed p cells ∙ ap (λ (l : ℕ). filter p (slot_names cells lows l)) (sym is)

pub bins_counted : (p : Name → Bool) (cells : List (Name × Cell)) (lows : List (List Name)) (level : ℕ) → level ≡ 0 → length (filter (λ e. p e.0) cells) ≡ length (filter p (slot_names cells lows level))
bins_counted p cells lows level is = sym (length-keys_of (filter (λ (e : Name × Cell). p e.0) cells)) ∙ ap length (bin_names p cells lows level is)

pub bin_nth : (p : Name → Bool) (cells : List (Name × Cell)) (lows : List (List Name)) (level n : ℕ) → level ≡ 0 →
    option_map (λ e. e.0) (slice_get (filter (λ e. p e.0) cells) n) ≡ slice_get (filter p (slot_names cells lows level)) n
bin_nth p cells lows level n is =
    sym (slice_get-map (λ (e : Name × Cell). e.0) (filter (λ (e : Name × Cell). p e.0) cells) n) ∙ ap (λ (names : List Name). slice_get names n) (bin_names p cells lows level is)

-- those of INs are the lows of the level below
pub in_names : (p : Name → Bool) (cells : List (Name × Cell)) (rows : List NodeRow) (level : ℕ) → (level ≡ 0 → ⊥) →
    filter p (keys_of (row_of rows (level - 1))) ≡ filter p (slot_names cells (lows_of rows) level)
in_names p cells rows zero other = absurd (other refl)
in_names p cells rows (suc level) other =
    let below : suc level - 1 ≡ level = omega arith in
    ap (λ (l : ℕ). filter p (keys_of (row_of rows l))) below ∙ ap (filter p) (sym (lows_at_is rows level))

-- ---- the split of a node

pub split_found : (fanout : ℕ) (x : Name) (names : List Name) (rows : List NodeRow) (level : ℕ) (low : Name) (high middle : Option Name) → low ≡ low_up_to x (keys_of (row_of rows level)) →
    high ≡ low_behind low (row_of rows level) → middle ≡ middle_name fanout (filter (is_between (At low) (upper_edge high)) names) →
    split_at low high middle ≡ split_over fanout x names (lows_at (lows_of rows) level)
split_found fanout x names rows level low high middle under above is =
    ap (λ (l : Name). split_at l high middle) first
    ∙ ap (λ (h : Option Name). split_at (low_up_to x lows) h middle) second
    ∙ ap (split_at (low_up_to x lows) (low_after (low_up_to x lows) lows))
    (is ∙ ap₂ (λ (l : Name) (h : Option Name). middle_name fanout (filter (is_between (At l) (upper_edge h)) names)) first second)
  where
    lows : List Name
    lows = lows_at (lows_of rows) level

    first : low ≡ low_up_to x (lows_at (lows_of rows) level)
    first = under ∙ ap (low_up_to x) (sym (lows_at_is rows level))

    second : high ≡ low_after (low_up_to x (lows_at (lows_of rows) level)) (lows_at (lows_of rows) level)
    second = above ∙ low_after_is low (row_of rows level) ∙ ap₂ low_after first (sym (lows_at_is rows level))

pub split_made : (l low m middle : Name) (h high : Option Name) → l ≡ low → m ≡ middle → h ≡ high → split_at l h (Some m) ≡ split_at low high (Some middle)
split_made l low m middle h high same_low same_middle same_high =
    ap (λ (n : Name). split_at n h (Some m)) same_low ∙ ap (λ (o : Option Name). split_at low o (Some m)) same_high ∙ ap (λ (n : Name). split_at low high (Some n)) same_middle

-- ---- the splits, level by level

levels_left : (lows : List (List Name)) (level : ℕ) → level < length lows → drop level lows ≡ lows_at lows level ∷ drop (level + 1) lows
levels_left lows level within = drop_more lows level [] within

names_above : (cells : List (Name × Cell)) (lows : List (List Name)) (level : ℕ) → lows_at lows level ≡ slot_names cells lows (level + 1)
names_above cells lows level = let same : suc level ≡ level + 1 = omega arith in ap (slot_names cells lows) same

splits_here : (fanout : ℕ) (x : Name) (cells : List (Name × Cell)) (lows : List (List Name)) (level : ℕ) (split : Option NodeSplit) → level < length lows →
    split ≡ split_over fanout x (slot_names cells lows level) (lows_at lows level) →
    splits_from fanout x (slot_names cells lows level) (drop level lows) ≡ then_above split (splits_from fanout x (slot_names cells lows (level + 1)) (drop (level + 1) lows))
splits_here fanout x cells lows level split within is =
    ap (splits_from fanout x (slot_names cells lows level)) (levels_left lows level within)
    ∙ ap₂ (λ (s : Option NodeSplit) (names : List Name). then_above s (splits_from fanout x names (drop (level + 1) lows))) (sym is) (names_above cells lows level)

-- ---- a count that is wanted only from the fanout on

pub middle_none : (fanout : ℕ) (names : List Name) (o : Option ℕ) → o ≡ None → o ≡ count_if fanout (length names) → None ≡ middle_name fanout names
middle_none fanout names o none is = by_test (nat_lt (length names) fanout) (sym none ∙ is)
  where
    by_test : (t : Bool) → None ≡ cond t None (Some (length names)) → None ≡ cond t None (slice_get names (length names - length names / 2))
    by_test true h = refl
    by_test false h = absurd (none-some (length names) h)

pub middle_some : (fanout count : ℕ) (names : List Name) (o : Option ℕ) (found : Option Name) → o ≡ Some count → o ≡ count_if fanout (length names) → found ≡ slice_get names (count - count / 2) → found ≡ middle_name fanout names
middle_some fanout count names o found some is at = by_test (nat_lt (length names) fanout) (sym some ∙ is)
  where
    by_test : (t : Bool) → Some count ≡ cond t None (Some (length names)) → found ≡ cond t None (slice_get names (length names - length names / 2))
    by_test true h = absurd (none-some count (sym h))
    by_test false h = at ∙ ap (λ (n : ℕ). slice_get names (n - n / 2)) (same_Some count (length names) h)
