-- Trees whose nodes are split.
use Rattle.std.proofs.Common.{◌≡◌, ◌+◌, ◌<◌, ◌≤◌, ◌∷◌, [], ℕ, suc, List, take, drop, get_or, refl, ap, sym, ◌∙◌, length, arith, subst, zero, Bool, true, false, Some, ◌⊎◌, inl, inr}
use Rattle.std.specs.List.{slice_get}
use Rattle.std.proofs.lemmas.Bool.{cases_order}
use Rattle.std.proofs.lemmas.List.{drop_more, drop_all}
use Rattle.std.proofs.lemmas.Option.{none-some, same_Some}
use Rattle.je_order.specs.declared.name.Name.{Name}
use Rattle.record_map.specs.declared.cell.Cell.{Cell}
use Rattle.record_map.specs.Cells.{value_at}
use Rattle.tree_nodes.specs.Nodes.{NodeRow, least}
use Rattle.tree_nodes.specs.Levels.{row_of}
use Rattle.tree_nodes.specs.Lows.{lows_of, with_low}
use Rattle.db_tree.specs.declared.node_split.NodeSplit.{NodeSplit}
use Rattle.db_tree.specs.Images.{Placed}
use Rattle.db_tree.specs.Splits.{lows_split}
use Rattle.db_tree.specs.Splitting.{AreSplit, IsSplitAt}
use Rattle.db_tree.proofs.BackLaws.{split_level, take_whole}
use Rattle.db_tree.specs.Trees.{IsTree}
use Rattle.db_tree.specs.NodeImages.{number_in, number_of}
use Rattle.db_tree.specs.Numbers.{new_number, AreNumbered, IsRootNumbered, AreNewNumbered}
use Rattle.db_tree.specs.Waiting.{waiting_of}
use Rattle.db_tree.proofs.SplitLaws.{level_cases}

-- some nodes were split, and those that are left were not
pub record SplitsLeft (first : ℕ) (old new : List NodeRow) (was cells : List (Name × Cell)) (level : ℕ) (splits : List NodeSplit) : Type 0 where
  pub lows : lows_split level (drop level splits) (lows_of new) ≡ lows_split 0 splits (lows_of old)
  pub same : cells ≡ was
  pub waits : waiting_of new ≡ waiting_of old
  pub numbers : (k : ℕ) (split : NodeSplit) → k < level → slice_get splits k ≡ Some split → number_of new k split.middle ≡ new_number first k
  pub height : length new ≡ length old
  pub chain : AreSplit 0 (take level splits) old new
  pub tree : (es : Placed) (base : ℕ) (newest : Name → ℕ) → IsTree es base newest old was → IsTree es base newest new cells

none_split : {rows : List NodeRow} (splits : List NodeSplit) → AreSplit 0 (take 0 splits) rows rows
none_split [] = refl
none_split (s ∷ splits) = refl

pub splits_begin : (first : ℕ) (rows : List NodeRow) (cells : List (Name × Cell)) (splits : List NodeSplit) → SplitsLeft first rows rows cells cells 0 splits
splits_begin first rows cells splits = record {
  lows = refl;
  same = refl;
  waits = refl;
  numbers = λ k split less at. absurd (omega (arith, less));
  height = refl;
  chain = none_split splits;
  tree = λ es base newest h. h;
}

get_is : (splits : List NodeSplit) (k : ℕ) (split other : NodeSplit) → slice_get splits k ≡ Some split → get_or splits k other ≡ split
get_is [] k split other at = absurd (none-some split at)
get_is (s ∷ splits) zero split other at = same_Some s split at
get_is (s ∷ splits) (suc k) split other at = get_is splits k split other at

pub get_within : (splits : List NodeSplit) (k : ℕ) (split : NodeSplit) → slice_get splits k ≡ Some split → k < length splits
get_within [] k split at = absurd (none-some split at)
get_within (s ∷ splits) zero split at = omega arith
get_within (s ∷ splits) (suc k) split at = let less : k < length splits = get_within splits k split at in omega (arith, less)

pub splits_next : (first : ℕ) (old mid new : List NodeRow) (was before cells : List (Name × Cell)) (level : ℕ) (splits : List NodeSplit) (other : NodeSplit) → level < length splits →
    lows_of new ≡ with_low level (get_or splits level other).middle (lows_of mid) → waiting_of new ≡ waiting_of mid → cells ≡ before → ((es : Placed) (base : ℕ) (newest : Name → ℕ) → IsTree es base newest mid before → IsTree es base newest new cells) →
    IsSplitAt mid new level (get_or splits level other).middle → number_of new level (get_or splits level other).middle ≡ new_number first level → SplitsLeft first old mid was before level splits →
    SplitsLeft first old new was cells (level + 1) splits
splits_next first old mid new was before cells level splits other within put waits same keeps last number so_far = record {
  lows = ap (lows_split (level + 1) (drop (level + 1) splits)) put
      ∙ ap (λ (l : ℕ). lows_split l (drop (level + 1) splits) (with_low level (get_or splits level other).middle (lows_of mid))) next
      ∙ sym (ap (λ (l : List NodeSplit). lows_split level l (lows_of mid)) (drop_more splits level other within))
      ∙ so_far.lows;
  same = same ∙ so_far.same;
  waits = waits ∙ so_far.waits;
  numbers = λ k split less at. by_level k split less at (level_cases k level);
  height = last.put.height ∙ so_far.height;
  chain = split_level splits level other old mid new within so_far.chain last;
  tree = λ es base newest h. keeps es base newest (so_far.tree es base newest h);
}
  where
    next : level + 1 ≡ suc level
    next = omega arith

    by_level : (k : ℕ) (split : NodeSplit) → k < level + 1 → slice_get splits k ≡ Some split → (k ≡ level) ⊎ (k ≡ level → ⊥) → number_of new k split.middle ≡ new_number first k
    by_level k split less at (inl is) =
        subst (λ (l : ℕ). number_of new l split.middle ≡ new_number first l) (sym is)
        (ap (λ (s : NodeSplit). number_of new level s.middle) (sym (get_is splits level split other (ap (slice_get splits) (sym is) ∙ at))) ∙ number)
    by_level k split less at (inr apart) =
        let fewer : k < level = below k less apart in ap (λ (row : NodeRow). number_in (value_at split.middle row)) (last.put.others k apart) ∙ so_far.numbers k split fewer at
      where
        below : (k : ℕ) → k < level + 1 → (k ≡ level → ⊥) → k < level
        below k less apart = elim (cases_order k level) [
          | inl same ↦ absurd (apart same)
          | inr other ↦ elim other [
            | inl fewer ↦ fewer
            | inr more ↦ absurd (omega (arith, less, more))
          ]
        ]

pub splits_done : (first : ℕ) (old new : List NodeRow) (was cells : List (Name × Cell)) (level : ℕ) (splits : List NodeSplit) → length splits ≤ level → SplitsLeft first old new was cells level splits →
    lows_of new ≡ lows_split 0 splits (lows_of old)
splits_done first old new was cells level splits past so_far = sym (ap (λ (l : List NodeSplit). lows_split level l (lows_of new)) (drop_all level splits past)) ∙ so_far.lows

pub splits_chain : (first : ℕ) (old new : List NodeRow) (was cells : List (Name × Cell)) (level : ℕ) (splits : List NodeSplit) → length splits ≤ level → SplitsLeft first old new was cells level splits → AreSplit 0 splits old new
splits_chain first old new was cells level splits past so_far = subst (λ (l : List NodeSplit). AreSplit 0 l old new) (take_whole splits level past) so_far.chain

pub splits_numbered : (first : ℕ) (old new : List NodeRow) (was cells : List (Name × Cell)) (level : ℕ) (splits : List NodeSplit) → length splits ≤ level → SplitsLeft first old new was cells level splits → AreNumbered first splits new
splits_numbered first old new was cells level splits past so_far k split at =
    let within : k < length splits = get_within splits k split at in
    let less : k < level = omega (arith, within, past) in
    so_far.numbers k split less at

-- ---- with a root, or without one

pub numbered_low : (first : ℕ) (splits : List NodeSplit) (raised : Bool) (rows : List NodeRow) → raised ≡ false → AreNumbered first splits rows → AreNewNumbered first splits raised rows
numbered_low first splits raised rows is halves = record { halves = halves; root = subst (λ (t : Bool). IsRootNumbered t first (length splits) rows) (sym is) tt }

pub numbered_high : (first number : ℕ) (splits : List NodeSplit) (raised : Bool) (old mid new : List NodeRow) → raised ≡ true → AreNumbered first splits mid → length splits ≡ length old → length mid ≡ length old → number_of new (length mid) least ≡ number → number ≡ new_number first (length splits) →
    ((k : ℕ) → k < length mid → row_of new k ≡ row_of mid k) → AreNewNumbered first splits raised new
numbered_high first number splits raised old mid new is halves splits_height mid_height root made below = record {
  halves = λ k split at.
      let within : k < length splits = get_within splits k split at in
      let less : k < length mid = omega (arith, within, splits_height, mid_height) in
      ap (λ (row : NodeRow). number_in (value_at split.middle row)) (below k less) ∙ halves k split at;
  root = subst (λ (t : Bool). IsRootNumbered t first (length splits) new) (sym is) (ap (λ (l : ℕ). number_of new l least) height ∙ root ∙ made);
}
  where
    height : length splits ≡ length mid
    height = splits_height ∙ sym mid_height
