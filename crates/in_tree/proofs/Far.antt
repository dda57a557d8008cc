-- Where the log has no room it ends far behind.
use Rattle.std.proofs.Common.{◌≡◌, ◌≤◌, ◌<◌, ◌+◌, ◌*◌, ◌==◌, ◌++◌, ◌⊎◌, ℕ, zero, suc, List, [], ◌∷◌, Bool, true, false, cond, nat_lt, length, Option, None, Some, is_eq, ◌||◌, refl, ap, sym, ◌∙◌, inl, inr, arith}
use Rattle.std.specs.Ordering.{nat_cmp}
use Rattle.std.specs.BTreeMap.{get}
use Rattle.std.proofs.lemmas.Bool.{eq-eqb, ltb-true, le-ltb}
use Rattle.log_buffer.specs.declared.log_pos.LogPos.{LogPos}
use Rattle.log_buffer.specs.Buffer.{end_of, file_max_of, has_failed}
use Rattle.log_buffer.specs.Flip.{goes_in, end_after, end_after_all, behind, next_file}
use Rattle.record_tree.specs.declared.tree_change.TreeChange.{TreeChange}
use Rattle.record_tree.specs.declared.tree_err.TreeErr.{TreeErr}
use Rattle.record_tree.specs.declared.tree_err.TreeErr.TheVariants.{Full, IdsEnded}
use Rattle.db_tree.specs.Splits.{count_waiting}
use Rattle.db_tree.specs.Splits.{shape_with, image_sizes, passes_top}
use Rattle.db_tree.specs.Shapes.{new_shape}
use Rattle.db_tree.specs.Splits.{nodes_made}
use Rattle.db_tree.proofs.FewSplits.{images_few}
use Rattle.in_tree.specs.declared.logged_trees.LogTrees.{LogTrees}
use Rattle.in_tree.specs.Limits.{change_size, change_sizes, one_made, commit_sizes, sizes_for, end_behind, numbers_drawn, are_too_high, limit_behind}
use Rattle.in_tree.specs.Filling.{is_filled_too_high, numbers_filled, sizes_filled}
use Rattle.in_tree.specs.Observed.{limit_filling_in, limit_in, waits_of}
use Rattle.in_tree.specs.Shapes.{Shapes, shape_of, shapes_of, shapes_after}
use Rattle.in_tree.specs.Waits.{waits_below}
use Rattle.in_tree.proofs.FillReady.{few_rows}
use Rattle.in_tree.proofs.Forests.{number_cases}
use Rattle.in_tree.proofs.Waits.{waits_one}
use Rattle.in_tree.proofs.Preparation.{or_false_left, or_false_right}

-- each entry begins one file at most
file_one : (most : ℕ) (end : LogPos) (size : ℕ) → (end_after most end size).file ≤ end.file + 1
file_one most end size = by_test (goes_in most end.offset size)
  where
    by_test : (t : Bool) → (behind (cond t end (next_file end)) size).file ≤ end.file + 1
    by_test true = omega arith
    by_test false = omega arith

pub files_few : (most : ℕ) (end : LogPos) (sizes : List ℕ) → (end_after_all most end sizes).file ≤ end.file + length sizes
files_few most end [] = omega arith
files_few most end (size ∷ sizes) = let one = file_one most end size in let rest = files_few most (end_after most end size) sizes in omega (arith, one, rest)

commits_many : (owed : ℕ) → length (commit_sizes owed) ≡ owed
commits_many zero = refl
commits_many (suc n) = let rest = commits_many n in omega (arith, rest)

-- the databases' numbers that changes have are below this one
above_all : List TreeChange → ℕ
above_all [] = 0
above_all (c ∷ changes) = suc c.db + above_all changes

-- changes need no more images than nodes wait, and 129 each
few_sizes : (fanout n : ℕ) (shapes : Shapes) (changes : List TreeChange) → above_all changes ≤ n → are_too_high fanout shapes changes ≡ false → length (change_sizes fanout shapes changes) ≤ waits_below shapes n + 130 * length changes
unfolding above_all
few_sizes fanout n shapes [] within low = omega arith
few_sizes fanout n shapes (c ∷ changes) within low =
    let first : passes_top fanout c.name (shapes c.db) ≡ false = or_false_left (passes_top fanout c.name (shapes c.db)) (are_too_high fanout (shapes_after fanout shapes c) changes) low in
    let others : are_too_high fanout (shapes_after fanout shapes c) changes ≡ false = or_false_right (passes_top fanout c.name (shapes c.db)) (are_too_high fanout (shapes_after fanout shapes c) changes) low in
    let law = images_few fanout c.name (shapes c.db) first in
    let rest = few_sizes fanout n (shapes_after fanout shapes c) changes (omega (arith, within)) others in
    let sum : waits_below (shapes_after fanout shapes c) n + count_waiting (shapes c.db) ≡ waits_below shapes n + count_waiting (shapes_after fanout shapes c c.db) = waits_one shapes (shapes_after fanout shapes c) n c.db (omega (arith, within)) (λ d apart. by_number d apart (number_cases c.db d)) in
    let here : count_waiting (shapes_after fanout shapes c c.db) ≡ count_waiting (shape_with fanout c.name (shapes c.db)) = ap (λ (t : Bool). count_waiting (cond t (shape_with fanout c.name (shapes c.db)) (shapes c.db))) (eq-eqb c.db c.db refl) in
    let whole = length_sum (image_sizes fanout c.name (shapes c.db)) (change_size c) (change_sizes fanout (shapes_after fanout shapes c) changes) in
    omega (arith, law, rest, sum, here, whole)
  where
    by_number : (d : ℕ) → (c.db ≡ d → ⊥) → (c.db ≡ d) ⊎ ((d == c.db ≡ false) × (is_eq (nat_cmp c.db d) ≡ false)) → count_waiting (shapes_after fanout shapes c d) ≡ count_waiting (shapes d)
    by_number d apart (inl is) = absurd (apart is)
    by_number d apart (inr other) = ap (λ (t : Bool). count_waiting (cond t (shape_with fanout c.name (shapes c.db)) (shapes d))) other.0

    length_sum : (a : List ℕ) (x : ℕ) (b : List ℕ) → length (a ++ x ∷ b) ≡ length a + (length b + 1)
    length_sum [] x b = omega arith
    length_sum (y ∷ a) x b = let more = length_sum a x b in omega (arith, more)

-- nothing waits in databases beyond the numbers that they have
waits_beyond : (shapes : Shapes) (m k : ℕ) → ((d : ℕ) → m ≤ d → count_waiting (shapes d) ≡ 0) → waits_below shapes (m + k) ≡ waits_below shapes m
unfolding waits_below
waits_beyond shapes m zero none = ap (waits_below shapes) (omega arith)
waits_beyond shapes m (suc k) none =
    let rest = waits_beyond shapes m k none in
    let here = none (m + k) (omega arith) in
    ap (waits_below shapes) (next m k) ∙ add_none (count_waiting (shapes (m + k))) (waits_below shapes (m + k)) here ∙ rest
  where
    next : (a b : ℕ) → a + suc b ≡ suc (a + b)
    next a b = omega arith

    add_none : (a b : ℕ) → a ≡ 0 → a + b ≡ b
    add_none a b h = omega (arith, h)

apart_none : {e : TreeErr} → None ≡ Some e → ⊥
apart_none h = cc

apart_ended : Some IdsEnded ≡ Some Full → ⊥
apart_ended h = cc

apart_rest : (t : Bool) → cond t (Some IdsEnded) None ≡ Some Full → ⊥
apart_rest true h = cc
apart_rest false h = cc

module _ {D : Type 0} where
  none_beyond : (x : LogTrees D) (d : ℕ) → 4294967296 ≤ d → count_waiting (shapes_of x.trees.forest d) ≡ 0
  none_beyond x d far = ap (λ (t : Bool). count_waiting (cond t (shape_of (get nat_cmp x.trees.forest d)) new_shape)) (le-ltb d 4294967296 far)

  abbrev rest_of : LogTrees D → List TreeChange → ℕ → Option TreeErr
  rest_of x changes owed = limit_behind x.log (sizes_for x.trees.fanout (shapes_of x.trees.forest) changes owed) (x.trees.last_node + numbers_drawn x.trees.fanout (shapes_of x.trees.forest) changes)

  by_limits : (x : LogTrees D) (changes : List TreeChange) (owed : ℕ) (failed high files : Bool) → has_failed x.log ≡ failed → are_too_high x.trees.fanout (shapes_of x.trees.forest) changes ≡ high →
      nat_lt 0xfffffffe (end_behind x.log (sizes_for x.trees.fanout (shapes_of x.trees.forest) changes owed)) ≡ files → limit_in x changes owed ≡ Some Full →
      (has_failed x.log ≡ false) × (are_too_high x.trees.fanout (shapes_of x.trees.forest) changes ≡ false) × (0xfffffffe < end_behind x.log (sizes_for x.trees.fanout (shapes_of x.trees.forest) changes owed))
  by_limits x changes owed true high files works low far full = absurd (apart_none (sym (ap (λ (t : Bool). cond t None (cond (are_too_high x.trees.fanout (shapes_of x.trees.forest) changes) (Some IdsEnded) (rest_of x changes owed))) works) ∙ full))
  by_limits x changes owed false true files works low far full =
      absurd (apart_ended (sym (ap (λ (t : Bool). cond t None (cond (are_too_high x.trees.fanout (shapes_of x.trees.forest) changes) (Some IdsEnded) (rest_of x changes owed))) works ∙ ap (λ (t : Bool). cond t (Some IdsEnded) (rest_of x changes owed)) low) ∙ full))
  by_limits x changes owed false false true works low far full = (works, low, ltb-true 0xfffffffe (end_behind x.log (sizes_for x.trees.fanout (shapes_of x.trees.forest) changes owed)) far)
  by_limits x changes owed false false false works low far full =
      absurd (apart_rest (nat_lt 0x7fffffffffffffff (x.trees.last_node + numbers_drawn x.trees.fanout (shapes_of x.trees.forest) changes))
      (sym (ap (λ (t : Bool). cond t None (cond (are_too_high x.trees.fanout (shapes_of x.trees.forest) changes) (Some IdsEnded) (rest_of x changes owed))) works
      ∙ ap (λ (t : Bool). cond t (Some IdsEnded) (rest_of x changes owed)) low
      ∙ ap (λ (t : Bool). cond t (Some Full) (cond (nat_lt 0x7fffffffffffffff (x.trees.last_node + numbers_drawn x.trees.fanout (shapes_of x.trees.forest) changes)) (Some IdsEnded) None)) far) ∙ full))

  -- where the log has no room for changes, it ends as far behind as entries may begin files
  pub full_is_far : (x : LogTrees D) (changes : List TreeChange) (owed : ℕ) → limit_in x changes owed ≡ Some Full →
      (has_failed x.log ≡ false) × (0xfffffffe < (end_of x.log).file + (waits_of x + (130 * length changes + owed)))
  full_is_far x changes owed full =
      let parts = by_limits x changes owed (has_failed x.log) (are_too_high x.trees.fanout (shapes_of x.trees.forest) changes) (nat_lt 0xfffffffe (end_behind x.log (sizes_for x.trees.fanout (shapes_of x.trees.forest) changes owed))) refl refl refl full in
      let files = files_few (file_max_of x.log) (end_of x.log) (sizes_for x.trees.fanout (shapes_of x.trees.forest) changes owed) in
      let sizes = few_sizes x.trees.fanout (4294967296 + above_all changes) (shapes_of x.trees.forest) changes (omega arith) parts.1 in
      let same = waits_beyond (shapes_of x.trees.forest) 4294967296 (above_all changes) (none_beyond x) in
      let whole = length_more_sizes (change_sizes x.trees.fanout (shapes_of x.trees.forest) changes) (commit_sizes owed) in
      let commits = commits_many owed in
      (parts.0, (let most = parts.2 in omega (arith, files, sizes, same, whole, commits, most)))
    where
      length_more_sizes : (a b : List ℕ) → length (a ++ b) ≡ length a + length b
      length_more_sizes [] b = omega arith
      length_more_sizes (e ∷ a) b = let rest = length_more_sizes a b in omega (arith, rest)

  -- ---- where they make a database and fill it

  abbrev filling_sizes : LogTrees D → TreeChange → List TreeChange → ℕ → List ℕ
  filling_sizes x c rows owed = image_sizes x.trees.fanout c.name (shapes_of x.trees.forest c.db) ++ change_size c ∷ (sizes_filled x.trees.fanout new_shape rows ++ commit_sizes owed)

  abbrev filling_last : LogTrees D → TreeChange → List TreeChange → ℕ
  filling_last x c rows = x.trees.last_node + (nodes_made x.trees.fanout c.name (shapes_of x.trees.forest c.db) + one_made c.makes + numbers_filled x.trees.fanout new_shape rows)

  abbrev is_too_high : LogTrees D → TreeChange → List TreeChange → Bool
  is_too_high x c rows = passes_top x.trees.fanout c.name (shapes_of x.trees.forest c.db) || is_filled_too_high x.trees.fanout new_shape rows

  abbrev filling_rest : LogTrees D → TreeChange → List TreeChange → ℕ → Option TreeErr
  filling_rest x c rows owed = limit_behind x.log (filling_sizes x c rows owed) (filling_last x c rows)

  by_filling : (x : LogTrees D) (c : TreeChange) (rows : List TreeChange) (owed : ℕ) (failed high files : Bool) → has_failed x.log ≡ failed → is_too_high x c rows ≡ high →
      nat_lt 0xfffffffe (end_behind x.log (filling_sizes x c rows owed)) ≡ files → limit_filling_in x (c ∷ rows) owed ≡ Some Full →
      (has_failed x.log ≡ false) × (is_too_high x c rows ≡ false) × (0xfffffffe < end_behind x.log (filling_sizes x c rows owed))
  by_filling x c rows owed true high files works low far full = absurd (apart_none (sym (ap (λ (t : Bool). cond t None (cond (is_too_high x c rows) (Some IdsEnded) (filling_rest x c rows owed))) works) ∙ full))
  by_filling x c rows owed false true files works low far full =
      absurd (apart_ended (sym (ap (λ (t : Bool). cond t None (cond (is_too_high x c rows) (Some IdsEnded) (filling_rest x c rows owed))) works ∙ ap (λ (t : Bool). cond t (Some IdsEnded) (filling_rest x c rows owed)) low) ∙ full))
  by_filling x c rows owed false false true works low far full = (works, low, ltb-true 0xfffffffe (end_behind x.log (filling_sizes x c rows owed)) far)
  by_filling x c rows owed false false false works low far full =
      absurd (apart_rest (nat_lt 0x7fffffffffffffff (filling_last x c rows))
      (sym (ap (λ (t : Bool). cond t None (cond (is_too_high x c rows) (Some IdsEnded) (filling_rest x c rows owed))) works
      ∙ ap (λ (t : Bool). cond t (Some IdsEnded) (filling_rest x c rows owed)) low
      ∙ ap (λ (t : Bool). cond t (Some Full) (cond (nat_lt 0x7fffffffffffffff (filling_last x c rows)) (Some IdsEnded) None)) far) ∙ full))

  -- so it is for changes that make a database and fill it
  pub filling_is_far : (x : LogTrees D) (changes : List TreeChange) (owed : ℕ) → limit_filling_in x changes owed ≡ Some Full →
      (has_failed x.log ≡ false) × (0xfffffffe < (end_of x.log).file + (waits_of x + (130 * length changes + owed)))
  filling_is_far x [] owed full = absurd (apart_none full)
  filling_is_far x (c ∷ rows) owed full =
      let shapes = shapes_of x.trees.forest in
      let parts = by_filling x c rows owed (has_failed x.log) (is_too_high x c rows) (nat_lt 0xfffffffe (end_behind x.log (filling_sizes x c rows owed))) refl refl refl full in
      let files = files_few (file_max_of x.log) (end_of x.log) (filling_sizes x c rows owed) in
      let first : passes_top x.trees.fanout c.name (shapes c.db) ≡ false = or_false_left (passes_top x.trees.fanout c.name (shapes c.db)) (is_filled_too_high x.trees.fanout new_shape rows) parts.1 in
      let sizes = few_sizes x.trees.fanout (4294967296 + above_all (c ∷ [])) shapes (c ∷ []) (omega arith) (ap (λ (t : Bool). t || false) first) in
      let same = waits_beyond shapes 4294967296 (above_all (c ∷ [])) (none_beyond x) in
      let one = length_more (image_sizes x.trees.fanout c.name (shapes c.db)) (change_size c ∷ []) in
      let whole = length_more (image_sizes x.trees.fanout c.name (shapes c.db)) (change_size c ∷ (sizes_filled x.trees.fanout new_shape rows ++ commit_sizes owed)) in
      let rest = length_more (sizes_filled x.trees.fanout new_shape rows) (commit_sizes owed) in
      let filled = few_rows x.trees.fanout rows (or_false_right (passes_top x.trees.fanout c.name (shapes c.db)) (is_filled_too_high x.trees.fanout new_shape rows) parts.1) in
      let commits = commits_many owed in
      (parts.0, (let most = parts.2 in omega (arith, files, sizes, same, one, whole, rest, filled, commits, most)))
    where
      length_more : (a b : List ℕ) → length (a ++ b) ≡ length a + length b
      length_more [] b = omega arith
      length_more (e ∷ a) b = let left = length_more a b in omega (arith, left)
