-- The nodes of trees that fit a log, step by step.
use Rattle.std.proofs.Common.{◌≡◌, ◌==◌, ◌&&◌, ◌||◌, ◌⊎◌, ◌++◌, ℕ, suc, List, [], ◌∷◌, Bool, true, false, Option, None, Some, IsSome, option_map, refl, ap, sym, subst, ◌∙◌, inl, inr, length, arith, zero}
use Rattle.std.proofs.lemmas.Bool.{true≢false}
use Rattle.std.proofs.lemmas.List.{length-map}
use Rattle.std.proofs.lemmas.Option.{none-some, same_Some}
use Rattle.std.proofs.Math.Nat.{le_refl}
use Rattle.std.specs.Map.{keys_of}
use Rattle.std.specs.Ordering.{is_eq}
use Rattle.je_order.specs.Order.{name_cmp}
use Rattle.je_order.specs.declared.name.Name.{Name}
use Rattle.record_map.specs.Cells.{value_at}
use Rattle.record_map.proofs.NameLaws.{name_same, same_or_other, same_gets, other_stays}
use Rattle.tree_nodes.specs.declared.node.Node.{Node}
use Rattle.tree_nodes.specs.Nodes.{NodeRow, least, low_behind}
use Rattle.tree_nodes.specs.Levels.{row_of}
use Rattle.tree_nodes.specs.Lows.{lows_of, lows_at, low_after}
use Rattle.tree_nodes.proofs.LevelLaws.{is_level}
use Rattle.tree_nodes.proofs.LowLaws.{low_after_is, lows_at_is}
use Rattle.log_trees.specs.Sound.{Home}
use Rattle.db_tree.specs.declared.node_at.NodeAt.{NodeAt}
use Rattle.db_tree.specs.Images.{Placed}
use Rattle.db_tree.specs.NodeSteps.{WasThere}
use Rattle.db_tree.specs.Shapes.{forced_if}
use Rattle.db_tree.specs.Waiting.{is_same_name, is_among}
use Rattle.db_tree.proofs.ForcedLaws.{one_at, one_cases, force_lows}
use Rattle.db_tree.proofs.NodeSteps.{IsElsewhere}
use Rattle.db_tree.proofs.Over.{there_is}
use Rattle.tree_images.specs.Sound.{IsNumber, IsSoundImage}
use Rattle.tree_images.specs.Fits.{HasSoundImage, IsUnlogged, AreImaged}
use Rattle.tree_images.specs.NodeLaws.{MoreNodesAreDue, SameNodesAreImaged, ClearedNodesAreImaged, image_of, AreChildrenLogged, LoggedNodesAreImaged, FlushedNodesAreImaged, WaitingNodesAreImaged, NewTreesAreImaged}
use Rattle.tree_images.proofs.Logged.{images_sound}
use Rattle.tree_images.proofs.Longer.{has_stays}

-- ---- lows

pub behind_same : (old new : List NodeRow) (level : ℕ) (low : Name) → lows_of new ≡ lows_of old → low_behind low (row_of new level) ≡ low_behind low (row_of old level)
behind_same old new level low same =
    low_after_is low (row_of new level)
    ∙ ap (low_after low) (sym (lows_at_is new level) ∙ ap (λ (l : List (List Name)). lows_at l level) same ∙ lows_at_is old level)
    ∙ sym (low_after_is low (row_of old level))

pub height_same : (old new : List NodeRow) → lows_of new ≡ lows_of old → length new ≡ length old
height_same old new same = sym (length-map new keys_of) ∙ ap (λ (l : List (List Name)). length l) same ∙ length-map old keys_of

-- ---- nodes that have the images that they had

-- a node has the number and the last image that one had; it may wait, or be still to be logged
record IsAlike (due : List NodeAt) (old : List NodeRow) (level : ℕ) (x : Name) (n : Node) : Type 0 where
  was : Node
  there : value_at x (row_of old level) ≡ Some was
  number : n.number ≡ was.number
  last : n.last ≡ was.last
  forced : n.forced ≡ false → is_among due level x ≡ false → was.forced ≡ false

-- where a node has a sound image it has it with the same lows
has_same : (es : Placed) (home : ℕ → Home) (last d : ℕ) (old new : List NodeRow) (level : ℕ) (x : Name) (m n : Node) → lows_of new ≡ lows_of old → n.last ≡ m.last →
    HasSoundImage es home last d old level x m ⊎ IsUnlogged old level m → HasSoundImage es home last d new level x n ⊎ IsUnlogged new level n
has_same es home last d old new level x m n lows same (inl h) =
    inl (h.0, same ∙ h.1, subst (λ (o : Option Name). IsSoundImage es home last d level x o h.0) (sym (behind_same old new level x lows)) h.2)
has_same es home last d old new level x m n lows same (inr h) = inr (same ∙ h.0, h.1 ∙ sym (height_same old new lows))

pub some_there : (row : NodeRow) (x : Name) → IsSome (value_at x row) → (n : Node) × (value_at x row ≡ Some n)
some_there row x h = by_value (value_at x row) refl h
  where
    by_value : (o : Option Node) → value_at x row ≡ o → IsSome o → (n : Node) × (value_at x row ≡ Some n)
    by_value None is h = absurd (true≢false (sym h))
    by_value (Some n) is h = (n, is)

imaged_by : (es : Placed) (home : ℕ → Home) (last d : ℕ) (due : List NodeAt) (old new : List NodeRow) → lows_of new ≡ lows_of old →
    ((level : ℕ) (x : Name) (n : Node) → value_at x (row_of new level) ≡ Some n → IsAlike due old level x n) → AreImaged es home last d due old → AreImaged es home last d due new
imaged_by es home last d due old new lows each is = record {
  numbers = λ level low n there.
      (let w : IsAlike due old level low n = each level low n there in subst (λ (i : ℕ). IsNumber home last d i level low) (sym w.number) (is.numbers level low w.was w.there));
  images = λ level low n there waits among.
      (let w : IsAlike due old level low n = each level low n there in
      has_same es home last d old new level low w.was n lows w.last (is.images level low w.was w.there (w.forced waits among) among));
  top = λ level low height some.
      (let n = some_there (row_of new level) low some in
      let w : IsAlike due old level low n.0 = each level low n.0 n.1 in
      is.top level low (height ∙ height_same old new lows) (there_is (row_of old level) low w.was w.there));
}

pub more_due : MoreNodesAreDue
more_due es home last d due more rows le is = record { numbers = is.numbers; images = λ level low n there waits among. is.images level low n there waits (fewer level low among); top = is.top }
  where
    fewer : (level : ℕ) (low : Name) → is_among more level low ≡ false → is_among due level low ≡ false
    fewer level low among = by_test (is_among due level low) refl
      where
        by_test : (t : Bool) → is_among due level low ≡ t → t ≡ false
        by_test false h = refl
        by_test true h = absurd (true≢false (sym (le level low h) ∙ among))

pub same_imaged : SameNodesAreImaged
same_imaged es home last d due old new same is = imaged_by es home last d due old new same.lows each is
  where
    each : (level : ℕ) (x : Name) (n : Node) → value_at x (row_of new level) ≡ Some n → IsAlike due old level x n
    each level x n there =
        let w : WasThere old level x n = same.each level x n there in
        record { was = w.0; there = w.1; number = w.2.number; last = w.2.last; forced = λ waits among. sym w.2.forced ∙ waits }

pub cleared_imaged : ClearedNodesAreImaged
cleared_imaged es home last d due old new cleared is = imaged_by es home last d due old new (force_lows false due old new cleared) each is
  where
    alike : (level : ℕ) (x : Name) (m n : Node) (t : Bool) → is_among due level x ≡ t → value_at x (row_of old level) ≡ Some m → forced_if t false m ≡ n → IsAlike due old level x n
    alike level x m n true among there same =
        record { was = m; there = there; number = sym (ap (λ (k : Node). k.number) same); last = sym (ap (λ (k : Node). k.last) same); forced = λ waits none. absurd (true≢false (sym among ∙ none)) }
    alike level x m n false among there same =
        record { was = m; there = there; number = sym (ap (λ (k : Node). k.number) same); last = sym (ap (λ (k : Node). k.last) same); forced = λ waits none. ap (λ (k : Node). k.forced) same ∙ waits }

    by_value : (level : ℕ) (x : Name) (n : Node) (o : Option Node) → value_at x (row_of old level) ≡ o → option_map (forced_if (is_among due level x) false) o ≡ Some n → IsAlike due old level x n
    by_value level x n None there same = absurd (none-some n same)
    by_value level x n (Some m) there same = alike level x m n (is_among due level x) refl there (same_Some (forced_if (is_among due level x) false m) n same)

    each : (level : ℕ) (x : Name) (n : Node) → value_at x (row_of new level) ≡ Some n → IsAlike due old level x n
    each level x n there = by_value level x n (value_at x (row_of old level)) refl (sym (cleared.each level x) ∙ there)

-- ---- a node is logged

-- a node among some is the first of them, or among the others
among_rest : (level : ℕ) (low : Name) (due : List NodeAt) (k : ℕ) (x : Name) → is_among (one_at level low) k x ≡ false → is_among due k x ≡ false → is_among (record { level = level; low = low } ∷ due) k x ≡ false
among_rest level low due k x other rest = by_test ((level == k) && is_same_name low x) other
  where
    by_test : (t : Bool) → (t || false) ≡ false → (t || is_among due k x) ≡ false
    by_test true h = absurd (true≢false h)
    by_test false h = rest

-- a node is one that is named, or another one
abbrev OneCases : ℕ → Name → ℕ → Name → Type 0
OneCases level low k x = ((level ≡ k) × (low ≡ x) × (is_among (one_at level low) k x ≡ true)) ⊎ ((is_among (one_at level low) k x ≡ false) × ((k ≡ level → ⊥) ⊎ (is_eq (name_cmp low x) ≡ false)))

-- a node elsewhere is not the one that is named
pub elsewhere : (level : ℕ) (low : Name) (k : ℕ) (x : Name) → IsElsewhere level low k x → k ≡ level → x ≡ low → ⊥
elsewhere level low k x (inl h) at_level at_low = h at_level
elsewhere level low k x (inr h) at_level at_low = true≢false (sym (ap is_eq (name_same low)) ∙ subst (λ (y : Name). is_eq (name_cmp low y) ≡ false) at_low h)

pub logged_imaged : LoggedNodesAreImaged
logged_imaged es home last d due old new cells level low n at m noted = record {
  numbers = λ k x o there. number_at k x o there (one_cases level low k x);
  images = λ k x o there waits among. image_at k x o there waits among (one_cases level low k x);
  top = λ k x height some. top_at k x height some;
}
  where
    more : Placed
    more = (at, image_of d n.number level low old cells) ∷ []

    here_is : (k : ℕ) (x : Name) (o : Node) → level ≡ k → low ≡ x → value_at x (row_of new k) ≡ Some o → value_at low (row_of new level) ≡ Some o
    here_is k x o at_level at_low there = subst (λ (i : ℕ). value_at low (row_of new i) ≡ Some o) (sym at_level) (subst (λ (y : Name). value_at y (row_of new k) ≡ Some o) (sym at_low) there)

    number_at : (k : ℕ) (x : Name) (o : Node) → value_at x (row_of new k) ≡ Some o → OneCases level low k x → IsNumber home last d o.number k x
    number_at k x o there (inl same) =
        let w = noted.here o (here_is k x o same.0 same.1 there) in
        subst (λ (i : ℕ). IsNumber home last d o.number i x) same.0 (subst (λ (y : Name). IsNumber home last d o.number level y) same.1
        (subst (λ (i : ℕ). IsNumber home last d i level low) (sym w.2.number) (m.imaged.numbers level low w.0 w.1)))
    number_at k x o there (inr other) =
        let w : WasThere old k x o = noted.others k x o (elsewhere level low k x other.1) there in
        subst (λ (i : ℕ). IsNumber home last d i k x) (sym w.2.number) (m.imaged.numbers k x w.0 w.1)

    has_longer : (k : ℕ) (x : Name) (o : Node) → HasSoundImage es home last d old k x o ⊎ IsUnlogged old k o → HasSoundImage (es ++ more) home last d old k x o ⊎ IsUnlogged old k o
    has_longer k x o (inl h) = inl (has_stays es more home home last last d old k x o (λ number le. refl) (le_refl last) h)
    has_longer k x o (inr h) = inr h

    image_at : (k : ℕ) (x : Name) (o : Node) → value_at x (row_of new k) ≡ Some o → o.forced ≡ false → is_among due k x ≡ false → OneCases level low k x → HasSoundImage (es ++ more) home last d new k x o ⊎ IsUnlogged new k o
    image_at k x o there waits among (inl same) =
        let w = noted.here o (here_is k x o same.0 same.1 there) in
        subst (λ (i : ℕ). HasSoundImage (es ++ more) home last d new i x o ⊎ IsUnlogged new i o) same.0
        (subst (λ (y : Name). HasSoundImage (es ++ more) home last d new level y o ⊎ IsUnlogged new level o) same.1
        (inl (
          at,
          w.2.last,
          subst (λ (b : Option Name). IsSoundImage (es ++ more) home last d level low b at) (sym (behind_same old new level low noted.lows))
              (images_sound es home last d (record { level = level; low = low } ∷ due) old cells level low n at m),
        )))
    image_at k x o there waits among (inr other) =
        let w : WasThere old k x o = noted.others k x o (elsewhere level low k x other.1) there in
        has_same (es ++ more) home last d old new k x w.0 o noted.lows w.2.last
        (has_longer k x w.0 (m.imaged.images k x w.0 w.1 (sym w.2.forced ∙ waits) (among_rest level low due k x other.0 among)))

    was_at : (k : ℕ) (x : Name) (o : Node) → value_at x (row_of new k) ≡ Some o → OneCases level low k x → IsSome (value_at x (row_of old k))
    was_at k x o there (inl same) =
        let w = noted.here o (here_is k x o same.0 same.1 there) in
        subst (λ (i : ℕ). IsSome (value_at x (row_of old i))) same.0 (subst (λ (y : Name). IsSome (value_at y (row_of old level))) same.1 (there_is (row_of old level) low w.0 w.1))
    was_at k x o there (inr other) =
        let w : WasThere old k x o = noted.others k x o (elsewhere level low k x other.1) there in
        there_is (row_of old k) x w.0 w.1

    top_at : (k : ℕ) (x : Name) → suc k ≡ length new → IsSome (value_at x (row_of new k)) → x ≡ least
    top_at k x height some =
        let o = some_there (row_of new k) x some in
        m.imaged.top k x (height ∙ height_same old new noted.lows) (was_at k x o.0 o.1 (one_cases level low k x))

-- ---- a node is logged by itself

-- children are no node of the level above them
not_above : (level : ℕ) (low : Name) (rows : List NodeRow) → AreChildrenLogged rows [] level low → AreChildrenLogged rows (one_at level low) level low
not_above zero low rows all = tt
not_above (suc k) low rows all = λ q c there inside. ((all q c there inside).0, other q (one_cases (suc k) low k q))
  where
    other : (q : Name) → OneCases (suc k) low k q → is_among (one_at (suc k) low) k q ≡ false
    other q (inl same) = let at = same.0 in absurd (omega (arith, at))
    other q (inr h) = h.0

pub flushed_imaged : FlushedNodesAreImaged
flushed_imaged es home last d old new cells level low n at m noted =
    logged_imaged es home last d [] old new cells level low n at
    (record {
      parts = m.parts;
      rising = m.rising;
      behind = m.behind;
      imaged = more_due es home last d [] (one_at level low) old (λ k x among. absurd (true≢false (sym among))) m.imaged;
      recorded = m.recorded;
      touched = m.touched;
      there = m.there;
      children = not_above level low old m.children;
      entry = m.entry;
    }) noted

-- ---- nodes that wait

pub waiting_imaged : WaitingNodesAreImaged
waiting_imaged es home last d due old new waits is = record {
  numbers = λ k x n there. (let w = waits.each k x n there in subst (λ (i : ℕ). IsNumber home last d i k x) (sym w.2.number) (is.numbers k x w.0 w.1));
  images = λ k x n there quiet none. (let w = waits.each k x n there in
      has_same es home last d old new k x w.0 n waits.lows w.2.last (is.images k x w.0 w.1 (w.2.still quiet) (not_due k x n quiet w.2.waits)));
  top = λ k x height some. (let n = some_there (row_of new k) x some in
      let w = waits.each k x n.0 n.1 in
      is.top k x (height ∙ height_same old new waits.lows) (there_is (row_of old k) x w.0 w.1));
}
  where
    not_due : (k : ℕ) (x : Name) (n : Node) → n.forced ≡ false → (is_among due k x ≡ true → n.forced ≡ true) → is_among due k x ≡ false
    not_due k x n quiet waits = by_test (is_among due k x) refl
      where
        by_test : (t : Bool) → is_among due k x ≡ t → t ≡ false
        by_test false h = refl
        by_test true h = absurd (true≢false (sym (waits h) ∙ quiet))

-- ---- a new tree

pub new_imaged : NewTreesAreImaged
new_imaged es home last d number rows one own = record {
  numbers = λ k x n there. number_at k x n there;
  images = λ k x n there waits among. inr (unlogged k x n there);
  top = λ k x height some. (let n = some_there (row_of rows k) x some in (place k x n.0 n.1).1);
}
  where
    level : (k : ℕ) (x : Name) → IsSome (value_at x (row_of rows k)) → k ≡ 0
    level k x some = let lt = is_level rows k x some in let height = one.height in omega (arith, lt, height)

    at_root : (x : Name) (n : Node) → value_at x (row_of rows 0) ≡ Some n → (x ≡ least) × (n ≡ one.root)
    at_root x n there = by_name (same_or_other least x)
      where
        by_name : (least ≡ x) ⊎ (is_eq (name_cmp least x) ≡ false) → (x ≡ least) × (n ≡ one.root)
        by_name (inl same) = (sym same, same_Some n one.root (sym there ∙ ap (λ (y : Name). value_at y (row_of rows 0)) (sym same) ∙ one.put least ∙ same_gets least (Some one.root) None))
        by_name (inr apart) = absurd (none-some n (sym (one.put x ∙ other_stays least x (Some one.root) None apart) ∙ there))

    place : (k : ℕ) (x : Name) (n : Node) → value_at x (row_of rows k) ≡ Some n → (k ≡ 0) × (x ≡ least) × (n ≡ one.root)
    place k x n there =
        let bottom = level k x (there_is (row_of rows k) x n there) in
        let root = at_root x n (subst (λ (i : ℕ). value_at x (row_of rows i) ≡ Some n) bottom there) in
        (bottom, root.0, root.1)

    number_at : (k : ℕ) (x : Name) (n : Node) → value_at x (row_of rows k) ≡ Some n → IsNumber home last d n.number k x
    number_at k x n there =
        let p = place k x n there in
        subst (λ (i : ℕ). IsNumber home last d n.number i x) (sym p.0)
        (subst (λ (y : Name). IsNumber home last d n.number 0 y) (sym p.1)
        (subst (λ (i : ℕ). IsNumber home last d i 0 least) (sym (ap (λ (m : Node). m.number) p.2 ∙ one.number_is)) own))

    unlogged : (k : ℕ) (x : Name) (n : Node) → value_at x (row_of rows k) ≡ Some n → IsUnlogged rows k n
    unlogged k x n there = let p = place k x n there in (ap (λ (m : Node). m.last) p.2 ∙ one.last, ap suc p.0 ∙ sym one.height)
