-- The nodes of a tree in which nodes are split for a name's slot.
use Rattle.std.proofs.Common.{◌≡◌, ◌==◌, ◌&&◌, ◌||◌, ◌≤◌, ◌<◌, ◌⊎◌, ◌+◌, ◌-◌, ◌^◌, ◌++◌, ℕ, zero, suc, nat_lt, List, [], ◌∷◌, Bool, true, false, cond, Option, None, Some, IsSome, length, get_or, refl, ap, ap₂, sym, subst, ◌∙◌, inl, inr, arith, is_eq}
use Rattle.std.specs.List.{slice_get}
use Rattle.std.specs.Map.{keys_of}
use Rattle.std.proofs.lemmas.Bool.{true≢false, lt-ltb, ltb-true, ltb-false, eq-eqb}
use Rattle.std.proofs.lemmas.List.Folds.{list_any-append}
use Rattle.std.proofs.lemmas.Option.{none-some, same_Some, slice_get_within, slice_get-get_or}
use Rattle.std.proofs.Math.Nat.{le_refl}
use Rattle.je_order.specs.Order.{name_cmp}
use Rattle.je_order.specs.declared.name.Name.{Name}
use Rattle.record_map.specs.Cells.{value_at}
use Rattle.record_map.proofs.NameLaws.{name_same, same_or_other, other_stays}
use Rattle.tree_nodes.specs.declared.node.Node.{Node}
use Rattle.tree_nodes.specs.Nodes.{NodeRow, least, IsOver, HasPut, low_behind}
use Rattle.tree_nodes.specs.Levels.{row_of, AreParts}
use Rattle.tree_nodes.proofs.LevelLaws.{is_level}
use Rattle.log_trees.specs.Sound.{Home}
use Rattle.db_tree.specs.declared.node_at.NodeAt.{NodeAt}
use Rattle.db_tree.specs.declared.node_split.NodeSplit.{NodeSplit}
use Rattle.db_tree.specs.Images.{Placed}
use Rattle.db_tree.specs.NodeImages.{number_in, number_of}
use Rattle.db_tree.specs.Numbers.{new_number, IsRootNumbered, AreNewNumbered}
use Rattle.db_tree.specs.Splits.{one_if}
use Rattle.db_tree.specs.Splitting.{AreSplit}
use Rattle.db_tree.specs.Waiting.{is_same_name, halves_of, root_at, is_among}
use Rattle.db_tree.proofs.Over.{there_is}
use Rattle.tree_images.specs.Sound.{IsNumber, IsSoundImage}
use Rattle.tree_images.specs.Fits.{HasSoundImage, IsUnlogged, AreImaged}
use Rattle.tree_images.specs.PlaceLaws.{made_low, home_with, NewHomesAgree, NewRootsAreAtHome, AreSplitsOf}
use Rattle.tree_images.proofs.Neighbours.{behind_put}

-- ---- numbers

pub homes_agree : NewHomesAgree
homes_agree home last first d splits lt number le =
    ap (λ (t : Bool). cond t (home number) (record { db = d; above = number - first; low = made_low splits (number - first) })) (lt-ltb number first (omega (arith, lt, le)))

-- a new node's number has its place
number_made : (home : ℕ → Home) (first later d k : ℕ) (splits : List NodeSplit) (low : Name) (number : ℕ) → made_low splits k ≡ low → first + k ≤ later → later < 2 ^ 64 → number ≡ new_number first k →
    IsNumber (home_with home first d splits) later d number k low
number_made home first later d k splits low number is le few made = (
  subst (λ (i : ℕ). i ≤ later) (sym number_is) le,
  ap (home_with home first d splits) number_is ∙ placed,
)
  where
    number_is : number ≡ first + k
    number_is = made ∙ (omega (arith, le, few))

    past : nat_lt (first + k) first ≡ false
    past = by_test (nat_lt (first + k) first) refl
      where
        by_test : (t : Bool) → nat_lt (first + k) first ≡ t → t ≡ false
        by_test false h = refl
        by_test true h = absurd (omega (arith, ltb-true (first + k) first h))

    back : first + k - first ≡ k
    back = omega arith

    placed : home_with home first d splits (first + k) ≡ record { db = d; above = k; low = low }
    placed =
        ap (λ (t : Bool). cond t (home (first + k)) (record { db = d; above = first + k - first; low = made_low splits (first + k - first) })) past
        ∙ ap (λ (i : ℕ). record { db = d; above = i; low = made_low splits i }) back
        ∙ ap (λ (y : Name). record { db = d; above = k; low = y }) is

pub root_home : NewRootsAreAtHome
root_home home first d = (le_refl first, ap (λ (t : Bool). cond t (home first) (record { db = d; above = first - first; low = least })) past ∙ ap (λ (i : ℕ). record { db = d; above = i; low = least }) back)
  where
    past : nat_lt first first ≡ false
    past = by_test (nat_lt first first) refl
      where
        by_test : (t : Bool) → nat_lt first first ≡ t → t ≡ false
        by_test false h = refl
        by_test true h = absurd (omega (arith, ltb-true first first h))

    back : first - first ≡ 0
    back = omega arith

pub made_is : (splits : List NodeSplit) (k : ℕ) (split : NodeSplit) → slice_get splits k ≡ Some split → made_low splits k ≡ split.middle
made_is [] k split is = absurd (none-some split is)
made_is (s ∷ splits) zero split is = ap (λ (t : NodeSplit). t.middle) (same_Some s split is)
made_is (s ∷ splits) (suc k) split is = made_is splits k split is

made_root : (splits : List NodeSplit) → made_low splits (length splits) ≡ least
made_root [] = refl
made_root (s ∷ splits) = made_root splits

-- ---- rows

-- a level is the old one, or with the half of a node put in
abbrev pub RowIs : List NodeRow → List NodeRow → ℕ → Option NodeSplit → Type 0
RowIs old new k None = row_of new k ≡ row_of old k
RowIs old new k (Some split) = (node : Node) × HasPut (row_of old k) (row_of new k) split.middle node × (value_at split.middle (row_of old k) ≡ None)

row_moved : (old mid new : List NodeRow) (k : ℕ) (o : Option NodeSplit) → row_of mid k ≡ row_of old k → RowIs mid new k o → RowIs old new k o
row_moved old mid new k None same is = is ∙ same
row_moved old mid new k (Some split) same is =
    (is.0, subst (λ (row : NodeRow). HasPut row (row_of new k) split.middle is.0) same is.1, subst (λ (row : NodeRow). value_at split.middle row ≡ None) same is.2)

pub row_ended : (old mid new : List NodeRow) (k : ℕ) (o : Option NodeSplit) → row_of new k ≡ row_of mid k → RowIs old mid k o → RowIs old new k o
row_ended old mid new k None same is = same ∙ is
row_ended old mid new k (Some split) same is = (is.0, subst (λ (row : NodeRow). HasPut (row_of old k) row split.middle is.0) (sym same) is.1, is.2)

record AreRows (level : ℕ) (splits : List NodeSplit) (old new : List NodeRow) : Type 0 where
  below : (j : ℕ) → j < level → row_of new j ≡ row_of old j
  each : (k : ℕ) → RowIs old new (level + k) (slice_get splits k)
  height : length new ≡ length old

rows_split : (level : ℕ) (splits : List NodeSplit) (old new : List NodeRow) → AreSplit level splits old new → AreRows level splits old new
rows_split level [] old new same = record { below = λ j lt. ap (λ (r : List NodeRow). row_of r j) same; each = λ k. ap (λ (r : List NodeRow). row_of r (level + k)) same; height = ap (λ (r : List NodeRow). length r) same }
rows_split level (split ∷ splits) old new are = by_rest (rows_split (suc level) splits are.0 new are.2)
  where
    by_rest : AreRows (suc level) splits are.0 new → AreRows level (split ∷ splits) old new
    by_rest rest = record {
      below = λ j lt. rest.below j (omega (arith, lt)) ∙ are.1.put.others j (λ (h : j ≡ level). absurd (omega (arith, h, lt)));
      each = λ k. by_place k;
      height = rest.height ∙ are.1.put.height;
    }
      where
        first_row : RowIs old new level (Some split)
        first_row = row_ended old are.0 new level (Some split) (rest.below level (omega arith)) (are.1.node, are.1.put.here, are.1.free)

        by_place : (k : ℕ) → RowIs old new (level + k) (slice_get (split ∷ splits) k)
        by_place zero = subst (λ (i : ℕ). RowIs old new i (Some split)) (let e : level ≡ level + 0 = omega arith in e) first_row
        by_place (suc k) =
            let e : suc level + k ≡ level + suc k = omega arith in
            let other : row_of are.0 (level + suc k) ≡ row_of old (level + suc k) = are.1.put.others (level + suc k) (λ (h : level + suc k ≡ level). absurd (omega (arith, h))) in
            row_moved old are.0 new (level + suc k) (slice_get splits k) other (subst (λ (i : ℕ). RowIs are.0 new i (slice_get splits k)) e (rest.each k))

pub height_split : (splits : List NodeSplit) (old new : List NodeRow) → AreSplit 0 splits old new → length new ≡ length old
height_split splits old new are = (rows_split 0 splits old new are).height

pub rows_from : (splits : List NodeSplit) (old new : List NodeRow) → AreSplit 0 splits old new → (k : ℕ) → RowIs old new k (slice_get splits k)
rows_from splits old new are k = subst (λ (i : ℕ). RowIs old new i (slice_get splits k)) (let e : 0 + k ≡ k = omega arith in e) ((rows_split 0 splits old new are).each k)

-- ---- which nodes are still to be logged

pub among_first : (n : NodeAt) (nodes : List NodeAt) (level : ℕ) (low : Name) → n.level ≡ level → n.low ≡ low → is_among (n ∷ nodes) level low ≡ true
among_first n nodes level low at same =
    ap₂ (λ (a b : Bool). (a && b) || is_among nodes level low) (eq-eqb n.level level at) (subst (λ (y : Name). is_same_name n.low y ≡ true) same (ap is_eq (name_same n.low)))

among_later : (n : NodeAt) (nodes : List NodeAt) (level : ℕ) (low : Name) → is_among nodes level low ≡ true → is_among (n ∷ nodes) level low ≡ true
among_later n nodes level low h = by_test ((n.level == level) && is_same_name n.low low)
  where
    by_test : (t : Bool) → (t || is_among nodes level low) ≡ true
    by_test true = refl
    by_test false = h

halves_among : (level : ℕ) (splits : List NodeSplit) (k : ℕ) (split : NodeSplit) → slice_get splits k ≡ Some split →
    (is_among (halves_of level splits) (level + k) split.low ≡ true) × (is_among (halves_of level splits) (level + k) split.middle ≡ true)
halves_among level [] k split is = absurd (none-some split is)
halves_among level (s ∷ splits) zero split is =
    let same = same_Some s split is in
    let e : level ≡ level + 0 = omega arith in (
      among_first (record { level = level; low = s.low }) (record { level = level; low = s.middle } ∷ halves_of (suc level) splits) (level + 0) split.low e (ap (λ (t : NodeSplit). t.low) same),
      among_later (record { level = level; low = s.low }) (record { level = level; low = s.middle } ∷ halves_of (suc level) splits) (level + 0) split.middle
          (among_first (record { level = level; low = s.middle }) (halves_of (suc level) splits) (level + 0) split.middle e (ap (λ (t : NodeSplit). t.middle) same)),
    )
halves_among level (s ∷ splits) (suc k) split is =
    let rest = halves_among (suc level) splits k split is in
    let e : suc level + k ≡ level + suc k = omega arith in (
      past split.low (subst (λ (i : ℕ). is_among (halves_of (suc level) splits) i split.low ≡ true) e rest.0),
      past split.middle (subst (λ (i : ℕ). is_among (halves_of (suc level) splits) i split.middle ≡ true) e rest.1),
    )
  where
    past : (x : Name) → is_among (halves_of (suc level) splits) (level + suc k) x ≡ true → is_among (halves_of level (s ∷ splits)) (level + suc k) x ≡ true
    past x h =
        among_later (record { level = level; low = s.low }) (record { level = level; low = s.middle } ∷ halves_of (suc level) splits) (level + suc k) x
        (among_later (record { level = level; low = s.middle }) (halves_of (suc level) splits) (level + suc k) x h)

pub among_front : (a b : List NodeAt) (level : ℕ) (low : Name) → is_among a level low ≡ true → is_among (a ++ b) level low ≡ true
among_front a b level low h =
    list_any-append (λ (n : NodeAt). (n.level == level) && is_same_name n.low low) a b ∙ ap (λ (t : Bool). t || is_among b level low) h

pub among_back : (a b : List NodeAt) (level : ℕ) (low : Name) → is_among b level low ≡ true → is_among (a ++ b) level low ≡ true
among_back a b level low h = list_any-append (λ (n : NodeAt). (n.level == level) && is_same_name n.low low) a b ∙ by_test (is_among a level low)
  where
    by_test : (t : Bool) → (t || is_among b level low) ≡ true
    by_test true = refl
    by_test false = h

pub split_among : (splits : List NodeSplit) (raised : Bool) (k : ℕ) (split : NodeSplit) → slice_get splits k ≡ Some split →
    (is_among (halves_of 0 splits ++ root_at (length splits) raised) k split.low ≡ true) × (is_among (halves_of 0 splits ++ root_at (length splits) raised) k split.middle ≡ true)
split_among splits raised k split is =
    let e : 0 + k ≡ k = omega arith in
    let both = halves_among 0 splits k split is in (
      among_front (halves_of 0 splits) (root_at (length splits) raised) k split.low (subst (λ (i : ℕ). is_among (halves_of 0 splits) i split.low ≡ true) e both.0),
      among_front (halves_of 0 splits) (root_at (length splits) raised) k split.middle (subst (λ (i : ℕ). is_among (halves_of 0 splits) i split.middle ≡ true) e both.1),
    )

-- ---- all nodes

-- a level with one low
only_key : (row : NodeRow) (low x : Name) → keys_of row ≡ low ∷ [] → IsSome (value_at x row) → x ≡ low
only_key [] low x is some = absurd (true≢false (sym some))
only_key (e ∷ []) low x is some = by_name (same_or_other x e.0)
  where
    by_name : (x ≡ e.0) ⊎ (is_eq (name_cmp x e.0) ≡ false) → x ≡ low
    by_name (inl same) = same ∙ first_key is
      where
        first_key : e.0 ∷ [] ≡ low ∷ [] → e.0 ≡ low
        first_key h = cc
    by_name (inr apart) = absurd (true≢false (sym (subst IsSome (other_stays x e.0 (Some e.1) None apart) some)))
only_key (e ∷ f ∷ row) low x is some = absurd cc

-- how a tree grew, level by level
pub record HasGrown (first later : ℕ) (splits : List NodeSplit) (raised : Bool) (old new : List NodeRow) : Type 0 where
  pub was : AreParts old
  pub now : AreParts new
  pub rows : (k : ℕ) → k < length old → RowIs old new k (slice_get splits k)
  pub height : length new ≡ length old + one_if raised
  pub splits_are : AreSplitsOf splits old
  pub numbers : AreNewNumbered first splits raised new
  pub low_enough : first + (length splits + one_if raised) ≤ suc later
  pub fits : later < 2 ^ 64
  pub few : length splits ≤ length old
  pub all : raised ≡ true → length splits ≡ length old
  pub some : raised ≡ false → length splits ≡ length old → ⊥
  pub root : raised ≡ true → keys_of (row_of new (length old)) ≡ least ∷ []

module _ (es : Placed) (home : ℕ → Home) (d : ℕ) (due : List NodeAt) (first later : ℕ) (splits : List NodeSplit) (raised : Bool) (old new : List NodeRow) (grown : HasGrown first later splits raised old new)
    (whole : (level : ℕ) (low : Name) → is_among (halves_of 0 splits ++ root_at (length splits) raised) level low ≡ true → is_among due level low ≡ true) where
  abbrev longer_home : ℕ → Home
  longer_home = home_with home first d splits

  -- each level is one of the old ones, or that of a new root
  level_is : (k : ℕ) (x : Name) → IsSome (value_at x (row_of new k)) → (k < length old) ⊎ ((raised ≡ true) × (k ≡ length old))
  level_is k x some = by_raised raised refl (is_level new k x some)
    where
      by_raised : (t : Bool) → raised ≡ t → k < length new → (k < length old) ⊎ ((raised ≡ true) × (k ≡ length old))
      by_raised false is lt = inl (subst (λ (n : ℕ). k < n) (grown.height ∙ ap (λ (t : Bool). length old + one_if t) is ∙ (let e : length old + 0 ≡ length old = omega arith in e)) lt)
      by_raised true is lt =
          let up : length new ≡ length old + 1 = grown.height ∙ ap (λ (t : Bool). length old + one_if t) is in
          by_order (omega (arith, lt, up))
        where
          by_order : k ≤ length old → (k < length old) ⊎ ((raised ≡ true) × (k ≡ length old))
          by_order le = by_test (nat_lt k (length old)) refl
            where
              by_test : (t : Bool) → nat_lt k (length old) ≡ t → (k < length old) ⊎ ((raised ≡ true) × (k ≡ length old))
              by_test true h = inl (ltb-true k (length old) h)
              by_test false h = inr (is, let ge = ltb-false k (length old) h in omega (arith, le, ge))

  root_low : (k : ℕ) (x : Name) → raised ≡ true → k ≡ length old → IsSome (value_at x (row_of new k)) → x ≡ least
  root_low k x is at some = only_key (row_of new k) least x (subst (λ (i : ℕ). keys_of (row_of new i) ≡ least ∷ []) (sym at) (grown.root is)) some

  abbrev Imaged : Type 0
  Imaged = AreImaged es longer_home later d [] old

  -- ---- numbers

  number_within : (k : ℕ) (x : Name) (n : Node) → Imaged → value_at x (row_of new k) ≡ Some n → (o : Option NodeSplit) → slice_get splits k ≡ o → RowIs old new k o → IsNumber longer_home later d n.number k x
  number_within k x n imaged there None is row = imaged.numbers k x n (ap (value_at x) (sym row) ∙ there)
  number_within k x n imaged there (Some split) is row = by_name (same_or_other split.middle x)
    where
      by_name : (split.middle ≡ x) ⊎ (is_eq (name_cmp split.middle x) ≡ false) → IsNumber longer_home later d n.number k x
      by_name (inr apart) = imaged.numbers k x n (sym (row.1 x ∙ other_stays split.middle x (Some row.0) (value_at x (row_of old k)) apart) ∙ there)
      by_name (inl same) =
          let within = slice_get_within splits k split is in
          let enough = grown.low_enough in
          number_made home first later d k splits x n.number (made_is splits k split is ∙ same) (omega (arith, within, enough)) grown.fits
          (ap number_in (sym there) ∙ ap (λ (y : Name). number_of new k y) (sym same) ∙ grown.numbers.halves k split is)

  root_number : (k : ℕ) (x : Name) (n : Node) (t : Bool) → raised ≡ t → t ≡ true → k ≡ length old → value_at x (row_of new k) ≡ Some n → IsNumber longer_home later d n.number k x
  root_number k x n false was is at there = absurd (true≢false (sym is))
  root_number k x n true was is at there =
      let low : x ≡ least = root_low k x was at (there_is (row_of new k) x n there) in
      let level : length splits ≡ k = grown.all was ∙ sym at in
      let enough : first + (length splits + 1) ≤ suc later = subst (λ (b : Bool). first + (length splits + one_if b) ≤ suc later) was grown.low_enough in
      let number : number_of new (length splits) least ≡ new_number first (length splits) = subst (λ (b : Bool). IsRootNumbered b first (length splits) new) was grown.numbers.root in
      number_made home first later d k splits x n.number (subst (λ (i : ℕ). made_low splits i ≡ least) level (made_root splits) ∙ sym low) (omega (arith, level, enough)) grown.fits
      (ap number_in (sym there) ∙ ap₂ (λ (i : ℕ) (y : Name). number_of new i y) (sym level) low ∙ number ∙ ap (new_number first) level)

  number_at : (k : ℕ) (x : Name) (n : Node) → Imaged → value_at x (row_of new k) ≡ Some n → IsNumber longer_home later d n.number k x
  number_at k x n imaged there = by_level (level_is k x (there_is (row_of new k) x n there))
    where
      by_level : (k < length old) ⊎ ((raised ≡ true) × (k ≡ length old)) → IsNumber longer_home later d n.number k x
      by_level (inl lt) = number_within k x n imaged there (slice_get splits k) refl (grown.rows k lt)
      by_level (inr at) = root_number k x n raised refl at.0 at.1 there

  -- ---- images

  -- the topmost node is as high as it was where no root is put above it
  still_top : (k : ℕ) (n : Node) → raised ≡ false → IsUnlogged old k n → IsUnlogged new k n
  still_top k n is h = (h.0, h.1 ∙ sym (grown.height ∙ ap (λ (t : Bool). length old + one_if t) is ∙ (let e : length old + 0 ≡ length old = omega arith in e)))

  abbrev Has : List NodeRow → ℕ → Name → Node → Type 0
  Has rows k x n = HasSoundImage es longer_home later d rows k x n ⊎ IsUnlogged rows k n

  carried : (k : ℕ) (x : Name) (n : Node) → low_behind x (row_of new k) ≡ low_behind x (row_of old k) → ((raised ≡ true) → IsUnlogged old k n → Has new k x n) → Has old k x n → Has new k x n
  carried k x n same out (inl h) = inl (h.0, h.1, subst (λ (o : Option Name). IsSoundImage es longer_home later d k x o h.0) (sym same) h.2)
  carried k x n same out (inr h) = by_raised raised refl
    where
      by_raised : (t : Bool) → raised ≡ t → Has new k x n
      by_raised true is = out is h
      by_raised false is = inr (still_top k n is h)

  image_within : (k : ℕ) (x : Name) (n : Node) → Imaged → k < length old → value_at x (row_of new k) ≡ Some n → n.forced ≡ false → is_among due k x ≡ false → (o : Option NodeSplit) → slice_get splits k ≡ o → RowIs old new k o → Has new k x n
  image_within k x n imaged lt there waits among None is row =
      let was : value_at x (row_of old k) ≡ Some n = ap (value_at x) (sym row) ∙ there in
      carried k x n (ap (low_behind x) row)
      (λ up unlogged. absurd (none-some (get_or splits k any) (sym is ∙ slice_get-get_or splits k any (let same = grown.all up in omega (arith, same, lt)))))
      (imaged.images k x n was waits refl)
    where
      any : NodeSplit
      any = record { low = x; middle = x; high = None }
  image_within k x n imaged lt there waits among (Some split) is row = by_name (same_or_other split.middle x)
    where
      both : (is_among due k split.low ≡ true) × (is_among due k split.middle ≡ true)
      both = let h = split_among splits raised k split is in (whole k split.low h.0, whole k split.middle h.1)

      not_low : x ≡ split.low → ⊥
      not_low same = true≢false (sym both.0 ∙ ap (is_among due k) (sym same) ∙ among)

      over : (node : Node) × IsOver (row_of old k) split.middle (split.low, node)
      over = grown.splits_are k split is

      by_name : (split.middle ≡ x) ⊎ (is_eq (name_cmp split.middle x) ≡ false) → Has new k x n
      by_name (inl same) = absurd (true≢false (sym both.1 ∙ ap (is_among due k) same ∙ among))
      by_name (inr apart) =
          let was : value_at x (row_of old k) ≡ Some n = sym (row.1 x ∙ other_stays split.middle x (Some row.0) (value_at x (row_of old k)) apart) ∙ there in
          carried k x n
          (behind_put (row_of old k) (row_of new k) split.middle split.low x row.0 over.0 (grown.was.rising k) (grown.now.rising k) row.1 over.1 not_low (there_is (row_of old k) x n was))
          (λ up unlogged. absurd (not_low
          (imaged.top k x unlogged.1 (there_is (row_of old k) x n was) ∙ sym (imaged.top k split.low unlogged.1 (there_is (row_of old k) split.low over.0 over.1.there)))))
          (imaged.images k x n was waits refl)

  root_among : (k : ℕ) (x : Name) (t : Bool) → raised ≡ t → t ≡ true → k ≡ length old → x ≡ least → is_among due k x ≡ true
  root_among k x false was is at low = absurd (true≢false (sym is))
  root_among k x true was is at low =
      whole k x (among_back (halves_of 0 splits) (root_at (length splits) raised) k x
      (subst (λ (b : Bool). is_among (root_at (length splits) b) k x ≡ true) (sym was)
      (among_first (record { level = length splits; low = least }) [] k x (grown.all was ∙ sym at) (sym low))))

  image_at : (k : ℕ) (x : Name) (n : Node) → Imaged → value_at x (row_of new k) ≡ Some n → n.forced ≡ false → is_among due k x ≡ false → Has new k x n
  image_at k x n imaged there waits among = by_level (level_is k x (there_is (row_of new k) x n there))
    where
      by_level : (k < length old) ⊎ ((raised ≡ true) × (k ≡ length old)) → Has new k x n
      by_level (inl lt) = image_within k x n imaged lt there waits among (slice_get splits k) refl (grown.rows k lt)
      by_level (inr at) = absurd (true≢false (sym (root_among k x raised refl at.0 at.1 (root_low k x at.0 at.1 (there_is (row_of new k) x n there))) ∙ among))

  -- ---- the topmost node

  top_within : (k : ℕ) (x : Name) → Imaged → suc k ≡ length old → raised ≡ false → IsSome (value_at x (row_of new k)) → (o : Option NodeSplit) → slice_get splits k ≡ o → RowIs old new k o → x ≡ least
  top_within k x imaged height is some None at row = imaged.top k x height (subst (λ (r : NodeRow). IsSome (value_at x r)) row some)
  top_within k x imaged height is some (Some split) at row =
      let within = slice_get_within splits k split at in
      let few = grown.few in
      absurd (grown.some is (omega (arith, within, few, height)))

  top_at : (k : ℕ) (x : Name) → Imaged → suc k ≡ length new → IsSome (value_at x (row_of new k)) → x ≡ least
  top_at k x imaged height some = by_raised raised refl
    where
      by_raised : (t : Bool) → raised ≡ t → x ≡ least
      by_raised true is =
          let up : length new ≡ length old + 1 = grown.height ∙ ap (λ (t : Bool). length old + one_if t) is in
          root_low k x is (omega (arith, up, height)) some
      by_raised false is =
          let same : length new ≡ length old = grown.height ∙ ap (λ (t : Bool). length old + one_if t) is ∙ (let e : length old + 0 ≡ length old = omega arith in e) in
          let here : suc k ≡ length old = height ∙ same in
          top_within k x imaged here is some (slice_get splits k) refl (grown.rows k (omega (arith, here)))

  pub grown_imaged : Imaged → AreImaged es longer_home later d due new
  grown_imaged imaged = record {
    numbers = λ k x n there. number_at k x n imaged there;
    images = λ k x n there waits among. image_at k x n imaged there waits among;
    top = λ k x height some. top_at k x imaged height some;
  }
