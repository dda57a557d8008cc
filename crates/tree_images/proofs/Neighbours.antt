-- The nodes of a level one after another, and the bounds of their names.
use Rattle.std.proofs.Common.{◌≡◌, ◌⊎◌, List, [], ◌∷◌, Bool, true, false, cond, not, Option, None, Some, IsSome, refl, ap, ap₂, sym, subst, ◌∙◌, inl, inr, Ordering, Less, Equal, Greater, is_eq, is_lt, is_gt}
use Rattle.std.specs.Prelude.{IfSome, ◌&&◌}
use Rattle.std.specs.Ordering.{ordering_reverse}
use Rattle.std.specs.List.{AllByRecursion}
use Rattle.std.specs.List.Sorted.{IsStrictlySortedBy}
use Rattle.std.specs.Map.{keys_of}
use Rattle.std.proofs.lemmas.Bool.{true≢false}
use Rattle.std.proofs.lemmas.Option.{none-some, same_Some}
use Rattle.je_order.specs.Order.{name_cmp}
use Rattle.je_order.specs.Edges.{is_below, is_between}
use Rattle.je_order.specs.Edges.Edge.{At}
use Rattle.je_order.specs.declared.name.Name.{Name}
use Rattle.je_order.proofs.Lists.{all_weaker}
use Rattle.node_core.proofs.NameOrder.{turned}
use Rattle.record_map.specs.Cells.{value_at, upper_edge, IsRising}
use Rattle.record_map.proofs.NameLaws.{name_same, same_or_other, same_gets, other_stays}
use Rattle.tree_nodes.specs.declared.node.Node.{Node}
use Rattle.tree_nodes.specs.Nodes.{NodeRow, IsUpTo, IsOver, HasPut, low_behind}
use Rattle.log_trees.specs.Sound.{is_within, is_below as is_under}
use Rattle.db_tree.proofs.Contents.{above_low}
use Rattle.db_tree.proofs.Order.{up_cases, less_up, same_up, less_not_up, up_trans}
use Rattle.db_tree.proofs.Over.{there_is, found_behind, first_or_rest}
use Rattle.db_tree.proofs.Within.{first_least}
use Rattle.tree_images.proofs.Lows.{behind_there}

-- ---- bounds

gt_turned : (x y : Name) → is_lt (name_cmp x y) ≡ is_gt (name_cmp y x)
gt_turned x y = ap is_lt (turned y x (name_cmp y x) refl) ∙ by_order (name_cmp y x)
  where
    by_order : (o : Ordering) → is_lt (ordering_reverse o) ≡ is_gt o
    by_order Less = refl
    by_order Equal = refl
    by_order Greater = refl

-- a name lies within the bounds of a node as opening takes them where the tree takes it to
pub same_within : (low : Name) (high : Option Name) (x : Name) → is_within low high x ≡ is_between (At low) (upper_edge high) x
same_within low high x = ap₂ (λ (a b : Bool). not a && b) (gt_turned x low) (by_high high)
  where
    by_high : (o : Option Name) → is_under x o ≡ is_below (upper_edge o) x
    by_high None = refl
    by_high (Some h) = gt_turned x h

-- ---- lists by names

pub keys_all : {V : Type 0} (P : Name → Type 0) (row : List (Name × V)) → AllByRecursion P (keys_of row) → AllByRecursion (λ e. P e.0) row
keys_all P [] all = tt
keys_all P (e ∷ row) all = (all.0, keys_all P row all.1)

pub both_all : {A : Type 0} (P Q : A → Type 0) (xs : List A) → AllByRecursion P xs → AllByRecursion Q xs → AllByRecursion (λ x. P x × Q x) xs
both_all P Q [] p q = tt
both_all P Q (x ∷ xs) p q = ((p.0, q.0), both_all P Q xs p.1 q.1)

less_other : (a b : Name) → name_cmp a b ≡ Less → is_eq (name_cmp b a) ≡ false
less_other a b less = ap is_eq (turned a b Less less)

-- each name of a rising list finds its own
pub own_values : {V : Type 0} (row : List (Name × V)) → IsRising row → AllByRecursion (λ e. value_at e.0 row ≡ Some e.1) row
unfolding IsStrictlySortedBy
own_values [] up = tt
own_values {V} (e ∷ row) up = (
  ap (λ (t : Bool). cond t (Some e.1) (value_at e.0 row)) (ap is_eq (name_same e.0)),
  all_weaker (λ (f : Name × V). (name_cmp e.0 f.0 ≡ Less) × (value_at f.0 row ≡ Some f.1)) (λ f. value_at f.0 (e ∷ row) ≡ Some f.1)
      (λ f h. other_stays f.0 e.0 (Some e.1) (value_at f.0 row) (less_other e.0 f.0 h.0) ∙ h.1) row
      (both_all (λ (f : Name × V). name_cmp e.0 f.0 ≡ Less) (λ f. value_at f.0 row ≡ Some f.1) row (keys_all (λ y. name_cmp e.0 y ≡ Less) row up.0) (own_values row up.1)),
)

-- ---- neighbours

-- two names that are up to each other are the same
pub up_both : (a b : Name) → IsUpTo a b → IsUpTo b a → a ≡ b
up_both a b up down = by_case (up_cases a b up)
  where
    by_case : (a ≡ b) ⊎ (name_cmp a b ≡ Less) → a ≡ b
    by_case (inl same) = same
    by_case (inr less) = absurd (less_not_up a b less down)

-- the low behind another one is the least one above it
pub next_is : (row : NodeRow) (low next : Name) → IsRising row → IsSome (value_at next row) → name_cmp low next ≡ Less → ((q : Name) → IsSome (value_at q row) → name_cmp low q ≡ Less → IsUpTo next q) →
    low_behind low row ≡ Some next
next_is row low next up there less least =
    let first = first_least row low next up there less in
    let same : next ≡ first.0 = up_both next first.0 (least first.0 (behind_there low first.0 row first.1) (above_low low first.0 row first.1)) first.2 in
    first.1 ∙ ap Some (sym same)

-- behind the greatest low there is none
pub none_is : (row : NodeRow) (low : Name) → ((q : Name) → IsSome (value_at q row) → name_cmp low q ≡ Less → ⊥) → low_behind low row ≡ None
none_is row low none = by_low (low_behind low row) refl
  where
    by_low : (o : Option Name) → low_behind low row ≡ o → o ≡ None
    by_low None is = refl
    by_low (Some high) is = absurd (none high (behind_there low high row is) (above_low low high row is))

-- each node of some ends where the next one begins, and the last one at a bound
abbrev pub Follow : NodeRow → Option Name → Name → NodeRow → Type 0
Follow row high low [] = low_behind low row ≡ high
Follow row high low (f ∷ rest) = (low_behind low row ≡ Some f.0) × Follow row high f.0 rest

-- ---- the nodes of a level within bounds

-- whether a name lies within bounds, by parts
pub sides_of : (low x : Name) (high : Option Name) → is_between (At low) (upper_edge high) x ≡ true → IsUpTo low x × (is_below (upper_edge high) x ≡ true)
sides_of low x high h = parts (is_gt (name_cmp low x)) (is_below (upper_edge high) x) h
  where
    parts : (b c : Bool) → (not b && c) ≡ true → (b ≡ false) × (c ≡ true)
    parts true c h = absurd (true≢false (sym h))
    parts false c h = (refl, h)

less_through : (a b c : Name) → name_cmp a b ≡ Less → IsUpTo b c → name_cmp a c ≡ Less
less_through a b c less up = by_case (up_cases a c (up_trans a b c (less_up a b less) up))
  where
    by_case : (a ≡ c) ⊎ (name_cmp a c ≡ Less) → name_cmp a c ≡ Less
    by_case (inl same) = absurd (less_not_up a b less (subst (IsUpTo b) (sym same) up))
    by_case (inr h) = h

gt_less : (a b : Name) → is_gt (name_cmp b a) ≡ true → name_cmp a b ≡ Less
gt_less a b h = by_order (name_cmp a b) (gt_turned a b ∙ h)
  where
    by_order : (o : Ordering) → is_lt o ≡ true → o ≡ Less
    by_order Less e = refl
    by_order Equal e = absurd (true≢false (sym e))
    by_order Greater e = absurd (true≢false (sym e))

module _ (row : NodeRow) (low : Name) (high : Option Name) (up : IsRising row) (bound : IfSome high (λ h. IsSome (value_at h row))) where
  abbrev Inside : Name → Type 0
  Inside q = is_between (At low) (upper_edge high) q ≡ true

  -- the nodes within bounds that are above a name are these
  abbrev AreLater : Name → NodeRow → Type 0
  AreLater from rest = (q : Name) → IsSome (value_at q row) → Inside q → name_cmp from q ≡ Less → IsSome (value_at q rest)

  -- a name above one that lies within is within, or at the bound or above it
  by_bound : (from q : Name) → Inside from → name_cmp from q ≡ Less → Inside q ⊎ ((h : Name) × (high ≡ Some h) × IsUpTo h q)
  by_bound from q inside less = by_high high refl
    where
      lower : IsUpTo low q
      lower = up_trans low from q (sides_of low from high inside).0 (less_up from q less)

      by_high : (o : Option Name) → high ≡ o → Inside q ⊎ ((h : Name) × (high ≡ Some h) × IsUpTo h q)
      by_high None is = inl (subst (λ (p : Option Name). is_between (At low) (upper_edge p) q ≡ true) (sym is) (ap (λ (t : Bool). not t && true) lower))
      by_high (Some h) is = by_test (is_gt (name_cmp h q)) refl
        where
          by_test : (t : Bool) → is_gt (name_cmp h q) ≡ t → Inside q ⊎ ((h : Name) × (high ≡ Some h) × IsUpTo h q)
          by_test true below = inl (subst (λ (p : Option Name). is_between (At low) (upper_edge p) q ≡ true) (sym is) (ap₂ (λ (a b : Bool). not a && b) lower below))
          by_test false above = inr (h, is, above)

  -- the bound is above a name that lies within
  bound_above : (from h : Name) → Inside from → high ≡ Some h → (name_cmp from h ≡ Less) × IsSome (value_at h row)
  bound_above from h inside is = (
    gt_less from h (subst (λ (o : Option Name). is_below (upper_edge o) from ≡ true) is (sides_of low from high inside).1),
    subst (λ (o : Option Name). IfSome o (λ p. IsSome (value_at p row))) is bound,
  )

  -- the last of the nodes ends at the bound
  last_ends : (from : Name) → Inside from → AreLater from [] → low_behind from row ≡ high
  last_ends from inside later = by_high high refl
    where
      by_side : {A : Type 0} (q : Name) → IsSome (value_at q row) → name_cmp from q ≡ Less → ((h : Name) → high ≡ Some h → IsUpTo h q → A) → A
      by_side {A} q there less out = pick (by_bound from q inside less)
        where
          pick : Inside q ⊎ ((h : Name) × (high ≡ Some h) × IsUpTo h q) → A
          pick (inl within) = absurd (true≢false (sym (later q there within less)))
          pick (inr over) = out over.0 over.1 over.2

      by_high : (o : Option Name) → high ≡ o → low_behind from row ≡ o
      by_high None is = none_is row from (λ q there less. by_side q there less (λ h same above. none-some h (sym is ∙ same)))
      by_high (Some h) is =
          let at = bound_above from h inside is in
          next_is row from h up at.1 at.0 (λ q there less. by_side q there less (λ g same above. subst (λ (y : Name). IsUpTo y q) (same_Some g h (sym same ∙ is)) above))

  -- the nodes within bounds follow one another
  pub they_follow : (from : Name) (rest : NodeRow) → Inside from → IsStrictlySortedBy name_cmp (keys_of rest) → AllByRecursion (λ (f : Name × Node). IsSome (value_at f.0 row) × Inside f.0 × (name_cmp from f.0 ≡ Less)) rest →
      AreLater from rest → Follow row high from rest
  unfolding IsStrictlySortedBy
  they_follow from [] inside sorted all later = last_ends from inside later
  they_follow from (f ∷ rest) inside sorted all later = (
    next_is row from f.0 up all.0.0 all.0.2 (λ q there less. by_side q there less),
    they_follow f.0 rest all.0.1 sorted.1
        (all_weaker (λ (g : Name × Node). (IsSome (value_at g.0 row) × Inside g.0 × (name_cmp from g.0 ≡ Less)) × (name_cmp f.0 g.0 ≡ Less)) (λ g. IsSome (value_at g.0 row) × Inside g.0 × (name_cmp f.0 g.0 ≡ Less))
        (λ g h. (h.0.0, h.0.1, h.1)) rest
        (both_all (λ (g : Name × Node). IsSome (value_at g.0 row) × Inside g.0 × (name_cmp from g.0 ≡ Less)) (λ g. name_cmp f.0 g.0 ≡ Less) rest all.1 (keys_all (λ y. name_cmp f.0 y ≡ Less) rest sorted.0)))
        (λ q there within less. past q less (first_or_rest f rest q (later q there within (less_through from f.0 q all.0.2 (less_up f.0 q less))))),
  )
    where
      past : (q : Name) → name_cmp f.0 q ≡ Less → (q ≡ f.0) ⊎ IsSome (value_at q rest) → IsSome (value_at q rest)
      past q less (inl same) = absurd (less_not_up f.0 q less (same_up q f.0 same))
      past q less (inr h) = h

      at_rest : (q : Name) → (q ≡ f.0) ⊎ IsSome (value_at q rest) → IsUpTo f.0 q
      at_rest q (inl same) = same_up f.0 q (sym same)
      at_rest q (inr h) = less_up f.0 q (found_behind f.0 q rest sorted.0 h)

      by_side : (q : Name) → IsSome (value_at q row) → name_cmp from q ≡ Less → IsUpTo f.0 q
      by_side q there less = pick (by_bound from q inside less)
        where
          pick : Inside q ⊎ ((h : Name) × (high ≡ Some h) × IsUpTo h q) → IsUpTo f.0 q
          pick (inl within) = at_rest q (first_or_rest f rest q (later q there within less))
          pick (inr over) = up_trans f.0 over.0 q (less_up f.0 over.0 (bound_above f.0 over.0 all.0.1 over.1).0) over.2

-- ---- a low more

-- the low behind another one is as it was where a low is put that is not within that node
pub behind_put : (old new : NodeRow) (middle low x : Name) (node m : Node) → IsRising old → IsRising new → HasPut old new middle node → IsOver old middle (low, m) → (x ≡ low → ⊥) → IsSome (value_at x old) →
    low_behind x new ≡ low_behind x old
behind_put old new middle low x node m was up put over other some = by_low (low_behind x old) refl
  where
    -- a low above the name was there, or a lower one that is above the name too
    older : (q : Name) → IsSome (value_at q new) → name_cmp x q ≡ Less → (p : Name) × IsSome (value_at p old) × (name_cmp x p ≡ Less) × IsUpTo p q
    older q there less = by_name (same_or_other middle q)
      where
        above : (x ≡ low) ⊎ (name_cmp x low ≡ Less) → middle ≡ q → (p : Name) × IsSome (value_at p old) × (name_cmp x p ≡ Less) × IsUpTo p q
        above (inl same) is = absurd (other same)
        above (inr lower) is = (low, there_is old low m over.there, lower, subst (IsUpTo low) is over.below)

        by_name : (middle ≡ q) ⊎ (is_eq (name_cmp middle q) ≡ false) → (p : Name) × IsSome (value_at p old) × (name_cmp x p ≡ Less) × IsUpTo p q
        by_name (inl is) = above (up_cases x low (over.most x some (subst (IsUpTo x) (sym is) (less_up x q less)))) is
        by_name (inr apart) = (q, subst IsSome (put q ∙ other_stays middle q (Some node) (value_at q old) apart) there, less, same_up q q refl)

    kept : (q : Name) → IsSome (value_at q old) → IsSome (value_at q new)
    kept q there = by_name (same_or_other middle q)
      where
        by_name : (middle ≡ q) ⊎ (is_eq (name_cmp middle q) ≡ false) → IsSome (value_at q new)
        by_name (inl is) = subst (λ (y : Name). IsSome (value_at y new)) is (subst IsSome (sym (put middle ∙ same_gets middle (Some node) (value_at middle old))) refl)
        by_name (inr apart) = subst IsSome (sym (put q ∙ other_stays middle q (Some node) (value_at q old) apart)) there

    by_low : (o : Option Name) → low_behind x old ≡ o → low_behind x new ≡ o
    by_low None is =
        none_is new x (λ q there less. (let p = older q there less in let first = first_least old x p.0 was p.1 p.2 in none-some first.0 (sym is ∙ first.1)))
    by_low (Some h) is =
        next_is new x h up (kept h (behind_there x h old is)) (above_low x h old is)
        (λ q there less. (let p = older q there less in let first = first_least old x p.0 was p.1 p.2 in
        up_trans h p.0 q (subst (λ (y : Name). IsUpTo y p.0) (same_Some first.0 h (sym first.1 ∙ is)) first.2) p.3))
