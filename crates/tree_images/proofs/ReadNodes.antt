-- The nodes of trees that were read: each image's node stands alone within its bounds.
use Rattle.std.proofs.Common.{◌≡◌, ◌≤◌, ◌⊎◌, ℕ, zero, suc, Bool, true, false, List, [], ◌∷◌, Option, None, Some, IsSome, refl, ap, sym, subst, ◌∙◌, inl, inr, arith, is_eq, is_lt, Ordering, Less, Equal, Greater}
use mathlib.Core.Path.{fun_ext}
use Rattle.std.proofs.Math.Nat.{le_refl}
use Rattle.std.proofs.lemmas.Bool.{true≢false, cases_eq}
use Rattle.std.proofs.lemmas.Option.{same_Some}
use Rattle.std.specs.List.{AllByRecursion}
use Rattle.je_order.specs.Order.{name_cmp}
use Rattle.je_order.specs.declared.name.Name.{Name}
use Rattle.node_core.proofs.NameOrder.{total, turned}
use Rattle.node_core.specs.declared.node.Node.{Node}
use Rattle.record_map.proofs.NameLaws.{name_same, same_or_other}
use Rattle.record_tree.specs.LoadedNodes.{LoadedNode, AllNodes, node_read, least, HasPutNode, AreNodesStill}
use Rattle.log_trees.specs.Placed.{Placed}
use Rattle.log_trees.specs.Images.{NamedLsn, slots_shown, node_at}
use Rattle.log_trees.specs.Bounds.{is_below, is_within, Child, children}
use Rattle.log_trees.specs.Sound.{AreUp, IsTreeAt}
use Rattle.log_trees.proofs.Bounds.{within_parts, within_from, not_below_itself, wider_high, wider_low, within_next}
use Rattle.log_trees.proofs.Cut.{side_by_side, children_cut, cut_within, cut_up}
use Rattle.log_trees.proofs.Shown.{child_slots_of, right_children}
use Rattle.log_meaning.specs.ReadNodes.{ArePutEach, IsNodePut, ArePutBelow}

is_some : {A : Type 0} (o : Option A) (x : A) → o ≡ Some x → IsSome o
is_some o x is = subst IsSome (sym is) refl

no_some : {A : Type 0} (o : Option A) → o ≡ None → IsSome o → ⊥
no_some o none some = true≢false (sym (subst IsSome none some))

by_option : {A : Type 0} {R : Type 0} (o : Option A) → (o ≡ None → R) → ((x : A) → o ≡ Some x → R) → R
by_option None none some = none refl
by_option (Some x) none some = some x refl

-- ---- one node that is put

-- the nodes of a database up to a level within bounds have no low but the lower bound
abbrev pub IsClear : (ℕ → Name → Option LoadedNode) → ℕ → Name → Option Name → Type 0
IsClear nodes k low high = (j : ℕ) → j ≤ k → (q : Name) → IsSome (nodes j q) → is_within low high q ≡ true → q ≡ low

-- nodes are the same but for those of a database up to a level within bounds
abbrev pub IsSameOutside : AllNodes → AllNodes → ℕ → ℕ → Name → Option Name → Type 0
IsSameOutside old new d k low high = (b j : ℕ) (q : Name) → (b ≡ d → j ≤ k → is_within low high q ≡ true → ⊥) → new b j q ≡ old b j q

-- no node goes
abbrev pub Stay : AllNodes → AllNodes → Type 0
Stay old new = (b j : ℕ) (q : Name) → IsSome (old b j q) → IsSome (new b j q)

-- each level up to one has the least low, or gets it
abbrev HaveLeast : AllNodes → ℕ → ℕ → Name → Type 0
HaveLeast nodes d k low = (j : ℕ) → j ≤ k → (low ≡ least) ⊎ IsSome (nodes d j least)

own_within : (low : Name) (high : Option Name) → is_below low high ≡ true → is_within low high low ≡ true
own_within low high below = within_from low high low (not_below_itself low) below

put_same : (old new : AllNodes) (d k : ℕ) (low : Name) (high : Option Name) (node : LoadedNode) → HasPutNode old new d k low node → HaveLeast old d k low → is_below low high ≡ true → IsSameOutside old new d k low high
put_same old new d k low high node put lows below b j q out = by_option (old b j q) (λ none. by_none none) (λ n is. put.kept b j q n is (λ e1 e2 e3. out e1 (omega (arith, e2)) (inside e3)) ∙ sym is)
  where
    inside : q ≡ low → is_within low high q ≡ true
    inside e = subst (λ (n : Name). is_within low high n ≡ true) (sym e) (own_within low high below)

    by_made : old b j q ≡ None → IsSome (old b j q) ⊎ ((b ≡ d) × (j ≤ k) × ((q ≡ low) ⊎ (q ≡ least))) → ⊥
    by_made none (inl some) = no_some (old b j q) none some
    by_made none (inr h) = by_low h.2
      where
        by_least : q ≡ least → (low ≡ least) ⊎ IsSome (old d j least) → ⊥
        by_least e (inl l) = out h.0 h.1 (inside (e ∙ sym l))
        by_least e (inr some) = no_some (old b j q) none (subst (λ (n : Name). IsSome (old b j n)) (sym e) (subst (λ (i : ℕ). IsSome (old i j least)) (sym h.0) some))

        by_low : (q ≡ low) ⊎ (q ≡ least) → ⊥
        by_low (inl e) = out h.0 h.1 (inside e)
        by_low (inr e) = by_least e (lows j h.1)

    by_none : old b j q ≡ None → new b j q ≡ old b j q
    by_none none = by_option (new b j q) (λ is. is ∙ sym none) (λ n is. absurd (by_made none (put.made b j q (is_some (new b j q) n is))))

put_clear : (old new : AllNodes) (d k : ℕ) (low : Name) (high : Option Name) (node : LoadedNode) → HasPutNode old new d k low node → HaveLeast old d k low → IsClear (old d) k low high → IsClear (new d) k low high
put_clear old new d k low high node put lows clear j le q some within = by_made (put.made d j q some)
  where
    by_least : q ≡ least → (low ≡ least) ⊎ IsSome (old d j least) → q ≡ low
    by_least e (inl l) = e ∙ sym l
    by_least e (inr was) = clear j le q (subst (λ (n : Name). IsSome (old d j n)) (sym e) was) within

    by_made : IsSome (old d j q) ⊎ ((d ≡ d) × (j ≤ k) × ((q ≡ low) ⊎ (q ≡ least))) → q ≡ low
    by_made (inl was) = clear j le q was within
    by_made (inr h) = by_low h.2
      where
        by_low : (q ≡ low) ⊎ (q ≡ least) → q ≡ low
        by_low (inl e) = e
        by_low (inr e) = by_least e (lows j le)

put_stays : (old new : AllNodes) (d k : ℕ) (low : Name) (node : LoadedNode) → HasPutNode old new d k low node → Stay old new
put_stays old new d k low node put b j q was = by_option (old b j q) (λ none. absurd (no_some (old b j q) none was)) (λ n is. by_place n is (cases_eq b d) (cases_eq j k) (same_or_other q low))
  where
    kept : (n : LoadedNode) → old b j q ≡ Some n → (b ≡ d → j ≡ k → q ≡ low → ⊥) → IsSome (new b j q)
    kept n is away = is_some (new b j q) n (put.kept b j q n is away)

    by_place : (n : LoadedNode) → old b j q ≡ Some n → (b ≡ d) ⊎ (b ≡ d → ⊥) → (j ≡ k) ⊎ (j ≡ k → ⊥) → (q ≡ low) ⊎ (is_eq (name_cmp q low) ≡ false) → IsSome (new b j q)
    by_place n is (inr apart) at_level at_low = kept n is (λ e1 e2 e3. apart e1)
    by_place n is (inl db) (inr apart) at_low = kept n is (λ e1 e2 e3. apart e2)
    by_place n is (inl db) (inl level) (inr apart) = kept n is (λ e1 e2 e3. true≢false (sym (ap (λ (x : Name). is_eq (name_cmp x low)) e3 ∙ ap is_eq (name_same low)) ∙ apart))
    by_place n is (inl db) (inl level) (inl here) =
        subst (λ (i : ℕ). IsSome (new i j q)) (sym db) (subst (λ (i : ℕ). IsSome (new d i q)) (sym level) (subst (λ (x : Name). IsSome (new d k x)) (sym here) (is_some (new d k low) node put.here)))

put_least : (old new : AllNodes) (d k : ℕ) (low : Name) (node : LoadedNode) → HasPutNode old new d k low node → HaveLeast old d k low → (j : ℕ) → j ≤ k → IsSome (new d j least)
put_least old new d k low node put lows j le = by_case (lows j le)
  where
    by_case : (low ≡ least) ⊎ IsSome (old d j least) → IsSome (new d j least)
    by_case (inl e) = subst (λ (x : Name). IsSome (new d j x)) e (put.below j le)
    by_case (inr was) = put_stays old new d k low node put d j least was

pub still_same : (x y : AllNodes) → AreNodesStill x y → y ≡ x
still_same x y same = fun_ext (λ d. fun_ext (λ k. fun_ext (λ q. same d k q)))

-- a lower bound is below the name behind a slot
pub slot_less : (low : Name) (s t : NamedLsn) → is_lt (name_cmp s.0 low) ≡ false → name_cmp s.0 t.0 ≡ Less → is_lt (name_cmp low t.0) ≡ true
slot_less low s t from less = by_case (same_or_other low s.0)
  where
    by_case : (low ≡ s.0) ⊎ (is_eq (name_cmp low s.0) ≡ false) → is_lt (name_cmp low t.0) ≡ true
    by_case (inl e) = ap (λ (x : Name). is_lt (name_cmp x t.0)) e ∙ ap is_lt less
    by_case (inr apart) = ap is_lt (total.trans low s.0 t.0 (lower (name_cmp low s.0) refl) less)
      where
        lower : (o : Ordering) → name_cmp low s.0 ≡ o → name_cmp low s.0 ≡ Less
        lower Less e = e
        lower Equal e = absurd (true≢false (sym (ap is_eq e) ∙ apart))
        lower Greater e = absurd (true≢false (sym (ap is_lt (turned low s.0 Greater e)) ∙ from))

-- a name on one side of a bound is not on the other one
not_both : (low n q : Name) (high : Option Name) → is_within low (Some n) q ≡ true → is_within n high q ≡ true → ⊥
not_both low n q high left right = true≢false (sym (within_parts low (Some n) q left).1 ∙ (within_parts n high q right).0)

module _ (es : List Placed) (keeps : Bool) (most : ℕ) where
  -- ---- the nodes below an image

  -- the node that an image shows is there as it was read, and no other one of its level within its bounds
  pub record IsShown (nodes : ℕ → Name → Option LoadedNode) (k : ℕ) (low : Name) (high : Option Name) (at : ℕ) (node : Node) : Type 0 where
    pub image : node_at es at ≡ Some node
    pub allocated : node.number ≤ most
    pub here : nodes k low ≡ Some (node_read node.number at keeps)
    pub alone : (q : Name) → IsSome (nodes k q) → is_within low high q ≡ true → q ≡ low

  -- and so are all below it
  abbrev pub ShowsNodes : (ℕ → Name → Option LoadedNode) → ℕ → Name → Option Name → ℕ → Type 0
  ShowsNodes nodes zero low high at = (node : Node) × IsShown nodes 0 low high at node
  ShowsNodes nodes (suc k) low high at = (node : Node) × IsShown nodes (suc k) low high at node × AllByRecursion (λ (c : Child). ShowsNodes nodes k c.low c.high c.at) (children low high (slots_shown node))

  -- ---- which are the same where the nodes within the bounds are

  abbrev pub IsSameWithin : (ℕ → Name → Option LoadedNode) → (ℕ → Name → Option LoadedNode) → ℕ → Name → Option Name → Type 0
  IsSameWithin old new k low high = (j : ℕ) (q : Name) → j ≤ k → is_within low high q ≡ true → new j q ≡ old j q

  shown_same : (old new : ℕ → Name → Option LoadedNode) (k : ℕ) (low : Name) (high : Option Name) (at : ℕ) (node : Node) → is_below low high ≡ true → IsSameWithin old new k low high → IsShown old k low high at node → IsShown new k low high at node
  shown_same old new k low high at node below same h = record {
    image = h.image;
    allocated = h.allocated;
    here = same k low (le_refl k) (own_within low high below) ∙ h.here;
    alone = λ q some within. h.alone q (subst IsSome (same k q (le_refl k) within) some) within;
  }

  module _ (home : ℕ → ℕ → Name → Type 0) (d : ℕ) where
    all_same : (k : ℕ) (old new : ℕ → Name → Option LoadedNode)
        (goes : (low : Name) (high : Option Name) (at : ℕ) → is_below low high ≡ true → IsSameWithin old new k low high → IsTreeAt es home d k low high at → ShowsNodes old k low high at → ShowsNodes new k low high at)
        (low : Name) (high : Option Name) (slots : List NamedLsn) → is_below low high ≡ true → IsSameWithin old new k low high → AllByRecursion (λ s. is_within low high s.0 ≡ true) slots → AreUp slots →
        AllByRecursion (λ (c : Child). IsTreeAt es home d k c.low c.high c.at) (side_by_side low high slots) → AllByRecursion (λ (c : Child). ShowsNodes old k c.low c.high c.at) (side_by_side low high slots) →
        AllByRecursion (λ (c : Child). ShowsNodes new k c.low c.high c.at) (side_by_side low high slots)
    all_same k old new goes low high [] below same within up trees shown = tt
    all_same k old new goes low high (s ∷ []) below same within up trees shown = (goes low high s.1 below same trees.0 shown.0, tt)
    all_same k old new goes low high (s ∷ t ∷ slots) below same within up trees shown =
        let bounds = within_parts low high t.0 within.1.0 in
        let less = slot_less low s t (within_parts low high s.0 within.0).0 up.0.0 in (
          goes low (Some t.0) s.1 less (λ j q le inside. same j q le (wider_high low high t.0 q bounds.1 inside)) trees.0 shown.0,
          all_same k old new goes t.0 high (t ∷ slots) bounds.1 (λ j q le inside. same j q le (wider_low low high t.0 q bounds.0 inside)) (within_next low high t slots within.1 up.1) up.1 trees.1 shown.1,
        )

    pub nodes_same : (k : ℕ) (old new : ℕ → Name → Option LoadedNode) (low : Name) (high : Option Name) (at : ℕ) → is_below low high ≡ true → IsSameWithin old new k low high → IsTreeAt es home d k low high at →
        ShowsNodes old k low high at → ShowsNodes new k low high at
    nodes_same zero old new low high at below same tree shown = (shown.0, shown_same old new 0 low high at shown.0 below same shown.1)
    nodes_same (suc k) old new low high at below same tree shown =
        let is : shown.0 ≡ tree.node = same_Some shown.0 tree.node (sym shown.1.image ∙ tree.image) in (
          shown.0,
          shown_same old new (suc k) low high at shown.0 below same shown.1,
          subst (λ (n : Node). AllByRecursion (λ (c : Child). ShowsNodes new k c.low c.high c.at) (children low high (slots_shown n))) (sym is)
              (subst (AllByRecursion (λ (c : Child). ShowsNodes new k c.low c.high c.at)) (sym (children_cut low high (slots_shown tree.node) tree.up))
              (all_same k old new (nodes_same k old new) low high (child_slots_of low high tree.node) below (λ j q le inside. same j q (let e : j ≤ k = le in omega (arith, e)) inside)
              (cut_within low high (slots_shown tree.node) below tree.up) (cut_up low high (slots_shown tree.node) tree.up) (right_children es home d k low high at tree)
              (subst (AllByRecursion (λ (c : Child). ShowsNodes old k c.low c.high c.at)) (children_cut low high (slots_shown tree.node) tree.up)
              (subst (λ (n : Node). AllByRecursion (λ (c : Child). ShowsNodes old k c.low c.high c.at) (children low high (slots_shown n))) is shown.2)))),
        )

    -- ---- nodes that are put

    -- the nodes below an image were put
    pub record IsPut (old new : AllNodes) (k : ℕ) (low : Name) (high : Option Name) (Shown : Type 0) : Type 0 where
      pub shown : Shown
      pub same : IsSameOutside old new d k low high
      pub stay : Stay old new

    abbrev Goes : ℕ → Type 0
    Goes k = (low : Name) (high : Option Name) (at : ℕ) (old new : AllNodes) → ArePutBelow es keeps most d k low high at old new → IsTreeAt es home d k low high at → is_below low high ≡ true →
        HaveLeast old d k low → IsClear (old d) k low high → IsPut old new k low high (ShowsNodes (new d) k low high at)

    all_put : (k : ℕ) → Goes k → (low : Name) (high : Option Name) (slots : List NamedLsn) (old new : AllNodes) →
        ArePutEach (λ (c : Child). ArePutBelow es keeps most d k c.low c.high c.at) (side_by_side low high slots) old new → AllByRecursion (λ s. is_within low high s.0 ≡ true) slots → AreUp slots →
        AllByRecursion (λ (c : Child). IsTreeAt es home d k c.low c.high c.at) (side_by_side low high slots) → is_below low high ≡ true → ((j : ℕ) → j ≤ k → IsSome (old d j least)) → IsClear (old d) k low high →
        IsPut old new k low high (AllByRecursion (λ (c : Child). ShowsNodes (new d) k c.low c.high c.at) (side_by_side low high slots))
    all_put k goes low high [] old new put within up trees below lows clear =
        record { shown = tt; same = λ b j q out. put b j q; stay = λ b j q was. subst IsSome (sym (put b j q)) was }
    all_put k goes low high (s ∷ []) old new put within up trees below lows clear =
        subst (λ (n : AllNodes). IsPut old n k low high (ShowsNodes (n d) k low high s.1 × Unit {0})) (sym (still_same put.0 new put.2))
        (let first = goes low high s.1 old put.0 put.1 trees.0 below (λ j le. inr (lows j le)) clear in record { shown = (first.shown, tt); same = first.same; stay = first.stay })
    all_put k goes low high (s ∷ t ∷ slots) old new put within up trees below lows clear =
        let mid : AllNodes = put.0 in
        let bounds = within_parts low high t.0 within.1.0 in
        let less = slot_less low s t (within_parts low high s.0 within.0).0 up.0.0 in
        let first = goes low (Some t.0) s.1 old mid put.1 trees.0 less (λ j le. inr (lows j le)) (λ j le q some inside. clear j le q some (wider_high low high t.0 q bounds.1 inside)) in
        let next = all_put k goes t.0 high (t ∷ slots) mid new put.2 (within_next low high t slots within.1 up.1) up.1 trees.1 bounds.1 (λ j le. first.stay d j least (lows j le))
        (λ j le q some inside. absurd (above low t.0 q high less inside
        (clear j le q (subst IsSome (first.same d j q (λ e1 e2 left. not_both low t.0 q high left inside)) some) (wider_low low high t.0 q bounds.0 inside)))) in
        record {
          shown = (nodes_same k (mid d) (new d) low (Some t.0) s.1 less (λ j q le left. next.same d j q (λ e1 e2 inside. not_both low t.0 q high left inside)) trees.0 first.shown, next.shown);
          same = λ b j q out.
              next.same b j q (λ e1 e2 inside. out e1 e2 (wider_low low high t.0 q bounds.0 inside))
              ∙ first.same b j q (λ e1 e2 inside. out e1 e2 (wider_high low high t.0 q bounds.1 inside));
          stay = λ b j q was. next.stay b j q (first.stay b j q was);
        }
      where
        above : (low n q : Name) (high : Option Name) → is_lt (name_cmp low n) ≡ true → is_within n high q ≡ true → q ≡ low → ⊥
        above low n q high less inside e = true≢false (sym (ap (λ (x : Name). is_lt (name_cmp x n)) e ∙ less) ∙ (within_parts n high q inside).0)

    pub nodes_put : (k : ℕ) → Goes k
    nodes_put zero low high at old new put tree below lows clear = record {
      shown = (
        put.0,
        record {
          image = put.1.image;
          allocated = put.1.allocated;
          here = put.1.put.here;
          alone = λ q some within. put_clear old new d 0 low high _ put.1.put lows clear 0 (le_refl 0) q some within;
        },
      );
      same = put_same old new d 0 low high _ put.1.put lows below;
      stay = put_stays old new d 0 low _ put.1.put;
    }
    nodes_put (suc k) low high at old new put tree below lows clear =
        let node : Node = put.0 in
        let mid : AllNodes = put.1 in
        let one : IsNodePut es keeps most d (suc k) low at node old mid = put.2 in
        let is : node ≡ tree.node = same_Some node tree.node (sym one.image ∙ tree.image) in
        let up : (j : ℕ) → j ≤ k → j ≤ suc k = λ j le. omega (arith, le) in
        let cleared : IsClear (mid d) (suc k) low high = put_clear old mid d (suc k) low high (node_read node.number at keeps) one.put lows clear in
        let least_there : (j : ℕ) → j ≤ suc k → IsSome (mid d j least) = put_least old mid d (suc k) low (node_read node.number at keeps) one.put lows in
        let cut_is : children low high (slots_shown tree.node) ≡ side_by_side low high (child_slots_of low high tree.node) = children_cut low high (slots_shown tree.node) tree.up in
        let rest = all_put k (nodes_put k) low high (child_slots_of low high tree.node) mid new
        (subst (λ (l : List Child). ArePutEach (λ (c : Child). ArePutBelow es keeps most d k c.low c.high c.at) l mid new) cut_is
        (subst (λ (n : Node). ArePutEach (λ (c : Child). ArePutBelow es keeps most d k c.low c.high c.at) (children low high (slots_shown n)) mid new) is put.3))
        (cut_within low high (slots_shown tree.node) below tree.up) (cut_up low high (slots_shown tree.node) tree.up) (right_children es home d k low high at tree) below (λ j le. least_there j (up j le)) (λ j le. cleared j (up j le)) in
        let top : new d (suc k) low ≡ mid d (suc k) low = rest.same d (suc k) low (λ e1 le inside. absurd (omega (arith, le))) in
        record {
          shown = (
            node,
            record {
              image = one.image;
              allocated = one.allocated;
              here = top ∙ one.put.here;
              alone = λ q some within. cleared (suc k) (le_refl (suc k)) q (subst IsSome (rest.same d (suc k) q (λ e1 le inside. absurd (omega (arith, le)))) some) within;
            },
            subst (λ (n : Node). AllByRecursion (λ (c : Child). ShowsNodes (new d) k c.low c.high c.at) (children low high (slots_shown n))) (sym is) (subst (AllByRecursion (λ (c : Child). ShowsNodes (new d) k c.low c.high c.at)) (sym cut_is) rest.shown),
          );
          same = λ b j q out.
              rest.same b j q (λ e1 le inside. out e1 (up j le) inside)
              ∙ put_same old mid d (suc k) low high (node_read node.number at keeps) one.put lows below b j q out;
          stay = λ b j q was. rest.stay b j q (put_stays old mid d (suc k) low (node_read node.number at keeps) one.put b j q was);
        }
