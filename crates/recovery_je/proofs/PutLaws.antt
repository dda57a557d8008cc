-- Nodes that are put while trees are read.
use Rattle.std.proofs.Common.{◌≡◌, ◌⊎◌, ◌==◌, ◌&&◌, cond, is_eq, inl, inr, ap₂, ◌<◌, ◌≤◌, ◌+◌, ◌-◌, length, drop, get_or, ℕ, zero, suc, Bool, Some, Result, Ok, Err, OnOk, true, false, not, None, ap, List, [], ◌∷◌, ◌++◌, Option, IsSome, refl, sym, subst, ◌∙◌, arith}
use mathlib.Core.Path.{fun_ext}
use Rattle.std.proofs.lemmas.Bool.{and_parts, not-true}
use Rattle.std.proofs.lemmas.List.{drop_more}
use Rattle.std.specs.List.{AllByRecursion, flat_map}
use Rattle.je_order.specs.Order.{name_cmp}
use Rattle.je_order.specs.declared.name.Name.{Name}
use Rattle.node_core.specs.declared.node.Node.{Node}
use Rattle.node_core.specs.declared.slot.Marked.{Marked}
use Rattle.record_tree.specs.LoadedNodes.{AllNodes, node_read, HasPutNode}
use Rattle.record_tree.specs.LoadedSlots.{AllRead, shows_deletion_inside, slot_put, HasGone, HasPutSlot}
use Rattle.log_trees.specs.Placed.{Placed}
use Rattle.log_replay.specs.declared.corruption.Corruption.{Corruption}
use Rattle.log_entry.specs.declared.root.Root.{Root}
use Rattle.log_trees.proofs.Right.{read_image-is}
use Rattle.log_trees.specs.Walk.{read_image}
use Rattle.log_trees.specs.Sound.{Child, children, least_name}
use Rattle.log_trees.specs.Images.{slot_shown, node_at, level_of, level_at}
use Rattle.log_meaning.specs.ReadNodes.{is_delta, Loaded, AreRecordsPut, AreLoadedEach, IsLoadedBelow, IsLoadedStill, IsNodeLoaded, IsRootLoaded}
use Rattle.recovery_je.specs.declared.walking.Walking.{Walking}
use Rattle.recovery_je.specs.Putting.{are_whole, HasPut, none_put, below_put, level_put}
use Rattle.recovery_je.specs.Walking.{level_read}

module _ {T : Type 0} (state : T → Loaded) where
  -- nothing is put
  pub none_itself : (x : Walking T) → HasPut state none_put x x
  none_itself x = record { same = refl; rises = let e : x.node ≤ x.node = omega arith in e; puts = λ most le. record { nodes = λ d k y. refl; slots = λ d y. inl refl } }

  -- some nodes are put behind others
  pub put_then : (P Q R : Bool → ℕ → Loaded → Loaded → Type 0) (a b c : Walking T) →
      ((keeps : Bool) (most : ℕ) (x y z : Loaded) → P keeps most x y → Q keeps most y z → R keeps most x z) → HasPut state P a b → HasPut state Q b c → HasPut state R a c
  put_then P Q R a b c join first next =
      let low : a.node ≤ b.node = first.rises in
      let high : b.node ≤ c.node = next.rises in
      record {
        same = next.same ∙ first.same;
        rises = omega (arith, low, high);
        puts = λ most le.
            join a.keeps most (state a.trees) (state b.trees) (state c.trees) (first.puts most (omega (arith, high, le)))
            (subst (λ (k : Bool). Q k most (state b.trees) (state c.trees)) first.same (next.puts most le));
      }

  -- what is put, said otherwise
  pub put_so : (P Q : Bool → ℕ → Loaded → Loaded → Type 0) (a b : Walking T) → ((keeps : Bool) (most : ℕ) (x y : Loaded) → P keeps most x y → Q keeps most x y) → HasPut state P a b → HasPut state Q a b
  put_so P Q a b so h = record { same = h.same; rises = h.rises; puts = λ most le. so a.keeps most (state a.trees) (state b.trees) (h.puts most le) }

pub records_then : (x y z : Loaded) → AreRecordsPut x y → AreRecordsPut y z → AreRecordsPut x z
records_then x y z first next = record {
  nodes = λ d k q. next.nodes d k q ∙ first.nodes d k q;
  slots = λ d q. by_next d q (first.slots d q) (next.slots d q);
}
  where
    by_first : (d : ℕ) (q : Name) → z.slots d q ≡ y.slots d q → (y.slots d q ≡ x.slots d q) ⊎ ((lsn : ℕ) × (y.slots d q ≡ Some (slot_put lsn))) → (z.slots d q ≡ x.slots d q) ⊎ ((lsn : ℕ) × (z.slots d q ≡ Some (slot_put lsn)))
    by_first d q same (inl was) = inl (same ∙ was)
    by_first d q same (inr put) = inr (put.0, same ∙ put.1)

    by_next : (d : ℕ) (q : Name) → (y.slots d q ≡ x.slots d q) ⊎ ((lsn : ℕ) × (y.slots d q ≡ Some (slot_put lsn))) → (z.slots d q ≡ y.slots d q) ⊎ ((lsn : ℕ) × (z.slots d q ≡ Some (slot_put lsn))) →
        (z.slots d q ≡ x.slots d q) ⊎ ((lsn : ℕ) × (z.slots d q ≡ Some (slot_put lsn)))
    by_next d q before (inl same) = by_first d q same before
    by_next d q before (inr put) = inr put

-- a record that is put gets its slot
pub record_got : (old new : AllRead) (db : ℕ) (name : Name) (at : ℕ) → HasPutSlot old new db name at → (d : ℕ) (x : Name) → (new d x ≡ old d x) ⊎ ((lsn : ℕ) × (new d x ≡ Some (slot_put lsn)))
record_got old new db name at put d x = by_test ((db == d) && is_eq (name_cmp name x)) (put d x)
  where
    by_test : (t : Bool) → new d x ≡ cond t (Some (slot_put at)) (old d x) → (new d x ≡ old d x) ⊎ ((lsn : ℕ) × (new d x ≡ Some (slot_put lsn)))
    by_test true is = inr (at, is)
    by_test false is = inl is

-- nodes that are put for each of a list, and are then still
pub same_loaded : (x y : Loaded) → IsLoadedStill x y → y ≡ x
same_loaded x y same =
    ap₂ (λ (n : AllNodes) (r : AllRead). record { nodes = n; slots = r }) (fun_ext (λ d. fun_ext (λ k. fun_ext (λ q. same.nodes d k q)))) (fun_ext (λ d. fun_ext (λ q. same.slots d q)))

module _ {T : Type 0} (state : T → Loaded) where
  -- one more step that puts no node
  pub still_on : (a b c : Walking T) (d k : ℕ) (x : Name) → IsSome ((state a.trees).nodes d k x) → HasPut state none_put a b →
      ((j : ℕ) (y : Name) → IsSome ((state b.trees).nodes d j y) → HasPut state none_put b c) → HasPut state none_put a c
  still_on a b c d k x some first next =
      let le : b.node ≤ b.node = omega arith in
      put_then state none_put none_put none_put a b c (λ keeps most. records_then) first (next k x (subst IsSome (sym ((first.puts b.node le).nodes d k x)) some))

-- ---- a node and what stands below it

-- a node that stands `above` levels above its BINs, and then what stands below it
pub put_below : (es : List Placed) (d above : ℕ) (low : Name) (high : Option Name) (at : ℕ) (node : Node) (slots : List Marked) → slots ≡ node.slots → (keeps : Bool) (most : ℕ) (x y z : Loaded) →
    IsNodeLoaded es keeps most d above low high at node x y → below_put es d above low high slots keeps most y z → IsLoadedBelow es keeps most d above low high at x z
put_below es d zero low high at node slots is keeps most x y z first next = (node, y, first, next)
put_below es d (suc above) low high at node slots is keeps most x y z first next =
    (node, y, first, subst (λ (l : List Marked). AreLoadedEach (λ (c : Child). IsLoadedBelow es keeps most d above c.low c.high c.at) (children low high (flat_map slot_shown l)) y z) is next)

-- the low of the node has a node
pub low_there : (es : List Placed) (keeps : Bool) (most d above : ℕ) (low : Name) (high : Option Name) (at : ℕ) (node : Node) (x y : Loaded) → IsNodeLoaded es keeps most d above low high at node x y → IsSome (y.nodes d above low)
low_there es keeps most d above low high at node x y put = subst IsSome (sym put.put.put.here) refl

-- ---- nodes that are put for each of a list

pub each_none : {A : Type 0} (put : A → Loaded → Loaded → Type 0) (x : Loaded) → AreLoadedEach put [] x x
each_none put x = record { nodes = λ d k q. refl; slots = λ d q. refl }

-- for one of them
pub each_one : {A : Type 0} (put : A → Loaded → Loaded → Type 0) (a : A) (x y : Loaded) → put a x y → AreLoadedEach put (a ∷ []) x y
each_one put a x y h = (y, h, each_none put y)

-- for some, and then for those that are left
pub each_then : {A : Type 0} (put : A → Loaded → Loaded → Type 0) (l bs : List A) (x y z : Loaded) → AreLoadedEach put l x y → AreLoadedEach put bs y z → AreLoadedEach put (l ++ bs) x z
each_then put [] bs x y z first next = subst (λ (n : Loaded). AreLoadedEach put bs n z) (same_loaded x y first) next
each_then put (a ∷ l) bs x y z first next = (first.0, first.1, each_then put l bs first.0 y z first.2 next)

-- nodes were put for some, and those that are left may be put behind them
pub record IsPuttingOn {T A : Type 0} (state : T → Loaded) (put : Bool → ℕ → A → Loaded → Loaded → Type 0) (all left : List A) (old new : Walking T) : Type 0 where
  pub same : new.keeps ≡ old.keeps
  pub rises : old.node ≤ new.node
  pub rest : (most : ℕ) → new.node ≤ most → (last : Loaded) → AreLoadedEach (put old.keeps most) left (state new.trees) last → AreLoadedEach (put old.keeps most) all (state old.trees) last

module _ {T A : Type 0} (state : T → Loaded) (put : Bool → ℕ → A → Loaded → Loaded → Type 0) where
  pub putting_begins : (all left : List A) (x : Walking T) → left ≡ all → IsPuttingOn state put all left x x
  putting_begins all left x is = record { same = refl; rises = let e : x.node ≤ x.node = omega arith in e; rest = λ most le last h. subst (λ (l : List A). AreLoadedEach (put x.keeps most) l (state x.trees) last) is h }

  -- for some more
  pub putting_on : (all before left more : List A) (a b c : Walking T) → before ≡ more ++ left → IsPuttingOn state put all before a b → HasPut state (λ keeps most. AreLoadedEach (put keeps most) more) b c → IsPuttingOn state put all left a c
  putting_on all before left more a b c is first next =
      let low : a.node ≤ b.node = first.rises in
      let high : b.node ≤ c.node = next.rises in
      record {
        same = next.same ∙ first.same;
        rises = omega (arith, low, high);
        rest = λ most le last h.
            first.rest most (omega (arith, high, le)) last
            (subst (λ (l : List A). AreLoadedEach (put a.keeps most) l (state b.trees) last) (sym is)
            (each_then (put a.keeps most) more left (state b.trees) (state c.trees) last (subst (λ (k : Bool). AreLoadedEach (put k most) more (state b.trees) (state c.trees)) first.same (next.puts most le)) h));
      }

  -- the last of them
  pub putting_ends : (all left : List A) (a b c : Walking T) → IsPuttingOn state put all left a b → HasPut state (λ keeps most. AreLoadedEach (put keeps most) left) b c → HasPut state (λ keeps most. AreLoadedEach (put keeps most) all) a c
  putting_ends all left a b c first next =
      let low : a.node ≤ b.node = first.rises in
      let high : b.node ≤ c.node = next.rises in
      record {
        same = next.same ∙ first.same;
        rises = omega (arith, low, high);
        puts = λ most le. first.rest most (omega (arith, high, le)) (state c.trees) (subst (λ (k : Bool). AreLoadedEach (put k most) left (state b.trees) (state c.trees)) first.same (next.puts most le));
      }

  pub putting_last : {X Y : Type 0} (all left more : List A) (a b c : Walking T) (r : Result X Y) → left ≡ more → IsPuttingOn state put all left a b → OnOk r (HasPut state (λ keeps most. AreLoadedEach (put keeps most) more) b c) →
      OnOk r (HasPut state (λ keeps most. AreLoadedEach (put keeps most) all) a c)
  putting_last all left more a b c (Ok v) is first next = putting_ends all more a b c (subst (λ (l : List A). IsPuttingOn state put all l a b) is first) next
  putting_last all left more a b c (Err e) is first next = tt

  -- none is left
  pub putting_done : (all left : List A) (a b : Walking T) → left ≡ [] → IsPuttingOn state put all left a b → HasPut state (λ keeps most. AreLoadedEach (put keeps most) all) a b
  putting_done all left a b none first = record {
    same = first.same;
    rises = first.rises;
    puts = λ most le. first.rest most le (state b.trees) (subst (λ (l : List A). AreLoadedEach (put a.keeps most) l (state b.trees) (state b.trees)) (sym none) (each_none (put a.keeps most) (state b.trees)));
  }

-- ---- a node as it was read

pub node_put : (es : List Placed) (d level : ℕ) (low : Name) (high : Option Name) (at : ℕ) (node : Node) → node_at es at ≡ Some node → node.db ≡ d → node.level ≡ level → (keeps : Bool) (most : ℕ) (x y : Loaded) →
    (node.number ≤ most) × HasPutNode x.nodes y.nodes node.db (node.level - 1) low (node_read node.number at keeps) × HasGone x.slots y.slots node.db (shows_deletion_inside low high node.slots) at →
    IsNodeLoaded es keeps most d (level - 1) low high at node x y
node_put es d level low high at node image db level_is keeps most x y h = record {
  put = record {
    image = image;
    allocated = h.0;
    put = subst (λ (l : ℕ). HasPutNode x.nodes y.nodes d (l - 1) low (node_read node.number at keeps)) level_is (subst (λ (b : ℕ). HasPutNode x.nodes y.nodes b (node.level - 1) low (node_read node.number at keeps)) db h.1);
  };
  slots = subst (λ (b : ℕ). HasGone x.slots y.slots b (shows_deletion_inside low high node.slots) at) db h.2;
}

module _ {T : Type 0} (state : T → Loaded) where
  -- a node, and then what stands below it
  pub put_node_then : {X Y : Type 0} (es : List Placed) (d above : ℕ) (low : Name) (high : Option Name) (at : ℕ) (node : Node) (slots : List Marked) (a b c : Walking T) (r : Result X Y) → slots ≡ node.slots →
      HasPut state (λ keeps most. IsNodeLoaded es keeps most d (above + 1 - 1) low high at node) a b →
      ((k : ℕ) (x : Name) → IsSome ((state b.trees).nodes d k x) → OnOk r (HasPut state (below_put es d above low high slots) b c)) → OnOk r (HasPut state (λ keeps most. IsLoadedBelow es keeps most d above low high at) a c)
  put_node_then es d above low high at node slots a b c (Err e) is first next = tt
  put_node_then es d above low high at node slots a b c (Ok v) is first next =
      let le : b.node ≤ b.node = omega arith in
      let up : above + 1 - 1 ≡ above = omega arith in
      let put = subst (λ (l : ℕ). HasPut state (λ keeps most. IsNodeLoaded es keeps most d l low high at node) a b) up first in
      put_then state (λ keeps most. IsNodeLoaded es keeps most d above low high at node) (below_put es d above low high slots) (λ keeps most. IsLoadedBelow es keeps most d above low high at) a b c
      (put_below es d above low high at node slots is) put (next above low (low_there es a.keeps b.node d above low high at node (state a.trees) (state b.trees) (put.puts b.node le)))

  -- for one of a list
  pub put_one : {A X Y : Type 0} (put : Bool → ℕ → A → Loaded → Loaded → Type 0) (x : A) (a b : Walking T) (r : Result X Y) → OnOk r (HasPut state (λ keeps most. put keeps most x) a b) →
      OnOk r (HasPut state (λ keeps most. AreLoadedEach (put keeps most) (x ∷ [])) a b)
  put_one put x a b (Err e) h = tt
  put_one put x a b (Ok v) h = put_so state (λ keeps most. put keeps most x) (λ keeps most. AreLoadedEach (put keeps most) (x ∷ [])) a b (λ keeps most. each_one (put keeps most) x) h

-- ---- roots

-- the level of the node that an image shows
pub level_there : (files : List ℕ) (es : List Placed) (d at level : ℕ) → level_read (read_image files es d at) ≡ Ok level → level_at es at ≡ level
level_there files es d at level is = by_image (read_image files es d at) refl is
  where
    by_image : (r : Result Node Corruption) → read_image files es d at ≡ r → level_read r ≡ Ok level → level_at es at ≡ level
    by_image (Ok n) read h = ap level_of (read_image-is files es d at n read).0 ∙ same_level n.level level h
      where
        same_level : (a b : ℕ) → ◌≡◌ {A = Result ℕ Corruption} (Ok a) (Ok b) → a ≡ b
        same_level a b e = cc
    by_image (Err c) read h = absurd cc

module _ {T : Type 0} (state : T → Loaded) where
  -- a tree whose topmost node is of a level
  pub level_goes : {X Y : Type 0} (es : List Placed) (d level : ℕ) (low : Name) (at : ℕ) (a b : Walking T) (r : Result X Y) → (level ≡ 0 → ⊥) → low ≡ least_name →
      OnOk r (HasPut state (λ keeps most. IsLoadedBelow es keeps most d (level - 1) low None at) a b) → OnOk r (HasPut state (level_put es d level at) a b)
  level_goes es d level low at a b (Err e) some least h = tt
  level_goes es d zero low at a b (Ok v) some least h = absurd (some refl)
  level_goes es d (suc above) low at a b (Ok v) some least h =
      let one : suc above - 1 ≡ above = omega arith in
      put_so state (λ keeps most. IsLoadedBelow es keeps most d (suc above - 1) low None at) (level_put es d (suc above) at) a b
      (λ keeps most x y p. (above, refl, subst (λ (n : Name). IsLoadedBelow es keeps most d above n None at x y) least (subst (λ (k : ℕ). IsLoadedBelow es keeps most d k low None at x y) one p))) h

  pub root_goes : {X Y : Type 0} (files : List ℕ) (es : List Placed) (root : Root) (level : ℕ) (a b : Walking T) (r : Result X Y) → level_read (read_image files es root.db root.image) ≡ Ok level →
      OnOk r (HasPut state (level_put es root.db level root.image) a b) → OnOk r (HasPut state (λ keeps most. IsRootLoaded es keeps most root) a b)
  root_goes files es root level a b (Err e) is h = tt
  root_goes files es root level a b (Ok v) is h =
      put_so state (level_put es root.db level root.image) (λ keeps most. IsRootLoaded es keeps most root) a b
      (λ keeps most x y p. (p.0, level_there files es root.db root.image level is ∙ p.1, p.2)) h

-- no entry is a delta
pub all_whole : (es : List Placed) → are_whole es ≡ true → AllByRecursion (λ p. is_delta p.1 ≡ false) es
all_whole [] is = tt
all_whole (p ∷ es) is = let both = and_parts (not (is_delta p.1)) (are_whole es) is in (not-true (is_delta p.1) both.0, all_whole es both.1)

-- what is left of a list, with its next one in front
pub next_left : {X : Type 0} (xs : List X) (i : ℕ) (x : X) → i < length xs → x ≡ get_or xs i x → drop i xs ≡ (x ∷ []) ++ drop (i + 1) xs
next_left {X} xs i x within is = drop_more xs i x within ∙ ap (λ (y : X). y ∷ drop (i + 1) xs) (sym is)
