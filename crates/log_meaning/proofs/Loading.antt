-- The nodes that are put with what is read of their names.
use Rattle.std.proofs.Common.{◌≡◌, ℕ, zero, suc, Bool, List, [], ◌∷◌, Option, refl, ap, sym, subst, ◌∙◌}
use mathlib.Core.Path.{fun_ext}
use Rattle.je_order.specs.declared.name.Name.{Name}
use Rattle.log_entry.specs.declared.root.Root.{Root}
use Rattle.record_tree.specs.LoadedNodes.{AllNodes, AreNodesStill}
use Rattle.log_trees.specs.Placed.{Placed}
use Rattle.log_trees.specs.Images.{slots_shown}
use Rattle.log_trees.specs.Sound.{Child, children}
use Rattle.log_meaning.specs.ReadNodes.{Loaded, AreLoadedEach, ArePutEach, ArePutBelow, IsLoadedBelow, IsNodePut, IsRootLoaded, IsRootPut}

still_nodes : (x y : AllNodes) → AreNodesStill x y → x ≡ y
still_nodes x y same = sym (fun_ext (λ d. fun_ext (λ k. fun_ext (λ q. same d k q))))

each_nodes : {A : Type 0} (put : A → Loaded → Loaded → Type 0) (Put : A → AllNodes → AllNodes → Type 0) → ((a : A) (old new : Loaded) → put a old new → Put a old.nodes new.nodes) → (l : List A) (old new : Loaded) → AreLoadedEach put l old new →
    ArePutEach Put l old.nodes new.nodes
each_nodes put Put one [] old new h = h.nodes
each_nodes put Put one (a ∷ l) old new h = (h.0.nodes, one a old h.0 h.1, each_nodes put Put one l h.0 new h.2)

below_nodes : (es : List Placed) (keeps : Bool) (most d k : ℕ) (low : Name) (high : Option Name) (at : ℕ) (old new : Loaded) → IsLoadedBelow es keeps most d k low high at old new → ArePutBelow es keeps most d k low high at old.nodes new.nodes
below_nodes es keeps most d zero low high at old new h =
    (h.0, subst (λ (n : AllNodes). IsNodePut es keeps most d 0 low at h.0 old.nodes n) (still_nodes h.1.nodes new.nodes h.3.nodes) h.2.put)
below_nodes es keeps most d (suc k) low high at old new h = (
  h.0,
  h.1.nodes,
  h.2.put,
  each_nodes (λ (c : Child). IsLoadedBelow es keeps most d k c.low c.high c.at) (λ (c : Child). ArePutBelow es keeps most d k c.low c.high c.at) (λ c. below_nodes es keeps most d k c.low c.high c.at) (children low high (slots_shown h.0)) h.1 new h.3,
)

-- the nodes of the trees of roots were put
pub roots_nodes : (es : List Placed) (keeps : Bool) (most : ℕ) (roots : List Root) (old new : Loaded) → AreLoadedEach (IsRootLoaded es keeps most) roots old new → ArePutEach (IsRootPut es keeps most) roots old.nodes new.nodes
roots_nodes es keeps most roots old new h =
    each_nodes (IsRootLoaded es keeps most) (IsRootPut es keeps most) (λ r a b put. (put.0, put.1, below_nodes es keeps most r.db put.0 _ _ r.image a b put.2)) roots old new h
