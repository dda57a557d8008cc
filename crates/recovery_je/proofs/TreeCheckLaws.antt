-- Checks of trees.
use Rattle.std.proofs.Common.{◌≡◌, ℕ, zero, suc, ◌+◌, List, [], ◌∷◌, ◌++◌, Option, None, Some, Result, Ok, Err, refl, sym, ap, subst, ◌∙◌, arith}
use Rattle.std.specs.Prelude.{OnOk}
use Rattle.std.specs.List.{flat_map}
use Rattle.je_order.specs.declared.name.Name.{Name}
use Rattle.log_entry.specs.declared.root.Root.{Root}
use Rattle.node_core.specs.declared.node.Node.{Node}
use Rattle.node_core.specs.declared.slot.Marked.{Marked}
use Rattle.record_tree.specs.Stored.{AllStored}
use Rattle.log_replay.specs.declared.corruption.Corruption.{Corruption}
use Rattle.log_meaning.specs.Checkpoint.{Checkpoint}
use Rattle.log_trees.specs.Placed.{Placed}
use Rattle.log_trees.specs.Images.{slot_shown}
use Rattle.log_trees.specs.Bounds.{children}
use Rattle.log_trees.specs.Walk.{met, read_here}
use Rattle.check_laws.specs.Noting.{as_noted, noted, or_noted, each_on}
use Rattle.check_laws.specs.Trees.{NotedTrees, check_child, check_node, check_root, check_roots, with_walk}
use Rattle.recovery_je.specs.declared.read_err.ReadErr.{ReadErr}
use Rattle.recovery_je.specs.declared.read_err.ReadErr.TheVariants.{Found}
use Rattle.recovery_je.specs.declared.tree_check.TreeCheck.{TreeCheck}
use Rattle.recovery_je.specs.Recovering.{IsFoundBy}
use Rattle.recovery_je.specs.Walking.{IsWalking, waiting}
use Rattle.recovery_je.specs.TreeChecks.{IsChecking, ChecksBy, check_below}
use Rattle.recovery_je.proofs.NodeWalks.{here_same, children_left}

-- ---- steps

pub ok_so : {A E : Type 0} {P Q : Type 0} (r : Result A E) → (P → Q) → OnOk r P → OnOk r Q
ok_so (Ok x) f h = f h
ok_so (Err e) f h = tt

-- a step that is the same as another one
pub checks_same : {T : Type 0} (stored : T → AllStored) (f g : NotedTrees → NotedTrees) (old new : TreeCheck T) → ((s : NotedTrees) → IsChecking stored old s → f s ≡ g s) → ChecksBy stored f old new → ChecksBy stored g old new
checks_same stored f g old new same by s at = subst (IsChecking stored new) (same s at) (by s at)

-- ---- each of a list

-- some were checked, and these are left
pub record IsCheckedOn {A : Type 0} (check : A → NotedTrees → NotedTrees) (all left : List A) (P : NotedTrees → Type 0) (s : NotedTrees) : Type 0 where
  pub here : NotedTrees
  pub at : P here
  pub rest : each_on check left here ≡ each_on check all s

abbrev pub ChecksOn : {T A : Type 0} → (T → AllStored) → (A → NotedTrees → NotedTrees) → List A → List A → TreeCheck T → TreeCheck T → Type 0
ChecksOn stored check all left old now_ = (s : NotedTrees) → IsChecking stored old s → IsCheckedOn check all left (IsChecking stored now_) s

each_both : {A : Type 0} (check : A → NotedTrees → NotedTrees) (more left : List A) (s : NotedTrees) → each_on check (more ++ left) s ≡ each_on check left (each_on check more s)
each_both check [] left s = refl
each_both check (x ∷ more) left s = each_both check more left (check x s)

pub checks_on : {T A : Type 0} (stored : T → AllStored) (check : A → NotedTrees → NotedTrees) (all before more left : List A) (old mid new : TreeCheck T) → before ≡ more ++ left →
    ChecksOn stored check all before old mid → ChecksBy stored (each_on check more) mid new → ChecksOn stored check all left old new
checks_on stored check all before more left old mid new is so_far step s at =
    let on = so_far s at in
    record {
      here = each_on check more on.here;
      at = step on.here on.at;
      rest = sym (each_both check more left on.here) ∙ ap (λ (l : List _). each_on check l on.here) (sym is) ∙ on.rest;
    }

-- those that are left are others by the same name
pub checks_left : {T A : Type 0} (stored : T → AllStored) (check : A → NotedTrees → NotedTrees) (all before left : List A) (old now_ : TreeCheck T) → before ≡ left → ChecksOn stored check all before old now_ → ChecksOn stored check all left old now_
checks_left stored check all before left old now_ is so_far s at = subst (λ (l : List _). IsCheckedOn check all l (IsChecking stored now_) s) is (so_far s at)

-- the last of them are checked
pub checks_end : {T A : Type 0} (stored : T → AllStored) (check : A → NotedTrees → NotedTrees) (all left last : List A) (old mid new : TreeCheck T) → left ≡ last →
    ChecksOn stored check all left old mid → ChecksBy stored (each_on check last) mid new → ChecksBy stored (each_on check all) old new
checks_end stored check all left last old mid new is so_far step s at =
    let on = so_far s at in
    subst (IsChecking stored new) (ap (λ (l : List _). each_on check l on.here) (sym is) ∙ on.rest) (step on.here on.at)

-- ---- records

-- ---- nodes

-- a tree is its node, and what its slots name
node_parts : (files : List ℕ) (es : List Placed) (d above : ℕ) (low : Name) (high : Option Name) (at : ℕ) (s : NotedTrees) →
    check_node files es d above low high at s ≡ or_noted (read_here files es d (above + 1) at s.walk.seen) s (λ n s. check_below files es d above low high at n.slots (with_walk (met n) s))
node_parts files es d zero low high at s = refl
node_parts files es d (suc above) low high at s =
    ap (λ (level : ℕ). or_noted (read_here files es d level at s.walk.seen) s (λ n s. check_below files es d (suc above) low high at n.slots (with_walk (met n) s))) (one_more above)
  where
    one_more : (n : ℕ) → suc (suc n) ≡ suc n + 1
    one_more n = omega arith

node_by : {T : Type 0} (stored : T → AllStored) (files : List ℕ) (es : List Placed) (d above : ℕ) (low : Name) (high : Option Name) (at : ℕ) (old : TreeCheck T) (r : Result Node Corruption) (s : NotedTrees) →
    read_here files es d (above + 1) at old.walking.seen.keys ≡ r → IsChecking stored old s →
    or_noted r s (λ n s. check_below files es d above low high at n.slots (with_walk (met n) s)) ≡ check_node files es d above low high at s
node_by stored files es d above low high at old r s is h =
    ap (λ (o : Result Node Corruption). or_noted o s (λ n s. check_below files es d above low high at n.slots (with_walk (met n) s)))
    (sym is ∙ here_same files es d (above + 1) at old.walking.seen.keys s.walk.seen h.walk.seen_is)
    ∙ sym (node_parts files es d above low high at s)

pub node_met : {T : Type 0} (stored : T → AllStored) (files : List ℕ) (es : List Placed) (d above : ℕ) (low : Name) (high : Option Name) (at : ℕ) (old new : TreeCheck T) (n : Node) →
    read_here files es d (above + 1) at old.walking.seen.keys ≡ Ok n → ChecksBy stored (λ s. check_below files es d above low high at n.slots (with_walk (met n) s)) old new → ChecksBy stored (check_node files es d above low high at) old new
node_met stored files es d above low high at old new n is by =
    checks_same stored (λ s. check_below files es d above low high at n.slots (with_walk (met n) s)) (check_node files es d above low high at) old new (λ s h. node_by stored files es d above low high at old (Ok n) s is h) by

pub node_wrong : {T : Type 0} (stored : T → AllStored) (files : List ℕ) (es : List Placed) (d above : ℕ) (low : Name) (high : Option Name) (at : ℕ) (old new : TreeCheck T) (failure : ReadErr) →
    IsFoundBy failure (λ c. read_here files es d (above + 1) at old.walking.seen.keys ≡ Err c) → (c : Corruption) × (failure ≡ Found c) × ChecksBy stored (noted c) old new → ChecksBy stored (check_node files es d above low high at) old new
node_wrong stored files es d above low high at old new failure found is =
    let wrong : read_here files es d (above + 1) at old.walking.seen.keys ≡ Err is.0 = subst (λ (e : ReadErr). IsFoundBy e (λ c. read_here files es d (above + 1) at old.walking.seen.keys ≡ Err c)) is.1 found in
    checks_same stored (noted is.0) (check_node files es d above low high at) old new (λ s h. node_by stored files es d above low high at old (Err is.0) s wrong h) is.2

-- what stands below an IN
pub below_in : {T : Type 0} (stored : T → AllStored) (files : List ℕ) (es : List Placed) (d above below : ℕ) (low : Name) (high : Option Name) (at : ℕ) (slots : List Marked) (old new : TreeCheck T) → above ≡ suc below →
    ChecksBy stored (each_on (check_child files (check_node files es d below) at) (children low high (flat_map slot_shown slots))) old new → ChecksBy stored (check_below files es d above low high at slots) old new
below_in stored files es d above below low high at slots old new is by = subst (λ (n : ℕ). ChecksBy stored (check_below files es d n low high at slots) old new) (sym is) by

-- ---- children

-- no slot is left
pub none_left : (low : Name) (high : Option Name) (pending : Option ℕ) → children_left low high pending [] ≡ waiting low high pending
none_left low high None = refl
none_left low high (Some at) = refl

-- ---- roots

-- all of them, of trees that were empty
pub roots_all : {T : Type 0} (stored : T → AllStored) (files : List ℕ) (es : List Placed) (end : Checkpoint) (at : ℕ) (roots : List Root) (old new : TreeCheck T) → roots ≡ end.roots → at ≡ end.at →
    IsWalking (stored old.walking.trees) old.walking.seen.keys old.walking.node old.walking.db (record { seen = []; rows = [] }) → old.findings ≡ [] →
    ChecksBy stored (each_on (check_root files es at) roots) old new → IsChecking stored new (check_roots files es end.at end.roots)
roots_all stored files es end at roots old new roots_are at_is begins none by =
    subst (λ (n : ℕ). IsChecking stored new (check_roots files es n end.roots)) at_is
    (subst (λ (l : List Root). IsChecking stored new (check_roots files es at l)) roots_are (by (as_noted (record { seen = []; rows = [] }) []) (record { walk = begins; found = none })))
