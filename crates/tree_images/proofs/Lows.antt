-- The lows of a level.
use Rattle.std.proofs.Common.{◌≡◌, [], ◌∷◌, Bool, true, false, cond, Option, None, Some, IsSome, option_map, refl, subst, is_eq, Less}
use Rattle.std.proofs.lemmas.Option.{none-some, same_Some}
use Rattle.je_order.specs.Order.{name_cmp}
use Rattle.je_order.specs.Edges.{is_between}
use Rattle.je_order.specs.Edges.Edge.{Behind, End}
use Rattle.je_order.specs.declared.name.Name.{Name}
use Rattle.record_map.specs.Cells.{value_at, first_of, from_edge}
use Rattle.tree_nodes.specs.declared.node.Node.{Node}
use Rattle.tree_nodes.specs.Nodes.{NodeRow, least, IsOver, low_behind}
use Rattle.db_tree.proofs.Contents.{above_low}
use Rattle.db_tree.proofs.Order.{below_least, same_up, least_up}
use Rattle.db_tree.proofs.Over.{first_is, there_is}

-- a low that is there is there with a node more in front
pub there_later : (e : Name × Node) (row : NodeRow) (x : Name) → IsSome (value_at x row) → IsSome (value_at x (e ∷ row))
there_later e row x h = by_test (is_eq (name_cmp x e.0))
  where
    by_test : (t : Bool) → IsSome (cond t (Some e.1) (value_at x row))
    by_test true = refl
    by_test false = h

-- the low behind another one is a low
pub behind_there : (low high : Name) (row : NodeRow) → low_behind low row ≡ Some high → IsSome (value_at high row)
behind_there low high [] is = absurd (none-some high is)
behind_there low high (e ∷ row) is = by_test (is_between (Behind low) End e.0) (behind_there low high row) is
  where
    by_test : (t : Bool) → (low_behind low row ≡ Some high → IsSome (value_at high row)) → option_map (λ (f : Name × Node). f.0) (first_of (cond t (e ∷ from_edge (Behind low) row) (from_edge (Behind low) row))) ≡ Some high → IsSome (value_at high (e ∷ row))
    by_test true rest same = subst (λ (y : Name). IsSome (value_at y (e ∷ row))) (same_Some e.0 high same) (there_is (e ∷ row) e.0 e.1 (first_is e row))
    by_test false rest same = there_later e row high (rest same)

-- behind the least low of a level that has no other one there is none
pub none_behind_least : (row : NodeRow) → ((q : Name) → IsSome (value_at q row) → q ≡ least) → low_behind least row ≡ None
none_behind_least row only = by_low (low_behind least row) refl
  where
    by_low : (o : Option Name) → low_behind least row ≡ o → o ≡ None
    by_low None is = refl
    by_low (Some high) is = absurd (below_least least (subst (λ (y : Name). name_cmp least y ≡ Less) (only high (behind_there least high row is)) (above_low least high row is)))

-- and its node is over each name
pub only_over : (row : NodeRow) (x : Name) (n : Node) → value_at least row ≡ Some n → ((q : Name) → IsSome (value_at q row) → q ≡ least) → IsOver row x (least, n)
only_over row x n there only = record { there = there; below = least_up x; most = λ q h up. same_up q least (only q h) }
