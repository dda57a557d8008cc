-- A look for the record of one name passes that name.
use Rattle.std.proofs.Common.{◌≡◌, List, [], ◌∷◌, Bool, true, false, cond, Option, None, Some, IfSome, filter, refl, ap, sym, ◌∙◌}
use Rattle.je_order.specs.Order.{name_cmp}
use Rattle.je_order.specs.Edges.Edge.{At, Behind}
use Rattle.je_order.specs.declared.name.Name.{Name}
use Rattle.je_order.proofs.Orderings.{equal_from_test, name_exact}
use Rattle.store_model.specs.declared.kind.Kind.{Kind}
use Rattle.store_model.specs.Store.{Pair, name_of}
use Rattle.store_model.specs.Reads.{Range, is_within, just, look, passed_to, range, seen, taken_by}
use Rattle.store_model.specs.Reads.Way.{Lowest}
use Rattle.cursor_je.specs.Looks.{edge_in, seen_by}
use Rattle.cursor_je.specs.Reaches.{range_in}
use Rattle.cursor_je.specs.declared.name_edge.NameEdge.{NameEdge}
use Rattle.cursor_je.specs.declared.reach.Passed.{Passed}
use Rattle.cursor_je.proofs.EdgeLaws.{just_that}

-- a look for the record of one name passes that name, whether it is there or not
one_passed : (kind : Kind) (n : Name) (pairs : List Pair) → passed_to kind Lowest (just n) (seen kind Lowest (just n) pairs) ≡ just n
one_passed kind n [] = refl
one_passed kind n (p ∷ pairs) = by_test (is_within (just n) (name_of kind p)) refl (one_passed kind n pairs)
  where
    by_test : (t : Bool) → is_within (just n) (name_of kind p) ≡ t → passed_to kind Lowest (just n) (seen kind Lowest (just n) pairs) ≡ just n →
        passed_to kind Lowest (just n) (taken_by Lowest (cond t (p ∷ filter (λ q. is_within (just n) (name_of kind q)) pairs) (filter (λ q. is_within (just n) (name_of kind q)) pairs))) ≡ just n
    by_test true is rest =
        ap (λ (m : Name). range (At n) (Behind m))
        (name_exact (name_of kind p) n (equal_from_test (name_cmp (name_of kind p) n) (sym (just_that n (name_of kind p)) ∙ is)))
    by_test false is rest = rest

-- what lies between two edges that have one name between them is what a look there passed
pub name_passed : (from upto : NameEdge) (o : Option Passed) → IfSome o (λ p. (n : Name) × (range_in p ≡ just n) × (range (edge_in from) (edge_in upto) ≡ just n)) →
    IfSome o (λ p. (kind : Kind) (pairs : List Pair) → range_in p ≡ passed_to kind Lowest (range (edge_in from) (edge_in upto)) (seen_by kind (look Lowest (range (edge_in from) (edge_in upto))) pairs))
name_passed from upto None has = tt
name_passed from upto (Some p) has = λ kind pairs.
    has.1 ∙ sym (one_passed kind has.0 pairs) ∙ sym (ap (λ (r : Range). passed_to kind Lowest r (seen kind Lowest r pairs)) has.2)
