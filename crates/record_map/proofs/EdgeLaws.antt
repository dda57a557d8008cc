-- What lies on either side of an edge.
use Rattle.std.proofs.Common.{◌≡◌, List, [], ◌∷◌, ◌++◌, None, Some, filter, refl, ap, sym, ◌∙◌}
use Rattle.je_order.specs.Edges.{Edge, is_below, is_between}
use Rattle.je_order.specs.Edges.Edge.{First, End}
use Rattle.je_order.specs.declared.name.Name.{Name}
use Rattle.record_map.specs.Cells.{first_of, last_of, from_edge, below_edge}

-- the last of a list is the one that was put behind the others
pub last_is : {A : Type 0} (front : List A) (x : A) → last_of (front ++ x ∷ []) ≡ Some x
last_is [] x = refl
last_is (y ∷ []) x = refl
last_is (y ∷ z ∷ front) x = last_is (z ∷ front) x

none_pass : {V : Type 0} (entries : List (Name × V)) → filter (λ e. is_below First e.0) entries ≡ []
none_pass [] = refl
none_pass (e ∷ entries) = none_pass entries

none_left : {V : Type 0} (entries : List (Name × V)) → filter (λ e. is_between End End e.0) entries ≡ []
none_left [] = refl
none_left (e ∷ entries) = none_left entries

-- nothing is behind the end
pub none_from_end : {V : Type 0} (edge : Edge) (entries : List (Name × V)) → edge ≡ End → None ≡ first_of (from_edge edge entries)
none_from_end edge entries is = sym (ap (λ (e : Edge). first_of (from_edge e entries)) is ∙ ap first_of (none_left entries))

-- nothing is below the first edge
pub none_below_first : {V : Type 0} (edge : Edge) (entries : List (Name × V)) → edge ≡ First → None ≡ last_of (below_edge edge entries)
none_below_first edge entries is = sym (ap (λ (e : Edge). last_of (below_edge e entries)) is ∙ ap last_of (none_pass entries))

pub nothing_from_end : {V : Type 0} (edge : Edge) (entries : List (Name × V)) → edge ≡ End → from_edge edge entries ≡ []
nothing_from_end edge entries is = ap (λ (e : Edge). from_edge e entries) is ∙ none_left entries

pub nothing_below_first : {V : Type 0} (edge : Edge) (entries : List (Name × V)) → edge ≡ First → below_edge edge entries ≡ []
nothing_below_first edge entries is = ap (λ (e : Edge). below_edge e entries) is ∙ none_pass entries
