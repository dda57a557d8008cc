-- Whether the names of records rise, told from one record to the next.
use Rattle.std.specs.Prelude.{◌≡◌, List, [], ◌∷◌, Bool, true, ◌&&◌}
use Rattle.std.specs.List.{AllByRecursion}
use Rattle.std.specs.List.Sorted.{IsStrictlySortedBy}
use Rattle.std.specs.Ordering.{is_lt}
use Rattle.std.specs.declared.cmp.Ordering.{Ordering}
use Rattle.std.specs.declared.cmp.Ordering.TheVariants.{Less, Equal, Greater}
use Rattle.std.specs.Cmp.{IsTotalOrder, on_total, then_total}
use Rattle.std.specs.Cmp.Lexicographic.{nat_list_cmp_total}
use Rattle.je_order.specs.Order.{name_cmp}
use Rattle.je_order.specs.declared.name.Name.{Name}
use Rattle.store_model.specs.declared.kind.Kind.{Kind}
use Rattle.store_model.specs.Store.{Pair, name_of, HasRisingNames}

-- whether a record's name is below that of the first of a list
abbrev pub below_first : Kind → Pair → List Pair → Bool
below_first kind p [] = true
below_first kind p (q ∷ ps) = is_lt (name_cmp (name_of kind p) (name_of kind q))

-- whether each record's name is below the next one's
abbrev pub rising : Kind → List Pair → Bool
rising kind [] = true
rising kind (p ∷ ps) = below_first kind p ps && rising kind ps

names_total : IsTotalOrder name_cmp
names_total = then_total (on_total (λ (name : Name). name.key) nat_list_cmp_total) (on_total (λ (name : Name). name.dup) nat_list_cmp_total)

less_is : (o : Ordering) (b : Bool) → (is_lt o && b) ≡ true → (o ≡ Less) × (b ≡ true)
less_is Less b h = (cc, h)
less_is Equal b h = absurd cc
less_is Greater b h = absurd cc

all_above : (kind : Kind) (p q : Pair) (ps : List Pair) → name_cmp (name_of kind p) (name_of kind q) ≡ Less →
    AllByRecursion (λ r. name_cmp (name_of kind q) (name_of kind r) ≡ Less) ps → AllByRecursion (λ r. name_cmp (name_of kind p) (name_of kind r) ≡ Less) ps
all_above kind p q [] less h = tt
all_above kind p q (r ∷ ps) less h = (names_total.trans (name_of kind p) (name_of kind q) (name_of kind r) less h.0, all_above kind p q ps less h.1)

-- then they rise
pub rises_of : (kind : Kind) (pairs : List Pair) → rising kind pairs ≡ true → HasRisingNames kind pairs
unfolding IsStrictlySortedBy
rises_of kind [] h = tt
rises_of kind (p ∷ []) h = (tt, tt)
rises_of kind (p ∷ q ∷ ps) h =
    let s = less_is (name_cmp (name_of kind p) (name_of kind q)) (rising kind (q ∷ ps)) h in
    let rest = rises_of kind (q ∷ ps) s.1 in
    ((s.0, all_above kind p q ps s.0 rest.0), rest)
