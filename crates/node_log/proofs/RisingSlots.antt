-- Slots of entries rise as slots of a node, and a put of the next slot is one more at the end.
use Rattle.std.proofs.Common.{◌≡◌, ◌<◌, ◌≤◌, Bool, true, false, List, [], ◌∷◌, ◌++◌, length, map, Ordering, Less, Greater, is_lt, refl, ap, ◌∙◌, arith}
use Rattle.std.specs.Prelude.{◌&&◌}
use Rattle.std.specs.Ordering.{match_ordering}
use Rattle.std.proofs.lemmas.List.{length-append, length-map}
use Rattle.je_order.specs.declared.name.Name.{Name}
use Rattle.je_order.specs.Order.{name_cmp}
use Rattle.log_entry.specs.declared.child_slot.ChildSlot.{ChildSlot}
use Rattle.log_entry.specs.declared.record_slot.RecordSlot.{RecordSlot}
use Rattle.log_entry.specs.Items.{rises, rises_from, child_before, record_before}
use Rattle.node_core.specs.declared.slot.Slot.{Slot}
use Rattle.node_core.specs.declared.slot.Marked.{Marked}
use Rattle.node_core.specs.Sorted.{AllAbove, Rises, put}
use Rattle.node_core.specs.Changes.{set_now}
use Rattle.node_core.proofs.NameOrder.{turned}
use Rattle.node_core.proofs.SlotLookup.{above_below}
use Rattle.node_log.specs.Slots.{slot_of_record, slot_of_child}
use Rattle.je_order.proofs.Orderings.{less_from_test}

both_true : (a b : Bool) → (a && b) ≡ true → (a ≡ true) × (b ≡ true)
both_true true b e = (refl, e)
both_true false b e = absurd cc

-- ---- each below the next is each below all later ones

abbrev next_below : {A : Type 0} → (A → Marked) → A → A → Bool
next_below make a b = is_lt (name_cmp (make a).slot.name (make b).slot.name)

chain : {A : Type 0} (make : A → Marked) (x : A) (xs : List A) → rises_from (next_below make) x xs ≡ true → AllAbove (make x).slot.name (map make xs) × Rises (map make xs)
chain make x [] e = (tt, tt)
chain make x (y ∷ ys) e =
    let both = both_true (next_below make x y) (rises_from (next_below make) y ys) e in
    let low : name_cmp (make x).slot.name (make y).slot.name ≡ Less = less_from_test _ both.0 in
    let rest = chain make y ys both.1 in
    ((low, above_below (make x).slot.name (make y).slot.name (map make ys) low rest.0), rest)

risen : {A : Type 0} (make : A → Marked) (xs : List A) → rises (next_below make) xs ≡ true → Rises (map make xs)
risen make [] e = tt
risen make (x ∷ xs) e = chain make x xs e

pub records_rise : (rs : List RecordSlot) → rises record_before rs ≡ true → Rises (map (λ r. set_now (slot_of_record r)) rs)
records_rise rs e = risen (λ r. set_now (slot_of_record r)) rs e

pub children_rise : (cs : List ChildSlot) → rises child_before cs ≡ true → Rises (map (λ c. set_now (slot_of_child c)) cs)
children_rise cs e = risen (λ c. set_now (slot_of_child c)) cs e

-- ---- a put of the next slot

above_mid : (x : Name) (m : Marked) (xs ys : List Marked) → AllAbove x (xs ++ m ∷ ys) → name_cmp x m.slot.name ≡ Less
above_mid x m [] ys above = above.0
above_mid x m (n ∷ xs) ys above = above_mid x m xs ys above.1

pub put_last : (m : Marked) (xs ys : List Marked) → Rises (xs ++ m ∷ ys) → put m xs ≡ xs ++ m ∷ []
put_last m [] ys rise = refl
put_last m (x ∷ xs) ys rise =
    let low = above_mid x.slot.name m xs ys rise.0 in
    let high : name_cmp m.slot.name x.slot.name ≡ Greater = turned x.slot.name m.slot.name Less low in
    ap (λ (o : Ordering). match_ordering o (m ∷ x ∷ xs) (m ∷ xs) (x ∷ put m xs)) high ∙ ap (λ (l : List Marked). x ∷ l) (put_last m xs ys rise.1)

-- there is room for the next of at most 128 slots
pub room_left : (done : List Marked) (s : Slot) (rest slots : List Slot) → done ++ map set_now (s ∷ rest) ≡ map set_now slots → length slots ≤ 128 → length done < 128
room_left done s rest slots is few =
    let len = ap length is in
    omega (arith, len, few, length-append done (map set_now (s ∷ rest)), length-map rest set_now, length-map slots set_now)
