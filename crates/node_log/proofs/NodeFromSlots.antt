-- A node that is filled slot by slot.
use Rattle.std.proofs.Common.{◌≡◌, ℕ, suc, ◌≤◌, Bool, true, false, cond, eqb, leb, List, [], ◌∷◌, ◌++◌, length, map, Option, Some, None, Less, Equal, Greater, is_eq, refl, sym, ap, subst, ◌∙◌, append_assoc, arith}
use Rattle.std.specs.Prelude.{if◌then◌else◌, option_map}
use Rattle.std.specs.Ordering.{match_ordering}
use Rattle.std.proofs.lemmas.Bool.{lt-leb, eq-eqb, and_from}
use Rattle.std.proofs.lemmas.List.{append-nil, length-map}
use Rattle.je_order.specs.Order.{name_cmp}
use Rattle.log_entry.specs.declared.child_slot.ChildSlot.{ChildSlot}
use Rattle.log_entry.specs.declared.record_slot.RecordSlot.{RecordSlot}
use Rattle.log_entry.specs.Items.{AreRising, IsChildSlot, child_before, IsRecordSlot, record_before}
use Rattle.node_core.specs.declared.slot.Slot.{Slot}
use Rattle.node_core.specs.declared.slot.Marked.{Marked}
use Rattle.node_core.specs.declared.node.Node.{Node}
use Rattle.node_core.specs.Sorted.{Rises, at, put, put_all}
use Rattle.node_core.specs.Changes.{changed, set_now, slots_in, unmarked}
use Rattle.node_log.specs.Slots.{record_of, slot_of_record, slot_of_child, fresh}
use Rattle.log_entry.specs.declared.entry.Entry.{Entry}
use Rattle.log_entry.specs.declared.entry.Entry.TheVariants.{In, Bin, BinDelta}
use Rattle.node_core.specs.Nodes.{with_changed_cleared}
use Rattle.node_log.specs.Images.{delta_of, node_of, with_delta, with_entry}
use Rattle.node_log.proofs.RisingSlots.{put_last, records_rise, children_rise}

pub mapped : {A B C : Type 0} (f : B → C) (g : A → B) (xs : List A) → map f (map g xs) ≡ map (λ x. f (g x)) xs
mapped f g [] = refl
mapped f g (x ∷ xs) = ap (λ (l : List _). f (g x) ∷ l) (mapped f g xs)

-- ---- a node that is filled

-- the slots that were put and those that are left make up all of them
pub fills : (done : List Marked) (s : Slot) (rest slots : List Slot) → Rises (map set_now slots) → done ++ map set_now (s ∷ rest) ≡ map set_now slots → put (set_now s) done ++ map set_now rest ≡ map set_now slots
fills done s rest slots rise is =
    ap (λ (l : List Marked). l ++ map set_now rest) (put_last (set_now s) done (map set_now rest) (subst Rises (sym is) rise))
    ∙ append_assoc done (set_now s ∷ []) (map set_now rest) ∙ is

pub filled_is : (done : List Marked) (slots : List Slot) → done ++ [] ≡ map set_now slots → map unmarked done ≡ map fresh slots
filled_is done slots is = ap (map unmarked) (sym (append-nil done) ∙ is) ∙ mapped unmarked set_now slots

-- ---- what the slots of an entry are for a node

pub children_slots : (cs : List ChildSlot) (slots : List Slot) → slots ≡ map slot_of_child cs → AreRising IsChildSlot child_before 128 cs → Rises (map set_now slots)
children_slots cs slots is are = subst Rises (sym (mapped set_now slot_of_child cs) ∙ ap (map set_now) (sym is)) (children_rise cs are.rise)

pub records_slots : (rs : List RecordSlot) (slots : List Slot) → slots ≡ map slot_of_record rs → AreRising IsRecordSlot record_before 128 rs → Rises (map set_now slots)
records_slots rs slots is are = subst Rises (sym (mapped set_now slot_of_record rs) ∙ ap (map set_now) (sym is)) (records_rise rs are.rise)

pub children_few : (cs : List ChildSlot) (slots : List Slot) → slots ≡ map slot_of_child cs → AreRising IsChildSlot child_before 128 cs → length slots ≤ 128
children_few cs slots is are = let few = are.few in omega (arith, ap length is, length-map cs slot_of_child)

pub records_few : (rs : List RecordSlot) (slots : List Slot) → slots ≡ map slot_of_record rs → AreRising IsRecordSlot record_before 128 rs → length slots ≤ 128
records_few rs slots is are = let few = are.few in omega (arith, ap length is, length-map rs slot_of_record)

pub cleared_is : (n new : Node) (db number level : ℕ) (left slots : List Slot) → new ≡ with_changed_cleared None n → n.slots ++ map set_now left ≡ map set_now slots → left ≡ [] → n.db ≡ db → n.number ≡ number → n.level ≡ level
    → new ≡ record { db = db; number = number; level = level; full = None; slots = map fresh slots }
cleared_is n new db number level left slots is done none is_db is_number is_level =
    let all = filled_is n.slots slots (ap (λ (l : List Slot). n.slots ++ map set_now l) (sym none) ∙ done) in
    is ∙ ap (λ (l : List Marked). record { db = n.db; number = n.number; level = n.level; full = None; slots = l }) all
    ∙ ap (λ (k : ℕ). record { db = k; number = n.number; level = n.level; full = None; slots = map fresh slots }) is_db
    ∙ ap (λ (k : ℕ). record { db = db; number = k; level = n.level; full = None; slots = map fresh slots }) is_number
    ∙ ap (λ (k : ℕ). record { db = db; number = number; level = k; full = None; slots = map fresh slots }) is_level

abbrev node_with_slots : ℕ → ℕ → ℕ → List Marked → Node
node_with_slots db number level slots = record { db = db; number = number; level = level; full = None; slots = slots }

pub in_shown : (e : Entry) (db number level : ℕ) (cs held : List ChildSlot) (slots : List Slot) (n : Node) → e ≡ In db number level cs → held ≡ cs → slots ≡ map slot_of_child held
    → n ≡ node_with_slots db number level (map fresh slots) → (let o : Option Node = Some n in o) ≡ node_of e
in_shown e db number level cs held slots n is held_is slots_is n_is =
    ap (λ (m : Node). let o : Option Node = Some m in o) (n_is ∙ ap (node_with_slots db number level) (ap (map fresh) (slots_is ∙ ap (map slot_of_child) held_is) ∙ mapped fresh slot_of_child cs))
    ∙ ap node_of (sym is)

pub bin_shown : (e : Entry) (db number : ℕ) (rs held : List RecordSlot) (slots : List Slot) (n : Node) → e ≡ Bin db number rs → held ≡ rs → slots ≡ map slot_of_record held
    → n ≡ node_with_slots db number 1 (map fresh slots) → (let o : Option Node = Some n in o) ≡ node_of e
bin_shown e db number rs held slots n is held_is slots_is n_is =
    ap (λ (m : Node). let o : Option Node = Some m in o) (n_is ∙ ap (node_with_slots db number 1) (ap (map fresh) (slots_is ∙ ap (map slot_of_record) held_is) ∙ mapped fresh slot_of_record rs))
    ∙ ap node_of (sym is)

-- ---- a node that a delta is put into

grows : (m : Marked) (ms : List Marked) → length ms ≤ length (put m ms)
grows m [] = omega arith
grows m (n ∷ ms) =
    let more = grows m ms in
    elim (name_cmp m.slot.name n.slot.name) as (λ o. suc (length ms) ≤ length (match_ordering o (m ∷ n ∷ ms) (m ∷ ms) (n ∷ put m ms))) [ Less ↦ omega arith | Equal ↦ omega arith | Greater ↦ omega arith ]

grows_all : (ns ms : List Marked) → length ms ≤ length (put_all ns ms)
grows_all [] ms = omega arith
grows_all (n ∷ ns) ms = let one = grows n ms in let more = grows_all ns (put n ms) in omega arith

one_longer : (m : Marked) (ms : List Marked) → at m.slot.name ms ≡ None → length (put m ms) ≡ suc (length ms)
one_longer m [] none = refl
one_longer m (n ∷ ms) none =
    (elim (name_cmp m.slot.name n.slot.name) as (λ o. cond (is_eq o) (Some n) (at m.slot.name ms) ≡ None → length (match_ordering o (m ∷ n ∷ ms) (m ∷ ms) (n ∷ put m ms)) ≡ suc (suc (length ms))) [
      | Less ↦ λ h. refl
      | Equal ↦ λ h. absurd cc
      | Greater ↦ λ h. ap suc (one_longer m ms h)
    ]) none

-- without room for one of the slots there is none for all
pub no_room : (s : Slot) (rest : List Slot) (ms : List Marked) → at s.name ms ≡ None → 128 ≤ length ms → leb (length (put_all (map set_now (s ∷ rest)) ms)) 128 ≡ false
no_room s rest ms none many =
    let one = one_longer (set_now s) ms none in
    let more = grows_all (map set_now rest) (put (set_now s) ms) in
    lt-leb (length (put_all (map set_now (s ∷ rest)) ms)) 128 (omega arith)

-- what a node shows with a delta, by whether it has room
abbrev with_all : Node → ℕ → List Marked → Option Node
with_all n full all = if leb (length all) 128 then Some (record { db = n.db; number = n.number; level = n.level; full = Some full; slots = all }) else None

pub with_delta_is : (n : Node) (full : ℕ) (rs : List RecordSlot) (slots : List Slot) → slots ≡ map slot_of_record rs → with_delta n full rs ≡ with_all n full (put_all (map set_now slots) n.slots)
with_delta_is n full rs slots is =
    let same : map set_now slots ≡ map (λ r. set_now (slot_of_record r)) rs = ap (map set_now) is ∙ mapped set_now slot_of_record rs in
    ap (λ (l : List Marked). with_all n full (put_all l n.slots)) (sym same)

pub with_none : (n : Node) (full : ℕ) (rs : List RecordSlot) (slots : List Slot) (room : Bool) → slots ≡ map slot_of_record rs → room ≡ leb (length (put_all (map set_now slots) n.slots)) 128 → room ≡ false → with_delta n full rs ≡ None
with_none n full rs slots room is room_is no_room_left =
    let all = put_all (map set_now slots) n.slots in
    with_delta_is n full rs slots is
    ∙ ap (λ (b : Bool). cond b (let o : Option Node = Some (record { db = n.db; number = n.number; level = n.level; full = Some full; slots = all }) in o) None) (sym room_is ∙ no_room_left)

pub with_some : (n new : Node) (full : ℕ) (rs : List RecordSlot) (slots : List Slot) (room : Bool) → slots ≡ map slot_of_record rs → room ≡ leb (length (put_all (map set_now slots) n.slots)) 128 → room ≡ true
    → new.db ≡ n.db → new.number ≡ n.number → new.level ≡ n.level → new.slots ≡ put_all (map set_now slots) n.slots
    → with_delta n full rs ≡ Some (record { db = new.db; number = new.number; level = new.level; full = Some full; slots = new.slots })
with_some n new full rs slots room is room_is has_room db number level slots_are =
    let all = put_all (map set_now slots) n.slots in
    with_delta_is n full rs slots is
    ∙ ap (λ (b : Bool). cond b (let o : Option Node = Some (record { db = n.db; number = n.number; level = n.level; full = Some full; slots = all }) in o) None) (sym room_is ∙ has_room)
    ∙ ap (λ (k : ℕ). let o : Option Node = Some (record { db = k; number = n.number; level = n.level; full = Some full; slots = all }) in o) (sym db)
    ∙ ap (λ (k : ℕ). let o : Option Node = Some (record { db = new.db; number = k; level = n.level; full = Some full; slots = all }) in o) (sym number)
    ∙ ap (λ (k : ℕ). let o : Option Node = Some (record { db = new.db; number = new.number; level = k; full = Some full; slots = all }) in o) (sym level)
    ∙ ap (λ (l : List Marked). let o : Option Node = Some (record { db = new.db; number = new.number; level = new.level; full = Some full; slots = l }) in o) (sym slots_are)

-- a delta of the node itself
pub entry_shown : (n : Node) (e : Entry) (db number full : ℕ) (rs held : List RecordSlot) → e ≡ BinDelta db number full rs → held ≡ rs → db ≡ n.db → number ≡ n.number → with_delta n full held ≡ with_entry n e
entry_shown n e db number full rs held is held_is db_is number_is =
    ap (with_delta n full) held_is
    ∙ ap (λ (b : Bool). cond b (with_delta n full rs) None) (sym (and_from (eqb db n.db) (eqb number n.number) (eq-eqb db n.db db_is) (eq-eqb number n.number number_is)))
    ∙ ap (with_entry n) (sym is)

-- ---- a delta that is made
