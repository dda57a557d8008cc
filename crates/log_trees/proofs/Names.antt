-- The names of slots that images show rise.
use Rattle.std.proofs.Common.{◌≡◌, ℕ, Bool, true, false, cond, List, [], ◌∷◌, ◌++◌, Option, None, Some, map, Less, refl, subst}
use Rattle.std.specs.Prelude.{◌&&◌, ◌==◌, nat_lt, nat_le, length}
use Rattle.std.specs.Option.{option_and_then}
use Rattle.std.proofs.lemmas.Option.{none-some, same_Some, cond_some}
use Rattle.std.specs.List.{AllByRecursion, flat_map}
use Rattle.je_order.specs.declared.name.Name.{Name}
use Rattle.je_order.specs.Order.{name_cmp}
use Rattle.log_entry.specs.declared.entry.Entry.{Entry}
use Rattle.log_entry.specs.declared.entry.Entry.TheVariants.{In, Bin, BinDelta}
use Rattle.log_entry.specs.declared.child_slot.ChildSlot.{ChildSlot}
use Rattle.log_entry.specs.declared.record_slot.RecordSlot.{RecordSlot}
use Rattle.log_entry.specs.Body.{IsEntry}
use Rattle.node_core.specs.declared.slot.Marked.{Marked}
use Rattle.node_core.specs.declared.node.Node.{Node}
use Rattle.node_core.specs.Sorted.{AllAbove, Rises, put_all}
use Rattle.node_core.specs.Changes.{set_now}
use Rattle.node_core.proofs.SlotLookup.{rises_put_all}
use Rattle.node_log.specs.Slots.{lsn_in, slot_of_record, slot_of_child, fresh}
use Rattle.node_log.specs.Images.{bin_of, node_of, node_with, with_delta}
use Rattle.node_log.proofs.RisingSlots.{records_rise, children_rise}
use Rattle.je_order.proofs.Lists.{all_append}
use Rattle.log_trees.specs.Placed.{Placed, entry_at}
use Rattle.log_trees.specs.Images.{NamedLsn, named, slot_shown, slots_shown, node_in, node_at}
use Rattle.log_trees.specs.Sound.{AreUp}

-- ---- from a node's slots to those with an LSN

above_shown : (x : Name) (ms : List Marked) → AllAbove x ms → AllByRecursion (λ (t : NamedLsn). name_cmp x t.0 ≡ Less) (flat_map slot_shown ms)
above_shown x [] above = tt
above_shown x (m ∷ ms) above =
    all_append (λ (t : NamedLsn). name_cmp x t.0 ≡ Less) (slot_shown m) (flat_map slot_shown ms) (one (lsn_in m.slot.version)) (above_shown x ms above.1)
  where
    one : (o : Option ℕ) → AllByRecursion (λ (t : NamedLsn). name_cmp x t.0 ≡ Less) (named m.slot.name o)
    one None = tt
    one (Some lsn) = (above.0, tt)

pub up_shown : (ms : List Marked) → Rises ms → AreUp (flat_map slot_shown ms)
up_shown [] up = tt
up_shown (m ∷ ms) up = one (lsn_in m.slot.version) (up_shown ms up.1)
  where
    one : (o : Option ℕ) → AreUp (flat_map slot_shown ms) → AreUp (named m.slot.name o ++ flat_map slot_shown ms)
    one None rest = rest
    one (Some lsn) rest = (above_shown m.slot.name ms up.0, rest)

-- ---- from an entry to a node

-- a mark changes no name
record_above : (x : Name) (rs : List RecordSlot) → AllAbove x (map (λ r. set_now (slot_of_record r)) rs) → AllAbove x (map (λ r. fresh (slot_of_record r)) rs)
record_above x [] above = tt
record_above x (r ∷ rs) above = (above.0, record_above x rs above.1)

records_up : (rs : List RecordSlot) → Rises (map (λ r. set_now (slot_of_record r)) rs) → Rises (map (λ r. fresh (slot_of_record r)) rs)
records_up [] up = tt
records_up (r ∷ rs) up = (record_above r.name rs up.0, records_up rs up.1)

child_above : (x : Name) (cs : List ChildSlot) → AllAbove x (map (λ c. set_now (slot_of_child c)) cs) → AllAbove x (map (λ c. fresh (slot_of_child c)) cs)
child_above x [] above = tt
child_above x (c ∷ cs) above = (above.0, child_above x cs above.1)

children_up : (cs : List ChildSlot) → Rises (map (λ c. set_now (slot_of_child c)) cs) → Rises (map (λ c. fresh (slot_of_child c)) cs)
children_up [] up = tt
children_up (c ∷ cs) up = (child_above c.name cs up.0, children_up cs up.1)

slots_of : (n m : Node) → n ≡ m → Rises n.slots → Rises m.slots
slots_of n m same up = subst (λ (k : Node). Rises k.slots) same up

pub whole_up : (entry : Entry) (n : Node) → IsEntry entry → node_of entry ≡ Some n → Rises n.slots
whole_up (In db number level children) n is made =
    slots_of (record { db = db; number = number; level = level; full = None; slots = map (λ c. fresh (slot_of_child c)) children }) n (same_Some _ n made)
    (children_up children (children_rise children is.5.rise))
whole_up (Bin db number records) n is made = slots_of (bin_of db number records) n (same_Some (bin_of db number records) n made) (records_up records (records_rise records is.2.rise))
whole_up entry n is made = absurd (none-some n made)

delta_up : (n m : Node) (full : ℕ) (records : List RecordSlot) → Rises n.slots → with_delta n full records ≡ Some m → Rises m.slots
delta_up n m full records up made =
    let all : List Marked = put_all (map (λ r. set_now (slot_of_record r)) records) n.slots in
    let joined : Node = record { db = n.db; number = n.number; level = n.level; full = Some full; slots = all } in
    slots_of joined m (cond_some (nat_le (length all) 128) joined m made).1 (rises_put_all (map (λ r. set_now (slot_of_record r)) records) n.slots up)

with_up : (base : Entry) (db number full : ℕ) (records : List RecordSlot) (n : Node) → IsEntry base → node_with base (BinDelta db number full records) ≡ Some n → Rises n.slots
with_up (Bin d m slots) db number full records n is made = by_test ((db == d) && (number == m)) made
  where
    by_test : (b : Bool) → cond b (with_delta (bin_of d m slots) full records) None ≡ Some n → Rises n.slots
    by_test true h = delta_up (bin_of d m slots) n full records (records_up slots (records_rise slots is.2.rise)) h
    by_test false h = absurd (none-some n h)
with_up base db number full records n is made = absurd (none-some n made)

-- an entry of a list in which each is one
entry_is : (es : List Placed) (at : ℕ) (entry : Entry) → AllByRecursion (λ p. IsEntry p.1) es → entry_at es at ≡ Some entry → IsEntry entry
entry_is [] at entry all is = absurd (none-some entry is)
entry_is (p ∷ es) at entry all is = by_test (p.0 == at) is (entry_is es at entry all.1)
  where
    by_test : (b : Bool) → cond b (Some p.1) (entry_at es at) ≡ Some entry → (entry_at es at ≡ Some entry → IsEntry entry) → IsEntry entry
    by_test true h rest = subst IsEntry (same_Some p.1 entry h) all.0
    by_test false h rest = rest h

node_in-up : (es : List Placed) (at : ℕ) (entry : Entry) (n : Node) → AllByRecursion (λ p. IsEntry p.1) es → IsEntry entry → node_in es at entry ≡ Some n → Rises n.slots
node_in-up es at (BinDelta db number full records) n all is made = by_lower (nat_lt full at) made
  where
    by_base : (o : Option Entry) → entry_at es full ≡ o → option_and_then (λ base. node_with base (BinDelta db number full records)) o ≡ Some n → Rises n.slots
    by_base None there h = absurd (none-some n h)
    by_base (Some base) there h = with_up base db number full records n (entry_is es full base all there) h

    by_lower : (b : Bool) → cond b (option_and_then (λ base. node_with base (BinDelta db number full records)) (entry_at es full)) None ≡ Some n → Rises n.slots
    by_lower true h = by_base (entry_at es full) refl h
    by_lower false h = absurd (none-some n h)
node_in-up es at entry n all is made = whole_up entry n is made

-- the slots of an image whose entries are entries of a log
pub image_up : (es : List Placed) (at : ℕ) (n : Node) → AllByRecursion (λ p. IsEntry p.1) es → node_at es at ≡ Some n → AreUp (slots_shown n)
image_up es at n all made = up_shown n.slots (by_entry (entry_at es at) refl made)
  where
    by_entry : (o : Option Entry) → entry_at es at ≡ o → option_and_then (node_in es at) o ≡ Some n → Rises n.slots
    by_entry None there h = absurd (none-some n h)
    by_entry (Some entry) there h = node_in-up es at entry n all (entry_is es at entry all there) h
