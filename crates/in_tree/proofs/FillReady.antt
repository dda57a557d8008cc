-- A new database that is filled: the limit that its changes meet.
use Rattle.std.proofs.Common.{◌≡◌, ◌≤◌, ◌<◌, ◌+◌, ◌*◌, ◌||◌, ◌++◌, ◌∙◌, ℕ, min, map, length, Bool, true, false, cond, nat_lt, List, [], ◌∷◌, None, Some, refl, ap, ap₂, sym, subst, arith}
use Rattle.std.proofs.lemmas.Bool.{true≢false}
use Rattle.std.proofs.lemmas.List.{length-append}
use Rattle.je_lsn.specs.Naming.{last_file}
use Rattle.je_order.specs.declared.txn_id.TxnId.{TxnId}
use Rattle.log_entry.specs.Encoding.{size_of}
use Rattle.log_buffer.specs.declared.buffer.LogBuffer.{LogBuffer}
use Rattle.log_buffer.specs.declared.log_pos.LogPos.{LogPos}
use Rattle.log_buffer.specs.declared.next_place.NextPlace.{NextPlace}
use Rattle.log_buffer.specs.Buffer.{end_of, file_max_of}
use Rattle.log_buffer.specs.NextPlaces.{IsBehind}
use Rattle.record_tree.specs.declared.tree_change.TreeChange.{TreeChange}
use Rattle.record_tree.specs.declared.tree_err.TreeErr.{TreeErr}
use Rattle.record_tree.specs.declared.tree_err.TreeErr.TheVariants.{Full, IdsEnded, Memory, Fault}
use Rattle.record_tree.specs.Logged.{IsLimit}
use Rattle.db_tree.specs.declared.slot_room.SlotRoom.{SlotRoom}
use Rattle.db_tree.specs.Shapes.{new_shape}
use Rattle.db_tree.specs.Splits.{Shape, count_waiting, image_sizes, passes_top, shape_with}
use Rattle.db_tree.proofs.FewSplits.{images_few}
use Rattle.in_tree.specs.declared.filled.Filled.{Filled}
use Rattle.in_tree.specs.Filled.{end_first, entries_with, first_sizes, limit_filled, IsFilled}
use Rattle.in_tree.specs.Filling.{is_filled_too_high, numbers_filled, sizes_filled}
use Rattle.in_tree.specs.Limits.{change_size, commit_sizes, end_behind, limit_behind}
use Rattle.in_tree.specs.Forest.{Forest, IsSameForest}
use Rattle.in_tree.specs.Placing.{IsPlacedIn}
use Rattle.je_order.specs.declared.name.Name.{Name}
use Rattle.in_tree.proofs.Checked.{ended_behind, full_behind, none_behind}

-- ---- which limit is met

module _ {D : Type 0} (log : LogBuffer D) (fanout : ℕ) (c : TreeChange) (rows : List TreeChange) (owed : ℕ) where
  -- the filled tree is not too high
  module _ (room : SlotRoom) (number : ℕ) (txn : TxnId) (max : ℕ) (end : LogPos) (filled : Filled) (is : IsFilled fanout max end txn number rows filled) where
    abbrev sizes : List ℕ
    sizes = first_sizes c room ++ (map size_of (entries_with txn rows filled.images.items) ++ commit_sizes owed)

    limit_low : limit_filled log fanout c rows room number owed ≡ limit_behind log sizes filled.last
    limit_low =
        ap (λ (t : Bool). cond t (Some IdsEnded) (limit_behind log (first_sizes c room ++ (sizes_filled fanout new_shape rows ++ commit_sizes owed)) (min (number + numbers_filled fanout new_shape rows) 0xffffffffffffffff))) is.low
        ∙ ap₂ (λ (l : List ℕ) (n : ℕ). limit_behind log (first_sizes c room ++ (l ++ commit_sizes owed)) n) (sym is.sizes) (sym (is.last_is ∙ ap (λ (n : ℕ). min n 0xffffffffffffffff) is.numbers))

    pub filled_none : nat_lt last_file (end_behind log sizes) ≡ false → filled.last ≤ 0x7fffffffffffffff → limit_filled log fanout c rows room number owed ≡ None
    filled_none files ids = limit_low ∙ none_behind log sizes filled.last files ids

    pub filled_met : (e : TreeErr) → (e ≡ Full → nat_lt last_file (end_behind log sizes) ≡ true) → (e ≡ IdsEnded → (nat_lt last_file (end_behind log sizes) ≡ false) × (0x7fffffffffffffff < filled.last)) → IsLimit e →
        limit_filled log fanout c rows room number owed ≡ Some e
    filled_met Full full ended limit = limit_low ∙ full_behind log sizes filled.last (full refl)
    filled_met IdsEnded full ended limit = let met = ended refl in limit_low ∙ ended_behind log sizes filled.last met.0 met.1
    filled_met Fault full ended limit = absurd limit
    filled_met Memory full ended limit = absurd limit

-- ---- how many entries there are at most

few_filled : (fanout : ℕ) (shape : Shape) (rows : List TreeChange) → is_filled_too_high fanout shape rows ≡ false → length (sizes_filled fanout shape rows) ≤ count_waiting shape + 130 * length rows
few_filled fanout shape [] low = omega arith
few_filled fanout shape (c ∷ rows) low =
    let parts = or_parts (passes_top fanout c.name shape) (is_filled_too_high fanout (shape_with fanout c.name shape) rows) low in
    let first = images_few fanout c.name shape parts.0 in
    let rest = few_filled fanout (shape_with fanout c.name shape) rows parts.1 in
    let whole = length-append (image_sizes fanout c.name shape) (change_size c ∷ sizes_filled fanout (shape_with fanout c.name shape) rows) in
    omega (arith, first, rest, whole)
  where
    or_parts : (a b : Bool) → (a || b) ≡ false → (a ≡ false) × (b ≡ false)
    or_parts true b h = absurd (true≢false h)
    or_parts false b h = (refl, h)

pub few_rows : (fanout : ℕ) (rows : List TreeChange) → is_filled_too_high fanout new_shape rows ≡ false → length (sizes_filled fanout new_shape rows) ≤ 130 * length rows
few_rows fanout rows low = let few = few_filled fanout new_shape rows low in let none : count_waiting new_shape ≡ 0 = refl in omega (arith, few, none)

-- the place behind the change that makes the database
pub place_first : {D : Type 0} (log : LogBuffer D) (c : TreeChange) (room : SlotRoom) (start place : NextPlace) (slice all : List ℕ) → IsBehind (file_max_of log) (end_of log) [] start →
    ((m : ℕ) (end : LogPos) → IsBehind m end [] start → IsBehind m end slice place) → slice ≡ all → all ≡ first_sizes c room → IsBehind (file_max_of log) (end_first log c room) [] place
place_first log c room start place slice all begins follows same is =
    let behind = subst (λ (l : List ℕ). IsBehind (file_max_of log) (end_of log) l place) (same ∙ is) (follows (file_max_of log) (end_of log) begins) in
    record { max = behind.max; here = behind.here }

-- a slot that is there after steps that left the trees as they were
pub placed_after : (fanout db : ℕ) (x : Name) (room : SlotRoom) (old mid new : Forest) → IsPlacedIn fanout db x room old mid → IsSameForest mid new → IsPlacedIn fanout db x room old new
placed_after fanout db x room old mid new p same = record { within = p.within; tree = p.tree; next = p.next; was = p.was; has = λ d. same d ∙ p.has d; placed = p.placed }
