-- The locks that a call needs (this project's own).
use Rattle.std.specs.Prelude.{ℕ, ◌++◌, ◌∷◌, [], List, Option, Some, None, Bool, true, false, not, filter, map, find}
use Rattle.std.specs.List.{flat_map}
use Rattle.je_order.specs.Edges.{Edge, is_below}
use Rattle.je_order.specs.Edges.Edge.{Behind}
use Rattle.je_order.specs.declared.name.Name.{Name}
use Rattle.je_order.specs.declared.bound.Bound.{Bound}
use Rattle.je_order.specs.declared.bound.Bound.TheVariants.{At as On, End as AtEnd}
use Rattle.lock_mode.specs.declared.lock_type.LockType.{LockType}
use Rattle.lock_mode.specs.declared.lock_type.LockType.TheVariants.{Read, Write, RangeRead, RangeWrite, RangeInsert}
use Rattle.store_model.specs.declared.kind.Kind.{Kind}
use Rattle.store_model.specs.declared.isolation.Isolation.{Isolation}
use Rattle.store_model.specs.declared.isolation.Isolation.TheVariants.{ReadUncommitted, ReadCommitted, RepeatableRead, Serializable}
use Rattle.store_model.specs.declared.put_mode.PutMode.{PutMode}
use Rattle.store_model.specs.declared.put_mode.PutMode.TheVariants.{Overwrite, NoOverwrite, NoDupData}
use Rattle.store_model.specs.declared.call.Call.{Call}
use Rattle.store_model.specs.declared.call.Call.TheVariants.{Get, GetBoth, Put, Delete, Count, Cur, CDel, CPut}
use Rattle.store_model.specs.declared.record_change.RecordChange.{RecordChange}
use Rattle.store_model.specs.declared.answer.Answer.{Answer}
use Rattle.store_model.specs.declared.answer.Answer.TheVariants.{Rec}
use Rattle.store_model.specs.declared.need.Need.{Need}
use Rattle.store_model.specs.Store.{Pair, named}
pub use Rattle.store_model.specs.Store.{changed_name}
use Rattle.store_model.specs.Indexes.{Numbered, all_changes}
use Rattle.store_model.specs.Reads.{Way, Range, is_within, just, seen, passed, passed_to, at_name}
use Rattle.store_model.specs.Reads.Way.{Lowest}
use Rattle.store_model.specs.Records.{look_of, early_of, conclude}

-- a lock of that type on that place of a database
abbrev pub need : ℕ → Bound → LockType → Need
need db at asked = record { db = db; at = at; asked = asked }

-- ---- what a read locks

-- the type for the occupied names that a read passes, and the one for the first place behind them, if that is locked
pub record Part : Type 0 where
  pub inside : LockType
  pub behind : Option LockType

-- a read with these two types of lock
abbrev pub part : LockType → Option LockType → Option Part
part inside behind = Some (record { inside = inside; behind = behind })

-- a read; a read that announces a write; a read by a call that writes
abbrev pub read_part : Isolation → Option Part
read_part ReadUncommitted = None
read_part ReadCommitted = part Read None
read_part RepeatableRead = part Read None
read_part Serializable = part RangeRead (Some RangeRead)

-- a read that announces a write
abbrev pub rmw_part : Isolation → Option Part
rmw_part Serializable = part RangeWrite (Some RangeWrite)
rmw_part level = part Write None

-- a read by a call that writes
abbrev pub write_part : Isolation → Option Part
write_part Serializable = part RangeWrite (Some RangeRead)
write_part level = part Write None

-- a read, with or without the announcement of a write
abbrev pub part_of_read : Bool → Isolation → Option Part
part_of_read true level = rmw_part level
part_of_read false level = read_part level

-- a put that overwrites reads nothing
abbrev pub part_of_put : PutMode → Isolation → Option Part
part_of_put Overwrite level = None
part_of_put NoOverwrite level = write_part level
part_of_put NoDupData level = write_part level

-- what a call's own read locks, by its level; None where it reads nothing or locks nothing
abbrev pub part_of : Isolation → Call → Option Part
part_of level (Get db key rmw) = part_of_read rmw level
part_of level (GetBoth db key value rmw) = part_of_read rmw level
part_of level (Put db key value mode) = part_of_put mode level
part_of level (Delete db key) = write_part level
part_of level (Count cursor) = read_part level
part_of level (Cur cursor motion rmw) = part_of_read rmw level
part_of level (CDel cursor) = write_part level
part_of level (CPut cursor key value mode) = part_of_put mode level
part_of level call = None

-- whether the record that was answered is the upper end of the read's range
abbrev pub ends : Way → Bool → List Pair → Bool
ends Lowest answered (p ∷ ps) = answered
ends way answered taken = false

-- the place of a name, if any, else the database's end
abbrev pub place_of : Option Name → Bound
place_of None = AtEnd
place_of (Some n) = On n

-- the first occupied name that is not below an edge
abbrev pub first_from : Edge → List Name → Bound
first_from edge occupied = place_of (find (λ n. not (is_below edge n)) occupied)

-- the lock on the place behind a range, where it is locked and no record that was answered ends the range
abbrev pub needs_behind : ℕ → Option LockType → Bool → Bound → List Need
needs_behind db (Some asked) false at = need db at asked ∷ []
needs_behind db behind ended at = []

-- the locks of a read: each occupied name of its range, and then the place behind it
abbrev pub part_needs : ℕ → Option Part → Range → Bool → List Name → List Need
part_needs db None r ended occupied = []
part_needs db (Some p) r ended occupied =
    map (λ n. need db (On n) p.inside) (filter (is_within r) occupied) ++ needs_behind db p.behind ended (first_from r.upto occupied)

-- ---- what a write locks

-- the type of a write's lock on the name that it changes
abbrev pub write_type : Isolation → LockType
write_type Serializable = RangeWrite
write_type level = Write

-- a name without a record comes in front of the next occupied one
abbrev pub insert_needs : ℕ → List Pair → Bound → List Need
insert_needs db [] next = need db next RangeInsert ∷ []
insert_needs db (p ∷ ps) next = []

-- the locks of one change: its name, and where that has no record the next occupied place
abbrev pub write_needs : Isolation → ℕ → Kind → List Pair → List Name → RecordChange → List Need
write_needs level db kind pairs occupied change =
    let n = changed_name change in
    need db (On n) (write_type level) ∷ insert_needs db (at_name kind n pairs) (first_from (Behind n) occupied)

-- ---- the needs of a call

-- these locks, or none where the call is answered before it reads
abbrev pub needs_unless : Option Answer → List Need → List Need
needs_unless None needs = needs
needs_unless (Some answer) needs = []

-- what a call needs at a level, in the database of that number: what its read passes, and then what it changes, in order; the occupied names
-- are those that have a record, or that an active transaction wrote, rising
abbrev pub needs_of : Isolation → ℕ → Kind → Call → Option Name → List Pair → List Name → List Need
needs_of level db kind call at pairs occupied =
    let l = look_of kind call at in
    let taken = seen kind l.way l.range pairs in
    let evaluated = conclude kind call at taken in
    needs_unless (early_of kind call at pairs) (
    part_needs db (part_of level call) (passed_to kind l.way l.range taken) (ends l.way evaluated.answered taken) occupied
    ++ flat_map (write_needs level db kind pairs occupied) evaluated.changes
    )

-- ---- the needs of a call where there are indexes

-- a record that is read by an index is locked as its pair
abbrev pub record_needs : Option Part → Option Numbered → Answer → List Need
record_needs (Some p) (Some primary) (Rec key primary_key) = need primary.0 (On (named primary_key [])) p.inside ∷ []
record_needs p over answer = []

-- a change locks in the database that it is in
abbrev pub change_needs : Isolation → (Numbered → List Pair) → (Numbered → List Name) → Numbered × RecordChange → List Need
change_needs level see occupied c = write_needs level c.0.0 c.0.1.kind (see c.0) (occupied c.0) c.1

-- what a call needs that is on a database with indexes, or on an index: what its read passes; the record that it reads by an index; and what it changes, with
-- what comes with that in the indexes, in order. `see` and `occupied` give the records of a database and its occupied names
abbrev pub needs_through : Isolation → Option Numbered → Numbered → List Numbered → (Numbered → List Pair) → (Numbered → List Name) → Call → Option Name → List Need
needs_through level over d indexes see occupied call at =
    let kind = d.1.kind in
    let pairs = see d in
    let l = look_of kind call at in
    let taken = seen kind l.way l.range pairs in
    let evaluated = conclude kind call at taken in
    needs_unless (early_of kind call at pairs) (
    part_needs d.0 (part_of level call) (passed_to kind l.way l.range taken) (ends l.way evaluated.answered taken) (occupied d)
    ++ record_needs (part_of level call) over evaluated.answer
    ++ flat_map (change_needs level see occupied) (all_changes over d indexes see evaluated.changes)
    )

-- all names on which a call depends: where its cursor stands, and what it passed
abbrev pub place_range : Option Name → List Range
place_range None = []
place_range (Some n) = just n ∷ []

abbrev pub look_range : Option Answer → Range → List Range
look_range None r = r ∷ []
look_range (Some answer) r = []

abbrev pub ranges_of : Kind → Call → Option Name → List Pair → List Range
ranges_of kind call at pairs =
    let l = look_of kind call at in
    place_range at ++ look_range (early_of kind call at pairs) (passed kind l.way l.range pairs)
