-- What a call on a database's records answers and changes, and where it leaves its cursor (Getting Started Guide, "Database Records" and
-- "Cursors"; where the guides are silent, this project's own). Each call looks once: at one range of names.
use Rattle.std.specs.Prelude.{ℕ, ◌∷◌, [], List, Option, Some, None, Bool, true, false, map, length, if◌then◌else◌}
use Rattle.je_order.specs.Edges.Edge.{First as Front, At, Behind, End}
use Rattle.je_order.specs.declared.name.Name.{Name}
use Rattle.store_model.specs.declared.kind.Kind.{Kind}
use Rattle.store_model.specs.declared.kind.Kind.TheVariants.{Plain, Dup}
use Rattle.store_model.specs.declared.put_mode.PutMode.{PutMode}
use Rattle.store_model.specs.declared.put_mode.PutMode.TheVariants.{Overwrite, NoOverwrite, NoDupData}
use Rattle.store_model.specs.declared.motion.Motion.{Motion}
use Rattle.store_model.specs.declared.motion.Motion.TheVariants.{First, Last, Next, Prev, NextDup, PrevDup, NextNoDup, PrevNoDup, Current, Key, Range as InRange, Both, BothRange}
use Rattle.store_model.specs.declared.call.Call.{Call}
use Rattle.store_model.specs.declared.call.Call.TheVariants.{Get, GetBoth, Put, Delete, Count as Counts, Cur, CPutCur, CDel, CPut}
use Rattle.store_model.specs.declared.record_change.RecordChange.{RecordChange}
use Rattle.store_model.specs.declared.record_change.RecordChange.TheVariants.{Set, Unset}
use Rattle.store_model.specs.declared.answer.Answer.{Answer}
use Rattle.store_model.specs.declared.answer.Answer.TheVariants.{Done, Rec, Count, NotFound, KeyExist, KeyEmpty, NoPosition}
use Rattle.store_model.specs.Store.{Pair, named, name_of}
use Rattle.je_order.specs.Order.{is_same_bytes}
use Rattle.store_model.specs.Reads.{Look, look, range, empty_range, whole_range, just, behind_key, of_key, seen, at_name}
use Rattle.store_model.specs.Reads.Way.{Lowest, Highest, Each}

-- ---- where a call looks

-- nowhere
abbrev pub no_look : Look
no_look = look Each empty_range

-- at the first record of a key
abbrev pub first_of_key : Kind → List ℕ → Look
first_of_key Plain key = look Lowest (just (named key []))
first_of_key Dup key = look Lowest (of_key key)

-- at all records of a key
abbrev pub all_of_key : Kind → List ℕ → Look
all_of_key Plain key = look Lowest (just (named key []))
all_of_key Dup key = look Each (of_key key)

-- at the record of a key and data
abbrev pub exactly : Kind → List ℕ → List ℕ → Look
exactly kind key value = look Lowest (just (name_of kind (key, value)))

-- at the first record of a key from this data on
abbrev pub exactly_or_above : Kind → List ℕ → List ℕ → Look
exactly_or_above Plain key value = exactly Plain key value
exactly_or_above Dup key value = look Lowest (range (At (named key value)) (behind_key key))

-- where a put looks
abbrev pub look_of_put : PutMode → Kind → List ℕ → List ℕ → Look
look_of_put Overwrite kind key value = no_look
look_of_put NoOverwrite kind key value = all_of_key kind key
look_of_put NoDupData kind key value = exactly kind key value

-- where a motion looks from a record
abbrev pub look_from : Kind → Motion → Name → Look
look_from kind First n = look Lowest whole_range
look_from kind Last n = look Highest whole_range
look_from kind Next n = look Lowest (range (Behind n) End)
look_from kind Prev n = look Highest (range Front (At n))
look_from kind NextDup n = look Lowest (range (Behind n) (behind_key n.key))
look_from kind PrevDup n = look Highest (range (At (named n.key [])) (At n))
look_from kind NextNoDup n = look Lowest (range (behind_key n.key) End)
look_from kind PrevNoDup n = look Highest (range Front (At (named n.key [])))
look_from kind Current n = look Lowest (just n)
look_from kind (Key key) n = first_of_key kind key
look_from kind (InRange key) n = look Lowest (range (At (named key [])) End)
look_from kind (Both key value) n = exactly kind key value
look_from kind (BothRange key value) n = exactly_or_above kind key value

-- where it looks from none
abbrev pub look_from_none : Kind → Motion → Look
look_from_none kind First = look Lowest whole_range
look_from_none kind Last = look Highest whole_range
look_from_none kind Next = look Lowest whole_range
look_from_none kind Prev = look Highest whole_range
look_from_none kind NextDup = no_look
look_from_none kind PrevDup = no_look
look_from_none kind NextNoDup = look Lowest whole_range
look_from_none kind PrevNoDup = look Highest whole_range
look_from_none kind Current = no_look
look_from_none kind (Key key) = first_of_key kind key
look_from_none kind (InRange key) = look Lowest (range (At (named key [])) End)
look_from_none kind (Both key value) = exactly kind key value
look_from_none kind (BothRange key value) = exactly_or_above kind key value

-- where a motion looks, from where the cursor stands, if it stands anywhere
abbrev pub look_of_motion : Kind → Motion → Option Name → Look
look_of_motion kind motion None = look_from_none kind motion
look_of_motion kind motion (Some n) = look_from kind motion n

-- of the records at which the cursor stands
abbrev pub look_at_key : Kind → Option Name → Look
look_at_key kind None = no_look
look_at_key kind (Some n) = all_of_key kind n.key

-- the record at which the cursor stands
abbrev pub look_at_place : Option Name → Look
look_at_place None = no_look
look_at_place (Some n) = look Lowest (just n)

-- where a call looks: in a database of that kind, from where its cursor stands
abbrev pub look_of : Kind → Call → Option Name → Look
look_of kind (Get db key rmw) at = first_of_key kind key
look_of kind (GetBoth db key value rmw) at = exactly kind key value
look_of kind (Put db key value mode) at = look_of_put mode kind key value
look_of kind (Delete db key) at = all_of_key kind key
look_of kind (Counts cursor) at = look_at_key kind at
look_of kind (Cur cursor motion rmw) at = look_of_motion kind motion at
look_of kind (CDel cursor) at = look_at_place at
look_of kind (CPut cursor key value mode) at = look_of_put mode kind key value
look_of kind call at = no_look

-- ---- what is answered before it looks

-- whether a motion is from a record, and whether the record has to be there still
abbrev pub motion_needs : Motion → Bool × Bool
motion_needs NextDup = (true, false)
motion_needs PrevDup = (true, false)
motion_needs Current = (true, true)
motion_needs motion = (false, false)

-- the same of a call
abbrev pub place_needs : Call → Bool × Bool
place_needs (Counts cursor) = (true, true)
place_needs (Cur cursor motion rmw) = motion_needs motion
place_needs (CPutCur cursor value) = (true, true)
place_needs (CDel cursor) = (true, true)
place_needs call = (false, false)

-- KeyEmpty, where a record has to be there and none is
abbrev pub empty_if : Bool → List Pair → Option Answer
empty_if true [] = Some KeyEmpty
empty_if needs pairs = None

-- NoPosition where the cursor stands nowhere and has to, KeyEmpty where its record is gone and has to be there
abbrev pub place_refusal : Kind → Bool × Bool → Option Name → List Pair → Option Answer
place_refusal kind needs None pairs = if needs.0 then Some NoPosition else None
place_refusal kind needs (Some n) pairs = empty_if needs.1 (at_name kind n pairs)

-- NoPosition and KeyEmpty, which the cursor's place alone decides
abbrev pub early_of : Kind → Call → Option Name → List Pair → Option Answer
early_of kind call at pairs = place_refusal kind (place_needs call) at pairs

-- ---- what it comes to

-- an answer; whether it is the record that the call took; the changes in order; and where the cursor then stands
pub record Evaluated : Type 0 where
  pub answer : Answer
  pub answered : Bool
  pub changes : List RecordChange
  pub place : Option Name

-- only an answer: no record, no change, and the cursor stands there
abbrev pub says : Answer → Option Name → Evaluated
says answer at = record { answer = answer; answered = false; changes = []; place = at }

-- a record that was taken is answered, and a cursor then stands there
abbrev pub went : Kind → Option Name → List Pair → Evaluated
went kind at [] = says NotFound at
went kind at (p ∷ ps) = record { answer = Rec p.0 p.1; answered = true; changes = []; place = Some (name_of kind p) }

-- the same without a cursor
abbrev pub found : Option Name → List Pair → Evaluated
found at [] = says NotFound at
found at (p ∷ ps) = record { answer = Rec p.0 p.1; answered = true; changes = []; place = at }

-- only a record with this data counts
abbrev pub with_data : List ℕ → List Pair → List Pair
with_data value [] = []
with_data value (p ∷ ps) = if is_same_bytes p.1 value then p ∷ [] else []

-- the change that sets a record
abbrev pub data_of : Kind → List ℕ → List ℕ
data_of Plain value = value
data_of Dup value = []

-- the change that puts this record into a database of that kind
abbrev pub set : Kind → List ℕ → List ℕ → RecordChange
set kind key value = Set (name_of kind (key, value)) (data_of kind value)

-- a put writes unless it saw a record
abbrev pub put_unless : Kind → Option Name → Option Name → List ℕ → List ℕ → List Pair → Evaluated
put_unless kind at then_at key value [] = record { answer = Done; answered = false; changes = set kind key value ∷ []; place = then_at }
put_unless kind at then_at key value (p ∷ ps) = record { answer = KeyExist; answered = true; changes = []; place = at }

-- a delete takes out what it saw
abbrev pub deleted : Kind → Option Name → List Pair → Evaluated
deleted kind at [] = says NotFound at
deleted kind at (p ∷ ps) = record { answer = Done; answered = true; changes = map (λ q. Unset (name_of kind q)) (p ∷ ps); place = at }

-- what the call comes to with a record where its cursor stands
abbrev pub put_at_place : Option Name → List ℕ → Evaluated
put_at_place None value = says NoPosition None
put_at_place (Some n) value = record { answer = Done; answered = false; changes = Set n value ∷ []; place = Some n }

-- a motion to a pair of a plain database tests the data
abbrev pub tested : Kind → Motion → List Pair → List Pair
tested Plain (Both key value) taken = with_data value taken
tested Plain (BothRange key value) taken = with_data value taken
tested kind motion taken = taken

-- the same for a call that names data
abbrev pub tested_for : Kind → List ℕ → List Pair → List Pair
tested_for Plain value taken = with_data value taken
tested_for Dup value taken = taken

-- what a call comes to, from what it took
abbrev pub conclude : Kind → Call → Option Name → List Pair → Evaluated
conclude kind (Get db key rmw) at taken = found at taken
conclude kind (GetBoth db key value rmw) at taken = found at (tested_for kind value taken)
conclude kind (Put db key value mode) at taken = put_unless kind at at key value taken
conclude kind (Delete db key) at taken = deleted kind at taken
conclude kind (Counts cursor) at taken = record { answer = Count (length taken); answered = true; changes = []; place = at }
conclude kind (Cur cursor motion rmw) at taken = went kind at (tested kind motion taken)
conclude kind (CPutCur cursor value) at taken = put_at_place at value
conclude kind (CDel cursor) at taken = deleted kind at taken
conclude kind (CPut cursor key value mode) at taken = put_unless kind at (Some (name_of kind (key, value))) key value taken
conclude kind call at taken = says Done at

-- what a call comes to, or the answer that it has before it reads
abbrev pub unless_early : Option Answer → Option Name → Evaluated → Evaluated
unless_early None at evaluated = evaluated
unless_early (Some answer) at evaluated = says answer at

-- what a call comes to in a database of that kind, with its cursor at that place, on these records
abbrev pub evaluation : Kind → Call → Option Name → List Pair → Evaluated
evaluation kind call at pairs =
    let l = look_of kind call at in
    unless_early (early_of kind call at pairs) at (conclude kind call at (seen kind l.way l.range pairs))
