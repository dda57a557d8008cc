-- What a call reads, as a range, and what it locks there.
use Rattle.std.specs.Prelude.{ℕ, ◌≡◌, ◌&&◌, List, Option, None, Some, Bool, if◌then◌else◌}
use Rattle.je_order.specs.Edges.{Edge, is_below}
use Rattle.je_order.specs.declared.name.Name.{Name}
use Rattle.store_model.specs.declared.isolation.Isolation.{Isolation}
use Rattle.store_model.specs.declared.call.Call.{Call}
use Rattle.store_model.specs.declared.need.Need.{Need}
use Rattle.store_model.specs.declared.kind.Kind.{Kind}
use Rattle.store_model.specs.Store.{Pair}
use Rattle.store_model.specs.Reads.{Look, Range, look, range, passed_to}
use Rattle.store_model.specs.Reads.Way.{Lowest, Highest, Each}
use Rattle.store_model.specs.Records.{look_of, early_of, conclude}
use Rattle.store_model.specs.Needs.{Part, ends, part_of, part_needs, needs_unless}
use Rattle.cursor_je.specs.Looks.{edge_in, seen_by}
use Rattle.cursor_je.specs.declared.read_part.ReadPart.{ReadPart}
use Rattle.cursor_je.specs.declared.reach.Reach.{Reach}
use Rattle.cursor_je.specs.declared.reach.Reach.TheVariants.{Lowest as LowestOf, Highest as HighestOf, Each as EachOf}
use Rattle.cursor_je.specs.declared.reach.Passed.{Passed}

-- what the read of a call locks
abbrev pub part_in : Option ReadPart → Option Part
part_in None = None
part_in (Some p) = Some (record { inside = p.inside; behind = p.behind })

-- where a call looks
abbrev pub reach_in : Reach → Look
reach_in (LowestOf from upto) = look Lowest (range (edge_in from) (edge_in upto))
reach_in (HighestOf from upto) = look Highest (range (edge_in from) (edge_in upto))
reach_in (EachOf from upto) = look Each (range (edge_in from) (edge_in upto))

-- the range that was passed
abbrev pub range_in : Passed → Range
range_in p = range (edge_in p.from) (edge_in p.upto)

-- what a look passed among records: the range, cut where one was taken, and whether its upper end is one that is answered
pub record HasPassed (kind : Kind) (l : Look) (pairs : List Pair) (p : Passed) : Type 0 where
  pub within : range_in p ≡ passed_to kind l.way l.range (seen_by kind l pairs)
  pub ended : (answered : Bool) → (p.is_ended && answered) ≡ ends l.way answered (seen_by kind l pairs)

-- what was passed, as far as it is locked: by the types of the locks, and by whether the record that was taken is answered
abbrev pub LocksPassed : Kind → Look → List Pair → ReadPart → Bool → Passed → Type 0
LocksPassed kind l pairs part answered p = (db : ℕ) (occupied : List Name) →
    part_needs db (part_in (Some part)) (range_in p) (p.is_ended && answered) occupied
    ≡ part_needs db (part_in (Some part)) (passed_to kind l.way l.range (seen_by kind l pairs)) (ends l.way answered (seen_by kind l pairs)) occupied

-- the name that was found, if it is below an edge
abbrev pub kept_below : Edge → Option Name → Option Name
kept_below upto None = None
kept_below upto (Some n) = if is_below upto n then Some n else None

-- what the read of a call locks, by whether its record is answered
abbrev pub read_needs : Isolation → ℕ → Kind → Call → Option Name → Bool → List Pair → List Name → List Need
read_needs level db kind call at answered pairs occupied =
    let l = look_of kind call at in
    let taken = seen_by kind l pairs in
    part_needs db (part_of level call) (passed_to kind l.way l.range taken) (ends l.way answered taken) occupied

-- the same of a call that its cursor's place does not answer, and nothing of one that it does
abbrev pub read_unless : Isolation → ℕ → Kind → Call → Option Name → List Pair → List Name → List Need
read_unless level db kind call at pairs occupied =
    let l = look_of kind call at in
    needs_unless (early_of kind call at pairs) (read_needs level db kind call at (conclude kind call at (seen_by kind l pairs)).answered pairs occupied)
