use Rattle.std.proofs.Common.{◌≡◌}
use Rattle.std.specs.List.{slice_get}
use Rattle.store_model.specs.Indexes.{fields_of}
use Rattle.secondary.proofs.extracting.field_in.Given as goal

abbrev pub invariant-fields : goal.invariant-fields
invariant-fields l = slice_get (fields_of l.separator l.rest) l.left ≡ slice_get (fields_of l.separator l.value) l.number

abbrev pub decreases-fields : goal.decreases-fields
decreases-fields l = l.left
