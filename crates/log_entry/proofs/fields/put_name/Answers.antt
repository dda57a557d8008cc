use Rattle.std.proofs.Common.{ap₂, List, ℕ, ◌++◌}
use Rattle.log_entry.specs.Fields.{string}
use Rattle.log_entry.proofs.VectorAppends.{puts_same}
use Rattle.log_entry.proofs.fields.put_name.Goals as goal

pub returns : goal.returns
returns c = puts_same (ap₂ (λ (key dup : List ℕ). string key ++ string dup) c.as_slice.ensures c.as_slice-2.ensures) c.put_strings.ensures
