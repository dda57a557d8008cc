use Rattle.ending_laws.proofs.Records.{cells_are_records}
use Rattle.ending_laws.proofs.laws.cells_are_records.Goals as goal

pub returns : goal.returns
returns c = cells_are_records
