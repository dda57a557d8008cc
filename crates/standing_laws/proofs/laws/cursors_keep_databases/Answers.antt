use Rattle.standing_laws.proofs.CursorDatabases.{cursors_keep-databases}
use Rattle.standing_laws.proofs.laws.cursors_keep_databases.Goals as goal

pub returns : goal.returns
returns c = cursors_keep-databases
