use Rattle.std.proofs.Common.{rules}
use Rattle.db_catalog.proofs.db_record.DbRecord.to_bytes.Goals as goal

pub returns : goal.returns
returns c = search rules
