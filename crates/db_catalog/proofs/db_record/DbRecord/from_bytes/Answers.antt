use Rattle.std.proofs.Common.{arith}
use Rattle.db_catalog.proofs.CatalogLaws.{found_if, only}
use Rattle.db_catalog.proofs.db_record.DbRecord.from_bytes.Goals as goal

pub returns-clause-found : goal.returns-clause-found
returns-clause-found c = found_if c.read_record.result c.args.bytes.now (λ i. omega (arith, c.type_inv.bytes i)) c.read_record.ensures

pub returns-clause-only : goal.returns-clause-only
returns-clause-only c = λ r is same. only c.read_record.result c.args.bytes.now r c.read_record.ensures is same
