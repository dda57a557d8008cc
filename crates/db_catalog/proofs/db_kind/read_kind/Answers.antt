use Rattle.std.proofs.Common.{rules}
use Rattle.db_catalog.specs.Catalog.{kind_in}
use Rattle.db_catalog.proofs.db_kind.read_kind.Goals as goal

pub returns-in-3 : goal.returns-in-3
unfolding kind_in
returns-in-3 c = search rules
