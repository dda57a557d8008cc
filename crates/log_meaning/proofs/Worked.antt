-- The log worked by hand.
use Rattle.std.proofs.Common.{refl}
use Rattle.db_catalog.specs.Catalog as Catalog
use Rattle.log_meaning.specs.Worked.{IsWorked}

pub worked : IsWorked
unfolding Catalog.db_record_in Catalog.kind_in
worked = record { right = refl; twice = refl; higher = refl; nothing_there = refl; no_file = refl }
