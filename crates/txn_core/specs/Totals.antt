-- How much a store holds.
use Rattle.std.specs.Prelude.{length}
use Rattle.store_model.specs.declared.store.Store.{Store}
use Rattle.store_model.specs.declared.totals.Totals.{Totals}
use Rattle.store_model.specs.Store.{record_count}

-- how much a store holds
abbrev pub totals_of : Store → Totals
totals_of store = record { databases = length store.databases; records = record_count store }
