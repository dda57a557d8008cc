use Rattle.std.proofs.Common.{◌≡◌, take, map, true}
use Rattle.record_tree.specs.Stored.{lent}
use Rattle.log_replay.specs.Rows.{Row, are_distinct, catalog_number}
use Rattle.index_map.specs.Made.{made_in}
use Rattle.index_map.specs.Map.{HasIndexes}
use Rattle.index_map.proofs.index_map.IndexMap.made_by.Given as goal

abbrev pub invariant-loop-record : goal.invariant-loop-record
invariant-loop-record l = are_distinct (map (λ (r : Row). catalog_number r.1) (lent l.records)) ≡ true → HasIndexes (made_in (lent (take l.record-index l.records))) l.map
