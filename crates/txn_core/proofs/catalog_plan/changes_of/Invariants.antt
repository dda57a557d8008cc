use Rattle.std.proofs.Common.{◌≡◌, ◌++◌, map, drop}
use Rattle.txn_core.specs.Plans.{catalog_planned}
use Rattle.txn_core.proofs.catalog_plan.changes_of.Given as goal

-- the changes so far and those that are left are all changes
abbrev pub invariant-logged : goal.invariant-logged
invariant-logged l = l.changes.items ++ map (catalog_planned l.makes) (drop l.change-index l.logged) ≡ map (catalog_planned l.makes) l.logged
