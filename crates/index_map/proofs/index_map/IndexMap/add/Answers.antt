use Rattle.std.proofs.Common.{nat_cmp, Some}
use Rattle.std.specs.BTreeMap.{get}
use Rattle.index_map.proofs.Changes.{map_added, taken_back, updated}
use Rattle.index_map.proofs.index_map.IndexMap.add.Goals as goal

pub returns-in-Err-clause-err : goal.returns-in-Err-clause-err
returns-in-Err-clause-err c made has none =
    taken_back made c.args.self.now (record { primaries = c.remove.new.self; indexes = c.put_in.new.lists }) (λ q. get nat_cmp c.insert.new.self q) c.args.index.number c.args.primary has none
    c.in_ok-insert.ensures.updates.0 c.remove.ensures.updates.0 c.in-Err.ensures.err

pub returns-in-Ok-clause-ok : goal.returns-in-Ok-clause-ok
returns-in-Ok-clause-ok c made has none =
    map_added made c.args.self.now (record { primaries = c.insert.new.self; indexes = c.put_in.new.lists }) c.args.primary c.args.index has none
    (updated c.args.index.number (Some c.args.primary) (λ q. get nat_cmp c.args.self.now.primaries q) (λ q. get nat_cmp c.insert.new.self q) c.in_ok-insert.ensures.updates.0) c.in-Ok.ensures.ok
