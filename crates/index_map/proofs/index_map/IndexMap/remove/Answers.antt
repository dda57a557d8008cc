use Rattle.std.proofs.Common.{◌∙◌, sym, None, nat_cmp}
use Rattle.std.specs.BTreeMap.{get}
use Rattle.index_map.proofs.Changes.{map_removed, same_entries, updated}
use Rattle.index_map.proofs.index_map.IndexMap.remove.Goals as goal

pub returns-in-Some : goal.returns-in-Some
returns-in-Some c made has =
    map_removed made c.args.self.now (record { primaries = c.remove.new.self; indexes = c.take_out.new.lists }) c.in-Some.primary c.args.number has (sym c.remove.ensures.value ∙ c.in-Some.is)
    (updated c.args.number None (λ q. get nat_cmp c.args.self.now.primaries q) (λ q. get nat_cmp c.remove.new.self q) c.remove.ensures.updates.0) c.take_out.ensures

pub returns-in_default : goal.returns-in_default
returns-in_default c made has =
    same_entries made c.args.self.now (record { primaries = c.remove.new.self; indexes = c.args.self.now.indexes }) c.args.number c.remove.result has c.in_default.is c.remove.ensures.value c.remove.ensures.unchanged (λ n. Rattle.std.proofs.Common.refl)
