use Rattle.std.proofs.Common.{sym, subst}
use Rattle.index_map.specs.Made.{AreIndexesOf}
use Rattle.index_map.proofs.index_map.IndexMap.indexes.Goals as goal

pub returns : goal.returns
returns c made has = subst (AreIndexesOf made c.args.primary) (sym c.list_of.ensures) (has.indexes c.args.primary)
