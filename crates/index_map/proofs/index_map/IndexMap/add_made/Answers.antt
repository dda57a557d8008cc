use Rattle.std.proofs.Common.{◌∙◌, sym}
use Rattle.log_replay.specs.Rows.{catalog_number, catalog_index}
use Rattle.index_map.proofs.Changes.{alike, unmade}
use Rattle.index_map.specs.Made.{with_made}
use Rattle.index_map.proofs.index_map.IndexMap.add_made.Goals as goal

pub returns-in_default : goal.returns-in_default
returns-in_default c made has none =
    alike made (with_made (catalog_number c.args.value.now) (catalog_index c.args.value.now) made) c.args.self.now
    (unmade made (catalog_number c.args.value.now) (catalog_index c.args.value.now) none (sym c.index_of.ensures ∙ c.in_default.is)) has
