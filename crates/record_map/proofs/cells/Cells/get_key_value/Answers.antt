use Rattle.record_map.proofs.NameLaws.{found_exact}
use Rattle.record_map.proofs.cells.Cells.get_key_value.Goals as goal

pub returns-clause-name : goal.returns-clause-name
returns-clause-name c = found_exact (λ p. p.0.now) c.args.name.now c.get_key_value.result c.get_key_value.ensures.same_key
