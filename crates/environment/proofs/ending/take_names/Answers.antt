use Rattle.environment.proofs.NameMaps.{firsts_less}
use Rattle.environment.proofs.ending.take_names.Goals as goal

pub returns-clause-firsts : goal.returns-clause-firsts
returns-clause-firsts c = firsts_less c.args.written.now.entries c.remove.new.self.entries c.args.txn c.remove.ensures.updates.0
