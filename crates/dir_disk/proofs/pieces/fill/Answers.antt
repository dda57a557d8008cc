use Rattle.dir_disk.proofs.pieces.fill.Goals as goal

pub returns-in-Ok-eq0 : goal.returns-in-Ok-eq0
returns-in-Ok-eq0 g c = rw c.loop.auto.into at c.loop.invariant
