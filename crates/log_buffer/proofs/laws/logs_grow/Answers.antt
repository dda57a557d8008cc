use Rattle.log_buffer.proofs.GrowthLaws.{grew_none, grew_unchanged, grew_then, tried_then, tried_more}
use Rattle.log_buffer.proofs.laws.logs_grow.Goals as goal

pub returns-clause-none : goal.returns-clause-none
returns-clause-none g c = grew_none g.D.Disk.meaning

pub returns-clause-unchanged : goal.returns-clause-unchanged
returns-clause-unchanged g c = grew_unchanged g.D.Disk.meaning

pub returns-clause-grew : goal.returns-clause-grew
returns-clause-grew g c = grew_then g.D.Disk.meaning

pub returns-clause-tried : goal.returns-clause-tried
returns-clause-tried g c = tried_then g.D.Disk.meaning

pub returns-clause-more : goal.returns-clause-more
returns-clause-more g c = tried_more g.D.Disk.meaning
