use Rattle.crash_recovery.proofs.Moments.{standing_recovers, growth_recovers, tried_recovers}
use Rattle.crash_recovery.proofs.growth_recovers.Goals as goal

pub returns-clause-standing : goal.returns-clause-standing
returns-clause-standing g c = standing_recovers g.D.Disk.meaning

pub returns-clause-grew : goal.returns-clause-grew
returns-clause-grew g c = growth_recovers g.D.Disk.meaning

pub returns-clause-tried : goal.returns-clause-tried
returns-clause-tried g c = tried_recovers g.D.Disk.meaning
