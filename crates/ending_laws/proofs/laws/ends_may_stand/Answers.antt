use Rattle.ending_laws.proofs.EndStands.{ends_may_stand}
use Rattle.ending_laws.proofs.laws.ends_may_stand.Goals as goal

pub returns : goal.returns
returns g c = ends_may_stand g.D.Disk.meaning
