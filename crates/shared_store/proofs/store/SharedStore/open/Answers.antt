use Rattle.je_disk.specs.Moments.{now}
use Rattle.shared_store.proofs.RunLaws.{opened_run}
use Rattle.shared_store.proofs.store.SharedStore.open.Goals as goal

pub new-requires : goal.new-requires
new-requires g c =
    opened_run g.D.Disk.meaning c.args.config.now.file_max (now (g.D.Disk.meaning.history c.args.disk)).reads c.in-Ok-open.field-0.environment c.in-Ok-open.field-0.opening
    c.in-Ok-open.ensures.opened c.in-Ok-open.ensures.crash c.in-Ok-open.ensures.bounds
