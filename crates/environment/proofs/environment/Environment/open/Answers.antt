use Rattle.std.proofs.Common.{subst, sym}
use Rattle.je_disk.specs.Moments.{now}
use Rattle.store_model.specs.declared.store.Store.{Store}
use Rattle.engine.specs.declared.engine.Engine.{Engine}
use Rattle.engine.specs.Whole.{KeepsIndexes, KeepsNames, IsOpened as EngineIsOpened, IsOpenedSafely as EngineIsOpenedSafely, disk_of as engine_disk}
use Rattle.environment.proofs.AloneLaws.{opened_wide, opened_wide_safely}
use Rattle.environment.proofs.environment.Environment.open.Goals as goal

pub returns-in-Ok-clause-opened : goal.returns-in-Ok-clause-opened
returns-in-Ok-clause-opened g c =
    let most = c.args.config.now.file_max in
    let files = (now (g.D.Disk.meaning.history c.args.disk)).reads in
    let e = c.begun.result.environment in
    opened_wide most g.D.Disk.meaning.observable files (now (g.D.Disk.meaning.history (engine_disk e.engine))) e c.begun.result.opening
    (subst (λ (x : Engine g.row.D.Denot). EngineIsOpened most g.D.Disk.meaning.observable files (now (g.D.Disk.meaning.history (engine_disk x))) x c.begun.result.opening) (sym c.begun.ensures.engine)
    (subst (λ (s : Store). EngineIsOpened most g.D.Disk.meaning.observable files (now (g.D.Disk.meaning.history (engine_disk c.in-Ok.opened.engine))) c.in-Ok.opened.engine s) (sym c.begun.ensures.opening) c.in-Ok.ensures.opened))
    c.begun.ensures.sessions c.begun.ensures.written
    (subst KeepsIndexes (sym c.begun.ensures.engine) c.in-Ok.ensures.indexes) (subst KeepsNames (sym c.begun.ensures.engine) c.in-Ok.ensures.names)

pub returns-in-Ok-clause-crash : goal.returns-in-Ok-clause-crash
returns-in-Ok-clause-crash g c = λ observed.
    let most = c.args.config.now.file_max in
    let files = (now (g.D.Disk.meaning.history c.args.disk)).reads in
    let e = c.begun.result.environment in
    opened_wide_safely most files c.begun.result.opening (g.D.Disk.meaning.history (engine_disk e.engine)) e
    (subst (λ (x : Engine g.row.D.Denot). EngineIsOpenedSafely most files c.begun.result.opening (g.D.Disk.meaning.history (engine_disk x)) x) (sym c.begun.ensures.engine)
    (subst (λ (s : Store). EngineIsOpenedSafely most files s (g.D.Disk.meaning.history (engine_disk c.in-Ok.opened.engine)) c.in-Ok.opened.engine) (sym c.begun.ensures.opening) (c.in-Ok.ensures.crash observed)))
    c.begun.ensures.sessions c.begun.ensures.written
    (subst KeepsIndexes (sym c.begun.ensures.engine) c.in-Ok.ensures.indexes) (subst KeepsNames (sym c.begun.ensures.engine) c.in-Ok.ensures.names)
