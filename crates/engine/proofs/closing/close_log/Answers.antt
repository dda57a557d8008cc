use Rattle.std.proofs.Common.{[], None, sym, ◌∙◌}
use Rattle.je_disk.specs.Moments.{now}
use Rattle.engine.proofs.ObservedLaws.{as_observed}
use Rattle.engine.proofs.closing.close_log.Goals as goal

pub returns-in_default-Ok-clause-crash : goal.returns-in_default-Ok-clause-crash
returns-in_default-Ok-clause-crash g c = λ observed held least keeps.
    let buffer = c.args.log in
    let k = keeps (sym c.has_failed.ensures ∙ c.if-has_failed.false) in
    c.close.ensures.crash observed held [] least None (as_observed g.D.Disk.meaning.observable (now (g.D.Disk.meaning.history buffer.disk)) buffer held observed k.has) k.holds

pub returns-in_default-Err-clause-crash : goal.returns-in_default-Err-clause-crash
returns-in_default-Err-clause-crash g c = λ observed held least keeps.
    let buffer = c.args.log in
    let k = keeps (sym c.has_failed.ensures ∙ c.if-has_failed.false) in
    c.close.ensures.crash observed held [] least None (as_observed g.D.Disk.meaning.observable (now (g.D.Disk.meaning.history buffer.disk)) buffer held observed k.has) k.holds
