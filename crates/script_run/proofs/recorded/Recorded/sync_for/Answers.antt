use Rattle.std.proofs.Common.{◌∙◌, sym}
use Rattle.script_run.proofs.RunLaws.{may_sync}
use Rattle.script_run.proofs.EndLaws.{gained_none}
use Rattle.script_run.proofs.Steps.{turns_alone, turns_invalid, turns_synced, valid_by}
use Rattle.script_run.specs.UnderWay.{standing}
use Rattle.script_run.proofs.recorded.Recorded.sync_for.Goals as goal

pub returns-then-not-is_sync-clause-may : goal.returns-then-not-is_sync-clause-may
returns-then-not-is_sync-clause-may g c = λ p under calm. turns_alone p c.args.step c.args.self.now (c.is_sync.ensures.other c.if-not-is_sync.true) calm

pub returns-then-not-is_sync-clause-gained : goal.returns-then-not-is_sync-clause-gained
returns-then-not-is_sync-clause-gained g c = λ stopped. gained_none stopped c.args.self.now.journal.items

pub returns-then-is_some-clause-may : goal.returns-then-is_some-clause-may
returns-then-is_some-clause-may g c = λ p under calm.
    let x = c.args.self.now in
    turns_invalid p c.args.step x c.fault.result (c.fault.ensures p.most (standing p x) under.running.here) (sym c.is_some.ensures ∙ c.if-is_some.true) calm

pub returns-then-is_some-clause-gained : goal.returns-then-is_some-clause-gained
returns-then-is_some-clause-gained g c = λ stopped. gained_none stopped c.args.self.now.journal.items

pub sync-requires-clause-here : goal.sync-requires-clause-here
sync-requires-clause-here g c =
    let h = c.requires.here in
    let p = h.0 in
    let x = c.args.self.now in (
      p,
      may_sync g.D.Disk.meaning p x
          (valid_by p x c.fault.result (c.fault.ensures p.most (standing p x) h.1.running.here) (sym c.is_some.ensures ∙ c.if-is_some.false)) h.1,
    )

pub returns-clause-goes_on : goal.returns-clause-goes_on
returns-clause-goes_on g c = λ p under calm.
    let x = c.args.self.now in
    c.sync.ensures.goes_on p (may_sync g.D.Disk.meaning p x
    (valid_by p x c.fault.result (c.fault.ensures p.most (standing p x) under.running.here) (sym c.is_some.ensures ∙ c.if-is_some.false)) under)

pub returns-clause-may : goal.returns-clause-may
returns-clause-may g c = λ p under calm.
    let x = c.args.self.now in
    turns_synced p c.args.step x c.sync.new.self (c.is_sync.ensures.sync c.if-not-is_sync.false) calm
    (c.sync.ensures.synced p (may_sync g.D.Disk.meaning p x
    (valid_by p x c.fault.result (c.fault.ensures p.most (standing p x) under.running.here) (sym c.is_some.ensures ∙ c.if-is_some.false)) under))
