use Rattle.std.proofs.Common.{◌+◌, refl}
use Rattle.je_answers.specs.Events.{auto_active, begun}
use Rattle.environment.specs.Auto.{with_sessions}
use Rattle.environment.proofs.AutoCalls.{begun_sessions, its_active, may_take, needs_auto, number_is, ready_is, stopped_is, taken_auto}
use Rattle.environment.proofs.AutoEnds.{calm_so, calm_stopped, errs_come, not_come, stopped_comes}
use Rattle.environment.proofs.environment.Environment.run_auto.Goals as goal

pub take-requires-clause-may : goal.take-requires-clause-may
take-requires-clause-may g c =
    let h = c.requires.here in
    let e = c.args.self.now in
    may_take h.0 g.D.Disk.meaning e h.1 c.args.session c.args.call.now h.2 h.3 _
    (begun_sessions h.0 g.D.Disk.meaning e h.1 c.args.session c.args.call.now h.2 h.3 _ (record { 0 = e.engine.kept.last_txn + 1 }) refl (c.in_ok-begin.ensures.stands h.1 h.3.at.sessions_at))

pub returns-in_err-begin-clause-comes : goal.returns-in_err-begin-clause-comes
returns-in_err-begin-clause-comes g c = λ most st on may named planned needs owed.
    errs_come g.D.Disk.meaning most c.args.self.now (with_sessions c.begin.new.self c.args.self.now) st c.args.session c.args.line c.args.call.now c.from_residual.result c.from_residual.ensures.0
    (not_come g.D.Disk.meaning most c.args.self.now st c.args.session c.args.call.now on may c.begin.new.self (c.in_err-begin.ensures.err st may.at.sessions_at))

pub go_auto-requires-clause-here : goal.go_auto-requires-clause-here
go_auto-requires-clause-here g c =
    let h = c.requires.here in
    let e = c.args.self.now in
    let st = h.1 in
    let begun_ = begun_sessions h.0 g.D.Disk.meaning e st c.args.session c.args.call.now h.2 h.3 _ (record { 0 = e.engine.kept.last_txn + 1 }) refl (c.in_ok-begin.ensures.stands st h.3.at.sessions_at) in (
      h.0,
      e.sessions,
      st,
      c.args.call.now,
      h.2,
      h.3,
      h.4,
      taken_auto h.0 g.D.Disk.meaning e st c.args.session c.args.call.now h.2 h.3 _ _ h.5
          (ready_is _ _ c.in-Ok-Ready.field-0-is c.in-Ok-Ready.ensures.ready (begun st c.args.session) (auto_active st c.args.session) h.3.valid (its_active h.0 g.D.Disk.meaning e st c.args.session c.args.call.now h.2 h.3) begun_),
      number_is h.0 g.D.Disk.meaning e st c.args.session c.args.call.now h.2 h.3,
      h.6,
    )

pub returns-in-Ok-Ready-clause-comes : goal.returns-in-Ok-Ready-clause-comes
returns-in-Ok-Ready-clause-comes g c = λ most st on may named planned needs owed.
    let e = c.args.self.now in
    let begun_ = begun_sessions most g.D.Disk.meaning e st c.args.session c.args.call.now on may _ (record { 0 = e.engine.kept.last_txn + 1 }) refl (c.in_ok-begin.ensures.stands st may.at.sessions_at) in
    c.go_auto.ensures.comes most e.sessions st c.args.line c.args.call.now on may planned
    (taken_auto most g.D.Disk.meaning e st c.args.session c.args.call.now on may _ _ needs
    (ready_is _ _ c.in-Ok-Ready.field-0-is c.in-Ok-Ready.ensures.ready (begun st c.args.session) (auto_active st c.args.session) may.valid (its_active most g.D.Disk.meaning e st c.args.session c.args.call.now on may) begun_))
    (number_is most g.D.Disk.meaning e st c.args.session c.args.call.now on may) owed

pub returns-in-Ok-Stopped-clause-comes : goal.returns-in-Ok-Stopped-clause-comes
returns-in-Ok-Stopped-clause-comes g c = λ most st on may named planned needs owed.
    let e = c.args.self.now in
    let begun_ = begun_sessions most g.D.Disk.meaning e st c.args.session c.args.call.now on may _ (record { 0 = e.engine.kept.last_txn + 1 }) refl (c.in_ok-begin.ensures.stands st may.at.sessions_at) in
    stopped_comes g.D.Disk.meaning most e st c.args.session c.args.call.now on may c.take.new.self (e.engine.kept.last_txn + 1) c.args.line
    c.in-Ok-Stopped.answer c.in-Ok-Stopped.victims (number_is most g.D.Disk.meaning e st c.args.session c.args.call.now on may)
    (stopped_is c.begin.new.self c.take.new.self c.args.session c.args.line c.args.call.now c.args.db.now c.args.kind c.args.others.now c.args.needs.items c.in-Ok-Stopped.field-0 c.in-Ok-Stopped.answer c.in-Ok-Stopped.victims c.in-Ok-Stopped.field-0-is c.in-Ok-Stopped.ensures.stopped (begun st c.args.session) (auto_active st c.args.session) on may.valid
    (needs_auto most g.D.Disk.meaning e st c.args.session c.args.call.now on may _ _ _ _ named needs) begun_)

pub returns-in-Ok-Stopped-clause-cause : goal.returns-in-Ok-Stopped-clause-cause
returns-in-Ok-Stopped-clause-cause g c =
    let h = c.requires.here in
    let e = c.args.self.now in
    let st = h.1 in
    let begun_ = begun_sessions h.0 g.D.Disk.meaning e st c.args.session c.args.call.now h.2 h.3 _ (record { 0 = e.engine.kept.last_txn + 1 }) refl (c.in_ok-begin.ensures.stands st h.3.at.sessions_at) in
    let stop = stopped_is c.begin.new.self c.take.new.self c.args.session c.args.line c.args.call.now c.args.db.now c.args.kind c.args.others.now c.args.needs.items c.in-Ok-Stopped.field-0 c.in-Ok-Stopped.answer c.in-Ok-Stopped.victims c.in-Ok-Stopped.field-0-is c.in-Ok-Stopped.ensures.stopped (begun st c.args.session) (auto_active st c.args.session) h.2 h.3.valid
    (needs_auto h.0 g.D.Disk.meaning e st c.args.session c.args.call.now h.2 h.3 _ _ _ _ h.7 h.5) begun_ in
    calm_so _ _ (record { answer = c.in-Ok-Stopped.answer; victims = c.in-Ok-Stopped.victims })
    (calm_stopped _ st (begun st c.args.session) c.args.session c.args.line c.args.call.now h.2 stop.need c.in-Ok-Stopped.answer c.in-Ok-Stopped.victims stop.answers) refl

pub returns-in-Err-clause-comes : goal.returns-in-Err-clause-comes
returns-in-Err-clause-comes g c = λ most st on may named planned needs owed.
    let e = c.args.self.now in
    let begun_ = begun_sessions most g.D.Disk.meaning e st c.args.session c.args.call.now on may _ (record { 0 = e.engine.kept.last_txn + 1 }) refl (c.in_ok-begin.ensures.stands st may.at.sessions_at) in
    not_come g.D.Disk.meaning most e st c.args.session c.args.call.now on may c.undo_begin.new.self
    (c.undo_begin.ensures.stands st (auto_active st c.args.session) (c.in-Err.ensures.err (begun st c.args.session) begun_))
