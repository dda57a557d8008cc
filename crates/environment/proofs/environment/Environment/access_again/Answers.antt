use Rattle.std.proofs.Common.{◌∙◌, Option, refl, sym, subst}
use Rattle.std.specs.Option.{option_copied}
use Rattle.je_order.specs.declared.name.Name.{Name}
use Rattle.environment.specs.Access.{Moves}
use Rattle.environment.proofs.OwnLaws.{accesses_come, accessed_comes, accesses_near, not_taken, reach_with, ready_so, stopped_accesses, stopped_cause, stopped_so, taken_up}
use Rattle.environment.proofs.AgainLaws.{bare_own}
use Rattle.environment.proofs.PlanLaws.{on_db}
use Rattle.environment.proofs.environment.Environment.access_again.Goals as goal

pub finish_again-requires-clause-taken : goal.finish_again-requires-clause-taken
finish_again-requires-clause-taken g c =
    let e = c.args.self.now in
    let most = c.requires.here.0 in
    let st = c.requires.here.1 in
    let on = c.requires.here.2 in
    let here = c.requires.here.3 in
    let sound = c.requires.here.4 in
    let found = c.requires.here.6 in
    let a = c.requires.here.8 in
    let its = c.requires.here.9 in
    let is_txn = c.requires.here.10 in
    let is_level = c.requires.here.11 in
    let is_auto = c.requires.here.12 in
    let none = sym here.fault ∙ c.requires.valid in
    let at = option_copied c.args.at in
    let db = on_db st c.args.session c.args.call.now c.args.db.now c.args.found at on found in
    let planned = c.in_ok-target.ensures st a on (here.valid none) (here.databases none) sound db found.stands is_txn is_level in
    let up = taken_up g.D.Disk.meaning most e c.take-taken.new.self st c.args.session a c.args.call.now c.args.db.now c.args.found at on c.in_ok-target.field-0.target here sound none found its c.requires.call planned.plan
    (ready_so c.in-Ok-Ready.field-0 _ c.in-Ok-Ready.field-0-is c.in-Ok-Ready.ensures.ready st a none its here.sessions_at) in (
      e,
      most,
      st,
      a,
      c.args.call.now,
      on,
      up,
      is_txn,
      is_level,
      is_auto,
      bare_own st c.args.session a c.requires.here.7.bare its is_auto,
    )

pub returns-in-Ok-Ready-clause-comes : goal.returns-in-Ok-Ready-clause-comes
returns-in-Ok-Ready-clause-comes g c = λ most st on here sound early may found a its is_txn is_level is_auto.
    let e = c.args.self.now in
    let none = sym here.fault ∙ c.requires.valid in
    let at = option_copied c.args.at in
    let db = on_db st c.args.session c.args.call.now c.args.db.now c.args.found at on found in
    let planned = c.in_ok-target.ensures st a on (here.valid none) (here.databases none) sound db found.stands is_txn is_level in
    let up = taken_up g.D.Disk.meaning most e c.take-taken.new.self st c.args.session a c.args.call.now c.args.db.now c.args.found at on c.in_ok-target.field-0.target here sound none found its c.requires.call planned.plan
    (ready_so c.in-Ok-Ready.field-0 _ c.in-Ok-Ready.field-0-is c.in-Ok-Ready.ensures.ready st a none its here.sessions_at) in
    accesses_come g.D.Disk.meaning most e c.finish_again.new.self st c.args.session c.args.line c.args.db.now c.args.call.now c.args.found at on a found c.requires.call its c.finish_again.result
    (c.finish_again.ensures.comes e most c.args.line st a c.args.call.now on up (subst (λ (o : Option Name). Moves c.args.session c.args.call.now o c.move_of-moves.result) planned.plan.place c.move_of-moves.ensures) is_txn is_level is_auto (bare_own st c.args.session a may.bare its is_auto))

pub returns-in-Ok-Stopped-clause-comes : goal.returns-in-Ok-Stopped-clause-comes
returns-in-Ok-Stopped-clause-comes g c = λ most st on here sound early may found a its is_txn is_level is_auto.
    let e = c.args.self.now in
    let none = sym here.fault ∙ c.requires.valid in
    let at = option_copied c.args.at in
    let db = on_db st c.args.session c.args.call.now c.args.db.now c.args.found at on found in
    let planned = c.in_ok-target.ensures st a on (here.valid none) (here.databases none) sound db found.stands is_txn is_level in
    accessed_comes g.D.Disk.meaning most e _ st c.args.session c.args.line c.args.db.now c.in-Ok-Stopped.stop c.in-Ok-Stopped.victims c.args.call.now c.args.found at on a found
    c.requires.call its
    (stopped_accesses g.D.Disk.meaning most e c.take-taken.new.self st a c.args.line c.args.call.now on c.in-Ok-Stopped.stop c.in-Ok-Stopped.victims none may.bare
    (may.alone a its) here
    (stopped_so c.in-Ok-Stopped.field-0 _ c.in-Ok-Stopped.stop c.in-Ok-Stopped.victims c.in-Ok-Stopped.field-0-is c.in-Ok-Stopped.ensures.stopped st a on none
    (record { its = its; name = db.name; its_kind = db.kind; beside = planned.beside; each = planned.plan.needs }) here.sessions_at))

pub returns-in-Err-clause-comes : goal.returns-in-Err-clause-comes
returns-in-Err-clause-comes g c = λ most st on here sound early may found a its is_txn is_level is_auto.
    not_taken g.D.Disk.meaning most c.args.self.now c.take-taken.new.self st here (c.in-Err.ensures.err st here.sessions_at)

pub returns-in-Err-clause-near : goal.returns-in-Err-clause-near
returns-in-Err-clause-near g c =
    let st = c.requires.here.1 in
    let here = c.requires.here.3 in
    reach_with g.D.Disk.meaning c.args.self.now c.take-taken.new.self st here.sessions_at (c.in-Err.ensures.err st here.sessions_at)

pub returns-in-Ok-Ready-clause-near : goal.returns-in-Ok-Ready-clause-near
returns-in-Ok-Ready-clause-near g c =
    let e = c.args.self.now in
    let most = c.requires.here.0 in
    let st = c.requires.here.1 in
    let on = c.requires.here.2 in
    let here = c.requires.here.3 in
    let sound = c.requires.here.4 in
    let found = c.requires.here.6 in
    let a = c.requires.here.8 in
    let its = c.requires.here.9 in
    let is_txn = c.requires.here.10 in
    let is_level = c.requires.here.11 in
    let is_auto = c.requires.here.12 in
    let none = sym here.fault ∙ c.requires.valid in
    let at = option_copied c.args.at in
    let db = on_db st c.args.session c.args.call.now c.args.db.now c.args.found at on found in
    let planned = c.in_ok-target.ensures st a on (here.valid none) (here.databases none) sound db found.stands is_txn is_level in
    let up = taken_up g.D.Disk.meaning most e c.take-taken.new.self st c.args.session a c.args.call.now c.args.db.now c.args.found at on c.in_ok-target.field-0.target here sound none found its c.requires.call planned.plan
    (ready_so c.in-Ok-Ready.field-0 _ c.in-Ok-Ready.field-0-is c.in-Ok-Ready.ensures.ready st a none its here.sessions_at) in
    accesses_near g.D.Disk.meaning most e c.finish_again.new.self st c.args.line c.args.call.now on a c.finish_again.result
    (c.finish_again.ensures.comes e most c.args.line st a c.args.call.now on up (subst (λ (o : Option Name). Moves c.args.session c.args.call.now o c.move_of-moves.result) planned.plan.place c.move_of-moves.ensures) is_txn is_level is_auto (bare_own st c.args.session a c.requires.here.7.bare its is_auto))

pub returns-in-Ok-Stopped-clause-cause : goal.returns-in-Ok-Stopped-clause-cause
returns-in-Ok-Stopped-clause-cause g c =
    let e = c.args.self.now in
    let most = c.requires.here.0 in
    let st = c.requires.here.1 in
    let on = c.requires.here.2 in
    let here = c.requires.here.3 in
    let sound = c.requires.here.4 in
    let found = c.requires.here.6 in
    let a = c.requires.here.8 in
    let its = c.requires.here.9 in
    let is_txn = c.requires.here.10 in
    let is_level = c.requires.here.11 in
    let is_auto = c.requires.here.12 in
    let none = sym here.fault ∙ c.requires.valid in
    let at = option_copied c.args.at in
    let db = on_db st c.args.session c.args.call.now c.args.db.now c.args.found at on found in
    let planned = c.in_ok-target.ensures st a on (here.valid none) (here.databases none) sound db found.stands is_txn is_level in
    stopped_cause g.D.Disk.meaning _ _ (record { answer = c.in-Ok-Stopped.stop; victims = c.in-Ok-Stopped.victims }) st a c.args.line c.args.call.now on refl c.take-taken.new.self
    (stopped_so c.in-Ok-Stopped.field-0 _ c.in-Ok-Stopped.stop c.in-Ok-Stopped.victims c.in-Ok-Stopped.field-0-is c.in-Ok-Stopped.ensures.stopped st a on none
    (record { its = its; name = db.name; its_kind = db.kind; beside = planned.beside; each = planned.plan.needs }) here.sessions_at)
