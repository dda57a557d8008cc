use Rattle.std.proofs.Common.{Option, sym, subst}
use Rattle.lock_table.specs.declared.record_id.RecordId.{RecordId}
use Rattle.txn_locks.specs.declared.locked.Locked.{Locked}
use Rattle.txn_locks.specs.Taking.{state_of, IsTurn}
use Rattle.txn_locks.proofs.Asking.{IsRequested, turn_is, got_noted}
use Rattle.txn_locks.proofs.taking.ask_one.Goals as goal

pub returns-clause-turn : goal.returns-clause-turn
returns-clause-turn c =
    let e = c.in_ok-requested.ensures in
    let q : IsRequested c.args.txn c.in_ok-at.at c.args.need.now.asked c.args.wait c.args.locks.now c.request.new.self c.in_ok-requested.requested = record { owner = e.owner; waits = e.waits; victims = e.victims; locks = e.locks; pending = e.pending; gone = e.gone; told = e.told } in
    subst (λ (stop : Option Locked). IsTurn stop c.args.txn c.args.need.now c.args.place c.args.wait (state_of c.args.locks.now) (state_of c.request.new.self)) (sym c.stop_of-stop.ensures)
    (turn_is c.args.txn c.args.need.now c.args.wait c.args.place c.args.locks.now c.request.new.self c.in_ok-requested.requested c.have_no_cycle.ensures c.requires
    (subst (λ (x : RecordId). IsRequested c.args.txn x c.args.need.now.asked c.args.wait c.args.locks.now c.request.new.self c.in_ok-requested.requested) c.in_ok-at.ensures q))

pub returns-clause-got : goal.returns-clause-got
returns-clause-got c =
    let e = c.in_ok-requested.ensures in
    let q : IsRequested c.args.txn c.in_ok-at.at c.args.need.now.asked c.args.wait c.args.locks.now c.request.new.self c.in_ok-requested.requested = record { owner = e.owner; waits = e.waits; victims = e.victims; locks = e.locks; pending = e.pending; gone = e.gone; told = e.told } in
    got_noted c.args.txn c.args.need.now c.args.wait c.args.place c.args.locks.now c.request.new.self c.in_ok-requested.requested c.stop_of-stop.result c.was_of-was.result c.in_ok-at.at
    c.args.got.now.items c.reserve.new.self.items c.note_got.new.got.items c.stop_of-stop.ensures c.have_no_cycle.ensures c.requires c.in_ok-at.ensures q c.was_of-was.ensures e.was c.in_ok-reserve.ensures.items c.note_got.ensures.got
