use Rattle.std.proofs.Common.{refl}
use Rattle.sessions.proofs.Waited.{few_told, short_told, waited}
use Rattle.sessions.proofs.taking.wait_for.Goals as goal

pub stop-requires-clause-few : goal.stop-requires-clause-few
stop-requires-clause-few c =
    few_told c.args.asker.now.txn _ c.in_ok-blocked.blocked _ _ c.args.sessions.now.waiting.items c.reserve.new.self.items (record { session = c.args.session; line = c.args.line; call = c.args.call.now; txn = c.args.asker.now.txn })
    c.in_ok-blocked.ensures.waits c.reserve.ensures.items refl c.requires.waits.told

pub stop-requires-clause-short : goal.stop-requires-clause-short
stop-requires-clause-short c =
    short_told c.args.asker.now.txn _ c.in_ok-blocked.blocked _ _ c.args.sessions.now.waiting.items c.reserve.new.self.items (record { session = c.args.session; line = c.args.line; call = c.args.call.now; txn = c.args.asker.now.txn })
    c.in_ok-blocked.ensures.waits c.reserve.ensures.items refl c.requires.waits.told

pub returns-clause-told : goal.returns-clause-told
returns-clause-told c =
    waited c.stop.result c.args.asker.now c.args.session c.args.line c.args.call.now c.args.db.now c.args.kind c.args.others.now c.args.needs.items _ c.in_ok-room.room c.in_ok-blocked.blocked c.args.sessions.now _ c.stop.new.sessions
    c.stop.ensures.told c.as_slice.ensures.value c.in_ok-blocked.ensures.waits c.in_ok-room.ensures.wait c.in_ok-room.ensures.db c.in_ok-room.ensures.others refl c.reserve.ensures.items refl c.requires.waits
