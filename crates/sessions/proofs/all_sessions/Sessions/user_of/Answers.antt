use Rattle.std.proofs.Common.{◌∙◌, sym, inl}
use Rattle.sessions.proofs.Users.{unused, awaited, least_user, if_told, if_not_told, cursor_user}
use Rattle.sessions.proofs.all_sessions.Sessions.user_of.Goals as goal

pub returns-in-Some-clause-some : goal.returns-in-Some-clause-some
returns-in-Some-clause-some c st fault sound at =
    inl (least_user c.args.self.now st c.args.db c.in-Some.txn c.holder_in.result c.cursor_user_in.result fault sound at (record {
      lock = c.holder_in.ensures.least;
      owns = c.holder_in.ensures.owns;
      first = cursor_user c.args.self.now st c.args.db c.cursor_user_in.result at c.cursor_user_in.ensures;
      least = sym c.in-Some.is ∙ c.lesser_of-user.ensures;
    }))

pub returns-in-None-clause-none : goal.returns-in-None-clause-none
returns-in-None-clause-none c st fault sound at =
    if_not_told c.args.self.now st c.args.db c.waiter_in.result c.waiter_in.ensures.none (unused c.args.self.now st c.args.db c.holder_in.result c.cursor_user_in.result fault sound at c.have_no_cycle.ensures (record {
      lock = c.holder_in.ensures.least;
      owns = c.holder_in.ensures.owns;
      first = cursor_user c.args.self.now st c.args.db c.cursor_user_in.result at c.cursor_user_in.ensures;
      least = sym c.in-None.is ∙ c.lesser_of-user.ensures;
    }))

pub returns-in-None-clause-some : goal.returns-in-None-clause-some
returns-in-None-clause-some c st fault sound at =
    if_told c.args.self.now st c.args.db c.waiter_in.result c.waiter_in.ensures.told (λ t told. awaited c.args.self.now st c.args.db t c.holder_in.result c.cursor_user_in.result fault sound at c.have_no_cycle.ensures (record {
      lock = c.holder_in.ensures.least;
      owns = c.holder_in.ensures.owns;
      first = cursor_user c.args.self.now st c.args.db c.cursor_user_in.result at c.cursor_user_in.ensures;
      least = sym c.in-None.is ∙ c.lesser_of-user.ensures;
    }) told)
