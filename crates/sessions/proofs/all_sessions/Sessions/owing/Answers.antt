use Rattle.std.proofs.Common.{◌∙◌}
use Rattle.sessions.proofs.Owns.{owing_is}
use Rattle.sessions.proofs.all_sessions.Sessions.owing.Goals as goal

pub returns : goal.returns
returns c = λ st at. c.owing.ensures ∙ owing_is c.args.self.now.txns.own.entries st.own c.args.self.now.txns.actives.items st.actives at.own at.actives
