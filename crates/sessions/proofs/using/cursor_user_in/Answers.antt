use Rattle.std.proofs.Common.{◌∙◌, ap}
use Rattle.std.specs.Option.{option_map}
use Rattle.je_answers.specs.declared.active.Active.{Active}
use Rattle.sessions.proofs.CursorUsers.{same_user}
use Rattle.sessions.proofs.using.cursor_user_in.Goals as goal

pub returns-in-None : goal.returns-in-None
returns-in-None c = λ places at.
    ap (option_map (λ (a : Active). a.txn)) (c.in-None.ensures ∙ same_user c.args.db c.args.sessions.now.cursors places _ c.args.sessions.now.txns.actives.items at c.actives.ensures)

pub returns-in-Some : goal.returns-in-Some
returns-in-Some c = λ places at.
    ap (option_map (λ (a : Active). a.txn)) (c.in-Some.ensures ∙ same_user c.args.db c.args.sessions.now.cursors places _ c.args.sessions.now.txns.actives.items at c.actives.ensures)
