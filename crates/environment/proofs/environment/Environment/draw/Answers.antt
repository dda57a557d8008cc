use Rattle.std.proofs.Common.{◌∙◌, is_some, ap, sym}
use Rattle.std.proofs.lemmas.Bool.{lt-ltb}
use Rattle.store_model.specs.declared.store.TheConstants.{LAST_TXN}
use Rattle.je_answers.specs.Standing.{active_of}
use Rattle.environment.proofs.ListLaws.{same_some}
use Rattle.environment.proofs.RefusedLaws.{drawn_next}
use Rattle.environment.proofs.environment.Environment.draw.Goals as goal

pub returns-then-last-lt-LAST_TXN-clause-here : goal.returns-then-last-lt-LAST_TXN-clause-here
returns-then-last-lt-LAST_TXN-clause-here g c = λ most st at.
    drawn_next g.D.Disk.meaning most c.args.self.now st (active_of c.args.session st.actives)
    (ap is_some (sym (c.of_session.ensures st at.sessions_at)) ∙ same_some c.of_session.result ∙ sym c.is_some.ensures ∙ c.if-is_some.false)
    (lt-ltb c.args.self.now.engine.kept.last_txn LAST_TXN c.if-last-lt-LAST_TXN.true) at
