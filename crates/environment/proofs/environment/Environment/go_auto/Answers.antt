use Rattle.std.proofs.Common.{ℕ, List, ◌≡◌, ◌∙◌, ◌+◌, refl, ap, sym, subst}
use Rattle.je_order.specs.declared.txn_id.TxnId.{TxnId}
use Rattle.store_model.specs.declared.answer.Answer.{Answer}
use Rattle.store_model.specs.declared.victim.Victim.{Victim}
use Rattle.store_model.specs.Evaluation.{Outcome}
use Rattle.je_answers.specs.Events.{auto_active, begun}
use Rattle.je_answers.specs.Views.{needs_in}
use Rattle.txn_core.specs.declared.planned.Planned.{Planned}
use Rattle.engine.proofs.CalmAnswers.{IsCalm, outcome_calm}
use Rattle.environment.specs.Auto.{IsPlannedAuto, alone_in, with_sessions}
use Rattle.environment.specs.Steps.{HasCome}
use Rattle.environment.proofs.AccessLaws.{calm_cause}
use Rattle.environment.proofs.AutoCalls.{auto_call}
use Rattle.environment.proofs.AutoEnds.{answered_comes}
use Rattle.environment.proofs.BeginLaws.{next_is, with_begun}
use Rattle.environment.proofs.EarlyLaws.{told_so}
use Rattle.environment.proofs.environment.Environment.go_auto.Goals as goal

pub log_auto-requires-clause-here : goal.log_auto-requires-clause-here
log_auto-requires-clause-here g c =
    let h = c.requires.here in
    (h.0, h.1, h.2, h.3, h.4, h.5, subst (λ (p : Planned). IsPlannedAuto c.args.self.now.engine h.2 c.args.session h.3 h.4 p) c.in-Logs.is h.6, h.7, h.8, h.9)

pub returns-in-Logs-clause-comes : goal.returns-in-Logs-clause-comes
returns-in-Logs-clause-comes g c = λ most s st line call on may plan taken txn owed.
    c.log_auto.ensures.comes most s st line call on may (subst (λ (p : Planned). IsPlannedAuto c.args.self.now.engine st c.args.session call on p) c.in-Logs.is plan) taken txn owed

pub returns-in-Answered-clause-comes : goal.returns-in-Answered-clause-comes
returns-in-Answered-clause-comes g c = λ most s st line call on may plan taken txn owed.
    let e = with_sessions s c.args.self.now in
    let last : ℕ = c.args.self.now.engine.kept.last_txn + 1 in
    let planned = subst (λ (p : Planned). IsPlannedAuto c.args.self.now.engine st c.args.session call on p) c.in-Answered.is plan in
    let calm : IsCalm c.in-Answered.answer = subst (λ (o : Outcome). IsCalm o.answer) planned (outcome_calm (alone_in st) c.args.session call (auto_call call may.db may.records)) in
    let its : c.args.txn ≡ (auto_active st c.args.session).txn = ap (λ (n : ℕ). let t : TxnId = record { 0 = n } in t) txn in
    told_so (λ (a : Answer) (vs : List Victim). HasCome g.D.Disk.meaning most e (with_begun e last c.close_auto.new.sessions) st c.args.session line call a vs)
    c.told.result c.in-Answered.answer c.told.ensures.answer c.told.ensures.victims
    (answered_comes g.D.Disk.meaning most e st c.args.session call on may c.close_auto.new.sessions last line c.in-Answered.answer
    (ap (λ (n : ℕ). n + 1) may.at.last_txn ∙ sym (next_is st.last_txn may.left)) taken.free calm planned
    (c.close_auto.ensures st (needs_in (begun st c.args.session) (auto_active st c.args.session) call on) its taken))

pub returns-in-Answered-clause-cause : goal.returns-in-Answered-clause-cause
returns-in-Answered-clause-cause g c =
    let h = c.requires.here in
    let planned = subst (λ (p : Planned). IsPlannedAuto c.args.self.now.engine h.2 c.args.session h.3 h.4 p) c.in-Answered.is h.6 in
    calm_cause _ _ c.told.result c.in-Answered.answer c.told.ensures.answer
    (subst (λ (o : Outcome). IsCalm o.answer) planned (outcome_calm (alone_in h.2) c.args.session h.3 (auto_call h.3 h.5.db h.5.records))) refl
