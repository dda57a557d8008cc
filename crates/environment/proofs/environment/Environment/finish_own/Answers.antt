use Rattle.std.proofs.Common.{◌∙◌, refl, sym}
use Rattle.std.proofs.lemmas.Bool.{eqb-true}
use Rattle.std.proofs.lemmas.List.{nil_from_length}
use Rattle.environment.proofs.AccessLaws.{calm_cause}
use Rattle.je_answers.specs.Views.{needs_in, outcome_of}
use Rattle.je_answers.specs.Locking.{all_got}
use Rattle.je_answers.specs.After.{with_locks}
use Rattle.environment.proofs.FinishLaws.{calm_taken, finishes}
use Rattle.environment.proofs.PlacesLaws.{its_moves}
use Rattle.environment.proofs.environment.Environment.finish_own.Goals as goal

pub returns-then-is_empty-clause-comes : goal.returns-then-is_empty-clause-comes
returns-then-is_empty-clause-comes g c = λ before most session line st a asked on up moves txn level auto.
    finishes g.D.Disk.meaning before c.args.self.now c.move_by.new.sessions most session line st a asked on c.args.answer c.args.changes.items c.told.result
    up (nil_from_length c.args.changes.items (sym c.args.changes.ok.0 ∙ eqb-true _ 0 (sym c.is_empty.ensures ∙ c.if-is_empty.true))) auto
    (c.move_by.ensures (with_locks a (all_got a.txn (needs_in st a asked on) st.locks.at) st) a asked (outcome_of st a asked on).place (its_moves session a st.actives asked (outcome_of st a asked on).place c.args.moves up.its moves)
    (c.answered.ensures.stands a (needs_in st a asked on) st txn level up.taken))
    c.told.ensures.answer c.told.ensures.victims

pub returns-then-is_empty-clause-cause : goal.returns-then-is_empty-clause-cause
returns-then-is_empty-clause-cause g c =
    let taken = c.requires.taken in
    calm_cause _ _ c.told.result c.args.answer c.told.ensures.answer
    (calm_taken g.D.Disk.meaning taken.0 c.args.self.now taken.1 taken.2 taken.3 taken.4 taken.5 taken.6 c.args.answer c.args.changes.items taken.7) refl
