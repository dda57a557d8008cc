-- One more event at a journal's end.
use Rattle.std.proofs.Common.{◌≡◌, List, [], ◌∷◌, ◌++◌, Option, refl}
use Rattle.store_model.specs.declared.answer.Answer.{Answer}
use Rattle.store_model.specs.declared.event.Event.{Event}
use Rattle.je_answers.specs.Standing.{Standing}
use Rattle.je_answers.specs.Events.{IsAnswered}
use Rattle.je_answers.specs.After.{AnswersAsModel, after_event, after_events}

-- where the environment stands after two journals, one after the other
pub after_events-append : (st : Standing) (before after : List Event) → after_events st (before ++ after) ≡ after_events (after_events st before) after
after_events-append st [] after = refl
after_events-append st (event ∷ events) after = after_events-append (after_event st event) events after

pub answers-append : (st : Standing) (limits others : List (Option Answer)) (before after : List Event) →
    AnswersAsModel st limits before → AnswersAsModel (after_events st before) others after → AnswersAsModel st (limits ++ others) (before ++ after)
answers-append st [] others [] after b a = a
answers-append st (limit ∷ limits) others (event ∷ events) after b a = (b.0, answers-append (after_event st event) limits others events after b.1 a)
answers-append st [] others (event ∷ events) after b a = absurd b
answers-append st (limit ∷ limits) others [] after b a = absurd b

-- one more event
pub answers-push : (st : Standing) (limits : List (Option Answer)) (events : List Event) (limit : Option Answer) (event : Event) →
    AnswersAsModel st limits events → IsAnswered limit (after_events st events) event → AnswersAsModel st (limits ++ limit ∷ []) (events ++ event ∷ [])
answers-push st limits events limit event b e = answers-append st limits (limit ∷ []) events (event ∷ []) b (e, tt)
