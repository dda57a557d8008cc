use Rattle.log_buffer.proofs.NextPlaces.{taken_at, taken_behind}
use Rattle.log_buffer.proofs.next_place.NextPlace.take.Goals as goal

pub returns-clause-at : goal.returns-clause-at
returns-clause-at c = λ file_max end sizes is. taken_at file_max end sizes c.args.size c.step.result c.args.self.now is c.step.ensures.at

pub returns-clause-next : goal.returns-clause-next
returns-clause-next c = λ file_max end sizes is. taken_behind file_max end sizes c.args.size c.args.self.now c.step.new.self is c.step.ensures.max c.step.ensures.end
