use Rattle.std.proofs.Common.{refl}
use Rattle.serial_replay.proofs.laws.a_replay_is_worked.Goals as goal

pub returns : goal.returns
returns c = record {
  changing_again = record { answers = refl; changes = refl };
  passing_again = record { answers = refl; changes = refl };
  phantom = λ again. let e = again.answers in absurd (cc (e));
  index_again = record { answers = refl; changes = refl };
  passing_index_again = record { answers = refl; changes = refl };
  index_phantom = λ again. let e = again.answers in absurd (cc (e));
}
