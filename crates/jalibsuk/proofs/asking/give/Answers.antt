use Rattle.std.proofs.Common.{inl, inr, refl, subst, Result}
use Rattle.store_model.specs.declared.call.Call.{Call}
use Rattle.jalibsuk.specs.declared.error.Error.{Error}
use Rattle.jalibsuk.specs.Named.{IsMade}
use Rattle.jalibsuk.proofs.asking.give.Goals as goal

pub returns-in-Ok : goal.returns-in-Ok
returns-in-Ok g c = record {
  usable = c.ask-answer.ensures.usable;
  gives = λ asked made. inr (c.in-Ok.call, subst (λ (r : Result Call Error). IsMade asked r) c.in-Ok.is made, c.ask-answer.ensures.stepped);
}

pub returns-in-Err : goal.returns-in-Err
returns-in-Err g c = record {
  usable = c.requires.usable;
  gives = λ asked made. inl (c.in-Err.error, subst (λ (r : Result Call Error). IsMade asked r) c.in-Err.is made, refl, refl);
}
