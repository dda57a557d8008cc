use Rattle.jalibsuk.proofs.numbering.open_numbered.Goals as goal

pub returns-clause-gives : goal.returns-clause-gives
returns-clause-gives g c = c.give.ensures.gives _ c.open-call.ensures
