use Rattle.std.proofs.Common.{◌∙◌, sym}
use Rattle.jalibsuk.proofs.CursorLaws.{tried_all, tried_last, tried_next}
use Rattle.jalibsuk.proofs.numbering.open_first_free.Goals as goal

pub returns-in-Some-clause-opens : goal.returns-in-Some-clause-opens
returns-in-Some-clause-opens g c =
    c.loop-number.invariant.1 _ _ (tried_last g.D.Disk.meaning c.loop-number.number c.loop-number-test.true _ _ _ _ _ _ c.open_numbered-answered.ensures.gives (sym c.opened_by.ensures ∙ c.in-Some.is))

pub loop-number-preserved : goal.loop-number-preserved
loop-number-preserved g c = (
  c.open_numbered-answered.ensures.usable,
  λ after result opens. c.loop-number.invariant.1 after result
      (tried_next g.D.Disk.meaning c.loop-number.number c.loop-number-test.true _ _ _ _ _ _ _ c.open_numbered-answered.ensures.gives (sym c.opened_by.ensures ∙ c.in_default.is) opens),
)

pub returns-clause-opens : goal.returns-clause-opens
returns-clause-opens g c = c.loop-number.invariant.1 _ _ (tried_all g.D.Disk.meaning c.loop-number.number c.loop-number-test.false _ _ _)
