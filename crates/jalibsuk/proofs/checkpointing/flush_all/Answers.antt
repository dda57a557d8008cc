use Rattle.std.proofs.Common.{◌∙◌, inl, inr, refl, sym}
use Rattle.jalibsuk.proofs.CheckpointLaws.{flushed_next}
use Rattle.jalibsuk.proofs.checkpointing.flush_all.Goals as goal

pub loop-count-init : goal.loop-count-init
loop-count-init g c = (c.requires.usable, refl)

pub loop-count-preserved : goal.loop-count-preserved
loop-count-preserved g c = (
  c.turn.ensures.usable,
  flushed_next g.D.Disk.meaning c.loop-count.count _ _ _ c.loop-count.invariant.1 (c.turn.result, c.turn.ensures.turned, sym c.in_default.is ∙ c.flushed_by.ensures),
)

pub returns-in-Some-clause-flushes : goal.returns-in-Some-clause-flushes
returns-in-Some-clause-flushes g c = (
  c.loop-count.count,
  _,
  c.loop-count.invariant.1,
  inl (c.turn.result, c.turn.ensures.turned, sym c.in-Some.is ∙ c.flushed_by.ensures),
)

pub returns-clause-flushes : goal.returns-clause-flushes
returns-clause-flushes g c = (c.loop-count.count, _, c.loop-count.invariant.1, inr (c.loop-count-test.false, refl, refl))
