use Rattle.std.proofs.Common.{le_refl}
use Rattle.log_buffer.proofs.FaultCauses.{cause_ok}
use Rattle.log_buffer.proofs.GrowthLaws.{grew_none}
use Rattle.log_buffer.proofs.buffer.LogBuffer.write_long.Goals as goal

pub returns-then-len-gt-WRITE_BUFFER_MAX-clause-cause : goal.returns-then-len-gt-WRITE_BUFFER_MAX-clause-cause
returns-then-len-gt-WRITE_BUFFER_MAX-clause-cause g c = λ works. c.write_out.ensures.cause

pub returns-clause-cause : goal.returns-clause-cause
returns-clause-cause g c = λ works. cause_ok _ _ _ _ _ works works (le_refl _)

pub returns-clause-grew : goal.returns-clause-grew
returns-clause-grew g c = grew_none g.D.Disk.meaning _

pub returns-then-len-gt-WRITE_BUFFER_MAX-clause-grew : goal.returns-then-len-gt-WRITE_BUFFER_MAX-clause-grew
returns-then-len-gt-WRITE_BUFFER_MAX-clause-grew g c = c.write_out.ensures.grew

pub returns-then-len-gt-WRITE_BUFFER_MAX-clause-tried : goal.returns-then-len-gt-WRITE_BUFFER_MAX-clause-tried
returns-then-len-gt-WRITE_BUFFER_MAX-clause-tried g c = c.write_out.ensures.tried
