use Rattle.jalibsuk.specs.Usable.{IsUsable}
use Rattle.jalibsuk.specs.Checkpointed.{AreFlushed}
use Rattle.jalibsuk.proofs.checkpointing.flush_all.Given as goal

-- each step so far logged a node
abbrev pub invariant-loop-count : goal.invariant-loop-count
invariant-loop-count g l = IsUsable g.D.Disk.meaning l.environment × AreFlushed g.D.Disk.meaning l.count l.fn.environment l.environment
