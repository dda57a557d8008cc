use Rattle.mem_disk.proofs.CallCounts.{fails_late, fails_listed, works}
use Rattle.mem_disk.proofs.fault_plan.FaultPlan.call.Goals as goal

pub returns-then-self-clause-due : goal.returns-then-self-clause-due
returns-then-self-clause-due c = fails_late _ _ _ _ c.fault.ensures.made c.if-self.true

pub returns-then-contains-clause-due : goal.returns-then-contains-clause-due
returns-then-contains-clause-due c = fails_listed _ _ _ _ _ _ c.deref.ensures.value c.contains.ensures.cases c.if-contains.true c.fault-then-contains.ensures.made

pub returns-clause-due : goal.returns-clause-due
returns-clause-due c = works _ _ _ _ _ c.deref.ensures.value c.contains.ensures.cases c.if-contains.false c.if-self.false
