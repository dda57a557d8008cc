use Rattle.std.proofs.Common.{refl}
use Rattle.std.proofs.lemmas.Bool.{cond_below, cond_above}
use Rattle.lock_mgr.proofs.victims.greater_of.Goals as goal

pub returns-then-a-b : goal.returns-then-a-b
returns-then-a-b c = cond_below c.args.a.0 c.args.b.0 c.args.b c.args.a c.if-a-b.true

pub returns-else-a-b : goal.returns-else-a-b
returns-else-a-b c = cond_above c.args.a.0 c.args.b.0 c.args.b c.args.a c.args.a c.if-a-b.false refl
