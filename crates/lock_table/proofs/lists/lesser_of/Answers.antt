use Rattle.lock_table.proofs.LeastTxn.{lesser_first, lesser_second}
use Rattle.lock_table.proofs.lists.lesser_of.Goals as goal

pub returns-in-Some : goal.returns-in-Some
returns-in-Some c = lesser_first c.args.a c.in-Some.a c.args.b c.in-Some.is c.if-a-b.true

pub returns-in_default : goal.returns-in_default
returns-in_default c = lesser_second c.args.a c.in-Some.a c.args.b c.in-Some.is c.if-a-b.false
