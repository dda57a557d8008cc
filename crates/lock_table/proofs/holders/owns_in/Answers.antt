use Rattle.lock_table.proofs.HolderFound.{read_at, none_read_at}
use Rattle.lock_table.proofs.holders.owns_in.Goals as goal

pub returns-in-Some-clause-none : goal.returns-in-Some-clause-none
returns-in-Some-clause-none c = λ h r there listed. c.owns_one.ensures.none h r there (read_at c.args.dbs.now.entries c.args.db r c.in-Some.list.now there c.in-Some.ensures.value _ c.as_slice.ensures.value listed)

pub returns-in-None-clause-none : goal.returns-in-None-clause-none
returns-in-None-clause-none c = λ h r there listed. absurd (none_read_at c.args.dbs.now.entries c.args.db r there c.in-None.ensures.value listed)
