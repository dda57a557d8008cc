use Rattle.std.proofs.Common.{sym}
use Rattle.txn_locks.specs.Taking.{state_of}
use Rattle.txn_locks.proofs.ReadNeeds.{answered_all, at_level}
use Rattle.txn_locks.proofs.reading.give_back_all_reads.Goals as goal

pub returns-then-keeps_reads : goal.returns-then-keeps_reads
returns-then-keeps_reads c = sym (c.keeps_reads.ensures.keeps c.if-keeps_reads.true c.args.txn (state_of c.args.locks.now))

pub returns : goal.returns
returns c =
    at_level c.args.level c.args.txn c.args.locks.now c.give_back_reads.new.self (c.keeps_reads.ensures.read_committed c.if-keeps_reads.false)
    (answered_all c.args.txn c.args.locks.now c.give_back_reads.new.self c.give_back_reads.ensures.locks c.give_back_reads.ensures.pending)
