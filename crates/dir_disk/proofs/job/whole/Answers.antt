use Rattle.dir_disk.proofs.WholeReads.{all_read}
use Rattle.dir_disk.proofs.job.whole.Goals as goal

pub returns-clause-all : goal.returns-clause-all
returns-clause-all g c = all_read c.args.file c.in-Some.file g.F.Read.remaining c.new-bytes.result.items c.read_to_end.new.buf.items c.truncate.new.self.items c.args.limit c.in-Some.is c.new-bytes.ensures.items c.in_ok-read_to_end.ensures.bytes c.truncate.ensures.items
