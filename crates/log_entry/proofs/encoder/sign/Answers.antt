use Rattle.log_entry.proofs.WritingLaws.{written_at}
use Rattle.log_entry.proofs.encoder.sign.Goals as goal

pub returns : goal.returns
returns c = written_at c.args.bytes.now c.write_u32.new.buf c.args.start c.adler32-sum.result c.requires c.write_u32.ensures c.adler32-sum.ensures
