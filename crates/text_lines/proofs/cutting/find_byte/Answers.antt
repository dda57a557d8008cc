use Rattle.std.proofs.Common.{ℕ, eqb}
use Rattle.text_lines.proofs.FirstBytes.{first_byte_is}
use Rattle.text_lines.proofs.cutting.find_byte.Goals as goal

pub returns : goal.returns
returns c = first_byte_is (λ (x : ℕ). eqb x c.args.byte) c.args.text.now c.memchr.result c.memchr.ensures
