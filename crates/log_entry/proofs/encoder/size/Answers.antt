use Rattle.std.proofs.Common.{ap, sym, ◌+◌, ◌∙◌}
use Rattle.log_entry.proofs.ReadingLaws.{length-encoding}
use Rattle.log_entry.proofs.encoder.size.Goals as goal

pub returns-clause-encoded : goal.returns-clause-encoded
returns-clause-encoded c = λ prev. length-encoding c.args.entry.now prev ∙ ap (λ n. 14 + n) (sym c.body_size.ensures.value)
