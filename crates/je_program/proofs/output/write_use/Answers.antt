use Rattle.je_program.proofs.OutputLaws.{one_sent}
use Rattle.je_program.proofs.output.write_use.Goals as goal

pub returns : goal.returns
returns g c =
    let sent = one_sent c.new-buffer.ensures.bytes c.new-buffer.ensures.failed c.put_use.ensures in
    let f = c.finish_text.ensures in
    record { observed = f.whole _ _ _ sent; part = f.part _ _ _ sent; never_falls = f.never_falls _ _ _ sent; cause = f.cause _ _ _ sent }
