use Rattle.std.proofs.Common.{ap}
use Rattle.script_text.specs.Report.{end_line}
use Rattle.text_out.proofs.BufferedText.{adds_same}
use Rattle.script_text.proofs.reporting.put_last_line.Goals as goal

pub returns : goal.returns
returns g c = adds_same _ _ (ap (λ n. end_line n c.args.totals.now) c.commits_of.ensures) c.put_end.ensures
