use Rattle.std.proofs.Common.{Some, refl}
use Rattle.script_text.proofs.ReportLines.{adds_line}
use Rattle.script_text.proofs.texts.put_line.Goals as goal

pub returns : goal.returns
returns g c = adds_line c.args.session c.args.line (Some c.args.text.now) refl c.put_front.ensures c.put.ensures c.put-2.ensures
