use Rattle.std.proofs.Common.{◌∙◌, ap, sym, decimal}
use Rattle.text_out.proofs.BufferedText.{adds_same, adds_then}
use Rattle.check_printer.proofs.CountLines.{verdict_found}
use Rattle.check_printer.proofs.printing.put_end.Goals as goal

pub returns : goal.returns
returns g c =
    adds_same _ _ (verdict_found c.args.findings.now (sym c.is_empty.ensures ∙ c.if-is_empty.false))
    (adds_then (adds_then c.put-2.ensures (adds_same _ _ (ap decimal c.count_findings.ensures) c.put_count.ensures)) c.put-3.ensures)
