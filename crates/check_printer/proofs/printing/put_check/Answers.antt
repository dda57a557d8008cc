use Rattle.std.proofs.Common.{ap}
use Rattle.std.specs.List.{flat_map}
use Rattle.text_out.proofs.BufferedText.{adds_same, adds_then}
use Rattle.check_printer.specs.CheckText.{database_line, file_line, finding_lines, verdict_line}
use Rattle.check_printer.proofs.printing.put_check.Goals as goal

pub returns : goal.returns
returns g c =
    let files = adds_same _ _ (ap (flat_map file_line) c.as_slice.ensures) c.put_files.ensures in
    let databases = adds_same _ _ (ap (flat_map database_line) c.as_slice-2.ensures) c.put_databases.ensures in
    let findings = adds_same _ _ (ap (flat_map finding_lines) c.as_slice-findings.ensures) c.put_findings.ensures in
    let end = adds_same _ _ (ap verdict_line c.as_slice-findings.ensures) c.put_end.ensures in
    adds_then (adds_then (adds_then files databases) findings) end
