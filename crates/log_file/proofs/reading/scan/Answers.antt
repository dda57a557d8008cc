use Rattle.std.proofs.Common.{◌∙◌}
use Rattle.log_file.proofs.reading.scan.Goals as goal

pub returns-clause-scanned : goal.returns-clause-scanned
returns-clause-scanned g c = record {
  bytes = c.deref.result.now;
  are = c.in_ok-scan_whole.ensures.are;
  observed = λ observed. c.deref.ensures.value ∙ c.in_ok-bytes.ensures.bytes observed;
  found = c.in_ok-scan_whole.ensures.scanned.0;
  len = c.in_ok-scan_whole.ensures.scanned.1;
}
