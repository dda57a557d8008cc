use Rattle.log_file.proofs.FileScanLaws.{found_prefix, found_unknown}
use Rattle.log_file.proofs.scanning.scan_after_header.Goals as goal

pub returns-then-version-ne-LOG_VERSION : goal.returns-then-version-ne-LOG_VERSION
returns-then-version-ne-LOG_VERSION c =
    found_unknown c.args.f.0 c.args.bytes.now c.args.prev c.in-FileHeader.version c.in-FileHeader.file c.args.first.now c.in-FileHeader.is c.if-prev-ne0.false c.if-version-ne-LOG_VERSION.true

pub returns : goal.returns
returns c =
    found_prefix c.args.f.0 c.args.bytes.now c.args.prev c.in-FileHeader.version c.in-FileHeader.file c.args.first.now c.in_ok-scan_behind.field-0 c.in-FileHeader.is c.if-prev-ne0.false c.if-version-ne-LOG_VERSION.false c.if-file-f.false c.in_ok-scan_behind.ensures
