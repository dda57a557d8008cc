use Rattle.std.proofs.Common.{◌≡◌, ◌∙◌, sym, ap, subst, arith}
use Rattle.std.specs.Prelude.{IfOk}
use Rattle.log_entry.proofs.ReadingLaws.{decoded-long}
use Rattle.log_file.specs.declared.file_scan.FileScan.{FileScan}
use Rattle.log_file.specs.declared.file_scan.FileScan.TheVariants.{Prefix}
use Rattle.log_file.specs.Scan.{scan_by}
use Rattle.log_file.proofs.ScanSteps.{whole_size}
use Rattle.log_file.proofs.scanning.scan_bytes.Goals as goal

pub scan_after_header-found-requires : goal.scan_after_header-found-requires
scan_after_header-found-requires c =
    let size = whole_size c.args.bytes.now c.in_ok-entry.field-0 c.in-Whole.entry c.in-Whole.prev c.in-Whole.len c.in_ok-entry.ensures.found c.in-Whole.is in
    let long = decoded-long c.args.bytes.now c.in-Whole.entry c.in-Whole.prev c.in-Whole.len (sym c.in_ok-entry.ensures.exact ∙ c.in-Whole.is) in
    omega (arith, size, long.1)

pub returns-in-Whole : goal.returns-in-Whole
returns-in-Whole c =
    subst (λ (x : FileScan). IfOk c.scan_after_header-found.result (λ found. found ≡ x))
    (ap (scan_by c.args.f.0 c.args.bytes.now) (sym c.in-Whole.is ∙ c.in_ok-entry.ensures.exact)) c.scan_after_header-found.ensures

pub returns-in-Torn : goal.returns-in-Torn
returns-in-Torn c =
    ap Prefix c.no_prefix.ensures ∙ ap (scan_by c.args.f.0 c.args.bytes.now) (sym c.in-Torn.is ∙ c.in_ok-entry.ensures.exact)
