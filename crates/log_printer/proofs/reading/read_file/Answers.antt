use Rattle.je_disk.specs.Moments.{now}
use Rattle.log_printer.specs.Reading.{StopsAtFile}
use Rattle.log_printer.proofs.ReadingLaws.{disk_stops, entries_may_stand, lines_there, wrong_there}
use Rattle.log_printer.proofs.reading.read_file.Goals as goal

pub returns-in_err-scanned-clause-stops : goal.returns-in_err-scanned-clause-stops
returns-in_err-scanned-clause-stops g c =
    let before = g.D.Disk.meaning.faults c.args.disk.now in
    let after = g.D.Disk.meaning.faults c.scan.new.disk in
    disk_stops (StopsAtFile g.D.Disk.meaning.observable (now (g.D.Disk.meaning.history c.args.disk.now)).reads c.args.is_last c.args.f.0 before after) before after c.from_residual.result c.in_err-scanned.field-0.0
    c.from_residual.ensures.1 c.in_err-scanned.ensures.cause (λ rose. rose) tt

pub returns-in_err-scanned-clause-same : goal.returns-in_err-scanned-clause-same
returns-in_err-scanned-clause-same g c = c.in_err-scanned.ensures.same

pub returns-in_err-scanned-clause-moments : goal.returns-in_err-scanned-clause-moments
returns-in_err-scanned-clause-moments g c = c.in_err-scanned.ensures.moments

pub returns-in_err-scanned-clause-never_falls : goal.returns-in_err-scanned-clause-never_falls
returns-in_err-scanned-clause-never_falls g c = c.in_err-scanned.ensures.cause.never_falls

pub take_scanned-requires : goal.take_scanned-requires
take_scanned-requires g c =
    entries_may_stand g.D.Disk.meaning.observable (now (g.D.Disk.meaning.history c.args.disk.now)).reads c.args.f.0 c.in_ok-scanned.scanned c.in_ok-scanned.ensures.scanned

pub returns-clause-read : goal.returns-clause-read
returns-clause-read g c =
    lines_there g.D.Disk.meaning.observable (now (g.D.Disk.meaning.history c.args.disk.now)).reads c.args.is_last c.args.f.0 c.in_ok-scanned.scanned c.take_scanned.result c.in_ok-scanned.ensures.scanned
    c.take_scanned.ensures.none c.take_scanned.ensures.text

pub returns-clause-stops : goal.returns-clause-stops
returns-clause-stops g c =
    wrong_there g.D.Disk.meaning.observable (now (g.D.Disk.meaning.history c.args.disk.now)).reads c.args.is_last c.args.f.0 (g.D.Disk.meaning.faults c.args.disk.now) (g.D.Disk.meaning.faults c.scan.new.disk) c.in_ok-scanned.scanned
    c.take_scanned.result c.in_ok-scanned.ensures.scanned c.take_scanned.ensures.stops

pub returns-clause-same : goal.returns-clause-same
returns-clause-same g c = c.in_ok-scanned.ensures.same

pub returns-clause-moments : goal.returns-clause-moments
returns-clause-moments g c = c.in_ok-scanned.ensures.moments

pub returns-clause-never_falls : goal.returns-clause-never_falls
returns-clause-never_falls g c = c.in_ok-scanned.ensures.cause.never_falls
