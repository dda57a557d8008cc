use Rattle.std.proofs.Common.{◌≡◌, ◌≢◌, ◌∙◌, List, [], ap, sym, subst, length}
use Rattle.std.specs.Prelude.{IfErr, IfOk}
use Rattle.std.proofs.lemmas.Bool.{eqb-false, eqb-true}
use Rattle.std.proofs.lemmas.List.{nil_from_length}
use Rattle.std.proofs.lemmas.Result.{IfOk-weaker}
use Rattle.je_disk.specs.Moments.{now}
use Rattle.je_disk.specs.States.{State}
use Rattle.je_lsn.specs.declared.file_no.FileNo.{FileNo}
use Rattle.log_replay.proofs.UnchangedMoments.{passes_again}
use Rattle.log_printer.specs.Reading.{IsReadingLines, StopsAmong}
use Rattle.log_printer.proofs.ReadingLaws.{files_stop, listing_stops, log_read, none_listed}
use Rattle.log_printer.proofs.reading.read_log.Goals as goal

pub returns-in_err-files-clause-stops : goal.returns-in_err-files-clause-stops
returns-in_err-files-clause-stops g c =
    listing_stops g.D.Disk.meaning.observable (now (g.D.Disk.meaning.history c.args.disk.now)).reads (g.D.Disk.meaning.faults c.args.disk.now) (g.D.Disk.meaning.faults c.list_files.new.disk) c.from_residual.result c.in_err-files.field-0.0
    c.from_residual.ensures.1 c.in_err-files.ensures.cause

pub returns-in_err-files-clause-never_falls : goal.returns-in_err-files-clause-never_falls
returns-in_err-files-clause-never_falls g c = c.in_err-files.ensures.cause.never_falls

pub returns-then-is_empty-clause-stops : goal.returns-then-is_empty-clause-stops
returns-then-is_empty-clause-stops g c = λ observed.
    none_listed (now (g.D.Disk.meaning.history c.args.disk.now)).reads c.in_ok-files.files.items
    (nil_from_length c.in_ok-files.files.items (sym c.in_ok-files.files.ok.0 ∙ eqb-true _ 0 (sym c.is_empty.ensures ∙ c.if-is_empty.true))) (c.in_ok-files.ensures.listed observed)

pub returns-then-is_empty-clause-never_falls : goal.returns-then-is_empty-clause-never_falls
returns-then-is_empty-clause-never_falls g c = c.in_ok-files.ensures.cause.never_falls

pub returns-clause-read : goal.returns-clause-read
returns-clause-read g c =
    let before = (now (g.D.Disk.meaning.history c.args.disk.now)).reads in
    let mid = (now (g.D.Disk.meaning.history c.list_files.new.disk)).reads in
    let files = c.in_ok-files.files.items in
    let some : files ≢ [] = λ none. eqb-false _ 0 (sym c.is_empty.ensures ∙ c.if-is_empty.false) (c.in_ok-files.files.ok.0 ∙ ap length none) in
    IfOk-weaker c.read_files.result _ _
    (λ lines read. log_read g.D.Disk.meaning.observable before mid files lines.items (λ t. ap (λ (s : State). s.reads) (c.in_ok-files.ensures.same t)) some c.in_ok-files.ensures.rising c.in_ok-files.ensures.listed
    (subst (λ (l : List FileNo). IsReadingLines g.D.Disk.meaning.observable mid l [] lines.items) c.deref.ensures.value read))
    c.read_files.ensures.read

pub returns-clause-stops : goal.returns-clause-stops
returns-clause-stops g c =
    let before = (now (g.D.Disk.meaning.history c.args.disk.now)).reads in
    let mid = (now (g.D.Disk.meaning.history c.list_files.new.disk)).reads in
    let files = c.in_ok-files.files.items in
    let meaning = g.D.Disk.meaning in
    let some : files ≢ [] = λ none. eqb-false _ 0 (sym c.is_empty.ensures ∙ c.if-is_empty.false) (c.in_ok-files.files.ok.0 ∙ ap length none) in
    files_stop g.D.Disk.meaning.observable before mid files (meaning.faults c.args.disk.now) (meaning.faults c.list_files.new.disk) (meaning.faults c.read_files.new.disk) c.read_files.result (λ t. ap (λ (s : State). s.reads) (c.in_ok-files.ensures.same t)) some
    c.in_ok-files.ensures.rising c.in_ok-files.ensures.listed c.in_ok-files.ensures.cause.never_falls c.read_files.ensures.never_falls
    (subst (λ (l : List FileNo). IfErr c.read_files.result (StopsAmong g.D.Disk.meaning.observable mid l (meaning.faults c.list_files.new.disk) (meaning.faults c.read_files.new.disk))) c.deref.ensures.value c.read_files.ensures.stops)

pub returns-clause-same : goal.returns-clause-same
returns-clause-same g c t = c.read_files.ensures.same t ∙ c.in_ok-files.ensures.same t

pub returns-clause-moments : goal.returns-clause-moments
returns-clause-moments g c t =
    passes_again (g.D.Disk.meaning.history c.args.disk.now) (g.D.Disk.meaning.history c.list_files.new.disk) (g.D.Disk.meaning.history c.read_files.new.disk) (c.in_ok-files.ensures.same t) (c.in_ok-files.ensures.moments t) (c.read_files.ensures.moments t)
