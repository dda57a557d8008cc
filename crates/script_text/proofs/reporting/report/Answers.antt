use Rattle.std.proofs.Common.{sym}
use Rattle.text_out.proofs.BufferedText.{all_sent, sent_whole, sent_part}
use Rattle.script_text.proofs.ReportLines.{last_line}
use Rattle.script_text.proofs.reporting.report.Goals as goal

pub returns-then-has_failed-clause-part : goal.returns-then-has_failed-clause-part
returns-then-has_failed-clause-part g c =
    sent_part (all_sent c.new-buffer.ensures.bytes c.new-buffer.ensures.failed c.put_events-commits.ensures.adds (last_line c.args.totals.now c.put_events-commits.ensures.commits c.put_end.ensures) c.flush.ensures.adds)

pub returns-then-has_failed-clause-never_falls : goal.returns-then-has_failed-clause-never_falls
returns-then-has_failed-clause-never_falls g c =
    let sent = all_sent c.new-buffer.ensures.bytes c.new-buffer.ensures.failed c.put_events-commits.ensures.adds (last_line c.args.totals.now c.put_events-commits.ensures.commits c.put_end.ensures) c.flush.ensures.adds in
    sent.never_falls

pub returns-then-has_failed-clause-cause : goal.returns-then-has_failed-clause-cause
returns-then-has_failed-clause-cause g c =
    let sent = all_sent c.new-buffer.ensures.bytes c.new-buffer.ensures.failed c.put_events-commits.ensures.adds (last_line c.args.totals.now c.put_events-commits.ensures.commits c.put_end.ensures) c.flush.ensures.adds in
    sent.cause (sym c.if-has_failed.ensures)

pub returns-else-has_failed-clause-observed : goal.returns-else-has_failed-clause-observed
returns-else-has_failed-clause-observed g c =
    let sent = all_sent c.new-buffer.ensures.bytes c.new-buffer.ensures.failed c.put_events-commits.ensures.adds (last_line c.args.totals.now c.put_events-commits.ensures.commits c.put_end.ensures) c.flush.ensures.adds in
    sent_whole sent c.flush.ensures.empty (sym c.if-has_failed.ensures)

pub returns-else-has_failed-clause-never_falls : goal.returns-else-has_failed-clause-never_falls
returns-else-has_failed-clause-never_falls g c =
    let sent = all_sent c.new-buffer.ensures.bytes c.new-buffer.ensures.failed c.put_events-commits.ensures.adds (last_line c.args.totals.now c.put_events-commits.ensures.commits c.put_end.ensures) c.flush.ensures.adds in
    sent.never_falls
