use Rattle.std.proofs.Common.{◌∙◌, drop, map, ◌+◌, get_or}
use Rattle.je_lsn.specs.declared.file_no.FileNo.{FileNo}
use Rattle.log_replay.proofs.GapLaws.{next_item}
use Rattle.recovery_je.proofs.GapNotes.{gap_noted}
use Rattle.recovery_je.proofs.gap_checks.note_behind.Goals as goal

pub note_between-requires : goal.note_between-requires
note_between-requires c = (next_item c.loop-f.last.0 c.args.rest.now c.loop-f.f-index c.loop-f-test.true c.loop-f.invariant.0).0

pub loop-f-preserved : goal.loop-f-preserved
loop-f-preserved c =
    let item = next_item c.loop-f.last.0 c.args.rest.now c.loop-f.f-index c.loop-f-test.true c.loop-f.invariant.0 in (
      item.1,
      gap_noted c.loop-f.last.0 (get_or c.args.rest.now c.loop-f.f-index (record { 0 = 0 })).0 (map (λ (f : FileNo). f.0) (drop (c.loop-f.f-index + 1) c.args.rest.now)) (map (λ (f : FileNo). f.0) (drop c.loop-f.f-index c.args.rest.now))
          c.loop-f.findings c.note_between.new.findings item.2 c.in_ok-note_between.ensures
          ∙ c.loop-f.invariant.1,
    )
