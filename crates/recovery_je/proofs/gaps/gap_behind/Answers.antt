use Rattle.std.proofs.Common.{◌∙◌, ap, sym, drop, map, ◌+◌, get_or, option_map}
use Rattle.je_lsn.specs.declared.file_no.FileNo.{FileNo}
use Rattle.log_replay.specs.Reading.{gap_behind}
use Rattle.log_replay.proofs.GapLaws.{next_item, gap_goes_on, gap_found}
use Rattle.recovery_je.proofs.gaps.gap_behind.Goals as goal

pub missing_between-requires : goal.missing_between-requires
missing_between-requires c = (next_item c.loop-f.last.0 c.args.rest.now c.loop-f.f-index c.loop-f-test.true c.loop-f.invariant.0).0

pub returns-in-Some : goal.returns-in-Some
returns-in-Some c =
    let item = next_item c.loop-f.last.0 c.args.rest.now c.loop-f.f-index c.loop-f-test.true c.loop-f.invariant.0 in
    gap_found c.loop-f.last.0 (get_or c.args.rest.now c.loop-f.f-index (record { 0 = 0 })).0 c.in-Some.missing.0 (map (λ (f : FileNo). f.0) (drop (c.loop-f.f-index + 1) c.args.rest.now))
    (option_map (λ (f : FileNo). f.0) c.missing_between.result) (ap (option_map (λ (f : FileNo). f.0)) c.in-Some.is) c.missing_between.ensures
    ∙ ap (gap_behind c.loop-f.last.0) (sym item.2) ∙ c.loop-f.invariant.1

pub loop-f-preserved : goal.loop-f-preserved
loop-f-preserved c =
    let item = next_item c.loop-f.last.0 c.args.rest.now c.loop-f.f-index c.loop-f-test.true c.loop-f.invariant.0 in (
      item.1,
      gap_goes_on c.loop-f.last.0 (get_or c.args.rest.now c.loop-f.f-index (record { 0 = 0 })).0 (map (λ (f : FileNo). f.0) (drop (c.loop-f.f-index + 1) c.args.rest.now))
          (option_map (λ (f : FileNo). f.0) c.missing_between.result) (ap (option_map (λ (f : FileNo). f.0)) c.in_default.is) c.missing_between.ensures
          ∙ ap (gap_behind c.loop-f.last.0) (sym item.2) ∙ c.loop-f.invariant.1,
    )
