use Rattle.std.proofs.Common.{subst, ap, map, arith}
use Rattle.std.specs.List.Sorted.{IsStrictlyIncreasing}
use Rattle.je_lsn.specs.declared.file_no.FileNo.{FileNo}
use Rattle.log_replay.proofs.GapLaws.{first_and_rest}
use Rattle.recovery_je.proofs.gaps.gap_between.Goals as goal

pub gap_behind-requires : goal.gap_behind-requires
gap_behind-requires c =
    subst IsStrictlyIncreasing (ap (map (λ (f : FileNo). f.0)) (first_and_rest c.args.files.now (omega (arith, c.in-len1-up.len_at_least)))) c.requires
