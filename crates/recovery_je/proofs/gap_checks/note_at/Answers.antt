use Rattle.std.proofs.Common.{subst, ap, map, arith}
use Rattle.std.specs.List.Sorted.{IsStrictlyIncreasing}
use Rattle.je_lsn.specs.declared.file_no.FileNo.{FileNo}
use Rattle.log_replay.proofs.GapLaws.{first_and_rest}
use Rattle.recovery_je.proofs.gap_checks.note_at.Goals as goal

pub note_behind-requires : goal.note_behind-requires
note_behind-requires c =
    subst IsStrictlyIncreasing (ap (map (λ (f : FileNo). f.0)) (first_and_rest c.args.files.now (omega (arith, c.in-len1-up.len_at_least)))) c.requires
