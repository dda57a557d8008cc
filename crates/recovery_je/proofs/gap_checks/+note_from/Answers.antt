use Rattle.std.proofs.Common.{◌≡◌, ◌∷◌, ◌-◌, subst, ap, map, take, drop, length, get_or, arith}
use Rattle.std.specs.List.Sorted.{IsStrictlyIncreasing}
use Rattle.je_lsn.specs.declared.file_no.FileNo.{FileNo}
use Rattle.log_replay.proofs.GapLaws.{first_and_rest}
use Rattle.recovery_je.proofs.FileGaps.{tail_rises}
use Rattle.recovery_je.proofs.GapNotes.{noted_here}
use Rattle.recovery_je.proofs.TreeCheckLaws.{ok_so}
use Rattle.recovery_je.proofs.gap_checks.+note_from.Goals as goal

pub note_from-requires : goal.note_from-requires
note_from-requires t c =
    let files = c.args.files.now in
    let n = (get_or files 0 (record { 0 = 0 })).0 in
    let rest = map (λ (f : FileNo). f.0) (take (length files - 1) (drop 1 files)) in
    let first : files ≡ get_or files 0 (record { 0 = 0 }) ∷ take (length files - 1) (drop 1 files) = first_and_rest files (omega (arith, c.in-len1-up.len_at_least)) in
    let is : map (λ (f : FileNo). f.0) files ≡ n ∷ rest = ap (map (λ (f : FileNo). f.0)) first in
    (omega (arith, ap length first), tail_rises n rest (subst IsStrictlyIncreasing is c.requires))

pub returns-else-f-first : goal.returns-else-f-first
returns-else-f-first t c =
    let files = c.args.files.now in
    let n = (get_or files 0 (record { 0 = 0 })).0 in
    let rest = map (λ (f : FileNo). f.0) (take (length files - 1) (drop 1 files)) in
    let first : files ≡ get_or files 0 (record { 0 = 0 }) ∷ take (length files - 1) (drop 1 files) = first_and_rest files (omega (arith, c.in-len1-up.len_at_least)) in
    let is : map (λ (f : FileNo). f.0) files ≡ n ∷ rest = ap (map (λ (f : FileNo). f.0)) first in
    ok_so c.note_at.result (noted_here c.args.first.0 n rest (map (λ (f : FileNo). f.0) files) c.args.findings.now c.note_at.new.findings is c.if-f-first.false (subst IsStrictlyIncreasing is c.requires)) c.note_at.ensures
