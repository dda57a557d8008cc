-- What is printed of a check.
use Rattle.std.specs.Prelude.{ℕ, zero, suc, ◌+◌, ◌-◌, ◌==◌, ◌∷◌, ◌++◌, [], codes, decimal, length, if◌then◌else◌, List}
use Rattle.std.specs.List.{flat_map}
use Rattle.je_lsn.specs.Naming.{name_of}
use Rattle.je_lsn.specs.declared.file_no.FileNo.{FileNo}
use Rattle.text_out.specs.Lsn.{lsn_text}
use Rattle.log_file.specs.Placed.{lsn_at}
use Rattle.log_replay.specs.declared.corruption.Corruption.{Corruption}
use Rattle.log_replay.specs.declared.corruption.Corruption.TheVariants.{Damaged, Missing, Tree, VersionUnknown}
use Rattle.check_laws.specs.declared.checked.Checked.{Checked}
use Rattle.check_laws.specs.declared.database_count.DatabaseCount.{DatabaseCount}
use Rattle.check_laws.specs.declared.file_run.FileRun.{FileRun}
use Rattle.check_laws.specs.declared.finding.Finding.{Finding}
use Rattle.check_laws.specs.declared.finding.Finding.TheVariants.{Wrong, Gap, Index}

-- the line of a file: its name, how many entries it has and where they end
abbrev pub file_line : FileRun → List ℕ
file_line run = codes "file " ++ name_of run.file.0 ++ codes " entries " ++ decimal run.entries ++ codes " bytes " ++ decimal run.end ++ codes "\n"

-- the line of a database: its name and how many records it has
abbrev pub database_line : DatabaseCount → List ℕ
database_line database = codes "database " ++ database.name ++ codes " records " ++ decimal database.records ++ codes "\n"

-- ---- findings

-- a word and a place
abbrev pub place_line : List ℕ → ℕ → List ℕ
place_line word at = word ++ lsn_text at ++ codes "\n"

-- a file that is of another version
abbrev pub version_line : FileNo → ℕ → List ℕ
version_line file version = codes "version " ++ name_of file.0 ++ codes " " ++ decimal version ++ codes "\n"

-- the line of a corruption
abbrev pub wrong_line : Corruption → List ℕ
wrong_line (Damaged at) = place_line (codes "damaged ") at
wrong_line (Missing at) = place_line (codes "missing ") at
wrong_line (Tree at) = place_line (codes "tree ") at
wrong_line (VersionUnknown file version) = version_line file version

-- a line for each of so many files that are missing, from this number on
abbrev pub gap_lines : ℕ → ℕ → List ℕ
gap_lines first zero = []
gap_lines first (suc more) = place_line (codes "missing ") (lsn_at first 0) ++ gap_lines (first + 1) more

-- an index without its pairs
abbrev pub index_line : List ℕ → List ℕ
index_line name = codes "index " ++ name ++ codes "\n"

-- the lines of a finding
abbrev pub finding_lines : Finding → List ℕ
finding_lines (Wrong corruption) = wrong_line corruption
finding_lines (Gap first past) = gap_lines first.0 (past.0 - first.0)
finding_lines (Index name) = index_line name

-- how many lines these are
abbrev pub count_lines : Finding → ℕ
count_lines (Wrong corruption) = 1
count_lines (Gap first past) = past.0 - first.0
count_lines (Index name) = 1

-- how many lines all findings have
abbrev pub count_all_lines : List Finding → ℕ
count_all_lines [] = 0
count_all_lines (finding ∷ findings) = count_lines finding + count_all_lines findings

-- the last line: that nothing was found, or how many findings there are
abbrev pub verdict_line : List Finding → List ℕ
verdict_line findings = if length findings == 0 then codes "verify ok\n" else codes "verify findings " ++ decimal (count_all_lines findings) ++ codes "\n"

-- ---- the whole

-- what is printed of a check: its files, its databases, its findings, and the last line
abbrev pub check_text : Checked → List ℕ
check_text checked = flat_map file_line checked.files ++ flat_map database_line checked.databases ++ flat_map finding_lines checked.findings ++ verdict_line checked.findings
