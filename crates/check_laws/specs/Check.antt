-- What a check of files comes to: all that is wrong, in the order of reading, and what was read where that was left out. The files come first, in
-- order; then the trees of the last checkpoint's roots; then the files from its redo LSN on; then the records that are left, and the indexes.
use Rattle.std.specs.Prelude.{◌≡◌, ℕ, ◌+◌, ◌/◌, ◌^◌, ◌==◌, nat_le, nat_lt, if◌then◌else◌, List, [], ◌∷◌, ◌++◌, Option, None, Some, Result, Ok, Err, map, filter, length}
use Rattle.std.specs.List.{flat_map}
use Rattle.je_order.specs.declared.name.Name.{Name}
use Rattle.store_model.specs.declared.store.Database.{Database}
use Rattle.log_file.specs.declared.file_scan.FileScan.{FileScan}
use Rattle.log_file.specs.declared.file_scan.FileScan.TheVariants.{Prefix}
use Rattle.log_file.specs.Log.{log_in}
use Rattle.log_file.specs.Scan.{scan_of}
use Rattle.log_replay.specs.declared.corruption.Corruption.{Corruption}
use Rattle.log_replay.specs.declared.corruption.Corruption.TheVariants.{Missing, Tree}
use Rattle.log_replay.specs.Indexed.{wrong_index}
use Rattle.log_replay.specs.Reading.{corruption_in, lsn_at}
use Rattle.log_replay.specs.Rows.{Row, Rows, catalog_number}
use Rattle.log_trees.specs.Placed.{Placed, placed}
use Rattle.log_trees.specs.Walk.{nowhere}
use Rattle.log_meaning.specs.Redo.{Redo, record_at, redone}
use Rattle.log_meaning.specs.Checkpoint.{Checkpoint, behind, last_checkpoint, last_end}
use Rattle.log_meaning.specs.Meaning.{Meaning, lsn_there, meaning_of, rows_of}
use Rattle.log_meaning.specs.Reading.{reading_of}
use Rattle.check_laws.specs.declared.checked.Checked.{Checked}
use Rattle.check_laws.specs.declared.database_count.DatabaseCount.{DatabaseCount}
use Rattle.check_laws.specs.declared.file_run.FileRun.{FileRun}
use Rattle.check_laws.specs.declared.finding.Finding.{Finding}
use Rattle.check_laws.specs.declared.finding.Finding.TheVariants.{Wrong, Gap, Index as WrongIndex}
use Rattle.check_laws.specs.Noting.{unless_found}
use Rattle.check_laws.specs.Trees.{NotedTrees, check_roots}
use Rattle.check_laws.specs.Parts.{gaps_behind, gaps_in, wrong_databases, wrongs_in, wrongs_in_catalog}
use Rattle.check_laws.specs.Rest.{catalog_left, rows_left, wrong_indexes}

-- ---- the files

-- how many entries a file has, its header among them
abbrev pub count_scanned : FileScan → ℕ
count_scanned (Prefix prefix) = if prefix.end == 0 then 0 else length prefix.entries + 1
count_scanned found = 0

-- where they end
abbrev pub end_scanned : FileScan → ℕ
end_scanned (Prefix prefix) = prefix.end
end_scanned found = 0

-- how much of a file is valid
abbrev pub file_run : ℕ × List ℕ → FileRun
file_run file = record { file = record { 0 = file.0 }; entries = count_scanned (scan_of file.0 file.1); end = end_scanned (scan_of file.0 file.1) }

-- ---- the files from the redo LSN on

-- the gaps from this number on between rising numbers, from it to the first of them too
abbrev pub gaps_at : ℕ → List ℕ → List (ℕ × ℕ)
gaps_at f [] = []
gaps_at f (n ∷ ns) = if n == f then gaps_behind f ns else (f, n) ∷ gaps_behind n ns

-- a gap as a finding
abbrev pub gap_finding : ℕ × ℕ → Finding
gap_finding gap = Gap (record { 0 = gap.0 }) (record { 0 = gap.1 })

-- what is wrong with the redo LSN: each gap in the files from its own to the last, or the LSN itself; without a checkpoint each gap in the files
abbrev pub redo_findings : List ℕ → Option Checkpoint → List Finding
redo_findings files None = map gap_finding (gaps_in files)
redo_findings files (Some c) =
    if nat_lt c.redo c.at then map gap_finding (gaps_at (c.redo / 2 ^ 32) (filter (λ n. nat_le (c.redo / 2 ^ 32) n) files)) else Wrong (nowhere files c.redo) ∷ []

-- ---- the records

-- a record that is wrong: where it was put
abbrev pub finding_at : Redo → ℕ → Name → Finding
finding_at redo d x = Wrong (Tree (lsn_there (record_at redo d x)))

-- the records of the catalog that are wrong
abbrev pub catalog_findings : Redo → List Finding
catalog_findings redo = map (finding_at redo 0) (wrongs_in_catalog (rows_of redo 0) [] (rows_of redo 0))

-- those of the databases that it keeps, by the databases' numbers
abbrev pub database_findings : Redo → List Finding
database_findings redo =
    flat_map (λ d. map (finding_at redo d.number) (wrongs_in d.kind (rows_of redo d.number))) (wrong_databases (rows_of redo) (catalog_left (rows_of redo)))

-- all of these
abbrev pub record_findings : Redo → List Finding
record_findings redo = catalog_findings redo ++ database_findings redo

-- the indexes without their pairs
abbrev pub index_findings : Rows → List Finding
index_findings rows = map WrongIndex (wrong_indexes rows)

-- ---- the whole

-- the trees of the last checkpoint's roots
abbrev pub trees_checked : List ℕ → List Placed → NotedTrees
trees_checked files es = check_roots files es (last_checkpoint es).at (last_checkpoint es).roots

-- the log read again over the trees as a check has read them
abbrev pub redo_checked : List ℕ → List Placed → Redo
redo_checked files es = behind (trees_checked files es).walk.rows (redone (last_checkpoint es).redo es)

-- all that is wrong with the entries of files of these numbers
abbrev pub findings_in : List ℕ → List Placed → List Finding
findings_in files es =
    map Wrong (trees_checked files es).found
    ++ (redo_findings files (last_end es) ++ (record_findings (redo_checked files es) ++ index_findings (rows_left (rows_of (redo_checked files es)))))

-- a database that is left, with how many records
abbrev pub count_left : Rows → Row → DatabaseCount
count_left rows row = record { name = row.0.key; records = length (rows (catalog_number row.1)) }

-- each database that is left, by name
abbrev pub counts_left : Rows → List DatabaseCount
counts_left rows = map (count_left rows) (rows 0)

-- what a check of files comes to that can each be read
abbrev pub check_of : List (ℕ × List ℕ) → Checked
check_of held = record {
  files = map file_run held;
  databases = counts_left (rows_left (rows_of (redo_checked (map (λ file. file.0) held) (placed (log_in held)))));
  findings = findings_in (map (λ file. file.0) held) (placed (log_in held));
}

-- ---- beside opening

-- what files mean, or the first that is wrong: a corruption in the order of reading, else an index by its name
abbrev pub unless_wrong_index : Meaning → Option (List ℕ) → Result Meaning Finding
unless_wrong_index meaning None = Ok meaning
unless_wrong_index meaning (Some name) = Err (WrongIndex name)

abbrev pub as_opened : Result Meaning Corruption → Result Meaning Finding
as_opened (Ok meaning) = unless_wrong_index meaning (wrong_index meaning.store)
as_opened (Err corruption) = Err (Wrong corruption)

-- what opening answers for a finding: of a gap the first file that is missing
abbrev pub as_answered : Finding → Finding
as_answered (Gap first past) = Wrong (Missing (lsn_at first.0 0))
as_answered finding = finding

-- what a check has read
abbrev pub meaning_checked : List ℕ → List Placed → Meaning
meaning_checked files es = meaning_of es (last_checkpoint es) (trees_checked files es).walk

abbrev pub count_of_database : Database → DatabaseCount
count_of_database database = record { name = database.name; records = length database.pairs }

-- the first finding of a check of files is what opening answers, and where there is none the check has read what they mean, and has counted that
pub record BeginsAsOpening (held : List (ℕ × List ℕ)) : Type 0 where
  pub first : unless_found (meaning_checked (map (λ file. file.0) held) (placed (log_in held))) (map as_answered (check_of held).findings) ≡ as_opened (reading_of held)
  pub counted : (meaning : Meaning) → (check_of held).findings ≡ [] → reading_of held ≡ Ok meaning → (check_of held).databases ≡ map count_of_database meaning.store.databases

abbrev pub ChecksBeginAsOpening : Type 0
ChecksBeginAsOpening = (held : List (ℕ × List ℕ)) → corruption_in held ≡ None → BeginsAsOpening held
