-- What is printed of a log's use.
use Rattle.std.specs.Prelude.{ℕ, ◌*◌, ◌/◌, ◌==◌, ◌++◌, codes, decimal, length, sum_by, if◌then◌else◌, List}
use Rattle.std.specs.List.{flat_map}
use Rattle.je_lsn.specs.Naming.{name_of}
use Rattle.file_use.specs.declared.file_use.FileUse.{FileUse}
use Rattle.file_use.specs.declared.log_use.LogUse.{LogUse}

-- the bytes of all files
abbrev pub total_of : List FileUse → ℕ
total_of files = sum_by (λ file. file.total) files

-- the live bytes of all files
abbrev pub live_of : List FileUse → ℕ
live_of files = sum_by (λ file. file.live) files

-- the line of all files
abbrev pub files_line : List FileUse → List ℕ
files_line files = codes "files " ++ decimal (length files) ++ codes " bytes " ++ decimal (total_of files) ++ codes " live " ++ decimal (live_of files) ++ codes "\n"

-- how many in a hundred of its bytes are live, rounded down; 0 of no bytes
abbrev pub utilization : FileUse → ℕ
utilization file = if file.total == 0 then 0 else file.live * 100 / file.total

-- the line of a file
abbrev pub file_use_line : FileUse → List ℕ
file_use_line file =
    codes "file " ++ name_of file.file.0 ++ codes " total " ++ decimal file.total ++ codes " live " ++ decimal file.live ++ codes " util " ++ decimal (utilization file) ++ codes "\n"

-- the line of the databases and their records
abbrev pub records_line : LogUse → List ℕ
records_line used = codes "databases " ++ decimal used.databases ++ codes " records " ++ decimal used.records ++ codes "\n"

-- the line of the last transaction
abbrev pub last_txn_line : ℕ → List ℕ
last_txn_line txn = codes "last txn " ++ decimal txn ++ codes "\n"

-- what is printed of a log's use
abbrev pub use_text : LogUse → List ℕ
use_text used = files_line used.files ++ flat_map file_use_line used.files ++ records_line used ++ last_txn_line used.last_txn
