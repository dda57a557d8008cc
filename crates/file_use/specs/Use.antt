-- How much of a log is live.
use Rattle.std.specs.Prelude.{ℕ, List, map, length}
use Rattle.store_model.specs.Store.{record_count}
use Rattle.log_file.specs.Log.{log_in}
use Rattle.log_trees.specs.Placed.{Placed, placed}
use Rattle.log_meaning.specs.Checkpoint.{last_checkpoint, restarted}
use Rattle.log_meaning.specs.Meaning.{Meaning}
use Rattle.file_use.specs.declared.file_use.FileUse.{FileUse}
use Rattle.file_use.specs.declared.log_use.LogUse.{LogUse}
use Rattle.file_use.specs.Live.{is_in_catalog, is_record_from, images_in_use, is_one_of, live_in}

-- the bytes of file f that are live in a log of these entries
abbrev pub live_bytes : List Placed → ℕ → ℕ
live_bytes es f =
    live_in (is_record_from (restarted es)) (is_one_of (images_in_use (is_in_catalog (restarted es)) es (last_checkpoint es).roots)) es f

-- how much of a file is live in a log of these entries
abbrev pub use_of_file : List Placed → ℕ × List ℕ → FileUse
use_of_file es file = record { file = record { 0 = file.0 }; total = length file.1; live = live_bytes es file.0 }

-- how much of a log is live whose files are these and mean this
abbrev pub use_of : Meaning → List (ℕ × List ℕ) → LogUse
use_of meaning held = record {
  files = map (use_of_file (placed (log_in held))) held;
  databases = length meaning.store.databases;
  records = record_count meaning.store;
  last_txn = meaning.last_txn;
}
