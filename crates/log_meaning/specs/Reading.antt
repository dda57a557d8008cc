-- Reading the files of a log: what their entries mean together, or what is wrong, in the order of reading. The files come first, in order; then
-- the trees of the last checkpoint's roots; then the files from its redo LSN on; then the records that are left.
use Rattle.std.specs.Prelude.{ℕ, ◌/◌, ◌^◌, ◌==◌, nat_le, nat_lt, if◌then◌else◌, List, [], ◌∷◌, Option, None, Some, Result, Ok, Err, map, filter, option_map}
use Rattle.log_file.specs.Log.{log_in}
use Rattle.log_replay.specs.declared.corruption.Corruption.{Corruption}
use Rattle.log_replay.specs.declared.corruption.Corruption.TheVariants.{Missing, Tree}
use Rattle.log_replay.specs.Reading.{lsn_at, corruption_in, gap_behind, gap_in}
use Rattle.log_trees.specs.Placed.{Placed, placed}
use Rattle.log_trees.specs.Walk.{and_then, Walk, nowhere, read_roots}
use Rattle.log_meaning.specs.Redo.{redone}
use Rattle.log_meaning.specs.Checkpoint.{Checkpoint, last_end, last_checkpoint, behind}
use Rattle.log_meaning.specs.Meaning.{Meaning, meaning_of, wrong_lsn}

-- ---- the files from the redo LSN on

-- the first number from this one on that is not among these, which rise
abbrev pub gap_at : ℕ → List ℕ → Option ℕ
gap_at f [] = None
gap_at f (n ∷ ns) = if n == f then gap_behind f ns else Some f

-- the first missing number from one on
abbrev pub gap_from : ℕ → List ℕ → Option ℕ
gap_from f numbers = gap_at f (filter (λ n. nat_le f n) numbers)

-- the file of this number is missing, if there is one
abbrev pub missing : Option ℕ → Option Corruption
missing gap = option_map (λ n. Missing (lsn_at n 0)) gap

-- what is wrong with the redo LSN: like each LSN it is lower than the entry that names it, and each file from its own to the last is there;
-- without a checkpoint, each from the first one on
abbrev pub redo_corruption : List ℕ → Option Checkpoint → Option Corruption
redo_corruption files None = missing (gap_in files)
redo_corruption files (Some c) = if nat_lt c.redo c.at then missing (gap_from (c.redo / 2 ^ 32) files) else Some (nowhere files c.redo)

-- ---- the whole

-- a result behind a place where something may be wrong
abbrev pub unless : {A : Type 0} → Option Corruption → Result A Corruption → Result A Corruption
unless None result = result
unless (Some corruption) result = Err corruption

-- what the log means, or the first record that breaks a rule
abbrev pub validated_by : List Placed → Checkpoint → Walk → Option ℕ → Result Meaning Corruption
validated_by es c walk None = Ok (meaning_of es c walk)
validated_by es c walk (Some lsn) = Err (Tree lsn)

-- what entries mean behind the trees that were read, if their records are those of an environment
abbrev pub validated : List Placed → Checkpoint → Walk → Result Meaning Corruption
validated es c walk = validated_by es c walk (wrong_lsn (behind walk.rows (redone c.redo es)))

-- what the entries of files of these numbers mean
abbrev pub meaning_in : List ℕ → List Placed → Result Meaning Corruption
meaning_in files es =
    and_then (read_roots files es (last_checkpoint es).at (last_checkpoint es).roots) (λ walk. unless (redo_corruption files (last_end es)) (validated es (last_checkpoint es) walk))

-- what files mean, or the first corruption in the order of reading
abbrev pub reading_of : List (ℕ × List ℕ) → Result Meaning Corruption
reading_of held = unless (corruption_in held) (meaning_in (map (λ file. file.0) held) (placed (log_in held)))
