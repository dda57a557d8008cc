-- Opening an environment.
use Rattle.std.specs.List.{AllByRecursion}
use Rattle.std.specs.Prelude.{◌^◌, ℕ, ◌≡◌, ◌≤◌, ◌<◌, ◌⊎◌, ◌==◌, ◌+◌, nat_lt, ◌∷◌, [], ◌++◌, take, map, max, Bool, true, false, Option, IsSome, None, Some, Ok, option_map, List, if◌then◌else◌}
use Rattle.recovery_je.specs.declared.recover_err.RecoverErr.{RecoverErr}
use Rattle.recovery_je.specs.declared.recover_err.RecoverErr.TheVariants.{Disk as NoDisk, Memory as NoMemory, Corrupt, WrongIndex as WrongIndexRead}
use Rattle.je_order.specs.Counts.{HasRisen}
use Rattle.je_disk.specs.States.{State, Files, IsEither, cut, put_at, synced}
use Rattle.store_model.specs.declared.store.Store.{Store}
use Rattle.store_model.specs.Store.{database_of}
use Rattle.je_answers.specs.Standing.{Standing}
use Rattle.je_answers.specs.Alone.{Alone, alone}
use Rattle.log_file.specs.Log.{Log, IsLog, AreFiles, log_in}
use Rattle.log_buffer.specs.declared.buffer.LogBuffer.{LogBuffer}
use Rattle.log_buffer.specs.declared.log_pos.LogPos.{LogPos}
use Rattle.checkpointer.specs.declared.checkpointer.Checkpointer.{Checkpointer}
use Rattle.log_buffer.specs.Buffer.{end_of}
use Rattle.log_buffer.specs.Flip.{header_size, pos_lsn}
use Rattle.log_buffer.specs.Log.{EndsAt, ReadAs, ReadAsBut}
use Rattle.log_replay.specs.Logging.{number_named}
use Rattle.log_replay.specs.declared.last_file.LastFile.{LastFile}
use Rattle.log_trees.specs.Placed.{placed}
use Rattle.log_meaning.specs.Checkpoint.{restarted}
use Rattle.log_meaning.specs.Meaning.{Meaning, rows_of}
use Rattle.log_meaning.specs.Reading.{reading_of}
use Rattle.db_names.specs.declared.db_names.DbNames.{DbNames}
use Rattle.index_map.specs.declared.index_map.IndexMap.{IndexMap}
use Rattle.recovery_je.specs.Answer.{HasFiles, IsRecoveredFrom}
use Rattle.recovery_je.specs.Indexing.{IsIndexCheck}
use Rattle.recovery_je.specs.Putting.{HasReadAgain, count_redone}
use Rattle.recovery_je.specs.declared.recovered.Recovered.{Recovered}
use Rattle.in_tree.specs.declared.trees.Trees.{Trees}
use Rattle.tree_images.specs.Forest.{ForestFits}
use Rattle.in_tree.specs.Growing.{trees_at}
use Rattle.in_tree.specs.LoadedFits.{fits_within, formed_within, nodes_within, read_within}
use Rattle.in_tree.specs.Observed.{cells_of, has_tree_of, last_node_of, trees_of, waits_of}
use Rattle.in_tree.specs.Stored.{committed_cell}
use Rattle.in_tree.specs.Whole.{has_tree_in, last_number_of, stored_within, waits_within}
use Rattle.engine.specs.declared.open_err.OpenErr.{OpenErr}
use Rattle.engine.specs.declared.open_err.OpenErr.TheVariants.{Disk, Unreadable, WrongIndex, Memory, IdsEnded}
use Rattle.engine.specs.Files.{HasCorruption, HasWrongIndex, end_file_in}
use Rattle.engine.specs.Limits.{Reach, last_number, numbers_for, waiting_for}
use Rattle.engine.specs.declared.engine.Engine.{Engine}
use Rattle.engine.specs.declared.kept.Kept.{Kept}

-- the error that a failed recovery gives
abbrev pub error_of_recovery : RecoverErr → OpenErr
error_of_recovery NoDisk = Disk
error_of_recovery NoMemory = Memory
error_of_recovery (Corrupt corruption) = Unreadable corruption
error_of_recovery (WrongIndexRead name) = WrongIndex name

-- how many entries of files count for the nodes that opening them makes, and that wait then for their images: those from the redo LSN of the
-- last checkpoint on; all, where there is no checkpoint, or one of them is a delta
abbrev pub redone_in : List (ℕ × List ℕ) → ℕ
redone_in held = count_redone (placed (log_in held))

-- no node's number is above this one once the files are opened: each entry that is redone may have allocated some, and so may the catalog
abbrev pub node_bound : List (ℕ × List ℕ) → Meaning → ℕ
node_bound held meaning = meaning.last_node + numbers_for (redone_in held + 1)

-- how far the log of files and its trees reach at most once they are opened
abbrev pub reach_in : List (ℕ × List ℕ) → Meaning → Reach
reach_in held meaning = record { file = end_file_in held + waiting_for (redone_in held); node = node_bound held meaning }

-- the files can be opened, but their nodes' numbers may pass the last one
pub record HasNoNumbers (files : Files) : Type 0 where
  pub held : List (ℕ × List ℕ)
  pub are : AreFiles files held
  pub meaning : Meaning
  pub reads : reading_of held ≡ Ok meaning
  pub indexed : IsIndexCheck meaning.store None
  pub past : last_number < node_bound held meaning

-- why opening stopped: the disk failed, the files at entry cannot be opened, an index of theirs is wrong, no number of a node is left, or there was no memory
abbrev pub StopsBy : Bool → Files → ℕ → ℕ → OpenErr → Type 0
StopsBy observable files before after Disk = HasRisen before after
StopsBy observable files before after (Unreadable corruption) = observable ≡ true → HasCorruption files corruption
StopsBy observable files before after (WrongIndex name) = observable ≡ true → HasWrongIndex files name
StopsBy observable files before after IdsEnded = observable ≡ true → HasNoNumbers files
StopsBy observable files before after Memory = Unit {0}

-- what was read means this
abbrev pub meaning_read : Recovered Trees → Meaning
meaning_read r = record { store = r.opening; last_txn = r.last_txn; last_node = r.last_node; last_db = r.last_db; checkpoint = r.checkpoint }

-- the log of a disk with these files was read
abbrev pub WasRead : Bool → Files → Recovered Trees → Type 0
WasRead observable reads r = HasFiles observable reads (IsRecoveredFrom (meaning_read r) (has_tree_in r.trees) (stored_within r.trees) r.databases r.records r.redone r.tail
    (HasReadAgain formed_within nodes_within read_within stored_within last_number_of fits_within r.trees r.redo))

-- the trees that were made fit the log, where no LSN of it is of the life that begins
abbrev pub FitFound : Recovered Trees → List (ℕ × List ℕ) → Type 0
FitFound r held =
    (base : ℕ) → base < 2 ^ 64 → AllByRecursion (λ p. p.0 < base) (placed (log_in held)) → ForestFits (placed (log_in held)) base (last_number_of r.trees) (trees_at r.trees.forest)

-- so it is of whatever log was read
abbrev pub FitWhatWasRead : Recovered Trees → Type 0
FitWhatWasRead r = (observable : Bool) (reads : Files) (w : WasRead observable reads r) → FitFound r w.held

-- what follows the valid prefix of the last file was cut off
abbrev pub HasTornTailCut : Files → Files → Option LastFile → Type 0
HasTornTailCut before after None = (g : ℕ) → after g ≡ before g
HasTornTailCut before after (Some last) =
    (g : ℕ) → after g ≡ (if nat_lt last.end last.len then put_at before last.file.0 (option_map (take last.end) (before last.file.0)) g else before g)

-- the rest of the last file cut off
abbrev pub cut_off : Option LastFile → State → State
cut_off None s = s
cut_off (Some last) s = if nat_lt last.end last.len then cut last.file.0 last.end s else s

-- while a log is settled: nothing was done, what follows the last file's valid prefix was cut off, or all of that is stable
abbrev pub IsSettling : Option LastFile → State → State → Type 0
IsSettling tail before s = IsEither before (cut_off tail before) s ⊎ (s ≡ synced (cut_off tail before))

-- where a log begins to grow that ends in this file: behind its valid prefix, or behind the header that it gets
abbrev pub log_start_of : Option LastFile → LogPos
log_start_of None = record { file = 0; offset = header_size }
log_start_of (Some last) = record { file = last.file.0; offset = if last.end == 0 then header_size else last.end }

-- the log that is gone on from: the files are this log's, or all but the last, which has no header yet
abbrev pub StartsLog : Bool → Files → Option LastFile → Log → Type 0
StartsLog observable reads None log = (log ≡ (0, []) ∷ []) × ReadAsBut observable 0 reads []
StartsLog observable reads (Some last) log =
    IsLog log × EndsAt log last.file.0 (log_start_of (Some last)).offset last.last
    × (0 < last.end → ReadAs observable reads log)
    × (last.end ≡ 0 → (before : Log) × (log ≡ before ++ (last.file.0, []) ∷ []) × ReadAsBut observable last.file.0 reads before)

-- numbers of databases: 0 where the store has none of that name; else allocated before, and no two alike
pub record AreNumbers (store : Store) (last_db : ℕ) (numbers : List ℕ → ℕ) : Type 0 where
  pub none : (name : List ℕ) → database_of name store ≡ None → numbers name ≡ 0
  pub allocated : (name : List ℕ) → IsSome (database_of name store) → (0 < numbers name) × (numbers name ≤ last_db)
  pub apart : (name other : List ℕ) → IsSome (database_of name store) → numbers name ≡ numbers other → name ≡ other

-- where the model stands when an environment with these files was opened: at what the files mean that were read, which are the disk's if it
-- is observable, each database with the number that their catalog gives it; nothing is under way
pub record StartsAt (observable : Bool) (files : Files) (opening : Store) (st : Standing) : Type 0 where
  pub alone_at : Alone
  pub st_is : st ≡ alone alone_at
  pub store : alone_at.store ≡ opening
  pub commits : alone_at.commits ≡ 0
  pub begun : alone_at.begun ≡ None
  pub fault : alone_at.fault ≡ None
  pub checkpoint : alone_at.in_checkpoint ≡ false
  pub numbers : AreNumbers opening alone_at.last_db alone_at.numbers
  pub held : List (ℕ × List ℕ)
  pub observed : observable ≡ true → AreFiles files held
  pub named : (name : List ℕ) → alone_at.numbers name ≡ number_named (rows_of (restarted (placed (log_in held)))) name
  pub meaning : Meaning
  pub means : reading_of held ≡ Ok meaning
  pub means_store : meaning.store ≡ opening
  pub indexed : IsIndexCheck opening None
  pub means_txn : meaning.last_txn ≡ alone_at.last_txn
  pub means_db : meaning.last_db ≡ alone_at.last_db
  pub nodes : node_bound held meaning ≤ last_number

-- from where on a redo may begin then: from the log's end on, and not before the redo LSN of the last checkpoint
abbrev pub since_at : LogPos → Recovered Trees → ℕ
since_at end r = max (pos_lsn end) r.redo

-- what an environment keeps beside its trees as it begins, with these checkpoints, indexes and names, where no node's number is above this one and the log ends here
abbrev pub kept_at_start : Recovered Trees → ℕ → LogPos → Checkpointer → IndexMap → DbNames → Kept
kept_at_start r last_node end checkpoints indexes names = record {
  totals = record { databases = r.databases; records = r.records };
  last_txn = r.last_txn;
  last_db = r.last_db;
  last_node = last_node;
  commits = 0;
  fault = None;
  since = since_at end r;
  checkpoints = checkpoints;
  indexes = indexes;
  names = names;
}

-- an environment begins over its log, with what was read
pub record HasBegun {D : Type 0} (log : LogBuffer D) (r : Recovered Trees) (last_node : ℕ) (engine : Engine D) : Type 0 where
  pub log_is : engine.trees.log ≡ log
  pub cells : (db : ℕ) → cells_of engine.trees db ≡ map committed_cell (stored_within r.trees db)
  pub trees : (db : ℕ) → has_tree_of engine.trees db ≡ has_tree_in r.trees db
  pub waits : waits_of engine.trees ≤ waits_within r.trees
  pub kept : engine.kept ≡ kept_at_start r last_node (end_of log) engine.kept.checkpoints engine.kept.indexes engine.kept.names
  pub last_checkpoint : engine.kept.checkpoints.last ≡ r.checkpoint
  pub none_begun : engine.kept.checkpoints.under_way ≡ None
  pub forest : (db : ℕ) → trees_of engine.trees db ≡ trees_at r.trees.forest db
  pub last : last_node_of engine.trees ≡ last_number_of r.trees
