-- The history of a disk in memory: its record of changes, played from an empty disk.
use Rattle.std.specs.Prelude.{ℕ, Option, List, [], ◌∷◌, length, take, map, Vec}
use Rattle.std.specs.declared.alloc.Global.{Global}
use Rattle.std.specs.Option.{option_map}
use Rattle.std.specs.Ordering.{nat_cmp}
use Rattle.std.specs.BTreeMap.{BTreeMap, get}
use Rattle.je_lsn.specs.declared.file_no.FileNo.{FileNo}
use Rattle.je_disk.specs.States.{State, Files, content, nothing, created, appended, cut, removed, synced, job_begun, job_ended}
use Rattle.je_disk.specs.Moments.{History}
use Rattle.mem_disk.specs.declared.change.Change.{Change}
use Rattle.mem_disk.specs.declared.change.Change.TheVariants.{Create, Append, Cut, Remove, Sync, BeginSync, EndSync}

-- the state after one change
abbrev pub state_changed : Change → State → State
state_changed (Create f) s = created f.0 s
state_changed (Append f bytes) s = appended f.0 bytes s
state_changed (Cut f len) s = cut f.0 len s
state_changed (Remove f) s = removed f.0 s
state_changed Sync s = synced s
state_changed BeginSync s = job_begun s
state_changed EndSync s = job_ended s

-- the state after some changes
abbrev pub replay_from : State → List Change → State
replay_from s [] = s
replay_from s (change ∷ rest) = replay_from (state_changed change s) rest

-- the state after some changes of an empty disk
abbrev pub replay : List Change → State
replay changes = replay_from nothing changes

-- each change is a moment, and the empty disk was at moment 0
abbrev pub history_of : List Change → History
history_of changes = record { moment = length changes; state_at = λ k. replay (take k changes) }

-- a file in the map of files
abbrev pub read_at : BTreeMap ℕ (Vec ℕ Global) → ℕ → Option (List ℕ)
read_at files f = option_map (λ v. v.items) (get nat_cmp files f)

-- files in a list: their numbers and their bytes
abbrev pub listed : List (FileNo × Vec ℕ Global) → List (ℕ × List ℕ)
listed files = map (λ p. (p.0.0, p.1.items)) files

-- the state after these files were put on a disk, one after another
abbrev pub held_from : State → List (ℕ × List ℕ) → State
held_from s [] = s
held_from s (file ∷ rest) = held_from (appended file.0 file.1 s) rest

-- the state of a disk on which these files were put, one after another
abbrev pub held : List (ℕ × List ℕ) → State
held files = held_from nothing files

-- the files of these numbers, with their bytes
abbrev pub files_at : Files → List ℕ → List (ℕ × List ℕ)
files_at reads numbers = map (λ f. (f, content reads f)) numbers
