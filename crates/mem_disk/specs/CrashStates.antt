-- What the disk's changes do to one file.
use Rattle.std.specs.Prelude.{◌++◌, ◌==◌, if◌then◌else◌, ℕ, Option, Some, None, unwrap_or, List, [], ◌∷◌, length, take, nat_lt, Vec}
use Rattle.std.specs.declared.alloc.Global.{Global}
use Rattle.std.specs.Option.{option_map}
use Rattle.je_disk.specs.States.{State, CrashState, begun, grown, shortened, dropped, synced_crash_state, job_crash_state}
use Rattle.mem_disk.specs.declared.crash_state.MemCrashState.{MemCrashState}
use Rattle.mem_disk.specs.declared.file_state.FileState.{FileState}
use Rattle.mem_disk.specs.declared.change.Change.{Change}
use Rattle.mem_disk.specs.declared.change.Change.TheVariants.{Create, Append, Cut, Remove, Sync, BeginSync, EndSync}

-- the crash state as a definition has it
abbrev pub crash_state_of : MemCrashState → CrashState
crash_state_of crash_state = record { stable = crash_state.stable.items; max_len = crash_state.max_len; exists_always = crash_state.exists_always; may_exist = crash_state.may_exist }

-- the bytes of a file
abbrev pub file_bytes_of : Option (Vec ℕ Global) → Option (List ℕ)
file_bytes_of file = option_map (λ v. v.items) file

-- one file of a disk: how it reads, its crash state, and its crash state counted from the beginning of the sync that is out
pub record FileView : Type 0 where
  pub reads : Option (List ℕ)
  pub crash_state : CrashState
  pub job : Option CrashState

-- the file that is kept
abbrev pub view_of : FileState → FileView
view_of file = record { reads = file_bytes_of file.reads; crash_state = crash_state_of file.crash_state; job = option_map crash_state_of file.job }

-- one file of a disk
abbrev pub file_in : ℕ → State → FileView
file_in f s = record { reads = s.reads f; crash_state = s.crash_states f; job = option_map (λ crash_states. crash_states f) s.job }

-- the file reads otherwise, and its crash states are changed
abbrev pub file_put_in : Option (List ℕ) → (CrashState → CrashState) → FileView → FileView
file_put_in file change v = record { reads = file; crash_state = change v.crash_state; job = option_map change v.job }

-- an empty file is there, where none was
abbrev pub created_by_in : Option (List ℕ) → FileView → FileView
created_by_in None v = file_put_in (Some []) begun v
created_by_in (Some _) v = v

abbrev pub created_in : FileView → FileView
created_in v = created_by_in v.reads v

-- bytes stand at the file's end
abbrev pub appended_by_in : Option (List ℕ) → List ℕ → FileView → FileView
appended_by_in None bytes v = file_put_in (Some bytes) (λ crash_state. grown (length bytes) (begun crash_state)) v
appended_by_in (Some there) bytes v = file_put_in (Some (there ++ bytes)) (grown (length (there ++ bytes))) v

abbrev pub appended_in : List ℕ → FileView → FileView
appended_in bytes v = appended_by_in v.reads bytes v

-- the file ends at a length, where it went further
abbrev pub cut_by_in : Option (List ℕ) → ℕ → FileView → FileView
cut_by_in None len v = v
cut_by_in (Some there) len v = if nat_lt len (length there) then file_put_in (Some (take len there)) (shortened len) v else v

abbrev pub cut_in : ℕ → FileView → FileView
cut_in len v = cut_by_in v.reads len v

-- the file is gone
abbrev pub removed_by_in : Option (List ℕ) → FileView → FileView
removed_by_in None v = v
removed_by_in (Some _) v = file_put_in None dropped v

abbrev pub removed_in : FileView → FileView
removed_in v = removed_by_in v.reads v

-- a sync has made the file stable as it reads
abbrev pub synced_in : FileView → FileView
synced_in v = record { reads = v.reads; crash_state = synced_crash_state v.reads; job = option_map (λ _. synced_crash_state v.reads) v.job }

-- a sync is out
abbrev pub begun_in : FileView → FileView
begun_in v = record { reads = v.reads; crash_state = v.crash_state; job = Some (job_crash_state v.reads v.crash_state) }

-- the sync that was out has finished
abbrev pub ended_in : FileView → FileView
ended_in v = record { reads = v.reads; crash_state = unwrap_or v.job v.crash_state; job = None }

-- one change of the disk
abbrev pub changed_in : ℕ → Change → FileView → FileView
changed_in f (Create g) v = if f == g.0 then created_in v else v
changed_in f (Append g bytes) v = if f == g.0 then appended_in bytes v else v
changed_in f (Cut g len) v = if f == g.0 then cut_in len v else v
changed_in f (Remove g) v = if f == g.0 then removed_in v else v
changed_in f Sync v = synced_in v
changed_in f BeginSync v = begun_in v
changed_in f EndSync v = ended_in v

-- some changes of the disk
abbrev pub traced : ℕ → FileView → List Change → FileView
traced f v [] = v
traced f v (change ∷ rest) = traced f (changed_in f change v) rest
