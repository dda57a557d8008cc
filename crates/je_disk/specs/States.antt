-- What a disk holds: its files as they read, and what a crash keeps of each.
use Rattle.std.specs.Prelude.{◌≡◌, ◌*◌, ◌^◌, ◌++◌, ◌==◌, ◌↔◌, ◌⊎◌, if◌then◌else◌, ℕ, Bool, true, false, Option, Some, None, IsSome, unwrap_or, List, [], length, take, max, map, nat_lt, Contains}
use Rattle.std.specs.Int.{div_ceil}
use Rattle.std.specs.Option.{option_map}
use Rattle.std.specs.List.Sorted.{IsStrictlyIncreasing}
use Rattle.je_lsn.specs.declared.file_no.FileNo.{FileNo}

-- the bytes of each file that is there
abbrev pub Files : Type 0
Files = ℕ → Option (List ℕ)

-- what a crash keeps of one file
pub record CrashState : Type 0 where
  -- these bytes stay, since the last sync that finished
  pub stable : List ℕ
  -- the greatest length that the file may have had on the disk since then, with the room that the disk set aside behind its bytes
  pub max_len : ℕ
  -- the file is there in any case
  pub exists_always : Bool
  -- the file may be there
  pub may_exist : Bool

-- a disk at one moment: what its files read as, what a crash keeps of each, and the same counted from the beginning of the sync that is out
pub record State : Type 0 where
  pub reads : Files
  pub crash_states : ℕ → CrashState
  -- the same crash states, counted from the beginning of the sync that is out
  pub job : Option (ℕ → CrashState)

-- the same values, but at one number
abbrev pub put_at : {T : Type 0} → (ℕ → T) → ℕ → T → ℕ → T
put_at values f value g = if g == f then value else values g

-- the bytes of a file, none where it is not there
abbrev pub content : Files → ℕ → List ℕ
content files f = unwrap_or (files f) []

-- no file is there, and none was
abbrev pub nothing : State
nothing = record { reads = λ _. None; crash_states = λ _. record { stable = []; max_len = 0; exists_always = false; may_exist = false }; job = None }

-- the crash state of a file that begins: a crash may leave it or not, with any bytes
abbrev pub begun : CrashState → CrashState
begun crash_state = record { stable = []; max_len = crash_state.max_len; exists_always = crash_state.exists_always; may_exist = true }

-- how many bytes a disk sets aside at a time, behind those of a file that grows
abbrev pub extension : ℕ
extension = 2 ^ 20

-- how long a file may be on the disk that has so many bytes: up to the next multiple of that
abbrev pub extended : ℕ → ℕ
extended len = div_ceil len extension * extension

-- the crash state of a file that has grown to a length: a crash may leave it longer, up to the room that was set aside for it
abbrev pub grown : ℕ → CrashState → CrashState
grown len crash_state = record { stable = crash_state.stable; max_len = max crash_state.max_len (extended len); exists_always = crash_state.exists_always; may_exist = true }

-- the crash state of a file that was cut to a length: the cut may be undone, with any bytes past it
abbrev pub shortened : ℕ → CrashState → CrashState
shortened len crash_state = record { stable = take len crash_state.stable; max_len = crash_state.max_len; exists_always = crash_state.exists_always; may_exist = crash_state.may_exist }

-- the crash state of a file that was removed: it may be there again as it was
abbrev pub dropped : CrashState → CrashState
dropped crash_state = record { stable = crash_state.stable; max_len = crash_state.max_len; exists_always = false; may_exist = crash_state.may_exist }

-- one file's crash state was changed
abbrev pub with_crash_state : ℕ → (CrashState → CrashState) → (ℕ → CrashState) → ℕ → CrashState
with_crash_state f change crash_states = put_at crash_states f (change (crash_states f))

-- one file reads otherwise, and its crash states are changed, those of the sync that is out too
abbrev pub put_file : ℕ → Option (List ℕ) → (CrashState → CrashState) → State → State
put_file f file change s =
    record { reads = put_at s.reads f file; crash_states = with_crash_state f change s.crash_states; job = option_map (with_crash_state f change) s.job }

-- an empty file is there, where none was
abbrev pub created_by : Option (List ℕ) → ℕ → State → State
created_by None f s = put_file f (Some []) begun s
created_by (Some _) f s = s

-- an empty file is made, unless one is there
abbrev pub created : ℕ → State → State
created f s = created_by (s.reads f) f s

-- of bytes that are being put at the end of a file, these first ones stand there; the file is made where it was not there, and there is room for all of them
abbrev pub partly_appended_by : Option (List ℕ) → ℕ → List ℕ → List ℕ → State → State
partly_appended_by None f part bytes s = put_file f (Some part) (λ crash_state. grown (length bytes) (begun crash_state)) s
partly_appended_by (Some there) f part bytes s = put_file f (Some (there ++ part)) (grown (length (there ++ bytes))) s

-- the same, at what the file reads as now
abbrev pub partly_appended : ℕ → List ℕ → List ℕ → State → State
partly_appended f part bytes s = partly_appended_by (s.reads f) f part bytes s

-- bytes stand at the end of a file, all of them
abbrev pub appended : ℕ → List ℕ → State → State
appended f bytes s = partly_appended f bytes bytes s

-- a file ends at a length, where it went further
abbrev pub cut_by : Option (List ℕ) → ℕ → ℕ → State → State
cut_by None f len s = s
cut_by (Some there) f len s = if nat_lt len (length there) then put_file f (Some (take len there)) (shortened len) s else s

-- the same, at what the file reads as now
abbrev pub cut : ℕ → ℕ → State → State
cut f len s = cut_by (s.reads f) f len s

-- a file is gone, where it was there
abbrev pub removed_by : Option (List ℕ) → ℕ → State → State
removed_by None f s = s
removed_by (Some _) f s = put_file f None dropped s

-- the same, at what the file reads as now
abbrev pub removed : ℕ → State → State
removed f s = removed_by (s.reads f) f s

-- the crash state of a file that a sync has made stable, or of one that is not there
abbrev pub synced_crash_state : Option (List ℕ) → CrashState
synced_crash_state None = record { stable = []; max_len = 0; exists_always = false; may_exist = false }
synced_crash_state (Some there) = record { stable = there; max_len = length there; exists_always = true; may_exist = true }

-- the crash states of files that a sync has made stable
abbrev pub synced_crash_states : Files → ℕ → CrashState
synced_crash_states files f = synced_crash_state (files f)

-- a crash keeps what the files read as, and nothing else: no room is set aside; a sync that is out takes nothing of it back
abbrev pub synced : State → State
synced s = record { reads = s.reads; crash_states = synced_crash_states s.reads; job = option_map (λ _. synced_crash_states s.reads) s.job }

-- the crash state of a file once a sync job has ended: what it read as at the job's beginning is stable, and the room behind is set aside still
abbrev pub job_crash_state : Option (List ℕ) → CrashState → CrashState
job_crash_state None crash_state = synced_crash_state None
job_crash_state (Some there) crash_state = record { stable = there; max_len = crash_state.max_len; exists_always = true; may_exist = true }

-- the crash states of files once a sync job has ended
abbrev pub job_crash_states : Files → (ℕ → CrashState) → ℕ → CrashState
job_crash_states files crash_states f = job_crash_state (files f) (crash_states f)

-- a sync is out: its crash states are counted from what the files read as now
abbrev pub job_begun : State → State
job_begun s = record { reads = s.reads; crash_states = s.crash_states; job = Some (job_crash_states s.reads s.crash_states) }

-- the sync that was out has finished: its crash states are the disk's
abbrev pub job_ended : State → State
job_ended s = record { reads = s.reads; crash_states = unwrap_or s.job s.crash_states; job = None }

-- a call was not begun, or is done
abbrev pub IsEither : State → State → State → Type 0
IsEither before after s = (s ≡ before) ⊎ (s ≡ after)

-- an append was not begun, or put the first of the given bytes there
abbrev pub IsPartOfAppend : ℕ → List ℕ → State → State → Type 0
IsPartOfAppend f bytes before s =
    (s ≡ before) ⊎ ((part : List ℕ) × (rest : List ℕ) × (bytes ≡ part ++ rest) × (s ≡ partly_appended f part bytes before))

-- the numbers of files rise
abbrev pub AreRisingNumbers : List FileNo → Type 0
AreRisingNumbers numbers = IsStrictlyIncreasing (map (λ n. n.0) numbers)

-- a file's number is among these exactly where the file is there
abbrev pub IsListing : Files → List FileNo → Type 0
IsListing files numbers = (f : ℕ) → Contains (map (λ n. n.0) numbers) f ↔ IsSome (files f)
