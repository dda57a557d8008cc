-- What a crash may leave of a disk.
use Rattle.std.specs.Prelude.{◌≡◌, ◌≤◌, ◌<◌, ◌^◌, ℕ, true, false, Option, Some, None, List, length, take, slice_index}
use Rattle.je_disk.specs.States.{Files, CrashState, State, content}

-- bytes that a file with this crash state may be left with: the stable ones come first, any may follow, and there are no more than the file may have had on the disk since
pub record Leaves (crash_state : CrashState) (bytes : List ℕ) : Type 0 where
  pub allowed : crash_state.may_exist ≡ true
  pub front : take (length crash_state.stable) bytes ≡ crash_state.stable
  pub within : length bytes ≤ crash_state.max_len

-- how a file with this crash state may be left: with such bytes, or gone, unless it is there in any case
abbrev pub IsFileImage : CrashState → Option (List ℕ) → Type 0
IsFileImage crash_state None = crash_state.exists_always ≡ false
IsFileImage crash_state (Some bytes) = Leaves crash_state bytes

-- each file is as its crash state lets it be
abbrev pub AreFileImages : (ℕ → CrashState) → Files → Type 0
AreFileImages crash_states files = (f : ℕ) → IsFileImage (crash_states f) (files f)

-- the files that a crash may leave of a disk in this state
pub record IsImage (state : State) (image : Files) : Type 0 where
  pub files : AreFileImages state.crash_states image
  pub bytes : (f i : ℕ) → slice_index (content image f) i < 2 ^ 8
