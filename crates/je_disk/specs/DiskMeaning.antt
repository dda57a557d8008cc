-- What the contracts of a kind of disk say of a disk.
use Rattle.std.specs.Prelude.{ℕ, Bool, Option}
use Rattle.je_disk.specs.Moments.{History}

-- what contracts see of a kind of disk: whether it is observable, and of each disk its states so far, its faults and its jobs
pub record DiskMeaning (D : Type 0) : Type 0 where
  -- whether this kind of disk is observable
  pub observable : Bool
  -- the states at every moment so far
  pub history : D → History
  -- how many calls have failed; it stands still at 2^64 - 1
  pub faults : D → ℕ
  -- the number of the sync job that is out
  pub sync_out : D → Option ℕ
  -- the number of the read job that is out
  pub read_out : D → Option ℕ
  -- the file of the read job that is out
  pub read_of : D → ℕ
  -- the number that was allocated last, 0 at first
  pub last_job : D → ℕ
