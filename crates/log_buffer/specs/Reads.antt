-- What reading leaves of a disk.
use Rattle.std.specs.Prelude.{◌≡◌, true}
use Rattle.je_disk.specs.DiskMeaning.{DiskMeaning}
use Rattle.je_disk.specs.Moments.{now, Passes}

-- a disk was only read: its state is the one that it was, at each moment, and the jobs that are out stay so
pub record IsOnlyRead {D : Type 0} (meaning : DiskMeaning D) (old new : D) : Type 0 where
  pub same : meaning.observable ≡ true → now (meaning.history new) ≡ now (meaning.history old)
  pub moments : meaning.observable ≡ true → Passes (meaning.history old) (meaning.history new) (λ s. s ≡ now (meaning.history old))
  pub syncs : meaning.sync_out new ≡ meaning.sync_out old
  pub reads : meaning.read_out new ≡ meaning.read_out old
  pub file : meaning.read_of new ≡ meaning.read_of old
