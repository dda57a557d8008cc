-- What is observable of a disk in memory.
use Rattle.std.specs.Prelude.{◌≡◌, ◌+◌, ◌-◌, ◌^◌, ◌<◌, ◌⊎◌, ℕ, Option, List, Contains, min}
use Rattle.je_disk.specs.Moments.{History}
use Rattle.mem_disk.specs.Replay.{history_of}
use Rattle.mem_disk.specs.declared.memory.MemDisk.{MemDisk}

-- the states of the disk at every moment so far
abbrev pub observed_history : MemDisk → History
observed_history disk = history_of disk.file_map.changes.items

-- how many of its calls have failed
abbrev pub faults_of : MemDisk → ℕ
faults_of disk = disk.plan.faults

-- how many calls it has counted
abbrev pub calls_of : MemDisk → ℕ
calls_of disk = disk.plan.made

-- the number of the sync job that is out
abbrev pub sync_of : MemDisk → Option ℕ
sync_of disk = disk.jobs.sync

-- the number of the read job that is out
abbrev pub read_job_of : MemDisk → Option ℕ
read_job_of disk = disk.jobs.reading

-- the file that it reads
abbrev pub read_file_of : MemDisk → ℕ
read_file_of disk = disk.jobs.file.0

-- the number that was allocated last for a job
abbrev pub last_job_of : MemDisk → ℕ
last_job_of disk = disk.jobs.last_job

-- the numbers of the calls that are to fail
abbrev pub fails_of : MemDisk → List ℕ
fails_of disk = disk.plan.fails.items

-- each call behind the call of this number is to fail; 2 ^ 64 - 1 where there is no stop
abbrev pub stop_call_of : MemDisk → ℕ
stop_call_of disk = disk.plan.stop

-- the number of the next call
abbrev pub next_call : MemDisk → ℕ
next_call disk = min (calls_of disk + 1) (2 ^ 64 - 1)

-- the next call is to fail: it is listed, or behind the stop
abbrev pub IsDue : MemDisk → Type 0
IsDue disk = Contains (fails_of disk) (next_call disk) ⊎ (stop_call_of disk < next_call disk)

-- one call was counted, and the same calls are to fail
pub record CountsCall (old new : MemDisk) : Type 0 where
  pub calls : calls_of new ≡ next_call old
  pub fails : fails_of new ≡ fails_of old
  pub stop : stop_call_of new ≡ stop_call_of old
