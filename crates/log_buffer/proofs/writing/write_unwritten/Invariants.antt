use Rattle.std.proofs.Common.{◌≡◌, ◌≤◌, ◌+◌, ℕ, Option, true, length}
use Rattle.je_disk.specs.Moments.{now}
use Rattle.log_file.specs.Log.{Log}
use Rattle.log_buffer.specs.WriteBuffer.{bytes_for}
use Rattle.log_buffer.specs.Crash.{Holds}
use Rattle.log_buffer.specs.Writing.{IsUnwrittenOf}
use Rattle.log_buffer.proofs.FilesWritten.{WrittenUpTo}
use Rattle.log_buffer.proofs.CrashWriteOut.{GoesOn}
use Rattle.log_buffer.proofs.writing.write_unwritten.Given as goal

abbrev pub invariant-loop-i : goal.invariant-loop-i
invariant-loop-i g l = record {
  first_is : l.first + length l.unwritten.starts.items ≡ l.last;
  count_is : l.count ≡ length l.unwritten.starts.items;
  written : g.D.Disk.meaning.observable ≡ true → WrittenUpTo l.unwritten.bytes.items l.unwritten.starts.items l.last (now (g.D.Disk.meaning.history l.fn.disk)).reads (now (g.D.Disk.meaning.history l.disk)).reads (l.first + l.i);
  never_falls : g.D.Disk.meaning.faults l.fn.disk ≤ g.D.Disk.meaning.faults l.disk;
  sync_out : g.D.Disk.meaning.sync_out l.disk ≡ g.D.Disk.meaning.sync_out l.fn.disk;
  read_out : g.D.Disk.meaning.read_out l.disk ≡ g.D.Disk.meaning.read_out l.fn.disk;
  read_of : g.D.Disk.meaning.read_of l.disk ≡ g.D.Disk.meaning.read_of l.fn.disk;
  goes : g.D.Disk.meaning.observable ≡ true → (log removed : Log) (least : ℕ) (begun : Option ℕ) → IsUnwrittenOf log (now (g.D.Disk.meaning.history l.fn.disk)).reads (bytes_for l.unwritten.bytes.items l.unwritten.starts.items l.last) l.first
      → Holds log removed least begun l.first (now (g.D.Disk.meaning.history l.fn.disk)) → GoesOn log removed least begun (g.D.Disk.meaning.history l.fn.disk) (g.D.Disk.meaning.history l.disk) (l.first + l.i);
}
