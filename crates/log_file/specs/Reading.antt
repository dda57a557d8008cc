-- What was scanned of a disk.
use Rattle.std.specs.Prelude.{ℕ, ◌≡◌, Bool, true, List, length}
use Rattle.je_bytes.specs.Reading.{AreBytes}
use Rattle.je_disk.specs.States.{Files, content}
use Rattle.log_file.specs.declared.reading.Scanned.{Scanned}
use Rattle.log_file.specs.Scan.{scan_of}

-- what was scanned is what the file's bytes are, with their number
pub record IsScanOf (observable : Bool) (files : Files) (f : ℕ) (scanned : Scanned) : Type 0 where
  pub bytes : List ℕ
  pub are : AreBytes bytes
  pub observed : observable ≡ true → bytes ≡ content files f
  pub found : scanned.found ≡ scan_of f bytes
  pub len : scanned.len ≡ length bytes
