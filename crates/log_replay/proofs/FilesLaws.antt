-- What the files of a log hold, and what is wrong with them.
use Rattle.std.proofs.Common.{◌≡◌, ℕ, ◌==◌, not, Bool, true, false, cond, List, [], ◌∷◌, ◌++◌, map, refl, sym, ap, ◌∙◌, append_assoc, arith}
use Rattle.je_bytes.specs.Reading.{AreBytes}
use Rattle.log_entry.specs.declared.entry.Entry.{Entry}
use Rattle.log_entry.specs.declared.entry.Entry.TheVariants.{FileHeader}
use Rattle.log_entry.specs.declared.decoder.Decoded.{Decoded}
use Rattle.log_entry.specs.declared.decoder.Decoded.TheVariants.{Whole, Torn as NotWhole}
use Rattle.log_entry.specs.Reading.{decoded}
use Rattle.log_file.specs.declared.file_scan.FileScan.TheVariants.{Prefix, VersionUnknown as OtherVersion, Damaged as NoHeader}
use Rattle.log_file.specs.Scan.{prefix_with, entries_behind, scan_first, scan_by, scan_of}
use Rattle.log_file.specs.Log.{Log, AreFileEntries, entries_of, entries_scanned, log_in}
use Rattle.log_file.proofs.FileScanLaws.{are_encoded_back}

-- ---- the entries of a file

no_entries : AreFileEntries []
no_entries = record { entries = tt; follow = tt; ends = omega arith }

-- the entries that are found in a file may stand there
entries_of-first : (f : ℕ) (bytes : List ℕ) (version file prev len : ℕ) → AreBytes bytes → decoded bytes ≡ Whole (FileHeader version file) prev len →
    AreFileEntries (entries_scanned (scan_first f bytes prev (FileHeader version file)))
entries_of-first f bytes version file prev len are is = by_case (prev == 0) (version == 1) (file == f) refl refl refl
  where
    by_case : (a b e : Bool) → (prev == 0) ≡ a → (version == 1) ≡ b → (file == f) ≡ e →
        AreFileEntries (entries_scanned (cond (not a) NoHeader (cond (not b) (OtherVersion version) (cond e (Prefix (prefix_with (entries_behind bytes))) NoHeader))))
    by_case false b e ha hb he = no_entries
    by_case true false e ha hb he = no_entries
    by_case true true false ha hb he = no_entries
    by_case true true true ha hb he =
        (are_encoded_back f bytes (prefix_with (entries_behind bytes)) are (ap (scan_by f bytes) is ∙ rw (ha, hb, he) refl) (omega arith)).entries

pub entries_scanned-are : (f : ℕ) (bytes : List ℕ) → AreBytes bytes → AreFileEntries (entries_scanned (scan_of f bytes))
entries_scanned-are f bytes are = by_first (decoded bytes) refl
  where
    by_first : (d : Decoded) → decoded bytes ≡ d → AreFileEntries (entries_scanned (scan_by f bytes d))
    by_first (NotWhole torn) is = no_entries
    by_first (Whole (FileHeader version file) prev len) is = entries_of-first f bytes version file prev len are is
    by_first (Whole entry prev len) is = no_entries

-- ---- several files

pub log_in-append : (a b : List (ℕ × List ℕ)) → log_in (a ++ b) ≡ log_in a ++ log_in b
log_in-append [] b = refl
log_in-append (x ∷ a) b = ap (λ (l : Log). let p : ℕ × List Entry = (x.0, entries_scanned (scan_of x.0 x.1)) in p ∷ l) (log_in-append a b)

pub entries_of-append : (a b : Log) → entries_of (a ++ b) ≡ entries_of a ++ entries_of b
entries_of-append [] b = refl
entries_of-append (x ∷ a) b = ap (λ (l : List Entry). x.1 ++ l) (entries_of-append a b) ∙ sym (append_assoc x.1 (entries_of a) (entries_of b))

pub numbers-append : {X : Type 0} (a b : List X) (f : X → ℕ) → map f (a ++ b) ≡ map f a ++ map f b
numbers-append [] b f = refl
numbers-append (x ∷ a) b f = ap (λ (l : List ℕ). f x ∷ l) (numbers-append a b f)
