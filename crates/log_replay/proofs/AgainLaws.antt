-- A log whose files are there whole is read again.
use Rattle.std.proofs.Common.{if◌then◌else◌, ◌≡◌, ℕ, ◌+◌, ◌<◌, ◌≤◌, ◌^◌, ◌==◌, nat_lt, Bool, true, false, List, [], ◌∷◌, Option, Some, None, map, length, refl, sym, ap, ◌∙◌, arith, option_map}
use Rattle.std.proofs.lemmas.Bool.Decides.{nat_tests}
use Rattle.std.proofs.lemmas.List.{append-nil}
use Rattle.std.specs.List.{AllByRecursion}
use Rattle.je_lsn.specs.Naming.{last_file}
use Rattle.log_entry.specs.declared.entry.Entry.{Entry}
use Rattle.log_entry.specs.declared.decoder.Torn.TheVariants.{Short}
use Rattle.log_entry.specs.declared.decoder.Decoded.TheVariants.{Torn as NotWhole}
use Rattle.log_entry.specs.Reading.{decoded}
use Rattle.log_file.specs.declared.file_scan.FileScan.TheVariants.{Prefix}
use Rattle.log_file.specs.Scan.{prefix_with, sizes_of, scan_of}
use Rattle.log_file.specs.Log.{Log, AreFileEntries, file_bytes, log_in}
use Rattle.log_file.proofs.EncodedLaws.{length-file_bytes}
use Rattle.log_file.proofs.FileScanLaws.{are_found_again}
use Rattle.log_file.proofs.FilesLaws.{encoded_files, are_encoded_files, are_one_list, log_in-encoded}
use Rattle.log_replay.specs.declared.corruption.Corruption.{Corruption}
use Rattle.log_replay.specs.declared.corruption.Corruption.TheVariants.{Damaged, Missing}
use Rattle.log_replay.specs.Wrong.{or_else}
use Rattle.log_replay.specs.Reading.{lsn_at, corruption_at, corruption_behind, corruption_in, gap_in, validated, reading_by, reading_of}
use Rattle.log_replay.specs.Laws.{AreReadAgain}

nothing_torn : decoded [] ≡ NotWhole Short
unfolding decoded
nothing_torn = refl

found-whole : (f : ℕ) (entries : List Entry) → f < 2 ^ 32 → AreFileEntries entries → scan_of f (file_bytes f entries) ≡ Prefix (prefix_with entries)
found-whole f entries lt are = ap (scan_of f) (sym (append-nil (file_bytes f entries))) ∙ are_found_again f entries [] Short lt are nothing_torn

behind_whole : (last : Bool) (f : ℕ) (entries : List Entry) → corruption_behind last f (26 + sizes_of entries) (26 + sizes_of entries) ≡ None
behind_whole true f entries = refl
behind_whole false f entries =
    let some : nat_lt 0 (26 + sizes_of entries) ≡ true = grind (arith, nat_tests) in
    let all : (26 + sizes_of entries == 26 + sizes_of entries) ≡ true = grind (arith, nat_tests) in
    rw (some, all) refl

whole_prefix : (last : Bool) (f : ℕ) (entries : List Entry) → f ≤ last_file → corruption_at last f (26 + sizes_of entries) (Prefix (prefix_with entries)) ≡ None
whole_prefix last f entries small =
    let not : nat_lt last_file f ≡ false = grind (arith, nat_tests) in
    ap (λ (b : Bool). if b then Some (Damaged (lsn_at f 0)) else corruption_behind last f (26 + sizes_of entries) (prefix_with entries).end) not ∙ behind_whole last f entries

-- a whole file is no corruption, wherever it stands
corruption-whole : (last : Bool) (f : ℕ) (entries : List Entry) → f < 2 ^ 32 → f ≤ last_file → AreFileEntries entries → corruption_at last f (length (file_bytes f entries)) (scan_of f (file_bytes f entries)) ≡ None
corruption-whole last f entries lt small are =
    ap (λ (n : ℕ). corruption_at last f n (scan_of f (file_bytes f entries))) (length-file_bytes f entries)
    ∙ ap (corruption_at last f (26 + sizes_of entries)) (found-whole f entries lt are) ∙ whole_prefix last f entries small

pub corruption-encoded : (log : Log) → AllByRecursion (λ file. (file.0 < 2 ^ 32) × AreFileEntries file.1) log → AllByRecursion (λ file. file.0 ≤ last_file) log → corruption_in (encoded_files log) ≡ None
corruption-encoded [] all small = refl
corruption-encoded (file ∷ log) all small =
    ap (λ (o : Option Corruption). or_else o (corruption_in (encoded_files log))) (corruption-whole (length (encoded_files log) == 0) file.0 file.1 all.0.0 small.0 all.0.1)
    ∙ corruption-encoded log all.1 small.1

numbers-encoded : (log : Log) → map (λ file. file.0) (encoded_files log) ≡ map (λ file. file.0) log
numbers-encoded [] = refl
numbers-encoded (file ∷ log) = ap (λ (l : List ℕ). file.0 ∷ l) (numbers-encoded log)

pub are_read_again : AreReadAgain
are_read_again reads held log is are same small gap =
    ap reading_of (are_one_list reads held (encoded_files log) are (are_encoded_files reads log is.rising same))
    ∙ ap (λ (o : Option Corruption). reading_by (log_in (encoded_files log)) (or_else o (option_map (λ n. Missing (lsn_at n 0)) (gap_in (map (λ file. file.0) (encoded_files log)))))) (corruption-encoded log is.each small)
    ∙ ap (λ (o : Option ℕ). reading_by (log_in (encoded_files log)) (option_map (λ n. Missing (lsn_at n 0)) o)) (ap gap_in (numbers-encoded log) ∙ gap)
    ∙ ap validated (log_in-encoded log is.each)
