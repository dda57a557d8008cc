-- Zeros are no entry, and behind whole entries they are a torn tail.
use Rattle.std.proofs.Common.{◌≡◌, ◌⊎◌, ◌∙◌, ℕ, List, Option, Some, None, get_or, take, drop, refl, ap, subst, inl, inr}
use Rattle.std.specs.Int.{w32}
use Rattle.log_entry.specs.declared.entry.Entry.{Entry}
use Rattle.log_entry.specs.declared.decoder.Decoded.{Decoded}
use Rattle.log_entry.specs.declared.decoder.Decoded.TheVariants.{Whole, Torn as NotWhole}
use Rattle.log_entry.specs.Body.{entry_in}
use Rattle.log_entry.specs.Reading.{decoded, number_at}
use Rattle.log_entry.proofs.ReadingLaws.{fields-decoded}
use Rattle.log_file.specs.declared.valid_prefix.ValidPrefix.{ValidPrefix}
use Rattle.log_file.specs.declared.file_scan.FileScan.{FileScan}
use Rattle.log_file.specs.declared.file_scan.FileScan.TheVariants.{Prefix}
use Rattle.log_file.specs.Scan.{prefix_with, no_prefix, scan_of, scan_by}
use Rattle.log_file.specs.Log.{entries_scanned}
use Rattle.log_file.proofs.FileScanLaws.{are_found_again}
use Rattle.log_buffer.specs.Crash.{HoldsPrefix}
use Rattle.log_buffer.specs.Chance.{ReadSince}
use Rattle.log_buffer.specs.Zeros.{AreZeros, HasZerosBehind, ZerosAreFound, ZerosAreTorn}
use Rattle.log_buffer.proofs.ChanceMatches.{meets}

-- no entry has the kind 0
none_of_kind : (bytes : List ℕ) → entry_in 0 bytes ≡ None
unfolding entry_in
none_of_kind bytes = refl

not_some : (o : Option Entry) (e : Entry) → o ≡ None → o ≡ Some e → ⊥
not_some o e none some = cc

pub zeros_are_torn : ZerosAreTorn
zeros_are_torn bytes entry prev len are is =
    let body = (fields-decoded bytes entry prev len is).0.body in
    let rest = take (number_at w32 10 bytes) (drop 14 bytes) in
    not_some (entry_in (get_or bytes 4 0) rest) entry (ap (λ (kind : ℕ). entry_in kind rest) (are 4) ∙ none_of_kind rest) body

-- zeros alone have no header
holds_none : (f : ℕ) (entries : List Entry) (bytes : List ℕ) → AreZeros bytes → HoldsPrefix f entries bytes
holds_none f entries bytes are = by_decoded (decoded bytes) refl where
  by_decoded : (d : Decoded) → decoded bytes ≡ d → HoldsPrefix f entries bytes
  by_decoded (NotWhole torn) is = record { prefix = no_prefix; found = ap (scan_by f bytes) is; more = entries; is = refl }
  by_decoded (Whole e prev len) is = absurd (zeros_are_torn bytes e prev len are is)

-- behind entries they are the torn tail
holds_front : (f : ℕ) (entries : List Entry) (bytes : List ℕ) → HasZerosBehind f entries bytes → HoldsPrefix f entries bytes
holds_front f entries bytes has = by_decoded (decoded has.zeros) refl where
  by_decoded : (d : Decoded) → decoded has.zeros ≡ d → HoldsPrefix f entries bytes
  by_decoded (NotWhole torn) is = record {
    prefix = prefix_with has.front;
    found = ap (scan_of f) has.bytes_are ∙ are_found_again f has.front has.zeros torn has.number has.are_entries is;
    more = has.more;
    is = has.are_first;
  }
  by_decoded (Whole e prev len) is = absurd (zeros_are_torn has.zeros e prev len has.are_zeros is)

pub zeros_are_found : ZerosAreFound
zeros_are_found since history k f read bytes was here filled = meets (ReadSince since history k) f read bytes here.prefix was here.found (by_case filled)
  where
    by_case : AreZeros bytes ⊎ HasZerosBehind f (entries_scanned (scan_of f read)) bytes → HoldsPrefix f here.prefix.entries bytes
    by_case (inl zeros) = holds_none f here.prefix.entries bytes zeros
    by_case (inr has) = holds_front f here.prefix.entries bytes (subst (λ (x : FileScan). HasZerosBehind f (entries_scanned x) bytes) here.found has)
