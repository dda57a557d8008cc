-- A reading of the log for printing.
use Rattle.std.proofs.Common.{◌≡◌, ◌≢◌, ℕ, suc, ◌==◌, ◌≤◌, ◌<◌, Bool, true, List, [], ◌∷◌, ◌++◌, Option, Some, None, Result, Ok, Err, is_some, map, length, refl, sym, ap, ap₂, subst, ◌∙◌, append_assoc, arith}
use Rattle.std.specs.Prelude.{IfErr, IfOk, IsErrAnd}
use Rattle.std.specs.List.{AllByRecursion, flat_map}
use Rattle.std.proofs.lemmas.List.{append-nil}
use Rattle.std.proofs.lemmas.List.Concat.{flat_map-append}
use Rattle.std.proofs.lemmas.Grind.{common_steps}
use Rattle.je_order.specs.Counts.{HasRisen}
use Rattle.je_order.proofs.Lists.{all_append, all_push}
use Rattle.je_disk.specs.declared.error.DiskErr.{DiskErr}
use Rattle.je_disk.specs.declared.error.DiskErr.TheVariants.{Failed, Memory as OutOfMemory}
use Rattle.je_disk.specs.Causes.{HasCause}
use Rattle.je_disk.specs.States.{AreRisingNumbers, Files, IsListing, content}
use Rattle.je_lsn.specs.declared.file_no.FileNo.{FileNo}
use Rattle.log_file.specs.declared.reading.Scanned.{Scanned}
use Rattle.log_file.specs.Log.{AreFileEntries, entries_scanned}
use Rattle.log_file.specs.Reading.{IsScanOf}
use Rattle.log_file.specs.Scan.{scan_of}
use Rattle.log_replay.specs.declared.corruption.Corruption.{Corruption}
use Rattle.log_replay.specs.Wrong.{or_else}
use Rattle.log_replay.specs.Reading.{corruption_at, corruption_in, files_read}
use Rattle.log_replay.specs.UnderWay.{AreOf, HaveCorruption}
use Rattle.log_replay.proofs.FilesLaws.{entries_scanned-are, numbers-append}
use Rattle.log_replay.proofs.ListedLaws.{listed, read_length, read_numbers, read_observed}
use Rattle.log_printer.specs.declared.file_lines.FileLines.{FileLines}
use Rattle.log_printer.specs.declared.log_err.LogErr.{LogErr}
use Rattle.log_printer.specs.declared.log_err.LogErr.TheVariants.{Disk, Memory, NoFile, Corrupt}
use Rattle.log_printer.specs.LogLines.{lines_text, log_text, scanned_text}
use Rattle.log_printer.specs.Reading.{AreLinesOf, HasDamagedFile, HasNoFile, IsLogOf, IsNoLines, IsReadingLines, IsWrongThere, StopsAmong, StopsAtFile, StopsLog, error_of}

-- ---- one file

-- what the disk says why it failed
pub disk_stops : {T U : Type 0} (P : LogErr → Type 0) (before after : ℕ) (r : Result T LogErr) (failure : DiskErr) → IsErrAnd r (λ e. e ≡ error_of failure) → HasCause {T = U} before after (Err failure) →
    (HasRisen before after → P Disk) → P Memory → IfErr r P
disk_stops P before after (Ok v) failure is cause risen free = tt
disk_stops P before after (Err e) Failed is cause risen free = subst P (sym is) (risen (cause.failed refl))
disk_stops P before after (Err e) OutOfMemory is cause risen free = subst P (sym is) free

pub entries_may_stand : (observable : Bool) (reads : Files) (f : ℕ) (scanned : Scanned) → IsScanOf observable reads f scanned → AreFileEntries (entries_scanned scanned.found)
entries_may_stand observable reads f scanned scan = subst (λ s. AreFileEntries (entries_scanned s)) (sym scan.found) (entries_scanned-are f scan.bytes scan.are)

pub lines_there : (observable : Bool) (reads : Files) (last : Bool) (f : ℕ) (scanned : Scanned) (r : Result FileLines LogErr) → IsScanOf observable reads f scanned →
    IfOk r (λ lines. corruption_at last f scanned.len scanned.found ≡ None) → IfOk r (λ lines. lines_text lines ≡ scanned_text f scanned.len scanned.found) → IfOk r (AreLinesOf observable reads last f)
lines_there observable reads last f scanned (Err e) scan none text = tt
lines_there observable reads last f scanned (Ok lines) scan none text = record {
  bytes = scan.bytes;
  observed = scan.observed;
  none = sym (ap₂ (λ n s. corruption_at last f n s) scan.len scan.found) ∙ none;
  text = text ∙ ap₂ (λ n s. scanned_text f n s) scan.len scan.found;
}

pub wrong_there : (observable : Bool) (reads : Files) (last : Bool) (f before after : ℕ) (scanned : Scanned) (r : Result FileLines LogErr) → IsScanOf observable reads f scanned →
    IfErr r (IsNoLines (corruption_at last f scanned.len scanned.found)) → IfErr r (StopsAtFile observable reads last f before after)
wrong_there observable reads last f before after scanned (Ok lines) scan stops = tt
wrong_there observable reads last f before after scanned (Err Disk) scan stops = absurd stops
wrong_there observable reads last f before after scanned (Err Memory) scan stops = tt
wrong_there observable reads last f before after scanned (Err NoFile) scan stops = absurd stops
wrong_there observable reads last f before after scanned (Err (Corrupt corruption)) scan stops = record {
  bytes = scan.bytes;
  observed = scan.observed;
  wrong = sym (ap₂ (λ n s. corruption_at last f n s) scan.len scan.found) ∙ stops;
}

-- ---- file by file

pub reading_begins : (observable : Bool) (reads : Files) (files : List FileNo) → IsReadingLines observable reads files files []
reading_begins observable reads files = record {
  done = [];
  parts = refl;
  held = [];
  are_of = record { numbers = refl; observed = λ t. tt };
  none = λ more len. refl;
  text = refl;
}

first_corruption : (f : ℕ) (bytes : List ℕ) (more : List (ℕ × List ℕ)) (last : Bool) (o : Option Corruption) → (length more == 0) ≡ last →
    corruption_at last f (length bytes) (scan_of f bytes) ≡ o → corruption_in ((f, bytes) ∷ more) ≡ or_else o (corruption_in more)
first_corruption f bytes more last o at is =
    ap (λ (b : Bool). or_else (corruption_at b f (length bytes) (scan_of f bytes)) (corruption_in more)) at ∙ ap (λ (p : Option Corruption). or_else p (corruption_in more)) is

pub reading_goes_on : (observable : Bool) (reads now_ : Files) (files left rest : List FileNo) (f : FileNo) (so_far : List FileLines) (lines : FileLines) (last : Bool) → (observable ≡ true → now_ ≡ reads) →
    IsReadingLines observable reads files left so_far → left ≡ f ∷ rest → (length rest == 0) ≡ last → AreLinesOf observable now_ last f.0 lines → IsReadingLines observable reads files rest (so_far ++ lines ∷ [])
reading_goes_on observable reads now_ files left rest f so_far lines last same r is at read =
    let x : ℕ × List ℕ = (f.0, read.bytes) in
    record {
      done = r.done ++ f ∷ [];
      parts = r.parts ∙ ap (λ (l : List FileNo). r.done ++ l) is ∙ sym (append_assoc r.done (f ∷ []) rest);
      held = r.held ++ x ∷ [];
      are_of = record {
        numbers = numbers-append r.held (x ∷ []) (λ e. e.0) ∙ ap (λ (l : List ℕ). l ++ f.0 ∷ []) r.are_of.numbers ∙ sym (numbers-append r.done (f ∷ []) (λ g. g.0));
        observed = λ t. all_push (λ (e : ℕ × List ℕ). e.1 ≡ content reads e.0) r.held x (r.are_of.observed t) (read.observed t ∙ ap (λ (files_ : Files). content files_ f.0) (same t));
      };
      none = λ more len.
          ap corruption_in (append_assoc r.held (x ∷ []) more)
          ∙ r.none (x ∷ more) (ap suc len ∙ sym (ap length is))
          ∙ first_corruption f.0 read.bytes more last None (ap (λ n. n == 0) len ∙ at) read.none;
      text =
          flat_map-append lines_text so_far (lines ∷ [])
          ∙ ap₂ (λ (a b : List ℕ). a ++ b) r.text (ap (λ (t : List ℕ). t ++ []) read.text)
          ∙ sym (flat_map-append (λ (file : ℕ × List ℕ). scanned_text file.0 (length file.1) (scan_of file.0 file.1)) r.held (x ∷ []));
    }

-- where the files end: a file among them was not read
pub reading_stops : (observable : Bool) (reads now_ : Files) (files left rest : List FileNo) (f : FileNo) (so_far : List FileLines) (last : Bool) (before mid after : ℕ) (e : LogErr) → (observable ≡ true → now_ ≡ reads) →
    before ≤ mid → mid ≤ after → (HasRisen mid after → HasRisen before after) → IsReadingLines observable reads files left so_far → left ≡ f ∷ rest → (length rest == 0) ≡ last →
    StopsAtFile observable now_ last f.0 mid after e → StopsAmong observable reads files before after e
reading_stops observable reads now_ files left rest f so_far last before mid after Disk same first second rose r is at stops = rose stops
reading_stops observable reads now_ files left rest f so_far last before mid after Memory same first second rose r is at stops = tt
reading_stops observable reads now_ files left rest f so_far last before mid after NoFile same first second rose r is at stops = absurd stops
reading_stops observable reads now_ files left rest f so_far last before mid after (Corrupt corruption) same first second rose r is at stops =
    let x : ℕ × List ℕ = (f.0, stops.bytes) in
    let behind = files_read reads rest in
    let len : length behind ≡ length rest = read_length reads rest in
    record {
      held = r.held ++ x ∷ behind;
      are_of = record {
        numbers =
            numbers-append r.held (x ∷ behind) (λ e. e.0)
            ∙ ap (λ (l : List ℕ). l ++ f.0 ∷ map (λ (e : ℕ × List ℕ). e.0) behind) r.are_of.numbers
            ∙ ap (λ (l : List ℕ). map (λ (g : FileNo). g.0) r.done ++ f.0 ∷ l) (read_numbers reads rest)
            ∙ sym (numbers-append r.done (f ∷ rest) (λ g. g.0))
            ∙ ap (map (λ (g : FileNo). g.0)) (sym (r.parts ∙ ap (λ (l : List FileNo). r.done ++ l) is));
        observed = λ t. all_append (λ (e : ℕ × List ℕ). e.1 ≡ content reads e.0) r.held (x ∷ behind) (r.are_of.observed t)
            (stops.observed t ∙ ap (λ (files_ : Files). content files_ f.0) (same t), read_observed reads rest);
      };
      found = r.none (x ∷ behind) (ap suc len ∙ sym (ap length is)) ∙ first_corruption f.0 stops.bytes behind last (Some corruption) (ap (λ n. n == 0) len ∙ at) stops.wrong;
    }

rose_earlier : (before mid after : ℕ) → before ≤ mid → mid ≤ after → HasRisen mid after → HasRisen before after
rose_earlier before mid after first second rose = grind (arith, common_steps)

pub file_stops : {T : Type 0} (observable : Bool) (reads now_ : Files) (files left rest : List FileNo) (f : FileNo) (so_far : List FileLines) (last : Bool) (before mid after : ℕ) (r : Result T LogErr) (e : LogErr) →
    (observable ≡ true → now_ ≡ reads) → before ≤ mid → mid ≤ after → IsReadingLines observable reads files left so_far → left ≡ f ∷ rest → (length rest == 0) ≡ last → IsErrAnd r (λ x. x ≡ e) →
    StopsAtFile observable now_ last f.0 mid after e → IfErr r (StopsAmong observable reads files before after)
file_stops observable reads now_ files left rest f so_far last before mid after (Ok v) e same first second r is at err stops = tt
file_stops observable reads now_ files left rest f so_far last before mid after (Err x) e same first second r is at err stops =
    reading_stops observable reads now_ files left rest f so_far last before mid after x same first second (rose_earlier before mid after first second) r is at
    (subst (StopsAtFile observable now_ last f.0 mid after) (sym err) stops)

pub memory_stops : {T : Type 0} (observable : Bool) (reads : Files) (files : List FileNo) (before after : ℕ) (r : Result T LogErr) → IsErrAnd r (λ x. x ≡ Memory) → IfErr r (StopsAmong observable reads files before after)
memory_stops observable reads files before after (Ok v) err = tt
memory_stops observable reads files before after (Err x) err = subst (StopsAmong observable reads files before after) (sym err) tt

-- ---- the log

no_numbers : (held : List (ℕ × List ℕ)) (files : List FileNo) → map (λ e. e.0) held ≡ map (λ f. f.0) files → held ≡ [] → files ≡ []
no_numbers held [] numbers none = refl
no_numbers [] (f ∷ files) numbers none = cc
no_numbers (x ∷ held) (f ∷ files) numbers none = cc

pub log_read : (observable : Bool) (before mid : Files) (files : List FileNo) (lines : List FileLines) → (observable ≡ true → mid ≡ before) → files ≢ [] → AreRisingNumbers files →
    (observable ≡ true → IsListing before files) → IsReadingLines observable mid files [] lines → IsLogOf observable before lines
log_read observable before mid files lines same some rising listing r =
    let all : files ≡ r.done = r.parts ∙ append-nil r.done in
    record {
      held = r.held;
      are = λ t. listed before files r.held (r.are_of.numbers ∙ ap (map (λ (f : FileNo). f.0)) (sym all))
          (subst (λ (reads : Files). AllByRecursion (λ (e : ℕ × List ℕ). e.1 ≡ content reads e.0) r.held) (same t) (r.are_of.observed t)) rising (listing t);
      some = λ none. some (no_numbers r.held files (r.are_of.numbers ∙ ap (map (λ (f : FileNo). f.0)) (sym all)) none);
      none = ap corruption_in (sym (append-nil r.held)) ∙ r.none [] refl;
      text = r.text;
    }

log_stops : (observable : Bool) (before mid : Files) (files : List FileNo) (first then_ after : ℕ) (e : LogErr) → (observable ≡ true → mid ≡ before) → files ≢ [] → AreRisingNumbers files →
    (observable ≡ true → IsListing before files) → (HasRisen then_ after → HasRisen first after) → StopsAmong observable mid files then_ after e → StopsLog observable before first after e
log_stops observable before mid files first then_ after Disk same some rising listing rose stops = rose stops
log_stops observable before mid files first then_ after Memory same some rising listing rose stops = tt
log_stops observable before mid files first then_ after NoFile same some rising listing rose stops = absurd (some stops)
log_stops observable before mid files first then_ after (Corrupt corruption) same some rising listing rose stops = record {
  held = stops.held;
  are = λ t. listed before files stops.held stops.are_of.numbers
      (subst (λ (reads : Files). AllByRecursion (λ (e : ℕ × List ℕ). e.1 ≡ content reads e.0) stops.held) (same t) (stops.are_of.observed t)) rising (listing t);
  found = stops.found;
}

-- the listing failed
pub listing_stops : {T U : Type 0} (observable : Bool) (reads : Files) (before after : ℕ) (r : Result T LogErr) (failure : DiskErr) → IsErrAnd r (λ e. e ≡ error_of failure) →
    HasCause {T = U} before after (Err failure) → IfErr r (StopsLog observable reads before after)
listing_stops {T} {U} observable reads before after r failure is cause = disk_stops {T = T} {U = U} (StopsLog observable reads before after) before after r failure is cause (λ rose. rose) tt

-- the files were not read
pub files_stop : {T : Type 0} (observable : Bool) (before mid : Files) (files : List FileNo) (first then_ after : ℕ) (r : Result T LogErr) → (observable ≡ true → mid ≡ before) → files ≢ [] → AreRisingNumbers files →
    (observable ≡ true → IsListing before files) → first ≤ then_ → then_ ≤ after → IfErr r (StopsAmong observable mid files then_ after) → IfErr r (StopsLog observable before first after)
files_stop observable before mid files first then_ after (Ok v) same some rising listing early late stops = tt
files_stop observable before mid files first then_ after (Err e) same some rising listing early late stops =
    log_stops observable before mid files first then_ after e same some rising listing (rose_earlier first then_ after early late) stops

-- a disk whose listing is empty has no file
pub none_listed : (reads : Files) (files : List FileNo) → files ≡ [] → IsListing reads files → HasNoFile reads
none_listed reads files none listing f = by_file (reads f) refl
  where
    by_file : (o : Option (List ℕ)) → reads f ≡ o → o ≡ None
    by_file None is = refl
    by_file (Some bytes) is =
        let some = (listing f).1 (ap is_some is) in
        let within = some.1 in
        let nothing : length (map (λ (g : FileNo). g.0) files) ≡ 0 = ap (λ (l : List FileNo). length (map (λ (g : FileNo). g.0) l)) none in
        absurd (omega (arith, within, nothing))
