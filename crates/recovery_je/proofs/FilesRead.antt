-- A reading of files that is under way.
use Rattle.std.proofs.Common.{◌≡◌, ℕ, zero, suc, take, get_or, add-one, ◌==◌, Bool, true, List, [], ◌∷◌, ◌++◌, ◌+◌, ◌*◌, ◌<◌, ◌^◌, arith, Fits, w32, Option, Some, None, map, length, refl, sym, ap, ap₂, subst, ◌∙◌, append_assoc}
use Rattle.std.proofs.lemmas.List.{append-nil, map-append}
use Rattle.std.specs.List.{AllByRecursion}
use Rattle.je_bytes.specs.Reading.{AreBytes}
use Rattle.je_disk.specs.States.{Files, content}
use Rattle.je_lsn.specs.declared.file_no.FileNo.{FileNo}
use Rattle.log_entry.specs.declared.entry.Entry.{Entry}
use Rattle.log_file.specs.declared.file_scan.FileScan.TheVariants.{Prefix}
use Rattle.log_file.specs.declared.valid_prefix.ValidPrefix.{ValidPrefix}
use Rattle.log_file.specs.Scan.{scan_of, sizes_of}
use Rattle.log_file.specs.Log.{AreFileEntries, entries_scanned, log_in}
use Rattle.log_replay.specs.declared.corruption.Corruption.{Corruption}
use Rattle.log_replay.specs.declared.last_file.LastFile.{LastFile}
use Rattle.log_replay.specs.Wrong.{or_else}
use Rattle.log_replay.specs.Reading.{corruption_at, corruption_in, files_read}
use Rattle.log_replay.specs.UnderWay.{HaveCorruption}
use Rattle.log_entry.specs.Encoding.{size_of}
use Rattle.log_trees.specs.Placed.{Placed, placed_from, placed}
use Rattle.recovery_je.specs.declared.reading.FileRead.{FileRead}
use Rattle.recovery_je.specs.declared.reading.FileRead.TheVariants.{GoesOn, Stops}
use Rattle.recovery_je.specs.LogRead.{offsets_from, entries_in, entries_of_files, AreInside, AreFilesOf, AreStanding}
use Rattle.recovery_je.specs.Scanned.{HasGoneOn, IsFileRead}
use Rattle.recovery_je.specs.declared.file_len.FileLen.{FileLen}
use Rattle.recovery_je.specs.declared.reading.FilesRead.{FilesRead}
use Rattle.recovery_je.specs.declared.reading.FilesRead.TheVariants.{All as AllRead, Stopped}
use Rattle.recovery_je.specs.Files.{IsReading, AreRead}
use Rattle.recovery_je.specs.Measuring.{IsMeasuring, AreMeasured, len_of, len_read, with_header}
use Rattle.check_laws.specs.Check.{count_scanned, end_scanned}
use Rattle.recovery_je.proofs.EntryPlaces.{inside_in}
use Rattle.je_order.proofs.Lists.{all_append, all_push}
use Rattle.log_replay.proofs.FilesLaws.{numbers-append, entries_scanned-are}
use Rattle.log_replay.proofs.ListedLaws.{read_numbers, read_length, read_observed}

unfoldable pub reading_begins : (observable : Bool) (reads : Files) (files : List FileNo) → IsReading observable reads files files [] None
reading_begins observable reads files = record {
  done = [];
  parts = refl;
  held = [];
  are_of = record { numbers = refl; observed = λ t. tt };
  bytes = tt;
  fits = tt;
  none = λ more len. refl;
  entries_are = refl;
  last = refl;
}

-- what comes of a file with others behind it
pub first_corruption : (f : ℕ) (bytes : List ℕ) (more : List (ℕ × List ℕ)) (last : Bool) (o : Option Corruption) → (length more == 0) ≡ last →
    corruption_at last f (length bytes) (scan_of f bytes) ≡ o → corruption_in ((f, bytes) ∷ more) ≡ or_else o (corruption_in more)
first_corruption f bytes more last o at is =
    ap (λ (b : Bool). or_else (corruption_at b f (length bytes) (scan_of f bytes)) (corruption_in more)) at ∙ ap (λ (p : Option Corruption). or_else p (corruption_in more)) is

-- the entries of a log with one file more
pub placed-push : (held : List (ℕ × List ℕ)) (x : ℕ × List ℕ) → placed (log_in (held ++ x ∷ [])) ≡ placed (log_in held) ++ placed_from x.0 26 (entries_scanned (scan_of x.0 x.1))
placed-push [] x = append-nil (placed_from x.0 26 (entries_scanned (scan_of x.0 x.1)))
placed-push (h ∷ held) x =
    ap (λ (l : List Placed). placed_from h.0 26 (entries_scanned (scan_of h.0 h.1)) ++ l) (placed-push held x)
    ∙ sym (append_assoc (placed_from h.0 26 (entries_scanned (scan_of h.0 h.1))) (placed (log_in held)) (placed_from x.0 26 (entries_scanned (scan_of x.0 x.1))))

unfoldable pub reading_goes_on : (observable : Bool) (reads : Files) (files left rest : List FileNo) (f : FileNo) (es : List Placed) (before : Option LastFile) (file : ℕ × List Placed) (tail : LastFile) (last : Bool) →
    IsReading observable reads files left es before → left ≡ f ∷ rest → (length rest == 0) ≡ last → IsFileRead observable reads last f.0 (GoesOn file tail) → f.0 < 2 ^ 32 →
    IsReading observable reads files rest (es ++ file.1) (Some tail)
reading_goes_on observable reads files left rest f es before file tail last so_far is at read fits =
    let bytes = read.bytes in
    let gone : HasGoneOn last f.0 bytes file tail = read.is in
    let x : ℕ × List ℕ = (f.0, bytes) in
    let number : f.0 ≡ tail.file.0 = sym (ap (λ (g : FileNo). g.0) gone.number) in
    record {
      done = so_far.done ++ f ∷ [];
      parts = so_far.parts ∙ ap (λ (l : List FileNo). so_far.done ++ l) is ∙ sym (append_assoc so_far.done (f ∷ []) rest);
      held = so_far.held ++ x ∷ [];
      are_of = record {
        numbers = numbers-append so_far.held (x ∷ []) (λ e. e.0) ∙ ap (λ (l : List ℕ). l ++ f.0 ∷ []) so_far.are_of.numbers ∙ sym (numbers-append so_far.done (f ∷ []) (λ g. g.0));
        observed = λ t. all_push (λ (e : ℕ × List ℕ). e.1 ≡ content reads e.0) so_far.held x (so_far.are_of.observed t) (read.observed t);
      };
      bytes = all_push (λ (e : ℕ × List ℕ). AreBytes e.1) so_far.held x so_far.bytes read.are;
      fits = all_push (λ (e : ℕ × List ℕ). e.0 < 2 ^ 32) so_far.held x so_far.fits fits;
      none = λ more len.
          ap corruption_in (append_assoc so_far.held (x ∷ []) more)
          ∙ so_far.none (x ∷ more) (ap suc len ∙ sym (ap length is))
          ∙ first_corruption f.0 bytes more last None (ap (λ n. n == 0) len ∙ at) gone.none;
      entries_are = ap₂ (λ (l k : List Placed). l ++ k) so_far.entries_are (ap (λ (g : ℕ × List Placed). g.1) gone.file_is) ∙ sym (placed-push so_far.held x);
      last = record {
        before = so_far.held;
        bytes = bytes;
        parts = ap (λ (n : ℕ). let p : ℕ × List ℕ = (n, bytes) in so_far.held ++ p ∷ []) number;
        found = subst (λ (n : ℕ). scan_of n bytes ≡ Prefix (record { entries = entries_scanned (scan_of n bytes); last = tail.last; end = tail.end })) number gone.found;
        len = gone.len;
      };
    }

-- with how long each file is
pub standing_length : (f : ℕ) (bytes offsets : List ℕ) (es : List Placed) → AreStanding f bytes offsets es → length offsets ≡ length es
standing_length f bytes [] [] standing = refl
standing_length f bytes [] (p ∷ es) standing = absurd standing
standing_length f bytes (at ∷ offsets) [] standing = absurd standing
standing_length f bytes (at ∷ offsets) (p ∷ es) standing = ap suc (standing_length f bytes offsets es standing.2)

placed_length : (f at : ℕ) (entries : List Entry) → length (placed_from f at entries) ≡ length entries
placed_length f at [] = refl
placed_length f at (e ∷ entries) = ap suc (placed_length f (at + size_of e) entries)

read_len : (f : ℕ) (bytes : List ℕ) (file : ℕ × List Placed) (tail : LastFile) (last : Bool) → HasGoneOn last f bytes file tail → len_read tail file.1 ≡ len_of (f, bytes)
read_len f bytes file tail last gone =
    let count : with_header tail.end (length file.1) ≡ count_scanned (scan_of f bytes) =
    ap (λ (g : ℕ × List Placed). with_header tail.end (length g.1)) gone.file_is
    ∙ ap (with_header tail.end) (placed_length f 26 (entries_scanned (scan_of f bytes)))
    ∙ sym (ap count_scanned gone.found) in
    let end : tail.end ≡ end_scanned (scan_of f bytes) = sym (ap end_scanned gone.found) in
    ap₂ (λ (n : FileNo) (k : ℕ). record { number = n; len = k; entries = with_header tail.end (length file.1); end = tail.end }) gone.number gone.len
    ∙ ap₂ (λ (k : ℕ) (m : ℕ). record { number = record { 0 = f }; len = length bytes; entries = k; end = m }) count end

pub measuring_begins : (observable : Bool) (reads : Files) (files : List FileNo) (lens : List FileLen) → lens ≡ [] → IsMeasuring observable reads files files [] None lens
unfolding reading_begins
measuring_begins observable reads files lens none = record { reading = reading_begins observable reads files; lens_are = none }

pub measuring_goes_on : (observable : Bool) (reads : Files) (files left rest : List FileNo) (f : FileNo) (es : List Placed) (before : Option LastFile) (file : ℕ × List Placed) (tail : LastFile) (last : Bool) (lens more : List FileLen) →
    IsMeasuring observable reads files left es before lens → left ≡ f ∷ rest → (length rest == 0) ≡ last → IsFileRead observable reads last f.0 (GoesOn file tail) → f.0 < 2 ^ 32 → more ≡ lens ++ len_read tail file.1 ∷ [] →
    IsMeasuring observable reads files rest (es ++ file.1) (Some tail) more
unfolding reading_goes_on
measuring_goes_on observable reads files left rest f es before file tail last lens more so_far is at read fits more_is =
    let gone : HasGoneOn last f.0 read.bytes file tail = read.is in
    record {
      reading = reading_goes_on observable reads files left rest f es before file tail last so_far.reading is at read fits;
      lens_are =
          more_is
          ∙ ap₂ (λ (l : List FileLen) (n : FileLen). l ++ n ∷ []) so_far.lens_are (read_len f.0 read.bytes file tail last gone)
          ∙ sym (map-append len_of so_far.reading.held ((f.0, read.bytes) ∷ []));
    }

pub measured : (observable : Bool) (reads : Files) (files : List FileNo) (lens : List FileLen) (read : FilesRead) → AreMeasured observable reads files lens read → AreRead observable reads files read
measured observable reads files lens (Stopped corruption) have = have
measured observable reads files lens (AllRead es notes tail) all = all.reading

-- what was read where the disk reads the same
pub read_along : (observable : Bool) (before now_ : Files) (last : Bool) (f : ℕ) (read : FileRead) → (observable ≡ true → now_ ≡ before) →
    IsFileRead observable now_ last f read → IsFileRead observable before last f read
read_along observable before now_ last f read same is = record {
  bytes = is.bytes;
  are = is.are;
  observed = λ t. is.observed t ∙ ap (λ (reads : Files). content reads f) (same t);
  is = is.is;
}

pub reading_stops : (observable : Bool) (reads : Files) (files left rest : List FileNo) (f : FileNo) (es : List Placed) (tail : Option LastFile) (corruption : Corruption) (last : Bool) →
    IsReading observable reads files left es tail → left ≡ f ∷ rest → (length rest == 0) ≡ last → IsFileRead observable reads last f.0 (Stops corruption) →
    HaveCorruption observable reads files corruption
reading_stops observable reads files left rest f es tail corruption last so_far is at read =
    let x : ℕ × List ℕ = (f.0, read.bytes) in
    let behind = files_read reads rest in
    let len : length behind ≡ length rest = read_length reads rest in
    record {
      held = so_far.held ++ x ∷ behind;
      are_of = record {
        numbers =
            numbers-append so_far.held (x ∷ behind) (λ e. e.0)
            ∙ ap (λ (l : List ℕ). l ++ f.0 ∷ map (λ (e : ℕ × List ℕ). e.0) behind) so_far.are_of.numbers
            ∙ ap (λ (l : List ℕ). map (λ (g : FileNo). g.0) so_far.done ++ f.0 ∷ l) (read_numbers reads rest)
            ∙ sym (numbers-append so_far.done (f ∷ rest) (λ g. g.0))
            ∙ ap (map (λ (g : FileNo). g.0)) (sym (so_far.parts ∙ ap (λ (l : List FileNo). so_far.done ++ l) is));
        observed = λ t. all_append (λ (e : ℕ × List ℕ). e.1 ≡ content reads e.0) so_far.held (x ∷ behind) (so_far.are_of.observed t) (read.observed t, read_observed reads rest);
      };
      found = so_far.none (x ∷ behind) (ap suc len ∙ sym (ap length is)) ∙ first_corruption f.0 read.bytes behind last (Some corruption) (ap (λ n. n == 0) len ∙ at) read.is;
    }

-- ---- one file

-- the entries of its valid prefix may stand there
pub may_stand : (f : ℕ) (bytes : List ℕ) (prefix : ValidPrefix) → AreBytes bytes → scan_of f bytes ≡ Prefix prefix → AreFileEntries prefix.entries
may_stand f bytes prefix are is = subst AreFileEntries (ap entries_scanned is) (entries_scanned-are f bytes are)

pub stops_at : (last : Bool) (f : ℕ) (bytes : List ℕ) (prefix : ValidPrefix) (found : Option Corruption) (len : ℕ) (corruption : Corruption) → scan_of f bytes ≡ Prefix prefix → len ≡ length bytes →
    found ≡ corruption_at last f len (Prefix prefix) → found ≡ Some corruption → corruption_at last f (length bytes) (scan_of f bytes) ≡ Some corruption
stops_at last f bytes prefix found len corruption is len_is found_is some =
    ap (corruption_at last f (length bytes)) is ∙ ap (λ (n : ℕ). corruption_at last f n (Prefix prefix)) (sym len_is) ∙ sym found_is ∙ some

pub goes_on_at : (last : Bool) (f : ℕ) (bytes offsets : List ℕ) (prefix : ValidPrefix) (found : Option Corruption) (len : ℕ) (file : ℕ × List Placed) (tail : LastFile) → scan_of f bytes ≡ Prefix prefix → len ≡ length bytes →
    found ≡ corruption_at last f len (Prefix prefix) → found ≡ None → file ≡ (f, entries_in f bytes) → tail ≡ record { file = record { 0 = f }; last = prefix.last; end = prefix.end; len = len } →
    HasGoneOn last f bytes file tail
goes_on_at last f bytes offsets prefix found len file tail is len_is found_is none file_is tail_is = record {
  none = ap (corruption_at last f (length bytes)) is ∙ ap (λ (n : ℕ). corruption_at last f n (Prefix prefix)) (sym len_is) ∙ sym found_is ∙ none;
  found =
      let entries : prefix.entries ≡ entries_scanned (scan_of f bytes) = sym (ap entries_scanned is) in
      is
      ∙ ap (λ (l : List Entry). Prefix (record { entries = l; last = prefix.last; end = prefix.end })) entries
      ∙ ap (λ (t : LastFile). Prefix (record { entries = entries_scanned (scan_of f bytes); last = t.last; end = t.end })) (sym tail_is);
  number = ap (λ (t : LastFile). t.file) tail_is;
  len = ap (λ (t : LastFile). t.len) tail_is ∙ len_is;
  file_is = file_is;
}

-- ---- its entries, one after another

pub offsets_more : (at len : ℕ) (out new all : List ℕ) (left rest : List Entry) (entry : Entry) → out ++ offsets_from at left ≡ all → left ≡ entry ∷ rest → new ≡ out ++ at ∷ [] → len ≡ size_of entry →
    new ++ offsets_from (at + len) rest ≡ all
offsets_more at len out new all left rest entry so_far is more_is size =
    ap (λ (l : List ℕ). l ++ offsets_from (at + len) rest) more_is
    ∙ append_assoc out (at ∷ []) (offsets_from (at + len) rest)
    ∙ ap (λ (n : ℕ). out ++ at ∷ offsets_from (at + n) rest) size
    ∙ ap (λ (l : List Entry). out ++ offsets_from at l) (sym is)
    ∙ so_far

pub placed_more : (f at len : ℕ) (done all : List Placed) (left rest : List Entry) (entry : Entry) → done ++ placed_from f at left ≡ all → left ≡ entry ∷ rest → len ≡ size_of entry →
    (done ++ (f * 2 ^ 32 + at, entry) ∷ []) ++ placed_from f (at + len) rest ≡ all
placed_more f at len done all left rest entry so_far is size =
    append_assoc done ((f * 2 ^ 32 + at, entry) ∷ []) (placed_from f (at + len) rest)
    ∙ ap (λ (n : ℕ). let p : Placed = (f * 2 ^ 32 + at, entry) in done ++ p ∷ placed_from f (at + n) rest) size
    ∙ ap (λ (l : List Entry). done ++ placed_from f at l) (sym is)
    ∙ so_far

pub ends_below : (at len : ℕ) (left rest : List Entry) (entry : Entry) → left ≡ entry ∷ rest → len ≡ size_of entry → at + sizes_of left < 2 ^ 32 → Fits w32 (at + len)
ends_below at len left rest entry is size below = omega (arith, ap sizes_of is, size, below)

pub offsets_all : (at : ℕ) (out all : List ℕ) (left : List Entry) → out ++ offsets_from at left ≡ all → left ≡ [] → out ≡ all
offsets_all at out all left so_far none = sym (append-nil out) ∙ ap (λ (l : List Entry). out ++ offsets_from at l) (sym none) ∙ so_far

pub placed_all : (f at : ℕ) (done all : List Placed) (left : List Entry) → done ++ placed_from f at left ≡ all → left ≡ [] → done ≡ all
placed_all f at done all left so_far none = sym (append-nil done) ∙ ap (λ (l : List Entry). done ++ placed_from f at l) (sym none) ∙ so_far

-- ---- files, one after another

take_next : {A B : Type 0} (g : A → B) (xs : List A) (i : ℕ) (none : A) → i < length xs → map g (take (suc i) xs) ≡ map g (take i xs) ++ g (get_or xs i none) ∷ []
take_next g [] i none lt = absurd (omega (arith, lt))
take_next g (x ∷ xs) zero none lt = refl
take_next g (x ∷ xs) (suc i) none lt = ap (λ (l : List _). g x ∷ l) (take_next g xs i none (omega (arith, lt)))

pub take_more : {A B : Type 0} (g : A → B) (xs : List A) (i : ℕ) (none : A) → i < length xs → map g (take (i + 1) xs) ≡ map g (take i xs) ++ g (get_or xs i none) ∷ []
take_more g xs i none lt = ap (λ (n : ℕ). map g (take n xs)) (add-one i) ∙ take_next g xs i none lt

pub in_files-append : (a b : List (ℕ × List Placed)) → entries_of_files (a ++ b) ≡ entries_of_files a ++ entries_of_files b
in_files-append [] b = refl
in_files-append (f ∷ a) b = ap (λ (l : List Placed). f.1 ++ l) (in_files-append a b) ∙ sym (append_assoc f.1 (entries_of_files a) (entries_of_files b))

pub in_files-push : (files new : List (ℕ × List Placed)) (file : ℕ × List Placed) → new ≡ files ++ file ∷ [] → entries_of_files new ≡ entries_of_files files ++ file.1
in_files-push files new file is = ap entries_of_files is ∙ in_files-append files (file ∷ []) ∙ ap (λ (l : List Placed). entries_of_files files ++ l) (append-nil file.1)

-- one file more is held
pub held_more : (numbers more : List ℕ) (files new : List (ℕ × List Placed)) (file : ℕ × List Placed) (f : ℕ) → AreFilesOf numbers files → more ≡ numbers ++ f ∷ [] → new ≡ files ++ file ∷ [] → file.0 ≡ f → AreInside file.0 file.1 → AreFilesOf more new
held_more numbers more files new file f held more_is new_is number inside =
    let pushed : map (λ (g : ℕ × List Placed). g.0) (files ++ file ∷ []) ≡ map (λ (g : ℕ × List Placed). g.0) files ++ file.0 ∷ [] = map-append (λ (g : ℕ × List Placed). g.0) files (file ∷ []) in
    record {
      numbers_are =
          more_is
          ∙ ap (λ (l : List ℕ). l ++ f ∷ []) held.numbers_are
          ∙ ap (λ (n : ℕ). map (λ (g : ℕ × List Placed). g.0) files ++ n ∷ []) (sym number)
          ∙ sym pushed
          ∙ ap (map (λ (g : ℕ × List Placed). g.0)) (sym new_is);
      inside = subst (AllByRecursion (λ (g : ℕ × List Placed). AreInside g.0 g.1)) (sym new_is) (all_push (λ (g : ℕ × List Placed). AreInside g.0 g.1) files file held.inside inside);
    }

-- the file that was read is the one of its number
pub gone_inside : (observable : Bool) (reads : Files) (last : Bool) (f : ℕ) (file : ℕ × List Placed) (tail : LastFile) → IsFileRead observable reads last f (GoesOn file tail) → (file.0 ≡ f) × AreInside file.0 file.1
gone_inside observable reads last f file tail read =
    let gone : HasGoneOn last f read.bytes file tail = read.is in
    (ap (λ (g : ℕ × List Placed). g.0) gone.file_is, subst (λ (g : ℕ × List Placed). AreInside g.0 g.1) (sym gone.file_is) (inside_in f read.bytes read.are))
