-- The log of files that were read, once the rest of the last one is cut off.
use Rattle.std.proofs.Common.{◌≡◌, ◌≢◌, ℕ, ◌+◌, ◌<◌, ◌^◌, ◌==◌, cond, Bool, true, false, not, List, [], ◌∷◌, ◌++◌, map, length, take, Option, None, Some, option_map, refl, ap, sym, ◌∙◌, subst, arith}
use Rattle.std.specs.List.{AllByRecursion}
use Rattle.std.specs.List.Sorted.{IsStrictlyIncreasing}
use Rattle.std.specs.Map.{lookup}
use Rattle.std.proofs.lemmas.Bool.{eqb-true, eq-eqb, ne_eqb}
use Rattle.std.proofs.lemmas.List.{take_all}
use Rattle.std.proofs.lemmas.Bool.Decides.{nat_tests}
use Rattle.je_bytes.specs.Reading.{AreBytes}
use Rattle.je_disk.specs.States.{Files}
use Rattle.log_entry.specs.declared.entry.Entry.{Entry}
use Rattle.log_entry.specs.declared.entry.Entry.TheVariants.{FileHeader}
use Rattle.log_entry.specs.declared.decoder.Decoded.{Decoded}
use Rattle.log_entry.specs.declared.decoder.Decoded.TheVariants.{Whole, Torn as NotWhole}
use Rattle.log_entry.specs.Reading.{decoded}
use Rattle.log_file.specs.declared.valid_prefix.ValidPrefix.{ValidPrefix}
use Rattle.log_file.specs.declared.file_scan.FileScan.{FileScan}
use Rattle.log_file.specs.declared.file_scan.FileScan.TheVariants.{Damaged, Prefix, VersionUnknown}
use Rattle.log_file.specs.Laws.{AreEncodedBack, IsEncodedBack}
use Rattle.log_file.specs.Log.{Log, IsLog, AreFileEntries, entries_scanned, file_bytes, files_of_log, log_in}
use Rattle.log_file.specs.Scan.{entries_behind, scan_of, scan_by, no_prefix, prefix_with, sizes_of}

-- a file that was read: its number and its bytes
abbrev File : Type 0
File = ℕ × List ℕ

-- a file that is its valid prefix, to its end
pub record IsFull (file : File) : Type 0 where
  pub run : ValidPrefix
  pub found : scan_of file.0 file.1 ≡ Prefix run
  pub has_header : 0 < run.end
  pub to_end : run.end ≡ length file.1

-- files of which each is full
abbrev pub AreFull : List File → Type 0
AreFull = AllByRecursion IsFull

-- bytes, in files with numbers of log files
pub record IsFile (file : File) : Type 0 where
  pub bytes : AreBytes file.1
  pub number : file.0 < 2 ^ 32

-- ---- one file

-- a full file's bytes are its entries, encoded
full_bytes : (file : File) → AreEncodedBack → IsFile file → IsFull file → (file_bytes file.0 (entries_scanned (scan_of file.0 file.1)) ≡ file.1) × AreFileEntries (entries_scanned (scan_of file.0 file.1))
full_bytes file back is full =
    let encoded : IsEncodedBack file.0 file.1 full.run = back file.0 file.1 full.run is.bytes full.found full.has_header in
    let entries : entries_scanned (scan_of file.0 file.1) ≡ full.run.entries = ap entries_scanned full.found in
    let whole : take full.run.end file.1 ≡ file.1 = take_all full.run.end file.1 (omega (arith, full.to_end)) in (
      ap (file_bytes file.0) entries ∙ sym encoded.parts ∙ whole,
      subst (λ (es : List Entry). AreFileEntries es) (sym entries) encoded.entries,
    )

-- ---- the log in files

pub log_in-append : (a b : List File) → log_in (a ++ b) ≡ log_in a ++ log_in b
log_in-append [] b = refl
log_in-append (file ∷ a) b = ap (λ (l : Log). (file.0, entries_scanned (scan_of file.0 file.1)) ∷ l) (log_in-append a b)

pub numbers_of-log_in : (held : List File) → map (λ (file : ℕ × List Entry). file.0) (log_in held) ≡ map (λ (file : File). file.0) held
numbers_of-log_in [] = refl
numbers_of-log_in (file ∷ held) = ap (λ ns. file.0 ∷ ns) (numbers_of-log_in held)

-- a look-up in the files of a log that full files are
files_are : (held : List File) → AreEncodedBack → AllByRecursion IsFile held → AreFull held → (g : ℕ) → lookup (λ n. n == g) held ≡ files_of_log (log_in held) g
files_are [] back is full g = refl
files_are (file ∷ held) back is full g = by_case (file.0 == g) refl (files_are held back is.1 full.1 g)
  where
    by_case : (b : Bool) → (file.0 == g) ≡ b → lookup (λ n. n == g) held ≡ files_of_log (log_in held) g → lookup (λ n. n == g) (file ∷ held) ≡ files_of_log (log_in (file ∷ held)) g
    by_case true e rest =
        let same : file.0 ≡ g = eqb-true file.0 g e in
        let bytes : file_bytes g (entries_scanned (scan_of file.0 file.1)) ≡ file.1 = ap (λ n. file_bytes n (entries_scanned (scan_of file.0 file.1))) (sym same) ∙ (full_bytes file back is.0 full.0).0 in
        rw e (ap (λ (x : List ℕ). Some x) (sym bytes))
    by_case false e rest = rw e rest

-- a look-up among files of which the last has another number
lookup-other : {X : Type 0} (front : List (ℕ × X)) (f g : ℕ) (x : X) → g ≢ f → lookup (λ n. n == g) (front ++ (f, x) ∷ []) ≡ lookup (λ n. n == g) front
lookup-other [] f g x other = let no : (f == g) ≡ false = ne_eqb f g (λ e. other (sym e)) in rw no refl
lookup-other {X} (file ∷ front) f g x other = ap (λ (o : Option X). cond (file.0 == g) (Some file.1) o) (lookup-other front f g x other)

-- a look-up of the last number, where no file before has it
abbrev pub NoneIs : {X : Type 0} → ℕ → List (ℕ × X) → Type 0
NoneIs f = AllByRecursion (λ file. file.0 ≢ f)

pub lookup-last : {X : Type 0} (front : List (ℕ × X)) (f : ℕ) (x : X) → NoneIs f front → lookup (λ n. n == f) (front ++ (f, x) ∷ []) ≡ Some x
lookup-last [] f x none = let yes : (f == f) ≡ true = eq-eqb f f refl in rw yes refl
lookup-last (file ∷ front) f x none = let no : (file.0 == f) ≡ false = ne_eqb file.0 f none.0 in rw no (lookup-last front f x none.1)

lookup-none : {X : Type 0} (front : List (ℕ × X)) (f : ℕ) → NoneIs f front → lookup (λ n. n == f) front ≡ None
lookup-none [] f none = refl
lookup-none (file ∷ front) f none = let no : (file.0 == f) ≡ false = ne_eqb file.0 f none.0 in rw no (lookup-none front f none.1)

-- ---- the last file

-- a first entry gives a run only with a header
first_by : (other version file : Bool) (n : ℕ) (es : List Entry) (run : ValidPrefix) →
    cond other Damaged (cond version (VersionUnknown n) (cond file (Prefix (prefix_with es)) Damaged)) ≡ Prefix run → 0 < run.end
first_by true version file n es run found = cc
first_by false true file n es run found = cc
first_by false false true n es run found =
    let is : prefix_with es ≡ run = ap bytes_in found in
    let end : 26 + sizes_of es ≡ run.end = ap (λ (r : ValidPrefix). r.end) is in
    omega (arith, end)
  where
    bytes_in : FileScan → ValidPrefix
    bytes_in (Prefix r) = r
    bytes_in found = no_prefix
first_by false false false n es run found = cc

-- the offset of the last entry of a run, 0 where there is none
abbrev last_found : FileScan → ℕ
last_found (Prefix r) = r.last
last_found found = 0

-- a run without a header has no entries
headless_by : (f : ℕ) (bytes : List ℕ) (d : Decoded) (run : ValidPrefix) → scan_by f bytes d ≡ Prefix run → run.end ≡ 0 → (run.entries ≡ []) × (run.last ≡ 0)
headless_by f bytes (NotWhole torn) run found none = (ap entries_scanned (sym found), ap last_found (sym found))
headless_by f bytes (Whole (FileHeader version file) prev len) run found none =
    let some = first_by (not (prev == 0)) (not (version == 1)) (file == f) version (entries_behind bytes) run found in absurd (omega (arith, some, none))
headless_by f bytes (Whole entry prev len) run found none = (ap entries_scanned (sym found), ap last_found (sym found))

pub headless : (f : ℕ) (bytes : List ℕ) (run : ValidPrefix) → scan_of f bytes ≡ Prefix run → run.end ≡ 0 → (run.entries ≡ []) × (run.last ≡ 0)
headless f bytes run found none = headless_by f bytes (decoded bytes) run found none

-- the entries of a run may stand in a file
run_entries : (f : ℕ) (bytes : List ℕ) (run : ValidPrefix) (b : Bool) → (run.end == 0) ≡ b → AreEncodedBack → AreBytes bytes → scan_of f bytes ≡ Prefix run → AreFileEntries run.entries
run_entries f bytes run true e back are found =
    subst (λ (es : List Entry). AreFileEntries es) (sym (headless f bytes run found (eqb-true run.end 0 e)).0) (record { entries = tt; follow = tt; ends = omega arith })
run_entries f bytes run false e back are found = (back f bytes run are found (grind (arith, nat_tests))).entries

-- ---- all of it

-- the log of these files and a last one
pub log_is : (front : List File) (f : ℕ) (bytes : List ℕ) (run : ValidPrefix) → scan_of f bytes ≡ Prefix run → log_in (front ++ (f, bytes) ∷ []) ≡ log_in front ++ (f, run.entries) ∷ []
log_is front f bytes run found = log_in-append front ((f, bytes) ∷ []) ∙ ap (λ (es : List Entry). log_in front ++ (f, es) ∷ []) (ap entries_scanned found)

-- each file of a log may stand there
each_is : (held : List File) → AreEncodedBack → AllByRecursion IsFile held → AreFull held → AllByRecursion (λ (file : ℕ × List Entry). (file.0 < 2 ^ 32) × AreFileEntries file.1) (log_in held)
each_is [] back is full = tt
each_is (file ∷ held) back is full = ((is.0.number, (full_bytes file back is.0 full.0).1), each_is held back is.1 full.1)

all_snoc : {A : Type 0} (P : A → Type 0) (xs : List A) (x : A) → AllByRecursion P xs → P x → AllByRecursion P (xs ++ x ∷ [])
all_snoc P [] x all last = (last, tt)
all_snoc P (y ∷ xs) x all last = (all.0, all_snoc P xs x all.1 last)

all_front : {A : Type 0} (P : A → Type 0) (xs : List A) (x : A) → AllByRecursion P (xs ++ x ∷ []) → AllByRecursion P xs
all_front P [] x all = tt
all_front P (y ∷ xs) x all = (all.0, all_front P xs x all.1)

all_last : {A : Type 0} (P : A → Type 0) (xs : List A) (x : A) → AllByRecursion P (xs ++ x ∷ []) → P x
all_last P [] x all = all.0
all_last P (y ∷ xs) x all = all_last P xs x all.1

-- what was read is a log: its numbers rise, each file has entries that may stand there, and it ends in its last file
pub is_log : (front : List File) (f : ℕ) (bytes : List ℕ) (run : ValidPrefix) → AreEncodedBack → AllByRecursion IsFile (front ++ (f, bytes) ∷ []) → AreFull front → scan_of f bytes ≡ Prefix run →
    IsStrictlyIncreasing (map (λ (file : File). file.0) (front ++ (f, bytes) ∷ [])) → IsLog (log_in front ++ (f, run.entries) ∷ [])
is_log front f bytes run back is full found rising = record {
  rising = subst (λ ns. IsStrictlyIncreasing ns) (sym (ap (λ (l : Log). map (λ (file : ℕ × List Entry). file.0) l) (sym (log_is front f bytes run found)) ∙ numbers_of-log_in (front ++ (f, bytes) ∷ []))) rising;
  each = all_snoc (λ (file : ℕ × List Entry). (file.0 < 2 ^ 32) × AreFileEntries file.1) (log_in front) (f, run.entries) (each_is front back (all_front IsFile front (f, bytes) is) full)
      ((all_last IsFile front (f, bytes) is).number, run_entries f bytes run (run.end == 0) refl back (all_last IsFile front (f, bytes) is).bytes found);
}

-- the files before the last one are this log's
pub front_reads : (front : List File) (f : ℕ) (bytes : List ℕ) (reads : Files) → AreEncodedBack → AllByRecursion IsFile (front ++ (f, bytes) ∷ []) → AreFull front →
    ((g : ℕ) → lookup (λ n. n == g) (front ++ (f, bytes) ∷ []) ≡ reads g) → (g : ℕ) → g ≢ f → reads g ≡ files_of_log (log_in front) g
front_reads front f bytes reads back is full each g other =
    sym (each g) ∙ lookup-other front f g bytes other ∙ files_are front back (all_front IsFile front (f, bytes) is) full g

-- no file of the log before the last one has its number
none_before : (front : List File) (f : ℕ) → NoneIs f front → NoneIs f (log_in front)
none_before [] f none = tt
none_before (file ∷ front) f none = (none.0, none_before front f none.1)

-- with the rest of the last file cut off, the files are the log's, where it has a header
pub reads_as : (front : List File) (f : ℕ) (bytes : List ℕ) (run : ValidPrefix) (reads after : Files) → AreEncodedBack → AllByRecursion IsFile (front ++ (f, bytes) ∷ []) → AreFull front →
    scan_of f bytes ≡ Prefix run → NoneIs f front → ((g : ℕ) → lookup (λ n. n == g) (front ++ (f, bytes) ∷ []) ≡ reads g) → 0 < run.end → after f ≡ Some (take run.end bytes) →
    ((g : ℕ) → g ≢ f → after g ≡ reads g) → (g : ℕ) → after g ≡ files_of_log (log_in front ++ (f, run.entries) ∷ []) g
reads_as front f bytes run reads after back is full found none each has here others g = by_case (g == f) refl
  where
    by_case : (b : Bool) → (g == f) ≡ b → after g ≡ files_of_log (log_in front ++ (f, run.entries) ∷ []) g
    by_case true e =
        let same : f ≡ g = sym (eqb-true g f e) in
        let encoded = back f bytes run (all_last IsFile front (f, bytes) is).bytes found has in
        let at_f : after f ≡ files_of_log (log_in front ++ (f, run.entries) ∷ []) f =
        here ∙ ap (λ (x : List ℕ). Some x) encoded.parts
        ∙ sym (ap (λ (o : Option (List Entry)). option_map (file_bytes f) o) (lookup-last (log_in front) f run.entries (none_before front f none))) in
        subst (λ n. after n ≡ files_of_log (log_in front ++ (f, run.entries) ∷ []) n) same at_f
    by_case false e =
        let other : g ≢ f = λ x. (let yes : (g == f) ≡ true = eq-eqb g f x in cc) in
        others g other ∙ front_reads front f bytes reads back is full each g other
        ∙ sym (ap (λ (o : Option (List Entry)). option_map (file_bytes g) o) (lookup-other (log_in front) f g run.entries other))
