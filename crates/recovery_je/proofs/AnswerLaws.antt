-- What reading the files of an environment answers.
use Rattle.std.proofs.Common.{◌≡◌, ◌≤◌, ◌+◌, ℕ, Bool, true, List, [], ◌∷◌, Option, None, Some, Result, Ok, Err, map, refl, sym, ap, ap₂, subst, arith, ◌∙◌, ◌<◌, ◌^◌}
use Rattle.std.specs.Prelude.{IsErrAnd, IfOk, IfErr, OnOk}
use Rattle.std.proofs.lemmas.List.{append-nil}
use Rattle.std.specs.List.{AllByRecursion}
use Rattle.je_bytes.specs.Reading.{AreBytes}
use Rattle.je_disk.specs.declared.error.DiskErr.{DiskErr}
use Rattle.je_disk.specs.Causes.{HasCause}
use Rattle.je_disk.specs.States.{Files, IsListing, AreRisingNumbers}
use Rattle.je_order.specs.Counts.{HasRisen}
use Rattle.std.proofs.lemmas.Grind.{common_steps}
use Rattle.je_lsn.specs.declared.file_no.FileNo.{FileNo}
use Rattle.je_order.proofs.Lists.{all_append}
use Rattle.log_entry.specs.declared.entry.Entry.{Entry}
use Rattle.log_entry.specs.Body.{IsEntry}
use Rattle.log_entry.specs.Encoding.{size_of}
use Rattle.log_file.specs.Log.{AreFiles, log_in, entries_scanned, IsLog, AreFileEntries}
use Rattle.log_file.specs.Scan.{scan_of}
use Rattle.log_replay.specs.declared.corruption.Corruption.{Corruption}
use Rattle.log_replay.specs.declared.last_file.LastFile.{LastFile}
use Rattle.log_replay.specs.Reading.{corruption_in}
use Rattle.log_replay.specs.UnderWay.{AreOf, HaveCorruption}
use Rattle.log_replay.proofs.FilesLaws.{entries_scanned-are}
use Rattle.log_replay.proofs.ListedLaws.{same_files, listed}
use Rattle.log_trees.specs.Placed.{Placed, AreInOrder, placed_from, placed}
use Rattle.log_trees.specs.Changes.{LoggedChange}
use Rattle.log_file.proofs.PlacedLaws.{placed_are_in_order}
use Rattle.log_trees.proofs.Right.{read_trees_are_right}
use Rattle.std.specs.List.Sorted.{IsStrictlyIncreasing}
use Rattle.recovery_je.specs.declared.reading.FilesRead.{FilesRead}
use Rattle.recovery_je.specs.declared.reading.FilesRead.TheVariants.{All as AllRead, Stopped}
use Rattle.log_meaning.specs.Redo.{redone}
use Rattle.log_meaning.specs.Checkpoint.{last_checkpoint, behind, restarted}
use Rattle.log_meaning.specs.Meaning.{Meaning}
use Rattle.log_meaning.specs.Reading.{unless, meaning_in, reading_of}
use Rattle.record_tree.specs.Stored.{AllStored}
use Rattle.recovery_je.specs.declared.read_err.ReadErr.{ReadErr}
use Rattle.recovery_je.specs.declared.read_err.ReadErr.TheVariants.{Memory as ReadMemory, Found}
use Rattle.recovery_je.specs.declared.recover_err.RecoverErr.{RecoverErr}
use Rattle.recovery_je.specs.declared.recover_err.RecoverErr.TheVariants.{Disk, Memory, Corrupt, WrongIndex}
use Rattle.recovery_je.specs.Files.{IsReading, AreRead, AreSound}
use Rattle.recovery_je.specs.Putting.{count_redone}
use Rattle.recovery_je.specs.Recovering.{HasTrees, IsMeant, IsFoundBy}
use Rattle.log_replay.specs.Indexed.{wrong_index}
use Rattle.recovery_je.specs.Indexing.{IsIndexCheck}
use Rattle.recovery_je.specs.Answer.{read_error, IsCorruptBy, IsFirstWrong, IsIndexBy, IsNoDiskErr, HasCauseOf, IsReadingOf, HasFiles, HasWrongIndex, IsRecoveredFrom}

-- ---- entries of files that were read

placed_entries : (f at : ℕ) (entries : List Entry) → AllByRecursion IsEntry entries → AllByRecursion (λ (p : Placed). IsEntry p.1) (placed_from f at entries)
placed_entries f at [] all = tt
placed_entries f at (e ∷ entries) all = (all.0, placed_entries f (at + size_of e) entries all.1)

all_entries : (held : List (ℕ × List ℕ)) → AllByRecursion (λ (file : ℕ × List ℕ). AreBytes file.1) held → AllByRecursion (λ (p : Placed). IsEntry p.1) (placed (log_in held))
all_entries [] all = tt
all_entries (h ∷ held) all =
    all_append (λ (p : Placed). IsEntry p.1) (placed_from h.0 26 (entries_scanned (scan_of h.0 h.1))) (placed (log_in held))
    (placed_entries h.0 26 (entries_scanned (scan_of h.0 h.1)) (entries_scanned-are h.0 h.1 all.0).entries) (all_entries held all.1)

-- files that were read are a log
are_log : (held : List (ℕ × List ℕ)) → AllByRecursion (λ (file : ℕ × List ℕ). file.0 < 2 ^ 32) held → AllByRecursion (λ (file : ℕ × List ℕ). AreBytes file.1) held →
    AllByRecursion (λ (file : ℕ × List Entry). (file.0 < 2 ^ 32) × AreFileEntries file.1) (log_in held)
are_log [] fits bytes = tt
are_log (h ∷ held) fits bytes = ((fits.0, entries_scanned-are h.0 h.1 bytes.0), are_log held fits.1 bytes.1)

numbers_in : (held : List (ℕ × List ℕ)) → map (λ (file : ℕ × List Entry). file.0) (log_in held) ≡ map (λ (file : ℕ × List ℕ). file.0) held
numbers_in [] = refl
numbers_in (h ∷ held) = ap (λ (l : List ℕ). h.0 ∷ l) (numbers_in held)

pub sound : (observable : Bool) (reads : Files) (files : List FileNo) (read : FilesRead) → AreRisingNumbers files → AreRead observable reads files read → AreSound read
sound observable reads files (Stopped corruption) rising have = tt
sound observable reads files (AllRead es notes tail) rising all =
    let are_of : AreOf observable reads files all.held = subst (λ (l : List FileNo). AreOf observable reads l all.held) (sym (all.parts ∙ append-nil all.done)) all.are_of in
    let log : IsLog (log_in all.held) = record { rising = subst IsStrictlyIncreasing (sym (numbers_in all.held ∙ are_of.numbers)) rising; each = are_log all.held all.fits all.bytes } in (
      subst AreInOrder (sym all.entries_are) (placed_are_in_order (log_in all.held) log),
      subst (AllByRecursion (λ (p : Placed). IsEntry p.1)) (sym all.entries_are) (all_entries all.held all.bytes),
    )

-- ---- answers

pub stopped : (observable : Bool) (reads : Files) (files : List FileNo) (corruption : Corruption) → AreRisingNumbers files → HaveCorruption observable reads files corruption →
    IsReadingOf observable reads files (λ held. reading_of held ≡ Err corruption)
stopped observable reads files corruption rising have = record {
  held = have.held;
  numbers = have.are_of.numbers;
  observed = λ t. same_files reads files have.held have.are_of.numbers (have.are_of.observed t);
  listed = λ t listing. listed reads files have.held have.are_of.numbers (have.are_of.observed t) rising listing;
  is = ap (λ (o : Option Corruption). unless o (meaning_in (map (λ file. file.0) have.held) (placed (log_in have.held)))) have.found;
}

-- what holds of the entries of all files holds of the files
pub all_read : (observable : Bool) (reads : Files) (files : List FileNo) (es : List Placed) (tail : Option LastFile) (P : List (ℕ × List ℕ) → Type 0) → AreRisingNumbers files →
    (all : IsReading observable reads files [] es tail) → P all.held → IsReadingOf observable reads files P
all_read observable reads files es tail P rising all is =
    let are_of : AreOf observable reads files all.held = subst (λ (l : List FileNo). AreOf observable reads l all.held) (sym (all.parts ∙ append-nil all.done)) all.are_of in
    record {
      held = all.held;
      numbers = are_of.numbers;
      observed = λ t. same_files reads files all.held are_of.numbers (are_of.observed t);
      listed = λ t listing. listed reads files all.held are_of.numbers (are_of.observed t) rising listing;
      is = is;
    }

-- the meaning of files that may all stand where they do
pub by_entries : (observable : Bool) (reads : Files) (files : List FileNo) (es : List Placed) (tail : Option LastFile) (all : IsReading observable reads files [] es tail) →
    reading_of all.held ≡ meaning_in (map (λ f. f.0) files) es
by_entries observable reads files es tail all =
    let are_of : AreOf observable reads files all.held = subst (λ (l : List FileNo). AreOf observable reads l all.held) (sym (all.parts ∙ append-nil all.done)) all.are_of in
    let none : corruption_in all.held ≡ None = ap corruption_in (sym (append-nil all.held)) ∙ all.none [] refl in
    ap (λ (o : Option Corruption). unless o (meaning_in (map (λ file. file.0) all.held) (placed (log_in all.held)))) none
    ∙ ap₂ meaning_in are_of.numbers (sym all.entries_are)

pub recovered : (observable : Bool) (reads : Files) (files : List FileNo) (es : List Placed) (tail : Option LastFile) (meaning : Meaning) (has : ℕ → Bool) (stored : AllStored) (databases records counted : ℕ) (fits : List Placed → Type 0) →
    AreRisingNumbers files → IsReading observable reads files [] es tail → counted ≡ count_redone es → IsMeant (map (λ f. f.0) files) es meaning has stored databases records → fits es → IsIndexCheck meaning.store None →
    IsReadingOf observable reads files (IsRecoveredFrom meaning has stored databases records counted tail fits)
recovered observable reads files es tail meaning has stored databases records counted fits rising all count meant fit indexed =
    let c = last_checkpoint es in
    let each : AllByRecursion (λ (p : Placed). IsEntry p.1) es = subst (AllByRecursion (λ (p : Placed). IsEntry p.1)) (sym all.entries_are) (all_entries all.held all.bytes) in
    let right = read_trees_are_right (map (λ f. f.0) files) es c.at c.roots meant.walk each meant.walked in
    let are_of : AreOf observable reads files all.held = subst (λ (l : List FileNo). AreOf observable reads l all.held) (sym (all.parts ∙ append-nil all.done)) all.are_of in
    let trees : HasTrees (restarted es) has stored = subst (λ (rows : List LoggedChange). HasTrees (behind rows (redone c.redo es)) has stored) right.rows meant.trees in
    all_read observable reads files es tail (IsRecoveredFrom meaning has stored databases records counted tail fits) rising all (record {
      bytes = all.bytes;
      rising = subst IsStrictlyIncreasing (sym are_of.numbers) rising;
      meaning_is = by_entries observable reads files es tail all ∙ meant.meaning_is;
      trees = subst (λ (l : List Placed). HasTrees (restarted l) has stored) all.entries_are trees;
      databases_are = meant.databases_are;
      records_are = meant.records_are;
      redone_are = count ∙ ap count_redone all.entries_are;
      tail_is = all.last;
      fit = subst fits all.entries_are fit;
      indexed = indexed;
    })

-- and a wrong index of it
pub wrong : (observable : Bool) (reads : Files) (files : List FileNo) (es : List Placed) (tail : Option LastFile) (meaning : Meaning) (has : ℕ → Bool) (stored : AllStored) (databases records : ℕ) (name : List ℕ) →
    AreRisingNumbers files → IsReading observable reads files [] es tail → IsMeant (map (λ f. f.0) files) es meaning has stored databases records → Some name ≡ wrong_index meaning.store →
    IsReadingOf observable reads files (HasWrongIndex name)
wrong observable reads files es tail meaning has stored databases records name rising all meant is =
    all_read observable reads files es tail (HasWrongIndex name) rising all (record {
      meaning = meaning;
      reads = by_entries observable reads files es tail all ∙ meant.meaning_is;
      wrong = sym is;
    })

pub corrupt : (observable : Bool) (reads : Files) (files : List FileNo) (es : List Placed) (tail : Option LastFile) (corruption : Corruption) → AreRisingNumbers files →
    IsReading observable reads files [] es tail → meaning_in (map (λ f. f.0) files) es ≡ Err corruption → IsReadingOf observable reads files (λ held. reading_of held ≡ Err corruption)
corrupt observable reads files es tail corruption rising all is =
    all_read observable reads files es tail (λ held. reading_of held ≡ Err corruption) rising all (by_entries observable reads files es tail all ∙ is)

-- ---- errors that are handed on

pub corrupt_on : {T : Type 0} (P Q : Corruption → Type 0) (r : Result T RecoverErr) (e : ReadErr) → IsErrAnd r (λ x. x ≡ read_error e) → IsFoundBy e P → ((c : Corruption) → P c → Q c) →
    IfErr r (λ x. IsCorruptBy x Q)
corrupt_on P Q (Ok v) e is holds more = absurd is
corrupt_on P Q (Err x) e is holds more = subst (λ (y : RecoverErr). IsCorruptBy y Q) (sym is) (by_error e holds)
  where
    by_error : (y : ReadErr) → IsFoundBy y P → IsCorruptBy (read_error y) Q
    by_error ReadMemory h = tt
    by_error (Found c) h = more c h

-- ---- all files of a disk

pub has_files : (observable : Bool) (before now_ : Files) (files : List FileNo) (P : List (ℕ × List ℕ) → Type 0) → (observable ≡ true → now_ ≡ before) → (observable ≡ true → IsListing before files) →
    IsReadingOf observable now_ files P → HasFiles observable before P
has_files observable before now_ files P same listing r = record {
  held = r.held;
  are = λ t. subst (λ (reads : Files). AreFiles reads r.held) (same t) (r.listed t (subst (λ (reads : Files). IsListing reads files) (sym (same t)) (listing t)));
  is = r.is;
}

pub ok_weaker : {T E : Type 0} (P Q : T → Type 0) (r : Result T E) → ((x : T) → P x → Q x) → IfOk r P → IfOk r Q
ok_weaker P Q (Ok x) weaker holds = weaker x holds
ok_weaker P Q (Err e) weaker holds = tt

pub corrupt_weaker : {T : Type 0} (P Q : Corruption → Type 0) (r : Result T RecoverErr) → ((c : Corruption) → P c → Q c) → IfErr r (λ e. IsCorruptBy e P) → IfErr r (λ e. IsCorruptBy e Q)
corrupt_weaker P Q (Ok x) weaker holds = tt
corrupt_weaker P Q (Err e) weaker holds = by_error e holds
  where
    by_error : (y : RecoverErr) → IsCorruptBy y P → IsCorruptBy y Q
    by_error Disk h = tt
    by_error Memory h = tt
    by_error (Corrupt c) h = weaker c h
    by_error (WrongIndex name) h = tt

pub index_weaker : {T : Type 0} (P Q : List ℕ → Type 0) (r : Result T RecoverErr) → ((name : List ℕ) → P name → Q name) → IfErr r (λ e. IsIndexBy e P) → IfErr r (λ e. IsIndexBy e Q)
index_weaker P Q (Ok x) weaker holds = tt
index_weaker P Q (Err e) weaker holds = by_error e holds
  where
    by_error : (y : RecoverErr) → IsIndexBy y P → IsIndexBy y Q
    by_error Disk h = tt
    by_error Memory h = tt
    by_error (Corrupt c) h = tt
    by_error (WrongIndex name) h = weaker name h

-- an error of reading tells no index
pub no_index : {T : Type 0} (P : List ℕ → Type 0) (r : Result T RecoverErr) (e : ReadErr) → IsErrAnd r (λ x. x ≡ read_error e) → IfErr r (λ x. IsIndexBy x P)
no_index P (Ok v) e is = absurd is
no_index P (Err x) e is = subst (λ (y : RecoverErr). IsIndexBy y P) (sym is) (by_error e)
  where
    by_error : (y : ReadErr) → IsIndexBy (read_error y) P
    by_error ReadMemory = tt
    by_error (Found c) = tt

-- and one that tells a wrong index tells no corruption, and is not the disk's
pub wrong_alone : {T : Type 0} (first : Option (List ℕ)) (P : Corruption → Type 0) (Q : List ℕ → Type 0) (r : Result T RecoverErr) → IfErr r (λ e. IsFirstWrong first e) →
    ((name : List ℕ) → first ≡ Some name → Q name) → IfErr r (λ e. IsCorruptBy e P) × IfErr r (λ e. IsIndexBy e Q) × IfErr r IsNoDiskErr
wrong_alone first P Q (Ok x) is holds = (tt, tt, tt)
wrong_alone first P Q (Err e) is holds = (
  subst (λ (y : RecoverErr). IsCorruptBy y P) (sym is.1) tt,
  subst (λ (y : RecoverErr). IsIndexBy y Q) (sym is.1) (holds is.0 is.2),
  subst IsNoDiskErr (sym is.1) tt,
)

pub on_ok_to : {T E : Type 0} {P Q : Type 0} (r : Result T E) → (P → Q) → P → OnOk r Q
on_ok_to (Ok x) f h = f h
on_ok_to (Err e) f h = tt

-- ---- causes

rose_earlier : (before mid after : ℕ) → before ≤ mid → mid ≤ after → HasRisen mid after → HasRisen before after
rose_earlier before mid after le later rose = grind (arith, common_steps)

pub cause_then : {T : Type 0} (before mid after : ℕ) (r : Result T RecoverErr) → before ≤ mid → HasCauseOf mid after r → HasCauseOf before after r
cause_then before mid after r le cause =
    let falls : mid ≤ after = cause.never_falls in
    record { never_falls = omega (arith, le, falls); failed = λ failed. rose_earlier before mid after le falls (cause.failed failed) }

pub cause_of_list : {T : Type 0} (before mid after : ℕ) (r : Result T DiskErr) → before ≤ mid → HasCause mid after r → HasCause before after r
cause_of_list before mid after r le cause =
    let falls : mid ≤ after = cause.never_falls in
    record { never_falls = omega (arith, le, falls); failed = λ failed. rose_earlier before mid after le falls (cause.failed failed) }
