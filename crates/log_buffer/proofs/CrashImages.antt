-- What a crash keeps of a log is in each image.
use Rattle.std.proofs.Common.{◌≡◌, ◌≢◌, ℕ, ◌<◌, ◌≤◌, ◌^◌, ◌==◌, Bool, true, false, cond, List, [], ◌∷◌, ◌++◌, Option, Some, None, length, map, refl, sym, ap, ap₂, subst, ◌∙◌, arith, nat_cmp, option_map, drop, append_assoc, length-append, ◌⊎◌, inl, inr}
use Rattle.std.specs.Prelude.{unwrap_or}
use Rattle.std.specs.declared.cmp.Ordering.TheVariants.{Less}
use Rattle.std.proofs.lemmas.Bool.{cases_order, eqb-true}
use Rattle.std.proofs.lemmas.Bool.Decides.{nat_tests}
use Rattle.std.proofs.lemmas.List.{append-nil, map-append, take-append-drop}
use Rattle.std.proofs.lemmas.Map.Keys.{IsStrictlyIncreasing-from_sorted, sorted_from_strictly_increasing}
use Rattle.std.specs.List.{AllByRecursion}
use Rattle.std.specs.List.Sorted.{IsStrictlySortedBy, IsStrictlyIncreasing}
use Rattle.std.specs.Map.{lookup}
use Rattle.je_disk.specs.States.{State, Files, CrashState, content}
use Rattle.je_disk.specs.Images.{IsFileImage, AreFileImages}
use Rattle.je_disk.proofs.ImageLaws.{stable_is}
use Rattle.log_entry.specs.declared.entry.Entry.{Entry}
use Rattle.log_file.specs.declared.valid_prefix.ValidPrefix.{ValidPrefix}
use Rattle.log_file.specs.declared.file_scan.FileScan.{FileScan}
use Rattle.log_file.specs.declared.file_scan.FileScan.TheVariants.{Prefix}
use Rattle.log_file.specs.Scan.{scan_of, prefix_with}
use Rattle.log_file.specs.Log.{Log, IsLog, AreFiles, AreFileEntries, file_bytes, files_of_log, entries_of, entries_scanned, log_in}
use Rattle.log_file.specs.Placed.{placed}
use Rattle.log_file.proofs.PlacedLaws.{placed-append, fronts_are_placed}
use Rattle.log_file.proofs.EncodedLaws.{length-file_bytes}
use Rattle.log_file.proofs.FilesLaws.{Rises, AreAbove as AllAbove, are_one_list, encoded_files, are_encoded_files, log_in-encoded}
use Rattle.log_buffer.specs.Crash.{KeepsFront, KeepsFile, KeepsLog, HoldsPrefix, HoldLogged}
use Rattle.log_buffer.specs.Chance.{NoChanceMatch, if_logged, among, AreFirst, HasPrefix, IsAllPrefix, AreWholeButLast, IsRemoved, IsUpToLog, LeavesLog, KeptIsLeft}
use Rattle.log_buffer.proofs.LogChanges.{AreBelow, below_more, lookup_none}
use Rattle.log_buffer.proofs.LogSplits.{below_at, lookup_at, lookup_under, lookup_back, lookup_front, lookup_here, lookup_past, entries-append, entries_parted}
use Rattle.log_buffer.proofs.CrashWrites.{read_whole}
use Rattle.log_buffer.proofs.ChanceMatches.{log_file_at, found_left, left_kept, entries_front}
use Rattle.log_buffer.proofs.Prefixes.{found_alone}

-- ---- numbers that rise

all_first : (P : ℕ → Type 0) (a b : List ℕ) → AllByRecursion P (a ++ b) → AllByRecursion P a
all_first P [] b all = tt
all_first P (x ∷ a) b all = (all.0, all_first P a b all.1)

sorted_first : (a b : List ℕ) → IsStrictlySortedBy nat_cmp (a ++ b) → IsStrictlySortedBy nat_cmp a
unfolding IsStrictlySortedBy
sorted_first [] b sorted = tt
sorted_first (x ∷ a) b sorted = (all_first (λ m. nat_cmp x m ≡ Less) a b sorted.0, sorted_first a b sorted.1)

rising_first : (a b : List ℕ) → IsStrictlyIncreasing (a ++ b) → IsStrictlyIncreasing a
rising_first a b rising = IsStrictlyIncreasing-from_sorted a (sorted_first a b (sorted_from_strictly_increasing (a ++ b) rising))

all_files : (P : ℕ × List Entry → Type 0) (a b : Log) → AllByRecursion P (a ++ b) → AllByRecursion P a
all_files P [] b all = tt
all_files P (x ∷ a) b all = (all.0, all_files P a b all.1)

numbers : (a b : Log) → map (λ file. file.0) (a ++ b) ≡ map (λ file. file.0) a ++ map (λ file. file.0) b
numbers a b = map-append (λ file. file.0) a b

-- ---- files under rising numbers

above_from : {X : Type 0} (n : ℕ) (held : List (ℕ × X)) → AllByRecursion (λ m. nat_cmp n m ≡ Less) (map (λ e. e.0) held) → AllAbove n held
above_from n [] all = tt
above_from n (e ∷ held) all = (grind (arith, nat_tests, all.0), above_from n held all.1)

rises_from : {X : Type 0} (held : List (ℕ × X)) → IsStrictlySortedBy nat_cmp (map (λ e. e.0) held) → Rises held
unfolding IsStrictlySortedBy
rises_from [] sorted = tt
rises_from (e ∷ held) sorted = (above_from e.0 held sorted.0, rises_from held sorted.1)

none_above : {X : Type 0} (n m : ℕ) (held : List (ℕ × X)) → m ≤ n → AllAbove n held → lookup (λ k. k == m) held ≡ None
none_above n m [] le above = refl
none_above n m (e ∷ held) le above = lookup_past e held m (λ same. let first = above.0 in absurd (omega (arith, first, same))) ∙ none_above n m held le above.1

-- each file of a list is the one that is read
each_read : (reads : Files) (held : List (ℕ × List ℕ)) → Rises held → ((f : ℕ) (bytes : List ℕ) → lookup (λ n. n == f) held ≡ Some bytes → reads f ≡ Some bytes) → AllByRecursion (λ file. reads file.0 ≡ Some file.1) held
each_read reads [] rises found = tt
each_read reads (file ∷ held) rises found = (
  found file.0 file.1 (lookup_here file held),
  each_read reads held rises.1 (λ f bytes there. found f bytes (lookup_past file held f (later f bytes there) ∙ there)),
)
  where
    later : (f : ℕ) (bytes : List ℕ) → lookup (λ n. n == f) held ≡ Some bytes → file.0 ≢ f
    later f bytes there same = absurd (let none = none_above file.0 f held (omega (arith, same)) rises.0 in cc)

encoded_numbers : (log : Log) → map (λ file. file.0) (encoded_files log) ≡ map (λ file. file.0) log
encoded_numbers [] = refl
encoded_numbers (file ∷ log) = ap (λ (l : List ℕ). file.0 ∷ l) (encoded_numbers log)

lookup_encoded : (log : Log) (f : ℕ) → lookup (λ n. n == f) (encoded_files log) ≡ files_of_log log f
lookup_encoded [] f = refl
lookup_encoded (file ∷ log) f = by_case (file.0 == f) refl (lookup_encoded log f)
  where
    by_case : (b : Bool) → (file.0 == f) ≡ b → lookup (λ n. n == f) (encoded_files log) ≡ files_of_log log f →
        cond b (Some (file_bytes file.0 file.1)) (lookup (λ n. n == f) (encoded_files log)) ≡ option_map (file_bytes f) (cond b (Some file.1) (lookup (λ n. n == f) log))
    by_case true here rest = ap (λ (n : ℕ). Some (file_bytes n file.1)) (eqb-true _ _ here)
    by_case false here rest = rest

-- ---- one file of an image

-- a file that was removed is back
pub record IsBack (gone : Log) (at f : ℕ) (file : Option (List ℕ)) : Type 0 where
  pub below : f < at
  pub entries : List Entry
  pub among : lookup (λ n. n == f) gone ≡ Some entries
  pub are_entries : AreFileEntries entries
  pub file_is : file ≡ Some (file_bytes f entries)

-- a file that was removed, or was not there
not_there : (gone : Log) (at f : ℕ) (crash_state : CrashState) (file : Option (List ℕ)) → KeepsFile gone at f None crash_state → IsFileImage crash_state file → (file ≡ None) ⊎ IsBack gone at f file
not_there gone at f crash_state None keeps image = inl refl
not_there gone at f crash_state (Some bytes) (inl away) leaves = absurd (let there = leaves.allowed in cc)
not_there gone at f crash_state (Some bytes) (inr was) leaves =
    inr (record {
      below = was.below;
      entries = was.entries;
      among = was.among;
      are_entries = was.are_entries;
      file_is = ap (λ (x : List ℕ). Some x) (stable_is crash_state bytes leaves (was.whole.max_len ∙ sym (ap length was.whole.stable)) ∙ was.whole.stable);
    })

some_same : {X : Type 0} (x y : X) → (let o : Option X = Some x in o) ≡ Some y → x ≡ y
some_same x y is = cc

all_prefix : (f : ℕ) (entries : List Entry) (bytes : List ℕ) → f < 2 ^ 32 → AreFileEntries entries → bytes ≡ file_bytes f entries → IsAllPrefix (f, bytes)
all_prefix f entries bytes lt ok is = record {
  prefix = prefix_with entries;
  found = ap (scan_of f) is ∙ found_alone f entries lt ok;
  headed = omega arith;
  ends = sym (ap length is ∙ length-file_bytes f entries);
}

-- ---- the image of a log

abbrev no_entries : Option (List Entry)
no_entries = None

module _ (log gone : Log) (least : ℕ) (state : State) (image : Files) (is : IsLog log) (k : KeepsLog log gone least state.crash_states) (read : AreFileImages state.crash_states state.reads) (img : AreFileImages state.crash_states image) (no_chance : NoChanceMatch (HoldLogged log) state.reads image) where
  parts : IsLog (k.before ++ (k.at, k.kept ++ k.more) ∷ k.after)
  parts = subst IsLog k.log_is is

  below : AreBelow k.at k.before
  below = below_at k.before (k.at, k.kept ++ k.more) k.after parts

  found_at : lookup (λ n. n == k.at) log ≡ Some (k.kept ++ k.more)
  found_at = ap (λ (l : Log). lookup (λ n. n == k.at) l) k.log_is ∙ lookup_at k.before (k.at, k.kept ++ k.more) k.after parts

  ok_at : (k.at < 2 ^ 32) × AreFileEntries (k.kept ++ k.more)
  ok_at = log_file_at log k.at (k.kept ++ k.more) is.each found_at

  under : (f : ℕ) → f < k.at → lookup (λ n. n == f) log ≡ lookup (λ n. n == f) k.before
  under f lt = ap (λ (l : Log). lookup (λ n. n == f) l) k.log_is ∙ lookup_under k.before (k.at, k.kept ++ k.more) k.after f parts lt

  over : (f : ℕ) → k.at < f → lookup (λ n. n == f) k.before ≡ None
  over f gt = lookup_none k.before f (below_more k.at f k.before (omega arith) below)

  -- the disk reads no file behind the one being written
  none_read : (g : ℕ) → k.at < g → state.reads g ≡ None
  none_read g gt =
      by_there (not_there gone k.at g (state.crash_states g) (state.reads g)
      (subst (λ (x : Option (List Entry)). KeepsFile gone k.at g (option_map (file_bytes g) x) (state.crash_states g)) (over g gt) (k.others g (λ same. absurd (omega (arith, same, gt))))) (read g)) where
        by_there : (state.reads g ≡ None) ⊎ IsBack gone k.at g (state.reads g) → state.reads g ≡ None
        by_there (inl away) = away
        by_there (inr back) = let lt = back.below in absurd (omega (arith, lt, gt))

  -- what the image has of a file that is not the one being written
  other : (f : ℕ) → f ≢ k.at → (o : Option (List Entry)) → lookup (λ n. n == f) k.before ≡ o → (image f ≡ option_map (file_bytes f) o) ⊎ ((o ≡ None) × IsBack gone k.at f (image f))
  other f apart (Some es) some =
      inl (read_whole state.crash_states image f (file_bytes f es) img (subst (λ (x : Option (List Entry)). KeepsFile gone k.at f (option_map (file_bytes f) x) (state.crash_states f)) some (k.others f apart)))
  other f apart None none = by_there (not_there gone k.at f (state.crash_states f) (image f) (subst (λ (x : Option (List Entry)). KeepsFile gone k.at f (option_map (file_bytes f) x) (state.crash_states f)) none (k.others f apart)) (img f)) where
    by_there : (image f ≡ None) ⊎ IsBack gone k.at f (image f) → (image f ≡ None) ⊎ ((no_entries ≡ None) × IsBack gone k.at f (image f))
    by_there (inl away) = inl away
    by_there (inr back) = inr (refl, back)

  -- of the log's files those before are there
  among_under : (f : ℕ) → f < k.at → (o : Option (List Entry)) → lookup (λ n. n == f) k.before ≡ o → among log image f ≡ option_map (file_bytes f) o
  among_under f lt None none = ap (λ (x : Option (List Entry)). if_logged x (image f)) (under f lt ∙ none)
  among_under f lt (Some es) some = ap (λ (x : Option (List Entry)). if_logged x (image f)) (under f lt ∙ some) ∙ there (other f (λ same. absurd (omega (arith, same))) (Some es) some) where
    there : (image f ≡ Some (file_bytes f es)) ⊎ ((Some es ≡ None) × IsBack gone k.at f (image f)) → image f ≡ Some (file_bytes f es)
    there (inl whole) = whole
    there (inr never) = absurd (let e = never.0 in cc)

  among_over : (f : ℕ) → k.at < f → among log image f ≡ None
  among_over f gt = by_log (lookup (λ n. n == f) log) (gone_over (other f (λ same. absurd (omega (arith, same))) None (over f gt))) where
    gone_over : (image f ≡ None) ⊎ ((no_entries ≡ None) × IsBack gone k.at f (image f)) → image f ≡ None
    gone_over (inl away) = away
    gone_over (inr never) = absurd (let lt = never.1.below in omega (arith, lt))

    by_log : (x : Option (List Entry)) → image f ≡ None → if_logged x (image f) ≡ None
    by_log None away = refl
    by_log (Some es) away = away

  among_at : among log image k.at ≡ image k.at
  among_at = ap (λ (x : Option (List Entry)). if_logged x (image k.at)) found_at

  among_other : (f : ℕ) → f ≢ k.at → among log image f ≡ files_of_log k.before f
  among_other f apart = by_order (cases_order f k.at) where
    by_order : (f ≡ k.at) ⊎ ((f < k.at) ⊎ (k.at < f)) → among log image f ≡ files_of_log k.before f
    by_order (inl same) = absurd (apart same)
    by_order (inr (inl lt)) = among_under f lt (lookup (λ n. n == f) k.before) refl
    by_order (inr (inr gt)) = among_over f gt ∙ sym (ap (option_map (file_bytes f)) (over f gt))

  -- the numbers of the files up to the one being written
  rising_all : IsStrictlyIncreasing (map (λ file. file.0) k.before ++ (k.at ∷ map (λ file. file.0) k.after))
  rising_all = subst IsStrictlyIncreasing (ap (λ (l : Log). map (λ file. file.0) l) k.log_is ∙ numbers k.before ((k.at, k.kept ++ k.more) ∷ k.after)) is.rising

  rising_before : IsStrictlyIncreasing (map (λ file. file.0) k.before)
  rising_before = rising_first (map (λ file. file.0) k.before) (k.at ∷ map (λ file. file.0) k.after) rising_all

  rising_to : IsStrictlyIncreasing (map (λ file. file.0) k.before ++ k.at ∷ [])
  rising_to = rising_first (map (λ file. file.0) k.before ++ k.at ∷ []) (map (λ file. file.0) k.after)
      (subst IsStrictlyIncreasing (sym (append_assoc (map (λ file. file.0) k.before) (k.at ∷ []) (map (λ file. file.0) k.after))) rising_all)

  each_before : AllByRecursion (λ file. (file.0 < 2 ^ 32) × AreFileEntries file.1) k.before
  each_before = all_files (λ file. (file.0 < 2 ^ 32) × AreFileEntries file.1) k.before ((k.at, k.kept ++ k.more) ∷ k.after) parts.each

  numbers_log : map (λ file. file.0) log ≡ map (λ file. file.0) k.before ++ (k.at ∷ map (λ file. file.0) k.after)
  numbers_log = ap (λ (l : Log). map (λ file. file.0) l) k.log_is ∙ numbers k.before ((k.at, k.kept ++ k.more) ∷ k.after)

  -- ---- where that file is not there

  first_without : (held : List (ℕ × List ℕ)) → AreFiles (among log image) held → image k.at ≡ None → AreFirst log least held
  first_without held are none = record {
    places = record {
      rest = placed ((k.at, k.kept ++ k.more) ∷ k.after);
      are = ap placed k.log_is ∙ placed-append k.before ((k.at, k.kept ++ k.more) ∷ k.after) ∙ ap (λ (l : Log). placed l ++ placed ((k.at, k.kept ++ k.more) ∷ k.after)) (sym log_held);
    };
    more = (k.kept ++ k.more) ++ entries_of k.after;
    entries = ap entries_of k.log_is ∙ entries-append k.before ((k.at, k.kept ++ k.more) ∷ k.after) ∙ ap (λ (l : Log). entries_of l ++ ((k.kept ++ k.more) ++ entries_of k.after)) (sym log_held);
    at_least = let enough = k.at_least in let count = ap (λ (l : Log). length (entries_of l)) log_held in let empty = ap length (nothing k.front) in omega (arith, enough, count, empty);
    later = k.at ∷ map (λ file. file.0) k.after;
    numbers = numbers_log ∙ ap (λ (l : List ℕ). l ++ (k.at ∷ map (λ file. file.0) k.after)) (sym (ap (λ (l : List (ℕ × List ℕ)). map (λ file. file.0) l) held_is ∙ encoded_numbers k.before));
  } where
    nothing : (k.kept ≡ []) ⊎ KeepsFront (file_bytes k.at k.kept) (state.crash_states k.at) → k.kept ≡ []
    nothing (inl empty) = empty
    nothing (inr front) = absurd (let exists_always = front.there in let gone_there = subst (IsFileImage (state.crash_states k.at)) none (img k.at) in cc)

    reads_are : (f : ℕ) → (f ≡ k.at) ⊎ ((f < k.at) ⊎ (k.at < f)) → among log image f ≡ files_of_log k.before f
    reads_are f (inl same) = ap (among log image) same ∙ among_at ∙ none ∙ sym (ap (option_map (file_bytes k.at)) (lookup_none k.before k.at below)) ∙ ap (files_of_log k.before) (sym same)
    reads_are f (inr (inl lt)) = among_other f (λ same. absurd (omega (arith, same)))
    reads_are f (inr (inr gt)) = among_other f (λ same. absurd (omega (arith, same)))

    held_is : held ≡ encoded_files k.before
    held_is = are_one_list (among log image) held (encoded_files k.before) are (are_encoded_files (among log image) k.before rising_before (λ f. reads_are f (cases_order f k.at)))

    log_held : log_in held ≡ k.before
    log_held = ap log_in held_is ∙ log_in-encoded k.before each_before

  -- ---- where it is there

  first_with : (held : List (ℕ × List ℕ)) (bytes : List ℕ) → AreFiles (among log image) held → image k.at ≡ Some bytes → (left : HoldsPrefix k.at (k.kept ++ k.more) bytes) → length k.kept ≤ length left.prefix.entries → AreFirst log least held
  first_with held bytes are some left count = record {
    places = fronts_are_placed log (log_in held) (record {
      before = k.before;
      file = k.at;
      entries = left.prefix.entries;
      more = left.more;
      later = k.after;
      log_is = k.log_is ∙ ap (λ (x : List Entry). k.before ++ (k.at, x) ∷ k.after) left.is;
      front_is = log_held;
    });
    more = left.more ++ entries_of k.after;
    entries = ap entries_of k.log_is
        ∙ ap (λ (x : List Entry). entries_of (k.before ++ (k.at, x) ∷ k.after)) left.is
        ∙ entries_parted k.before k.at left.prefix.entries left.more k.after
        ∙ ap (λ (x : List Entry). x ++ (left.more ++ entries_of k.after)) (sym entries_held);
    at_least =
        let enough = k.at_least in
        let all = ap length entries_held in
        let two = length-append (entries_of k.before) left.prefix.entries in
        omega (arith, enough, all, two, count);
    later = map (λ file. file.0) k.after;
    numbers = numbers_log ∙ sym (append_assoc (map (λ file. file.0) k.before) (k.at ∷ []) (map (λ file. file.0) k.after)) ∙ ap (λ (l : List ℕ). l ++ map (λ file. file.0) k.after) (sym (ap (λ (l : List (ℕ × List ℕ)). map (λ file. file.0) l) held_is ∙ numbers_to));
  } where
    to : List (ℕ × List ℕ)
    to = encoded_files k.before ++ (k.at, bytes) ∷ []

    numbers_to : map (λ file. file.0) (encoded_files k.before ++ (k.at, bytes) ∷ []) ≡ map (λ file. file.0) k.before ++ k.at ∷ []
    numbers_to = map-append (λ file. file.0) (encoded_files k.before) ((k.at, bytes) ∷ []) ∙ ap (λ (l : List ℕ). l ++ k.at ∷ []) (encoded_numbers k.before)

    not_before : lookup (λ n. n == k.at) (encoded_files k.before) ≡ None
    not_before = lookup_encoded k.before k.at ∙ ap (option_map (file_bytes k.at)) (lookup_none k.before k.at below)

    each_at : lookup (λ n. n == k.at) (encoded_files k.before ++ (k.at, bytes) ∷ []) ≡ among log image k.at
    each_at = lookup_back (encoded_files k.before) ((k.at, bytes) ∷ []) k.at not_before ∙ lookup_here (k.at, bytes) [] ∙ sym (among_at ∙ some)

    each_other : (f : ℕ) → f ≢ k.at → lookup (λ n. n == f) (encoded_files k.before ++ (k.at, bytes) ∷ []) ≡ among log image f
    each_other f apart =
        lookup_front (encoded_files k.before) ((k.at, bytes) ∷ []) f (lookup_past (k.at, bytes) [] f (λ same. apart (sym same)))
        ∙ lookup_encoded k.before f ∙ sym (among_other f apart)

    each : (f : ℕ) → (f ≡ k.at) ⊎ ((f < k.at) ⊎ (k.at < f)) → lookup (λ n. n == f) (encoded_files k.before ++ (k.at, bytes) ∷ []) ≡ among log image f
    each f (inl same) = subst (λ (n : ℕ). lookup (λ m. m == n) (encoded_files k.before ++ (k.at, bytes) ∷ []) ≡ among log image n) (sym same) each_at
    each f (inr (inl lt)) = each_other f (λ same. absurd (omega (arith, same)))
    each f (inr (inr gt)) = each_other f (λ same. absurd (omega (arith, same)))

    are_to : AreFiles (among log image) (encoded_files k.before ++ (k.at, bytes) ∷ [])
    are_to = record { rising = subst IsStrictlyIncreasing (sym numbers_to) rising_to; each = λ f. each f (cases_order f k.at) }

    held_is : held ≡ encoded_files k.before ++ (k.at, bytes) ∷ []
    held_is = are_one_list (among log image) held (encoded_files k.before ++ (k.at, bytes) ∷ []) are are_to

    log_held : log_in held ≡ k.before ++ (k.at, left.prefix.entries) ∷ []
    log_held =
        ap log_in held_is
        ∙ map-append (λ file. let p : ℕ × List Entry = (file.0, entries_scanned (scan_of file.0 file.1)) in p) (encoded_files k.before) ((k.at, bytes) ∷ [])
        ∙ ap₂ (λ (l : Log) (x : FileScan). l ++ (k.at, entries_scanned x) ∷ []) (log_in-encoded k.before each_before) left.found

    entries_held : entries_of (log_in held) ≡ entries_of k.before ++ left.prefix.entries
    entries_held = ap entries_of log_held ∙ entries-append k.before ((k.at, left.prefix.entries) ∷ []) ∙ ap (λ (x : List Entry). entries_of k.before ++ x) (append-nil left.prefix.entries)

  -- ---- the file being written

  left_at : (bytes : List ℕ) → image k.at ≡ Some bytes → HoldsPrefix k.at (k.kept ++ k.more) bytes
  left_at bytes some =
      let there : content image k.at ≡ bytes = ap (λ (o : Option (List ℕ)). unwrap_or o []) some in
      subst (HoldsPrefix k.at (k.kept ++ k.more)) there
      (found_left (HoldLogged log) k.at (k.kept ++ k.more) (content image k.at) (λ read held. held (k.kept ++ k.more) found_at) (no_chance k.at (inr none_read)))

  count_at : (bytes : List ℕ) (prefix : ValidPrefix) → image k.at ≡ Some bytes → scan_of k.at bytes ≡ Prefix prefix → (k.kept ≡ []) ⊎ KeepsFront (file_bytes k.at k.kept) (state.crash_states k.at) → length k.kept ≤ length prefix.entries
  count_at bytes prefix some found (inl empty) = let none = ap length empty in omega (arith, none)
  count_at bytes prefix some found (inr front) =
      let leaves = subst (IsFileImage (state.crash_states k.at)) some (img k.at) in
      let begins : bytes ≡ (state.crash_states k.at).stable ++ drop (length (state.crash_states k.at).stable) bytes = sym (take-append-drop (length (state.crash_states k.at).stable) bytes) ∙ ap (λ (x : List ℕ). x ++ drop (length (state.crash_states k.at).stable) bytes) leaves.front in
      let whole : bytes ≡ file_bytes k.at k.kept ++ (front.rest ++ drop (length (state.crash_states k.at).stable) bytes) =
      begins ∙ ap (λ (x : List ℕ). x ++ drop (length (state.crash_states k.at).stable) bytes) front.stable ∙ append_assoc (file_bytes k.at k.kept) front.rest (drop (length (state.crash_states k.at).stable) bytes) in
      left_kept k.at k.kept bytes (front.rest ++ drop (length (state.crash_states k.at).stable) bytes) prefix ok_at.0 (entries_front k.kept k.more ok_at.1) whole found

  first_files : (held : List (ℕ × List ℕ)) → AreFiles (among log image) held → AreFirst log least held
  first_files held are = by_file (image k.at) refl where
    by_file : (file : Option (List ℕ)) → image k.at ≡ file → AreFirst log least held
    by_file None none = first_without held are none
    by_file (Some bytes) some = let left = left_at bytes some in first_with held bytes are some left (count_at bytes left.prefix some left.found k.front)

  -- ---- all files

  -- a file of the image: it is below the one being written and whole, or it is that one
  pub record IsOf (file : ℕ × List ℕ) : Type 0 where
    pub within : file.0 ≤ k.at
    pub prefix : HasPrefix file
    pub whole : file.0 < k.at → IsAllPrefix file

  whole_file : (f : ℕ) (bytes : List ℕ) → f < k.at → IsAllPrefix (f, bytes) → IsOf (f, bytes)
  whole_file f bytes lt all = record { within = omega arith; prefix = record { prefix = all.prefix; found = all.found }; whole = λ less. all }

  small_under : (f : ℕ) → f < k.at → f < 2 ^ 32
  small_under f lt = let small = ok_at.0 in omega (arith, small)

  file_of_image : (f : ℕ) (bytes : List ℕ) → image f ≡ Some bytes → IsOf (f, bytes)
  file_of_image f bytes some = by_order (cases_order f k.at) where
    here : f ≡ k.at → IsOf (f, bytes)
    here same =
        let left = left_at bytes (ap image (sym same) ∙ some) in
        record { within = omega (arith, same); prefix = record { prefix = left.prefix; found = ap (λ (n : ℕ). scan_of n bytes) same ∙ left.found }; whole = λ less. absurd (omega (arith, same, less)) }

    removed_case : f < k.at → (image f ≡ None) ⊎ ((no_entries ≡ None) × IsBack gone k.at f (image f)) → IsOf (f, bytes)
    removed_case lt (inl away) = absurd (let e = sym away ∙ some in cc)
    removed_case lt (inr back) =
        whole_file f bytes lt (all_prefix f back.1.entries bytes (small_under f lt) back.1.are_entries (some_same bytes (file_bytes f back.1.entries) (sym some ∙ back.1.file_is)))

    by_before : f < k.at → (o : Option (List Entry)) → lookup (λ n. n == f) k.before ≡ o → (image f ≡ option_map (file_bytes f) o) ⊎ ((o ≡ None) × IsBack gone k.at f (image f)) → IsOf (f, bytes)
    by_before lt (Some es) there (inl whole) =
        whole_file f bytes lt (all_prefix f es bytes (small_under f lt) (log_file_at k.before f es each_before there).1 (some_same bytes (file_bytes f es) (sym some ∙ whole)))
    by_before lt (Some es) there (inr never) = absurd (let e = never.0 in cc)
    by_before lt None there either = removed_case lt either

    by_order : (f ≡ k.at) ⊎ ((f < k.at) ⊎ (k.at < f)) → IsOf (f, bytes)
    by_order (inl same) = here same
    by_order (inr (inl lt)) = by_before lt (lookup (λ n. n == f) k.before) refl (other f (λ same. absurd (omega (arith, same))) (lookup (λ n. n == f) k.before) refl)
    by_order (inr (inr gt)) = absurd (beyond (other f (λ same. absurd (omega (arith, same))) None (over f gt))) where
      beyond : (image f ≡ None) ⊎ ((no_entries ≡ None) × IsBack gone k.at f (image f)) → ⊥
      beyond (inl away) = let e = sym away ∙ some in cc
      beyond (inr back) = let lt = back.1.below in omega (arith, lt)

  walk : (held : List (ℕ × List ℕ)) → Rises held → AllByRecursion (λ file. image file.0 ≡ Some file.1) held → AreWholeButLast held
  walk [] rises all = tt
  walk (file ∷ []) rises all = (file_of_image file.0 file.1 all.0).prefix
  walk (file ∷ next ∷ files) rises all = (
    (file_of_image file.0 file.1 all.0).whole (let less = rises.0.0 in let le = (file_of_image next.0 next.1 all.1.0).within in omega (arith, less, le)),
    walk (next ∷ files) rises.1 all.1,
  )

  whole_files : (held : List (ℕ × List ℕ)) → AreFiles image held → AreWholeButLast held
  whole_files held are =
      let rises = rises_from held (sorted_from_strictly_increasing _ are.rising) in
      walk held rises (each_read image held rises (λ f bytes there. sym (are.each f) ∙ there))

  not_logged : (f : ℕ) → lookup (λ n. n == f) log ≡ None → IsRemoved gone f (image f)
  not_logged f none = by_back (other f apart None (absent (cases_order f k.at))) where
    apart : f ≢ k.at
    apart same = let e = sym (ap (λ (n : ℕ). lookup (λ m. m == n) log) same) ∙ none in let there = found_at in cc

    absent : (f ≡ k.at) ⊎ ((f < k.at) ⊎ (k.at < f)) → lookup (λ n. n == f) k.before ≡ None
    absent (inl same) = absurd (apart same)
    absent (inr (inl lt)) = sym (under f lt) ∙ none
    absent (inr (inr gt)) = over f gt

    by_back : (image f ≡ None) ⊎ ((no_entries ≡ None) × IsBack gone k.at f (image f)) → IsRemoved gone f (image f)
    by_back (inl away) = subst (IsRemoved gone f) (sym away) tt
    by_back (inr back) = subst (IsRemoved gone f) (sym back.1.file_is) (back.1.entries, back.1.among, refl)

  not_above : (f : ℕ) → IsUpToLog log f (image f)
  not_above f = by_file (image f) refl where
    by_file : (file : Option (List ℕ)) → image f ≡ file → IsUpToLog log f file
    by_file None none = tt
    by_file (Some bytes) some = let within = (file_of_image f bytes some).within in (k.at, k.kept ++ k.more, within, found_at)

  pub leaves : LeavesLog log gone least image
  leaves = record { first = first_files; whole = whole_files; others = not_logged; within = not_above }

pub kept_is_left : KeptIsLeft
kept_is_left log gone least state image is k read img no_chance = leaves log gone least state image is k read img no_chance
