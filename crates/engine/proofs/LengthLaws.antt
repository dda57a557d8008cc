-- How long the files of a log get.
use Rattle.std.proofs.Common.{◌≡◌, ◌≢◌, ℕ, ◌+◌, ◌<◌, ◌≤◌, ◌==◌, ◌||◌, nat_le, Bool, true, false, cond, List, [], ◌∷◌, ◌++◌, Option, Some, None, length, refl, sym, ap, subst, ◌∙◌, arith, ◌⊎◌, inl, inr, option_map, length-append, take, zero, suc}
use Rattle.std.proofs.lemmas.Bool.{cases_order, eqb-true}
use Rattle.std.proofs.lemmas.Bool.Decides.{nat_tests}
use Rattle.std.proofs.lemmas.Grind.{flat_map-append}
use Rattle.std.proofs.lemmas.Option.{none-some}
use Rattle.std.specs.Map.{lookup}
use Rattle.je_disk.specs.States.{CrashState, Files, synced_crash_state, synced_crash_states}
use Rattle.je_disk.specs.Moments.{History, now}
use Rattle.log_entry.specs.declared.entry.Entry.{Entry}
use Rattle.log_entry.specs.Encoding.{size_of}
use Rattle.log_file.specs.Log.{Log, IsLog, entries_of, file_bytes, files_of_log}
use Rattle.log_file.specs.Scan.{sizes_of}
use Rattle.log_file.proofs.EncodedLaws.{length-file_bytes, sizes-append}
use Rattle.log_buffer.specs.declared.buffer.LogBuffer.{LogBuffer}
use Rattle.log_buffer.specs.declared.log_pos.LogPos.{LogPos}
use Rattle.log_buffer.specs.Buffer.{end_of, file_max_of, file_of, last_of, offset_of}
use Rattle.log_buffer.specs.Crash.{KeepsFile, KeepsFront, KeepsLog}
use Rattle.log_buffer.specs.Flip.{goes_in, header_size, next_file, placed_at}
use Rattle.log_buffer.specs.Growth.{log_with_all, longer}
use Rattle.log_buffer.specs.Log.{EndsAt, log_with}
use Rattle.log_buffer.proofs.LogChanges.{AreBelow, below_last, below_more, below_push, lookup_last, lookup_push, with_last, with_next}
use Rattle.log_buffer.proofs.LogSplits.{lookup_at, lookup_over, lookup_under}
use Rattle.engine.specs.Crash.{IsTailCut, KeepsEntry}
use Rattle.engine.specs.Lengths.{AreLengthsWithin, AreSizesWithin, IsLengthWithin, IsSizeWithin, KeepsSizes}

-- ---- another buffer

pub sizes_other : {D : Type 0} (most : ℕ) (before : Files) (old new : LogBuffer D) (log : Log) → file_max_of new ≡ file_max_of old → KeepsSizes most before old log → KeepsSizes most before new log
sizes_other most before old new log same keeps = record { max = same ∙ keeps.max; sizes = keeps.sizes }

-- ---- a log that grows

same_entries : (x y : List Entry) → (let o : Option (List Entry) = Some x in o) ≡ Some y → x ≡ y
same_entries x y is = cc

-- a file whose entries are behind its header alone has none
none_there : (es : List Entry) → header_size + sizes_of es ≡ header_size → es ≡ []
none_there [] is = refl
none_there (e ∷ es) is = absurd (omega (arith, is))

-- an entry that goes into a file leaves it within the bound
goes_within : (most : ℕ) (before : Option (List ℕ)) (es : List Entry) (e : Entry) (offset : ℕ) → offset ≡ header_size + sizes_of es → (fits alone : Bool) → nat_le (offset + size_of e) most ≡ fits → (offset == header_size) ≡ alone → (fits || alone) ≡ true →
    IsSizeWithin most before (es ++ e ∷ [])
goes_within most before es e offset at true alone fits test goes =
    let sizes = sizes-append es (e ∷ []) in
    let few : offset + size_of e ≤ most = grind (arith, nat_tests) in
    inl (omega (arith, at, sizes, few))
goes_within most before es e offset at false true fits test goes =
    let none : es ≡ [] = none_there es (sym at ∙ eqb-true offset header_size test) in
    inr (inl (subst (λ (l : List Entry). length (l ++ e ∷ []) ≤ 1) (sym none) (omega arith)))
goes_within most before es e offset at false false fits test goes = absurd cc

-- the last file has an entry more
sizes_last : (most : ℕ) (before : Files) (log : Log) (n : ℕ) (es new : List Entry) → AreBelow n log → IsSizeWithin most (before n) new → AreSizesWithin most before (log ++ (n, es) ∷ []) → AreSizesWithin most before (log ++ (n, new) ∷ [])
sizes_last most before log n es new below here all f found_entries found = by_order (cases_order f n)
  where
    other : f ≢ n → IsSizeWithin most (before f) found_entries
    other apart = all f found_entries (lookup_push log n f es apart ∙ sym (lookup_push log n f new apart) ∙ found)

    by_order : (f ≡ n) ⊎ ((f < n) ⊎ (n < f)) → IsSizeWithin most (before f) found_entries
    by_order (inl is) =
        let same : new ≡ found_entries = same_entries new found_entries (sym (lookup_last log n new below) ∙ ap (λ (k : ℕ). lookup (λ m. m == k) (log ++ (n, new) ∷ [])) (sym is) ∙ found) in
        subst (λ (k : ℕ). IsSizeWithin most (before k) found_entries) (sym is) (subst (IsSizeWithin most (before n)) same here)
    by_order (inr (inl less)) = other (λ is. absurd (omega (arith, is, less)))
    by_order (inr (inr more)) = other (λ is. absurd (omega (arith, is, more)))

-- a file more
sizes_next : (most : ℕ) (before : Files) (log : Log) (n : ℕ) (new : List Entry) → AreBelow n log → IsSizeWithin most (before n) new → AreSizesWithin most before log → AreSizesWithin most before (log ++ (n, new) ∷ [])
sizes_next most before log n new below here all f found_entries found = by_order (cases_order f n)
  where
    other : f ≢ n → IsSizeWithin most (before f) found_entries
    other apart = all f found_entries (sym (lookup_push log n f new apart) ∙ found)

    by_order : (f ≡ n) ⊎ ((f < n) ⊎ (n < f)) → IsSizeWithin most (before f) found_entries
    by_order (inl is) =
        let same : new ≡ found_entries = same_entries new found_entries (sym (lookup_last log n new below) ∙ ap (λ (k : ℕ). lookup (λ m. m == k) (log ++ (n, new) ∷ [])) (sym is) ∙ found) in
        subst (λ (k : ℕ). IsSizeWithin most (before k) found_entries) (sym is) (subst (IsSizeWithin most (before n)) same here)
    by_order (inr (inl less)) = other (λ is. absurd (omega (arith, is, less)))
    by_order (inr (inr more)) = other (λ is. absurd (omega (arith, is, more)))

-- entries more, in a log with a last file
sizes_longer : (most : ℕ) (before : Files) (entries : List Entry) (log : Log) (end : LogPos) (es : List Entry) → AreBelow end.file log → end.offset ≡ header_size + sizes_of es → AreSizesWithin most before (log ++ (end.file, es) ∷ []) →
    AreSizesWithin most before (log_with_all most end entries (log ++ (end.file, es) ∷ []))
sizes_longer most before [] log end es below at all = all
sizes_longer most before (e ∷ entries) log end es below at all = by_place (λ l p new. sizes_longer most before entries l p new) (goes_in most end.offset (size_of e)) refl
  where
    -- the entries behind the first one
    Later : Type 0
    Later = (l : Log) (p : LogPos) (new : List Entry) → AreBelow p.file l → p.offset ≡ header_size + sizes_of new → AreSizesWithin most before (l ++ (p.file, new) ∷ []) →
        AreSizesWithin most before (log_with_all most p entries (l ++ (p.file, new) ∷ []))

    n : ℕ
    n = end.file

    now : Log
    now = log ++ (n, es) ∷ []

    -- where the entry goes
    place : Bool → LogPos
    place b = cond b end (next_file end)

    Goal : LogPos → Type 0
    Goal p = AreSizesWithin most before (log_with_all most (record { file = p.file; offset = p.offset + size_of e }) entries (log_with p.file e now))

    last_below : AreBelow (n + 1) now
    last_below = below_push (n + 1) log (n, es) (below_more n (n + 1) log (omega arith) below) (omega arith)

    by_place : Later → (b : Bool) → goes_in most end.offset (size_of e) ≡ b → Goal (placed_at most end (size_of e))
    by_place later true goes =
        let size = sizes-append es (e ∷ []) in
        subst Goal (sym (ap place goes))
        (subst (λ (l : Log). AreSizesWithin most before (log_with_all most (record { file = n; offset = end.offset + size_of e }) entries l)) (sym (with_last log n es e below))
        (later log (record { file = n; offset = end.offset + size_of e }) (es ++ e ∷ []) below (omega (arith, at, size))
        (sizes_last most before log n es (es ++ e ∷ []) below
        (goes_within most (before n) es e end.offset at (nat_le (end.offset + size_of e) most) (end.offset == header_size) refl refl goes) all)))
    by_place later false goes =
        subst Goal (sym (ap place goes))
        (subst (λ (l : Log). AreSizesWithin most before (log_with_all most (record { file = n + 1; offset = header_size + size_of e }) entries l)) (sym (with_next now (n + 1) e last_below))
        (later now (record { file = n + 1; offset = header_size + size_of e }) (e ∷ []) last_below (omega arith)
        (sizes_next most before now (n + 1) (e ∷ []) last_below (inr (inl (omega arith))) all)))

pub sizes_grown : (most : ℕ) (before : Files) (log : Log) (end : LogPos) (last : ℕ) (entries : List Entry) → IsLog log → EndsAt log end.file end.offset last → AreSizesWithin most before log →
    AreSizesWithin most before (log_with_all most end entries log)
sizes_grown most before log end last entries is ends all =
    subst (λ (l : Log). AreSizesWithin most before (log_with_all most end entries l)) (sym ends.log_is)
    (sizes_longer most before entries ends.before end ends.entries (below_last ends.before (end.file, ends.entries) (subst IsLog ends.log_is is)) ends.offset_is (subst (AreSizesWithin most before) ends.log_is all))

-- so is a buffer's
pub sizes_more : {D : Type 0} (most : ℕ) (before : Files) (old new : LogBuffer D) (log : Log) (entries : List Entry) → file_max_of new ≡ file_max_of old → IsLog log → EndsAt log (file_of old) (offset_of old) (last_of old) → KeepsSizes most before old log →
    KeepsSizes most before new (longer old entries log)
sizes_more most before old new log entries same is ends keeps = record {
  max = same ∙ keeps.max;
  sizes = subst (λ (m : ℕ). AreSizesWithin most before (log_with_all m (end_of old) entries log)) (sym keeps.max) (sizes_grown most before log (end_of old) (last_of old) entries is ends keeps.sizes);
}

-- ---- a log that is found

-- bytes that a crash keeps of a file that is stable are read there
read_there : (there : Option (List ℕ)) (bytes rest : List ℕ) → (synced_crash_state there).exists_always ≡ true → (synced_crash_state there).stable ≡ bytes ++ rest → (old : List ℕ) × (there ≡ Some old) × (length bytes ≤ length old)
read_there None bytes rest exists is = absurd cc
read_there (Some old) bytes rest exists is = (old, refl, (let n = ap (λ (l : List ℕ). length l) is in let parts = length-append bytes rest in omega (arith, n, parts)))

sizes_read : (most : ℕ) (f : ℕ) (there : Option (List ℕ)) (entries : List Entry) (rest : List ℕ) → (synced_crash_state there).exists_always ≡ true → (synced_crash_state there).stable ≡ file_bytes f entries ++ rest → IsSizeWithin most there entries
sizes_read most f there entries rest exists is =
    let found = read_there there (file_bytes f entries) rest exists is in
    let few = found.2 in
    let many = length-file_bytes f entries in
    inr (inr (found.0, found.1, omega (arith, few, many)))

-- a file of a log has no more entries than the log
few_entries : (log : Log) (f : ℕ) (entries : List Entry) → lookup (λ n. n == f) log ≡ Some entries → length entries ≤ length (entries_of log)
few_entries [] f entries found = absurd cc
few_entries (file ∷ log) f entries found = by_test (file.0 == f) found (λ later. few_entries log f entries later)
  where
    parts : length (file.1 ++ entries_of log) ≡ length file.1 + length (entries_of log)
    parts = length-append file.1 (entries_of log)

    by_test : (t : Bool) → cond t (Some file.1) (lookup (λ n. n == f) log) ≡ Some entries → (lookup (λ n. n == f) log ≡ Some entries → length entries ≤ length (entries_of log)) → length entries ≤ length (file.1 ++ entries_of log)
    by_test true is later = let same = ap (λ (l : List Entry). length l) (same_entries file.1 entries is) in omega (arith, same, parts)
    by_test false is later = let rest = later is in omega (arith, rest, parts)

-- where a crash keeps all of a log, and all that the disk reads is stable, its files are as long as they are read
pub sizes_found : (most : ℕ) (log : Log) (reads : Files) (crash_states : ℕ → CrashState) → IsLog log → KeepsLog log [] (length (entries_of log)) crash_states → crash_states ≡ synced_crash_states reads → AreSizesWithin most reads log
sizes_found most log reads crash_states is keeps stable f entries found = by_order (cases_order f at)
  where
    at : ℕ
    at = keeps.at

    here : List Entry
    here = keeps.kept ++ keeps.more

    whole : IsLog (keeps.before ++ (at, here) ∷ keeps.after)
    whole = subst IsLog keeps.log_is is

    found_there : lookup (λ n. n == f) (keeps.before ++ (at, here) ∷ keeps.after) ≡ Some entries
    found_there = ap (lookup (λ n. n == f)) (sym keeps.log_is) ∙ found

    at_f : crash_states f ≡ synced_crash_state (reads f)
    at_f = ap (λ (c : ℕ → CrashState). c f) stable

    -- nothing of the log is behind what is kept
    count : length (entries_of log) ≡ length (entries_of keeps.before) + (length keeps.kept + length keeps.more + length (entries_of keeps.after))
    count =
        let all = ap (λ (l : Log). length (entries_of l)) keeps.log_is ∙ ap (λ (l : List Entry). length l) (flat_map-append (λ (file : ℕ × List Entry). file.1) keeps.before ((at, here) ∷ keeps.after)) in
        let first = length-append (entries_of keeps.before) (here ++ entries_of keeps.after) in
        let next = length-append here (entries_of keeps.after) in
        let last = length-append keeps.kept keeps.more in
        omega (arith, all, first, next, last)

    no_more : (length keeps.more ≤ 0) × (length (entries_of keeps.after) ≤ 0)
    no_more = let least = keeps.at_least in (omega (arith, count, least), omega (arith, count, least))

    kept_whole : (bytes : List ℕ) → f ≢ at → files_of_log keeps.before f ≡ Some bytes → ((synced_crash_state (reads f)).exists_always ≡ true) × ((synced_crash_state (reads f)).stable ≡ bytes)
    kept_whole bytes apart some =
        let kept = subst (λ (o : Option (List ℕ)). KeepsFile [] at f o (crash_states f)) some (keeps.others f apart) in
        (sym (ap (λ (c : CrashState). c.exists_always) at_f) ∙ kept.there, sym (ap (λ (c : CrashState). c.stable) at_f) ∙ kept.whole.stable)

    append_none : (bytes : List ℕ) → bytes ≡ bytes ++ []
    append_none [] = refl
    append_none (b ∷ bytes) = ap (λ (l : List ℕ). b ∷ l) (append_none bytes)

    of_front : (keeps.kept ≡ []) ⊎ KeepsFront (file_bytes at keeps.kept) (crash_states at) → f ≡ at → entries ≡ here → IsSizeWithin most (reads f) entries
    of_front (inl none) same is_here =
        let n = ap (λ (l : List Entry). length l) none in
        let all = ap (λ (l : List Entry). length l) is_here in
        let parts = length-append keeps.kept keeps.more in
        let few = no_more.0 in
        inr (inl (omega (arith, n, all, parts, few)))
    of_front (inr front) same is_here =
        let nothing : keeps.more ≡ [] = none_of keeps.more no_more.0 in
        let is_kept : entries ≡ keeps.kept = is_here ∙ ap (λ (l : List Entry). keeps.kept ++ l) nothing ∙ sym (all_of keeps.kept) in
        let stable_at : crash_states at ≡ synced_crash_state (reads f) = ap crash_states (sym same) ∙ at_f in
        subst (λ (l : List Entry). IsSizeWithin most (reads f) l) (sym is_kept)
        (sizes_read most at (reads f) keeps.kept front.rest (sym (ap (λ (c : CrashState). c.exists_always) stable_at) ∙ front.there) (sym (ap (λ (c : CrashState). c.stable) stable_at) ∙ front.stable))
      where
        none_of : (l : List Entry) → length l ≤ 0 → l ≡ []
        none_of [] few = refl
        none_of (e ∷ l) few = absurd (omega (arith, few))

        all_of : (l : List Entry) → l ≡ l ++ []
        all_of [] = refl
        all_of (e ∷ l) = ap (λ (m : List Entry). e ∷ m) (all_of l)

    by_order : (f ≡ at) ⊎ ((f < at) ⊎ (at < f)) → IsSizeWithin most (reads f) entries
    by_order (inl same) =
        of_front keeps.front same
        (sym (same_entries here entries (sym (lookup_at keeps.before (at, here) keeps.after whole) ∙ ap (λ (k : ℕ). lookup (λ n. n == k) (keeps.before ++ (at, here) ∷ keeps.after)) (sym same) ∙ found_there)))
    by_order (inr (inl less)) =
        let under : lookup (λ n. n == f) keeps.before ≡ Some entries = sym (lookup_under keeps.before (at, here) keeps.after f whole less) ∙ found_there in
        let both = kept_whole (file_bytes f entries) (λ same. absurd (omega (arith, same, less))) (ap (option_map (file_bytes f)) under) in
        sizes_read most f (reads f) entries [] both.0 (both.1 ∙ append_none (file_bytes f entries))
    by_order (inr (inr more)) =
        let over : lookup (λ n. n == f) keeps.after ≡ Some entries = sym (lookup_over keeps.before (at, here) keeps.after f whole more) ∙ found_there in
        let few = few_entries keeps.after f entries over in
        let none = no_more.1 in
        inr (inl (omega (arith, few, none)))

-- ---- files that are a log's

-- the files that a log is are as long as it says
pub lengths_read : (most : ℕ) (before after : Files) (log : Log) → AreSizesWithin most before log → ((f : ℕ) → after f ≡ files_of_log log f) → AreLengthsWithin most before after
lengths_read most before after log sizes reads f bytes there = by_found (lookup (λ n. n == f) log) refl (sym (reads f) ∙ there)
  where
    by_size : (entries : List Entry) → bytes ≡ file_bytes f entries → IsSizeWithin most (before f) entries → IsLengthWithin most f (before f) bytes
    by_size entries is (inl few) = let n = ap (λ (l : List ℕ). length l) is in let many = length-file_bytes f entries in inl (omega (arith, n, many, few))
    by_size entries is (inr (inl one)) = inr (inl (entries, one, is))
    by_size entries is (inr (inr old)) =
        let n = ap (λ (l : List ℕ). length l) is in
        let many = length-file_bytes f entries in
        let few = old.2 in
        inr (inr (old.0, old.1, omega (arith, n, many, few)))

    by_found : (o : Option (List Entry)) → lookup (λ n. n == f) log ≡ o → option_map (file_bytes f) o ≡ Some bytes → IsLengthWithin most f (before f) bytes
    by_found None found is = absurd (none-some bytes is)
    by_found (Some entries) found is = let same : file_bytes f entries ≡ bytes = cc in by_size entries (sym same) (sizes f entries found)

-- what a file has that was cut is no more than it had
cut_shorter : (there : Option (List ℕ)) (end : ℕ) (old : List ℕ) → option_map (take end) there ≡ Some old → (first : List ℕ) × (there ≡ Some first) × (length old ≤ length first)
cut_shorter None end old is = absurd (none-some old is)
cut_shorter (Some first) end old is =
    let same : take end first ≡ old = cc in
    (first, refl, subst (λ (l : List ℕ). length l ≤ length first) same (take_shorter end first))
  where
    take_shorter : (n : ℕ) (l : List ℕ) → length (take n l) ≤ length l
    take_shorter zero l = omega arith
    take_shorter (suc n) [] = omega arith
    take_shorter (suc n) (x ∷ l) = let rest = take_shorter n l in omega (arith, rest)

-- a file that was opened has no more than it had at entry
pub entry_lengths : (old new : History) → KeepsEntry old new → (f : ℕ) (bytes : List ℕ) → (now new).reads f ≡ Some bytes → (first : List ℕ) × ((now old).reads f ≡ Some first) × (length bytes ≤ length first)
entry_lengths old new keeps f bytes there = by_read (keeps.reads new.moment keeps.since.later (omega arith) f)
  where
    by_read : ((now new).reads f ≡ (now old).reads f) ⊎ IsTailCut (now old).reads f ((now new).reads f) → (first : List ℕ) × ((now old).reads f ≡ Some first) × (length bytes ≤ length first)
    by_read (inl same) = (bytes, sym same ∙ there, omega arith)
    by_read (inr tail) = cut_shorter ((now old).reads f) tail.run.end bytes (sym tail.cut ∙ there)

-- what is no longer than a file at entry that was cut is no longer than that file
pub lengths_kept : (most : ℕ) (entry before after : Files) → ((f : ℕ) (old : List ℕ) → before f ≡ Some old → (first : List ℕ) × (entry f ≡ Some first) × (length old ≤ length first)) → AreLengthsWithin most before after →
    AreLengthsWithin most entry after
lengths_kept most entry before after shorter all f bytes there = by_case (all f bytes there)
  where
    by_case : IsLengthWithin most f (before f) bytes → IsLengthWithin most f (entry f) bytes
    by_case (inl few) = inl few
    by_case (inr (inl one)) = inr (inl one)
    by_case (inr (inr old)) =
        let first = shorter f old.0 old.1 in
        let few = old.2 in
        let less = first.2 in
        inr (inr (first.0, first.1, omega (arith, few, less)))
