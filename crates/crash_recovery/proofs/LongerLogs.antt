-- A log to which entries are appended misses no file still, and recovers what its entries recover.
use Rattle.std.proofs.Common.{◌≡◌, ℕ, ◌+◌, ◌^◌, ◌<◌, ◌≤◌, Bool, true, false, cond, List, [], ◌∷◌, ◌++◌, Option, map, take, refl, sym, ap, subst, ◌∙◌, arith}
use Rattle.std.proofs.lemmas.List.{map-append, take-append-le}
use Rattle.std.specs.List.{AllByRecursion}
use Rattle.je_lsn.specs.Naming.{last_file}
use Rattle.je_order.proofs.Lists.{all_push}
use Rattle.log_entry.specs.declared.entry.Entry.{Entry}
use Rattle.log_entry.specs.Body.{IsEntry}
use Rattle.log_entry.specs.Encoding.{size_of}
use Rattle.log_entry.proofs.BodyLaws.{body_small}
use Rattle.log_file.specs.Scan.{may_follow, sizes_of}
use Rattle.log_file.specs.Log.{Log, IsLog, AreFileEntries}
use Rattle.log_file.proofs.EncodedLaws.{grow_by_append}
use Rattle.log_replay.proofs.ListLaws.{all_of_map, all_to_map}
use Rattle.log_buffer.specs.declared.log_pos.LogPos.{LogPos}
use Rattle.log_buffer.specs.Flip.{header_size, goes_in, next_file, placed_at, behind, end_after, end_after_all}
use Rattle.log_buffer.specs.Log.{EndsAt, log_with}
use Rattle.log_buffer.specs.Growth.{log_with_all}
use Rattle.log_buffer.proofs.GrowthLaws.{appended_are_placed}
use Rattle.log_buffer.proofs.LogChanges.{AreBelow, below_last, below_more, below_push, is_log_last, is_log_push, last_entries, numbers_push, with_last, with_next}
use Rattle.log_buffer.proofs.LogPositions.{all_after, fits_in}
use Rattle.log_buffer.specs.Laws.{placed_by}
use Rattle.log_trees.specs.Placed.{Placed, placed}
use Rattle.log_meaning.specs.Checkpoint.{Checkpoint, last_end}
use Rattle.log_meaning.specs.Recovery.{Recovers}
use Rattle.log_meaning.specs.Found.{HasFilesFrom}
use Rattle.log_meaning.proofs.NeededFiles.{next_file_stays}
use Rattle.crash_recovery.specs.Reading.{IsNamedLog}
use Rattle.crash_recovery.specs.Appending.{LongerIsNamed, LongerRecovers}

abbrev numbers : Log → List ℕ
numbers log = map (λ file. file.0) log

-- ---- an entry more

-- a log with entries more ends here, and misses no file that it did not miss before
record IsGrown (log longer : Log) (file offset : ℕ) : Type 0 where
  named : IsNamedLog longer
  last : ℕ
  ends : EndsAt longer file offset last
  files : (first : ℕ) (o : Option Checkpoint) → HasFilesFrom first o (numbers log) → HasFilesFrom first o (numbers longer)

grown_here : (log : Log) (file offset last : ℕ) (e : Entry) → IsNamedLog log → EndsAt log file offset last → IsEntry e → may_follow e ≡ true → offset + size_of e < 2 ^ 32 →
    IsGrown log (log_with file e log) file (offset + size_of e)
grown_here log file offset last e ok ends entry follows fits =
    let es = ends.entries in
    let o : offset ≡ header_size + sizes_of es = ends.offset_is in
    let is_log : IsLog (ends.before ++ (file, es) ∷ []) = subst IsLog ends.log_is ok.is_log in
    let grown = grow_by_append file es e (last_entries ends.before file es is_log) entry follows (omega (arith, o, fits)) in
    let s = grown.sizes in
    let log_now : log_with file e log ≡ ends.before ++ (file, es ++ e ∷ []) ∷ [] =
    ap (log_with file e) ends.log_is ∙ with_last ends.before file es e (below_last ends.before (file, es) is_log) in
    let same : numbers (log_with file e log) ≡ numbers log = ap numbers log_now ∙ numbers_push ends.before file (es ++ e ∷ []) es ∙ sym (ap numbers ends.log_is) in
    record {
      named = record {
        is_log = subst IsLog (sym log_now) (is_log_last ends.before file es (es ++ e ∷ []) is_log grown.entries_are);
        small = all_of_map (λ (x : ℕ × List Entry). x.0) (λ n. n ≤ last_file) (log_with file e log)
            (subst (AllByRecursion (λ n. n ≤ last_file)) (sym same) (all_to_map (λ (x : ℕ × List Entry). x.0) (λ n. n ≤ last_file) log ok.small));
      };
      last = offset;
      ends = record { before = ends.before; entries = es ++ e ∷ []; log_is = log_now; offset_is = omega (arith, o, s); last_is = o ∙ sym grown.last };
      files = λ first o has. subst (HasFilesFrom first o) (sym same) has;
    }

grown_next : (log : Log) (file offset last : ℕ) (e : Entry) → IsNamedLog log → EndsAt log file offset last → IsEntry e → may_follow e ≡ true → header_size + size_of e < 2 ^ 32 → file + 1 ≤ last_file →
    IsGrown log (log_with (file + 1) e log) (file + 1) (header_size + size_of e)
grown_next log file offset last e ok ends entry follows small room =
    let is_log : IsLog (ends.before ++ (file, ends.entries) ∷ []) = subst IsLog ends.log_is ok.is_log in
    let below : AreBelow (file + 1) log =
    subst (AreBelow (file + 1)) (sym ends.log_is)
    (below_push (file + 1) ends.before (file, ends.entries) (below_more file (file + 1) ends.before (omega arith) (below_last ends.before (file, ends.entries) is_log)) (omega arith)) in
    let are : AreFileEntries (e ∷ []) = record { entries = (entry, tt); follow = (follows, tt); ends = omega (arith, small) } in
    let log_now : log_with (file + 1) e log ≡ log ++ (file + 1, e ∷ []) ∷ [] = with_next log (file + 1) e below in
    let old : numbers log ≡ numbers ends.before ++ file ∷ [] = ap numbers ends.log_is ∙ map-append (λ (x : ℕ × List Entry). x.0) ends.before ((file, ends.entries) ∷ []) in
    let new : numbers (log_with (file + 1) e log) ≡ (numbers ends.before ++ file ∷ []) ++ (file + 1) ∷ [] =
    ap numbers log_now ∙ map-append (λ (x : ℕ × List Entry). x.0) log ((file + 1, e ∷ []) ∷ []) ∙ ap (λ (l : List ℕ). l ++ (file + 1) ∷ []) old in
    record {
      named = record {
        is_log = subst IsLog (sym log_now) (is_log_push log (file + 1, e ∷ []) ok.is_log below (omega (arith, room)) are);
        small = subst (λ (l : Log). AllByRecursion (λ x. x.0 ≤ last_file) l) (sym log_now) (all_push (λ (x : ℕ × List Entry). x.0 ≤ last_file) log (file + 1, e ∷ []) ok.small room);
      };
      last = header_size;
      ends = record { before = log; entries = e ∷ []; log_is = log_now; offset_is = omega arith; last_is = refl };
      files = λ first o has. subst (HasFilesFrom first o) (sym new)
          (next_file_stays first o (numbers ends.before) file
          (all_to_map (λ (x : ℕ × List Entry). x.0) (λ n. n < file) ends.before (below_last ends.before (file, ends.entries) is_log)) (subst (HasFilesFrom first o) old has));
    }

-- an entry where it is placed
grown_at : (file_max : ℕ) (end : LogPos) (last : ℕ) (log : Log) (e : Entry) → file_max ≤ 2 ^ 30 → IsNamedLog log → EndsAt log end.file end.offset last → IsEntry e → may_follow e ≡ true →
    (placed_at file_max end (size_of e)).file ≤ last_file → IsGrown log (log_with (placed_at file_max end (size_of e)).file e log) (placed_at file_max end (size_of e)).file (end_after file_max end (size_of e)).offset
grown_at file_max end last log e max ok ends entry follows = by_case (goes_in file_max end.offset (size_of e)) refl
  where
    small : size_of e < 2 ^ 31
    small = omega (arith, body_small e entry)

    by_case : (b : Bool) → goes_in file_max end.offset (size_of e) ≡ b → (cond b end (next_file end)).file ≤ last_file →
        IsGrown log (log_with (cond b end (next_file end)).file e log) (cond b end (next_file end)).file (behind (cond b end (next_file end)) (size_of e)).offset
    by_case true goes room = grown_here log end.file end.offset last e ok ends entry follows (fits_in file_max end.offset (size_of e) max small goes)
    by_case false goes room = grown_next log end.file end.offset last e ok ends entry follows (omega (arith, small)) room

-- ---- several entries

grown_all : (file_max : ℕ) (entries : List Entry) (end : LogPos) (last : ℕ) (log : Log) → file_max ≤ 2 ^ 30 → IsNamedLog log → EndsAt log end.file end.offset last →
    AllByRecursion (λ e. IsEntry e × (may_follow e ≡ true)) entries → (end_after_all file_max end (map size_of entries)).file ≤ last_file →
    IsGrown log (log_with_all file_max end entries log) (end_after_all file_max end (map size_of entries)).file (end_after_all file_max end (map size_of entries)).offset
grown_all file_max [] end last log max ok ends are room = record { named = ok; last = last; ends = ends; files = λ first o has. has }
grown_all file_max (e ∷ entries) end last log max ok ends are room =
    let middle : LogPos = end_after file_max end (size_of e) in
    let after : (placed_at file_max end (size_of e)).file ≤ (end_after_all file_max middle (map size_of entries)).file = all_after file_max middle (map size_of entries) in
    let one = grown_at file_max end last log e max ok ends are.0.0 are.0.1 (omega (arith, after, room)) in
    let rest = grown_all file_max entries middle one.last (log_with (placed_at file_max end (size_of e)).file e log) max one.named one.ends are.1 room in
    record { named = rest.named; last = rest.last; ends = rest.ends; files = λ first o has. rest.files first o (one.files first o has) }

pub longer_is_named : LongerIsNamed
longer_is_named log end last file_max entries ok ends have =
    let grown = grown_all file_max entries end last log have.max ok ends have.entries_are have.room in
    record { named = grown.named; last = grown.last; ends = grown.ends }

pub longer_recovers : LongerRecovers
longer_recovers first opening base transactions longer log end last file_max entries is ends have recovers =
    let grown = grown_all file_max entries end last log have.max is.named ends have.entries_are have.room in
    let made : placed (log_with_all file_max end entries log) ≡ placed log ++ placed_by file_max end entries = appended_are_placed log end last file_max entries is.named.is_log ends in
    let same : take base (placed (log_with_all file_max end entries log)) ≡ take base (placed log) =
    ap (take base) made ∙ take-append-le base (placed log) (placed_by file_max end entries) is.recovers.within in
    record {
      named = grown.named;
      files = subst (λ (l : List Placed). HasFilesFrom first (last_end l) (numbers (log_with_all file_max end entries log))) (sym same) (grown.files first (last_end (take base (placed log))) is.files);
      recovers = subst (Recovers first opening base longer) (sym made) recovers;
    }
