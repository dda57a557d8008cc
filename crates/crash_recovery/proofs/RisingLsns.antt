-- The LSNs of a log's entries, and of entries that are appended to it.
use Rattle.std.proofs.Common.{◌≡◌, ◌≢◌, ℕ, ◌+◌, ◌-◌, ◌*◌, ◌^◌, ◌<◌, ◌≤◌, List, [], ◌∷◌, ◌++◌, map, refl, sym, ap, subst, ◌∙◌, arith, ◌⊎◌, inl, inr}
use Rattle.std.proofs.lemmas.Bool.{cases_order}
use Rattle.std.specs.List.{AllByRecursion}
use Rattle.je_order.proofs.Lists.{all_weaker, all_append}
use Rattle.log_entry.specs.declared.entry.Entry.{Entry}
use Rattle.log_entry.specs.Encoding.{size_of}
use Rattle.log_file.specs.Scan.{sizes_of}
use Rattle.log_file.specs.Log.{Log, IsLog, AreFileEntries}
use Rattle.log_file.proofs.PlacedLaws.{placed-append, placed_are_in_order}
use Rattle.log_replay.proofs.ListLaws.{all_parts}
use Rattle.log_buffer.specs.declared.log_pos.LogPos.{LogPos}
use Rattle.log_buffer.specs.Flip.{header_size, placed_at, end_after, end_after_all, pos_lsn}
use Rattle.log_buffer.specs.Log.{EndsAt}
use Rattle.log_buffer.specs.Growth.{log_with_all}
use Rattle.log_buffer.specs.Laws.{placed_by}
use Rattle.log_buffer.proofs.GrowthLaws.{appended_are_placed}
use Rattle.log_buffer.proofs.LogChanges.{AreBelow, below_last, last_entries}
use Rattle.log_buffer.proofs.LogPositions.{IsPlaced, is_placed}
use Rattle.log_trees.specs.Placed.{Placed, placed_from, placed, AreInOrder}
use Rattle.log_trees.specs.Laws.{AreBehind}
use Rattle.log_meaning.specs.Transactions.{last_lsn}
use Rattle.crash_recovery.specs.Appending.{LogsLieBelow, AppendedRise}

-- ---- the log's own

-- entries of one file lie two bytes or more before where the last one ends
below_end : (f at : ℕ) (entries : List Entry) → AllByRecursion (λ p. p.0 + 1 < f * 2 ^ 32 + (at + sizes_of entries)) (placed_from f at entries)
below_end f at [] = tt
below_end f at (entry ∷ entries) = (
  omega arith,
  all_weaker (λ (p : Placed). p.0 + 1 < f * 2 ^ 32 + (at + size_of entry + sizes_of entries)) (λ p. p.0 + 1 < f * 2 ^ 32 + (at + (size_of entry + sizes_of entries)))
      (λ p h. omega (arith, h)) (placed_from f (at + size_of entry) entries) (below_end f (at + size_of entry) entries),
)

-- entries of files below a number lie below that file
below_files : (n : ℕ) (log : Log) → AreBelow n log → AllByRecursion (λ file. (file.0 < 2 ^ 32) × AreFileEntries file.1) log → AllByRecursion (λ p. p.0 < n * 2 ^ 32) (placed log)
below_files n [] below each = tt
below_files n (file ∷ log) below each =
    let ends : 26 + sizes_of file.1 < 2 ^ 32 = each.0.1.ends in
    let less : file.0 < n = below.0 in
    all_append (λ (p : Placed). p.0 < n * 2 ^ 32) (placed_from file.0 26 file.1) (placed log)
    (all_weaker (λ (p : Placed). p.0 + 1 < file.0 * 2 ^ 32 + (26 + sizes_of file.1)) (λ p. p.0 < n * 2 ^ 32) (λ p h. omega (arith, h, ends, less))
    (placed_from file.0 26 file.1) (below_end file.0 26 file.1))
    (below_files n log below.1 each.1)

all_before : {X : Type 0} (P : X → Type 0) (a b : List X) → AllByRecursion P (a ++ b) → AllByRecursion P a
all_before P a b all = (all_parts P a b all).0

pub logs_lie_below : LogsLieBelow
logs_lie_below log end last is ends =
    let parts : IsLog (ends.before ++ (end.file, ends.entries) ∷ []) = subst IsLog ends.log_is is in
    let o : end.offset ≡ header_size + sizes_of ends.entries = ends.offset_is in
    let below : AllByRecursion (λ p. p.0 < end.file * 2 ^ 32) (placed ends.before) =
    below_files end.file ends.before (below_last ends.before (end.file, ends.entries) parts)
    (all_before (λ (file : ℕ × List Entry). (file.0 < 2 ^ 32) × AreFileEntries file.1) ends.before ((end.file, ends.entries) ∷ []) parts.each) in
    record {
      some = omega (arith, o);
      below = subst (AllByRecursion (λ p. p.0 < pos_lsn end - 1)) (sym (ap placed ends.log_is ∙ placed-append ends.before ((end.file, ends.entries) ∷ [])))
          (all_append (λ (p : Placed). p.0 < pos_lsn end - 1) (placed ends.before) (placed ((end.file, ends.entries) ∷ []))
          (all_weaker (λ (p : Placed). p.0 < end.file * 2 ^ 32) (λ p. p.0 < pos_lsn end - 1) (λ p h. omega (arith, h, o)) (placed ends.before) below)
          (all_append (λ (p : Placed). p.0 < pos_lsn end - 1) (placed_from end.file 26 ends.entries) []
          (all_weaker (λ (p : Placed). p.0 + 1 < end.file * 2 ^ 32 + (26 + sizes_of ends.entries)) (λ p. p.0 < pos_lsn end - 1) (λ p h. omega (arith, h, o))
          (placed_from end.file 26 ends.entries) (below_end end.file 26 ends.entries)) tt));
    }

-- ---- those that are appended

entries-placed_by : (file_max : ℕ) (end : LogPos) (entries : List Entry) → map (λ p. p.1) (placed_by file_max end entries) ≡ entries
entries-placed_by file_max end [] = refl
entries-placed_by file_max end (entry ∷ entries) = ap (λ (l : List Entry). entry ∷ l) (entries-placed_by file_max (end_after file_max end (size_of entry)) entries)

last_below : (file_max : ℕ) (end : LogPos) (entries : List Entry) (next : ℕ) → next < pos_lsn end → last_lsn next (placed_by file_max end entries) < pos_lsn (end_after_all file_max end (map size_of entries))
last_below file_max end [] next lt = lt
last_below file_max end (entry ∷ entries) next lt =
    last_below file_max (end_after file_max end (size_of entry)) entries (pos_lsn (placed_at file_max end (size_of entry))) (omega arith)

order_second : (a b : List Placed) → AreInOrder (a ++ b) → AreInOrder b
order_second [] b order = order
order_second (p ∷ a) b order = order_second a b order.1

-- an entry stands at the log's end or behind it
not_before : (file_max : ℕ) (end : LogPos) (size : ℕ) → end.offset < 2 ^ 32 → pos_lsn end ≤ pos_lsn (placed_at file_max end size)
not_before file_max end size small = by_file (is_placed file_max end size) (cases_order (placed_at file_max end size).file end.file)
  where
    later : IsPlaced file_max end size (placed_at file_max end size) → (placed_at file_max end size).file ≢ end.file → pos_lsn end ≤ pos_lsn (placed_at file_max end size)
    later at apart = subst (λ (p : LogPos). pos_lsn end ≤ pos_lsn p) (sym (at.next apart)) (omega (arith, small))

    by_file : IsPlaced file_max end size (placed_at file_max end size) →
        ((placed_at file_max end size).file ≡ end.file) ⊎ (((placed_at file_max end size).file < end.file) ⊎ (end.file < (placed_at file_max end size).file)) →
        pos_lsn end ≤ pos_lsn (placed_at file_max end size)
    by_file at (inl same) = subst (λ (p : LogPos). pos_lsn end ≤ pos_lsn p) (sym (at.same same).0) (omega arith)
    by_file at (inr (inl lt)) = later at (λ same. absurd (omega (arith, same, lt)))
    by_file at (inr (inr gt)) = later at (λ same. absurd (omega (arith, same, gt)))

-- the next entry stands at the log's end or behind it
pub behind_end : (log : Log) (end : LogPos) (last file_max size : ℕ) → IsLog log → (ends : EndsAt log end.file end.offset last) → pos_lsn end ≤ pos_lsn (placed_at file_max end size)
behind_end log end last file_max size is ends =
    let own : AreFileEntries ends.entries = last_entries ends.before end.file ends.entries (subst IsLog ends.log_is is) in
    let small : 26 + sizes_of ends.entries < 2 ^ 32 = own.ends in
    let o : end.offset ≡ header_size + sizes_of ends.entries = ends.offset_is in
    not_before file_max end size (omega (arith, small, o))

behind_all : (file_max : ℕ) (end : LogPos) (entries : List Entry) (next : ℕ) → end.offset < 2 ^ 32 → next < pos_lsn end → AreInOrder (placed_by file_max end entries) → AreBehind next (placed_by file_max end entries)
behind_all file_max end [] next small lt order = tt
behind_all file_max end (entry ∷ entries) next small lt order =
    let first : ℕ = pos_lsn (placed_at file_max end (size_of entry)) in
    let le : pos_lsn end ≤ first = not_before file_max end (size_of entry) small in
    let up : next < first = omega (arith, lt, le) in (
      up,
      all_weaker (λ (p : Placed). first < p.0) (λ p. next < p.0) (λ p h. omega (arith, h, up)) (placed_by file_max (end_after file_max end (size_of entry)) entries) order.0,
    )

pub appended_rise : AppendedRise
appended_rise log end last file_max entries next is ends longer lt =
    let order : AreInOrder (placed_by file_max end entries) =
    order_second (placed log) (placed_by file_max end entries)
    (subst AreInOrder (appended_are_placed log end last file_max entries is ends) (placed_are_in_order (log_with_all file_max end entries log) longer)) in
    let own : AreFileEntries ends.entries = last_entries ends.before end.file ends.entries (subst IsLog ends.log_is is) in
    let small : 26 + sizes_of ends.entries < 2 ^ 32 = own.ends in
    let o : end.offset ≡ header_size + sizes_of ends.entries = ends.offset_is in
    record {
      entries_are = entries-placed_by file_max end entries;
      rise = (behind_all file_max end entries next (omega (arith, small, o)) lt order, order);
      below = last_below file_max end entries next lt;
    }
