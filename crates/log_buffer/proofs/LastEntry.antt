-- An entry that is appended is the last one.
use Rattle.std.proofs.Common.{◌≡◌, ◌≢◌, ℕ, ◌+◌, ◌<◌, ◌==◌, [], ◌∷◌, ◌++◌, sym, ap, subst, ◌∙◌, arith, ◌⊎◌, inl, inr}
use Rattle.std.proofs.lemmas.Bool.{cases_order}
use Rattle.std.specs.Map.{lookup}
use Rattle.log_entry.specs.declared.entry.Entry.{Entry}
use Rattle.log_file.specs.Log.{Log, IsLog, entries_of}
use Rattle.log_buffer.specs.declared.log_pos.LogPos.{LogPos}
use Rattle.log_buffer.specs.Flip.{next_file, placed_at}
use Rattle.log_buffer.specs.Log.{EndsAt, log_with}
use Rattle.log_buffer.specs.Laws.{IsLast, AppendedIsLast}
use Rattle.log_buffer.proofs.LogChanges.{AreBelow, below_last, below_more, below_push, lookup_last, with_last, with_next, entries_with_last, entries_with_next}
use Rattle.log_buffer.proofs.LogPositions.{IsPlaced, is_placed}

last_here : (log : Log) (end : LogPos) (last : ℕ) (e : Entry) → IsLog log → EndsAt log end.file end.offset last → IsLast log end e
last_here log end last e is ends =
    let below = below_last ends.before (end.file, ends.entries) (subst IsLog ends.log_is is) in
    let log_now : log_with end.file e log ≡ ends.before ++ (end.file, ends.entries ++ e ∷ []) ∷ [] = ap (log_with end.file e) ends.log_is ∙ with_last ends.before end.file ends.entries e below in
    record {
      entries = ap (λ (l : Log). entries_of (log_with end.file e l)) ends.log_is ∙ entries_with_last ends.before end.file ends.entries e below ∙ ap (λ (l : Log). entries_of l ++ e ∷ []) (sym ends.log_is);
      stands = record {
        file = end.file;
        before = ends.entries;
        after = [];
        in_log = ap (λ (l : Log). lookup (λ n. n == end.file) l) log_now ∙ lookup_last ends.before end.file (ends.entries ++ e ∷ []) below;
        at_is = let o = ends.offset_is in omega arith;
      };
    }

last_next : (log : Log) (end : LogPos) (last : ℕ) (e : Entry) → IsLog log → EndsAt log end.file end.offset last → IsLast log (next_file end) e
last_next log end last e is ends =
    let n = end.file + 1 in
    let below_old = below_last ends.before (end.file, ends.entries) (subst IsLog ends.log_is is) in
    let below : AreBelow n log = subst (AreBelow n) (sym ends.log_is) (below_push n ends.before (end.file, ends.entries) (below_more end.file n ends.before (omega arith) below_old) (omega arith)) in
    record {
      entries = entries_with_next log n e below;
      stands = record {
        file = n;
        before = [];
        after = [];
        in_log = ap (λ (l : Log). lookup (λ k. k == n) l) (with_next log n e below) ∙ lookup_last log n (e ∷ []) below;
        at_is = omega arith;
      };
    }

pub appended_is_last : AppendedIsLast
appended_is_last log end last file_max size e is ends = by_pos (is_placed file_max end size) (cases_order (placed_at file_max end size).file end.file) where
  next : IsPlaced file_max end size (placed_at file_max end size) → (placed_at file_max end size).file ≢ end.file → IsLast log (placed_at file_max end size) e
  next placed apart = subst (λ (p : LogPos). IsLast log p e) (sym (placed.next apart)) (last_next log end last e is ends)

  by_pos : IsPlaced file_max end size (placed_at file_max end size) → ((placed_at file_max end size).file ≡ end.file) ⊎ (((placed_at file_max end size).file < end.file) ⊎ (end.file < (placed_at file_max end size).file)) → IsLast log (placed_at file_max end size) e
  by_pos placed (inl same) = subst (λ (p : LogPos). IsLast log p e) (sym (placed.same same).0) (last_here log end last e is ends)
  by_pos placed (inr (inl lt)) = next placed (λ same. absurd (omega (arith, same)))
  by_pos placed (inr (inr gt)) = next placed (λ same. absurd (omega (arith, same)))
