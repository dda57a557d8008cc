-- A log that was found.
use Rattle.std.proofs.Common.{◌≡◌, ℕ, ◌-◌, ◌<◌, ◌^◌, List, [], ◌∷◌, Ok, map, length, refl, sym, ap, subst, arith}
use Rattle.std.proofs.lemmas.List.{take_all}
use Rattle.std.specs.List.{AllByRecursion}
use Rattle.je_order.proofs.Lists.{all_append}
use Rattle.log_entry.specs.Body.{IsEntry}
use Rattle.log_file.specs.Log.{Log, IsLog, AreFileEntries, entries_of, log_in}
use Rattle.log_file.proofs.PlacedLaws.{placed_are_entries}
use Rattle.log_replay.proofs.ListLaws.{all_of_map}
use Rattle.log_buffer.specs.Flip.{pos_lsn}
use Rattle.log_trees.specs.Placed.{Placed, placed}
use Rattle.log_meaning.specs.Checkpoint.{last_end}
use Rattle.log_meaning.specs.Meaning.{Meaning}
use Rattle.log_meaning.specs.Reading.{reading_of}
use Rattle.log_meaning.specs.Found.{HasFilesFrom, IsFound, IsBegun}
use Rattle.log_meaning.proofs.Found.{read_files_are_found, opened_is_begun}
use Rattle.crash_recovery.specs.Appending.{LiesBelow}
use Rattle.crash_recovery.specs.Opening.{found_log, first_of_found, FoundLogsRecover}
use Rattle.crash_recovery.proofs.RisingLsns.{logs_lie_below}

abbrev numbers : {X : Type 0} → List (ℕ × X) → List ℕ
numbers held = map (λ file. file.0) held

numbers-log_in : (held : List (ℕ × List ℕ)) → numbers (log_in held) ≡ numbers held
numbers-log_in [] = refl
numbers-log_in (file ∷ held) = ap (λ (l : List ℕ). file.0 ∷ l) (numbers-log_in held)

-- the entries of a log's files are entries
each_entry : (log : Log) → AllByRecursion (λ file. (file.0 < 2 ^ 32) × AreFileEntries file.1) log → AllByRecursion IsEntry (entries_of log)
each_entry [] each = tt
each_entry (file ∷ log) each = all_append IsEntry file.1 (entries_of log) each.0.1.entries (each_entry log each.1)

placed_entries : (log : Log) → IsLog log → AllByRecursion (λ p. IsEntry p.1) (placed log)
placed_entries log is = all_of_map (λ (p : Placed). p.1) IsEntry (placed log) (subst (AllByRecursion IsEntry) (sym (placed_are_entries log)) (each_entry log is.each))

found : (next : ℕ) (held : List (ℕ × List ℕ)) (meaning : Meaning) → AllByRecursion (λ p. IsEntry p.1) (placed (found_log next held)) → reading_of held ≡ Ok meaning →
    IsFound (first_of_found next held) (placed (found_log next held)) (numbers held) meaning
found next [] meaning entries h = read_files_are_found next [] meaning tt h
found next (file ∷ held) meaning entries h = read_files_are_found next (file ∷ held) meaning entries h

-- no file is missing, also where the next one is begun
files_of : (next : ℕ) (held : List (ℕ × List ℕ)) → HasFilesFrom (first_of_found next held) (last_end (placed (found_log next held))) (numbers held) →
    HasFilesFrom (first_of_found next held) (last_end (placed (found_log next held))) (numbers (found_log next held))
files_of next [] has = (refl, refl)
files_of next (file ∷ held) has =
    subst (HasFilesFrom (first_of_found next (file ∷ held)) (last_end (placed (found_log next (file ∷ held))))) (sym (numbers-log_in (file ∷ held))) has

pub found_logs_recover : FoundLogsRecover
found_logs_recover next held end last meaning named ends h =
    let log : Log = found_log next held in
    let first : ℕ = first_of_found next held in
    let es : List Placed = placed log in
    let is = found next held meaning (placed_entries log named.is_log) h in
    let low : LiesBelow log end = logs_lie_below log end last named.is_log ends in
    let begun : IsBegun first es (pos_lsn end - 1) meaning = opened_is_begun first es (pos_lsn end - 1) meaning is.opened low.some low.below in
    record {
      opened = is.opened;
      recovers = record {
        named = named;
        files = subst (λ (l : List Placed). HasFilesFrom first (last_end l) (numbers log)) (sym (take_all (length es) es (omega arith))) (files_of next held is.files);
        recovers = begun.recovers;
      };
      begun = begun;
    }
