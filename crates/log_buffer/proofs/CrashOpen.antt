-- What a crash keeps of a log as it is opened.
use Rattle.std.proofs.Common.{◌≡◌, ◌≢◌, ℕ, ◌≤◌, Bool, true, false, List, [], ◌∷◌, ◌++◌, Option, Some, None, length, take, refl, sym, ap, subst, ◌∙◌, arith, ◌⊎◌, inl, inr}
use Rattle.std.specs.Prelude.{nat_lt, if◌then◌else◌}
use Rattle.std.proofs.lemmas.List.{append-nil, take_at}
use Rattle.je_disk.specs.States.{State, CrashState, put_file, with_crash_state, shortened, cut, cut_by, synced_crash_state, synced_crash_states}
use Rattle.je_disk.proofs.ImageLaws.{image_synced}
use Rattle.log_entry.specs.declared.entry.Entry.{Entry}
use Rattle.log_file.specs.Log.{Log, IsLog, entries_of, file_bytes, files_of_log}
use Rattle.log_buffer.specs.Log.{EndsAt}
use Rattle.log_buffer.specs.Crash.{KeepsFront, KeepsLog, KeepsFrom, Holds}
use Rattle.log_buffer.specs.Chance.{AreStableBut, LastIsKept, CutsKeep}
use Rattle.log_buffer.proofs.CrashWrites.{crash_state_same, crash_state_other, keeps_stable, kept_stable}
use Rattle.log_buffer.proofs.CrashSync.{count_last, whole_kept}

-- a log that stands on the disk, all stable
pub synced_holds : (log : Log) (file offset last first : ℕ) (s : State) → IsLog log → EndsAt log file offset last → first ≤ file → ((g : ℕ) → s.reads g ≡ files_of_log log g) → s.crash_states ≡ synced_crash_states s.reads
    → Holds log [] (length (entries_of log)) None first s
synced_holds log file offset last first s is ends le read stable = record {
  kept = subst (λ (m : ℕ → CrashState). KeepsFrom log [] (length (entries_of log)) first s.reads m) (sym stable) (whole_kept log [] file offset last first s.reads is ends le read);
  job = tt;
}

-- the same where the last file has no header yet
pub headless_holds : (before : Log) (file first : ℕ) (s : State) → first ≤ file → ((g : ℕ) → g ≢ file → s.reads g ≡ files_of_log before g) → s.crash_states ≡ synced_crash_states s.reads
    → Holds (before ++ (file, []) ∷ []) [] (length (entries_of before)) None first s
headless_holds before file first s le read stable = record {
  kept = subst (λ (m : ℕ → CrashState). KeepsFrom (before ++ (file, []) ∷ []) [] (length (entries_of before)) first s.reads m) (sym stable)
      (kept_stable (before ++ (file, []) ∷ []) [] (length (entries_of before)) first s.reads (synced_crash_states s.reads) before file [] [] [] refl (inl refl) (λ g apart. ap synced_crash_state (read g apart)) (omega arith) le (λ g. image_synced (s.reads g)));
  job = tt;
}

-- a log whose last file is kept with all its entries
keeps_last : (before : Log) (f : ℕ) (entries : List Entry) (crash_states : ℕ → CrashState) → AreStableBut f before crash_states → LastIsKept f entries crash_states
    → KeepsLog (before ++ (f, entries) ∷ []) [] (length (entries_of (before ++ (f, entries) ∷ []))) crash_states
keeps_last before f entries crash_states stable last =
    keeps_stable (before ++ (f, entries) ∷ []) [] (length (entries_of (before ++ (f, entries) ∷ []))) crash_states before f entries [] []
    (ap (λ (x : List Entry). before ++ (f, x) ∷ []) (sym (append-nil entries))) last stable (count_last before f entries)

-- a cut at the entries' end, or of a file without entries, keeps them
last_cut : (f len : ℕ) (entries : List Entry) (crash_states : ℕ → CrashState) → (len ≡ length (file_bytes f entries)) ⊎ (entries ≡ []) → LastIsKept f entries crash_states → LastIsKept f entries (with_crash_state f (shortened len) crash_states)
last_cut f len entries crash_states at (inl none) = inl none
last_cut f len entries crash_states (inr none) (inr front) = inl none
last_cut f len entries crash_states (inl at) (inr front) =
    inr (subst (KeepsFront (file_bytes f entries)) (sym (crash_state_same crash_states (shortened len) f f refl)) (record {
      there = front.there;
      rest = [];
      stable = ap (take len) front.stable ∙ take_at (file_bytes f entries) front.rest len (sym at) ∙ sym (append-nil (file_bytes f entries));
    }))

keeps_cut : (before : Log) (f len : ℕ) (entries : List Entry) (s : State) → (len ≡ length (file_bytes f entries)) ⊎ (entries ≡ []) → AreStableBut f before s.crash_states → LastIsKept f entries s.crash_states
    → KeepsLog (before ++ (f, entries) ∷ []) [] (length (entries_of (before ++ (f, entries) ∷ []))) (cut f len s).crash_states
keeps_cut before f len entries s at stable last = by_file (s.reads f) where
  by_length : (there : List ℕ) (longer : Bool) → KeepsLog (before ++ (f, entries) ∷ []) [] (length (entries_of (before ++ (f, entries) ∷ []))) (if longer then put_file f (Some (take len there)) (shortened len) s else s).crash_states
  by_length there true = keeps_last before f entries (with_crash_state f (shortened len) s.crash_states) (λ g apart. crash_state_other s.crash_states (shortened len) f g apart ∙ stable g apart) (last_cut f len entries s.crash_states at last)
  by_length there false = keeps_last before f entries s.crash_states stable last

  by_file : (file : Option (List ℕ)) → KeepsLog (before ++ (f, entries) ∷ []) [] (length (entries_of (before ++ (f, entries) ∷ []))) (cut_by file f len s).crash_states
  by_file None = keeps_last before f entries s.crash_states stable last
  by_file (Some there) = by_length there (nat_lt len (length there))

pub cuts_keep : CutsKeep
cuts_keep before f entries s stable last = record { found = keeps_last before f entries s.crash_states stable last; behind = λ len at. keeps_cut before f len entries s at stable last }
