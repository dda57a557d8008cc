-- What the disk's changes do to one file: its view is changed as the disk's state is.
use Rattle.std.proofs.Common.{◌≡◌, ◌≤◌, ◌<◌, ◌+◌, ◌∷◌, ◌++◌, ◌==◌, ◌∙◌, ℕ, Bool, true, false, List, [], Option, Some, None, length, take, drop, nat_lt, if◌then◌else◌, refl, ap, sym, subst, arith, get_or, drop-cons, add-one, suc}
use Rattle.std.proofs.lemmas.Bool.Decides.{nat_tests, Decides-eqb}
use Rattle.std.proofs.Math.ListN.{drop_of_length-le}
use Rattle.je_disk.specs.States.{State, CrashState, nothing, put_file, created, created_by, appended, partly_appended_by, cut, cut_by, removed, removed_by, begun, grown, shortened, dropped}
use Rattle.mem_disk.specs.declared.change.Change.{Change}
use Rattle.mem_disk.specs.declared.change.Change.TheVariants.{Create, Append, Cut, Remove, Sync, BeginSync, EndSync}
use Rattle.mem_disk.specs.CrashStates.{FileView, file_in, file_put_in, created_in, created_by_in, appended_in, appended_by_in, cut_in, cut_by_in, removed_in, removed_by_in, changed_in, traced, synced_in, ended_in}
use Rattle.mem_disk.specs.Replay.{state_changed, replay_from, replay}

-- a number is itself
same_number : (g : ℕ) → (g == g) ≡ true
same_number g = grind (arith, nat_tests)

-- the file that was changed
put-same : (g : ℕ) (file : Option (List ℕ)) (change : CrashState → CrashState) (s : State) → file_in g (put_file g file change s) ≡ file_put_in file change (file_in g s)
put-same g file change s = by_job s.job where
  by_job : (job : Option (ℕ → CrashState)) → file_in g (put_file g file change (record { reads = s.reads; crash_states = s.crash_states; job = job })) ≡ file_put_in file change (file_in g (record { reads = s.reads; crash_states = s.crash_states; job = job }))
  by_job None = rw (same_number g) refl
  by_job (Some crash_states) = rw (same_number g) refl

-- another file than the one that was changed
put-other : (f g : ℕ) (file : Option (List ℕ)) (change : CrashState → CrashState) (s : State) → (f == g) ≡ false → file_in f (put_file g file change s) ≡ file_in f s
put-other f g file change s other = by_job s.job where
  by_job : (job : Option (ℕ → CrashState)) → file_in f (put_file g file change (record { reads = s.reads; crash_states = s.crash_states; job = job })) ≡ file_in f (record { reads = s.reads; crash_states = s.crash_states; job = job })
  by_job None = rw other refl
  by_job (Some crash_states) = rw other refl

-- a change of one file, from what it does to that file and to the others
by_number : (f g : ℕ) (s after : State) (step : FileView → FileView) → file_in g after ≡ step (file_in g s) →
    ((f == g) ≡ false → file_in f after ≡ file_in f s) → (if f == g then step (file_in f s) else file_in f s) ≡ file_in f after
by_number f g s after step here others = by_test (f == g) refl where
  by_test : (b : Bool) → (f == g) ≡ b → (if b then step (file_in f s) else file_in f s) ≡ file_in f after
  by_test true is = subst (λ (h : ℕ). step (file_in h s) ≡ file_in h after) (sym ((Decides-eqb f g).0 is)) (sym here)
  by_test false is = sym (others is)

created-same : (g : ℕ) (s : State) → file_in g (created g s) ≡ created_in (file_in g s)
created-same g s = by_file (s.reads g) where
  by_file : (o : Option (List ℕ)) → file_in g (created_by o g s) ≡ created_by_in o (file_in g s)
  by_file None = put-same g (Some []) begun s
  by_file (Some there) = refl

created-other : (f g : ℕ) (s : State) → (f == g) ≡ false → file_in f (created g s) ≡ file_in f s
created-other f g s other = by_file (s.reads g) where
  by_file : (o : Option (List ℕ)) → file_in f (created_by o g s) ≡ file_in f s
  by_file None = put-other f g (Some []) begun s other
  by_file (Some there) = refl

appended-same : (g : ℕ) (bytes : List ℕ) (s : State) → file_in g (appended g bytes s) ≡ appended_in bytes (file_in g s)
appended-same g bytes s = by_file (s.reads g) where
  by_file : (o : Option (List ℕ)) → file_in g (partly_appended_by o g bytes bytes s) ≡ appended_by_in o bytes (file_in g s)
  by_file None = put-same g (Some bytes) (λ crash_state. grown (length bytes) (begun crash_state)) s
  by_file (Some there) = put-same g (Some (there ++ bytes)) (grown (length (there ++ bytes))) s

appended-other : (f g : ℕ) (bytes : List ℕ) (s : State) → (f == g) ≡ false → file_in f (appended g bytes s) ≡ file_in f s
appended-other f g bytes s other = by_file (s.reads g) where
  by_file : (o : Option (List ℕ)) → file_in f (partly_appended_by o g bytes bytes s) ≡ file_in f s
  by_file None = put-other f g (Some bytes) (λ crash_state. grown (length bytes) (begun crash_state)) s other
  by_file (Some there) = put-other f g (Some (there ++ bytes)) (grown (length (there ++ bytes))) s other

cut-same : (g len : ℕ) (s : State) → file_in g (cut g len s) ≡ cut_in len (file_in g s)
cut-same g len s = by_file (s.reads g) where
  by_length : (there : List ℕ) (longer : Bool) →
      file_in g (if longer then put_file g (Some (take len there)) (shortened len) s else s) ≡ (if longer then file_put_in (Some (take len there)) (shortened len) (file_in g s) else file_in g s)
  by_length there true = put-same g (Some (take len there)) (shortened len) s
  by_length there false = refl

  by_file : (o : Option (List ℕ)) → file_in g (cut_by o g len s) ≡ cut_by_in o len (file_in g s)
  by_file None = refl
  by_file (Some there) = by_length there (nat_lt len (length there))

cut-other : (f g len : ℕ) (s : State) → (f == g) ≡ false → file_in f (cut g len s) ≡ file_in f s
cut-other f g len s other = by_file (s.reads g) where
  by_length : (there : List ℕ) (longer : Bool) → file_in f (if longer then put_file g (Some (take len there)) (shortened len) s else s) ≡ file_in f s
  by_length there true = put-other f g (Some (take len there)) (shortened len) s other
  by_length there false = refl

  by_file : (o : Option (List ℕ)) → file_in f (cut_by o g len s) ≡ file_in f s
  by_file None = refl
  by_file (Some there) = by_length there (nat_lt len (length there))

removed-same : (g : ℕ) (s : State) → file_in g (removed g s) ≡ removed_in (file_in g s)
removed-same g s = by_file (s.reads g) where
  by_file : (o : Option (List ℕ)) → file_in g (removed_by o g s) ≡ removed_by_in o (file_in g s)
  by_file None = refl
  by_file (Some there) = put-same g None dropped s

removed-other : (f g : ℕ) (s : State) → (f == g) ≡ false → file_in f (removed g s) ≡ file_in f s
removed-other f g s other = by_file (s.reads g) where
  by_file : (o : Option (List ℕ)) → file_in f (removed_by o g s) ≡ file_in f s
  by_file None = refl
  by_file (Some there) = put-other f g None dropped s other

-- a sync changes each file by itself
synced-file : (f : ℕ) (s : State) → synced_in (file_in f s) ≡ file_in f (state_changed Sync s)
synced-file f s = by_job s.job where
  by_job : (job : Option (ℕ → CrashState)) → synced_in (file_in f (record { reads = s.reads; crash_states = s.crash_states; job = job })) ≡ file_in f (state_changed Sync (record { reads = s.reads; crash_states = s.crash_states; job = job }))
  by_job None = refl
  by_job (Some crash_states) = refl

ended-file : (f : ℕ) (s : State) → ended_in (file_in f s) ≡ file_in f (state_changed EndSync s)
ended-file f s = by_job s.job where
  by_job : (job : Option (ℕ → CrashState)) → ended_in (file_in f (record { reads = s.reads; crash_states = s.crash_states; job = job })) ≡ file_in f (state_changed EndSync (record { reads = s.reads; crash_states = s.crash_states; job = job }))
  by_job None = refl
  by_job (Some crash_states) = refl

-- one change
changed_in-is : (f : ℕ) (change : Change) (s : State) → changed_in f change (file_in f s) ≡ file_in f (state_changed change s)
changed_in-is f (Create g) s = by_number f g.0 s (created g.0 s) created_in (created-same g.0 s) (created-other f g.0 s)
changed_in-is f (Append g bytes) s = by_number f g.0 s (appended g.0 bytes s) (appended_in bytes) (appended-same g.0 bytes s) (appended-other f g.0 bytes s)
changed_in-is f (Cut g len) s = by_number f g.0 s (cut g.0 len s) (cut_in len) (cut-same g.0 len s) (cut-other f g.0 len s)
changed_in-is f (Remove g) s = by_number f g.0 s (removed g.0 s) removed_in (removed-same g.0 s) (removed-other f g.0 s)
changed_in-is f Sync s = synced-file f s
changed_in-is f BeginSync s = refl
changed_in-is f EndSync s = ended-file f s

-- some changes
traced-is : (f : ℕ) (s : State) (changes : List Change) → traced f (file_in f s) changes ≡ file_in f (replay_from s changes)
traced-is f s [] = refl
traced-is f s (change ∷ rest) = ap (λ (v : FileView). traced f v rest) (changed_in-is f change s) ∙ traced-is f (state_changed change s) rest

-- from the empty disk on
pub traced-begun : (f : ℕ) (view : FileView) (changes : List Change) → view ≡ file_in 0 nothing → traced f view changes ≡ file_in f (replay changes)
traced-begun f view changes is = ap (λ (v : FileView). traced f v changes) is ∙ traced-is f nothing changes

-- one more change
pub traced-step : (f : ℕ) (view next goal : FileView) (changes : List Change) (i : ℕ) (change : Change) → i < length changes → change ≡ get_or changes i change →
    next ≡ changed_in f change view → traced f view (drop i changes) ≡ goal → traced f next (drop (i + 1) changes) ≡ goal
traced-step f view next goal changes i change within is does so =
    rw (add-one, does) (subst (λ (cs : List Change). traced f view cs ≡ goal) split so)
  where
    split : drop i changes ≡ change ∷ drop (suc i) changes
    split = drop-cons changes i change within ∙ ap (λ (c : Change). c ∷ drop (suc i) changes) (sym is)

-- all changes
pub traced-end : (f : ℕ) (view goal : FileView) (changes : List Change) (i : ℕ) → length changes ≤ i → traced f view (drop i changes) ≡ goal → view ≡ goal
traced-end f view goal changes i past so = subst (λ (cs : List Change). traced f view cs ≡ goal) (drop_of_length-le changes past) so
