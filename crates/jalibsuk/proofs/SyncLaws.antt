-- A sync as its beginning and its end.
use Rattle.std.proofs.Common.{◌≡◌, ◌≤◌, ◌∙◌, ℕ, Bool, true, false, true≢false, List, [], ◌∷◌, ◌++◌, Option, None, Some, ap, sym, subst, refl, inl, inr, append_assoc, if◌then◌else◌}
use Rattle.je_disk.specs.DiskMeaning.{DiskMeaning}
use Rattle.je_disk.specs.Moments.{History, now}
use Rattle.store_model.specs.declared.answer.Answer.{Answer}
use Rattle.store_model.specs.declared.answer.Answer.TheVariants.{Done, DiskFault, Invalid}
use Rattle.store_model.specs.declared.answer.Fault.{Fault}
use Rattle.engine.specs.Limits.{IsWithin}
use Rattle.store_model.specs.declared.event.Event.{Event}
use Rattle.store_model.specs.declared.event.Event.TheVariants.{SyncBegin, SyncEnd}
use Rattle.je_answers.specs.Standing.{Standing}
use Rattle.je_answers.specs.After.{after_event, after_events}
use Rattle.je_answers.proofs.Journals.{after_events-append}
use Rattle.environment.specs.declared.environment.Environment.{Environment}
use Rattle.environment.specs.Whole.{BeginsSafely, BeginsSync, EndsSync, IsGuarded, disk_of, reach_of}
use Rattle.jalibsuk.specs.Usable.{StandsAt}
use Rattle.jalibsuk.proofs.Usables.{le_itself, within_itself}
use Rattle.jalibsuk.specs.Synced.{HasSynced, SyncsBy}

some_is : (a b : Fault) → Some a ≡ Some b → a ≡ b
some_is a b is = cc

not_both : (f : Fault) → Some f ≡ None → ⊥
not_both f is = cc

module _ {D : Type 0} (meaning : DiskMeaning D) where
  -- what is known of the beginning of a sync, and of its end
  abbrev pub Began : Environment D → Environment D → Bool → Type 0
  Began old middle began = (most : ℕ) (st : Standing) → StandsAt meaning most old st → st.fault ≡ None
      → BeginsSync most meaning.observable (now (meaning.history (disk_of middle))) middle st (if began then Done else DiskFault)

  abbrev pub BeganSafely : Environment D → Environment D → Bool → Type 0
  BeganSafely old middle began = meaning.observable ≡ true → (most : ℕ) (st : Standing) (start : History) (journal : List Event) → (after_events st journal).fault ≡ None
      → IsGuarded most st start (meaning.history (disk_of old)) old journal → BeginsSafely most st start (meaning.history (disk_of middle)) middle journal began

  abbrev pub Ended : Environment D → Environment D → ℕ → Answer → Type 0
  Ended middle new commits ending = (most : ℕ) (st : Standing) → StandsAt meaning most middle st → st.fault ≡ None → st.begun ≡ Some commits
      → EndsSync most meaning.observable (now (meaning.history (disk_of new))) new st ending

  abbrev pub EndedSafely : Environment D → Environment D → ℕ → Answer → Type 0
  EndedSafely middle new commits ending = meaning.observable ≡ true → (most : ℕ) (st : Standing) (start : History) (journal : List Event)
      → StandsAt meaning most middle (after_events st journal) → (after_events st journal).fault ≡ None → (after_events st journal).begun ≡ Some commits
      → IsGuarded most st start (meaning.history (disk_of middle)) middle journal
      → IsGuarded most st start (meaning.history (disk_of new)) new (journal ++ SyncEnd ending ∷ [])

  -- it failed as it began
  pub failed_by : (old new : Environment D) (began : Bool) → began ≡ false → Began old new began → BeganSafely old new began → SyncsBy meaning old new DiskFault (SyncBegin DiskFault ∷ [])
  failed_by old new true is begins crash = absurd (true≢false is)
  failed_by old new false is begins crash = record {
    are = inl (refl, refl);
    goes_on = λ most st here valid. ((begins most st here valid).1, inr refl);
    crash = λ observed most st start journal here valid guarded. crash observed most st start journal valid guarded;
  }

  -- it began and ended
  pub synced_by : (old middle new : Environment D) (began : Bool) → began ≡ true → (commits : ℕ) (ending : Answer) → ((most : ℕ) (st : Standing) → StandsAt meaning most old st → commits ≡ st.commits) →
      Began old middle began → BeganSafely old middle began → Ended middle new commits ending → EndedSafely middle new commits ending →
      SyncsBy meaning old new ending (SyncBegin Done ∷ SyncEnd ending ∷ [])
  synced_by old middle new false is commits ending same begins crash ends crash_end = absurd (true≢false (sym is))
  synced_by old middle new true is commits ending same begins crash ends crash_end = record {
    are = inr refl;
    goes_on = λ most st here valid.
        let e = ends most (after_event st (SyncBegin Done)) (begins most st here valid).1 valid (ap (λ (n : ℕ). Some n) (sym (same most st here))) in
        (e.1, e.0);
    crash = λ observed most st start journal here valid guarded.
        let st1 : Standing = after_events st journal in
        let begun : List Event = journal ++ SyncBegin Done ∷ [] in
        let stands : after_events st begun ≡ after_event st1 (SyncBegin Done) = after_events-append st journal (SyncBegin Done ∷ []) in
        let here1 : StandsAt meaning most middle (after_events st begun) = subst (λ (s : Standing). StandsAt meaning most middle s) (sym stands) (begins most st1 here valid).1 in
        let valid1 : (after_events st begun).fault ≡ None = subst (λ (s : Standing). s.fault ≡ None) (sym stands) valid in
        let out : (after_events st begun).begun ≡ Some commits = subst (λ (s : Standing). s.begun ≡ Some commits) (sym stands) (ap (λ (n : ℕ). Some n) (sym (same most st1 here))) in
        let done = crash_end observed most st start begun here1 valid1 out (crash observed most st start journal valid guarded) in
        subst (λ (l : List Event). IsGuarded most st start (meaning.history (disk_of new)) new l) (append_assoc journal (SyncBegin Done ∷ []) (SyncEnd ending ∷ [])) done;
  }

  -- an invalid environment is left as it is
  pub unsynced : (environment : Environment D) (told : Option Fault) (first : Fault) → told ≡ Some first → ((most : ℕ) (st : Standing) → StandsAt meaning most environment st → told ≡ st.fault) →
      HasSynced meaning environment environment (Invalid first)
  unsynced environment told first is same = record {
    valid = λ most st here valid. absurd (not_both first (sym is ∙ same most st here ∙ valid));
    invalid = λ most st other here fault. (ap (λ (f : Fault). Invalid f) (some_is first other (sym is ∙ same most st here ∙ fault)), refl);
    within = within_itself (reach_of environment);
    never_falls = le_itself (meaning.faults (disk_of environment));
  }

  -- a valid one was synced
  pub synced_valid : (old new : Environment D) (answer : Answer) (told : Option Fault) → told ≡ None → ((most : ℕ) (st : Standing) → StandsAt meaning most old st → told ≡ st.fault) →
      (events : List Event) → SyncsBy meaning old new answer events → IsWithin (reach_of new) (reach_of old) → meaning.faults (disk_of old) ≤ meaning.faults (disk_of new) →
      HasSynced meaning old new answer
  synced_valid old new answer told is same events by within never_falls = record {
    valid = λ most st here valid. (events, by);
    invalid = λ most st first here fault. absurd (not_both first (sym fault ∙ sym (same most st here) ∙ is));
    within = within;
    never_falls = never_falls;
  }
