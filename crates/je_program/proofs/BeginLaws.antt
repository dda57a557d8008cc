-- Where a run begins.
use Rattle.std.proofs.Common.{◌≡◌, ◌<◌, ℕ, Bool, true, false, [], None, refl, ap, sym, ◌∙◌, subst}
use Rattle.je_disk.specs.DiskMeaning.{DiskMeaning}
use Rattle.je_disk.specs.States.{Files, synced_crash_states}
use Rattle.je_disk.specs.Moments.{History, now}
use Rattle.store_model.specs.declared.store.Store.{Store}
use Rattle.je_answers.specs.Standing.{Standing}
use Rattle.je_answers.specs.Journal.{first_ready}
use Rattle.engine.specs.Limits.{IsWithin}
use Rattle.engine.specs.Opening.{StartsAt, reach_in}
use Rattle.environment.specs.declared.environment.Environment.{Environment}
use Rattle.environment.specs.Whole.{CanGoOn, IsAt, IsGuarded, IsOpened, IsOpenedSafely, disk_of, reach_of}
use Rattle.script_run.specs.Ends.{AreOf}
use Rattle.script_run.specs.Running.{Begins}
use Rattle.script_run.specs.UnderWay.{Beginning}
use Rattle.script_run.proofs.Pushed.{caused_none, within_itself}

-- an environment is valid when it is opened, and no call waits
pub starts_valid : (observable : Bool) (files : Files) (opening : Store) (st : Standing) → StartsAt observable files opening st → st.fault ≡ None
starts_valid observable files opening st starts = ap (λ (s : Standing). s.fault) starts.st_is ∙ starts.fault

starts_calm : (observable : Bool) (files : Files) (opening : Store) (st : Standing) → StartsAt observable files opening st → first_ready st ≡ None
starts_calm observable files opening st starts = ap first_ready starts.st_is

module _ {D : Type 0} where
  -- an environment that was opened safely: nothing is pending, and its run has begun
  pub record IsSafeStart (most : ℕ) (history : History) (environment : Environment D) (st : Standing) : Type 0 where
    pub stable : (now history).crash_states ≡ synced_crash_states (now history).reads
    pub guarded : IsGuarded most st history history environment []

  -- an environment was opened with the model at one place, from which its run is safe if the disk is observable
  pub record IsOpenedAsOne (most : ℕ) (observable : Bool) (files : Files) (opening : Store) (history : History) (environment : Environment D) : Type 0 where
    pub st : Standing
    pub starts : StartsAt observable files opening st
    pub here : IsAt most observable (now history) environment st
    pub reach : IsWithin (reach_of environment) (reach_in starts.held starts.meaning)
    pub safe : observable ≡ true → IsSafeStart most history environment st

  pub opened_as_one : (most : ℕ) (observable : Bool) (files : Files) (opening : Store) (history : History) (environment : Environment D) → IsOpened most observable files (now history) environment opening →
      (observable ≡ true → IsOpenedSafely most files opening history environment) → IsOpenedAsOne most observable files opening history environment
  opened_as_one most true files opening history environment opened safely =
      let s = safely refl in
      record { st = s.st; starts = s.starts; here = s.here; reach = s.reach; safe = λ o. record { stable = s.stable; guarded = s.guarded } }
  opened_as_one most false files opening history environment opened safely =
      record { st = opened.0; starts = opened.1.starts; here = opened.1.here; reach = opened.1.reach; safe = λ o. cc }

module _ {D : Type 0} (meaning : DiskMeaning D) where
  -- where the run of an environment begins in which the model stands here
  abbrev pub beginning : ℕ → Environment D → Standing → Beginning
  beginning most environment st = record { most = most; first = reach_of environment; st = st; start = meaning.history (disk_of environment); faults = meaning.faults (disk_of environment) }

  pub begins : (most : ℕ) (files : Files) (opening : Store) (environment : Environment D) (one : IsOpenedAsOne most meaning.observable files opening (meaning.history (disk_of environment)) environment) → CanGoOn environment →
      Begins meaning (beginning most environment one.st) environment
  begins most files opening environment one bounds = record {
    running = record {
      here = one.here;
      limits = [];
      answers = tt;
      bounded = tt;
      near = within_itself (reach_of environment);
      synced = λ later met. tt;
      fresh = tt;
      ordered = tt;
      steps = tt;
      sessions = subst (λ (s : Standing). AreOf (λ n. n < 256) s.actives) (sym one.starts.st_is) tt;
      bounds = bounds;
      caused = caused_none (meaning.faults (disk_of environment));
    };
    guarded = λ observed. (one.safe observed).guarded;
    calm = starts_calm meaning.observable files opening one.st one.starts;
  }
