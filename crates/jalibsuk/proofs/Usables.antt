-- An environment answers calls on behind a call and behind a sync.
use Rattle.std.proofs.Common.{◌≡◌, ◌≤◌, ℕ, arith, Bool, true, false, true≢false, Option, None, Some, Result, Ok, Err, ap, sym, refl, if◌then◌else◌}
use Rattle.std.specs.declared.alloc.AllocError.{AllocError}
use Rattle.je_disk.specs.DiskMeaning.{DiskMeaning}
use Rattle.je_disk.specs.Moments.{now}
use Rattle.store_model.specs.declared.answer.Answer.{Answer}
use Rattle.store_model.specs.declared.answer.Answer.TheVariants.{Done, DiskFault}
use Rattle.store_model.specs.declared.step.Step.{Step}
use Rattle.store_model.specs.declared.event.Event.{Event}
use Rattle.store_model.specs.declared.event.Event.TheVariants.{SyncBegin}
use Rattle.std.specs.Option.{is_some}
use Rattle.je_answers.specs.Standing.{Standing}
use Rattle.je_answers.specs.After.{after_event}
use Rattle.engine.specs.Limits.{IsWithin, Reach}
use Rattle.environment.specs.declared.environment.Environment.{Environment}
use Rattle.environment.specs.declared.outcome.Outcome.{Outcome}
use Rattle.environment.specs.Turning.{TurnsTo}
use Rattle.environment.specs.Whole.{CanGoOn, GoesOn, IsAt, disk_of}
use Rattle.jalibsuk.specs.Usable.{IsUsable}

pub usable_at : {D : Type 0} {meaning : DiskMeaning D} {environment : Environment D} {most : ℕ} {st : Standing} →
    IsAt most meaning.observable (now (meaning.history (disk_of environment))) environment st → CanGoOn environment → IsUsable meaning environment
usable_at {most = most} {st = st} here bounds = record { most = most; st = st; here = here; bounds = bounds }

pub begun_valid : (st : Standing) (began : Bool) → began ≡ true → st.fault ≡ None → (after_event st (SyncBegin (if began then Done else DiskFault))).fault ≡ None
begun_valid st true is valid = valid
begun_valid st false is valid = absurd (true≢false (sym is))

-- the sync that began is of the commits so far
pub begun_out : (st : Standing) (began : Bool) → began ≡ true → (commits : ℕ) → commits ≡ st.commits → (after_event st (SyncBegin (if began then Done else DiskFault))).begun ≡ Some commits
begun_out st true is commits same = ap (λ (n : ℕ). Some n) (sym same)
begun_out st false is commits same = absurd (true≢false (sym is))

-- it does so behind a call too, and where there was no memory for one
pub usable_after : {D : Type 0} {meaning : DiskMeaning D} {new : Environment D} (old : Environment D) (most : ℕ) (st left : Standing) (event : Outcome → Event) (result : Result Outcome AllocError) →
    GoesOn most meaning.observable (now (meaning.history (disk_of new))) old new st event left result → CanGoOn new → IsUsable meaning new
usable_after old most st left event (Ok o) goes bounds = usable_at goes.here bounds
usable_after old most st left event (Err error) goes bounds = usable_at goes bounds

-- and behind a step of maintenance
pub usable_turned : {D : Type 0} {meaning : DiskMeaning D} {new : Environment D} (old : Environment D) (most : ℕ) (st : Standing) (line : ℕ) (step : Step) (result : Result Answer AllocError) →
    TurnsTo most meaning.observable (now (meaning.history (disk_of new))) old new st line step result → CanGoOn new → IsUsable meaning new
usable_turned old most st line step (Ok answer) turns bounds = usable_at turns.here bounds
usable_turned old most st line step (Err error) turns bounds = usable_at turns bounds

pub le_then : (a b c : ℕ) → a ≤ b → b ≤ c → a ≤ c
le_then a b c h k = omega (arith, h, k)

pub within_then : (a b c : Reach) → IsWithin a b → IsWithin b c → IsWithin a c
within_then a b c first next = record {
  file = (let h : a.file ≤ b.file = first.file in let k : b.file ≤ c.file = next.file in omega (arith, h, k));
  node = (let h : a.node ≤ b.node = first.node in let k : b.node ≤ c.node = next.node in omega (arith, h, k));
}

pub within_itself : (a : Reach) → IsWithin a a
within_itself a = record { file = omega arith; node = omega arith }

pub le_itself : (a : ℕ) → a ≤ a
le_itself a = omega arith

pub none_of : {X : Type 0} (o : Option X) → is_some o ≡ false → o ≡ None
none_of None is = refl
none_of (Some x) is = absurd (true≢false is)
