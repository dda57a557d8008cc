-- Openings of cursors, and beginnings of walks.
use Rattle.std.proofs.Common.{◌≡◌, ◌≤◌, ◌<◌, ◌+◌, ◌-◌, ℕ, suc, arith, List, Option, None, Some, Result, Ok, Err, false, inl, inr, refl, subst, sym, option_map}
use Rattle.je_disk.specs.DiskMeaning.{DiskMeaning}
use Rattle.store_model.specs.declared.answer.Answer.{Answer}
use Rattle.store_model.specs.declared.call.Call.TheVariants.{Cur, Open}
use Rattle.environment.specs.declared.environment.Environment.{Environment}
use Rattle.jalibsuk.specs.declared.error.Error.{Error}
use Rattle.jalibsuk.specs.declared.error.Error.TheVariants.{TooManyCursors}
use Rattle.jalibsuk.specs.declared.direction.Direction.{Direction}
use Rattle.jalibsuk.specs.declared.keys.Keys.{Keys}
use Rattle.jalibsuk.specs.declared.seek.Seek.{Seek}
use Rattle.jalibsuk.specs.declared.walk.Walk.{Walk}
use Rattle.jalibsuk.specs.Told.{and_then, record_told}
use Rattle.jalibsuk.specs.Methods.{Gives}
use Rattle.jalibsuk.specs.Cursors.{Opens, motion_by, opened_by}
use Rattle.jalibsuk.specs.Scans.{BeginsWalk, Placed, Places, place_of, walk_of}

one_less : (number : ℕ) → number < 9 → 9 - number ≡ suc (9 - (number + 1))
one_less number below = omega (arith, below)

none_less : (number : ℕ) → 9 ≤ number → 9 - number ≡ 0
none_less number at = omega (arith, at)

module _ {D : Type 0} (meaning : DiskMeaning D) where
  -- a number was taken, and the next ones are tried
  pub tried_next : (number : ℕ) → number < 9 → (old middle new : Environment D) (session : ℕ) (name : Option (List ℕ)) (answered : Result Answer Error) (result : Result ℕ Error) →
      Gives meaning old middle session (option_map (λ n. Open number n) name) answered → opened_by number answered ≡ None → Opens meaning (9 - (number + 1)) (number + 1) middle new session name result →
      Opens meaning (9 - number) number old new session name result
  tried_next number below old middle new session name answered result gives taken rest =
      subst (λ (k : ℕ). Opens meaning k number old new session name result) (sym (one_less number below)) (middle, answered, gives, inl (taken, rest))

  -- this number was the one, or the call was refused
  pub tried_last : (number : ℕ) → number < 9 → (old new : Environment D) (session : ℕ) (name : Option (List ℕ)) (answered : Result Answer Error) (result : Result ℕ Error) →
      Gives meaning old new session (option_map (λ n. Open number n) name) answered → opened_by number answered ≡ Some result → Opens meaning (9 - number) number old new session name result
  tried_last number below old new session name answered result gives opened =
      subst (λ (k : ℕ). Opens meaning k number old new session name result) (sym (one_less number below)) (new, answered, gives, inr (opened, refl))

  -- no number is left
  pub tried_all : (number : ℕ) → 9 ≤ number → (environment : Environment D) (session : ℕ) (name : Option (List ℕ)) → Opens meaning (9 - number) number environment environment session name (Err TooManyCursors)
  tried_all number at environment session name =
      subst (λ (k : ℕ). Opens meaning k number environment environment session name (Err TooManyCursors)) (sym (none_less number at)) (refl, refl)

  -- a walk was placed by a motion
  pub placed_at : (place : Option Seek) (seek : Seek) → place ≡ Some seek → (old middle new : Environment D) (walk : Walk) (answered : Result Answer Error) (looked : Result (Unit {0}) Error) (result : Result Walk Error) →
      Gives meaning old middle walk.session (Some (Cur walk.number (motion_by seek) false)) answered → looked ≡ and_then (and_then answered record_told) (λ o. Ok tt) → Placed meaning middle new walk looked result →
      Places meaning place old new walk result
  placed_at place seek is old middle new walk answered looked result gives looks placed =
      subst (λ (p : Option Seek). Places meaning p old new walk result) (sym is) (middle, answered, gives, subst (λ (l : Result (Unit {0}) Error). Placed meaning middle new walk l result) looks placed)

  -- it has a cursor, and was placed
  pub begun_at : (direction : Direction) (keys : Keys) (session number : ℕ) (opened : Result ℕ Error) → opened ≡ Ok number → (place : Option Seek) → place ≡ place_of direction keys →
      (walk : Walk) → walk ≡ walk_of session number direction keys → (old new : Environment D) (result : Result Walk Error) → Places meaning place old new walk result →
      BeginsWalk meaning direction keys old new session opened result
  begun_at direction keys session number opened is place place_is walk walk_is old new result places =
      subst (λ (o : Result ℕ Error). BeginsWalk meaning direction keys old new session o result) (sym is)
      (subst (λ (w : Walk). Places meaning (place_of direction keys) old new w result) walk_is (subst (λ (p : Option Seek). Places meaning p old new walk result) place_is places))
