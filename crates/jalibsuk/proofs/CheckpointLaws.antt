-- A checkpoint as its parts.
use Rattle.std.proofs.Common.{◌≡◌, ◌+◌, ℕ, suc, arith, None, Result, Ok, Err, refl, subst, sym}
use Rattle.je_disk.specs.DiskMeaning.{DiskMeaning}
use Rattle.store_model.specs.declared.step.Step.TheVariants.{Flush}
use Rattle.environment.specs.declared.environment.Environment.{Environment}
use Rattle.jalibsuk.specs.declared.error.Error.{Error}
use Rattle.jalibsuk.specs.Checkpointed.{AreFlushed, GoesOnBy, InTurn, Turns, flushed_by}

one_more : (count : ℕ) → suc count ≡ count + 1
one_more count = omega arith

module _ {D : Type 0} where
  -- the first part was done, and then the second
  pub done_in_turn : (First Second : Environment D → Environment D → Result (Unit {0}) Error → Type 0) (old middle new : Environment D) (told : Result (Unit {0}) Error) (u : Unit {0}) (result : Result (Unit {0}) Error) →
      told ≡ Ok u → First old middle told → Second middle new result → InTurn First Second old new result
  done_in_turn First Second old middle new told u result is first second = (middle, told, first, subst (λ (t : Result (Unit {0}) Error). GoesOnBy Second t middle new result) (sym is) second)

  -- the first part was not
  pub stopped_in_turn : (First Second : Environment D → Environment D → Result (Unit {0}) Error → Type 0) (old new : Environment D) (told : Result (Unit {0}) Error) (e : Error) →
      told ≡ Err e → First old new told → InTurn First Second old new (Err e)
  stopped_in_turn First Second old new told e is first = (new, told, first, subst (λ (t : Result (Unit {0}) Error). GoesOnBy Second t new new (Err e)) (sym is) (refl, refl))

  module _ (meaning : DiskMeaning D) where
    -- one more node was logged
    pub flushed_next : (count : ℕ) (old middle new : Environment D) → AreFlushed meaning count old middle → Turns meaning Flush flushed_by middle new None → AreFlushed meaning (count + 1) old new
    flushed_next count old middle new before turns = subst (λ (k : ℕ). AreFlushed meaning k old new) (one_more count) (middle, before, turns)
