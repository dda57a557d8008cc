-- An environment that answers calls.
use Rattle.std.specs.Prelude.{ℕ}
use Rattle.je_disk.specs.DiskMeaning.{DiskMeaning}
use Rattle.je_disk.specs.Moments.{now}
use Rattle.je_answers.specs.Standing.{Standing}
use Rattle.environment.specs.declared.environment.Environment.{Environment}
use Rattle.environment.specs.Whole.{CanGoOn, IsAt, disk_of}

module _ {D : Type 0} (meaning : DiskMeaning D) where
  -- the environment, whose files have at most so many bytes, is where the model stands
  abbrev pub StandsAt : ℕ → Environment D → Standing → Type 0
  StandsAt most environment st = IsAt most meaning.observable (now (meaning.history (disk_of environment))) environment st

  -- it is where the model stands somewhere, and has room for another call
  pub record IsUsable (environment : Environment D) : Type 0 where
    pub most : ℕ
    pub st : Standing
    pub here : StandsAt most environment st
    pub bounds : CanGoOn environment
