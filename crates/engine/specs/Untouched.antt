-- The disk where its files cannot be opened.
use Rattle.std.specs.Prelude.{◌≡◌}
use Rattle.je_disk.specs.Moments.{History, Passes, now}
use Rattle.engine.specs.declared.open_err.OpenErr.{OpenErr}
use Rattle.engine.specs.declared.open_err.OpenErr.TheVariants.{Unreadable, WrongIndex, IdsEnded}

-- the disk's state is what it was, at each moment since: no call wrote
pub record IsUntouched (old new : History) : Type 0 where
  pub same : now new ≡ now old
  pub moments : Passes old new (λ s. s ≡ now old)

-- where the files cannot be opened, an index is wrong, or no number of a node is left, the disk is untouched
abbrev pub IsLeftAlone : OpenErr → History → History → Type 0
IsLeftAlone (Unreadable corruption) old new = IsUntouched old new
IsLeftAlone (WrongIndex name) old new = IsUntouched old new
IsLeftAlone IdsEnded old new = IsUntouched old new
IsLeftAlone error old new = Unit {0}
