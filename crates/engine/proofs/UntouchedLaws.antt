-- A disk that was left as it was.
use Rattle.std.proofs.Common.{◌≡◌, refl}
use Rattle.je_disk.specs.Moments.{History, now}
use Rattle.je_disk.proofs.MomentLaws.{passes_none}
use Rattle.engine.specs.declared.open_err.OpenErr.{OpenErr}
use Rattle.engine.specs.declared.open_err.OpenErr.TheVariants.{Unreadable, WrongIndex, IdsEnded}
use Rattle.engine.specs.Untouched.{IsUntouched, IsLeftAlone}

pub untouched_itself : (h : History) → IsUntouched h h
untouched_itself h = record { same = refl; moments = passes_none h (λ s. s ≡ now h) }

-- it is left alone whatever the error is
pub left_alone : (error : OpenErr) (old new : History) → IsUntouched old new → IsLeftAlone error old new
left_alone (Unreadable corruption) old new untouched = untouched
left_alone (WrongIndex name) old new untouched = untouched
left_alone IdsEnded old new untouched = untouched
left_alone error old new untouched = tt
