use Rattle.crash_recovery.proofs.ImageReading.{images_hold_first}
use Rattle.crash_recovery.proofs.images_hold_first.Goals as goal

pub returns : goal.returns
returns c = images_hold_first
