use Rattle.crash_recovery.proofs.ImageStores.{images_recover, kept_images_recover, states_recover, through_recovers, wider_is_recovered, written_recover}
use Rattle.crash_recovery.proofs.images_recover.Goals as goal

pub returns : goal.returns
returns c = record { left = images_recover; kept = kept_images_recover; states = states_recover; written = written_recover; through = through_recovers; wider = wider_is_recovered }
