use Rattle.recovery_je.proofs.EntryPlaces.{place_found, place_nowhere}
use Rattle.recovery_je.proofs.file_entries.has_offset.Goals as goal

pub returns-in-Ok : goal.returns-in-Ok
returns-in-Ok c f bytes es up all = place_found f bytes c.args.offsets.now es c.args.at c.in-Ok.field-0 up all c.in-Ok.ensures.position

pub returns-in-Err : goal.returns-in-Err
returns-in-Err c f bytes es up all = place_nowhere f bytes c.args.offsets.now es c.args.at c.in-Err.field-0 up all c.in-Err.ensures.position
