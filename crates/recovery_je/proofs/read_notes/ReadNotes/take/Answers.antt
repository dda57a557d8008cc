use Rattle.recovery_je.proofs.NoteLaws.{noted_more}
use Rattle.recovery_je.proofs.read_notes.ReadNotes.take.Goals as goal

pub returns : goal.returns
returns c =
    noted_more c.args.at c.args.entry.now c.args.self.now c.is_still_whole-self.result c.note_end.new.last c.in_ok-found.found c.with-self.result
    c.is_still_whole-self.ensures c.in_ok-found.ensures c.note_end.ensures c.with-self.ensures
