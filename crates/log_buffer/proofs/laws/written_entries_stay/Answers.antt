use Rattle.log_buffer.proofs.WrittenLaws.{all_are_written, written_stay, written_grow, written_are_first}
use Rattle.log_buffer.proofs.laws.written_entries_stay.Goals as goal

pub returns : goal.returns
returns c = record { all = all_are_written; stay = written_stay; grow = written_grow; first = written_are_first }
