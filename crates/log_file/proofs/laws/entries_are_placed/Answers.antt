use Rattle.log_file.proofs.PlacedLaws.{placed_are_entries, placed_go_last, placed_go_on, fronts_are_placed, placed_are_in_order}
use Rattle.log_file.proofs.laws.entries_are_placed.Goals as goal

pub returns : goal.returns
returns c = record { entries = placed_are_entries; last = placed_go_last; next = placed_go_on; front = fronts_are_placed; order = placed_are_in_order }
