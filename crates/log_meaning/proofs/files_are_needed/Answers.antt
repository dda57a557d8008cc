use Rattle.log_meaning.proofs.NeededFiles.{no_gap_has_files, next_file_stays, needed_files_recover}
use Rattle.log_meaning.proofs.Found.{read_files_are_found}
use Rattle.log_meaning.proofs.files_are_needed.Goals as goal

pub returns : goal.returns
returns c = record { found = read_files_are_found; whole = no_gap_has_files; next = next_file_stays; recover = needed_files_recover }
