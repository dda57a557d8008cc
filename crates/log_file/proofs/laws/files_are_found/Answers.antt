use Rattle.log_file.proofs.EncodedLaws.{grow_by_append}
use Rattle.log_file.proofs.FileScanLaws.{are_found_again, are_encoded_back, are_longest}
use Rattle.log_file.proofs.laws.files_are_found.Goals as goal

pub returns-clause-again : goal.returns-clause-again
returns-clause-again c = are_found_again

pub returns-clause-back : goal.returns-clause-back
returns-clause-back c = are_encoded_back

pub returns-clause-longest : goal.returns-clause-longest
returns-clause-longest c = are_longest

pub returns-clause-grows : goal.returns-clause-grows
returns-clause-grows c = grow_by_append
