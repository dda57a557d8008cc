use Rattle.log_file.proofs.FilesLaws.{are_one_list, logs_are_found}
use Rattle.log_file.proofs.laws.files_are_one_list.Goals as goal

pub returns-clause-one : goal.returns-clause-one
returns-clause-one c = are_one_list

pub returns-clause-log : goal.returns-clause-log
returns-clause-log c = logs_are_found
