-- What a check of a log's files answers.
use Rattle.check_laws.specs.declared.file_run.FileRun.{FileRun}
use Rattle.recovery_je.specs.declared.file_len.FileLen.{FileLen}

-- how much of a file is valid, by how long it is
abbrev pub run_by_len : FileLen → FileRun
run_by_len len = record { file = len.number; entries = len.entries; end = len.end }
