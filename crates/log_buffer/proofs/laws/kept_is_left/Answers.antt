use Rattle.log_buffer.proofs.CrashImages.{kept_is_left}
use Rattle.log_buffer.proofs.ChanceMatches.{appended_are_found, cut_is_found, once_read_is_found, past_is_held, reads_have_no_chance}
use Rattle.log_buffer.proofs.CrashOpen.{cuts_keep}
use Rattle.log_buffer.proofs.laws.kept_is_left.Goals as goal

pub returns-clause-left : goal.returns-clause-left
returns-clause-left c = kept_is_left

pub returns-clause-past : goal.returns-clause-past
returns-clause-past c = past_is_held

pub returns-clause-reads : goal.returns-clause-reads
returns-clause-reads c = reads_have_no_chance

pub returns-clause-once : goal.returns-clause-once
returns-clause-once c = once_read_is_found

pub returns-clause-cuts : goal.returns-clause-cuts
returns-clause-cuts c = cut_is_found

pub returns-clause-appended : goal.returns-clause-appended
returns-clause-appended c = appended_are_found

pub returns-clause-opening : goal.returns-clause-opening
returns-clause-opening c = cuts_keep
