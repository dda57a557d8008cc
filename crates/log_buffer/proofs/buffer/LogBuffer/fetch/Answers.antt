use Rattle.log_buffer.proofs.UnchangedBuffer.{unwritten_over}
use Rattle.log_buffer.proofs.FaultCauses.{cause_ok, cause_mapped, map_err_not}
use Rattle.log_buffer.proofs.buffer.LogBuffer.fetch.Goals as goal

pub returns-in-Ok-clause-found : goal.returns-in-Ok-clause-found
returns-in-Ok-clause-found g c = λ entry observed encodes. c.in-Ok.ensures.found entry observed encodes

pub returns-in-Ok-clause-only_read : goal.returns-in-Ok-clause-only_read
returns-in-Ok-clause-only_read g c = c.entry_at.ensures.only_read

pub returns-in-Ok-clause-kept : goal.returns-in-Ok-clause-kept
returns-in-Ok-clause-kept g c = unwritten_over c.args.self.now

pub returns-in-Err-clause-only_read : goal.returns-in-Err-clause-only_read
returns-in-Err-clause-only_read g c = c.entry_at.ensures.only_read

pub returns-in-Err-clause-kept : goal.returns-in-Err-clause-kept
returns-in-Err-clause-kept g c = unwritten_over c.args.self.now

pub returns-in-Ok-clause-cause : goal.returns-in-Ok-clause-cause
returns-in-Ok-clause-cause g c = cause_ok _ _ _ _ _ c.requires c.requires c.entry_at.ensures.cause.never_falls

pub returns-in-Err-clause-cause : goal.returns-in-Err-clause-cause
returns-in-Err-clause-cause g c = cause_mapped _ _ _ _ c.entry_at.result c.in-Err.error c.map_err.result c.requires c.in-Err.is c.map_err.ensures.memory c.map_err.ensures.fault c.entry_at.ensures.cause

pub returns-in-Err-clause-not_full : goal.returns-in-Err-clause-not_full
returns-in-Err-clause-not_full g c = (map_err_not _ _ c.in-Err.error c.map_err.result c.map_err.ensures.memory c.map_err.ensures.fault).0

pub returns-in-Err-clause-not_damaged : goal.returns-in-Err-clause-not_damaged
returns-in-Err-clause-not_damaged g c = (map_err_not _ _ c.in-Err.error c.map_err.result c.map_err.ensures.memory c.map_err.ensures.fault).1
