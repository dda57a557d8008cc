use Rattle.log_buffer.proofs.ZeroTails.{zeros_are_found, zeros_are_torn}
use Rattle.log_buffer.proofs.laws.zeros_are_torn.Goals as goal

pub returns-clause-torn : goal.returns-clause-torn
returns-clause-torn c = zeros_are_torn

pub returns-clause-found : goal.returns-clause-found
returns-clause-found c = zeros_are_found
