use Rattle.log_replay.proofs.LogLaws.{kept_later}
use Rattle.log_replay.proofs.LoggedLaws.{found_by_number, catalogs_are_of_stores}
use Rattle.log_replay.proofs.TransactionLaws.{kept_is_right, databases_by_number}
use Rattle.log_replay.proofs.laws.kept_is_right.Goals as goal

pub returns-clause-right : goal.returns-clause-right
returns-clause-right c = kept_is_right

pub returns-clause-later : goal.returns-clause-later
returns-clause-later c = kept_later

pub returns-clause-databases : goal.returns-clause-databases
returns-clause-databases c = databases_by_number

pub returns-clause-catalog : goal.returns-clause-catalog
returns-clause-catalog c = catalogs_are_of_stores

pub returns-clause-found : goal.returns-clause-found
returns-clause-found c = found_by_number
