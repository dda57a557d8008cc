use Rattle.log_meaning.proofs.Listing.{listed_by_name, listed_in_order}
use Rattle.log_meaning.proofs.records_are_listed.Goals as goal

pub returns : goal.returns
returns c = record { named = listed_by_name; order = listed_in_order }
