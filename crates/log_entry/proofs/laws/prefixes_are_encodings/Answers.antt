use Rattle.log_entry.proofs.PrefixLaws.{are_encoded, are_found, grows_by_append, is_longest}
use Rattle.log_entry.proofs.laws.prefixes_are_encodings.Goals as goal

pub returns-clause-encoded : goal.returns-clause-encoded
returns-clause-encoded c = are_encoded

pub returns-clause-found : goal.returns-clause-found
returns-clause-found c = are_found

pub returns-clause-grows : goal.returns-clause-grows
returns-clause-grows c = grows_by_append

pub returns-clause-longest : goal.returns-clause-longest
returns-clause-longest c = is_longest
