use Rattle.je_bytes.proofs.Fields.{two_bytes, four_bytes, eight_bytes}
use Rattle.je_bytes.proofs.laws.numbers_are_their_bytes.Goals as goal

pub returns-clause-two : goal.returns-clause-two
returns-clause-two c = two_bytes

pub returns-clause-four : goal.returns-clause-four
returns-clause-four c = four_bytes

pub returns-clause-eight : goal.returns-clause-eight
returns-clause-eight c = eight_bytes
