use Rattle.std.proofs.Common.{◌∙◌, sym}
use Rattle.jalibsuk.proofs.Usables.{none_of}
use Rattle.jalibsuk.proofs.beginning.free_session.Goals as goal

pub returns-then-not-has_transaction-clause-free : goal.returns-then-not-has_transaction-clause-free
returns-then-not-has_transaction-clause-free g c = record { none = λ most st here. none_of _ (sym (c.has_transaction.ensures most st here) ∙ c.if-not-has_transaction.true) }
