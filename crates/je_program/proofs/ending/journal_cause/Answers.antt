use Rattle.std.proofs.Common.{sym, ◌∙◌}
use Rattle.je_program.proofs.JournalEnds.{ends_well}
use Rattle.je_program.proofs.ending.journal_cause.Goals as goal

pub returns-then-not-may_end_otherwise : goal.returns-then-not-may_end_otherwise
returns-then-not-may_end_otherwise c = sym (ends_well c.args.journal.now (sym c.may_end_otherwise.ensures ∙ c.if-not-may_end_otherwise.true))
