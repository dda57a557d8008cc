use Rattle.std.proofs.Common.{sym}
use Rattle.text_out.proofs.BufferedText.{sent_part, sent_whole}
use Rattle.je_program.proofs.OutputLaws.{sent_on}
use Rattle.je_program.proofs.output.finish_text.Goals as goal

pub returns-then-has_failed-clause-part : goal.returns-then-has_failed-clause-part
returns-then-has_failed-clause-part g c = λ start started sent sends. sent_part (sent_on c.flush.ensures.adds sends)

pub returns-then-has_failed-clause-never_falls : goal.returns-then-has_failed-clause-never_falls
returns-then-has_failed-clause-never_falls g c = λ start started sent sends. (sent_on c.flush.ensures.adds sends).never_falls

pub returns-then-has_failed-clause-cause : goal.returns-then-has_failed-clause-cause
returns-then-has_failed-clause-cause g c = λ start started sent sends. (sent_on c.flush.ensures.adds sends).cause (sym c.if-has_failed.ensures)

pub returns-else-has_failed-clause-whole : goal.returns-else-has_failed-clause-whole
returns-else-has_failed-clause-whole g c = λ start started sent sends. sent_whole (sent_on c.flush.ensures.adds sends) c.flush.ensures.empty (sym c.if-has_failed.ensures)

pub returns-else-has_failed-clause-never_falls : goal.returns-else-has_failed-clause-never_falls
returns-else-has_failed-clause-never_falls g c = λ start started sent sends. (sent_on c.flush.ensures.adds sends).never_falls
