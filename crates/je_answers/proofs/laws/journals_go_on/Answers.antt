use Rattle.je_answers.proofs.Journals.{answers-push}
use Rattle.je_answers.proofs.laws.journals_go_on.Goals as goal

pub returns : goal.returns
returns c = answers-push
