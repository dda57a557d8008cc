use Rattle.je_answers.proofs.Commits.{commits-make_the_store, attempts-go_on}
use Rattle.je_answers.proofs.laws.commits_make_the_store.Goals as goal

pub returns-clause-store : goal.returns-clause-store
returns-clause-store c = commits-make_the_store

pub returns-clause-attempts : goal.returns-clause-attempts
returns-clause-attempts c = attempts-go_on
