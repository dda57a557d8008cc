use Rattle.std.proofs.Common.{◌≡◌, ◌∙◌, sym, subst, map, Err, Option, None, List, ℕ}
use Rattle.log_meaning.specs.Reading.{reading_of, meaning_in}
use Rattle.recovery_je.specs.declared.recovered.Recovered.{Recovered}
use Rattle.recovery_je.specs.Files.{AreRead}
use Rattle.recovery_je.specs.Answer.{IsReadingOf, IsRecoveredFrom, HasWrongIndex, recovered_with}
use Rattle.recovery_je.specs.Indexing.{IsIndexCheck}
use Rattle.recovery_je.specs.Putting.{HasReadAgain}
use Rattle.recovery_je.proofs.AnswerLaws.{stopped, recovered, corrupt, corrupt_on, no_index, wrong, wrong_alone, ok_weaker}
use Rattle.recovery_je.proofs.recovery.recover_files.Goals as goal

pub returns-in-Stopped-clause-corrupt : goal.returns-in-Stopped-clause-corrupt
returns-in-Stopped-clause-corrupt g c observable reads read =
    stopped observable reads c.args.files.now c.in-Stopped.corruption c.requires.files (subst (AreRead observable reads c.args.files.now) c.in-Stopped.is read)

pub returns-in_err-meant-in-All-clause-corrupt : goal.returns-in_err-meant-in-All-clause-corrupt
returns-in_err-meant-in-All-clause-corrupt g c observable reads read =
    let files = c.args.files.now in
    let es = c.in-All.entries in
    corrupt_on (λ f. meaning_in (map (λ n. n.0) files) es ≡ Err f) (λ corruption. IsReadingOf observable reads files (λ held. reading_of held ≡ Err corruption)) c.from_residual.result
    c.in_err-meant-in-All.field-0.0 c.from_residual.ensures.1 c.in_err-meant-in-All.ensures.found
    (λ f is. corrupt observable reads files es c.in-All.tail f c.requires.files (subst (AreRead observable reads files) c.in-All.is read) is)

pub returns-in_err-meant-in-All-clause-index : goal.returns-in_err-meant-in-All-clause-index
returns-in_err-meant-in-All-clause-index g c observable reads read =
    no_index (λ name. IsReadingOf observable reads c.args.files.now (HasWrongIndex name)) c.from_residual.result c.in_err-meant-in-All.field-0.0 c.from_residual.ensures.1

pub returns-in_ok-meant-in-All-clause-recovered : goal.returns-in_ok-meant-in-All-clause-recovered
returns-in_ok-meant-in-All-clause-recovered g c observable reads read =
    let made = c.in_ok-meant-in-All.meant in
    ok_weaker (λ r. (made.settled.wrong_index ≡ None) × (r ≡ recovered_with made c.in-All.tail)) _ c.check_index.result
    (λ r is. subst
    (λ (x : Recovered _). IsReadingOf observable reads c.args.files.now
    (IsRecoveredFrom (record { store = x.opening; last_txn = x.last_txn; last_node = x.last_node; last_db = x.last_db; checkpoint = x.checkpoint }) (g.T.Loads.has_tree x.trees) (g.T.Loads.stored x.trees) x.databases x.records
    x.redone x.tail (HasReadAgain g.T.Loads.well_formed g.T.Loads.nodes g.T.Loads.read g.T.Loads.stored g.T.Loads.last_number g.T.Loads.fits x.trees x.redo))) (sym is.1)
    (recovered observable reads c.args.files.now c.in-All.entries c.in-All.tail
    (record { store = made.settled.opening; last_txn = made.last_txn; last_node = made.last_node; last_db = made.last_db; checkpoint = made.checkpoint })
    (g.T.Loads.has_tree made.settled.trees) (g.T.Loads.stored made.settled.trees) made.settled.databases made.settled.records made.redone
    (HasReadAgain g.T.Loads.well_formed g.T.Loads.nodes g.T.Loads.read g.T.Loads.stored g.T.Loads.last_number g.T.Loads.fits made.settled.trees made.redo) c.requires.files
    (subst (AreRead observable reads c.args.files.now) c.in-All.is read) c.in_ok-meant-in-All.ensures.redone c.in_ok-meant-in-All.ensures.meant c.in_ok-meant-in-All.ensures.fits
    (subst (λ (o : Option (List ℕ)). IsIndexCheck made.settled.opening o) is.0 c.in_ok-meant-in-All.ensures.index)))
    c.check_index.ensures.recovered

pub returns-in_ok-meant-in-All-clause-corrupt : goal.returns-in_ok-meant-in-All-clause-corrupt
returns-in_ok-meant-in-All-clause-corrupt g c observable reads read =
    (wrong_alone c.in_ok-meant-in-All.meant.settled.wrong_index (λ corruption. IsReadingOf observable reads c.args.files.now (λ held. reading_of held ≡ Err corruption)) (λ name. Unit {0})
    c.check_index.result c.check_index.ensures.wrong (λ name is. tt)).0

pub returns-in_ok-meant-in-All-clause-other : goal.returns-in_ok-meant-in-All-clause-other
returns-in_ok-meant-in-All-clause-other g c =
    (wrong_alone c.in_ok-meant-in-All.meant.settled.wrong_index (λ corruption. Unit {0}) (λ name. Unit {0}) c.check_index.result c.check_index.ensures.wrong (λ name is. tt)).2

pub returns-in_ok-meant-in-All-clause-index : goal.returns-in_ok-meant-in-All-clause-index
returns-in_ok-meant-in-All-clause-index g c observable reads read =
    let made = c.in_ok-meant-in-All.meant in
    (wrong_alone made.settled.wrong_index (λ corruption. Unit {0}) (λ name. IsReadingOf observable reads c.args.files.now (HasWrongIndex name)) c.check_index.result c.check_index.ensures.wrong
    (λ name is. wrong observable reads c.args.files.now c.in-All.entries c.in-All.tail
    (record { store = made.settled.opening; last_txn = made.last_txn; last_node = made.last_node; last_db = made.last_db; checkpoint = made.checkpoint })
    (g.T.Loads.has_tree made.settled.trees) (g.T.Loads.stored made.settled.trees) made.settled.databases made.settled.records name c.requires.files
    (subst (AreRead observable reads c.args.files.now) c.in-All.is read) c.in_ok-meant-in-All.ensures.meant (sym is ∙ c.in_ok-meant-in-All.ensures.index.first))).1
