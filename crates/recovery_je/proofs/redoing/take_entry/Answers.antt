use Rattle.std.proofs.Common.{subst}
use Rattle.log_entry.specs.declared.entry.Entry.{Entry}
use Rattle.recovery_je.specs.Putting.{IsIn}
use Rattle.std.proofs.lemmas.Result.{on_ok_weaker}
use Rattle.recovery_je.proofs.FitLaws.{fits_put, fits_made, fits_one, logged_put, logged_migrated}
use Rattle.recovery_je.proofs.RedoingLaws.{committed, migrated}
use Rattle.recovery_je.proofs.redoing.take_entry.Goals as goal

pub returns-in-Commit-clause-redo : goal.returns-in-Commit-clause-redo
returns-in-Commit-clause-redo g c redo at =
    rw c.in-Commit.is (on_ok_weaker c.make_changes.result
    (λ made. committed (g.T.Loads.stored c.args.trees.now) (g.T.Loads.stored c.make_changes.new.trees) c.args.waiting.now c.take-changes.new.self c.in-Commit.txn.0 c.take-changes.result redo made
    c.take-changes.ensures.taken c.take-changes.ensures.rest at)
    c.make_changes.ensures.made)

pub returns-in-Commit-clause-fits : goal.returns-in-Commit-clause-fits
returns-in-Commit-clause-fits g c es base small is at =
    fits_made g.T.Loads.fits es base c.make_changes.result c.args.trees.now c.make_changes.new.trees c.args.waiting.now c.take-changes.new.self c.in-Commit.txn.0 c.take-changes.result c.take-changes.ensures.taken c.take-changes.ensures.rest
    (c.make_changes.ensures.fits es base small) at

pub returns-in-Migrated-clause-redo : goal.returns-in-Migrated-clause-redo
returns-in-Migrated-clause-redo g c redo at =
    rw c.in-Migrated.is (on_ok_weaker c.make_change.result
    (λ made. migrated (g.T.Loads.stored c.args.trees.now) (g.T.Loads.stored c.make_change.new.trees) c.args.waiting.now _ redo made at)
    c.make_change.ensures.made)

pub returns-in_ok-push-in-Put-clause-fits : goal.returns-in_ok-push-in-Put-clause-fits
returns-in_ok-push-in-Put-clause-fits g c es base small is at =
    fits_put g.T.Loads.fits es base c.args.trees.now c.args.waiting.now c.push.new.self c.in-Put.txn.0 _ c.in_ok-push-in-Put.ensures
    (logged_put es base c.args.at c.in-Put.txn c.in-Put.db c.in-Put.name c.in-Put.value (subst (λ (e : Entry). IsIn es base (c.args.at, e)) c.in-Put.is is)) at

pub returns-in-Migrated-clause-fits : goal.returns-in-Migrated-clause-fits
returns-in-Migrated-clause-fits g c es base small is at =
    fits_one g.T.Loads.fits es base c.make_change.result c.args.trees.now c.make_change.new.trees c.args.waiting.now
    (c.make_change.ensures.fits es base small is.0 (logged_migrated es base c.args.at c.in-Migrated.db c.in-Migrated.name c.in-Migrated.value (subst (λ (e : Entry). IsIn es base (c.args.at, e)) c.in-Migrated.is is))) at
