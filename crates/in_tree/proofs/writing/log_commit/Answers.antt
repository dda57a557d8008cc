use Rattle.std.proofs.Common.{Err, ap, refl, rules}
use Rattle.log_entry.specs.Body.{IsEntry}
use Rattle.log_entry.specs.declared.entry.Entry.TheVariants.{Commit}
use Rattle.in_tree.specs.Limits.{commit_size}
use Rattle.in_tree.proofs.Written.{fits_one, fits}
use Rattle.in_tree.proofs.writing.log_commit.Goals as goal

pub append_reserved-requires-clause-fits : goal.append_reserved-requires-clause-fits
append_reserved-requires-clause-fits g c = fits c.args.log.now commit_size c.requires.0 c.requires.1

pub returns-clause-tried : goal.returns-clause-tried
returns-clause-tried g c =
    let is : IsEntry (Commit c.args.txn) = search rules in
    let log = c.args.log.now in
    record {
      tried = c.in-Err.ensures.tried;
      fits = fits_one log (Commit c.args.txn) commit_size c.requires.0 is refl refl c.requires.1;
      never_falls = c.in-Err.ensures.cause.never_falls;
      rose = λ works. c.in-Err.ensures.cause.fault works (ap Err c.in-Err.ensures.by_fault);
    }
