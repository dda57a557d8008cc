use Rattle.std.proofs.Common.{Err, ap, refl}
use Rattle.log_entry.specs.Encoding.{size_of}
use Rattle.in_tree.proofs.Written.{fits_one, fits}
use Rattle.in_tree.proofs.Checkpoints.{plain_follows}
use Rattle.in_tree.proofs.logging_checkpoints.append_plain.Goals as goal

pub append_reserved-requires-clause-follows : goal.append_reserved-requires-clause-follows
append_reserved-requires-clause-follows g c = plain_follows c.args.entry.now c.requires.plain

pub append_reserved-requires-clause-fits : goal.append_reserved-requires-clause-fits
append_reserved-requires-clause-fits g c = fits c.args.log.now (size_of c.args.entry.now) c.requires.room.0 c.requires.room.1

pub returns-in-Err-clause-tried : goal.returns-in-Err-clause-tried
returns-in-Err-clause-tried g c =
    let log = c.args.log.now in
    record {
      tried = c.in-Err.ensures.tried;
      fits = fits_one log c.args.entry.now (size_of c.args.entry.now) c.requires.room.0 c.requires.entry (plain_follows c.args.entry.now c.requires.plain) refl c.requires.room.1;
      never_falls = c.in-Err.ensures.cause.never_falls;
      rose = λ works. c.in-Err.ensures.cause.fault works (ap Err c.in-Err.ensures.by_fault);
    }
