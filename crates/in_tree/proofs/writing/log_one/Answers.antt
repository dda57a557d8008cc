use Rattle.std.proofs.Common.{◌≤◌, ◌∙◌, ◌∷◌, [], ℕ, Err, ap, sym, subst}
use Rattle.log_entry.specs.Encoding.{size_of}
use Rattle.log_entry.specs.declared.entry.Entry.{Entry}
use Rattle.log_buffer.specs.Buffer.{end_of, file_max_of}
use Rattle.log_buffer.specs.Flip.{placed_at}
use Rattle.log_buffer.specs.Growth.{Tried}
use Rattle.record_tree.specs.Logged.{entry_for}
use Rattle.in_tree.proofs.Written.{change_follows, fits_one, size_is, fits}
use Rattle.in_tree.specs.Limits.{change_size}
use Rattle.in_tree.proofs.writing.log_one.Goals as goal

pub append_reserved-requires-clause-fits : goal.append_reserved-requires-clause-fits
append_reserved-requires-clause-fits g c =
    let size = ap size_of c.entry_of.ensures ∙ size_is c.args.txn c.args.change.now in
    subst (λ (n : ℕ). (placed_at (file_max_of c.args.log.now) (end_of c.args.log.now) n).file ≤ 0xfffffffe) (sym size)
    (fits c.args.log.now (change_size c.args.change.now) c.requires.room.0 c.requires.room.1)

pub returns-in-Err-clause-tried : goal.returns-in-Err-clause-tried
returns-in-Err-clause-tried g c =
    let change = c.args.change.now in
    let log = c.args.log.now in
    let failed = c.append_reserved.new.self in
    let D = g.D.Disk in
    record {
      tried = subst (λ (e : Entry). Tried D.meaning log failed (e ∷ [])) c.entry_of.ensures c.in-Err.ensures.tried;
      fits = fits_one log (entry_for c.args.txn change.db change.name change.value) (change_size change) c.requires.room.0 c.requires.entry (change_follows c.args.txn change.db change.name change.value)
          (size_is c.args.txn change) c.requires.room.1;
      never_falls = c.in-Err.ensures.cause.never_falls;
      rose = λ works. c.in-Err.ensures.cause.fault works (ap Err c.in-Err.ensures.by_fault);
    }
