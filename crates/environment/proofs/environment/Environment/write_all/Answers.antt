-- What changes that are logged leave.
use Rattle.std.proofs.Common.{◌∙◌, refl, sym, subst, count_by, Ok}
use Rattle.environment.specs.declared.wrote.TreesWrote.{TreesWrote}
use Rattle.environment.specs.Writing.{WritesTrees, has_record}
use Rattle.in_tree.specs.Observed.{cells_of}
use Rattle.environment.proofs.WrittenNames.{names_through, had_through, firsts_through}
use Rattle.environment.proofs.environment.Environment.write_all.Goals as goal

pub write_changes-requires-clause-few : goal.write_changes-requires-clause-few
write_changes-requires-clause-few g c = c.in-Some.ensures.few

-- src/logging.rt:47:5
pub returns-in-Done-clause-writes : goal.returns-in-Done-clause-writes
returns-in-Done-clause-writes g c =
    let old = c.args.self.now in
    let w = subst (λ (x : TreesWrote). WritesTrees g.D.Disk.meaning old.engine.trees c.write_changes.new.trees c.args.txn c.args.changes.now c.args.owed (Ok x)) c.in-Done.is c.in_ok-wrote.ensures.writes in
    record {
      writes = w.0;
      was_rising = c.are_ordered.ensures;
      rising = c.are_ordered-2.ensures;
      made = w.1;
      first = c.in-Done.first;
      logged = w.2;
      room = w.3;
      limit = w.4;
      left = sym c.may_lack.ensures ∙ c.if-may_lack.false;
      kept = refl;
      names = names_through old.written.by_txn.entries c.make_room_at.new.written.entries c.append_at.new.written.entries c.args.txn c.args.names.items c.make_room_at.ensures.names c.append_at.ensures.names;
      had = had_through old.written.by_txn.entries c.make_room_at.new.written.entries c.append_at.new.written.entries c.args.txn c.in-Some.had (count_by (has_record c.args.txn (cells_of old.engine.trees)) c.args.changes.now) c.in-Some.ensures.counted c.make_room_at.ensures.had c.append_at.ensures.had;
      firsts = firsts_through old.written.by_txn.entries c.make_room_at.new.written.entries c.append_at.new.written.entries c.args.txn c.args.names.items c.in-Done.first c.make_room_at.ensures.names c.make_room_at.ensures.firsts
          c.append_at.ensures.firsts;
    }

-- src/logging.rt:47:5
pub returns-in-Full-clause-writes : goal.returns-in-Full-clause-writes
returns-in-Full-clause-writes g c =
    let old = c.args.self.now in
    let w = subst (λ (x : TreesWrote). WritesTrees g.D.Disk.meaning old.engine.trees c.write_changes.new.trees c.args.txn c.args.changes.now c.args.owed (Ok x)) c.in-Full.is c.in_ok-wrote.ensures.writes in
    (record { trees = w.0; kept = refl; written = record { names = c.make_room_at.ensures.names; had = c.make_room_at.ensures.had; firsts = c.make_room_at.ensures.firsts } }, w.1)
