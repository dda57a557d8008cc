-- Changes of a transaction under way are logged, or not.
use Rattle.std.proofs.Common.{◌≡◌, ◌∙◌, None, ℕ, List, IfSome, false, true, refl, sym, subst}
use Rattle.std.specs.List.{AllByRecursion}
use Rattle.log_entry.specs.Body.{IsEntry}
use Rattle.record_map.specs.Cells.{value_at}
use Rattle.record_tree.specs.Logged.{entry_for}
use Rattle.record_tree.specs.Occupied.{IsFreeFor, write_in}
use Rattle.record_tree.specs.declared.tree_change.TreeChange.{TreeChange}
use Rattle.record_tree.specs.declared.tree_name.TreeName.{TreeName}
use Rattle.in_tree.specs.Observed.{cells_of, has_tree_of}
use Rattle.je_answers.specs.Views.{with_numbers}
use Rattle.sessions.specs.AtStanding.{with_own}
use Rattle.txn_locks.specs.Taking.{state_of}
use Rattle.txn_views.specs.Laws.{own_names}
use Rattle.environment.specs.Writing.{WritesAll, WritesOwn}
use Rattle.environment.proofs.EarlyLaws.{same_buffer}
use Rattle.environment.proofs.OwnEnds.{rose_by, stands_taken}
use Rattle.environment.proofs.OwnLogged.{free_there, trees_there, writes_own}
use Rattle.environment.proofs.WritingLaws.{none_made}
use Rattle.environment.proofs.environment.Environment.log_pushed.Goals as goal

pub write_all-requires-clause-trees : goal.write_all-requires-clause-trees
write_all-requires-clause-trees g c =
    let can = c.requires.can in
    let old = c.args.self.now in
    subst (λ (l : List TreeChange). AllByRecursion (λ x. has_tree_of old.engine.trees x.db ≡ true) l) (sym (c.as_slice.ensures.value ∙ can.4))
    (trees_there g.D.Disk.meaning old can.0 c.args.txn can.1 can.2 can.3)

pub write_all-requires-clause-free : goal.write_all-requires-clause-free
write_all-requires-clause-free g c =
    let can = c.requires.can in
    let old = c.args.self.now in
    subst (λ (l : List TreeChange). AllByRecursion (λ x. IsFreeFor c.args.txn (write_in (value_at x.name (cells_of old.engine.trees x.db)))) l) (sym (c.as_slice.ensures.value ∙ can.4))
    (free_there g.D.Disk.meaning old can.0 c.args.txn can.1 can.2 can.3)

pub write_all-requires-clause-new : goal.write_all-requires-clause-new
write_all-requires-clause-new g c =
    let can = c.requires.can in
    let old = c.args.self.now in
    subst (λ (l : List TreeChange). AllByRecursion (λ x. IfSome x.makes (λ d. has_tree_of old.engine.trees d ≡ false)) l) (sym (c.as_slice.ensures.value ∙ can.4))
    (none_made (λ d. has_tree_of old.engine.trees d ≡ false) (with_numbers can.1))

pub write_all-requires-clause-entries : goal.write_all-requires-clause-entries
write_all-requires-clause-entries g c =
    subst (λ (l : List TreeChange). AllByRecursion (λ x. IsEntry (entry_for c.args.txn x.db x.name x.value)) l) (sym c.as_slice.ensures.value) c.requires.entries

pub returns-in-Ok-clause-writes : goal.returns-in-Ok-clause-writes
returns-in-Ok-clause-writes g c st cs a needs valid may active last_db planned names taken =
    let old = c.args.self.now in
    let new = c.write_all.new.self in
    let own = with_own c.args.txn.0 (with_numbers cs) st in
    let owed = c.in-Ok.ensures (record own { fault = None; locks = state_of old.sessions.locks.locks }) (stands_taken g.D.Disk.meaning old.sessions a needs own taken) in
    subst (λ (n : ℕ). WritesOwn g.D.Disk.meaning old new st c.args.txn.0 cs n c.write_all.result) owed
    (writes_own g.D.Disk.meaning old new c.args.txn st cs c.in-Ok.owed valid may active last_db c.write_all.result owed
    (subst (λ (l : List TreeChange). WritesAll g.D.Disk.meaning old new c.args.txn l (own_names (with_numbers cs)) c.in-Ok.owed c.write_all.result) (c.as_slice.ensures.value ∙ planned)
    (subst (λ (l : List TreeName). WritesAll g.D.Disk.meaning old new c.args.txn c.as_slice.result.now l c.in-Ok.owed c.write_all.result) names
    c.write_all.ensures.writes)))

pub returns-in-Ok-clause-rose : goal.returns-in-Ok-clause-rose
returns-in-Ok-clause-rose g c =
    rose_by g.D.Disk.meaning c.args.self.now c.write_all.new.self c.args.txn c.as_slice.result.now c.args.copied.names.items c.in-Ok.owed c.write_all.result
    c.requires.can.2.works c.write_all.ensures.writes

pub returns-clause-writes : goal.returns-clause-writes
returns-clause-writes g c st cs a needs valid may active last_db planned names taken =
    (valid, record { log = same_buffer c.args.self.now.engine.trees.log; kept = refl; end = refl })
