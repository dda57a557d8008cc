use Rattle.std.proofs.Common.{rules, [], ◌∷◌, ◌++◌, ◌∙◌, ◌≡◌, subst, sym, ℕ, List, length}
use Rattle.std.specs.List.{AllByRecursion}
use Rattle.record_map.specs.Cells.{value_at}
use Rattle.record_tree.specs.Occupied.{IsFreeFor, write_in}
use Rattle.log_entry.specs.declared.entry.Entry.{Entry}
use Rattle.log_entry.specs.declared.entry.Entry.TheVariants.{Commit}
use Rattle.record_tree.specs.declared.tree_name.TreeName.{TreeName}
use Rattle.record_tree.specs.declared.tree_err.TreeErr.{TreeErr as Reason}
use Rattle.record_tree.specs.Logged.{LogsTransaction, IsFront, most_entries}
use Rattle.txn_core.specs.Transactions.{IsCommittedAmong}
use Rattle.txn_core.proofs.Committing.{written_free, entries_few, values_then, writes_then, room_then, more_than, logs_commit, tried_with, front_behind, ok_then, ends_by}
use Rattle.engine.proofs.filling.commit_filled.Goals as goal
use Rattle.in_tree.specs.Limits.{commit_sizes, HasRoomFor, TriedFitting}
use Rattle.in_tree.specs.Observed.{cells_of, waits_of, GrewTrees, grew_then, tried_then}

pub returns-in_err-write_new-clause-tried : goal.returns-in_err-write_new-clause-tried
returns-in_err-write_new-clause-tried g c =
    let tried : c.in_err-write_new.field-0.0 ≡ Reason.Fault → (entries : List Entry) × (front : List Entry) × LogsTransaction c.args.txn c.args.changes.now entries × IsFront front entries × TriedFitting g.D.Disk.meaning c.args.trees.now.log c.write_new.new.self.log front
    = (λ is. tried_with (TriedFitting g.D.Disk.meaning) c.args.trees.now.log c.write_new.new.self.log c.args.txn c.args.changes.now (c.in_err-write_new.ensures.tried is)) in
    search rules

pub commit_names-requires-clause-room : goal.commit_names-requires-clause-room
commit_names-requires-clause-room g c =
    let more = more_than c.args.owed c.requires.some in
    (more.0, subst (λ (n : ℕ). HasRoomFor c.write_new.new.self.log (commit_sizes n)) more.1 c.in_ok-write_new.ensures.left)

pub commit_names-requires-clause-own : goal.commit_names-requires-clause-own
commit_names-requires-clause-own g c =
    subst (λ (names : List TreeName). AllByRecursion (λ n. IsFreeFor c.args.txn (write_in (value_at n.name (cells_of c.write_new.new.self n.db)))) names) (sym (c.as_slice.ensures.value ∙ c.in-Ok.ensures))
    (written_free c.args.txn c.args.changes.now c.args.changes.now (cells_of c.args.trees.now) (cells_of c.write_new.new.self) c.in_ok-write_new.ensures.cells c.requires.free)

pub returns-clause-values : goal.returns-clause-values
returns-clause-values g c =
    ok_then c.commit_names.result
    (λ (committed : IsCommittedAmong c.as_slice.result.now c.args.gone (cells_of c.write_new.new.self) (cells_of c.commit_names.new.trees)).
    values_then c.args.txn c.args.changes.now c.args.gone (cells_of c.args.trees.now) (cells_of c.write_new.new.self) (cells_of c.commit_names.new.trees) c.in_ok-write_new.ensures.cells
    (subst (λ (names : List TreeName). IsCommittedAmong names c.args.gone (cells_of c.write_new.new.self) (cells_of c.commit_names.new.trees)) (c.as_slice.ensures.value ∙ c.in-Ok.ensures) committed))
    c.commit_names.ensures.cells

pub returns-clause-writes : goal.returns-clause-writes
returns-clause-writes g c =
    ok_then c.commit_names.result
    (λ (committed : IsCommittedAmong c.as_slice.result.now c.args.gone (cells_of c.write_new.new.self) (cells_of c.commit_names.new.trees)).
    writes_then c.args.txn c.args.changes.now c.args.gone (cells_of c.args.trees.now) (cells_of c.write_new.new.self) (cells_of c.commit_names.new.trees) c.in_ok-write_new.ensures.cells
    (subst (λ (names : List TreeName). IsCommittedAmong names c.args.gone (cells_of c.write_new.new.self) (cells_of c.commit_names.new.trees)) (c.as_slice.ensures.value ∙ c.in-Ok.ensures) committed))
    c.commit_names.ensures.cells

pub returns-clause-left : goal.returns-clause-left
returns-clause-left g c =
    room_then (λ (n : ℕ). HasRoomFor c.commit_names.new.trees.log (commit_sizes n)) c.commit_names.result c.args.owed
    (λ n is. c.commit_names.ensures.left n (subst (λ (m : ℕ). HasRoomFor c.write_new.new.self.log (commit_sizes m)) is c.in_ok-write_new.ensures.left))

pub returns-clause-grew : goal.returns-clause-grew
returns-clause-grew g c =
    let wrote = c.in_ok-write_new.ensures.grew in
    ok_then c.commit_names.result
    (λ (grew : GrewTrees g.D.Disk.meaning c.write_new.new.self c.commit_names.new.trees (Commit c.args.txn ∷ [])). (
      wrote.0 ++ Commit c.args.txn ∷ [],
      logs_commit c.args.txn c.args.changes.now wrote.0 wrote.1,
      grew_then g.D.Disk.meaning c.args.trees.now c.write_new.new.self c.commit_names.new.trees wrote.0 (Commit c.args.txn ∷ []) wrote.2 grew,
      entries_few c.args.txn wrote.0 (waits_of c.args.trees.now) (waits_of c.write_new.new.self) (waits_of c.commit_names.new.trees) (most_entries (length c.args.changes.now)) wrote.3 c.commit_names.ensures.waits,
    ))
    c.commit_names.ensures.grew

pub returns-clause-tried : goal.returns-clause-tried
returns-clause-tried g c =
    let wrote = c.in_ok-write_new.ensures.grew in
    ends_by c.commit_names.result Reason.Fault
    (λ (tried : (front : List Entry) × IsFront front (Commit c.args.txn ∷ []) × TriedFitting g.D.Disk.meaning c.write_new.new.self.log c.commit_names.new.trees.log front). (
      wrote.0 ++ Commit c.args.txn ∷ [],
      wrote.0 ++ tried.0,
      logs_commit c.args.txn c.args.changes.now wrote.0 wrote.1,
      front_behind wrote.0 tried.0 (Commit c.args.txn ∷ []) tried.1,
      tried_then g.D.Disk.meaning c.args.trees.now c.write_new.new.self c.commit_names.new.trees wrote.0 tried.0 wrote.2 tried.2,
    ))
    c.commit_names.ensures.tried
