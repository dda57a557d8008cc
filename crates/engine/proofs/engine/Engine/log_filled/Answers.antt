use Rattle.std.proofs.Common.{◌≡◌, ◌∙◌, ◌+◌, refl, sym, subst, ap, length, nat_lt, List, None}
use Rattle.std.specs.List.{AllByRecursion}
use Rattle.log_entry.specs.Body.{IsEntry}
use Rattle.record_tree.specs.Logged.{entry_for}
use Rattle.record_tree.specs.declared.tree_change.TreeChange.{TreeChange}
use Rattle.record_map.specs.Cells.{value_at}
use Rattle.record_tree.specs.Occupied.{IsFreeFor, write_in}
use Rattle.txn_core.specs.Transactions.{HasTreesAfter, LeavesWrites}
use Rattle.in_tree.specs.Observed.{cells_of, has_tree_of, limit_filling_in}
use Rattle.store_model.specs.declared.store.TheConstants.{LAST_DATABASE}
use Rattle.engine.specs.Limits.{last_number, numbers_for}
use Rattle.engine.specs.Steps.{txn_of}
use Rattle.engine.proofs.LogLaws.{appended_all, carried_all, near_logged, neither, no_limit, refused_logs, rows_logged, within_last}
use Rattle.engine.proofs.engine.Engine.log_filled.Goals as goal
use Rattle.in_tree.specs.Filling.{AreFilling}

pub commit_filled-requires-clause-fills : goal.commit_filled-requires-clause-fills
commit_filled-requires-clause-fills g c =
    let planned = c.args.planned in
    let kept = c.args.self.now.kept in
    let left = neither (nat_lt LAST_DATABASE planned.last_db) (nat_lt last_number (kept.last_node + numbers_for (length planned.changes.items))) (sym c.lacks_numbers.ensures ∙ c.if-lacks_numbers.false) in
    subst (λ (cs : List TreeChange). AreFilling (has_tree_of c.args.self.now.trees) cs) (sym c.as_slice.ensures.value) (c.requires.fills (within_last planned.last_db left.0))

pub returns-in-Ok-clause-logs : goal.returns-in-Ok-clause-logs
returns-in-Ok-clause-logs g c =
    let D = g.D.Disk in
    let planned = c.args.planned in
    let kept = c.args.self.now.kept in
    let old = c.args.self.now.trees in
    let new = c.commit_filled.new.trees in
    let count = length planned.changes.items in
    let left = neither (nat_lt LAST_DATABASE planned.last_db) (nat_lt last_number (kept.last_node + numbers_for count)) (sym c.lacks_numbers.ensures ∙ c.if-lacks_numbers.false) in
    let slice = c.as_slice.result.now in
    let same : slice ≡ planned.changes.items = c.as_slice.ensures.value in
    let len = c.len.ensures ∙ planned.changes.ok.0 in
    let node : kept.last_node + numbers_for c.len.result ≡ kept.last_node + numbers_for count = ap (λ n. kept.last_node + numbers_for n) len in (
      refl,
      record {
        rows = rows_logged old new planned slice same c.in-Ok.ensures.values c.are_ordered.ensures c.are_ordered-in-Ok.ensures;
        totals = refl;
        last_txn = refl;
        last_db = refl;
        last_node = node;
        commits = refl;
        fault = refl;
        checkpoints = refl;
      },
      within_last planned.last_db left.0,
      no_limit _ kept.last_node count (subst (λ (cs : List TreeChange). limit_filling_in old cs c.args.owed ≡ None) same c.in-Ok.ensures.room) left.1,
      appended_all D.meaning old new (txn_of (kept.last_txn + 1)) planned slice same c.in-Ok.ensures.grew,
      carried_all D.meaning old new (txn_of (kept.last_txn + 1)) planned slice same c.in-Ok.ensures.grew,
    )

pub returns-in-Ok-clause-near : goal.returns-in-Ok-clause-near
returns-in-Ok-clause-near g c =
    let D = g.D.Disk in
    near_logged D.meaning c.args.self.now.trees c.commit_filled.new.trees (txn_of (c.args.self.now.kept.last_txn + 1)) c.args.planned c.as_slice.result.now c.as_slice.ensures.value
    c.in-Ok.ensures.grew

pub commit_filled-requires-clause-entries : goal.commit_filled-requires-clause-entries
commit_filled-requires-clause-entries g c =
    subst (λ (cs : List TreeChange). AllByRecursion (λ x. IsEntry (entry_for (txn_of (c.args.self.now.kept.last_txn + 1)) x.db x.name x.value)) cs) (sym c.as_slice.ensures.value) c.requires.entries

pub commit_filled-requires-clause-free : goal.commit_filled-requires-clause-free
commit_filled-requires-clause-free g c =
    let trees = c.args.self.now.trees in
    let planned = c.args.planned in
    let kept = c.args.self.now.kept in
    let left = neither (nat_lt LAST_DATABASE planned.last_db) (nat_lt last_number (kept.last_node + numbers_for (length planned.changes.items))) (sym c.lacks_numbers.ensures ∙ c.if-lacks_numbers.false) in
    subst (λ (cs : List TreeChange). AllByRecursion (λ x. IsFreeFor (txn_of (kept.last_txn + 1)) (write_in (value_at x.name (cells_of trees x.db)))) cs) (sym c.as_slice.ensures.value) (c.requires.free (within_last planned.last_db left.0))

pub returns-in-Ok-clause-trees : goal.returns-in-Ok-clause-trees
returns-in-Ok-clause-trees g c =
    let old = c.args.self.now.trees in
    let new = c.commit_filled.new.trees in
    record {
      writes = subst (λ (cs : List TreeChange). LeavesWrites cs c.args.planned.gone (cells_of old) (cells_of new)) c.as_slice.ensures.value c.in-Ok.ensures.writes;
      trees = subst (λ (cs : List TreeChange). HasTreesAfter cs c.args.planned.gone (has_tree_of old) (has_tree_of new)) c.as_slice.ensures.value c.in-Ok.ensures.trees;
      room = c.in-Ok.ensures.left;
    }

pub returns-then-lacks_numbers-clause-logs : goal.returns-then-lacks_numbers-clause-logs
returns-then-lacks_numbers-clause-logs g c =
    let D = g.D.Disk in
    let old = c.args.self.now in
    let mid = c.refuse_filled.new.self in
    refused_logs D.meaning old.trees mid.trees old.kept mid.kept c.args.planned (limit_filling_in old.trees c.args.planned.changes.items c.args.owed) c.in_ok-answer.answer c.in_ok-answer.ensures.answer
    (sym c.lacks_numbers.ensures ∙ c.if-lacks_numbers.true) c.refuse_filled.ensures.same c.refuse_filled.ensures.kept
