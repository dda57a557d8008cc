use Rattle.std.proofs.Common.{sym, ◌∙◌, arith, length-append}
use Rattle.lock_mgr.specs.Deadlock.{waits}
use Rattle.lock_table.specs.Table.{waits_for}
use Rattle.lock_mgr.proofs.EdgeSearch.{known, followed, weight_follows}
use Rattle.lock_mgr.proofs.victims.follow.Goals as goal

pub returns-then-contains-clause-filling : goal.returns-then-contains-clause-filling
returns-then-contains-clause-filling c = known (waits c.args.table.now) c.args.txn c.args.next _ c.args.seen.now c.args.todo.now.items c.requires (sym c.contains.ensures ∙ c.if-contains.true)

pub returns-clause-filling : goal.returns-clause-filling
returns-clause-filling c = rw (c.in_ok-extend_from_slice.ensures.items, c.as_slice-2.ensures.value, c.in_ok-owners.ensures) (followed c.args.table.now c.args.txn c.args.next c.args.edges.now c.put_edges.new.edges c.args.seen.now c.insert.new.self c.args.todo.now.items c.requires c.in_ok-insert.ensures.updates.0
    (λ a b. rw (← c.in_ok-owners.ensures, ← c.as_slice.ensures.value) (c.in_ok-put_edges.ensures a b)))

pub returns-clause-left : goal.returns-clause-left
returns-clause-left c = rw (c.in_ok-extend_from_slice.ensures.items, c.as_slice-2.ensures.value, c.in_ok-owners.ensures)
    (let k = weight_follows c.args.table.now c.args.seen.now c.insert.new.self c.args.next c.in_ok-insert.ensures.updates.0 (sym c.contains.ensures ∙ c.if-contains.false) in
    omega (arith, k, length-append c.args.todo.now.items (waits_for c.args.next c.args.table.now)))
