use Rattle.std.proofs.Common.{◌∙◌, ◌++◌, ℕ, List, ap, subst, sym, Some}
use Rattle.std.specs.BTreeMap.{get}
use Rattle.std.specs.Ordering.{nat_cmp}
use Rattle.db_tree.specs.declared.tree.DbTree.{DbTree}
use Rattle.dirty_nodes.specs.Steps.{IsNextAt}
use Rattle.dirty_nodes.proofs.Forests.{done_ended, done_next}
use Rattle.dirty_nodes.proofs.NextPlaces.{NoneBefore, after_found, before_first, entry_of, first_at, found_next, next_is_due, none_at}
use Rattle.dirty_nodes.proofs.forest.next_in.Goals as goal

pub loop-db-preserved-then-is_first : goal.loop-db-preserved-then-is_first
loop-db-preserved-then-is_first c =
    let own = subst (IsNextAt c.in-Some.db.now c.in-Some.tree.now.levels) c.in-Some-2.is c.in_ok-place.ensures in
    let first = sym c.is_first.ensures ∙ c.if-is_first.true in
    let i = c.loop-db.invariant.0 in (
      done_next (NoneBefore c.loop-db.found) (NoneBefore (Some c.in-Some-2.place)) c.args.forest.now.entries c.loop-db.db-iterator c.next.new.self (c.in-Some.db.now, c.in-Some.tree.now)
          (λ e none. before_first c.loop-db.found c.in-Some-2.place e first none) c.in-Some.ensures.steps (first_at c.in-Some.db.now c.in-Some.tree.now c.in-Some-2.place own) i,
      (
        c.in-Some.tree.now,
        ap (get nat_cmp c.args.forest.now) own.own
            ∙ entry_of c.args.forest.now i.done c.next.new.self (c.in-Some.db.now, c.in-Some.tree.now) c.into_iter-db-iterator.ensures.into_iter_gives.6 (i.is ∙ ap (λ (l : List (ℕ × DbTree)). i.done ++ l) c.in-Some.ensures.steps),
        next_is_due c.in-Some.db.now c.in-Some.tree.now.levels c.in-Some-2.place own,
      ),
    )

pub loop-db-preserved-else-is_first : goal.loop-db-preserved-else-is_first
loop-db-preserved-else-is_first c =
    let own = subst (IsNextAt c.in-Some.db.now c.in-Some.tree.now.levels) c.in-Some-2.is c.in_ok-place.ensures in
    let other = sym c.is_first.ensures ∙ c.if-is_first.false in (
      done_next (NoneBefore c.loop-db.found) (NoneBefore c.loop-db.found) c.args.forest.now.entries c.loop-db.db-iterator c.next.new.self (c.in-Some.db.now, c.in-Some.tree.now)
          (λ e none. none) c.in-Some.ensures.steps (after_found c.loop-db.found c.in-Some.db.now c.in-Some.tree.now c.in-Some-2.place own other) c.loop-db.invariant.0,
      c.loop-db.invariant.1,
    )

pub loop-db-preserved : goal.loop-db-preserved
loop-db-preserved c = (
  done_next (NoneBefore c.loop-db.found) (NoneBefore c.loop-db.found) c.args.forest.now.entries c.loop-db.db-iterator c.next.new.self (c.in-Some.db.now, c.in-Some.tree.now)
      (λ e none. none) c.in-Some.ensures.steps
      (none_at c.loop-db.found c.in-Some.db.now c.in-Some.tree.now (subst (IsNextAt c.in-Some.db.now c.in-Some.tree.now.levels) c.in_default.is c.in_ok-place.ensures)) c.loop-db.invariant.0,
  c.loop-db.invariant.1,
)

pub returns : goal.returns
returns c =
    found_next c.args.forest.now c.loop-db.found c.loop-db.invariant.1 (done_ended (NoneBefore c.loop-db.found) c.args.forest.now.entries c.loop-db.db-iterator c.in-None.ensures.steps.0 c.loop-db.invariant.0)
