use Rattle.std.proofs.Common.{◌≡◌, ◌∷◌, [], reverse, ap, sym, ◌∙◌, subst}
use Rattle.std.proofs.lemmas.List.{reverse-reverse}
use Rattle.je_order.specs.declared.txn_id.TxnId.{TxnId}
use Rattle.waits_for.specs.Cycles.{is_edge, IsFirstCycle}
use Rattle.waits_for.specs.Walk.{is_seen, IsWalk, IsAtEdge}
use Rattle.waits_for.proofs.SearchSteps.{begins, none_seen, turn_after}
use Rattle.waits_for.proofs.SearchEnds.{none_left, nothing_popped, first_found}
use Rattle.waits_for.proofs.search.find_cycle.Goals as goal

pub loop-x-init : goal.loop-x-init
loop-x-init c =
    begins c.args.edges.now c.args.from (is_seen c.new-seen.result) (is_seen c.visit.new.seen) c.new-path.result.items c.visit.new.path.items c.new-todo.result.items c.visit.new.todo.items (none_seen c.new-seen.result c.new-seen.ensures.empty) c.new-path.ensures.items c.new-todo.ensures.items
    c.in_ok-visit.ensures.seen c.in_ok-visit.ensures.path c.in_ok-visit.ensures.todo c.in_ok-visit.ensures.rising

pub follow-requires-clause-turn : goal.follow-requires-clause-turn
follow-requires-clause-turn c =
    turn_after c.args.edges.now c.args.from (is_seen c.loop-x.seen) c.loop-x.path.items c.back_to.new.path.items c.loop-x.todo.items c.pop.new.self.items c.in-Some.x c.in-Some.y c.loop-x.invariant c.in-Some.ensures.items c.back_to.ensures

pub returns-then-eq-clause-found : goal.returns-then-eq-clause-found
returns-then-eq-clause-found c =
    let t = turn_after c.args.edges.now c.args.from (is_seen c.loop-x.seen) c.loop-x.path.items c.back_to.new.path.items c.loop-x.todo.items c.pop.new.self.items c.in-Some.x c.in-Some.y c.loop-x.invariant c.in-Some.ensures.items c.back_to.ensures in
    subst (IsFirstCycle (is_edge c.args.edges.now) c.args.from) (reverse-reverse c.back_to.new.path.items)
    (first_found c.args.edges.now c.args.from (is_seen c.loop-x.seen) (reverse c.back_to.new.path.items) (reverse c.pop.new.self.items) c.in-Some.x c.in-Some.y t (sym c.eq.ensures ∙ c.if-eq.true))

pub returns-clause-none : goal.returns-clause-none
returns-clause-none c = λ list h.
    let e : c.loop-x.todo.items ≡ [] = nothing_popped c.loop-x.todo.items c.pop.new.self.items _ c.in_default.ensures.items c.in_default.ensures.rest c.in_default.ensures.cases.0 in
    let w : IsWalk c.args.edges.now c.args.from (is_seen c.loop-x.seen) (reverse c.loop-x.path.items) [] = subst (λ (l : _). IsWalk c.args.edges.now c.args.from (is_seen c.loop-x.seen) (reverse c.loop-x.path.items) (reverse l)) e c.loop-x.invariant in
    none_left c.args.edges.now c.args.from (is_seen c.loop-x.seen) (reverse c.loop-x.path.items) w list h

pub returns-then-eq-clause-none : goal.returns-then-eq-clause-none
returns-then-eq-clause-none c = tt

pub follow-requires-clause-other : goal.follow-requires-clause-other
follow-requires-clause-other c = sym c.eq.ensures ∙ c.if-eq.false
