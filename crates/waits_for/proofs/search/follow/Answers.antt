use Rattle.std.proofs.Common.{◌≡◌, ◌∷◌, ◌++◌, [], reverse, filter, refl, ap, sym, ◌∙◌, subst}
use Rattle.je_order.specs.declared.txn_id.TxnId.{TxnId}
use Rattle.waits_for.specs.Cycles.{is_from}
use Rattle.waits_for.specs.Walk.{is_seen}
use Rattle.waits_for.proofs.SearchSteps.{known, goes_further, still_left}
use Rattle.waits_for.proofs.search.follow.Goals as goal

pub returns-then-contains-clause-walk : goal.returns-then-contains-clause-walk
returns-then-contains-clause-walk c =
    known c.args.edges.now c.args.from (is_seen c.args.seen.now) (reverse c.args.path.now.items) (reverse c.args.todo.now.items) c.args.x c.args.y c.requires.turn (sym c.contains.ensures ∙ c.if-contains.true) c.requires.other

pub returns-clause-walk : goal.returns-clause-walk
returns-clause-walk c =
    goes_further c.visit.result c.args.edges.now c.args.from (is_seen c.args.seen.now) (is_seen c.visit.new.seen) c.args.path.now.items c.visit.new.path.items c.args.todo.now.items c.visit.new.todo.items c.args.x c.args.y c.requires.turn c.requires.other (sym c.contains.ensures ∙ c.if-contains.false)
    c.visit.ensures.seen c.visit.ensures.path c.visit.ensures.todo c.visit.ensures.rising

pub returns-clause-left : goal.returns-clause-left
returns-clause-left c =
    still_left c.visit.result c.args.edges.now (is_seen c.args.seen.now) (is_seen c.visit.new.seen) c.args.todo.now.items c.visit.new.todo.items c.args.y (sym c.contains.ensures ∙ c.if-contains.false) c.visit.ensures.seen c.visit.ensures.todo
