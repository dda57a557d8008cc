use Rattle.std.proofs.Common.{◌≡◌, ◌≤◌, ◌∙◌, false, length, sym, arith}
use Rattle.tree_nodes.specs.Marks.{before_at}
use Rattle.tree_nodes.proofs.MarkLaws.{none_before, one_more}
use Rattle.tree_nodes.proofs.marks.has_before.Goals as goal

pub loop-place-preserved : goal.loop-place-preserved
loop-place-preserved c =
    one_more (λ i. before_at c.args.since c.args.names.now c.args.nodes.now i ≡ false) c.loop-place.place c.loop-place.invariant (sym c.before_at.ensures ∙ c.if-before_at.false)

pub returns : goal.returns
returns c = λ is.
    none_before c.args.since c.args.names.now c.args.nodes.now c.loop-place.place (let same = c.requires in let test = c.loop-place-test.false in omega (arith, same, test)) c.loop-place.invariant
