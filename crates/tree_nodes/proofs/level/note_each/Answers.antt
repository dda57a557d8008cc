use Rattle.std.proofs.Common.{◌≡◌, ◌<◌, ◌∙◌, get_or, length, ap, refl, sym, arith}
use Rattle.std.proofs.lemmas.List.{length-set}
use Rattle.tree_nodes.proofs.DuePlaces.{note_next, noted_is}
use Rattle.tree_nodes.proofs.NoteLaws.{all_noted_within, noted_next}
use Rattle.tree_nodes.proofs.level.note_each.Goals as goal

pub loop-place-preserved : goal.loop-place-preserved
loop-place-preserved c =
    let old = c.loop-place.nodes in
    let k = c.loop-place.place in
    let size = c.loop-place.invariant.0.size in
    let test = c.loop-place-test.true in
    let within : k < length old = omega (arith, size, test) in
    let same : length c.args.names.now ≡ length old = c.requires.same ∙ sym size in (
      noted_next c.args.nodes.now old k c.noted.result within (noted_is old k (get_or old k c.index-nodes-place.result) (get_or old k c.index-nodes-place-in-loop-place.result) c.noted.result c.is_dirty-noted.result within (ap (get_or old k) c.index-nodes-place.is) (ap (get_or old k) c.index-nodes-place-in-loop-place.is) c.is_dirty-noted.ensures c.noted.ensures)
          c.loop-place.invariant.0,
      (let a = length-set old k c.noted.result in let b = ap length c.note_due.ensures ∙ length-set c.loop-place.due k _ in let h = c.loop-place.invariant.1 in omega (arith, a, b, h)),
      (λ lows are. note_next old c.args.names.now c.loop-place.due c.note_due.new.due k c.noted.result same within c.note_due.ensures lows (c.loop-place.invariant.2 lows are)),
    )

pub returns-clause-noted : goal.returns-clause-noted
returns-clause-noted c = λ lows each.
    all_noted_within lows c.args.nodes.now c.loop-place.nodes c.loop-place.place (length c.args.nodes.now) (let size = c.loop-place.invariant.0.size in let test = c.loop-place-test.false in omega (arith, size, test)) refl each c.loop-place.invariant.0

pub returns-clause-size : goal.returns-clause-size
returns-clause-size c = c.loop-place.invariant.0.size
