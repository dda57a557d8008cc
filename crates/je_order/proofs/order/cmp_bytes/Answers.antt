use Rattle.std.proofs.Common.{◌∙◌, ◌+◌, ◌-◌, arith, refl, sym}
use Rattle.je_order.proofs.Parts.{less_same, more_same, found, not_found, ends}
use Rattle.je_order.proofs.order.cmp_bytes.Goals as goal

pub returns-then-is_ne : goal.returns-then-is_ne
returns-then-is_ne c =
    let i = c.loop-at.invariant in
    found c.loop-at.at 8 c.args.a.now c.args.b.now (omega (arith, i.0, i.2, c.loop-at-test.true)) (omega (arith, i.0, i.2, c.loop-at-test.true)) i.3
    c.cmp_word-order.result c.cmp_word-order.ensures (sym c.is_ne.ensures ∙ c.if-is_ne.true)

pub loop-at-preserved : goal.loop-at-preserved
loop-at-preserved c =
    let i = c.loop-at.invariant in
    let next = not_found c.cmp_word-order.result _ c.cmp_word-order.ensures (sym c.is_ne.ensures ∙ c.if-is_ne.false) in (
      i.0,
      i.1,
      omega (arith, i.2, c.loop-at-test.true),
      more_same c.loop-at.at 8 (c.loop-at.at + 8) c.args.a.now c.args.b.now refl (omega (arith, i.0, i.2, c.loop-at-test.true)) (omega (arith, i.0, i.2, c.loop-at-test.true)) i.3 next,
    )

pub returns-then-is_ne-2 : goal.returns-then-is_ne-2
returns-then-is_ne-2 c =
    let i = c.loop-at.invariant in
    let same = less_same (c.min-both.result - 8) c.loop-at.at c.args.a.now c.args.b.now (omega (arith, i.1, i.2, c.loop-at-test.false)) i.3 in
    found (c.min-both.result - 8) 8 c.args.a.now c.args.b.now (omega (arith, i.0, i.1)) (omega (arith, i.0, i.1)) same
    c.cmp_word-last.result c.cmp_word-last.ensures (sym c.is_ne-2.ensures ∙ c.if-is_ne-2.true)

pub returns : goal.returns
returns c =
    let i = c.loop-at.invariant in
    let front = less_same (c.min-both.result - 8) c.loop-at.at c.args.a.now c.args.b.now (omega (arith, i.1, i.2, c.loop-at-test.false)) i.3 in
    let last = not_found c.cmp_word-last.result _ c.cmp_word-last.ensures (sym c.is_ne-2.ensures ∙ c.if-is_ne-2.false) in
    c.cmp-2.ensures
    ∙ ends c.args.a.now c.args.b.now c.min-both.result i.0
    (more_same (c.min-both.result - 8) 8 c.min-both.result c.args.a.now c.args.b.now (omega (arith, i.1)) (omega (arith, i.0)) (omega (arith, i.0)) front last)
