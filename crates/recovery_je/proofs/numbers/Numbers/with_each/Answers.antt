use Rattle.std.proofs.Common.{◌∙◌, ◌+◌, refl, sym, ap, List, get_or, drop}
use Rattle.std.proofs.Math.ListN.{drop_of_length-le}
use Rattle.log_trees.specs.Placed.{Placed}
use Rattle.recovery_je.specs.Numbers.{numbers_over}
use Rattle.recovery_je.proofs.EntryPlaces.{offset_at, first_at, none_at}
use Rattle.recovery_je.proofs.numbers.Numbers.with_each.Goals as goal

pub loop-at-init : goal.loop-at-init
loop-at-init c es standing = (es, standing, refl)

pub loop-at-preserved : goal.loop-at-preserved
loop-at-preserved c es standing =
    let so = c.loop-at.invariant es standing in
    let i = c.loop-at.at-index in
    let first = first_at c.args.number.0 c.args.bytes.now (drop i c.args.offsets.now) (get_or c.args.offsets.now i 0) (drop (i + 1) c.args.offsets.now) so.0 (offset_at c.args.offsets.now i c.loop-at-test.true) so.1 in
    (first.more, first.standing, ap (numbers_over c.args.redo first.more) (c.in_ok-numbers.ensures first.entry first.has) ∙ ap (λ (l : List Placed). numbers_over c.args.redo l c.loop-at.numbers) (sym first.is) ∙ so.2)

pub with_at-requires : goal.with_at-requires
with_at-requires c =
    let so = c.loop-at.invariant c.requires.0 c.requires.1 in
    let i = c.loop-at.at-index in
    let first = first_at c.args.number.0 c.args.bytes.now (drop i c.args.offsets.now) (get_or c.args.offsets.now i 0) (drop (i + 1) c.args.offsets.now) so.0 (offset_at c.args.offsets.now i c.loop-at-test.true) so.1 in
    (first.entry, first.has)

pub returns : goal.returns
returns c es standing =
    let so = c.loop-at.invariant es standing in
    let none = none_at c.args.number.0 c.args.bytes.now (drop c.loop-at.at-index c.args.offsets.now) so.0 (drop_of_length-le c.args.offsets.now c.loop-at-test.false) so.1 in
    ap (λ (l : List Placed). numbers_over c.args.redo l c.loop-at.numbers) (sym none) ∙ so.2
