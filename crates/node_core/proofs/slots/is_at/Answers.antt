use Rattle.std.proofs.Common.{◌≡◌, ◌∙◌, length, refl, sym, ap, Equal}
use Rattle.std.specs.Prelude.{is_some}
use Rattle.std.proofs.lemmas.Option.{slice_get_read}
use Rattle.je_order.specs.Order.{name_cmp}
use Rattle.node_core.specs.declared.slot.Marked.{Marked}
use Rattle.node_core.proofs.SlotPositions.{is_found, is_there, is_missed, is_past}
use Rattle.node_core.proofs.slots.is_at.Goals as goal

pub returns-then-index-marked-clause-there : goal.returns-then-index-marked-clause-there
returns-then-index-marked-clause-there c = sym (ap is_some (is_past c.args.at.now c.args.marked.now c.args.index c.requires.rises c.requires.place c.if-index-marked.true))

pub returns-in-Equal : goal.returns-in-Equal
returns-in-Equal c =
    let x = c.args.at.now in
    let ms = c.args.marked.now in
    let m = c.index-marked-index.result in
    let here = slice_get_read ms (length ms) c.args.index m refl c.if-index-marked.false c.index-marked-index.is in
    let tie : name_cmp x m.slot.name ≡ Equal = ap (λ (k : Marked). name_cmp x k.slot.name) c.index-marked-index.is ∙ sym c.cmp_name.ensures ∙ c.in-Equal.is in
    let found = is_found x ms c.args.index m c.requires.rises c.requires.place c.if-index-marked.false here tie in
    record { there = sym (is_there x ms c.args.index m found here); found = λ _. found }

pub returns-in_default : goal.returns-in_default
returns-in_default c =
    let x = c.args.at.now in
    let ms = c.args.marked.now in
    let m = c.index-marked-index.result in
    let here = slice_get_read ms (length ms) c.args.index m refl c.if-index-marked.false c.index-marked-index.is in
    let missed = is_missed x ms c.args.index m c.requires.rises c.requires.place here (λ tie. c.in_default.not-Equal (c.cmp_name.ensures ∙ ap (λ (k : Marked). name_cmp x k.slot.name) (sym c.index-marked-index.is) ∙ tie)) in
    record { there = sym (ap is_some missed); found = λ e. absurd cc }
