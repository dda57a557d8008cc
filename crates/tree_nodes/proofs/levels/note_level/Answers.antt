use Rattle.std.proofs.Common.{◌∙◌, ◌<◌, ◌≤◌, ◌-◌, ◌++◌, ◌||◌, IsSome, set, ap, sym, subst, arith}
use Rattle.record_map.specs.Cells.{value_at}
use Rattle.tree_nodes.specs.Nodes.{NodeRow, is_dirty, least}
use Rattle.tree_nodes.specs.Noted.{has_noted_child, noted_row}
use Rattle.tree_nodes.proofs.NoteLaws.{IsParted, noted_lowest, noted_there, noted_upper, parted_row, parts_level}
use Rattle.tree_nodes.proofs.levels.note_level.Goals as goal

pub note_above-requires-clause-least : goal.note_above-requires-clause-least
note_above-requires-clause-least c =
    let p : IsParted c.args.levels.now c.split_at_mut-below.result.0.now c.split_at_mut-below.result.1.now c.args.level = record { value = c.split_at_mut-below.ensures.value; front_len = c.split_at_mut-below.ensures.front_len; less = c.requires.there } in
    subst (λ (row : NodeRow). IsSome (value_at least row)) (sym (c.note_dirty.ensures.noted ∙ ap (noted_row (λ e. is_dirty e.1)) (sym c.index-rest-0.is)))
    (noted_there (λ e. is_dirty e.1) c.index-rest-0.result least
    (subst (λ (row : NodeRow). IsSome (value_at least row)) (sym (parted_row c.args.levels.now c.split_at_mut-below.result.0.now c.split_at_mut-below.result.1.now c.args.level c.index-rest-0.result p c.index-rest-0.is))
    (c.requires.parts.parts c.args.level c.requires.there)))

pub returns-then-level-gt0-clause-noted : goal.returns-then-level-gt0-clause-noted
returns-then-level-gt0-clause-noted c =
    let above : 0 < c.args.level = c.if-level-gt0.true in
    noted_upper c.args.levels.now c.split_at_mut-below.result.0.now c.split_at_mut-below.result.1.now c.args.level (c.args.level - 1) c.index-below-level.result c.index-rest-0.result c.note_dirty.new.self c.note_above.new.self
    (record { value = c.split_at_mut-below.ensures.value; front_len = c.split_at_mut-below.ensures.front_len; less = c.requires.there }) (omega (arith, above)) c.index-below-level.is c.index-rest-0.is (c.note_dirty.ensures.noted ∙ ap (noted_row (λ e. is_dirty e.1)) (sym c.index-rest-0.is))
    (c.note_above.ensures.noted ∙ ap (λ (b : NodeRow). noted_row (λ e. e.1.noted || has_noted_child b c.note_dirty.new.self e.0) c.note_dirty.new.self) (sym c.index-below-level.is))

pub returns-then-level-gt0-clause-parts : goal.returns-then-level-gt0-clause-parts
returns-then-level-gt0-clause-parts c =
    parts_level c.args.levels.now (c.split_at_mut-below.result.0.now ++ set c.split_at_mut-below.result.1.now 0 c.note_above.new.self) c.args.level c.requires.parts (returns-then-level-gt0-clause-noted c)

pub returns-else-level-gt0-clause-noted : goal.returns-else-level-gt0-clause-noted
returns-else-level-gt0-clause-noted c =
    let below : c.args.level ≤ 0 = c.if-level-gt0.false in
    noted_lowest c.args.levels.now c.split_at_mut-below.result.0.now c.split_at_mut-below.result.1.now c.args.level c.index-rest-0.result c.note_dirty.new.self
    (record { value = c.split_at_mut-below.ensures.value; front_len = c.split_at_mut-below.ensures.front_len; less = c.requires.there }) (omega (arith, below)) c.index-rest-0.is (c.note_dirty.ensures.noted ∙ ap (noted_row (λ e. is_dirty e.1)) (sym c.index-rest-0.is))

pub returns-else-level-gt0-clause-parts : goal.returns-else-level-gt0-clause-parts
returns-else-level-gt0-clause-parts c =
    parts_level c.args.levels.now (c.split_at_mut-below.result.0.now ++ set c.split_at_mut-below.result.1.now 0 c.note_dirty.new.self) c.args.level c.requires.parts (returns-else-level-gt0-clause-noted c)
