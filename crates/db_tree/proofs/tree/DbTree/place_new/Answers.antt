use Rattle.std.proofs.Common.{ap, ◌≡◌, ◌==◌, ◌∙◌, ℕ, true, length, ap₂, arith, refl, sym}
use Rattle.std.specs.Map.{keys_of}
use Rattle.std.proofs.lemmas.List.{length-map}
use Rattle.db_tree.proofs.PlaceLaws.{placed_from, numbers_kept}
use Rattle.db_tree.proofs.tree.DbTree.place_new.Goals as goal

pub returns-in-Ok-clause-placed : goal.returns-in-Ok-clause-placed
returns-in-Ok-clause-placed c =
    let same : c.len.result ≡ length c.args.splits.items = omega (arith, c.len.ensures) in
    placed_from c.args.db c.args.name.now (record { splits = c.args.splits; is_raised = c.len.result == c.height.result; is_new = true; images = c.in-Ok.images }) c.args.self.now c.grow.new.self c.fill_slot.new.self
    c.in_ok-nodes.nodes.items c.as_slice.result.now c.as_slice-2.result.now c.as_slice.ensures.value c.as_slice-2.ensures.value c.len-before.ensures.rising c.requires refl
    (ap₂ (λ (m n : ℕ). m == n) same (c.height.ensures.value ∙ sym (length-map c.args.self.now.levels keys_of))) c.in_ok-nodes.ensures
    c.in_ok-grow.ensures.lows c.in_ok-grow.ensures.waits c.in_ok-grow.ensures.grown c.in_ok-grow.ensures.cells c.in-Ok.ensures.filled

pub returns-in-Ok-clause-numbers : goal.returns-in-Ok-clause-numbers
returns-in-Ok-clause-numbers c =
    let same : c.len.result ≡ length c.args.splits.items = omega (arith, c.len.ensures) in
    numbers_kept c.args.first (record { splits = c.args.splits; is_raised = c.len.result == c.height.result; is_new = true; images = c.in-Ok.images }) c.as_slice-2.result.now _ c.in_ok-nodes.nodes.items c.grow.new.self.levels c.fill_slot.new.self.levels
    c.as_slice-2.ensures.value
    (ap₂ (λ (m n : ℕ). m == n) (same ∙ sym (ap length c.as_slice-2.ensures.value)) (c.height.ensures.value ∙ sym (length-map c.args.self.now.levels keys_of))) c.in-Ok.ensures.filled.images.cleared c.in_ok-grow.ensures.numbers

pub returns-in-Ok-clause-tree : goal.returns-in-Ok-clause-tree
returns-in-Ok-clause-tree c = λ es base newest behind tree. c.in-Ok.ensures.tree es base newest (c.in_ok-grow.ensures.tree es base newest behind tree)
