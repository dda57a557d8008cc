use Rattle.std.proofs.Common.{◌∙◌, sym}
use Rattle.std.specs.BTreeMap.{is_at}
use Rattle.std.proofs.lemmas.Map.Steps.{set_value_same}
use Rattle.je_order.specs.Order.{name_cmp}
use Rattle.record_map.proofs.cells.commit_change_in.Goals as goal

pub returns-in-None-written-clause-same : goal.returns-in-None-written-clause-same
returns-in-None-written-clause-same c = λ none.
    (c.get_mut.follows.holds c.in-Some.cell.now).0 ∙ set_value_same (is_at (name_cmp c.args.name.now)) c.args.cells.now.entries c.in-Some.cell.now (sym c.in-Some.ensures.value)
