use Rattle.std.proofs.Common.{◌≡◌}
use Rattle.std.specs.List.{list_all}
use Rattle.record_map.specs.Cells.{is_as_shown}
use Rattle.db_tree.proofs.settling.are_as_shown.Given as goal

abbrev pub invariant-loop-name : goal.invariant-loop-name
invariant-loop-name l = list_all (λ e. is_as_shown l.last e.1) l._name-iterator ≡ list_all (λ e. is_as_shown l.last e.1) l.initial._name-iterator
