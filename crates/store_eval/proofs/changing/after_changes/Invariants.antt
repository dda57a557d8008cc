use Rattle.std.proofs.Common.{◌≡◌, drop}
use Rattle.store_model.specs.Store.{all_changed}
use Rattle.store_eval.proofs.changing.after_changes.Given as goal

-- the changes that are left lead from the store so far to the store after all
abbrev pub invariant-loop-change : goal.invariant-loop-change
invariant-loop-change l = all_changed (drop l.change-index l.changes) l.now ≡ all_changed l.changes l.store
