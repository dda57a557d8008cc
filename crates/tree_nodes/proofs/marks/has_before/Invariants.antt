use Rattle.std.proofs.Common.{◌≡◌, ◌<◌, ℕ, false}
use Rattle.tree_nodes.specs.Marks.{before_at}
use Rattle.tree_nodes.proofs.marks.has_before.Given as goal

abbrev pub invariant-loop-place : goal.invariant-loop-place
invariant-loop-place l = (i : ℕ) → i < l.place → before_at l.since l.names l.nodes i ≡ false
