use Rattle.std.proofs.Common.{◌≡◌, ◌≤◌, ◌<◌, ℕ, false}
use Rattle.tree_nodes.specs.Marks.{IsMarkOrAt, is_marked_before, mark_at}
use Rattle.tree_nodes.proofs.marks.least_mark.Given as goal

abbrev pub invariant-loop-place : goal.invariant-loop-place
invariant-loop-place l = (l.least ≤ l.fn.bound) × ((i : ℕ) → i < l.place → is_marked_before (mark_at l.names l.nodes i) l.least ≡ false) × IsMarkOrAt l.fn.bound l.names l.nodes l.least
