use Rattle.std.proofs.Common.{◌≡◌, ◌≤◌, length, take}
use Rattle.script_text.specs.Report.{begun_after, none_begun}
use Rattle.script_text.proofs.waiting.begun_by.Given as goal

-- none of the events from `left` on begins the session's transaction
abbrev pub invariant-loop-left : goal.invariant-loop-left
invariant-loop-left l =
    (l.left ≤ length l.events) × (begun_after none_begun (take l.left l.events) l.session ≡ begun_after none_begun l.events l.session)

abbrev pub decreases-loop-left : goal.decreases-loop-left
decreases-loop-left l = l.left
