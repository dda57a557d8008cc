use Rattle.std.proofs.Common.{◌≡◌, ◌≤◌, length, take}
use Rattle.script_text.specs.Report.{changed_after, none_changed}
use Rattle.script_text.proofs.counting.changed_by.Given as goal

-- none of the events from `left` on begins the session's transaction, or changed something in it
abbrev pub invariant-loop-left : goal.invariant-loop-left
invariant-loop-left l =
    (l.left ≤ length l.events) × (changed_after none_changed (take l.left l.events) l.session ≡ changed_after none_changed l.events l.session)

abbrev pub decreases-loop-left : goal.decreases-loop-left
decreases-loop-left l = l.left
