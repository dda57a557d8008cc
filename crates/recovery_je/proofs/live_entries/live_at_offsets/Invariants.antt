use Rattle.std.proofs.Common.{◌≡◌, ◌+◌, List, drop, sum_by}
use Rattle.std.specs.List.{AllByRecursion}
use Rattle.log_entry.specs.Body.{IsEntry}
use Rattle.log_trees.specs.Placed.{Placed}
use Rattle.file_use.specs.Live.{is_one_of, live_size}
use Rattle.recovery_je.specs.LogRead.{AreStanding}
use Rattle.recovery_je.specs.Using.{is_stored_from}
use Rattle.recovery_je.proofs.live_entries.live_at_offsets.Given as goal

-- the entries that are left, and what they add
abbrev pub invariant-loop-at : goal.invariant-loop-at
invariant-loop-at g l =
    (es : List Placed) → AreStanding l.number.0 l.bytes l.offsets es → AllByRecursion (λ (p : Placed). IsEntry p.1) es → record {
      left : List Placed;
      standing : AreStanding l.number.0 l.bytes (drop l.at-index l.offsets) left;
      each : AllByRecursion (λ (p : Placed). IsEntry p.1) left;
      sum : l.live + sum_by (live_size (is_stored_from (g.T.Loads.stored l.trees)) (is_one_of l.images.keys)) left
          ≡ sum_by (live_size (is_stored_from (g.T.Loads.stored l.trees)) (is_one_of l.images.keys)) es;
    }
