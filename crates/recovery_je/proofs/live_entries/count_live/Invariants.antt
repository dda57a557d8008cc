use Rattle.std.proofs.Common.{◌≡◌, ◌++◌, drop}
use Rattle.file_use.specs.Live.{is_one_of}
use Rattle.recovery_je.specs.Using.{is_stored_from, uses_by}
use Rattle.recovery_je.proofs.live_entries.count_live.Given as goal

-- the use of those so far, and of those that are left
abbrev pub invariant-loop-file : goal.invariant-loop-file
invariant-loop-file g l =
    l.uses ++ uses_by (is_stored_from (g.T.Loads.stored l.trees)) (is_one_of l.images.keys) l.entries (drop l.file-index l.lens)
    ≡ uses_by (is_stored_from (g.T.Loads.stored l.trees)) (is_one_of l.images.keys) l.entries l.lens
