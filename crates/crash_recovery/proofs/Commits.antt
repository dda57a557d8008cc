-- How many transactions the first entries of a log commit.
use Rattle.std.proofs.Common.{◌≡◌, ℕ, ◌+◌, ◌≤◌, List, drop, length, sym, ap, subst, ◌∙◌, arith}
use Rattle.std.proofs.lemmas.List.{take-append-le, length-map}
use Rattle.std.specs.List.{count_by}
use Rattle.log_file.specs.Log.{Log, entries_of}
use Rattle.log_file.proofs.PlacedLaws.{placed_are_entries}
use Rattle.log_buffer.specs.Laws.{placed_by}
use Rattle.log_buffer.proofs.GrowthLaws.{appended_are_placed}
use Rattle.log_buffer.proofs.LogSplits.{count_part}
use Rattle.log_trees.specs.Placed.{Placed, placed}
use Rattle.log_meaning.specs.Recovery.{is_commit, commits_in}
use Rattle.crash_recovery.specs.Laws.{KeptAreWithin, CommitsStay, AllAreCommitted}

as_many : (log : Log) → length (entries_of log) ≡ length (placed log)
as_many log = ap length (sym (placed_are_entries log)) ∙ length-map (placed log) (λ (p : Placed). p.1)

pub kept_are_within : KeptAreWithin
kept_are_within log removed least crash_states k =
    let enough : least ≤ length (entries_of k.before) + length k.kept = k.at_least in
    let part : length (entries_of k.before) + length k.kept ≤ length (entries_of log) = count_part k.before k.at k.kept k.more k.after log k.log_is in
    omega (arith, enough, part)

pub commits_stay : CommitsStay
commits_stay log end last file_max entries base least is ends within =
    ap (commits_in base least) (appended_are_placed log end last file_max entries is ends)
    ∙ ap (λ (l : List Placed). count_by (λ (p : Placed). is_commit p.1) (drop base l))
    (take-append-le least (placed log) (placed_by file_max end entries) (subst (λ (n : ℕ). least ≤ n) (as_many log) within))

pub all_are_committed : AllAreCommitted
all_are_committed first opening base transactions log is =
    (subst (λ (n : ℕ). base ≤ n) (sym (as_many log)) is.recovers.within, ap (λ (n : ℕ). commits_in base n (placed log)) (as_many log) ∙ is.recovers.all)
