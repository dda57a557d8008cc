-- When the log may have no room, and when no number of a node may be left.
use Rattle.std.specs.Prelude.{ℕ, ◌≡◌, ◌<◌, ◌≤◌, ◌+◌, ◌*◌, ◌⊎◌, List, [], ◌∷◌, Option, None, Some, nat_lt, if◌then◌else◌, length}
use Rattle.je_lsn.specs.Naming.{last_file}
use Rattle.store_model.specs.declared.answer.Answer.{Answer}
use Rattle.store_model.specs.declared.answer.Answer.TheVariants.{LogFull, IdsEnded}
use Rattle.store_model.specs.declared.change.Change.{Change}
use Rattle.store_model.specs.declared.event.Event.{Event}
use Rattle.je_answers.specs.Standing.{Standing}
use Rattle.je_answers.specs.After.{after_event}
use Rattle.je_answers.specs.Journal.{changes_by}
use Rattle.record_tree.specs.Logged.{most_entries}
use Rattle.record_tree.specs.declared.tree_err.TreeErr.{TreeErr}
use Rattle.record_tree.specs.declared.tree_err.TreeErr.TheVariants.{Full}

-- how many changes of records changes are logged as at most: two each, for a renamed database
abbrev pub most_changed : List Change → ℕ
most_changed changes = length changes * 2

-- how many entries they are logged as at most, with their Commit, besides images of nodes that waited for them
abbrev pub most_logged : List Change → ℕ
most_logged [] = 0
most_logged (change ∷ changes) = most_entries (most_changed (change ∷ changes)) + 1

-- how many node numbers so many changes of records may allocate: each one for a node that is split at each of 64 levels, one for the root above
-- them, and one for the root of a database
abbrev pub numbers_for : ℕ → ℕ
numbers_for changes = changes * 66

-- how many nodes wait at most for their images once a log was read of which so many entries count: for each entry two for each number that its
-- change may allocate, and as many for the catalog
abbrev pub waiting_for : ℕ → ℕ
waiting_for entries = numbers_for (entries + 1) * 2

-- the greatest number of a node
abbrev pub last_number : ℕ
last_number = 0x7fffffffffffffff

-- how far a log and its trees reach: the file in which the log ends, with one more for each node that waits for its image, and a number that no
-- node's is above
pub record Reach : Type 0 where
  pub file : ℕ
  pub node : ℕ

-- how far they may reach after changes
abbrev pub reach_after : Reach → List Change → Reach
reach_after reach changes = record { file = reach.file + most_logged changes; node = reach.node + numbers_for (most_changed changes) }

-- one reaches no farther than another
pub record IsWithin (reach other : Reach) : Type 0 where
  pub file : reach.file ≤ other.file
  pub node : reach.node ≤ other.node

-- The limit of what would reach so far: none; or no room, where its entries, with the images that wait, may pass the last file, were each in a file
-- of its own; or no number, where those that it may allocate pass the last one.
abbrev pub IsBoundedBy : Reach → Option Answer → Type 0
IsBoundedBy after limit =
    (limit ≡ None)
    ⊎ ((limit ≡ Some LogFull) × (last_file < after.file))
    ⊎ ((limit ≡ Some IdsEnded) × (last_number < after.node))

-- the limit that changes meet, where a log and its trees reach so far
abbrev pub IsBounded : Reach → List Change → Option Answer → Type 0
IsBounded reach changes limit = IsBoundedBy (reach_after reach changes) limit

-- the limits of events, one after another, where a log and its trees reach so far before them
abbrev pub AreBounded : Reach → Standing → List Event → List (Option Answer) → Type 0
AreBounded reach st (event ∷ events) (limit ∷ limits) =
    IsBounded reach (changes_by st event) limit × AreBounded (reach_after reach (changes_by st event)) (after_event st event) events limits
AreBounded reach st events limits = Unit {0}

-- ---- exactly

-- the limit that so many changes of records meet, where the trees find this one: no room; else no number, where those that they may allocate pass
-- the last one
abbrev pub limit_by : Option TreeErr → ℕ → ℕ → Option Answer
limit_by (Some Full) node changes = Some LogFull
limit_by found node changes = if nat_lt last_number (node + numbers_for changes) then Some IdsEnded else None
