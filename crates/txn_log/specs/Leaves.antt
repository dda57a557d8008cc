-- What changes of trees leave of an environment's records.
use Rattle.std.specs.Prelude.{ℕ, ◌≡◌, ◌<◌, ◌≤◌, Bool, true, false, List, []}
use Rattle.std.specs.List.{AllByRecursion}
use Rattle.je_order.specs.declared.name.Name.{Name}
use Rattle.log_replay.specs.Rows.{Rows, IsRising, data_at, is_environment, numbers_of}
use Rattle.record_tree.specs.declared.tree_change.TreeChange.{TreeChange}
use Rattle.record_tree.specs.Logged.{last_change, value_changed}

-- Behind changes the records are those of an environment, whose last database number is this one. Of the databases that go nothing is left, and the
-- catalog does not name them; in all others each name has what its last change has set.
pub record LeavesRecords (rows after : Rows) (last_db later_db : ℕ) (goes : ℕ → Bool) (changes : List TreeChange) : Type 0 where
  pub rising : (d : ℕ) → IsRising (after d)
  pub environment : is_environment after ≡ true
  pub unused : (d : ℕ) → later_db < d → after d ≡ []
  pub numbers : AllByRecursion (λ n. n ≤ later_db) (numbers_of after)
  pub grows : last_db ≤ later_db
  pub data_is : (d : ℕ) (x : Name) → goes d ≡ false → data_at x (after d) ≡ value_changed (last_change d x changes) (data_at x (rows d))
  pub within : (d : ℕ) → goes d ≡ true → d ≤ last_db
  pub zero_stays : goes 0 ≡ false
  pub unnamed : AllByRecursion (λ n. goes n ≡ false) (numbers_of after)
  -- each number that the catalog has was there before, or is a later one
  pub named : (test : ℕ → Bool) → ((d : ℕ) → last_db < d → test d ≡ true) → AllByRecursion (λ n. test n ≡ true) (numbers_of rows) → AllByRecursion (λ n. test n ≡ true) (numbers_of after)
