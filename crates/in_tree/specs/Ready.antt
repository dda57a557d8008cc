-- Changes that are ready to be logged.
use Rattle.std.specs.Prelude.{◌≡◌, ◌≤◌, ◌+◌, ◌*◌, ◌||◌, ◌++◌, ℕ, List, length}
use Rattle.std.specs.List.{AllByRecursion}
use Rattle.record_tree.specs.declared.tree_change.TreeChange.{TreeChange}
use Rattle.record_tree.specs.Logged.{is_made}
use Rattle.db_tree.specs.declared.slot_room.SlotRoom.{SlotRoom}
use Rattle.in_tree.specs.declared.logged_trees.LogTrees.{LogTrees}
use Rattle.record_tree.specs.Occupied.{AreFewNew}
use Rattle.log_trees.specs.Placed.{Placed}
use Rattle.tree_images.specs.Forest.{ForestDue, ForestFits}
use Rattle.in_tree.specs.Forest.{cells_seen, is_there, HasOne}
use Rattle.in_tree.specs.Growing.{trees_at}
use Rattle.in_tree.specs.Limits.{commit_sizes, HasRoomFor}
use Rattle.in_tree.specs.Placing.{placed_sizes, count_images, AreLoggable, due_of}
use Rattle.in_tree.specs.Waits.{waits_in}

module _ {D : Type 0} where
  -- the names of changes have their slots, databases that they make have their trees, and the log has room
  pub record IsReady (old new : LogTrees D) (changes : List TreeChange) (rooms : List SlotRoom) (owed : ℕ) : Type 0 where
    pub made : (d : ℕ) → is_there new.trees.forest d ≡ (is_made d changes || is_there old.trees.forest d)
    pub there : AllByRecursion (λ c. HasOne new.trees.forest c.db c.name) changes
    pub loggable : AreLoggable rooms
    pub paired : length rooms ≡ length changes
    pub room : HasRoomFor new.log (placed_sizes changes rooms ++ commit_sizes owed)
    pub fits : (es : List Placed) (base : ℕ) → AreFewNew (cells_seen old.trees.forest) changes → ForestFits es base old.trees.last_node (trees_at old.trees.forest) →
        ForestDue es base new.trees.last_node (trees_at new.trees.forest) (due_of changes rooms)
    pub few : count_images rooms + waits_in new.trees.forest ≤ waits_in old.trees.forest + 129 * length changes
