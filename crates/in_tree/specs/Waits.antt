-- How many nodes wait to be logged.
use Rattle.std.specs.Prelude.{◌+◌, ◌^◌, ℕ, zero, suc}
use Rattle.db_tree.specs.Splits.{count_waiting}
use Rattle.in_tree.specs.Forest.{Forest}
use Rattle.in_tree.specs.Shapes.{Shapes, shapes_of}

-- how many do in the databases below a number
unfoldable pub waits_below : Shapes → ℕ → ℕ
waits_below shapes zero = 0
waits_below shapes (suc n) = count_waiting (shapes n) + waits_below shapes n

-- and in all databases
abbrev pub waits_in : Forest → ℕ
waits_in forest = waits_below (shapes_of forest) (2 ^ 32)
