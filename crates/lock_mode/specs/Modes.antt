-- The two tables of lock types (this project's own), and their laws.
use Rattle.std.specs.Prelude.{◌≡◌, Bool, true, false, ◌||◌}
use Rattle.lock_mode.specs.declared.lock_type.LockType.{LockType}
use Rattle.lock_mode.specs.declared.lock_type.LockType.TheVariants.{Read, Write, RangeRead, RangeWrite, RangeInsert}

-- whether a request must wait for another owner: the held type first, then the asked one
abbrev pub conflicts_with : LockType → LockType → Bool
conflicts_with Read Read = false
conflicts_with Read Write = true
conflicts_with Read RangeRead = false
conflicts_with Read RangeWrite = true
conflicts_with Read RangeInsert = false
conflicts_with Write Read = true
conflicts_with Write Write = true
conflicts_with Write RangeRead = true
conflicts_with Write RangeWrite = true
conflicts_with Write RangeInsert = false
conflicts_with RangeRead Read = false
conflicts_with RangeRead Write = true
conflicts_with RangeRead RangeRead = false
conflicts_with RangeRead RangeWrite = true
conflicts_with RangeRead RangeInsert = true
conflicts_with RangeWrite asked = true
conflicts_with RangeInsert asked = false

-- what an owner holds after it was granted more: the held type first, then the asked one
abbrev pub upgraded : LockType → LockType → LockType
upgraded Read Read = Read
upgraded Read Write = Write
upgraded Read RangeRead = RangeRead
upgraded Read RangeWrite = RangeWrite
upgraded Read RangeInsert = Read
upgraded Write Read = Write
upgraded Write Write = Write
upgraded Write RangeRead = RangeWrite
upgraded Write RangeWrite = RangeWrite
upgraded Write RangeInsert = Write
upgraded RangeRead Read = RangeRead
upgraded RangeRead Write = RangeWrite
upgraded RangeRead RangeRead = RangeRead
upgraded RangeRead RangeWrite = RangeWrite
upgraded RangeRead RangeInsert = RangeRead
upgraded RangeWrite asked = RangeWrite
upgraded RangeInsert asked = asked

-- whether a type can be held
abbrev pub can_be_held : LockType → Bool
can_be_held Read = true
can_be_held Write = true
can_be_held RangeRead = true
can_be_held RangeWrite = true
can_be_held RangeInsert = false

-- the laws that a lock table lives by
pub record ObeysLaws : Type 0 where
  -- an owner's upgrade conflicts with what the older type or the asked one conflicted with, and with no more
  pub joins : (held asked later : LockType) → conflicts_with (upgraded held asked) later ≡ (conflicts_with held later || conflicts_with asked later)
  -- two types that can be held conflict either way round or not at all
  pub symmetric : (a b : LockType) → can_be_held a ≡ true → can_be_held b ≡ true → conflicts_with a b ≡ conflicts_with b a
  -- an upgrade of a held type can be held
  pub held : (held asked : LockType) → can_be_held held ≡ true → can_be_held (upgraded held asked) ≡ true
  -- asking for the same again changes nothing
  pub again : (held asked : LockType) → upgraded (upgraded held asked) asked ≡ upgraded held asked
  -- the order of two upgrades does not matter
  pub either_order : (a b : LockType) → can_be_held a ≡ true → can_be_held b ≡ true → upgraded a b ≡ upgraded b a
