-- How one record's owners and waits are held in memory.
use Rattle.std.specs.Prelude.{◌+◌, ◌≤◌, List, [], ◌∷◌, vec_len, vec_capacity}
use Rattle.lock_table.specs.declared.lock.Lock.{Lock}
use Rattle.lock_table.specs.declared.held.Held.{Held}
use Rattle.lock_table.specs.declared.held.Held.TheVariants.{Empty, One, Many}

-- the owners and the waits that are held
abbrev pub locks_held : Held → List Lock × List Lock
locks_held Empty = ([], [])
locks_held (One owner) = (owner ∷ [], [])
locks_held (Many owners waits) = (owners.items, waits.items)

-- there is room for each wait among the owners
abbrev pub HasGrantRoom : Held → Type 0
HasGrantRoom Empty = Unit {0}
HasGrantRoom (One owner) = Unit {0}
HasGrantRoom (Many owners waits) = vec_len owners + vec_len waits ≤ vec_capacity owners
