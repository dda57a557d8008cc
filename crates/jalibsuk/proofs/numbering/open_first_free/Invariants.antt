use Rattle.std.proofs.Common.{◌-◌, ℕ, Result}
use Rattle.environment.specs.declared.environment.Environment.{Environment}
use Rattle.jalibsuk.specs.declared.error.Error.{Error}
use Rattle.jalibsuk.specs.Usable.{IsUsable}
use Rattle.jalibsuk.specs.Named.{name_of_handle}
use Rattle.jalibsuk.specs.Cursors.{Opens}
use Rattle.jalibsuk.proofs.numbering.open_first_free.Given as goal

-- what comes of the numbers that are left comes of all of them
abbrev pub invariant-loop-number : goal.invariant-loop-number
invariant-loop-number g l =
    IsUsable g.D.Disk.meaning l.environment
    × ((after : Environment g.row.D.Denot) (result : Result ℕ Error) → Opens g.D.Disk.meaning (9 - l.number) l.number l.environment after l.session (name_of_handle l.handle l.names) result
    → Opens g.D.Disk.meaning 8 1 l.fn.environment after l.session (name_of_handle l.handle l.names) result)
