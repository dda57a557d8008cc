-- The laws of the two tables.
use Rattle.std.proofs.Common.{rules}
use Rattle.lock_mode.specs.Modes.{ObeysLaws}

pub laws : ObeysLaws
laws = search rules
