-- Entries with the LSNs at which they stand, as the files of a log have them.
pub use Rattle.log_file.specs.Placed.{Placed, placed_from, placed, entry_at, AreInOrder}
