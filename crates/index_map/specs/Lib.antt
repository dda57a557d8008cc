-- The indexes of an environment, as its catalog makes them.
pub mod Made
-- A map that has them.
pub mod Map
-- They are those of the store, by its databases' numbers.
pub mod Laws
