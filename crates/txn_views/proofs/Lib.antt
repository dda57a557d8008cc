-- Searches among the cells that a transaction sees, and walks over them.
pub mod SeenLaws
-- The last own change of a name among own changes.
pub mod OwnLaws
-- What a transaction's end, and a database that goes, leave of the changes that names have.
pub mod EndLaws
-- What a transaction's changes leave of the changes that names have.
pub mod WriteLaws
-- What is seen in cells is what the model says.
pub mod ViewLaws
-- The changes of a call are right where the records that it sees are.
pub mod RightLaws
-- What plans through indexes come to.
pub mod TargetLaws
-- A plan is what its call comes to in a standing.
pub mod PlanLaws
