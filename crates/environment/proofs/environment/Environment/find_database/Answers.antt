use Rattle.std.proofs.Common.{◌≡◌, ◌∙◌, ap, sym}
use Rattle.std.specs.Option.{is_some}
use Rattle.log_replay.specs.Rows.{catalog_index, catalog_kind, catalog_number}
use Rattle.environment.specs.Databases.{rows_held}
use Rattle.environment.proofs.FoundDatabases.{known_there, none_there}
use Rattle.environment.proofs.environment.Environment.find_database.Goals as goal

pub returns-in-Some : goal.returns-in-Some
returns-in-Some g c = λ most st at none.
    let makes = (at.at.valid none).makes in
    let f = c.found_by.ensures in
    known_there (rows_held c.args.self.now) c.args.name.now st.store makes.environment makes.store c.in-Some.held.now c.found_by.result c.in-Some.ensures
    (f.number ∙ ap catalog_number c.as_slice.ensures) (f.kind ∙ ap catalog_kind c.as_slice.ensures) (f.index ∙ ap (λ l. is_some (catalog_index l)) c.as_slice.ensures)

pub returns-in-None : goal.returns-in-None
returns-in-None g c = λ most st at none.
    let makes = (at.at.valid none).makes in
    none_there (rows_held c.args.self.now) c.args.name.now st.store makes.environment makes.store c.in-None.ensures
