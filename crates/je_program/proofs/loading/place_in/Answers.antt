use Rattle.std.proofs.Common.{ℕ, ap, subst}
use Rattle.store_model.specs.declared.totals.Totals.{Totals}
use Rattle.store_model.specs.Store.{database_of}
use Rattle.environment.specs.Databases.{rows_held}
use Rattle.je_program.specs.Loading.{IsPlaceFor}
use Rattle.je_program.proofs.loading.place_in.Goals as goal

pub returns : goal.returns
returns g c = λ most st at valid.
    let db = database_of c.args.db.now st.store in
    subst (λ (n : ℕ). IsPlaceFor c.args.dump.now.dup c.args.dump.now.dup_line n db c.place_for.result) (ap (λ (t : Totals). t.databases) (c.totals-databases.ensures most st at))
    (c.place_for.ensures (rows_held c.args.environment.now) db (c.find_database-found.ensures most st at valid))
