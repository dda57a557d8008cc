-- The place of a dump's pairs.
use Rattle.std.proofs.Common.{◌≡◌, ◌∙◌, ℕ, Bool, true, false, not, Option, None, Some, refl, ap, sym, subst}
use Rattle.std.specs.Option.{is_some}
use Rattle.store_model.specs.declared.store.Database.{Database}
use Rattle.log_replay.specs.Rows.{Rows}
use Rattle.environment.specs.declared.found_database.FoundDatabase.{FoundDatabase}
use Rattle.environment.specs.Databases.{IsFoundIn, IsKnownAs}
use Rattle.je_program.specs.Commands.{keeps_otherwise, takes_pairs}

-- a database that is no index takes pairs, and is not made; whether it keeps its records otherwise its kind tells
pub place_known : (dup : Bool) (count : ℕ) (rows : Rows) (database : Option Database) (found : Option FoundDatabase) (known : FoundDatabase) (b : Bool) → found ≡ Some known → known.is_index ≡ false →
    ((r : Rows) (d : Database) → IsKnownAs r d known → b ≡ keeps_otherwise dup (Some d)) → IsFoundIn rows database found →
    (takes_pairs count database ≡ true) × (keeps_otherwise dup database ≡ b) × (false ≡ not (is_some database))
place_known dup count rows database found known b is none tells has = by_database database (subst (IsFoundIn rows database) is has)
  where
    by_database : (database : Option Database) → IsFoundIn rows database (Some known) → (takes_pairs count database ≡ true) × (keeps_otherwise dup database ≡ b) × (false ≡ not (is_some database))
    by_database None has = absurd has
    by_database (Some d) has = (ap not (sym has.index ∙ none), sym (tells rows d has), refl)
