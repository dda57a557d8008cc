-- Names of databases, by their numbers.
use Rattle.std.specs.Prelude.{ℕ, ◌≡◌, ◌==◌, ◌++◌, List, find, map, option_to_list}
use Rattle.std.specs.Option.{option_map_or}
use Rattle.store_model.specs.declared.kind.Kind.{Kind}
use Rattle.store_model.specs.declared.need.Need.{Need}
use Rattle.store_model.specs.declared.lock_target.LockTarget.{LockTarget}
use Rattle.store_model.specs.Indexes.{Numbered}
use Rattle.je_answers.specs.Views.{Target}
use Rattle.sessions.specs.declared.named_db.NamedDb.{NamedDb}

-- a database's number, with its name and its kind
abbrev pub Known : Type 0
Known = ℕ × (List ℕ × Kind)

abbrev pub known : NamedDb → Known
known d = (d.number, (d.name, d.kind))

abbrev pub known_in : Numbered → Known
known_in d = (d.0, (d.1.name, d.1.kind))

-- these are the databases of a target beside its own: the primary of an index, and the indexes of a primary
abbrev pub AreOthersOf : List NamedDb → Target → Type 0
AreOthersOf others g = map known others ≡ map known_in (option_to_list g.over ++ g.indexes)

-- the name and the kind of a number: those of one of these, or of the call's own
abbrev pub named_by : List NamedDb → ℕ → List ℕ × Kind → List ℕ × Kind
named_by others number own = option_map_or (λ d. (d.name, d.kind)) (find (λ d. d.number == number) others) own

-- what is waited for
abbrev pub target_by : List NamedDb → List ℕ × Kind → Need → LockTarget
target_by others own need = let d = named_by others need.db own in record { db = d.0; kind = d.1; at = need.at }
