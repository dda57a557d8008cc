-- A dump as the lines of a script that load it (this project's own).
use Rattle.std.specs.Prelude.{ℕ, ◌∷◌, ◌++◌, [], map, List, Bool, true, false}
use Rattle.dump_text.specs.declared.dump.Dump.{Dump}
use Rattle.dump_text.specs.declared.dump_pair.DumpPair.{DumpPair}
use Rattle.store_model.specs.declared.kind.Kind.{Kind}
use Rattle.store_model.specs.declared.kind.Kind.TheVariants.{Plain, Dup}
use Rattle.store_model.specs.declared.put_mode.PutMode.{PutMode}
use Rattle.store_model.specs.declared.put_mode.PutMode.TheVariants.{Overwrite, NoOverwrite, NoDupData}
use Rattle.store_model.specs.declared.isolation.Isolation.TheVariants.{RepeatableRead}
use Rattle.store_model.specs.declared.durability.Durability.TheVariants.{Sync}
use Rattle.store_model.specs.declared.call.Call.TheVariants.{Begin, Commit, Create, Put}
use Rattle.store_model.specs.declared.plan.ScriptLine.{ScriptLine}
use Rattle.store_model.specs.declared.plan.ScriptLine.TheVariants.{Session}

-- the kind of the database that a dump is of, by whether it says that there are sorted duplicates
abbrev pub kind_of_dump : Bool → Kind
kind_of_dump true = Dup
kind_of_dump false = Plain

-- how the pairs are put: over what is there; or, where that is to stay, only where the key has no record, and with sorted duplicates only where the
-- pair is not there
abbrev pub load_mode : Bool → Bool → PutMode
load_mode false dup = Overwrite
load_mode true false = NoOverwrite
load_mode true true = NoDupData

-- the line that makes the database, where one is to be made
abbrev pub create_lines : Bool → List ℕ → Kind → List ScriptLine
create_lines true db kind = Session 1 0 (Create db kind) ∷ []
create_lines false db kind = []

-- the line that begins the transaction of a load: at repeatable read, synced, waiting
abbrev pub begin_line : ScriptLine
begin_line = Session 1 0 (Begin RepeatableRead Sync true)

-- the line that commits it
abbrev pub commit_line : ScriptLine
commit_line = Session 1 0 Commit

-- the line that puts a pair has the number of its key's line
abbrev pub put_line : List ℕ → PutMode → DumpPair → ScriptLine
put_line db mode pair = Session 1 pair.line (Put db pair.key pair.value mode)

-- the lines that load pairs: the database is made where it is to be made; then all pairs are put in one transaction
abbrev pub pair_lines : Bool → List ℕ → Kind → PutMode → List DumpPair → List ScriptLine
pair_lines make db kind mode pairs = create_lines make db kind ++ begin_line ∷ map (put_line db mode) pairs ++ commit_line ∷ []

-- the lines that load a dump into the database of that name
abbrev pub load_lines : Bool → List ℕ → Bool → Dump → List ScriptLine
load_lines make db no_overwrite dump = pair_lines make db (kind_of_dump dump.dup) (load_mode no_overwrite dump.dup) dump.pairs
