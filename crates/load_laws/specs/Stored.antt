-- What a load stores.
use Rattle.std.specs.Prelude.{ℕ, ◌≡◌, ◌⊎◌, ◌∷◌, [], List, Some, None, Bool, false}
use Rattle.std.specs.List.{list_any}
use Rattle.dump_text.specs.declared.dump.Dump.{Dump}
use Rattle.dump_text.specs.declared.dump_pair.DumpPair.{DumpPair}
use Rattle.store_model.specs.declared.kind.Kind.{Kind}
use Rattle.store_model.specs.declared.put_mode.PutMode.{PutMode}
use Rattle.store_model.specs.declared.call.Call.TheVariants.{Put}
use Rattle.store_model.specs.declared.event.Event.{Event}
use Rattle.store_model.specs.declared.store.Store.{Store}
use Rattle.store_model.specs.declared.store.Database.{Database}
use Rattle.store_model.specs.Records.{evaluation}
use Rattle.store_model.specs.Store.{Pair, IsStore, all_pairs_changed, database_of, store_after, with_pairs}
use Rattle.je_answers.specs.Numbers.{HaveNumbers}
use Rattle.je_answers.specs.Standing.{Standing}
use Rattle.je_answers.specs.After.{after_events}
use Rattle.je_answers.specs.Journal.{attempts_of, lines_of}
use Rattle.load_run.specs.Lines.{kind_of_dump, load_lines, load_mode}
use Rattle.load_laws.specs.Given.{is_refused}
use Rattle.load_laws.specs.Images.{IsLoadOf, made_store}

-- the records of a database of that kind once a pair was put among them
abbrev pub put_among : List ℕ → Kind → PutMode → DumpPair → List Pair → List Pair
put_among db kind mode pair pairs = all_pairs_changed kind (evaluation kind (Put db pair.key pair.value mode) None pairs).changes pairs

-- and once pairs were put, one after another
abbrev pub pairs_loaded : List ℕ → Kind → PutMode → List DumpPair → List Pair → List Pair
pairs_loaded db kind mode [] pairs = pairs
pairs_loaded db kind mode (pair ∷ dumped) pairs = pairs_loaded db kind mode dumped (put_among db kind mode pair pairs)

-- A load of which all lines were given. Before it the store was right, and each of its databases had a number of its own.
pub record IsWholeLoad (make : Bool) (db : List ℕ) (kept : Bool) (dump : Dump) (st : Standing) (journal : List Event) : Type 0 where
  pub load : IsLoadOf make db kept dump st journal
  pub lines : lines_of journal ≡ load_lines make db kept dump
  pub right : IsStore st.store
  pub have : HaveNumbers st.store st.last_db st.numbers

-- a database of a store has the pairs of a dump put among the records that it had
abbrev pub HasDumpedPairs : List ℕ → Bool → Dump → Database → Store → Type 0
HasDumpedPairs db kept dump d store = database_of db store ≡ Some (with_pairs d (pairs_loaded db d.kind (load_mode kept dump.dup) dump.pairs d.pairs))

-- Where no call was refused, the commit too, the store has the pairs in the end. What the load attempts is all of them, or none where it did not commit.
pub record StoresPairs (make : Bool) (db : List ℕ) (kept : Bool) (dump : Dump) (st : Standing) (journal : List Event) (d : Database) : Type 0 where
  pub final : list_any (is_refused kept) journal ≡ false → HasDumpedPairs db kept dump d (after_events st journal).store
  pub attempted : (store_after st.store (attempts_of st journal) ≡ made_store make db (kind_of_dump dump.dup) st.store) ⊎ HasDumpedPairs db kept dump d (store_after st.store (attempts_of st journal))

-- so does each load of which all lines were given, with the database that it made or found
abbrev pub LoadsStoreTheirPairs : Type 0
LoadsStoreTheirPairs = (make : Bool) (db : List ℕ) (kept : Bool) (dump : Dump) (st : Standing) (journal : List Event) (d : Database) → IsWholeLoad make db kept dump st journal →
    database_of db (made_store make db (kind_of_dump dump.dup) st.store) ≡ Some d → StoresPairs make db kept dump st journal d
