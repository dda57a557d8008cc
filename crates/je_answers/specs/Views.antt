-- What a call is on, and what its transaction sees there.
use Rattle.std.specs.Prelude.{ℕ, ◌≡◌, ◌==◌, ◌++◌, ◌∷◌, [], List, Option, None, Some, filter, find, map, unwrap_or, option_to_list, if◌then◌else◌}
use Rattle.std.specs.List.{flat_map}
use Rattle.std.specs.Option.{option_map}
use Rattle.std.specs.Ordering.{is_lt, is_gt}
use Rattle.je_order.specs.Order.{name_cmp}
use Rattle.je_order.specs.declared.name.Name.{Name}
use Rattle.store_model.specs.declared.store.Database.{Database}
use Rattle.store_model.specs.declared.store.Store.{Store}
use Rattle.store_model.specs.declared.isolation.Isolation.{Isolation}
use Rattle.store_model.specs.declared.isolation.Isolation.TheVariants.{ReadUncommitted}
use Rattle.store_model.specs.declared.call.Call.{Call}
use Rattle.store_model.specs.declared.call.Call.TheVariants.{Get, GetBoth, Put, Delete, Count, Cur, CPutCur, CDel, CPut}
use Rattle.store_model.specs.declared.change.Change.{Change}
use Rattle.store_model.specs.declared.record_change.RecordChange.{RecordChange}
use Rattle.store_model.specs.declared.place.Place.{Place}
use Rattle.store_model.specs.declared.need.Need.{Need}
use Rattle.store_model.specs.declared.answer.Answer.{Answer}
use Rattle.store_model.specs.Store.{Pair, name_of, database_of, all_pairs_changed, change_in}
use Rattle.store_model.specs.Records.{Evaluated, evaluation}
use Rattle.store_model.specs.Indexes.{Numbered, primary_of, indexes_of, records_name, all_changes, answer_through}
use Rattle.store_model.specs.Needs.{changed_name, needs_through}
use Rattle.je_answers.specs.declared.active.Active.{Active}
use Rattle.je_answers.specs.Standing.{Standing, place_at, database_at}

-- ---- what a call is on

-- a database with its number, and where a cursor stands in it; the primary that it is an index of, if it is one; and the indexes of its records
pub record Target : Type 0 where
  pub db : ℕ
  pub database : Database
  pub at : Option Name
  pub over : Option Numbered
  pub indexes : List Numbered

-- what a call on records is on: the database and its number, where the cursor stands, its primary if it is an index, and the indexes of its records
abbrev pub target : (List ℕ → ℕ) → Store → ℕ → Option Name → Database → Target
target numbers store number at d = record {
  db = number;
  database = d;
  at = at;
  over = primary_of numbers store d.index;
  indexes = indexes_of numbers store (records_name d);
}

-- a database that is no index and has none
pub record IsPlain (g : Target) : Type 0 where
  pub index : g.database.index ≡ None
  pub over : g.over ≡ None
  pub indexes : g.indexes ≡ []

-- the database of a name, and that of a cursor
abbrev pub named_target : Standing → List ℕ → Option Target
named_target st db = option_map (target st.numbers st.store (st.numbers db) None) (database_of db st.store)

-- the same of the database that a cursor is on
abbrev pub target_at : Standing → Option Place → Option Target
target_at st None = None
target_at st (Some place) = option_map (target st.numbers st.store place.db place.at) (database_at place.db st)

-- the same of a session's cursor, by its number
abbrev pub cursor_target : Standing → ℕ → ℕ → Option Target
cursor_target st session cursor = target_at st (place_at cursor (st.places session))

-- what a session's call is on; calls that are on no records have none
abbrev pub target_of : Standing → ℕ → Call → Option Target
target_of st session (Get db key rmw) = named_target st db
target_of st session (GetBoth db key value rmw) = named_target st db
target_of st session (Put db key value mode) = named_target st db
target_of st session (Delete db key) = named_target st db
target_of st session (Count cursor) = cursor_target st session cursor
target_of st session (Cur cursor motion rmw) = cursor_target st session cursor
target_of st session (CPutCur cursor value) = cursor_target st session cursor
target_of st session (CDel cursor) = cursor_target st session cursor
target_of st session (CPut cursor key value mode) = cursor_target st session cursor
target_of st session call = None

-- ---- what a transaction sees

-- the changes in one database
abbrev pub of_db : ℕ → List (ℕ × RecordChange) → List RecordChange
of_db number [] = []
of_db number (c ∷ cs) = if c.0 == number then c.1 ∷ of_db number cs else of_db number cs

-- those of all transactions under way
abbrev pub all_own : Standing → List (ℕ × RecordChange)
all_own st = flat_map (λ a. st.own a.txn.0) st.actives

-- those that a transaction sees: its own, and at read uncommitted those of all
abbrev pub seen_changes : Isolation → Standing → ℕ → List (ℕ × RecordChange)
seen_changes ReadUncommitted st txn = all_own st
seen_changes level st txn = st.own txn

-- the records of a database as a transaction sees them
abbrev pub view_in : Standing → Active → Numbered → List Pair
view_in st a d = all_pairs_changed d.1.kind (of_db d.0 (seen_changes a.level st a.txn.0)) d.1.pairs

-- the records of a call's database as its transaction sees them
abbrev pub view_of : Standing → Active → Target → List Pair
view_of st a g = view_in st a (g.db, g.database)

-- own changes, as changes of the store
abbrev pub changes_in : Option Database → RecordChange → List Change
changes_in None change = []
changes_in (Some d) change = change_in d.name change ∷ []

-- a transaction's own changes, as changes of the store
abbrev pub changes_named : Standing → List (ℕ × RecordChange) → List Change
changes_named st own = flat_map (λ c. changes_in (database_at c.0 st) c.1) own

-- the changes of a call, with those in indexes that come with them: each with its database, with that one's number, and as a change of the store
abbrev pub changes_with : Standing → Active → Target → List RecordChange → List (Numbered × RecordChange)
changes_with st a g changes = all_changes g.over (g.db, g.database) g.indexes (view_in st a) changes

-- changes with their databases' numbers
abbrev pub with_numbers : List (Numbered × RecordChange) → List (ℕ × RecordChange)
with_numbers changes = map (λ c. (c.0.0, c.1)) changes

-- changes as those of the store, which name their databases
abbrev pub with_names : List (Numbered × RecordChange) → List Change
with_names changes = map (λ c. change_in c.0.1.name c.1) changes

-- the changes of one database, as changes of the store, and with its number
abbrev pub changes_on : Target → List RecordChange → List Change
changes_on g changes = map (λ c. change_in g.database.name c) changes

abbrev pub changes_at : ℕ → List RecordChange → List (ℕ × RecordChange)
changes_at number changes = map (λ c. (number, c)) changes

-- ---- occupied names

-- rising names, with one more among them
abbrev pub names_with : Name → List Name → List Name
names_with n names = filter (λ m. is_lt (name_cmp m n)) names ++ n ∷ filter (λ m. is_gt (name_cmp m n)) names

-- rising names, with those that changes write among them
abbrev pub names_with_all : List RecordChange → List Name → List Name
names_with_all [] names = names
names_with_all (change ∷ changes) names = names_with_all changes (names_with (changed_name change) names)

-- the occupied names of a database, rising: those that have a record, or that a transaction under way wrote
abbrev pub occupied_in : Standing → Numbered → List Name
occupied_in st d = names_with_all (of_db d.0 (all_own st)) (map (name_of d.1.kind) d.1.pairs)

abbrev pub occupied : Standing → Target → List Name
occupied st g = occupied_in st (g.db, g.database)

-- ---- what a call comes to

-- the same outcome with another answer
abbrev pub answered_with : Answer → Evaluated → Evaluated
answered_with answer evaluated = record evaluated { answer = answer }

-- in its database, by evaluation; an index answers with the primary's record
abbrev pub outcome_of : Standing → Active → Call → Target → Evaluated
outcome_of st a call g =
    let evaluated = evaluation g.database.kind call g.at (view_of st a g) in
    answered_with (answer_through g.over (view_in st a) evaluated.answer) evaluated

-- the locks that a call needs, in order, on what its transaction sees and on the occupied names
abbrev pub needs_in : Standing → Active → Call → Target → List Need
needs_in st a call g = needs_through a.level g.over (g.db, g.database) g.indexes (view_in st a) (occupied_in st) call g.at

-- the database of a need: the one that the call is on, its primary or an index
abbrev pub database_among : Target → ℕ → Database
database_among g number = unwrap_or (option_map (λ d. d.1) (find (λ d. d.0 == number) (option_to_list g.over ++ g.indexes))) g.database
