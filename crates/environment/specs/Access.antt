-- A call on the records of a database, among transactions.
use Rattle.std.specs.Prelude.{ℕ, ◌≡◌, ◌≢◌, ◌≤◌, ◌⊎◌, ◌==◌, ◌∷◌, [], Bool, true, false, List, Option, None, Some, IfSome, IsSome, Result, Ok, Err, is_some}
use Rattle.std.specs.List.{AllByRecursion}
use Rattle.store_model.specs.declared.answer.Answer.{Answer}
use Rattle.store_model.specs.declared.answer.Answer.TheVariants.{ReadOnlyIndex}
use Rattle.store_model.specs.declared.call.Call.TheVariants.{Put, CPutCur, CPut}
use Rattle.index_map.specs.Made.{Made, primary_in}
use Rattle.store_model.specs.declared.call.Call.{Call}
use Rattle.store_model.specs.declared.record_change.RecordChange.{RecordChange}
use Rattle.store_model.specs.Store.{database_of}
use Rattle.je_answers.specs.declared.active.Active.{Active}
use Rattle.je_answers.specs.Standing.{Standing, active_of, database_at}
use Rattle.je_answers.specs.Views.{Target, changes_with, needs_in, outcome_of, target_of, with_numbers}
use Rattle.je_answers.specs.Refusals.{late_refusal}
use Rattle.je_order.specs.declared.name.Name.{Name}
use Rattle.je_order.specs.declared.limits.TheConstants.{KEY_LIMIT}
use Rattle.store_model.specs.declared.extract.Extract.{Extract}
use Rattle.store_model.specs.declared.extract.Extract.TheVariants.{ByteSlice, Field}
use Rattle.store_model.specs.declared.index.Index.{Index}
use Rattle.store_model.specs.declared.kind.Kind.TheVariants.{Plain, Dup}
use Rattle.store_model.specs.Indexes.{Numbered, changed_database, indexes_of, primary_of, records_name}
use Rattle.store_model.specs.declared.place.Place.{Place}
use Rattle.db_catalog.specs.declared.found_db.FoundDb.{FoundDb}
use Rattle.engine.proofs.CalmAnswers.{IsCalm}
use Rattle.std.specs.declared.alloc.AllocError.{AllocError}
use Rattle.je_disk.specs.DiskMeaning.{DiskMeaning}
use Rattle.store_model.specs.declared.victim.Victim.{Victim}
use Rattle.store_model.specs.Refusals.{database_refuses, index_refusal, or_refusal}
use Rattle.je_answers.specs.Locking.{first_blocked}
use Rattle.je_answers.specs.Events.{IsTaken}
use Rattle.je_answers.specs.After.{after_taking, moved, moved_to}
use Rattle.je_answers.specs.Journal.{changes_taken}
use Rattle.sessions.specs.AtStanding.{with_places}
use Rattle.sessions.specs.Taking.{HasTaken}
use Rattle.standing_laws.specs.Right.{AreSound, MayWait}
use Rattle.sessions.specs.Names.{AreOthersOf}
use Rattle.txn_views.specs.Targets.{IsPlanIn}
use Rattle.environment.specs.declared.call_plan.CallPlan.{CallPlan}
use Rattle.environment.specs.declared.environment.Environment.{Environment}
use Rattle.environment.specs.declared.outcome.Outcome.{Outcome}
use Rattle.environment.specs.Limits.{owing_with, written_taken}
use Rattle.environment.specs.Steps.{HasNotCome, HasStepped, StandsAt}
use Rattle.environment.specs.declared.late.Late.{Late}
use Rattle.environment.specs.declared.late.Late.TheVariants.{Refused, Found}
use Rattle.environment.specs.declared.late_at.LateAt.{LateAt}
use Rattle.environment.specs.declared.late_at.LateAt.TheVariants.{Refused as RefusedAt, Stands}
use Rattle.environment.specs.declared.moving.Move.{Move}

-- a call that nothing refuses is on this database, which the catalog has under this number, and its cursor, if it has one, stands there
pub record IsFoundFor (st : Standing) (session : ℕ) (call : Call) (db : List ℕ) (found : FoundDb) (at : Option Name) (g : Target) : Type 0 where
  pub late : late_refusal st session call ≡ None
  pub target : target_of st session call ≡ Some g
  pub over : g.over ≡ primary_of st.numbers st.store g.database.index
  pub indexes : g.indexes ≡ indexes_of st.numbers st.store (records_name g.database)
  pub number : g.db ≡ found.number
  pub kind : g.database.kind ≡ found.kind
  pub name : g.database.name ≡ db
  pub stands : g.at ≡ at
  pub is : database_of db st.store ≡ Some g.database
  pub there : database_at g.db st ≡ Some g.database
  pub named : st.numbers g.database.name ≡ g.db
  pub above : g.db ≢ 0

-- the database of a name, which the catalog has under this number
pub record IsOnDb (st : Standing) (db : List ℕ) (found : FoundDb) (g : Target) : Type 0 where
  pub over : g.over ≡ primary_of st.numbers st.store g.database.index
  pub indexes : g.indexes ≡ indexes_of st.numbers st.store (records_name g.database)
  pub number : g.db ≡ found.number
  pub kind : g.database.kind ≡ found.kind
  pub name : g.database.name ≡ db
  pub is : database_of db st.store ≡ Some g.database
  pub there : database_at g.db st ≡ Some g.database
  pub named : st.numbers g.database.name ≡ g.db
  pub above : g.db ≢ 0

-- a database of a standing's store, under its name and its number
pub record IsDbAt (st : Standing) (d : Numbered) : Type 0 where
  pub is : database_of d.1.name st.store ≡ Some d.1
  pub there : database_at d.0 st ≡ Some d.1
  pub named : st.numbers d.1.name ≡ d.0
  pub above : d.0 ≢ 0

-- the keys that an index has are within the limit of keys
abbrev pub HasShortKeys : Extract → Type 0
HasShortKeys (ByteSlice offset len) = len ≤ KEY_LIMIT
HasShortKeys (Field number separator) = Unit {0}

-- the primary of a target that is an index, and an index of a target's records
pub record IsPrimaryAt (st : Standing) (g : Target) (p : Numbered) : Type 0 where
  pub at : IsDbAt st p
  pub kind : p.1.kind ≡ Plain
  pub own : g.database.kind ≡ Dup
  pub index : (i : Index) × (g.database.index ≡ Some i)

pub record IsIndexAt (st : Standing) (i : Numbered) : Type 0 where
  pub at : IsDbAt st i
  pub kind : i.1.kind ≡ Dup
  pub keys : IfSome i.1.index (λ j. HasShortKeys j.extract)

-- databases of different numbers
abbrev pub AreNumbersApart : List Numbered → Type 0
AreNumbersApart [] = Unit {0}
AreNumbersApart (d ∷ ds) = AllByRecursion (λ e. (d.0 == e.0) ≡ false) ds × AreNumbersApart ds

-- the store has the databases of a target: its own, the primary that it is an index of, and the indexes of its records, which are in a plain
-- database where there are some
pub record AreThere (st : Standing) (g : Target) : Type 0 where
  pub own : IsDbAt st (g.db, g.database)
  pub over : IfSome g.over (IsPrimaryAt st g)
  pub indexes : AllByRecursion (IsIndexAt st) g.indexes
  pub apart : AreNumbersApart (changed_database g.over (g.db, g.database) ∷ g.indexes)
  pub plain : ((changed_database g.over (g.db, g.database)).1.kind ≡ Plain) ⊎ (g.indexes ≡ [])

-- what an index refuses of a call, and what a database refuses that was found by its number and kind, where these are the indexes
abbrev pub index_refuses : Call → Bool → Option Answer
index_refuses (Put db key value mode) true = Some ReadOnlyIndex
index_refuses (CPutCur cursor value) true = Some ReadOnlyIndex
index_refuses (CPut cursor key value mode) true = Some ReadOnlyIndex
index_refuses call is_index = None

abbrev pub refuses_in : Made → FoundDb → Call → Option Answer
refuses_in made found call = or_refusal (index_refuses call (is_some (primary_in made found.number))) (database_refuses found.kind call)

-- what refuses a call late, or the database that it is on
abbrev pub IsLate : Standing → ℕ → Call → List ℕ → Late → Type 0
IsLate st session call db (Refused answer) = (late_refusal st session call ≡ Some answer) × IsCalm answer
IsLate st session call db (Found found) = (g : Target) × IsFoundFor st session call db found None g

-- the same of a call at a cursor, which is its transaction's
abbrev pub IsLateAt : Standing → ℕ → Call → LateAt → Type 0
IsLateAt st session call (RefusedAt answer) = (late_refusal st session call ≡ Some answer) × IsCalm answer
IsLateAt st session call (Stands spot) = (g : Target) × IsFoundFor st session call spot.name spot.found spot.at g × IsSome (active_of session st.actives)

-- what a call of a transaction comes to, and the databases in which it may wait beside its own
pub record IsPlannedFor (st : Standing) (a : Active) (call : Call) (g : Target) (p : CallPlan) : Type 0 where
  pub plan : IsPlanIn st a call g p.target
  pub beside : AreOthersOf p.others g

-- the number of the cursor that a call moves
abbrev pub IsCursorOf : Call → Option ℕ → Type 0
IsCursorOf call None = (at : Option Name) (places : List Place) → moved call at places ≡ places
IsCursorOf call (Some cursor) = (at : Option Name) (places : List Place) → moved call at places ≡ moved_to cursor at places

-- a call of a session, whose cursor then stands at that place, moves this cursor or none
abbrev pub Moves : ℕ → Call → Option Name → Option Move → Type 0
Moves session call place None = (places : List Place) → moved call place places ≡ places
Moves session call place (Some m) = (m.session ≡ session) × ((places : List Place) → moved call place places ≡ moved_to m.cursor m.at places)

-- a standing once it has
abbrev pub with_move : Active → Call → Option Name → Standing → Standing
with_move a call place st = with_places a.session (moved call place (st.places a.session)) st

module _ {D : Type 0} where
  -- A call of a transaction, planned as it sees the records, got all the locks that it needs. Nothing else has changed since `before`.
  pub record IsTakenUp (meaning : DiskMeaning D) (most : ℕ) (before e : Environment D) (st : Standing) (session : ℕ) (a : Active) (call : Call) (g : Target)
      (answer : Answer) (changes : List (ℕ × RecordChange)) : Type 0 where
    pub here : StandsAt most meaning before st
    pub sound : AreSound st
    pub valid : st.fault ≡ None
    pub on : AreThere st g
    pub its : active_of session st.actives ≡ Some a
    pub records : MayWait call
    pub plain : database_refuses g.database.kind call ≡ None
    pub writes : index_refusal call g.database.index ≡ None
    pub engine : e.engine ≡ before.engine
    pub written : e.written ≡ before.written
    pub taken : HasTaken e.sessions true a (needs_in st a call g) st
    pub answer_is : answer ≡ (outcome_of st a call g).answer
    pub changes_are : changes ≡ with_numbers (changes_with st a g (outcome_of st a call g).changes)

  module _ (meaning : DiskMeaning D) where
    -- a call of a transaction under way came to this
    abbrev pub HasAccessed : ℕ → Environment D → Environment D → Standing → Active → ℕ → Call → Target → Answer → List Victim → Type 0
    HasAccessed most old new st a line call g answer victims =
        let need = first_blocked a.txn (needs_in st a call g) st.locks.at in
        HasStepped meaning most old new (owing_with (Some a) st) (written_taken need st a call g) (changes_taken need st a call g)
        (λ limit. IsTaken need limit st a line call g answer victims) (after_taking need st st a line call g answer victims) answer

    abbrev pub AccessesTo : ℕ → Environment D → Environment D → Standing → Active → ℕ → Call → Target → Result Outcome AllocError → Type 0
    AccessesTo most old new st a line call g (Ok o) = HasAccessed most old new st a line call g o.answer o.victims
    AccessesTo most old new st a line call g (Err error) = HasNotCome meaning most old new st
