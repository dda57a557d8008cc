-- Of which database a change of the catalog is, and who uses it.
use Rattle.std.specs.Prelude.{ℕ, ◌≡◌, ◌+◌, ◌^◌, List, Option, None, Some, ◌⊎◌, Result, Ok, Bool, true, false, nat_lt, option_map, if◌then◌else◌}
use Rattle.std.specs.Option.{option_map_or}
use Rattle.std.specs.declared.alloc.AllocError.{AllocError}
use Rattle.je_order.specs.declared.txn_id.TxnId.{TxnId}
use Rattle.store_model.specs.declared.call.Call.{Call}
use Rattle.store_model.specs.declared.extract.Extract.{Extract}
use Rattle.store_model.specs.declared.answer.Answer.{Answer}
use Rattle.store_model.specs.declared.answer.Answer.TheVariants.{Logged, DiskFault, ReadOnlyIndex}
use Rattle.store_model.specs.declared.call.Call.TheVariants.{Create, CreateIndex, Remove, Rename, Truncate}
use Rattle.index_map.specs.Made.{Made, with_made}
use Rattle.index_map.specs.Map.{HasIndexes}
use Rattle.db_names.specs.Names.{HasNames, Names, with_name}
use Rattle.engine.specs.declared.kept.Kept.{Kept}
use Rattle.environment.specs.declared.held.Held.{Held}
use Rattle.environment.specs.Valid.{made_at, name_at}
use Rattle.je_answers.specs.Locking.{IsAwaited, IsLeastUser, IsUnused}
use Rattle.je_answers.specs.Standing.{Standing}
use Rattle.je_answers.specs.Alone.{Alone}
use Rattle.txn_core.specs.declared.planned_changes.PlannedChanges.{PlannedChanges}
use Rattle.txn_core.specs.Known.{Known}
use Rattle.txn_core.specs.Planning.{IsPlannedFill, IsPlannedLog, is_index}

-- the number of the database that it removes, renames or empties, or makes an index of
abbrev pub changed_number : (List ℕ → ℕ) → Call → Option ℕ
changed_number numbers (CreateIndex db index) = Some (numbers index.primary)
changed_number numbers (Remove db) = Some (numbers db)
changed_number numbers (Rename db to) = Some (numbers db)
changed_number numbers (Truncate db) = Some (numbers db)
changed_number numbers call = None

-- changes are what it may log: those that make an index and fill it, or others
pub record IsPlannedAs (known : Known) (p : Alone) (session : ℕ) (call : Call) (fills : Bool) (planned : PlannedChanges) : Type 0 where
  pub log : IsPlannedLog known p session call planned
  pub kind : is_index log.change ≡ fills
  pub fill : fills ≡ true → IsPlannedFill planned

-- nobody uses the database that it is of
abbrev pub IsFreeToChange : Standing → Call → Type 0
IsFreeToChange st (CreateIndex db index) = IsUnused st (st.numbers index.primary)
IsFreeToChange st (Remove db) = IsUnused st (st.numbers db)
IsFreeToChange st (Rename db to) = IsUnused st (st.numbers db)
IsFreeToChange st (Truncate db) = IsUnused st (st.numbers db)
IsFreeToChange st call = Unit {0}

-- somebody uses it
abbrev pub IsUsedBy : Standing → Call → TxnId → Type 0
IsUsedBy st (CreateIndex db index) t = IsLeastUser st (st.numbers index.primary) t ⊎ IsAwaited st (st.numbers index.primary) t
IsUsedBy st (Remove db) t = IsLeastUser st (st.numbers db) t ⊎ IsAwaited st (st.numbers db) t
IsUsedBy st (Rename db to) t = IsLeastUser st (st.numbers db) t ⊎ IsAwaited st (st.numbers db) t
IsUsedBy st (Truncate db) t = IsLeastUser st (st.numbers db) t ⊎ IsAwaited st (st.numbers db) t
IsUsedBy st call t = ⊥

-- who uses it, if somebody does
abbrev pub IsUserOf : Standing → Call → Option TxnId → Type 0
IsUserOf st call None = IsFreeToChange st call
IsUserOf st call (Some t) = IsUsedBy st call t

-- an index is not emptied: who uses it is told before, if somebody does
abbrev pub IsUserBefore : Standing → Call → Answer → Option TxnId → Type 0
IsUserBefore st call answer None = answer ≡ ReadOnlyIndex → IsFreeToChange st call
IsUserBefore st call answer (Some t) = (answer ≡ ReadOnlyIndex) × IsUsedBy st call t

-- ---- what is known of databases behind it

-- the names by number once it is logged, where this is the database number allocated last
abbrev pub names_logged : (List ℕ → ℕ) → ℕ → Call → Names → Names
names_logged numbers last_db (Create db kind) names = with_name (last_db + 1) (Some db) names
names_logged numbers last_db (CreateIndex db index) names = with_name (last_db + 1) (Some db) names
names_logged numbers last_db (Remove db) names = with_name (numbers db) None names
names_logged numbers last_db (Rename db to) names = with_name (numbers db) (Some to) names
names_logged numbers last_db (Truncate db) names = with_name (last_db + 1) (Some db) (with_name (numbers db) None names)
names_logged numbers last_db call names = names

-- and the indexes
abbrev pub made_logged : (List ℕ → ℕ) → ℕ → Call → Made → Made
made_logged numbers last_db (CreateIndex db index) made = with_made (last_db + 1) (Some (numbers index.primary, index.extract)) made
made_logged numbers last_db (Remove db) made = with_made (numbers db) None made
made_logged numbers last_db call made = made

-- an environment has these names and these indexes
pub record FollowMaps (names : Names) (made : Made) (kept : Kept) : Type 0 where
  pub indexes_are : HasIndexes made kept.indexes
  pub names_are : HasNames names kept.names

-- what is known follows a change of the catalog that was logged; else it is what it was, until a fault
abbrev pub FollowsCall : Standing → Call → Kept → Result Answer AllocError → Type 0
FollowsCall st call kept (Ok (Logged commit)) =
    FollowMaps (names_logged st.numbers st.last_db call (name_at st.numbers st.store)) (made_logged st.numbers st.last_db call (made_at st.numbers st.store)) kept
FollowsCall st call kept (Ok DiskFault) = Unit {0}
FollowsCall st call kept result = FollowMaps (name_at st.numbers st.store) (made_at st.numbers st.store) kept

-- ---- the memory that it takes, before it is logged

-- the next database number, if there is one
abbrev pub next_db : ℕ → Option ℕ
next_db last_db = if nat_lt (last_db + 1) (2 ^ 32) then Some (last_db + 1) else None

abbrev pub named_next : ℕ → List ℕ → Names → Names
named_next last_db db names = option_map_or (λ n. with_name n (Some db) names) (next_db last_db) names

-- the names once that is taken: a new database has its name already
abbrev pub names_held : ℕ → Call → Names → Names
names_held last_db (Create db kind) names = named_next last_db db names
names_held last_db (CreateIndex db index) names = named_next last_db db names
names_held last_db (Truncate db) names = named_next last_db db names
names_held last_db call names = names

-- and the indexes: a new one is one already, of a primary with this number
abbrev pub indexed_next : ℕ → Option ℕ → Extract → Made → Made
indexed_next last_db primary extract made =
    option_map_or (λ n. option_map_or (λ p. with_made n (Some (p, extract)) made) primary made) (next_db last_db) made

abbrev pub made_held : ℕ → Option ℕ → Call → Made → Made
made_held last_db number (CreateIndex db index) made = indexed_next last_db number index.extract made
made_held last_db number call made = made

-- what is held for it, where its database has this number
abbrev pub IsHeldFor : ℕ → Option ℕ → Call → Held → Type 0
IsHeldFor last_db number (Create db kind) held = held ≡ record { made = next_db last_db; gone = None; renamed = None }
IsHeldFor last_db number (CreateIndex db index) held = held ≡ record { made = next_db last_db; gone = None; renamed = None }
IsHeldFor last_db number (Remove db) held = held ≡ record { made = None; gone = number; renamed = None }
IsHeldFor last_db number (Rename db to) held = held ≡ record { made = None; gone = None; renamed = option_map (λ n. (n, to)) number }
IsHeldFor last_db number (Truncate db) held = held ≡ record { made = next_db last_db; gone = number; renamed = None }
IsHeldFor last_db number call held = held ≡ record { made = None; gone = None; renamed = None }

-- without the database of a number, if one goes, and with another name for one, if it gets one
abbrev pub names_gone : Option ℕ → Names → Names
names_gone gone names = option_map_or (λ n. with_name n None names) gone names

abbrev pub made_gone : Option ℕ → Made → Made
made_gone gone made = option_map_or (λ n. with_made n None made) gone made

abbrev pub names_renamed : Option (ℕ × List ℕ) → Names → Names
names_renamed renamed names = option_map_or (λ r. with_name r.0 (Some r.1) names) renamed names

-- whether changes were logged
abbrev pub is_logged : Result Answer AllocError → Bool
is_logged (Ok (Logged commit)) = true
is_logged result = false
