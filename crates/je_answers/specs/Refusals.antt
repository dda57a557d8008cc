-- The order in which a call is refused before it is evaluated (this project's own).
use Rattle.std.specs.Prelude.{ℕ, List, Option, None, Some, nat_lt, length, if◌then◌else◌}
use Rattle.std.specs.Option.{is_some}
use Rattle.std.specs.List.{list_any}
use Rattle.je_order.specs.declared.txn_id.TxnId.{TxnId}
use Rattle.store_model.specs.declared.store.TheConstants.{LAST_TXN}
use Rattle.store_model.specs.declared.call.Call.{Call}
use Rattle.store_model.specs.declared.call.Call.TheVariants.{Begin, Commit, Abort, Create, CreateIndex, Remove, Rename, Truncate, Get, GetBoth, Put, Delete, Open, Close, Dup as Duplicate, Count, Cur, CPutCur, CDel, CPut}
use Rattle.store_model.specs.declared.place.Place.{Place}
use Rattle.store_model.specs.declared.answer.Answer.{Answer}
use Rattle.store_model.specs.declared.answer.Answer.TheVariants.{MustAbort, SessionWaits, NoTxn, InTxn, NoCursor, IdsEnded, Invalid}
use Rattle.store_model.specs.declared.answer.Fault.{Fault}
use Rattle.store_model.specs.Store.{database_of}
use Rattle.store_model.specs.Refusals.{or_refusal, creation_refusal, access_refusal, taken_refusal, indexed_refusal, is_primary, index_refusal, database_refuses}
use Rattle.store_model.specs.Indexes.{is_index_of}
use Rattle.je_answers.specs.declared.active.Active.{Active}
use Rattle.je_answers.specs.Standing.{Standing, active_of, place_at}
use Rattle.je_answers.specs.Views.{Target, target_of}

-- ---- the refusals that allocate no transaction number

-- after a fault every call is Invalid
abbrev pub fault_refusal : Option Fault → Option Answer
fault_refusal None = None
fault_refusal (Some first) = Some (Invalid first)

-- an earlier call of the session waits
abbrev pub waits_refusal : Standing → Option Active → Option Answer
waits_refusal st None = None
waits_refusal st (Some a) = if is_some (st.locks.pending a.txn) then Some SessionWaits else None

-- a victim can only abort
abbrev pub victim_refusal : Call → Option (List TxnId) → Option Answer
victim_refusal call None = None
victim_refusal Abort (Some cycle) = None
victim_refusal call (Some cycle) = Some (MustAbort cycle)

-- every call but an abort of a victim's transaction is answered mustabort
abbrev pub abort_refusal : Call → Option Active → Option Answer
abort_refusal call None = None
abort_refusal call (Some a) = victim_refusal call a.deadlock

-- calls that are only made inside a transaction, or only outside
abbrev pub txn_refusal : Call → Option Active → Option Answer
txn_refusal (Begin level durability wait) (Some a) = Some (InTxn a.txn)
txn_refusal (Create db kind) (Some a) = Some (InTxn a.txn)
txn_refusal (CreateIndex db index) (Some a) = Some (InTxn a.txn)
txn_refusal (Remove db) (Some a) = Some (InTxn a.txn)
txn_refusal (Rename db to) (Some a) = Some (InTxn a.txn)
txn_refusal (Truncate db) (Some a) = Some (InTxn a.txn)
txn_refusal Commit None = Some NoTxn
txn_refusal Abort None = Some NoTxn
txn_refusal (Open cursor db) None = Some NoTxn
txn_refusal call active = None

-- the refusals that come before a call has a transaction number, in their order
abbrev pub early_refusal : Standing → ℕ → Call → Option Answer
early_refusal st session call =
    let active = active_of session st.actives in
    or_refusal (fault_refusal st.fault) (or_refusal (waits_refusal st active) (or_refusal (abort_refusal call active) (txn_refusal call active)))

-- ---- the refusals behind those

-- a call outside a transaction is one of its own, and wants a number
abbrev pub number_refusal : ℕ → Option Active → Option Answer
number_refusal last None = if nat_lt last LAST_TXN then None else Some IdsEnded
number_refusal last (Some a) = None

-- the database or the cursor is not there
abbrev pub database_refusal : Standing → List ℕ → Option Answer
database_refusal st db = access_refusal (is_some (database_of db st.store))

-- a cursor that is not open is answered nocursor
abbrev pub cursor_refusal : ℕ → List Place → Option Answer
cursor_refusal cursor places = if is_some (place_at cursor places) then None else Some NoCursor

-- what a call names is not there: its database, an index's primary, or its cursor
abbrev pub there_refusal : Standing → ℕ → Call → Option Answer
there_refusal st session (CreateIndex db index) = access_refusal (is_primary (database_of index.primary st.store))
there_refusal st session (Remove db) = database_refusal st db
there_refusal st session (Rename db to) = database_refusal st db
there_refusal st session (Truncate db) = database_refusal st db
there_refusal st session (Get db key rmw) = database_refusal st db
there_refusal st session (GetBoth db key value rmw) = database_refusal st db
there_refusal st session (Put db key value mode) = database_refusal st db
there_refusal st session (Delete db key) = database_refusal st db
there_refusal st session (Open cursor db) = database_refusal st db
there_refusal st session (Close cursor) = cursor_refusal cursor (st.places session)
there_refusal st session (Duplicate cursor to) = cursor_refusal cursor (st.places session)
there_refusal st session (Count cursor) = cursor_refusal cursor (st.places session)
there_refusal st session (Cur cursor motion rmw) = cursor_refusal cursor (st.places session)
there_refusal st session (CPutCur cursor value) = cursor_refusal cursor (st.places session)
there_refusal st session (CDel cursor) = cursor_refusal cursor (st.places session)
there_refusal st session (CPut cursor key value mode) = cursor_refusal cursor (st.places session)
there_refusal st session call = None

-- a name or a cursor's number is taken, the database has indexes, or there are too many databases
abbrev pub name_refusal : Standing → ℕ → Call → Option Answer
name_refusal st session (Create db kind) = creation_refusal (is_some (database_of db st.store)) (length st.store.databases)
name_refusal st session (CreateIndex db index) = creation_refusal (is_some (database_of db st.store)) (length st.store.databases)
name_refusal st session (Remove db) = indexed_refusal (list_any (is_index_of db) st.store.databases)
name_refusal st session (Truncate db) = indexed_refusal (list_any (is_index_of db) st.store.databases)
name_refusal st session (Rename db to) = taken_refusal (is_some (database_of to st.store))
name_refusal st session (Open cursor db) = taken_refusal (is_some (place_at cursor (st.places session)))
name_refusal st session (Duplicate cursor to) = taken_refusal (is_some (place_at to (st.places session)))
name_refusal st session call = None

-- what its database refuses
abbrev pub target_refusal : Call → Option Target → Option Answer
target_refusal call None = None
target_refusal call (Some g) = or_refusal (index_refusal call g.database.index) (database_refuses g.database.kind call)

-- no number is left; then the database or the cursor is not there; then its name is taken; then what its database refuses
abbrev pub late_refusal : Standing → ℕ → Call → Option Answer
late_refusal st session call =
    or_refusal (number_refusal st.last_txn (active_of session st.actives)) (
    or_refusal (there_refusal st session call) (or_refusal (name_refusal st session call) (target_refusal call (target_of st session call)))
    )
