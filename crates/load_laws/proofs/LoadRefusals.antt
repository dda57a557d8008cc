-- What refuses a call of a load is a refusal.
use Rattle.std.proofs.Common.{◌≡◌, ℕ, Bool, true, false, cond, List, Option, None, Some, refl, ap, sym, ◌∙◌}
use Rattle.std.specs.Option.{is_some}
use Rattle.std.specs.Prelude.{nat_le, nat_lt, length}
use Rattle.je_order.specs.declared.txn_id.TxnId.{TxnId}
use Rattle.store_model.specs.declared.store.TheConstants.{LAST_TXN, MOST_DATABASES}
use Rattle.store_model.specs.declared.kind.Kind.{Kind}
use Rattle.store_model.specs.declared.kind.Kind.TheVariants.{Plain, Dup}
use Rattle.store_model.specs.declared.put_mode.PutMode.{PutMode}
use Rattle.store_model.specs.declared.put_mode.PutMode.TheVariants.{Overwrite, NoOverwrite, NoDupData}
use Rattle.store_model.specs.declared.isolation.Isolation.TheVariants.{RepeatableRead}
use Rattle.store_model.specs.declared.durability.Durability.TheVariants.{Sync}
use Rattle.store_model.specs.declared.call.Call.{Call}
use Rattle.store_model.specs.declared.call.Call.TheVariants.{Abort, Begin, Commit, Create, Put}
use Rattle.store_model.specs.declared.answer.Answer.{Answer}
use Rattle.store_model.specs.declared.answer.Answer.TheVariants.{DatabaseInUse, DiskFault, IdsEnded, LogFull, NameTaken, NoDatabase, TooMany}
use Rattle.store_model.specs.declared.answer.Fault.{Fault}
use Rattle.store_model.specs.declared.index.Index.{Index}
use Rattle.store_model.specs.Refusals.{access_refusal, creation_refusal, database_refuses, index_refusal, kind_refusal, or_refusal, pair_refusal, too_long}
use Rattle.store_model.specs.Store.{database_of}
use Rattle.je_answers.specs.declared.active.Active.{Active}
use Rattle.je_answers.specs.Standing.{Standing, active_of}
use Rattle.je_answers.specs.Views.{Target, named_target}
use Rattle.je_answers.specs.Refusals.{abort_refusal, early_refusal, fault_refusal, late_refusal, number_refusal, target_refusal, txn_refusal, victim_refusal, waits_refusal}
use Rattle.je_answers.specs.Alone.{Alone, alone}
use Rattle.je_answers.specs.After.{fate_of}
use Rattle.je_answers.specs.After.Fate.{Succeeds}
use Rattle.load_laws.specs.Given.{is_refusal}

-- what refuses, where anything does, is a refusal
abbrev pub IsRefusing : Bool → Option Answer → Type 0
IsRefusing kept None = Unit {0}
IsRefusing kept (Some refusal) = is_refusal kept refusal ≡ true

or_refusing : (kept : Bool) (first second : Option Answer) → IsRefusing kept first → IsRefusing kept second → IsRefusing kept (or_refusal first second)
or_refusing kept None second a b = b
or_refusing kept (Some refusal) second a b = a

if_refusing : (kept b : Bool) (refusal : Answer) → is_refusal kept refusal ≡ true → IsRefusing kept (cond b (Some refusal) None)
if_refusing kept true refusal is = is
if_refusing kept false refusal is = tt

unless_refusing : (kept b : Bool) (refusal : Answer) → is_refusal kept refusal ≡ true → IsRefusing kept (cond b None (Some refusal))
unless_refusing kept true refusal is = tt
unless_refusing kept false refusal is = is

-- ---- before a call has a number

fault_refusing : (kept : Bool) (fault : Option Fault) → IsRefusing kept (fault_refusal fault)
fault_refusing kept None = tt
fault_refusing kept (Some first) = refl

waits_refusing : (kept : Bool) (st : Standing) (active : Option Active) → IsRefusing kept (waits_refusal st active)
waits_refusing kept st None = tt
waits_refusing kept st (Some a) = if_refusing kept (is_some (st.locks.pending a.txn)) _ refl

victim_refusing : (kept : Bool) (call : Call) (cycle : Option (List TxnId)) → IsRefusing kept (victim_refusal call cycle)
victim_refusing kept call None = tt
victim_refusing kept Abort (Some cycle) = tt
victim_refusing kept call (Some cycle) = refl

abort_refusing : (kept : Bool) (call : Call) (active : Option Active) → IsRefusing kept (abort_refusal call active)
abort_refusing kept call None = tt
abort_refusing kept call (Some a) = victim_refusing kept call a.deadlock

pub before_refusing : (kept : Bool) (st : Standing) (session : ℕ) (call : Call) → IsRefusing kept (txn_refusal call (active_of session st.actives)) → IsRefusing kept (early_refusal st session call)
before_refusing kept st session call txn =
    let active = active_of session st.actives in
    or_refusing kept (fault_refusal st.fault) (or_refusal (waits_refusal st active) (or_refusal (abort_refusal call active) (txn_refusal call active))) (fault_refusing kept st.fault)
    (or_refusing kept (waits_refusal st active) (or_refusal (abort_refusal call active) (txn_refusal call active)) (waits_refusing kept st active)
    (or_refusing kept (abort_refusal call active) (txn_refusal call active) (abort_refusing kept call active) txn))

put_txn : (kept : Bool) (db key value : List ℕ) (mode : PutMode) (active : Option Active) → IsRefusing kept (txn_refusal (Put db key value mode) active)
put_txn kept db key value mode None = tt
put_txn kept db key value mode (Some a) = tt

commit_txn : (kept : Bool) (active : Option Active) → IsRefusing kept (txn_refusal Commit active)
commit_txn kept None = refl
commit_txn kept (Some a) = tt

pub put_early_refusing : (kept : Bool) (st : Standing) (db key value : List ℕ) (mode : PutMode) → IsRefusing kept (early_refusal st 1 (Put db key value mode))
put_early_refusing kept st db key value mode = before_refusing kept st 1 (Put db key value mode) (put_txn kept db key value mode (active_of 1 st.actives))

pub commit_early_refusing : (kept : Bool) (st : Standing) → IsRefusing kept (early_refusal st 1 Commit)
commit_early_refusing kept st = before_refusing kept st 1 Commit (commit_txn kept (active_of 1 st.actives))

-- ---- behind that

pub number_refusing : (kept : Bool) (last : ℕ) (active : Option Active) → IsRefusing kept (number_refusal last active)
number_refusing kept last None = unless_refusing kept (nat_lt last LAST_TXN) IdsEnded refl
number_refusing kept last (Some a) = tt

index_refusing : (kept : Bool) (db key value : List ℕ) (mode : PutMode) (index : Option Index) → IsRefusing kept (index_refusal (Put db key value mode) index)
index_refusing kept db key value mode None = tt
index_refusing kept db key value mode (Some i) = refl

kind_refusing : (kept : Bool) (db key value : List ℕ) (mode : PutMode) (kind : Kind) → IsRefusing kept (kind_refusal (Put db key value mode) kind)
kind_refusing kept db key value NoDupData Plain = refl
kind_refusing kept db key value NoDupData Dup = tt
kind_refusing kept db key value Overwrite Plain = tt
kind_refusing kept db key value Overwrite Dup = tt
kind_refusing kept db key value NoOverwrite Plain = tt
kind_refusing kept db key value NoOverwrite Dup = tt

long_refusing : (kept : Bool) (limit : ℕ) (bytes : List ℕ) → IsRefusing kept (too_long limit bytes)
long_refusing kept limit bytes = if_refusing kept (nat_lt limit (length bytes)) _ refl

target_refusing : (kept : Bool) (db key value : List ℕ) (mode : PutMode) (target : Option Target) → IsRefusing kept (target_refusal (Put db key value mode) target)
target_refusing kept db key value mode None = tt
target_refusing kept db key value mode (Some g) =
    let kind = g.database.kind in
    or_refusing kept (index_refusal (Put db key value mode) g.database.index) (database_refuses kind (Put db key value mode)) (index_refusing kept db key value mode g.database.index)
    (or_refusing kept (kind_refusal (Put db key value mode) kind) (pair_refusal kind key value) (kind_refusing kept db key value mode kind)
    (or_refusing kept (too_long _ key) (too_long _ value) (long_refusing kept _ key) (long_refusing kept _ value)))

pub put_late_refusing : (kept : Bool) (st : Standing) (db key value : List ℕ) (mode : PutMode) → IsRefusing kept (late_refusal st 1 (Put db key value mode))
put_late_refusing kept st db key value mode =
    let call : Call = Put db key value mode in
    let there = access_refusal (is_some (database_of db st.store)) in
    let rest = target_refusal call (named_target st db) in
    or_refusing kept (number_refusal st.last_txn (active_of 1 st.actives)) (or_refusal there (or_refusal None rest)) (number_refusing kept st.last_txn (active_of 1 st.actives))
    (or_refusing kept there (or_refusal None rest) (unless_refusing kept (is_some (database_of db st.store)) NoDatabase refl) (target_refusing kept db key value mode (named_target st db)))

pub commit_late_refusing : (kept : Bool) (st : Standing) → IsRefusing kept (late_refusal st 1 Commit)
commit_late_refusing kept st =
    let rest : Option Answer = None in
    or_refusing kept (number_refusal st.last_txn (active_of 1 st.actives)) rest (number_refusing kept st.last_txn (active_of 1 st.actives)) tt

creation_refusing : (kept taken many : Bool) → IsRefusing kept (cond taken (Some NameTaken) (cond many (Some (TooMany MOST_DATABASES)) None))
creation_refusing kept true many = refl
creation_refusing kept false true = refl
creation_refusing kept false false = tt

-- the call that makes the database, and the beginning, where nothing is under way
pub create_early_refusing : (kept : Bool) (p : Alone) (db : List ℕ) (kind : Kind) → IsRefusing kept (early_refusal (alone p) 1 (Create db kind))
create_early_refusing kept p db kind = before_refusing kept (alone p) 1 (Create db kind) tt

pub create_late_refusing : (kept : Bool) (p : Alone) (db : List ℕ) (kind : Kind) → IsRefusing kept (late_refusal (alone p) 1 (Create db kind))
create_late_refusing kept p db kind =
    let taken = is_some (database_of db p.store) in
    let creation = creation_refusal taken (length p.store.databases) in
    or_refusing kept (number_refusal p.last_txn None) (or_refusal creation None) (number_refusing kept p.last_txn None)
    (or_refusing kept creation None (creation_refusing kept taken (nat_le MOST_DATABASES (length p.store.databases))) tt)

pub begin_early_refusing : (kept : Bool) (p : Alone) → IsRefusing kept (early_refusal (alone p) 1 (Begin RepeatableRead Sync true))
begin_early_refusing kept p = before_refusing kept (alone p) 1 (Begin RepeatableRead Sync true) tt

pub begin_late_refusing : (kept : Bool) (p : Alone) → IsRefusing kept (late_refusal (alone p) 1 (Begin RepeatableRead Sync true))
begin_late_refusing kept p = or_refusing kept (number_refusal p.last_txn None) None (number_refusing kept p.last_txn None) tt

-- ---- what is not refused

or_none : (first second : Option Answer) → or_refusal first second ≡ None → (first ≡ None) × (second ≡ None)
or_none None second none = (refl, none)
or_none (Some refusal) second none = cc

no_index_by : (db key value : List ℕ) (mode : PutMode) (index : Option Index) → index_refusal (Put db key value mode) index ≡ None → index ≡ None
no_index_by db key value mode None none = refl
no_index_by db key value mode (Some i) none = cc

-- a put that its database does not refuse is on no index
pub put_no_index : (st : Standing) (db key value : List ℕ) (mode : PutMode) (g : Target) → named_target st db ≡ Some g → late_refusal st 1 (Put db key value mode) ≡ None → g.database.index ≡ None
put_no_index st db key value mode g is none =
    let call : Call = Put db key value mode in
    let there = access_refusal (is_some (database_of db st.store)) in
    let rest = target_refusal call (named_target st db) in
    let last = (or_none there (or_refusal None rest) (or_none (number_refusal st.last_txn (active_of 1 st.actives)) (or_refusal there (or_refusal None rest)) none).1).1 in
    no_index_by db key value mode g.database.index (or_none (index_refusal call g.database.index) (database_refuses g.database.kind call) (ap (target_refusal call) (sym is) ∙ last)).0

-- an answer that is none succeeds
pub succeeds : (kept : Bool) (answer : Answer) → is_refusal kept answer ≡ false → fate_of answer ≡ Succeeds
succeeds kept (DatabaseInUse txn) not_refused = cc
succeeds kept LogFull not_refused = cc
succeeds kept IdsEnded not_refused = cc
succeeds kept DiskFault not_refused = cc
succeeds kept answer not_refused = refl
