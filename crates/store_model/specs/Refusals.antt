-- Refusals of a call, and the numbers that changes allocate (Getting Started with Transaction Processing; the order of refusals is this project's own).
use Rattle.std.specs.Prelude.{ℕ, ◌+◌, ◌∷◌, [], List, Option, None, Some, Bool, true, false, ◌&&◌, nat_lt, nat_le, length, if◌then◌else◌}
use Rattle.std.specs.Option.{is_none}
use Rattle.je_order.specs.declared.limits.TheConstants.{KEY_LIMIT, VALUE_LIMIT}
use Rattle.store_model.specs.declared.store.TheConstants.{MOST_DATABASES, LAST_TXN, DUP_LIMIT}
use Rattle.store_model.specs.declared.store.Database.{Database}
use Rattle.store_model.specs.declared.index.Index.{Index}
use Rattle.store_model.specs.declared.kind.Kind.{Kind}
use Rattle.store_model.specs.declared.kind.Kind.TheVariants.{Plain, Dup}
use Rattle.store_model.specs.declared.put_mode.PutMode.TheVariants.{NoDupData}
use Rattle.store_model.specs.declared.motion.Motion.{Motion}
use Rattle.store_model.specs.declared.motion.Motion.TheVariants.{Key, Range, Both, BothRange}
use Rattle.store_model.specs.declared.call.Call.{Call}
use Rattle.store_model.specs.declared.call.Call.TheVariants.{Get, GetBoth, Put, Delete, Cur, CPutCur, CPut}
use Rattle.store_model.specs.declared.change.Change.{Change}
use Rattle.store_model.specs.declared.change.Change.TheVariants.{Set, Unset, Make, MakeIndex, Remove, Rename, Empty}
use Rattle.store_model.specs.declared.answer.Answer.{Answer}
use Rattle.store_model.specs.declared.answer.Answer.TheVariants.{NoDatabase, NameTaken, HasIndex, TooMany, ReadOnlyIndex, NotOnDuplicates, OnlyOnDuplicates, TooLong}

-- the number allocated next stays at the last one
abbrev pub next_txn : ℕ → ℕ
next_txn last = if nat_lt last LAST_TXN then last + 1 else last

-- how many database numbers changes allocate: one for each database that is made, and one for each that is emptied, which goes on under a
-- new number
abbrev pub made_by : List Change → ℕ
made_by [] = 0
made_by (Set db at value ∷ changes) = made_by changes
made_by (Unset db at ∷ changes) = made_by changes
made_by (Make db kind ∷ changes) = made_by changes + 1
made_by (MakeIndex db index ∷ changes) = made_by changes + 1
made_by (Remove db ∷ changes) = made_by changes
made_by (Rename db to ∷ changes) = made_by changes
made_by (Empty db ∷ changes) = made_by changes + 1

-- the first of two refusals
abbrev pub or_refusal : Option Answer → Option Answer → Option Answer
or_refusal None second = second
or_refusal (Some refusal) second = Some refusal

-- the refusals that the catalog gives, before evaluation
abbrev pub creation_refusal : Bool → ℕ → Option Answer
creation_refusal taken count =
    if taken then Some NameTaken else if nat_le MOST_DATABASES count then Some (TooMany MOST_DATABASES) else None

-- the database is not there
abbrev pub access_refusal : Bool → Option Answer
access_refusal there = if there then None else Some NoDatabase

-- the name is taken
abbrev pub taken_refusal : Bool → Option Answer
taken_refusal taken = if taken then Some NameTaken else None

-- a database that has indexes stays
abbrev pub indexed_refusal : Bool → Option Answer
indexed_refusal indexed = if indexed then Some HasIndex else None

-- an index is of a plain database that is no index
abbrev pub is_plain : Kind → Bool
is_plain Plain = true
is_plain Dup = false

-- whether an index may be made of a database: it is there, plain and no index
abbrev pub is_primary : Option Database → Bool
is_primary None = false
is_primary (Some d) = is_plain d.kind && is_none d.index

-- the refusal of a key past its limit, else of data past its limit
abbrev pub too_long : ℕ → List ℕ → Option Answer
too_long limit bytes = if nat_lt limit (length bytes) then Some (TooLong (length bytes)) else None

-- the call is none for an index
abbrev pub index_refusal : Call → Option Index → Option Answer
index_refusal (Put db key value mode) (Some index) = Some ReadOnlyIndex
index_refusal (CPutCur cursor value) (Some index) = Some ReadOnlyIndex
index_refusal (CPut cursor key value mode) (Some index) = Some ReadOnlyIndex
index_refusal call index = None

-- the call is none for a database of its kind
abbrev pub kind_refusal : Call → Kind → Option Answer
kind_refusal (CPutCur cursor value) Dup = Some NotOnDuplicates
kind_refusal (Put db key value NoDupData) Plain = Some OnlyOnDuplicates
kind_refusal (CPut cursor key value NoDupData) Plain = Some OnlyOnDuplicates
kind_refusal call kind = None

-- a key or data past its limit
abbrev pub data_limit : Kind → ℕ
data_limit Plain = VALUE_LIMIT
data_limit Dup = DUP_LIMIT

-- a key, or data, past its limit in a database of that kind
abbrev pub pair_refusal : Kind → List ℕ → List ℕ → Option Answer
pair_refusal kind key value = or_refusal (too_long KEY_LIMIT key) (too_long (data_limit kind) value)

-- what a motion brings is past its limit
abbrev pub motion_refusal : Motion → Kind → Option Answer
motion_refusal (Key key) kind = too_long KEY_LIMIT key
motion_refusal (Range key) kind = too_long KEY_LIMIT key
motion_refusal (Both key value) kind = pair_refusal kind key value
motion_refusal (BothRange key value) kind = pair_refusal kind key value
motion_refusal motion kind = None

-- what a call brings is past its limit
abbrev pub size_refusal : Call → Kind → Option Answer
size_refusal (Get db key rmw) kind = too_long KEY_LIMIT key
size_refusal (GetBoth db key value rmw) kind = pair_refusal kind key value
size_refusal (Put db key value mode) kind = pair_refusal kind key value
size_refusal (Delete db key) kind = too_long KEY_LIMIT key
size_refusal (Cur cursor motion rmw) kind = motion_refusal motion kind
size_refusal (CPutCur cursor value) kind = too_long (data_limit kind) value
size_refusal (CPut cursor key value mode) kind = pair_refusal kind key value
size_refusal call kind = None

-- what a database of that kind refuses of a call on its records
abbrev pub database_refuses : Kind → Call → Option Answer
database_refuses kind call = or_refusal (kind_refusal call kind) (size_refusal call kind)
