-- Which answers evaluation gives, and which it never gives: refusals, waits and limits of the log.
use Rattle.std.proofs.Common.{◌≡◌, ℕ, Bool, true, false, cond, ◌&&◌, ◌||◌, List, Option, None, Some, refl, ap, ◌∙◌, subst, is_some, nat_lt, nat_le, length}
use Rattle.std.specs.List.{list_any}
use Rattle.std.proofs.lemmas.Bool.{both_ways, and_right}
use Rattle.je_order.specs.declared.txn_id.TxnId.{TxnId}
use Rattle.je_order.specs.declared.limits.TheConstants.{KEY_LIMIT}
use Rattle.store_model.specs.declared.store.TheConstants.{LAST_TXN, MOST_DATABASES}
use Rattle.store_model.specs.declared.kind.Kind.{Kind}
use Rattle.store_model.specs.declared.kind.Kind.TheVariants.{Plain, Dup}
use Rattle.store_model.specs.declared.put_mode.PutMode.TheVariants.{NoDupData}
use Rattle.store_model.specs.declared.motion.Motion.{Motion}
use Rattle.store_model.specs.declared.motion.Motion.TheVariants.{Key, Range as InRange, Both, BothRange}
use Rattle.store_model.specs.declared.place.Place.{Place}
use Rattle.store_model.specs.declared.call.Call.{Call}
use Rattle.store_model.specs.declared.call.Call.TheVariants.{Begin, Commit, Abort, Create, CreateIndex, Remove, Rename, Truncate, Get, GetBoth, Put, Delete, Open, Close, Dup as Duplicate, Count as Counts, Cur, CPutCur, CDel, CPut}
use Rattle.store_model.specs.declared.answer.Answer.{Answer}
use Rattle.store_model.specs.declared.answer.Answer.TheVariants.{Done, Rec, IndexRec, Count, NotFound, KeyExist, KeyEmpty, MustAbort, SessionWaits, NoTxn, InTxn, NoDatabase, NoCursor, NameTaken, HasIndex, TooMany, ReadOnlyIndex, NotOnDuplicates, OnlyOnDuplicates, TooLong, LogFull, IdsEnded, Invalid}
use Rattle.store_model.specs.declared.answer.Fault.{Fault}
use Rattle.store_model.specs.declared.index.Index.{Index}
use Rattle.store_model.specs.Store.{database_of}
use Rattle.store_model.specs.Indexes.{is_index_of}
use Rattle.store_model.specs.Refusals.{or_refusal, is_primary, index_refusal, kind_refusal, size_refusal, motion_refusal, pair_refusal, too_long, data_limit}
use Rattle.je_answers.specs.declared.active.Active.{Active}
use Rattle.je_answers.specs.Standing.{Standing, active_of, place_at}
use Rattle.je_answers.specs.Views.{Target, target_of}
use Rattle.je_answers.specs.Refusals.{fault_refusal, waits_refusal, victim_refusal, abort_refusal, txn_refusal, early_refusal, number_refusal, database_refusal, cursor_refusal, there_refusal, name_refusal, target_refusal, late_refusal}
use Rattle.je_answers.specs.Events.{log_limit}
use Rattle.je_answers.specs.After.{fate_of}
use Rattle.je_answers.specs.After.Fate.{Succeeds, IsRefused}
use Rattle.serial_replay.specs.Replay.{is_of_cursors, is_on_records, is_evaluated, is_committed, told_if, told_within, told_of}

-- ---- refusals

-- neither evaluation nor a commit answers this
pub record IsOther (answer : Answer) : Type 0 where
  pub evaluated : is_evaluated answer ≡ false
  pub committed : is_committed answer ≡ false

plainly : (x r : Answer) → is_evaluated x ≡ false → is_committed x ≡ false → Some x ≡ Some r → IsOther r
plainly x r e c h = let k : x ≡ r = cc (h) in record { evaluated = subst (λ (y : Answer). is_evaluated y ≡ false) k e; committed = subst (λ (y : Answer). is_committed y ≡ false) k c }

none_is : (r : Answer) → None ≡ Some r → IsOther r
none_is r h = absurd (cc (h))

either : (a b : Option Answer) (r : Answer) → or_refusal a b ≡ Some r → (a ≡ Some r → IsOther r) → (b ≡ Some r → IsOther r) → IsOther r
either None b r h f g = g h
either (Some x) b r h f g = f h

when : (b : Bool) (x r : Answer) → is_evaluated x ≡ false → is_committed x ≡ false → cond b (Some x) None ≡ Some r → IsOther r
when true x r e c h = plainly x r e c h
when false x r e c h = none_is r h

unless : (b : Bool) (x r : Answer) → is_evaluated x ≡ false → is_committed x ≡ false → cond b None (Some x) ≡ Some r → IsOther r
unless true x r e c h = none_is r h
unless false x r e c h = plainly x r e c h

of_fault : (o : Option Fault) (r : Answer) → fault_refusal o ≡ Some r → IsOther r
of_fault None r h = none_is r h
of_fault (Some first) r h = plainly (Invalid first) r refl refl h

of_waits : (st : Standing) (o : Option Active) (r : Answer) → waits_refusal st o ≡ Some r → IsOther r
of_waits st None r h = none_is r h
of_waits st (Some a) r h = when (is_some (st.locks.pending a.txn)) SessionWaits r refl refl h

of_victim : (call : Call) (o : Option (List TxnId)) (r : Answer) → victim_refusal call o ≡ Some r → IsOther r
of_victim call None r h = none_is r h
of_victim Abort (Some cycle) r h = none_is r h
of_victim call (Some cycle) r h = plainly (MustAbort cycle) r refl refl h

of_abort : (call : Call) (o : Option Active) (r : Answer) → abort_refusal call o ≡ Some r → IsOther r
of_abort call None r h = none_is r h
of_abort call (Some a) r h = of_victim call a.deadlock r h

of_txn : (call : Call) (o : Option Active) (r : Answer) → txn_refusal call o ≡ Some r → IsOther r
of_txn (Begin level durability wait) (Some a) r h = plainly (InTxn a.txn) r refl refl h
of_txn (Create db kind) (Some a) r h = plainly (InTxn a.txn) r refl refl h
of_txn (CreateIndex db index) (Some a) r h = plainly (InTxn a.txn) r refl refl h
of_txn (Remove db) (Some a) r h = plainly (InTxn a.txn) r refl refl h
of_txn (Rename db to) (Some a) r h = plainly (InTxn a.txn) r refl refl h
of_txn (Truncate db) (Some a) r h = plainly (InTxn a.txn) r refl refl h
of_txn Commit None r h = plainly NoTxn r refl refl h
of_txn Abort None r h = plainly NoTxn r refl refl h
of_txn (Open cursor db) None r h = plainly NoTxn r refl refl h
of_txn call o r h = none_is r h

pub early_other : (st : Standing) (session : ℕ) (call : Call) (r : Answer) → early_refusal st session call ≡ Some r → IsOther r
early_other st session call r h =
    let active = active_of session st.actives in
    either (fault_refusal st.fault) (or_refusal (waits_refusal st active) (or_refusal (abort_refusal call active) (txn_refusal call active))) r h (of_fault st.fault r)
    (λ k. either (waits_refusal st active) (or_refusal (abort_refusal call active) (txn_refusal call active)) r k (of_waits st active r)
    (λ m. either (abort_refusal call active) (txn_refusal call active) r m (of_abort call active r) (of_txn call active r)))

of_long : (limit : ℕ) (bytes : List ℕ) (r : Answer) → too_long limit bytes ≡ Some r → IsOther r
of_long limit bytes r h = when (nat_lt limit (length bytes)) (TooLong (length bytes)) r refl refl h

of_pair : (kind : Kind) (key value : List ℕ) (r : Answer) → pair_refusal kind key value ≡ Some r → IsOther r
of_pair kind key value r h = either (too_long KEY_LIMIT key) (too_long (data_limit kind) value) r h (of_long KEY_LIMIT key r) (of_long (data_limit kind) value r)

of_motion : (motion : Motion) (kind : Kind) (r : Answer) → motion_refusal motion kind ≡ Some r → IsOther r
of_motion (Key key) kind r h = of_long KEY_LIMIT key r h
of_motion (InRange key) kind r h = of_long KEY_LIMIT key r h
of_motion (Both key value) kind r h = of_pair kind key value r h
of_motion (BothRange key value) kind r h = of_pair kind key value r h
of_motion motion kind r h = none_is r h

of_kind : (call : Call) (kind : Kind) (r : Answer) → kind_refusal call kind ≡ Some r → IsOther r
of_kind (CPutCur cursor value) Dup r h = plainly NotOnDuplicates r refl refl h
of_kind (Put db key value NoDupData) Plain r h = plainly OnlyOnDuplicates r refl refl h
of_kind (CPut cursor key value NoDupData) Plain r h = plainly OnlyOnDuplicates r refl refl h
of_kind call kind r h = none_is r h

of_size : (call : Call) (kind : Kind) (r : Answer) → size_refusal call kind ≡ Some r → IsOther r
of_size (Get db key rmw) kind r h = of_long KEY_LIMIT key r h
of_size (GetBoth db key value rmw) kind r h = of_pair kind key value r h
of_size (Put db key value mode) kind r h = of_pair kind key value r h
of_size (Delete db key) kind r h = of_long KEY_LIMIT key r h
of_size (Cur cursor motion rmw) kind r h = of_motion motion kind r h
of_size (CPutCur cursor value) kind r h = of_long (data_limit kind) value r h
of_size (CPut cursor key value mode) kind r h = of_pair kind key value r h
of_size call kind r h = none_is r h

of_index : (call : Call) (o : Option Index) (r : Answer) → index_refusal call o ≡ Some r → IsOther r
of_index (Put db key value mode) (Some index) r h = plainly ReadOnlyIndex r refl refl h
of_index (CPutCur cursor value) (Some index) r h = plainly ReadOnlyIndex r refl refl h
of_index (CPut cursor key value mode) (Some index) r h = plainly ReadOnlyIndex r refl refl h
of_index call o r h = none_is r h

of_target : (call : Call) (o : Option Target) (r : Answer) → target_refusal call o ≡ Some r → IsOther r
of_target call None r h = none_is r h
of_target call (Some g) r h =
    either (index_refusal call g.database.index) (or_refusal (kind_refusal call g.database.kind) (size_refusal call g.database.kind)) r h (of_index call g.database.index r)
    (λ k. either (kind_refusal call g.database.kind) (size_refusal call g.database.kind) r k (of_kind call g.database.kind r) (of_size call g.database.kind r))

of_no_database : (st : Standing) (db : List ℕ) (r : Answer) → database_refusal st db ≡ Some r → IsOther r
of_no_database st db r h = unless (is_some (database_of db st.store)) NoDatabase r refl refl h

of_no_cursor : (cursor : ℕ) (places : List Place) (r : Answer) → cursor_refusal cursor places ≡ Some r → IsOther r
of_no_cursor cursor places r h = unless (is_some (place_at cursor places)) NoCursor r refl refl h

of_there : (st : Standing) (session : ℕ) (call : Call) (r : Answer) → there_refusal st session call ≡ Some r → IsOther r
of_there st session (CreateIndex db index) r h = unless (is_primary (database_of index.primary st.store)) NoDatabase r refl refl h
of_there st session (Remove db) r h = of_no_database st db r h
of_there st session (Rename db to) r h = of_no_database st db r h
of_there st session (Truncate db) r h = of_no_database st db r h
of_there st session (Get db key rmw) r h = of_no_database st db r h
of_there st session (GetBoth db key value rmw) r h = of_no_database st db r h
of_there st session (Put db key value mode) r h = of_no_database st db r h
of_there st session (Delete db key) r h = of_no_database st db r h
of_there st session (Open cursor db) r h = of_no_database st db r h
of_there st session (Close cursor) r h = of_no_cursor cursor (st.places session) r h
of_there st session (Duplicate cursor to) r h = of_no_cursor cursor (st.places session) r h
of_there st session (Counts cursor) r h = of_no_cursor cursor (st.places session) r h
of_there st session (Cur cursor motion rmw) r h = of_no_cursor cursor (st.places session) r h
of_there st session (CPutCur cursor value) r h = of_no_cursor cursor (st.places session) r h
of_there st session (CDel cursor) r h = of_no_cursor cursor (st.places session) r h
of_there st session (CPut cursor key value mode) r h = of_no_cursor cursor (st.places session) r h
of_there st session call r h = none_is r h

of_creation : (taken full : Bool) (r : Answer) → cond taken (Some NameTaken) (cond full (Some (TooMany MOST_DATABASES)) None) ≡ Some r → IsOther r
of_creation true full r h = plainly NameTaken r refl refl h
of_creation false full r h = when full (TooMany MOST_DATABASES) r refl refl h

of_name : (st : Standing) (session : ℕ) (call : Call) (r : Answer) → name_refusal st session call ≡ Some r → IsOther r
of_name st session (Create db kind) r h = of_creation (is_some (database_of db st.store)) (nat_le MOST_DATABASES (length st.store.databases)) r h
of_name st session (CreateIndex db index) r h = of_creation (is_some (database_of db st.store)) (nat_le MOST_DATABASES (length st.store.databases)) r h
of_name st session (Remove db) r h = when (list_any (is_index_of db) st.store.databases) HasIndex r refl refl h
of_name st session (Truncate db) r h = when (list_any (is_index_of db) st.store.databases) HasIndex r refl refl h
of_name st session (Rename db to) r h = when (is_some (database_of to st.store)) NameTaken r refl refl h
of_name st session (Open cursor db) r h = when (is_some (place_at cursor (st.places session))) NameTaken r refl refl h
of_name st session (Duplicate cursor to) r h = when (is_some (place_at to (st.places session))) NameTaken r refl refl h
of_name st session call r h = none_is r h

of_number : (last : ℕ) (o : Option Active) (r : Answer) → number_refusal last o ≡ Some r → IsOther r
of_number last None r h = unless (nat_lt last LAST_TXN) IdsEnded r refl refl h
of_number last (Some a) r h = none_is r h

pub late_other : (st : Standing) (session : ℕ) (call : Call) (r : Answer) → late_refusal st session call ≡ Some r → IsOther r
late_other st session call r h =
    either (number_refusal st.last_txn (active_of session st.actives)) (or_refusal (there_refusal st session call) (or_refusal (name_refusal st session call) (target_refusal call (target_of st session call)))) r h
    (of_number st.last_txn (active_of session st.actives) r)
    (λ k. either (there_refusal st session call) (or_refusal (name_refusal st session call) (target_refusal call (target_of st session call))) r k (of_there st session call r)
    (λ m. either (name_refusal st session call) (target_refusal call (target_of st session call)) r m (of_name st session call r) (of_target call (target_of st session call) r)))

-- ---- limits of the log

-- a limit is answered as a refusal
pub record IsLimit (answer : Answer) : Type 0 where
  pub other : IsOther answer
  pub fate : fate_of answer ≡ IsRefused

log_full : (r : Answer) → Some LogFull ≡ Some r → IsLimit r
log_full r h = let k : LogFull ≡ r = cc (h) in record { other = plainly LogFull r refl refl h; fate = subst (λ (y : Answer). fate_of y ≡ IsRefused) k refl }

ids_ended : (r : Answer) → Some IdsEnded ≡ Some r → IsLimit r
ids_ended r h = let k : IdsEnded ≡ r = cc (h) in record { other = plainly IdsEnded r refl refl h; fate = subst (λ (y : Answer). fate_of y ≡ IsRefused) k refl }

pub limit_is : (limit : Option Answer) (r : Answer) → log_limit limit ≡ Some r → IsLimit r
limit_is None r h = absurd (cc (h))
limit_is (Some LogFull) r h = log_full r h
limit_is (Some IdsEnded) r h = ids_ended r h
limit_is (Some answer) r h = absurd (cc (h))

-- ---- evaluation

-- an answer of evaluation comes where nothing went wrong
pub evaluated_succeeds : (answer : Answer) → is_evaluated answer ≡ true → fate_of answer ≡ Succeeds
evaluated_succeeds Done h = refl
evaluated_succeeds (Rec key value) h = refl
evaluated_succeeds (IndexRec key primary_key value) h = refl
evaluated_succeeds (Count count) h = refl
evaluated_succeeds NotFound h = refl
evaluated_succeeds KeyExist h = refl
evaluated_succeeds KeyEmpty h = refl
evaluated_succeeds answer h = absurd (both_ways false refl h)

-- ---- what is not told

not_within : (b : Bool) (a : Active) (st : Standing) (call : Call) (answer : Answer) → ((is_of_cursors call || is_on_records call) && is_evaluated answer) ≡ false → told_within b a st call answer ≡ None
not_within true a st call answer h = refl
not_within false a st call answer h = ap (λ (x : Bool). told_if x a st call answer) h

pub not_told : (o : Option Active) (st : Standing) (call : Call) (answer : Answer) → is_evaluated answer ≡ false → told_of o st call answer ≡ None
not_told None st call answer h = refl
not_told (Some a) st call answer h = not_within a.is_auto a st call answer (and_right (is_of_cursors call || is_on_records call) (is_evaluated answer) h)

pub not_on_records : (o : Option Active) (st : Standing) (call : Call) (answer : Answer) → (is_of_cursors call || is_on_records call) ≡ false → told_of o st call answer ≡ None
not_on_records None st call answer h = refl
not_on_records (Some a) st call answer h = not_within a.is_auto a st call answer (ap (λ (x : Bool). x && is_evaluated answer) h)

pub auto_untold : (a : Active) (st : Standing) (call : Call) (answer : Answer) → a.is_auto ≡ true → told_of (Some a) st call answer ≡ None
auto_untold a st call answer h = ap (λ (b : Bool). told_within b a st call answer) h

pub is_told : (a : Active) (st : Standing) (call : Call) (answer : Answer) → a.is_auto ≡ false → (is_of_cursors call || is_on_records call) ≡ true → is_evaluated answer ≡ true → told_of (Some a) st call answer ≡ told_if true a st call answer
is_told a st call answer h on e =
    ap (λ (b : Bool). told_within b a st call answer) h ∙ (ap (λ (b : Bool). told_if (b && is_evaluated answer) a st call answer) on ∙ ap (λ (b : Bool). told_if b a st call answer) e)
