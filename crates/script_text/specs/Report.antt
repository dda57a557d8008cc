-- The text of a report (this project's own).
use Rattle.std.specs.Prelude.{ℕ, ◌+◌, ◌≡◌, ◌==◌, ◌&&◌, ◌++◌, ◌∷◌, [], List, Bool, true, false, ◌||◌, nat_le, Option, Some, None, unwrap_or, codes, decimal, position, take, drop, if◌then◌else◌}
use Rattle.std.specs.Option.{is_some}
use Rattle.std.specs.List.{list_all, list_any, flat_map}
use Rattle.hex.specs.Hex.{encode_lower}
use Rattle.je_order.specs.declared.txn_id.TxnId.{TxnId}
use Rattle.je_order.specs.declared.bound.Bound.{Bound}
use Rattle.je_order.specs.declared.bound.Bound.TheVariants.{At as On, End as AtEnd}
use Rattle.store_model.specs.declared.kind.Kind.{Kind}
use Rattle.store_model.specs.declared.kind.Kind.TheVariants.{Plain, Dup}
use Rattle.store_model.specs.declared.durability.Durability.{Durability}
use Rattle.store_model.specs.declared.durability.Durability.TheVariants.{Sync, NoSync}
use Rattle.store_model.specs.declared.call.Call.{Call}
use Rattle.store_model.specs.declared.call.Call.TheVariants.{Begin, Commit, Put, Delete, CPutCur, CDel, CPut}
use Rattle.store_model.specs.declared.lock_target.LockTarget.{LockTarget}
use Rattle.store_model.specs.declared.victim.Victim.{Victim}
use Rattle.store_model.specs.declared.answer.Answer.{Answer}
use Rattle.store_model.specs.declared.answer.Answer.TheVariants.{Done, Txn, Logged, Durable, Rec, IndexRec, Count, Names, NotFound, KeyExist, KeyEmpty, NoPosition, Waiting, NotAvailable, Deadlock, MustAbort, SessionWaits, NoTxn, InTxn, NoDatabase, NoCursor, NameTaken, HasIndex, TooMany, DatabaseInUse, ReadOnlyIndex, NotOnDuplicates, OnlyOnDuplicates, TooLong, Flushed, Nothing, InCheckpoint, NoCheckpoint, NodesLeft, LogFull, IdsEnded, DiskFault, Invalid}
use Rattle.store_model.specs.declared.event.Event.{Event}
use Rattle.store_model.specs.declared.event.Event.TheVariants.{Call as Called, Resume, End, WriteOut, SyncBegin, SyncEnd, Turn}
use Rattle.store_model.specs.declared.totals.Totals.{Totals}
use Rattle.store_model.specs.Journal.{answers_some, is_logged, is_disk_fault, acknowledges}
use Rattle.script_text.specs.declared.logged_call.LoggedCall.{LoggedCall}

-- ---- answers

-- bytes as lower-case hexadecimal digits, or `-` where there are none
abbrev pub bytes_text : List ℕ → List ℕ
bytes_text [] = codes "-"
bytes_text (byte ∷ bytes) = encode_lower (byte ∷ bytes)

-- a name in a list of them, behind a blank
abbrev pub name_text : List ℕ → List ℕ
name_text name = codes " " ++ name

-- the name of a lock's record: its key, and where there are duplicates its data behind a blank; `end` is the database's end
abbrev pub dup_text : Kind → List ℕ → List ℕ
dup_text Plain dup = []
dup_text Dup dup = codes " " ++ bytes_text dup

-- the place of a lock: a record's name, or `end` for the end of the database
abbrev pub place_text : Kind → Bound → List ℕ
place_text kind AtEnd = codes "end"
place_text kind (On name) = bytes_text name.key ++ dup_text kind name.dup

-- what a call waits for
abbrev pub waiting_text : LockTarget → TxnId → List ℕ
waiting_text at owner = codes "waiting " ++ at.db ++ codes " " ++ place_text at.kind at.at ++ codes " by " ++ decimal owner.0

-- a cycle, turned so that its least transaction stands first
abbrev pub is_least_in : List TxnId → TxnId → Bool
is_least_in cycle txn = list_all (λ other. nat_le txn.0 other.0) cycle

-- a list turned so that what stands at a place comes first
abbrev pub turned_at : Option ℕ → List TxnId → List TxnId
turned_at None cycle = cycle
turned_at (Some at) cycle = drop at cycle ++ take at cycle

-- a cycle turned so that its least transaction comes first
abbrev pub turned : List TxnId → List TxnId
turned cycle = turned_at (position (is_least_in cycle) cycle) cycle

-- a word, and behind it the transactions of a cycle, each behind a blank
abbrev pub txn_text : TxnId → List ℕ
txn_text txn = codes " " ++ decimal txn.0

-- a word, and behind it a cycle from its least transaction on
abbrev pub cycle_text : List ℕ → List TxnId → List ℕ
cycle_text word cycle = word ++ flat_map txn_text (turned cycle)

-- the text of an answer; Logged has none, since its call's line comes with the sync, and Durable has none of its own
abbrev pub answer_text : Answer → Option (List ℕ)
answer_text Done = Some (codes "ok")
answer_text (Txn txn) = Some (codes "ok txn " ++ decimal txn.0)
answer_text (Logged commit) = None
answer_text (Durable commit) = None
answer_text (Rec key value) = Some (codes "ok " ++ bytes_text key ++ codes " " ++ bytes_text value)
answer_text (IndexRec key primary_key value) = Some (codes "ok " ++ bytes_text key ++ codes " " ++ bytes_text primary_key ++ codes " " ++ bytes_text value)
answer_text (Count count) = Some (codes "ok " ++ decimal count)
answer_text (Names names) = Some (codes "ok" ++ flat_map name_text names)
answer_text NotFound = Some (codes "notfound")
answer_text KeyExist = Some (codes "keyexist")
answer_text KeyEmpty = Some (codes "keyempty")
answer_text NoPosition = Some (codes "noposition")
answer_text (Waiting at owner) = Some (waiting_text at owner)
answer_text (NotAvailable owner) = Some (codes "unavailable " ++ decimal owner.0)
answer_text (Deadlock cycle) = Some (cycle_text (codes "deadlock") cycle)
answer_text (MustAbort cycle) = Some (cycle_text (codes "mustabort") cycle)
answer_text SessionWaits = Some (codes "sessionwaits")
answer_text NoTxn = Some (codes "notxn")
answer_text (InTxn txn) = Some (codes "intxn " ++ decimal txn.0)
answer_text NoDatabase = Some (codes "nodatabase")
answer_text NoCursor = Some (codes "nocursor")
answer_text NameTaken = Some (codes "nametaken")
answer_text HasIndex = Some (codes "hasindex")
answer_text (TooMany count) = Some (codes "toomany " ++ decimal count)
answer_text (DatabaseInUse txn) = Some (codes "inuse " ++ decimal txn.0)
answer_text ReadOnlyIndex = Some (codes "readonlyindex")
answer_text NotOnDuplicates = Some (codes "notonduplicates")
answer_text OnlyOnDuplicates = Some (codes "onlyonduplicates")
answer_text (TooLong bytes) = Some (codes "toolong " ++ decimal bytes)
answer_text (Flushed node) = Some (codes "flushed " ++ decimal node)
answer_text Nothing = Some (codes "nothing")
answer_text InCheckpoint = Some (codes "incheckpoint")
answer_text NoCheckpoint = Some (codes "nocheckpoint")
answer_text (NodesLeft count) = Some (codes "nodesleft " ++ decimal count)
answer_text LogFull = Some (codes "logfull")
answer_text IdsEnded = Some (codes "idsended")
answer_text DiskFault = Some (codes "diskfault")
answer_text (Invalid first) = Some (codes "invalid")

-- the words of an answer whose text is words and at most a number; nothing for the others
abbrev pub word_text : Answer → List ℕ
word_text Done = codes "ok"
word_text (Txn txn) = codes "ok txn"
word_text (Count count) = codes "ok"
word_text NotFound = codes "notfound"
word_text KeyExist = codes "keyexist"
word_text KeyEmpty = codes "keyempty"
word_text NoPosition = codes "noposition"
word_text (NotAvailable owner) = codes "unavailable"
word_text SessionWaits = codes "sessionwaits"
word_text NoTxn = codes "notxn"
word_text (InTxn txn) = codes "intxn"
word_text NoDatabase = codes "nodatabase"
word_text NoCursor = codes "nocursor"
word_text NameTaken = codes "nametaken"
word_text HasIndex = codes "hasindex"
word_text (TooMany count) = codes "toomany"
word_text (DatabaseInUse txn) = codes "inuse"
word_text ReadOnlyIndex = codes "readonlyindex"
word_text NotOnDuplicates = codes "notonduplicates"
word_text OnlyOnDuplicates = codes "onlyonduplicates"
word_text (TooLong bytes) = codes "toolong"
word_text (Flushed node) = codes "flushed"
word_text Nothing = codes "nothing"
word_text InCheckpoint = codes "incheckpoint"
word_text NoCheckpoint = codes "nocheckpoint"
word_text (NodesLeft count) = codes "nodesleft"
word_text LogFull = codes "logfull"
word_text IdsEnded = codes "idsended"
word_text DiskFault = codes "diskfault"
word_text (Invalid first) = codes "invalid"
word_text answer = []

-- the number behind them
abbrev pub number_in : Answer → Option ℕ
number_in (Txn txn) = Some txn.0
number_in (Count count) = Some count
number_in (NotAvailable owner) = Some owner.0
number_in (InTxn txn) = Some txn.0
number_in (TooMany count) = Some count
number_in (DatabaseInUse txn) = Some txn.0
number_in (TooLong bytes) = Some bytes
number_in (Flushed node) = Some node
number_in (NodesLeft count) = Some count
number_in answer = None

abbrev pub number_text : Option ℕ → List ℕ
number_text None = []
number_text (Some number) = codes " " ++ decimal number

abbrev pub short_text : Answer → List ℕ
short_text answer = word_text answer ++ number_text (number_in answer)

-- ---- lines

-- a line of the report: the line of the script, the session and the text
abbrev pub line_text : ℕ → ℕ → List ℕ → List ℕ
line_text session line text = decimal line ++ codes " s" ++ decimal session ++ codes " " ++ text ++ codes "\n"

-- a line of the report, where there is a text for one
abbrev pub line_if_any : ℕ → ℕ → Option (List ℕ) → List ℕ
line_if_any session line (Some text) = line_text session line text
line_if_any session line None = []

-- a line of a step of maintenance, which has no session
abbrev pub step_line : ℕ → Option (List ℕ) → List ℕ
step_line line (Some text) = decimal line ++ codes " m " ++ text ++ codes "\n"
step_line line None = []

-- the own line of an event: of a call, a resumed call and a step its answer's text, where it has one; the others have none
abbrev pub own_line : Event → List ℕ
own_line (Called session line call answer victims) = line_if_any session line (answer_text answer)
own_line (Resume session line answer victims) = line_if_any session line (answer_text answer)
own_line (End session) = []
own_line (WriteOut answer) = []
own_line (SyncBegin answer) = []
own_line (SyncEnd answer) = []
own_line (Turn line step answer) = step_line line (answer_text answer)

-- the line of a victim of an event, unless it is the asking session's call, whose own answer says so
abbrev pub victim_line : ℕ → Victim → List ℕ
victim_line asking victim = if victim.session == asking then [] else line_text victim.session victim.line (cycle_text (codes "deadlock") victim.cycle)

-- the lines of an event's victims
abbrev pub victims_text : Event → List ℕ
victims_text (Called session line call answer victims) = flat_map (victim_line session) victims
victims_text (Resume session line answer victims) = flat_map (victim_line session) victims
victims_text event = []

-- ---- calls that wait for their lines

-- the durability with which an event begins a session's transaction, if it does
abbrev pub begins : ℕ → Event → Option Durability
begins session (Called by line (Begin level durability wait) (Txn txn) victims) = if by == session then Some durability else None
begins session event = None

-- the one with which each session's last transaction was begun, after one event more and after several
abbrev pub none_begun : ℕ → Durability
none_begun session = Sync

-- with which durability each session's last transaction was begun, once an event came
abbrev pub begun_then : Event → (ℕ → Durability) → ℕ → Durability
begun_then event begun session = unwrap_or (begins session event) (begun session)

-- with which durability each session's last transaction was begun, once several events came
abbrev pub begun_after : (ℕ → Durability) → List Event → ℕ → Durability
begun_after begun [] = begun
begun_after begun (event ∷ events) = begun_after (begun_then event begun) events

-- what a call waits for: a commit for what its transaction was begun with, a call outside a transaction for a sync
abbrev pub durability_awaited : (ℕ → Durability) → ℕ → Call → Durability
durability_awaited begun session Commit = begun session
durability_awaited begun session call = Sync

-- the call of an event, where it is answered Logged
abbrev pub logged_by : ℕ → ℕ → Durability → Answer → Option LoggedCall
logged_by session line durability (Logged commit) = Some (record { session = session; line = line; commit = commit; durability = durability })
logged_by session line durability answer = None

-- the call that an event answers Logged, with the durability that it waits for
abbrev pub logged_call : (ℕ → Durability) → Event → Option LoggedCall
logged_call begun (Called session line call answer victims) = logged_by session line (durability_awaited begun session call) answer
logged_call begun (Resume session line answer victims) = logged_by session line Sync answer
logged_call begun event = None

-- whether an event acknowledges a logged call's commit, or met a disk fault
abbrev pub settles : LoggedCall → Event → Bool
settles call event = acknowledges call.durability call.commit event || answers_some is_disk_fault event

-- a call that was answered Logged waits for its line as long as no later event settles it
abbrev pub waiting_if : Option LoggedCall → List Event → List LoggedCall
waiting_if None later = []
waiting_if (Some call) later = if list_any (settles call) later then [] else call ∷ []

-- that call, if no later event settles it
abbrev pub if_waiting : (ℕ → Durability) → Event → List Event → List LoggedCall
if_waiting begun event later = waiting_if (logged_call begun event) later

-- the calls that wait for their lines after some events, in the order in which they were logged
abbrev pub waiting_after : (ℕ → Durability) → List Event → List LoggedCall
waiting_after begun [] = []
waiting_after begun (event ∷ later) = if_waiting begun event later ++ waiting_after (begun_then event begun) later

-- no call of some events waits for its line after the later ones
abbrev pub NoneWaits : (ℕ → Durability) → List Event → List Event → Type 0
NoneWaits begun [] later = Unit {0}
NoneWaits begun (event ∷ events) later = (if_waiting begun event (events ++ later) ≡ []) × NoneWaits (begun_then event begun) events later

-- what an event says of the calls that wait for it
abbrev pub settling_text : Event → List ℕ
settling_text event = if answers_some is_disk_fault event then codes "diskfault" else codes "ok"

-- the line that an event gives a call that has waited for it
abbrev pub settled_line : Event → LoggedCall → List ℕ
settled_line event call = if settles call event then line_text call.session call.line (settling_text event) else []

-- ---- the report

-- the lines of an event that comes after others: its own, those of its victims, and those of the calls that have waited for it
abbrev pub event_text : List Event → Event → List ℕ
event_text before event = own_line event ++ victims_text event ++ flat_map (settled_line event) (waiting_after none_begun before)

-- the lines of events that come after others
abbrev pub events_text : List Event → List Event → List ℕ
events_text before [] = []
events_text before (event ∷ events) = event_text before event ++ events_text (before ++ event ∷ []) events

-- ---- how many commits there were

-- the calls that have changed something where they are answered Done
abbrev pub changes_when_done : Call → Bool
changes_when_done (Put db key value mode) = true
changes_when_done (Delete db key) = true
changes_when_done (CPutCur cursor value) = true
changes_when_done (CDel cursor) = true
changes_when_done (CPut cursor key value mode) = true
changes_when_done call = false

-- whether an event changed something in a session's transaction
abbrev pub has_changed : ℕ → Event → Bool
has_changed session (Called by line call Done victims) = (by == session) && changes_when_done call
has_changed session (Resume by line Done victims) = by == session
has_changed session event = false

-- whether each session's last transaction has changed something, after one event more and after several
abbrev pub none_changed : ℕ → Bool
none_changed session = false

-- whether each session's transaction has changed something, once an event came
abbrev pub changed_then : Event → (ℕ → Bool) → ℕ → Bool
changed_then event changed session = if is_some (begins session event) then false else has_changed session event || changed session

-- whether each session's transaction has changed something, once several events came
abbrev pub changed_after : (ℕ → Bool) → List Event → ℕ → Bool
changed_after changed [] = changed
changed_after changed (event ∷ events) = changed_after (changed_then event changed) events

-- whether a commit waits for nothing
abbrev pub is_no_sync : Durability → Bool
is_no_sync NoSync = true
is_no_sync durability = false

-- whether a session's last transaction, after some events, has changes and its commit waits for nothing
abbrev pub is_unlogged : List Event → ℕ → Bool
is_unlogged before session = is_no_sync (begun_after none_begun before session) && changed_after none_changed before session

-- whether an event that comes after others is the commit of changes: it was logged, or waits for nothing
abbrev pub is_commit : List Event → Event → Bool
is_commit before (Called session line Commit Done victims) = is_unlogged before session
is_commit before (Called session line call answer victims) = is_logged answer
is_commit before (Resume session line answer victims) = is_logged answer
is_commit before event = false

-- how many of the events that come after others are such commits
abbrev pub commits_in : List Event → List Event → ℕ
commits_in before [] = 0
commits_in before (event ∷ events) = (if is_commit before event then 1 else 0) + commits_in (before ++ event ∷ []) events

-- the last line
abbrev pub end_line : ℕ → Totals → List ℕ
end_line commits totals =
    codes "end commits " ++ decimal commits ++ codes " databases " ++ decimal totals.databases ++ codes " records " ++ decimal totals.records ++ codes "\n"

-- the report of a journal, and of what the final store holds
abbrev pub report_text : List Event → Totals → List ℕ
report_text events totals = events_text [] events ++ end_line (commits_in [] events) totals
