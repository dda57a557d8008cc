-- The grammar of scripts (this project's own): what the bytes of a script ask for, or the first line that is outside it.
use Rattle.std.specs.Prelude.{ℕ, ◌+◌, ◌-◌, ◌*◌, ◌≡◌, ◌==◌, ◌&&◌, ◌++◌, ◌∷◌, [], nat_le, nat_lt, not, ◌||◌, true, false, codes, List, Bool, Option, Some, None, option_to_list, Result, Ok, Err, if◌then◌else◌}
use Rattle.std.specs.List.{list_all}
use Rattle.std.specs.Str.{bytes_eq}
use Rattle.je_order.specs.Words.{is_word}
use Rattle.store_model.specs.declared.isolation.Isolation.{Isolation}
use Rattle.store_model.specs.declared.isolation.Isolation.TheVariants.{ReadUncommitted, ReadCommitted, RepeatableRead, Serializable}
use Rattle.store_model.specs.declared.durability.Durability.{Durability}
use Rattle.store_model.specs.declared.durability.Durability.TheVariants.{Sync, WriteNoSync, NoSync}
use Rattle.store_model.specs.declared.kind.Kind.{Kind}
use Rattle.store_model.specs.declared.kind.Kind.TheVariants.{Plain, Dup}
use Rattle.store_model.specs.declared.put_mode.PutMode.{PutMode}
use Rattle.store_model.specs.declared.put_mode.PutMode.TheVariants.{Overwrite, NoOverwrite, NoDupData}
use Rattle.store_model.specs.declared.call.Call.{Call}
use Rattle.store_model.specs.declared.call.Call.TheVariants.{Begin, Commit, Abort, List as Lists, Create, Remove, Rename, Truncate, Put, Get, GetBoth, Delete}
use Rattle.store_model.specs.declared.plan.ScriptLine.{ScriptLine}
use Rattle.store_model.specs.declared.plan.ScriptLine.TheVariants.{Session, Maintenance}
use Rattle.store_model.specs.declared.step.Step.{Step}
use Rattle.store_model.specs.declared.step.Step.TheVariants.{Begin as BeginStep, Flush, Finish, Sync as SyncStep}
use Rattle.store_model.specs.declared.plan.RunPlan.{RunPlan}
use Rattle.text_lines.specs.Lines.{text_lines}
use Rattle.script_text.specs.Words.{words_of}
use Rattle.script_text.specs.Bytes.{bytes_of}
use Rattle.script_text.specs.Cursors.{rmw_of, cursor_call_of}
use Rattle.script_text.specs.Indexes.{is_digit, index_of}
use Rattle.script_text.specs.declared.parsing.TheConstants.{MOST_LINES}
use Rattle.script_text.specs.declared.parsing.ParseErr.{ParseErr}
use Rattle.script_text.specs.declared.parsing.ParseErr.TheVariants.{BadScript, Memory}

-- a session is s1 to s64, its number without a leading zero
abbrev pub one_digit : ℕ → ℕ → Option ℕ
one_digit s a = if (s == 115) && is_digit a && not (a == 48) then Some (a - 48) else None

-- the number of a session that has two digits, 10 to 64
abbrev pub two_digits : ℕ → ℕ → ℕ → Option ℕ
two_digits s a b =
    let number = 10 * (a - 48) + (b - 48) in
    if (s == 115) && is_digit a && is_digit b && not (a == 48) && nat_le number 64 then Some number else None

-- the number of the session that a token names, 1 to 64
abbrev pub session_of : List ℕ → Option ℕ
session_of (s ∷ a ∷ []) = one_digit s a
session_of (s ∷ a ∷ b ∷ []) = two_digits s a b
session_of word = None

-- `begin LEVEL DURABILITY WAIT`, each one of its words
abbrev pub level_of : List ℕ → Option Isolation
level_of word =
    if bytes_eq word (codes "ru") then Some ReadUncommitted
    else if bytes_eq word (codes "rc") then Some ReadCommitted
    else if bytes_eq word (codes "rr") then Some RepeatableRead
    else if bytes_eq word (codes "ser") then Some Serializable
    else None

-- what a commit waits for, by its word
abbrev pub durability_of : List ℕ → Option Durability
durability_of word =
    if bytes_eq word (codes "sync") then Some Sync
    else if bytes_eq word (codes "wsync") then Some WriteNoSync
    else if bytes_eq word (codes "nosync") then Some NoSync
    else None

-- whether calls wait for locks, by its word
abbrev pub wait_of : List ℕ → Option Bool
wait_of word =
    if bytes_eq word (codes "wait") then Some true
    else if bytes_eq word (codes "nowait") then Some false
    else None

-- a `begin`, if each of its words is one
abbrev pub begin_call : Option Isolation → Option Durability → Option Bool → Option Call
begin_call (Some level) (Some durability) (Some wait) = Some (Begin level durability wait)
begin_call level durability wait = None

-- the call of a line that begins with `begin`
abbrev pub begin_of : List (List ℕ) → Option Call
begin_of (level ∷ durability ∷ wait ∷ []) = begin_call (level_of level) (durability_of durability) (wait_of wait)
begin_of words = None

-- `commit`
abbrev pub commit_of : List (List ℕ) → Option Call
commit_of [] = Some Commit
commit_of words = None

-- `abort`
abbrev pub abort_of : List (List ℕ) → Option Call
abort_of [] = Some Abort
abort_of words = None

-- `list`
abbrev pub list_of : List (List ℕ) → Option Call
list_of [] = Some Lists
list_of words = None

-- `create DB plain`, `create DB dup`, and lines that make an index
abbrev pub kind_of : List ℕ → Option Kind
kind_of word =
    if bytes_eq word (codes "plain") then Some Plain
    else if bytes_eq word (codes "dup") then Some Dup
    else None

-- a `create`, if its kind is one
abbrev pub create_call : List ℕ → Option Kind → Option Call
create_call db (Some kind) = Some (Create db kind)
create_call db None = None

-- the call of a line that begins with `create`
abbrev pub create_of : List (List ℕ) → Option Call
create_of (db ∷ kind ∷ []) = if is_word db then create_call db (kind_of kind) else None
create_of (db ∷ kind ∷ primary ∷ words) = index_of db kind primary words
create_of words = None

-- `remove DB`
abbrev pub remove_of : List (List ℕ) → Option Call
remove_of (db ∷ []) = if is_word db then Some (Remove db) else None
remove_of words = None

-- `rename DB NEW`
abbrev pub rename_of : List (List ℕ) → Option Call
rename_of (db ∷ to ∷ []) = if is_word db && is_word to then Some (Rename db to) else None
rename_of words = None

-- `truncate DB`
abbrev pub truncate_of : List (List ℕ) → Option Call
truncate_of (db ∷ []) = if is_word db then Some (Truncate db) else None
truncate_of words = None

-- `put DB K D`, `putno DB K D` and `putnodup DB K D`
abbrev pub put_call : PutMode → List ℕ → Option (List ℕ) → Option (List ℕ) → Option Call
put_call mode db (Some key) (Some value) = Some (Put db key value mode)
put_call mode db key value = None

-- the call of `put DB K D`, `putno DB K D` or `putnodup DB K D`
abbrev pub put_of : PutMode → List (List ℕ) → Option Call
put_of mode (db ∷ key ∷ value ∷ []) = if is_word db then put_call mode db (bytes_of key) (bytes_of value) else None
put_of mode words = None

-- `get DB K` and `get DB K rmw`
abbrev pub get_call : List ℕ → Bool → Option (List ℕ) → Option Call
get_call db rmw (Some key) = Some (Get db key rmw)
get_call db rmw None = None

-- the call of `get DB K`, with `rmw` or without
abbrev pub get_of : List (List ℕ) → Option Call
get_of (db ∷ key ∷ []) = if is_word db then get_call db false (bytes_of key) else None
get_of (db ∷ key ∷ rmw ∷ []) = if is_word db && bytes_eq rmw (codes "rmw") then get_call db true (bytes_of key) else None
get_of words = None

-- `getboth DB K D` and `getboth DB K D rmw`
abbrev pub get_both_call : List ℕ → Option (List ℕ) → Option (List ℕ) → Option Bool → Option Call
get_both_call db (Some key) (Some value) (Some rmw) = Some (GetBoth db key value rmw)
get_both_call db key value rmw = None

-- the call of `getboth DB K D`, with `rmw` or without
abbrev pub get_both_of : List (List ℕ) → Option Call
get_both_of (db ∷ key ∷ value ∷ words) = if is_word db then get_both_call db (bytes_of key) (bytes_of value) (rmw_of words) else None
get_both_of words = None

-- `delete DB K`
abbrev pub delete_call : List ℕ → Option (List ℕ) → Option Call
delete_call db (Some key) = Some (Delete db key)
delete_call db None = None

-- the call of `delete DB K`
abbrev pub delete_of : List (List ℕ) → Option Call
delete_of (db ∷ key ∷ []) = if is_word db then delete_call db (bytes_of key) else None
delete_of words = None

-- a call is one of these forms
abbrev pub call_of : List ℕ → List (List ℕ) → Option Call
call_of verb words =
    if bytes_eq verb (codes "begin") then begin_of words
    else if bytes_eq verb (codes "commit") then commit_of words
    else if bytes_eq verb (codes "abort") then abort_of words
    else if bytes_eq verb (codes "list") then list_of words
    else if bytes_eq verb (codes "create") then create_of words
    else if bytes_eq verb (codes "remove") then remove_of words
    else if bytes_eq verb (codes "rename") then rename_of words
    else if bytes_eq verb (codes "truncate") then truncate_of words
    else if bytes_eq verb (codes "put") then put_of Overwrite words
    else if bytes_eq verb (codes "putno") then put_of NoOverwrite words
    else if bytes_eq verb (codes "putnodup") then put_of NoDupData words
    else if bytes_eq verb (codes "get") then get_of words
    else if bytes_eq verb (codes "getboth") then get_both_of words
    else if bytes_eq verb (codes "delete") then delete_of words
    else cursor_call_of verb words

-- `begin`, `flush`, `finish` and `sync` are steps of maintenance
abbrev pub step_of : List ℕ → Option Step
step_of word =
    if bytes_eq word (codes "begin") then Some BeginStep
    else if bytes_eq word (codes "flush") then Some Flush
    else if bytes_eq word (codes "finish") then Some Finish
    else if bytes_eq word (codes "sync") then Some SyncStep
    else None

-- a line with a step is `m`, and the step
abbrev pub maintained_by : ℕ → Option Step → Option ScriptLine
maintained_by line (Some step) = Some (Maintenance line step)
maintained_by line None = None

-- what a line gives that begins with `m`: a step, with the line's number
abbrev pub maintenance_of : ℕ → List (List ℕ) → Option ScriptLine
maintenance_of line (step ∷ []) = maintained_by line (step_of step)
maintenance_of line words = None

-- a line with a call is a session, and the call's words
abbrev pub given_by : ℕ → Option ℕ → Option Call → Option ScriptLine
given_by line (Some session) (Some call) = Some (Session session line call)
given_by line session call = None

-- what a line gives that begins with a session: its call, with the line's number
abbrev pub session_line : ℕ → List ℕ → List (List ℕ) → Option ScriptLine
session_line line session (verb ∷ words) = given_by line (session_of session) (call_of verb words)
session_line line session [] = None

-- what a line's words give: a step or a session's call
abbrev pub given_of : ℕ → List (List ℕ) → Option ScriptLine
given_of line (giver ∷ words) = if bytes_eq giver (codes "m") then maintenance_of line words else session_line line giver words
given_of line [] = None

-- an empty line, and one that begins with `#`, gives nothing
abbrev pub is_skipped : List ℕ → Bool
is_skipped [] = true
is_skipped (c ∷ text) = c == 35

-- what a line gives: nothing, a call or a step; it is bad where it is none of these, has a byte outside ASCII, or is past the last line
abbrev pub good_or_bad : ℕ → Option ScriptLine → Result (Option ScriptLine) ℕ
good_or_bad line (Some given) = Ok (Some given)
good_or_bad line None = Err line

-- what a line gives: nothing if it is skipped, else a call or a step; a line that is neither is bad, as is one past the last or with a byte past 127
abbrev pub line_gives : ℕ → List ℕ → Result (Option ScriptLine) ℕ
line_gives line text =
    if nat_lt MOST_LINES line || not (list_all (λ c. nat_lt c 128) text) then Err line
    else if is_skipped text then Ok None
    else good_or_bad line (given_of line (words_of text))

-- the lines of a script are numbered from 1
abbrev pub is_line : ScriptLine → Bool
is_line (Session session line call) = true
is_line (Maintenance line step) = not (line == 0)

-- what a line gives and then what the lines behind it give; the first bad line counts
abbrev pub before_others : Option ScriptLine → Result (List ScriptLine) ℕ → Result (List ScriptLine) ℕ
before_others given (Ok others) = Ok (option_to_list given ++ others)
before_others given (Err line) = Err line

-- what a line gives, and behind it what the others give; the first bad line counts
abbrev pub and_then : Result (Option ScriptLine) ℕ → Result (List ScriptLine) ℕ → Result (List ScriptLine) ℕ
and_then (Ok given) others = before_others given others
and_then (Err line) others = Err line

-- what lines give, the first of them with that number
abbrev pub lines_give : ℕ → List (List ℕ) → Result (List ScriptLine) ℕ
lines_give line [] = Ok []
lines_give line (text ∷ texts) = and_then (line_gives line text) (lines_give (line + 1) texts)

-- lines as a script's plan, unless one is bad
abbrev pub as_plan : Result (List ScriptLine) ℕ → Result RunPlan ℕ
as_plan (Ok lines) = Ok (record { lines = lines })
as_plan (Err line) = Err line

-- the plan that a script asks for, or the number of its first bad line
abbrev pub plan_of : List ℕ → Result RunPlan ℕ
plan_of script = as_plan (lines_give 1 (text_lines script))

-- a function has answered what the grammar says, unless memory ran out
abbrev pub Gives : {X : Type 0} → Result X ParseErr → Result X ℕ → Type 0
Gives (Ok x) says = says ≡ Ok x
Gives (Err (BadScript line)) says = says ≡ Err line
Gives (Err Memory) says = Unit {0}
