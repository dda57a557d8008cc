-- The lines of cursors (this project's own).
use Rattle.std.specs.Prelude.{ℕ, ◌-◌, ◌==◌, ◌&&◌, ◌∷◌, [], nat_le, true, false, codes, List, Bool, Option, Some, None, option_map, if◌then◌else◌}
use Rattle.std.specs.Str.{bytes_eq}
use Rattle.je_order.specs.Words.{is_word}
use Rattle.store_model.specs.declared.put_mode.PutMode.{PutMode}
use Rattle.store_model.specs.declared.put_mode.PutMode.TheVariants.{Overwrite, NoOverwrite, NoDupData}
use Rattle.store_model.specs.declared.motion.Motion.{Motion}
use Rattle.store_model.specs.declared.motion.Motion.TheVariants.{First, Last, Next, Prev, NextDup, PrevDup, NextNoDup, PrevNoDup, Current, Key, Range, Both, BothRange}
use Rattle.store_model.specs.declared.call.Call.{Call}
use Rattle.store_model.specs.declared.call.Call.TheVariants.{Open, Close, Dup, Count, Cur, CPutCur, CDel, CPut}
use Rattle.script_text.specs.Bytes.{bytes_of}

-- a cursor is c1 to c8
abbrev pub cursor_of : List ℕ → Option ℕ
cursor_of (c ∷ a ∷ []) = if (c == 99) && nat_le 49 a && nat_le a 56 then Some (a - 48) else None
cursor_of word = None

-- whether a read is for a change, by the last words of its line; none where they are no read's
abbrev pub rmw_of : List (List ℕ) → Option Bool
rmw_of [] = Some false
rmw_of (rmw ∷ []) = if bytes_eq rmw (codes "rmw") then Some true else None
rmw_of words = None

-- `open cM DB`
abbrev pub open_call : List ℕ → Option ℕ → Option Call
open_call db (Some cursor) = Some (Open cursor db)
open_call db None = None

-- the call of `open cM DB`
abbrev pub open_of : List (List ℕ) → Option Call
open_of (cursor ∷ db ∷ []) = if is_word db then open_call db (cursor_of cursor) else None
open_of words = None

-- `close cM`, `count cM` and `cdel cM`
abbrev pub only_cursor : List (List ℕ) → Option ℕ
only_cursor (cursor ∷ []) = cursor_of cursor
only_cursor words = None

-- the call of `close cM`
abbrev pub close_of : List (List ℕ) → Option Call
close_of words = option_map (λ c. Close c) (only_cursor words)

-- the call of `count cM`
abbrev pub count_of : List (List ℕ) → Option Call
count_of words = option_map (λ c. Count c) (only_cursor words)

-- the call of `cdel cM`
abbrev pub cdel_of : List (List ℕ) → Option Call
cdel_of words = option_map (λ c. CDel c) (only_cursor words)

-- `dup cM cN`
abbrev pub dup_call : Option ℕ → Option ℕ → Option Call
dup_call (Some cursor) (Some to) = Some (Dup cursor to)
dup_call cursor to = None

-- the call of `dup cM cN`
abbrev pub dup_of : List (List ℕ) → Option Call
dup_of (cursor ∷ to ∷ []) = dup_call (cursor_of cursor) (cursor_of to)
dup_of words = None

-- where a cursor moves, by one word
abbrev pub motion_of : List ℕ → Option Motion
motion_of word =
    if bytes_eq word (codes "first") then Some First
    else if bytes_eq word (codes "last") then Some Last
    else if bytes_eq word (codes "next") then Some Next
    else if bytes_eq word (codes "prev") then Some Prev
    else if bytes_eq word (codes "nextdup") then Some NextDup
    else if bytes_eq word (codes "prevdup") then Some PrevDup
    else if bytes_eq word (codes "nextnodup") then Some NextNoDup
    else if bytes_eq word (codes "prevnodup") then Some PrevNoDup
    else if bytes_eq word (codes "current") then Some Current
    else None

-- `cur cM MOTION`, `cur cM key K`, `cur cM range K`, `cur cM both K D` and `cur cM bothrange K D`, each with `rmw` behind it or not
abbrev pub cur_call : Option ℕ → Option Motion → Option Bool → Option Call
cur_call (Some cursor) (Some motion) (Some rmw) = Some (Cur cursor motion rmw)
cur_call cursor motion rmw = None

-- the motion that is given a key: to that key, or to the least one from there on
abbrev pub keyed : Bool → Option (List ℕ) → Option Motion
keyed false (Some key) = Some (Key key)
keyed true (Some key) = Some (Range key)
keyed range None = None

-- the motion that is given a key and data: to that record, or to the least data from there on
abbrev pub paired : Bool → Option (List ℕ) → Option (List ℕ) → Option Motion
paired false (Some key) (Some value) = Some (Both key value)
paired true (Some key) (Some value) = Some (BothRange key value)
paired range key value = None

-- the call of `cur cM key K` or `cur cM range K`, with `rmw` or without
abbrev pub key_of : Option ℕ → Bool → List (List ℕ) → Option Call
key_of cursor range (key ∷ words) = cur_call cursor (keyed range (bytes_of key)) (rmw_of words)
key_of cursor range words = None

-- the call of `cur cM both K D` or `cur cM bothrange K D`, with `rmw` or without
abbrev pub pair_of : Option ℕ → Bool → List (List ℕ) → Option Call
pair_of cursor range (key ∷ value ∷ words) = cur_call cursor (paired range (bytes_of key) (bytes_of value)) (rmw_of words)
pair_of cursor range words = None

-- the call of `cur cM` with the words behind it, by the motion's word
abbrev pub move_of : Option ℕ → List ℕ → List (List ℕ) → Option Call
move_of cursor motion words =
    if bytes_eq motion (codes "key") then key_of cursor false words
    else if bytes_eq motion (codes "range") then key_of cursor true words
    else if bytes_eq motion (codes "both") then pair_of cursor false words
    else if bytes_eq motion (codes "bothrange") then pair_of cursor true words
    else cur_call cursor (motion_of motion) (rmw_of words)

-- the call of a line that begins with `cur`
abbrev pub cur_of : List (List ℕ) → Option Call
cur_of (cursor ∷ motion ∷ words) = move_of (cursor_of cursor) motion words
cur_of words = None

-- `cput cM K D`, `cputno cM K D` and `cputnodup cM K D`
abbrev pub cput_call : PutMode → Option ℕ → Option (List ℕ) → Option (List ℕ) → Option Call
cput_call mode (Some cursor) (Some key) (Some value) = Some (CPut cursor key value mode)
cput_call mode cursor key value = None

-- the call of `cput cM K D`, `cputno cM K D` or `cputnodup cM K D`
abbrev pub cput_of : PutMode → List (List ℕ) → Option Call
cput_of mode (cursor ∷ key ∷ value ∷ []) = cput_call mode (cursor_of cursor) (bytes_of key) (bytes_of value)
cput_of mode words = None

-- `cputcur cM D`
abbrev pub cputcur_call : Option ℕ → Option (List ℕ) → Option Call
cputcur_call (Some cursor) (Some value) = Some (CPutCur cursor value)
cputcur_call cursor value = None

-- the call of `cputcur cM D`
abbrev pub cputcur_of : List (List ℕ) → Option Call
cputcur_of (cursor ∷ value ∷ []) = cputcur_call (cursor_of cursor) (bytes_of value)
cputcur_of words = None

-- a call of a cursor is one of these forms
abbrev pub cursor_call_of : List ℕ → List (List ℕ) → Option Call
cursor_call_of verb words =
    if bytes_eq verb (codes "open") then open_of words
    else if bytes_eq verb (codes "close") then close_of words
    else if bytes_eq verb (codes "dup") then dup_of words
    else if bytes_eq verb (codes "count") then count_of words
    else if bytes_eq verb (codes "cur") then cur_of words
    else if bytes_eq verb (codes "cput") then cput_of Overwrite words
    else if bytes_eq verb (codes "cputno") then cput_of NoOverwrite words
    else if bytes_eq verb (codes "cputnodup") then cput_of NoDupData words
    else if bytes_eq verb (codes "cputcur") then cputcur_of words
    else if bytes_eq verb (codes "cdel") then cdel_of words
    else None
