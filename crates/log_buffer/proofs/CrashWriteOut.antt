-- What a crash keeps at each moment while a write buffer is written.
use Rattle.std.proofs.Common.{◌≡◌, ℕ, ◌+◌, ◌<◌, ◌≤◌, ◌==◌, Bool, true, List, [], ◌∷◌, ◌++◌, Option, Some, None, length, suc, ◌-◌, drop, refl, sym, ap, subst, ◌∙◌, arith, option_map, length-append, inl, inr}
use Rattle.std.specs.Prelude.{unwrap_or}
use Rattle.std.specs.Map.{lookup}
use Rattle.je_disk.specs.States.{State, Files, created, created_by, appended, partly_appended, synced, IsPartOfAppend}
use Rattle.je_disk.specs.Moments.{History, Passes, now}
use Rattle.je_disk.proofs.MomentLaws.{passes_weaken}
use Rattle.log_entry.specs.declared.entry.Entry.{Entry}
use Rattle.log_file.specs.Log.{Log, IsLog, file_bytes, files_of_log}
use Rattle.log_buffer.specs.Buffer.{joined, unwritten_of, first_of}
use Rattle.log_buffer.specs.Crash.{Holds, HoldPrefixes, IsKeptSince, KeepsRead, KeptThrough}
use Rattle.log_buffer.specs.Writing.{IsUnwrittenOf, IsPutBehind, IsPutNext, put_behind}
use Rattle.log_buffer.proofs.CrashWrites.{IsUnfinished, holds_appended, holds_partly, holds_created, holds_next, ReadUpTo}
use Rattle.log_buffer.specs.WriteBuffer.{bytes_for, piece_of, start_of, stop_of}
use Rattle.log_buffer.specs.declared.buffer.LogBuffer.{LogBuffer}
use Rattle.log_buffer.specs.Log.{HasLog}
use Rattle.log_buffer.proofs.WriteBuffers.{bytes_for_from}
use Rattle.log_buffer.proofs.WriteBufferPieces.{IsCut, begun_has_bytes, stop_within}
use Rattle.std.proofs.lemmas.List.{length-drop, length-take}
use Rattle.log_buffer.proofs.Prefixes.{created_prefixes, grown_prefixes, unwritten_prefixes, upto_prefixes}
use Rattle.log_buffer.proofs.Staying.{kept_then, stay_next, stay_part}
use Rattle.log_buffer.proofs.FilesWritten.{WrittenUpTo, put_same}

keeps_at : (log removed : Log) (least first : ℕ) (begun : Option ℕ) (s t : State) → t ≡ s → HoldPrefixes log s.reads → Holds log removed least begun first s → KeepsRead log removed least t
keeps_at log removed least first begun s t is prefixes h = subst (KeepsRead log removed least) (sym is) (record { keeps = h.kept.keeps; read = h.kept.read; prefixes = prefixes })

-- a file whose rest is in the write buffer
unfinished : (log : Log) (reads : Files) (f : ℕ) (bytes : List ℕ) → IsLog log → 0 < length bytes → joined (reads f) bytes ≡ files_of_log log f → IsUnfinished log reads f
unfinished log reads f [] is some observed = absurd (omega arith)
unfinished log reads f (b ∷ bytes) is some observed = by_file (lookup (λ n. n == f) log) refl where
  longer : (x : List ℕ) → x ++ b ∷ bytes ≡ x → ⊥
  longer x same = let len = ap length same in let parts = length-append x (b ∷ bytes) in omega (arith, len, parts)

  by_file : (o : Option (List Entry)) → lookup (λ n. n == f) log ≡ o → IsUnfinished log reads f
  by_file None is_none = absurd (let e = observed ∙ ap (option_map (file_bytes f)) is_none in cc)
  by_file (Some es) is_some = record {
    is_log = is;
    entries = es;
    found = is_some;
    part = λ whole. longer (file_bytes f es)
        (let e : Some (unwrap_or (reads f) [] ++ b ∷ bytes) ≡ Some (file_bytes f es) = observed ∙ ap (option_map (file_bytes f)) is_some in
        let there : unwrap_or (reads f) [] ≡ file_bytes f es = ap (λ (o : Option (List ℕ)). unwrap_or o []) whole in
        ap (λ (x : List ℕ). x ++ b ∷ bytes) (sym there) ∙ same_some (unwrap_or (reads f) [] ++ b ∷ bytes) (file_bytes f es) e);
  } where
    same_some : (x y : List ℕ) → (let o : Option (List ℕ) = Some x in o) ≡ Some y → x ≡ y
    same_some x y e = cc

made_reads : (there : Option (List ℕ)) (f : ℕ) (s : State) → there ≡ None → (created_by there f s).reads f ≡ Some []
made_reads None f s none = put_same s.reads f f (Some []) refl
made_reads (Some there) f s none = absurd cc

made_joined : (bytes : List ℕ) → 0 < length bytes → joined (Some []) bytes ≡ joined None bytes
made_joined [] some = absurd (omega arith)
made_joined (b ∷ bytes) some = refl

-- ---- how far it has come

-- since a moment a crash has kept the log, and the disk can go on
pub record GoesOn (log removed : Log) (least : ℕ) (begun : Option ℕ) (old new : History) (first : ℕ) : Type 0 where
  pub through : KeptThrough old new log removed least
  pub holds : Holds log removed least begun first (now new)

part_keeps : (log removed : Log) (least f : ℕ) (begun : Option ℕ) (bytes : List ℕ) (s t : State) → IsUnfinished log s.reads f → joined (s.reads f) bytes ≡ files_of_log log f → HoldPrefixes log s.reads → Holds log removed least begun f s
    → IsPartOfAppend f bytes s t → KeepsRead log removed least t
part_keeps log removed least f begun bytes s t un observed prefixes h (inl is) = keeps_at log removed least f begun s t is prefixes h
part_keeps log removed least f begun bytes s t un observed prefixes h (inr part) =
    let less : length part.0 ≤ length bytes = (let whole = ap length part.2 in let both = length-append part.0 part.1 in omega (arith, whole, both)) in
    keeps_at log removed least f begun (partly_appended f part.0 bytes s) t part.3 (grown_prefixes log f bytes part.0 part.1 s un.is_log prefixes part.2 observed) (holds_partly log removed least f begun s part.0 bytes less un h)

-- the rest of the first file is being written
unfinished_first : (log : Log) (first : ℕ) (reads : Files) (unwritten : ℕ → List ℕ) (bytes : List ℕ) → bytes ≡ unwritten first → IsUnwrittenOf log reads unwritten first → 0 < length bytes → IsUnfinished log reads first
unfinished_first log first reads unwritten bytes piece is some = unfinished log reads first bytes is.is_log some (ap (joined (reads first)) piece ∙ is.observed first)

pub through_first : (log removed : Log) (least first : ℕ) (begun : Option ℕ) (old new : History) (unwritten : ℕ → List ℕ) (bytes : List ℕ) → bytes ≡ unwritten first → IsUnwrittenOf log (now old).reads unwritten first
    → Holds log removed least begun first (now old) → Passes old new (IsPutBehind first bytes (now old)) → KeptThrough old new log removed least
through_first log removed least first begun old new unwritten bytes piece is h passes =
    passes_weaken old new (IsPutBehind first bytes (now old)) (IsKeptSince log removed least (now old).reads)
    (λ s put. record {
      kept = part_keeps log removed least first begun bytes (now old) s (unfinished_first log first (now old).reads unwritten bytes piece is put.some) (ap (joined ((now old).reads first)) piece ∙ is.observed first)
          (unwritten_prefixes log (now old).reads unwritten is.is_log is.observed) h put.part;
      stay = stay_part first bytes (now old) s put.part;
    }) passes

pub goes_first : (log removed : Log) (least first : ℕ) (begun : Option ℕ) (old new : History) (unwritten : ℕ → List ℕ) (bytes : List ℕ) → bytes ≡ unwritten first → IsUnwrittenOf log (now old).reads unwritten first
    → Holds log removed least begun first (now old) → Passes old new (IsPutBehind first bytes (now old)) → now new ≡ put_behind first bytes (now old) → GoesOn log removed least begun old new first
goes_first log removed least first begun old new unwritten bytes piece is h passes state = record {
  through = through_first log removed least first begun old new unwritten bytes piece is h passes;
  holds = by_bytes bytes (unfinished_first log first (now old).reads unwritten bytes piece is) state;
} where
  by_bytes : (x : List ℕ) → (0 < length x → IsUnfinished log (now old).reads first) → now new ≡ put_behind first x (now old) → Holds log removed least begun first (now new)
  by_bytes [] part same = subst (Holds log removed least begun first) (sym same) h
  by_bytes (b ∷ x) part same = subst (Holds log removed least begun first) (sym same) (holds_appended log removed least first begun (now old) (b ∷ x) (part (omega arith)) h)

-- the files so far are on the disk
pub read_so_far : (log : Log) (bytes starts : List ℕ) (last first n : ℕ) (before after : Files) → IsUnwrittenOf log before (bytes_for bytes starts last) first → first ≤ n → WrittenUpTo bytes starts last before after n → ReadUpTo log n after
read_so_far log bytes starts last first n before after is le written = record {
  upto = λ g within. written.upto g within ∙ is.observed g;
  beyond = λ g past. written.beyond g past ∙ is.ahead g (omega arith);
}

-- a next file is begun and written
module _ (log removed : Log) (least n next : ℕ) (begun : Option ℕ) (h old : History) (bytes : List ℕ) (is : IsLog log) (step : next ≡ n + 1) (some : 0 < length bytes) (observed : joined None bytes ≡ files_of_log log next)
    (read : ReadUpTo log n (now old).reads) (goes : GoesOn log removed least begun h old n) where
  none : (now old).reads next ≡ None
  none = read.beyond next (omega arith)

  un_next : IsUnfinished log (now old).reads next
  un_next = unfinished log (now old).reads next bytes is some (ap (λ (o : Option (List ℕ)). joined o bytes) none ∙ observed)

  done : Holds log removed least begun next (synced (now old))
  done = holds_next log removed least n n next begun (now old) un_next.entries is step read un_next.found goes.holds

  made : Holds log removed least begun next (created next (synced (now old)))
  made = holds_created log removed least next begun (synced (now old)) un_next done

  observed_made : joined ((created next (synced (now old))).reads next) bytes ≡ files_of_log log next
  observed_made = ap (λ (o : Option (List ℕ)). joined o bytes) (made_reads ((now old).reads next) next (synced (now old)) none) ∙ made_joined bytes some ∙ observed

  un_made : IsUnfinished log (created next (synced (now old))).reads next
  un_made = unfinished log (created next (synced (now old))).reads next bytes is some observed_made

  prefixes : HoldPrefixes log (now old).reads
  prefixes = upto_prefixes log n (now old).reads is read

  prefixes_made : HoldPrefixes log (created next (synced (now old))).reads
  prefixes_made = created_prefixes log next (synced (now old)) prefixes

  keeps : (s : State) → IsPutNext next bytes (now old) s → KeepsRead log removed least s
  keeps s (inl (inl same)) = keeps_at log removed least n begun (now old) s same prefixes goes.holds
  keeps s (inl (inr same)) = keeps_at log removed least next begun (synced (now old)) s same prefixes done
  keeps s (inr (inl (inl same))) = keeps_at log removed least next begun (synced (now old)) s same prefixes done
  keeps s (inr (inl (inr same))) = keeps_at log removed least next begun (created next (synced (now old))) s same prefixes_made made
  keeps s (inr (inr part)) = part_keeps log removed least next begun bytes (created next (synced (now old))) s un_made observed_made prefixes_made made part

  pub through_next : (new : History) → Passes old new (IsPutNext next bytes (now old)) → KeptThrough h new log removed least
  through_next new passes = kept_then log removed least h old new goes.through
      (passes_weaken old new (IsPutNext next bytes (now old)) (IsKeptSince log removed least (now old).reads) (λ s put. record { kept = keeps s put; stay = stay_next next bytes (now old) s put }) passes)

  pub goes_next : (new : History) → Passes old new (IsPutNext next bytes (now old)) → now new ≡ appended next bytes (created next (synced (now old))) → GoesOn log removed least begun h new next
  goes_next new passes state = record {
    through = through_next new passes;
    holds = subst (Holds log removed least begun next) (sym state) (holds_appended log removed least next begun (created next (synced (now old))) bytes un_made made);
  }

-- the write buffer of a buffer that has a log
pub unwritten_is : {D : Type 0} (observable : Bool) (state : State) (buffer : LogBuffer D) (log : Log) → observable ≡ true → HasLog observable state buffer log → IsUnwrittenOf log state.reads (unwritten_of buffer) (first_of buffer)
unwritten_is observable state buffer log observed has = record { is_log = has.is_log; observed = has.observed observed; ahead = has.ahead observed }

-- the bytes of a file that begins in the write buffer are all of the log's file
pub unwritten_next : (log : Log) (reads : Files) (bytes starts piece : List ℕ) (last first next i : ℕ) → IsUnwrittenOf log reads (bytes_for bytes starts last) first → length starts ≤ last → first < next → next + length starts ≡ last + i → piece ≡ piece_of bytes starts i
    → joined None piece ≡ files_of_log log next
unwritten_next log reads bytes starts piece last first next i is le past at piece_is =
    ap (joined None) (piece_is ∙ sym (bytes_for_from bytes starts last next i le at))
    ∙ ap (λ (o : Option (List ℕ)). joined o (bytes_for bytes starts last next)) (sym (is.ahead next past))
    ∙ is.observed next

-- a file that begins in the write buffer has bytes there
pub piece_some : (bytes starts piece : List ℕ) → IsCut (length bytes) starts → (i : ℕ) → i < length starts → piece ≡ piece_of bytes starts (i + 1) → 0 < length piece
piece_some bytes starts piece cut i lt is =
    let some = begun_has_bytes bytes starts cut i lt in
    let le = stop_within bytes starts cut (suc i) in
    let same : piece_of bytes starts (i + 1) ≡ piece_of bytes starts (suc i) = ap (piece_of bytes starts) (omega arith) in
    let len = ap length (is ∙ same) in
    let size = length-take (stop_of bytes starts (suc i) - start_of bytes starts (suc i)) (drop (start_of bytes starts (suc i)) bytes) in
    let rest = length-drop (start_of bytes starts (suc i)) bytes in
    omega (arith, len, size, rest)
