-- A log that grows by several entries, and a buffer that does.
use Rattle.std.proofs.Common.{◌≡◌, ◌≢◌, ℕ, ◌+◌, ◌*◌, ◌^◌, ◌<◌, Bool, true, List, [], ◌∷◌, ◌++◌, Option, map, refl, sym, ap, ap₂, subst, ◌∙◌, arith, nat_cmp, append_assoc, ◌⊎◌, inl, inr}
use Rattle.std.specs.Prelude.{Result, Ok, Err, OnOk, OnErr}
use Rattle.std.proofs.lemmas.Bool.{cases_order}
use Rattle.std.proofs.lemmas.List.{append-nil, map-append}
use Rattle.std.proofs.lemmas.Map.Keys.{sorted_from_strictly_increasing}
use Rattle.std.specs.List.Sorted.{IsStrictlySortedBy}
use Rattle.je_disk.specs.DiskMeaning.{DiskMeaning}
use Rattle.je_disk.specs.States.{Files, State}
use Rattle.je_disk.specs.Moments.{History, now}
use Rattle.je_disk.proofs.MomentLaws.{passes_none, passes_weaken}
use Rattle.log_entry.specs.declared.entry.Entry.{Entry}
use Rattle.log_entry.specs.Encoding.{size_of}
use Rattle.log_file.specs.Scan.{sizes_of}
use Rattle.log_file.specs.Log.{Log, IsLog}
use Rattle.log_file.specs.Placed.{Placed, placed}
use Rattle.log_file.proofs.EncodedLaws.{sizes-append}
use Rattle.log_file.proofs.PlacedLaws.{placed_go_last, placed_go_on}
use Rattle.log_buffer.specs.declared.buffer.LogBuffer.{LogBuffer}
use Rattle.log_buffer.specs.declared.log_pos.LogPos.{LogPos}
use Rattle.log_buffer.specs.Buffer.{disk_of, first_of, end_of, file_max_of, has_failed}
use Rattle.log_buffer.specs.Crash.{HoldPrefixes, Holds, IsKeptSince, KeepsRead, KeptThrough}
use Rattle.log_buffer.specs.Flip.{header_size, next_file, placed_at, end_after, end_after_all, pos_lsn, behind}
use Rattle.log_buffer.specs.Growth.{log_with_all, longer, SameJobs, KeepsLonger, Grew, Tried, GrewNone, GrewUnchanged, GrewThen, TriedThen, TriedMore}
use Rattle.log_buffer.specs.Laws.{placed_by, AppendedIsPlaced, AppendedArePlaced}
use Rattle.log_buffer.specs.Log.{EndsAt, HasLog, log_with}
use Rattle.log_buffer.proofs.BufferLog.{log_kept}
use Rattle.log_buffer.proofs.CrashAppend.{keeps_with}
use Rattle.log_buffer.proofs.LogChanges.{AreBelow, below_from, below_more, below_push, numbers_push, sorted_push, with_last, with_next}
use Rattle.log_buffer.proofs.LogPositions.{IsPlaced, is_placed, appends_join}
use Rattle.log_buffer.proofs.Prefixes.{prefixes_grow}
use Rattle.log_buffer.proofs.LogSplits.{below_in}
use Rattle.log_buffer.proofs.Staying.{kept_then}

-- ---- where a log ends

-- a log's numbers rise, and its last file ends here, whatever its entries are
pub record EndsIn (log : Log) (end : LogPos) : Type 0 where
  pub before : Log
  pub entries : List Entry
  pub log_is : log ≡ before ++ (end.file, entries) ∷ []
  pub offset_is : end.offset ≡ header_size + sizes_of entries
  pub sorted : IsStrictlySortedBy nat_cmp (map (λ file. file.0) log)

pub ends_in : (log : Log) (end : LogPos) (last : ℕ) → IsLog log → EndsAt log end.file end.offset last → EndsIn log end
ends_in log end last is ends = record {
  before = ends.before;
  entries = ends.entries;
  log_is = ends.log_is;
  offset_is = ends.offset_is;
  sorted = sorted_from_strictly_increasing _ is.rising;
}

-- the files before the last one are below it
below_end : (log : Log) (end : LogPos) (ends : EndsIn log end) → AreBelow end.file ends.before
below_end log end ends = below_from ends.before (end.file, ends.entries) (subst (λ (l : Log). IsStrictlySortedBy nat_cmp (map (λ file. file.0) l)) ends.log_is ends.sorted)

-- and all are below the next one
below_next : (log : Log) (end : LogPos) → EndsIn log end → AreBelow (end.file + 1) log
below_next log end ends =
    subst (AreBelow (end.file + 1)) (sym ends.log_is)
    (below_push (end.file + 1) ends.before (end.file, ends.entries) (below_more end.file (end.file + 1) ends.before (omega arith) (below_end log end ends)) (omega arith))

-- ---- an entry more

-- a log with an entry more at this place
record IsWith (log : Log) (at : LogPos) (e : Entry) : Type 0 where
  ends : EndsIn (log_with at.file e log) (behind at (size_of e))
  placed_is : placed (log_with at.file e log) ≡ placed log ++ (pos_lsn at, e) ∷ []

with_here : (log : Log) (end : LogPos) (e : Entry) → EndsIn log end → IsWith log end e
with_here log end e ends =
    let o = ends.offset_is in
    let size = sizes-append ends.entries (e ∷ []) in
    let log_now : log_with end.file e log ≡ ends.before ++ (end.file, ends.entries ++ e ∷ []) ∷ [] =
    ap (log_with end.file e) ends.log_is ∙ with_last ends.before end.file ends.entries e (below_end log end ends) in
    let at : end.file * 2 ^ 32 + (26 + sizes_of ends.entries) ≡ pos_lsn end = omega arith in
    record {
      ends = record {
        before = ends.before;
        entries = ends.entries ++ e ∷ [];
        log_is = log_now;
        offset_is = omega (arith, o, size);
        sorted = subst (IsStrictlySortedBy nat_cmp)
            (ap (map (λ file. file.0)) ends.log_is ∙ numbers_push ends.before end.file ends.entries (ends.entries ++ e ∷ []) ∙ sym (ap (map (λ file. file.0)) log_now)) ends.sorted;
      };
      placed_is = ap placed log_now ∙ placed_go_last ends.before end.file ends.entries e ∙ ap₂ (λ (l : List Placed) (n : ℕ). l ++ (n, e) ∷ []) (ap placed (sym ends.log_is)) at;
    }

with_new : (log : Log) (end : LogPos) (e : Entry) → EndsIn log end → IsWith log (next_file end) e
with_new log end e ends =
    let n = end.file + 1 in
    let below = below_next log end ends in
    let log_now : log_with n e log ≡ log ++ (n, e ∷ []) ∷ [] = with_next log n e below in
    record {
      ends = record {
        before = log;
        entries = e ∷ [];
        log_is = log_now;
        offset_is = omega arith;
        sorted = subst (IsStrictlySortedBy nat_cmp) (sym (ap (map (λ file. file.0)) log_now)) (sorted_push log (n, e ∷ []) ends.sorted below);
      };
      placed_is = ap placed log_now ∙ placed_go_on log n e;
    }

is_with : (log : Log) (end : LogPos) (file_max size : ℕ) (e : Entry) → EndsIn log end → IsWith log (placed_at file_max end size) e
is_with log end file_max size e ends = by_pos (is_placed file_max end size) (cases_order (placed_at file_max end size).file end.file) where
  next : IsPlaced file_max end size (placed_at file_max end size) → (placed_at file_max end size).file ≢ end.file → IsWith log (placed_at file_max end size) e
  next at apart = subst (λ (p : LogPos). IsWith log p e) (sym (at.next apart)) (with_new log end e ends)

  by_pos : IsPlaced file_max end size (placed_at file_max end size) → ((placed_at file_max end size).file ≡ end.file) ⊎ (((placed_at file_max end size).file < end.file) ⊎ (end.file < (placed_at file_max end size).file)) → IsWith log (placed_at file_max end size) e
  by_pos at (inl same) = subst (λ (p : LogPos). IsWith log p e) (sym (at.same same).0) (with_here log end e ends)
  by_pos at (inr (inl lt)) = next at (λ same. absurd (omega (arith, same)))
  by_pos at (inr (inr gt)) = next at (λ same. absurd (omega (arith, same)))

-- a log with entries more ends where they end
pub ends_with_all : (log : Log) (end : LogPos) (file_max : ℕ) (entries : List Entry) → EndsIn log end → EndsIn (log_with_all file_max end entries log) (end_after_all file_max end (map size_of entries))
ends_with_all log end file_max [] ends = ends
ends_with_all log end file_max (e ∷ entries) ends =
    ends_with_all (log_with (placed_at file_max end (size_of e)).file e log) (end_after file_max end (size_of e)) file_max entries (is_with log end file_max (size_of e) e ends).ends

pub appended_is_placed : AppendedIsPlaced
appended_is_placed log end last file_max size e is ends = (is_with log end file_max size e (ends_in log end last is ends)).placed_is

placed_all : (log : Log) (end : LogPos) (file_max : ℕ) (entries : List Entry) → EndsIn log end → placed (log_with_all file_max end entries log) ≡ placed log ++ placed_by file_max end entries
placed_all log end file_max [] ends = sym (append-nil (placed log))
placed_all log end file_max (e ∷ entries) ends =
    let at = placed_at file_max end (size_of e) in
    let one = is_with log end file_max (size_of e) e ends in
    placed_all (log_with at.file e log) (end_after file_max end (size_of e)) file_max entries one.ends
    ∙ ap (λ (l : List Placed). l ++ placed_by file_max (end_after file_max end (size_of e)) entries) one.placed_is
    ∙ append_assoc (placed log) ((pos_lsn at, e) ∷ []) (placed_by file_max (end_after file_max end (size_of e)) entries)

pub appended_are_placed : AppendedArePlaced
appended_are_placed log end last file_max entries is ends = placed_all log end file_max entries (ends_in log end last is ends)

-- ---- what a crash keeps of it

mid_below : (n : ℕ) (before : Log) (file : ℕ × List Entry) (after : Log) → AreBelow n (before ++ file ∷ after) → file.0 < n
mid_below n [] file after all = all.0
mid_below n (x ∷ before) file after all = mid_below n before file after all.1

read_with : (log removed : Log) (end : LogPos) (file_max size least : ℕ) (s : State) (e : Entry) → EndsIn log end → KeepsRead log removed least s → KeepsRead (log_with (placed_at file_max end size).file e log) removed least s
read_with log removed end file_max size least s e ends k =
    let f = (placed_at file_max end size).file in
    let keeps = k.keeps in
    let after = (is_placed file_max end size).after in
    let below : AreBelow keeps.at keeps.before =
    below_in keeps.before (keeps.at, keeps.kept ++ keeps.more) keeps.after (subst (λ (l : Log). IsStrictlySortedBy nat_cmp (map (λ file. file.0) l)) keeps.log_is ends.sorted) in
    let within : keeps.at < end.file + 1 = mid_below (end.file + 1) keeps.before (keeps.at, keeps.kept ++ keeps.more) keeps.after (subst (AreBelow (end.file + 1)) keeps.log_is (below_next log end ends)) in
    record {
      keeps = (keeps_with log removed least f s.crash_states e keeps (below_more keeps.at f keeps.before (omega arith) below)).keeps;
      read = k.read;
      prefixes = prefixes_grow f e log s.reads k.prefixes;
    }

pub read_with_all : (log removed : Log) (end : LogPos) (file_max least : ℕ) (entries : List Entry) (s : State) → EndsIn log end → KeepsRead log removed least s → KeepsRead (log_with_all file_max end entries log) removed least s
read_with_all log removed end file_max least [] s ends k = k
read_with_all log removed end file_max least (e ∷ entries) s ends k =
    read_with_all (log_with (placed_at file_max end (size_of e)).file e log) removed (end_after file_max end (size_of e)) file_max least entries s
    (is_with log end file_max (size_of e) e ends).ends (read_with log removed end file_max (size_of e) least s e ends k)

-- prefixes of a log are prefixes of a longer one
pub prefixes_with_all : (log : Log) (end : LogPos) (file_max : ℕ) (entries : List Entry) (reads : Files) → HoldPrefixes log reads → HoldPrefixes (log_with_all file_max end entries log) reads
prefixes_with_all log end file_max [] reads holds = holds
prefixes_with_all log end file_max (e ∷ entries) reads holds =
    prefixes_with_all (log_with (placed_at file_max end (size_of e)).file e log) (end_after file_max end (size_of e)) file_max entries reads
    (prefixes_grow (placed_at file_max end (size_of e)).file e log reads holds)

-- what is kept of a log through calls is kept of a longer one
pub through_with_all : (log removed : Log) (end : LogPos) (file_max least : ℕ) (entries : List Entry) (old new : History) → EndsIn log end → KeptThrough old new log removed least
    → KeptThrough old new (log_with_all file_max end entries log) removed least
through_with_all log removed end file_max least entries old new ends through =
    passes_weaken old new (IsKeptSince log removed least (now old).reads) (IsKeptSince (log_with_all file_max end entries log) removed least (now old).reads)
    (λ s k. record { kept = read_with_all log removed end file_max least entries s ends k.kept; stay = k.stay }) through

-- ---- some entries, and more

pub with_all-append : (file_max : ℕ) (end : LogPos) (a b : List Entry) (log : Log)
    → log_with_all file_max end (a ++ b) log ≡ log_with_all file_max (end_after_all file_max end (map size_of a)) b (log_with_all file_max end a log)
with_all-append file_max end [] b log = refl
with_all-append file_max end (e ∷ a) b log = with_all-append file_max (end_after file_max end (size_of e)) a b (log_with (placed_at file_max end (size_of e)).file e log)

module _ {D : Type 0} where
  pub jobs_then : (meaning : DiskMeaning D) (x y z : D) → SameJobs meaning x y → SameJobs meaning y z → SameJobs meaning x z
  jobs_then meaning x y z a b = record { syncs = b.syncs ∙ a.syncs; reads = b.reads ∙ a.reads; file = b.file ∙ a.file }

  pub jobs_same : (meaning : DiskMeaning D) (x y : D) → y ≡ x → SameJobs meaning x y
  jobs_same meaning x y same = record { syncs = ap meaning.sync_out same; reads = ap meaning.read_out same; file = ap meaning.read_of same }

  -- the longer log of a buffer that has grown
  longer_then : (x y : LogBuffer D) (a b : List Entry) (log : Log) → file_max_of y ≡ file_max_of x → end_of y ≡ end_after_all (file_max_of x) (end_of x) (map size_of a) → longer y b (longer x a log) ≡ longer x (a ++ b) log
  longer_then x y a b log max end =
      ap₂ (λ (m : ℕ) (p : LogPos). log_with_all m p b (longer x a log)) max end ∙ sym (with_all-append (file_max_of x) (end_of x) a b log)

  module _ (meaning : DiskMeaning D) where
    -- a buffer whose log is put into the write buffer, over the same disk
    pub grew_same : (x y : LogBuffer D) (entries : List Entry) → disk_of y ≡ disk_of x
        → ((log : Log) → HasLog meaning.observable (now (meaning.history (disk_of x))) x log → HasLog meaning.observable (now (meaning.history (disk_of x))) y (longer x entries log))
        → ((log removed : Log) (least : ℕ) (begun : Option ℕ) → HasLog meaning.observable (now (meaning.history (disk_of x))) x log → Holds log removed least begun (first_of x) (now (meaning.history (disk_of x))) → Holds (longer x entries log) removed least begun (first_of y) (now (meaning.history (disk_of x))))
        → end_of y ≡ end_after_all (file_max_of x) (end_of x) (map size_of entries) → file_max_of y ≡ file_max_of x → has_failed y ≡ has_failed x → Grew meaning x y entries
    grew_same x y entries disk log holds end max failed = record {
      log = λ l has. subst (λ (d : D). HasLog meaning.observable (now (meaning.history d)) y (longer x entries l)) (sym disk) (log l has);
      crash = λ observed l removed least begun has h. subst (λ (d : D). KeptThrough (meaning.history (disk_of x)) (meaning.history d) (longer x entries l) removed least) (sym disk) (passes_none (meaning.history (disk_of x)) _);
      holds = λ observed l removed least begun has h. subst (λ (d : D). Holds (longer x entries l) removed least begun (first_of y) (now (meaning.history d))) (sym disk) (holds l removed least begun has h);
      end = end;
      max = max;
      failed = failed;
      jobs = jobs_same meaning (disk_of x) (disk_of y) disk;
    }

    pub grew_unchanged : GrewUnchanged meaning
    grew_unchanged x y un = grew_same x y [] un.disk (λ log has. log_kept meaning.observable (now (meaning.history (disk_of x))) x y log un.kept has)
        (λ log removed least begun has h. subst (λ (n : ℕ). Holds log removed least begun n (now (meaning.history (disk_of x)))) (sym un.kept.first) h) un.kept.end un.kept.max un.failed

    pub grew_none : GrewNone meaning
    grew_none x = grew_same x x [] refl (λ log has. has) (λ log removed least begun has h. h) refl refl refl

    -- a buffer that has failed and was not touched
    pub tried_failed : (x : LogBuffer D) (entries : List Entry) → has_failed x ≡ true → Tried meaning x x entries
    tried_failed x entries failed = record {
      crash = λ observed log removed least begun has h. passes_none (meaning.history (disk_of x)) _;
      max = refl;
      failed = failed;
      jobs = jobs_same meaning (disk_of x) (disk_of x) refl;
    }

    -- an entry that is put into the write buffer at its place
    pub grew_put : {T E : Type 0} (r : Result T E) (x y : LogBuffer D) (e : Entry) (at : LogPos) → at ≡ placed_at (file_max_of x) (end_of x) (size_of e) → disk_of y ≡ disk_of x
        → ((observable : Bool) (state : State) (log : Log) → HasLog observable state x log → OnOk r (HasLog observable state y (log_with at.file e log)))
        → ((observable : Bool) (state : State) (log removed : Log) (least : ℕ) (begun : Option ℕ) → HasLog observable state x log → Holds log removed least begun (first_of x) state → OnOk r (Holds (log_with at.file e log) removed least begun (first_of y) state))
        → OnOk r (end_of y ≡ behind at (size_of e)) → file_max_of y ≡ file_max_of x → has_failed y ≡ has_failed x → OnOk r (Grew meaning x y (e ∷ []))
    grew_put (Ok v) x y e at is disk log holds end max failed =
        let s = now (meaning.history (disk_of x)) in
        grew_same x y (e ∷ []) disk (λ l has. subst (λ (p : LogPos). HasLog meaning.observable s y (log_with p.file e l)) is (log meaning.observable s l has))
        (λ l removed least begun has h. subst (λ (p : LogPos). Holds (log_with p.file e l) removed least begun (first_of y) s) is (holds meaning.observable s l removed least begun has h))
        (end ∙ ap (λ (p : LogPos). behind p (size_of e)) is) max failed
    grew_put (Err error) x y e at is disk log holds end max failed = tt

    -- however a call ends
    pub crash_either : {T E : Type 0} (r : Result T E) (x y : LogBuffer D) (entries : List Entry) → OnOk r (Grew meaning x y entries) → OnErr r (Tried meaning x y entries)
        → KeepsLonger meaning x y entries
    crash_either (Ok v) x y entries grew tried = grew.crash
    crash_either (Err e) x y entries grew tried = tried.crash

    pub jobs_either : {T E : Type 0} (r : Result T E) (x y : LogBuffer D) (entries : List Entry) → OnOk r (Grew meaning x y entries) → OnErr r (Tried meaning x y entries)
        → SameJobs meaning (disk_of x) (disk_of y)
    jobs_either (Ok v) x y entries grew tried = grew.jobs
    jobs_either (Err e) x y entries grew tried = tried.jobs

    -- through two calls a crash keeps of the log with the entries of both what it kept before the first one
    crash_then : (x y z : LogBuffer D) (a b : List Entry) → Grew meaning x y a → KeepsLonger meaning y z b → KeepsLonger meaning x z (a ++ b)
    crash_then x y z a b first second observed log removed least begun has h =
        let middle = first.log log has in
        let join = longer_then x y a b log first.max first.end in
        subst (λ (l : Log). KeptThrough (meaning.history (disk_of x)) (meaning.history (disk_of z)) l removed least) join
        (kept_then (longer y b (longer x a log)) removed least (meaning.history (disk_of x)) (meaning.history (disk_of y)) (meaning.history (disk_of z))
        (through_with_all (longer x a log) removed (end_of y) (file_max_of y) least b (meaning.history (disk_of x)) (meaning.history (disk_of y)) (ends_in (longer x a log) (end_of y) _ middle.is_log middle.ends)
        (first.crash observed log removed least begun has h))
        (second observed (longer x a log) removed least begun middle (first.holds observed log removed least begun has h)))

    pub grew_then : GrewThen meaning
    grew_then x y z a b first second = record {
      log = λ log has. subst (λ (l : Log). HasLog meaning.observable (now (meaning.history (disk_of z))) z l) (longer_then x y a b log first.max first.end) (second.log (longer x a log) (first.log log has));
      crash = crash_then x y z a b first second.crash;
      holds = λ observed log removed least begun has h. subst (λ (l : Log). Holds l removed least begun (first_of z) (now (meaning.history (disk_of z)))) (longer_then x y a b log first.max first.end)
          (second.holds observed (longer x a log) removed least begun (first.log log has) (first.holds observed log removed least begun has h));
      end = second.end ∙ ap₂ (λ (m : ℕ) (p : LogPos). end_after_all m p (map size_of b)) first.max first.end ∙ sym (appends_join (file_max_of x) (end_of x) (map size_of a) (map size_of b))
          ∙ ap (end_after_all (file_max_of x) (end_of x)) (sym (map-append size_of a b));
      max = second.max ∙ first.max;
      failed = second.failed ∙ first.failed;
      jobs = jobs_then meaning (disk_of x) (disk_of y) (disk_of z) first.jobs second.jobs;
    }

    pub tried_then : TriedThen meaning
    tried_then x y z a b first second = record {
      crash = crash_then x y z a b first second.crash;
      max = second.max ∙ first.max;
      failed = second.failed;
      jobs = jobs_then meaning (disk_of x) (disk_of y) (disk_of z) first.jobs second.jobs;
    }

    pub tried_more : TriedMore meaning
    tried_more x y a b first = record {
      crash = λ observed log removed least begun has h.
          subst (λ (l : Log). KeptThrough (meaning.history (disk_of x)) (meaning.history (disk_of y)) l removed least) (sym (with_all-append (file_max_of x) (end_of x) a b log))
          (through_with_all (longer x a log) removed (end_after_all (file_max_of x) (end_of x) (map size_of a)) (file_max_of x) least b (meaning.history (disk_of x)) (meaning.history (disk_of y))
          (ends_with_all log (end_of x) (file_max_of x) a (ends_in log (end_of x) _ has.is_log has.ends)) (first.crash observed log removed least begun has h));
      max = first.max;
      failed = first.failed;
      jobs = first.jobs;
    }
