-- The log of a buffer that begins, whose write buffer was written, or that a file was taken from.
use Rattle.std.proofs.Common.{◌≡◌, ◌≢◌, ℕ, ◌<◌, ◌^◌, ◌==◌, Bool, true, false, cond, not, List, [], ◌∷◌, ◌++◌, Option, Some, None, length, map, refl, sym, ap, ap₂, subst, ◌∙◌, arith, option_map, ◌⊎◌, inl, inr}
use Rattle.std.specs.Prelude.{unwrap_or}
use Rattle.std.proofs.lemmas.Bool.Decides.{nat_tests}
use Rattle.std.proofs.lemmas.Bool.{cases_order, eqb-true}
use Rattle.std.proofs.lemmas.List.{append-nil}
use Rattle.std.proofs.lemmas.List.Kept.{IsStrictlyIncreasing-filter}
use Rattle.std.specs.List.{AllByRecursion, filter}
use Rattle.std.specs.List.Sorted.{IsStrictlyIncreasing}
use Rattle.std.specs.Map.{lookup}
use Rattle.je_disk.specs.States.{State, Files, content, put_at, removed, removed_by}
use Rattle.log_entry.specs.declared.entry.Entry.{Entry}
use Rattle.log_entry.specs.declared.entry.Entry.TheVariants.{FileHeader}
use Rattle.log_entry.specs.Encoding.{encoding}
use Rattle.log_file.specs.Log.{Log, IsLog, AreFileEntries, file_bytes, files_of_log}
use Rattle.log_file.proofs.EncodedLaws.{length-file_bytes}
use Rattle.log_buffer.specs.declared.buffer.LogBuffer.{LogBuffer}
use Rattle.log_buffer.specs.Buffer.{file_of, offset_of, last_of, first_of, written_of, flushed_len_of, unwritten_of, joined, IsWritten}
use Rattle.log_buffer.specs.Log.{HasLog, EndsAt, IsFront, ReadAs, ReadAsBut, log_without}
use Rattle.log_buffer.proofs.LogChanges.{AreBelow, below_last, below_more, below_push, lookup_last, lookup_none, lookup_push}
use Rattle.log_buffer.proofs.FilesWritten.{put_same, put_other}

-- ---- an empty write buffer

-- the buffer's write buffer is empty, and its first file is the last one
pub record IsAtEnd {D : Type 0} (buffer : LogBuffer D) : Type 0 where
  pub empty : IsWritten buffer
  pub first : first_of buffer ≡ file_of buffer
  pub flushed_len : flushed_len_of buffer ≡ offset_of buffer

length_last : (reads : Files) (log : Log) (file offset last : ℕ) → IsLog log → EndsAt log file offset last → ((f : ℕ) → reads f ≡ files_of_log log f) → offset ≡ length (content reads file)
length_last reads log file offset last is ends same =
    let below = below_last ends.before (file, ends.entries) (subst IsLog ends.log_is is) in
    let there : reads file ≡ Some (file_bytes file ends.entries) = same file ∙ ap (λ (l : Log). files_of_log l file) ends.log_is ∙ ap (option_map (file_bytes file)) (lookup_last ends.before file ends.entries below) in
    ends.offset_is ∙ sym (length-file_bytes file ends.entries) ∙ sym (ap (λ (o : Option (List ℕ)). length (unwrap_or o [])) there)

front_at_end : (reads : Files) (log : Log) (file offset last : ℕ) → IsLog log → EndsAt log file offset last → ((f : ℕ) → reads f ≡ files_of_log log f) → IsFront log file (content reads file)
front_at_end reads log file offset last is ends same =
    let below = below_last ends.before (file, ends.entries) (subst IsLog ends.log_is is) in
    let found = ap (λ (l : Log). lookup (λ n. n == file) l) ends.log_is ∙ lookup_last ends.before file ends.entries below in
    record {
      entries = ends.entries;
      more = [];
      in_log = found ∙ ap (λ (x : List Entry). Some x) (sym (append-nil ends.entries));
      bytes_are = inr (ap (λ (o : Option (List ℕ)). unwrap_or o []) (same file ∙ ap (option_map (file_bytes file)) found));
    }

below_all : (log : Log) (file offset last f : ℕ) → IsLog log → EndsAt log file offset last → file < f → AreBelow f log
below_all log file offset last f is ends after =
    subst (AreBelow f) (sym ends.log_is)
    (below_push f ends.before (file, ends.entries) (below_more file f ends.before (omega arith) (below_last ends.before (file, ends.entries) (subst IsLog ends.log_is is))) after)

-- files that read as a log, with an empty write buffer at their end, have that log
pub log_at_end : {D : Type 0} (observable : Bool) (state : State) (buffer : LogBuffer D) (log : Log) → IsAtEnd buffer → IsLog log → EndsAt log (file_of buffer) (offset_of buffer) (last_of buffer)
    → ReadAs observable state.reads log → HasLog observable state buffer log
log_at_end observable state buffer log at is ends read = record {
  is_log = is;
  ends = ends;
  observed = λ t f. ap (joined (state.reads f)) (at.empty f) ∙ read t f;
  flushed_len = λ t w. at.flushed_len ∙ length_last state.reads log (file_of buffer) (offset_of buffer) (last_of buffer) is ends (read t) ∙ ap (λ (k : ℕ). length (content state.reads k)) (sym at.first);
  ahead = λ t f after. read t f ∙ ap (option_map (file_bytes f)) (lookup_none log f (below_all log (file_of buffer) (offset_of buffer) (last_of buffer) f is ends (let same = at.first in omega (arith, same))));
  front = λ t w. subst (λ (k : ℕ). IsFront log k (content state.reads k)) (sym at.first) (front_at_end state.reads log (file_of buffer) (offset_of buffer) (last_of buffer) is ends (read t));
}

pub whole_written : {D : Type 0} (observable : Bool) (before after : State) (old : LogBuffer D) (log : Log)
    → (observable ≡ true → (f : ℕ) → after.reads f ≡ joined (before.reads f) (unwritten_of old f)) → HasLog observable before old log → ReadAs observable after.reads log
whole_written observable before after old log written has = λ t f. written t f ∙ has.observed t f

-- the write buffer was written
pub log_written : {D : Type 0} (observable : Bool) (before after : State) (old new : LogBuffer D) (log : Log) → IsAtEnd new → file_of new ≡ file_of old → offset_of new ≡ offset_of old → last_of new ≡ last_of old
    → (observable ≡ true → (f : ℕ) → after.reads f ≡ joined (before.reads f) (unwritten_of old f)) → HasLog observable before old log → HasLog observable after new log
log_written observable before after old new log at file offset last written has =
    let ends : EndsAt log (file_of new) (offset_of new) (last_of new) =
    subst (λ (k : ℕ). EndsAt log k (offset_of new) (last_of new)) (sym file)
    (subst (λ (k : ℕ). EndsAt log (file_of old) k (last_of new)) (sym offset)
    (subst (λ (k : ℕ). EndsAt log (file_of old) (offset_of old) k) (sym last) has.ends)) in
    log_at_end observable after new log at has.is_log ends (whole_written observable before after old log written has)

-- ---- a header alone

header_bytes : (f : ℕ) → encoding (FileHeader 1 f) 0 ≡ file_bytes f []
header_bytes f = sym (append-nil (encoding (FileHeader 1 f) 0))

joined_content : (there : Option (List ℕ)) (bytes : List ℕ) → unwrap_or there [] ≡ [] → 0 < length bytes → joined there bytes ≡ Some bytes
joined_content there [] empty some = absurd (omega arith)
joined_content there (b ∷ bytes) empty some = ap (λ (x : List ℕ). Some (x ++ b ∷ bytes)) empty

pub log_created : {D : Type 0} (observable : Bool) (state : State) (buffer : LogBuffer D) (before : Log) → first_of buffer ≡ file_of buffer → offset_of buffer ≡ 26 → last_of buffer ≡ 0 → flushed_len_of buffer ≡ 0
    → unwritten_of buffer (file_of buffer) ≡ encoding (FileHeader 1 (file_of buffer)) 0 → ((f : ℕ) → f ≢ file_of buffer → unwritten_of buffer f ≡ [])
    → IsLog (before ++ (file_of buffer, []) ∷ []) → ReadAsBut observable (file_of buffer) state.reads before → HasLog observable state buffer (before ++ (file_of buffer, []) ∷ [])
log_created observable state buffer before first offset last flushed_len at_file others is read = record {
  is_log = is;
  ends = record { before = before; entries = []; log_is = refl; offset_is = offset; last_is = last };
  observed = λ t f. observed t f (cases_order f n);
  flushed_len = λ t w. flushed_len ∙ sym (ap length (read t).0) ∙ ap (λ (k : ℕ). length (content state.reads k)) (sym first);
  ahead = λ t f after. (read t).1 f (λ same. absurd (omega (arith, first, same)))
      ∙ ap (option_map (file_bytes f)) (lookup_none before f (below_more (file_of buffer) f before (omega (arith, first)) (below_last before (file_of buffer, []) is)));
  front = λ t w. subst (λ (k : ℕ). IsFront (before ++ (file_of buffer, []) ∷ []) k (content state.reads k)) (sym first)
      (record { entries = []; more = []; in_log = lookup_last before (file_of buffer) [] (below_last before (file_of buffer, []) is); bytes_are = inl (read t).0 });
} where
  n : ℕ
  n = file_of buffer

  same : observable ≡ true → joined (state.reads (file_of buffer)) (unwritten_of buffer (file_of buffer)) ≡ files_of_log (before ++ (file_of buffer, []) ∷ []) (file_of buffer)
  same t =
      ap (joined (state.reads (file_of buffer))) (at_file ∙ header_bytes (file_of buffer))
      ∙ joined_content (state.reads (file_of buffer)) (file_bytes (file_of buffer) []) (read t).0 (omega (arith, length-file_bytes (file_of buffer) []))
      ∙ sym (ap (option_map (file_bytes (file_of buffer))) (lookup_last before (file_of buffer) [] (below_last before (file_of buffer, []) is)))

  other : observable ≡ true → (f : ℕ) → f ≢ file_of buffer → joined (state.reads f) (unwritten_of buffer f) ≡ files_of_log (before ++ (file_of buffer, []) ∷ []) f
  other t f apart = ap (joined (state.reads f)) (others f apart) ∙ (read t).1 f apart ∙ sym (ap (option_map (file_bytes f)) (lookup_push before (file_of buffer) f [] apart))

  observed : observable ≡ true → (f : ℕ) → (f ≡ file_of buffer) ⊎ ((f < file_of buffer) ⊎ (file_of buffer < f)) → joined (state.reads f) (unwritten_of buffer f) ≡ files_of_log (before ++ (file_of buffer, []) ∷ []) f
  observed t f (inl is) = subst (λ (k : ℕ). joined (state.reads k) (unwritten_of buffer k) ≡ files_of_log (before ++ (file_of buffer, []) ∷ []) k) (sym is) (same t)
  observed t f (inr (inl lt)) = other t f (λ is. absurd (omega (arith, is)))
  observed t f (inr (inr gt)) = other t f (λ is. absurd (omega (arith, is)))

-- ---- without a file

numbers_without : (f : ℕ) (log : Log) → map (λ file. file.0) (log_without f log) ≡ filter (λ n. not (n == f)) (map (λ file. file.0) log)
numbers_without f [] = refl
numbers_without f (file ∷ log) = by_case (numbers_without f log) (not (file.0 == f)) where
  by_case : map (λ x. x.0) (log_without f log) ≡ filter (λ n. not (n == f)) (map (λ x. x.0) log) → (b : Bool) → map (λ x. x.0) (cond b (file ∷ log_without f log) (log_without f log)) ≡ cond b (file.0 ∷ filter (λ n. not (n == f)) (map (λ x. x.0) log)) (filter (λ n. not (n == f)) (map (λ x. x.0) log))
  by_case more true = ap (λ (l : List ℕ). file.0 ∷ l) more
  by_case more false = more

all_without : (P : ℕ × List Entry → Type 0) (f : ℕ) (log : Log) → AllByRecursion P log → AllByRecursion P (log_without f log)
all_without P f [] all = tt
all_without P f (file ∷ log) all = by_case (all_without P f log all.1) (not (file.0 == f)) where
  by_case : AllByRecursion P (log_without f log) → (b : Bool) → AllByRecursion P (cond b (file ∷ log_without f log) (log_without f log))
  by_case more true = (all.0, more)
  by_case more false = more

is_log_without : (f : ℕ) (log : Log) → IsLog log → IsLog (log_without f log)
is_log_without f log is = record {
  rising = subst IsStrictlyIncreasing (sym (numbers_without f log)) (IsStrictlyIncreasing-filter (λ n. not (n == f)) (map (λ file. file.0) log) is.rising);
  each = all_without (λ file. (file.0 < 2 ^ 32) × AreFileEntries file.1) f log is.each;
}

without_last : (f n : ℕ) (before : Log) (es : List Entry) → f ≢ n → log_without f (before ++ (n, es) ∷ []) ≡ log_without f before ++ (n, es) ∷ []
without_last f n [] es apart = ap (λ (b : Bool). cond b ((n, es) ∷ []) []) (let t : not (n == f) ≡ true = grind (arith, nat_tests) in t)
without_last f n (file ∷ before) es apart = by_case (without_last f n before es apart) (not (file.0 == f)) where
  by_case : log_without f (before ++ (n, es) ∷ []) ≡ log_without f before ++ (n, es) ∷ [] → (b : Bool) → cond b (file ∷ log_without f (before ++ (n, es) ∷ [])) (log_without f (before ++ (n, es) ∷ [])) ≡ cond b (file ∷ log_without f before) (log_without f before) ++ (n, es) ∷ []
  by_case more true = ap (λ (l : Log). file ∷ l) more
  by_case more false = more

lookup_gone : (f : ℕ) (log : Log) → lookup (λ n. n == f) (log_without f log) ≡ None
lookup_gone f [] = refl
lookup_gone f (file ∷ log) = by_case (lookup_gone f log) (file.0 == f) refl where
  by_case : lookup (λ n. n == f) (log_without f log) ≡ None → (b : Bool) → (file.0 == f) ≡ b → lookup (λ n. n == f) (cond (not b) (file ∷ log_without f log) (log_without f log)) ≡ None
  by_case more true is = more
  by_case more false is = ap (λ (b : Bool). cond b (Some file.1) (lookup (λ n. n == f) (log_without f log))) is ∙ more

lookup_stays : (f g : ℕ) (log : Log) → g ≢ f → lookup (λ n. n == g) (log_without f log) ≡ lookup (λ n. n == g) log
lookup_stays f g [] apart = refl
lookup_stays f g (file ∷ log) apart = by_case (lookup_stays f g log apart) (file.0 == f) refl where
  by_case : lookup (λ n. n == g) (log_without f log) ≡ lookup (λ n. n == g) log → (b : Bool) → (file.0 == f) ≡ b → lookup (λ n. n == g) (cond (not b) (file ∷ log_without f log) (log_without f log)) ≡ cond (file.0 == g) (Some file.1) (lookup (λ n. n == g) log)
  by_case more true is =
      let here : file.0 ≡ f = eqb-true _ _ is in
      more ∙ sym (ap (λ (b : Bool). cond b (Some file.1) (lookup (λ n. n == g) log)) (let t : (file.0 == g) ≡ false = grind (arith, nat_tests) in t))
  by_case more false is = ap (λ (o : Option (List Entry)). cond (file.0 == g) (Some file.1) o) more

removed_by_reads : (there : Option (List ℕ)) (f : ℕ) (s : State) (g : ℕ) → s.reads f ≡ there → (removed_by there f s).reads g ≡ put_at s.reads f None g
removed_by_reads None f s g is = by_case (g == f) refl where
  by_case : (b : Bool) → (g == f) ≡ b → s.reads g ≡ cond b None (s.reads g)
  by_case true same = ap s.reads (eqb-true _ _ same) ∙ is
  by_case false same = refl
removed_by_reads (Some there) f s g is = refl

removed_reads : (f : ℕ) (s : State) (g : ℕ) → (removed f s).reads g ≡ put_at s.reads f None g
removed_reads f s g = removed_by_reads (s.reads f) f s g refl

pub log_removed : {D : Type 0} (observable : Bool) (before after : State) (old new : LogBuffer D) (log : Log) (f : ℕ) → f < written_of old → unwritten_of old f ≡ [] → f ≢ file_of old → f ≢ first_of old ⊎ (written_of old ≢ first_of old)
    → file_of new ≡ file_of old → offset_of new ≡ offset_of old → last_of new ≡ last_of old → first_of new ≡ first_of old → written_of new ≡ written_of old → flushed_len_of new ≡ flushed_len_of old
    → ((g : ℕ) → unwritten_of new g ≡ unwritten_of old g) → (observable ≡ true → after ≡ removed f before) → HasLog observable before old log → HasLog observable after new (log_without f log)
log_removed observable before after old new log f below none apart first_apart file offset last first written flushed_len unwritten gone has = record {
  is_log = is_log_without f log has.is_log;
  ends = record {
    before = log_without f has.ends.before;
    entries = has.ends.entries;
    log_is = ap (log_without f) has.ends.log_is ∙ without_last f (file_of old) has.ends.before has.ends.entries apart ∙ ap (λ (k : ℕ). log_without f has.ends.before ++ (k, has.ends.entries) ∷ []) (sym file);
    offset_is = offset ∙ has.ends.offset_is;
    last_is = last ∙ has.ends.last_is;
  };
  observed = λ t g. ap (joined (after.reads g)) (unwritten g) ∙ observed t g (cases_order g f);
  flushed_len = λ t w. flushed_len ∙ has.flushed_len t (sym written ∙ w ∙ first) ∙ ap length (content_at t (sym written ∙ w ∙ first) first_apart);
  ahead = λ t k after. ahead_at t k (let same = first in omega (arith, same)) (cases_order k f);
  front = λ t w. front_at t (sym written ∙ w ∙ first) first_apart;
} where
  reads : observable ≡ true → (g : ℕ) → after.reads g ≡ put_at before.reads f None g
  reads t g = ap (λ (s : State). s.reads g) (gone t) ∙ removed_reads f before g

  same : observable ≡ true → joined (after.reads f) (unwritten_of old f) ≡ files_of_log (log_without f log) f
  same t =
      ap₂ (λ (o : Option (List ℕ)) (b : List ℕ). joined o b) (reads t f ∙ put_same before.reads f f None refl) none
      ∙ sym (ap (option_map (file_bytes f)) (lookup_gone f log))

  other : observable ≡ true → (g : ℕ) → g ≢ f → joined (after.reads g) (unwritten_of old g) ≡ files_of_log (log_without f log) g
  other t g differs =
      ap (λ (o : Option (List ℕ)). joined o (unwritten_of old g)) (reads t g ∙ put_other before.reads f g None differs)
      ∙ has.observed t g ∙ sym (ap (option_map (file_bytes g)) (lookup_stays f g log differs))

  observed : observable ≡ true → (g : ℕ) → (g ≡ f) ⊎ ((g < f) ⊎ (f < g)) → joined (after.reads g) (unwritten_of old g) ≡ files_of_log (log_without f log) g
  observed t g (inl is) = subst (λ (k : ℕ). joined (after.reads k) (unwritten_of old k) ≡ files_of_log (log_without f log) k) (sym is) (same t)
  observed t g (inr (inl lt)) = other t g (λ is. absurd (omega (arith, is)))
  observed t g (inr (inr gt)) = other t g (λ is. absurd (omega (arith, is)))

  ahead_at : observable ≡ true → (k : ℕ) → first_of old < k → (k ≡ f) ⊎ ((k < f) ⊎ (f < k)) → after.reads k ≡ None
  ahead_at t k past (inl is) = reads t k ∙ put_same before.reads f k None is
  ahead_at t k past (inr (inl lt)) = reads t k ∙ put_other before.reads f k None (λ is. absurd (omega (arith, is))) ∙ has.ahead t k past
  ahead_at t k past (inr (inr gt)) = reads t k ∙ put_other before.reads f k None (λ is. absurd (omega (arith, is))) ∙ has.ahead t k past

  content_at : observable ≡ true → written_of old ≡ first_of old → f ≢ first_of old ⊎ (written_of old ≢ first_of old) → content before.reads (first_of old) ≡ content after.reads (first_of new)
  content_at t w (inr never) = absurd (never w)
  content_at t w (inl differs) =
      sym (ap (λ (k : ℕ). content after.reads k) first
      ∙ ap (λ (o : Option (List ℕ)). unwrap_or o []) (reads t (first_of old) ∙ put_other before.reads f (first_of old) None (λ is. differs (sym is))))

  bytes_at : (es : List Entry) → content after.reads (first_of new) ≡ content before.reads (first_of old) → (content before.reads (first_of old) ≡ []) ⊎ (content before.reads (first_of old) ≡ file_bytes (first_of old) es)
      → (content after.reads (first_of new) ≡ []) ⊎ (content after.reads (first_of new) ≡ file_bytes (first_of new) es)
  bytes_at es as_was (inl none_there) = inl (as_was ∙ none_there)
  bytes_at es as_was (inr there) = inr (as_was ∙ there ∙ ap (λ (k : ℕ). file_bytes k es) (sym first))

  front_at : observable ≡ true → written_of old ≡ first_of old → f ≢ first_of old ⊎ (written_of old ≢ first_of old) → IsFront (log_without f log) (first_of new) (content after.reads (first_of new))
  front_at t w (inr never) = absurd (never w)
  front_at t w (inl differs) =
      let old_front = has.front t w in
      let as_was : content after.reads (first_of new) ≡ content before.reads (first_of old) = sym (content_at t w (inl differs)) in
      record {
        entries = old_front.entries;
        more = old_front.more;
        in_log = ap (λ (k : ℕ). lookup (λ n. n == k) (log_without f log)) first ∙ lookup_stays f (first_of old) log (λ is. differs (sym is)) ∙ old_front.in_log;
        bytes_are = bytes_at old_front.entries as_was old_front.bytes_are;
      }
