-- The log of a buffer with an entry more in its write buffer.
use Rattle.std.proofs.Common.{◌≡◌, ◌≢◌, ℕ, ◌+◌, ◌<◌, ◌^◌, ◌==◌, Bool, true, List, [], ◌∷◌, ◌++◌, Option, Some, None, length, sym, ap, subst, ◌∙◌, arith, option_map, append_assoc, ◌⊎◌, inl, inr}
use Rattle.std.specs.Prelude.{unwrap_or}
use Rattle.std.proofs.lemmas.Bool.{cases_order}
use Rattle.std.proofs.lemmas.List.{append-nil}
use Rattle.std.specs.Map.{lookup}
use Rattle.je_disk.specs.States.{State, Files, content}
use Rattle.log_entry.specs.declared.entry.Entry.{Entry}
use Rattle.log_entry.specs.declared.entry.Entry.TheVariants.{FileHeader}
use Rattle.log_entry.specs.Body.{IsEntry}
use Rattle.log_entry.specs.Encoding.{encoding, size_of}
use Rattle.log_entry.specs.Prefix.{last_from}
use Rattle.log_file.specs.Scan.{may_follow}
use Rattle.log_file.specs.Log.{Log, IsLog, AreFileEntries, file_bytes, files_of_log}
use Rattle.log_file.specs.Laws.{IsGrown}
use Rattle.log_file.proofs.EncodedLaws.{grow_by_append, length-file_bytes}
use Rattle.log_buffer.specs.declared.buffer.LogBuffer.{LogBuffer}
use Rattle.log_buffer.specs.Flip.{header_size}
use Rattle.log_buffer.specs.Buffer.{file_of, offset_of, last_of, first_of, written_of, flushed_len_of, unwritten_of, joined}
use Rattle.log_buffer.specs.Log.{HasLog, EndsAt, IsFront, log_with}
use Rattle.log_buffer.proofs.LogChanges.{AreBelow, below_last, below_more, below_push, is_log_push, is_log_last, last_entries, lookup_last, lookup_none, lookup_push, with_last, with_next}

-- ---- more bytes behind a file's

pub joined_more : (there : Option (List ℕ)) (unwritten more bytes : List ℕ) → joined there unwritten ≡ Some bytes → joined there (unwritten ++ more) ≡ Some (bytes ++ more)
joined_more None [] [] bytes is = absurd cc
joined_more None [] (m ∷ more) bytes is = absurd cc
joined_more (Some b) [] [] bytes is = is ∙ ap (λ (x : List ℕ). Some x) (sym (append-nil bytes))
joined_more (Some b) [] (m ∷ more) bytes is = ap (λ (o : Option (List ℕ)). Some (unwrap_or o [] ++ m ∷ more)) is
joined_more there (t ∷ unwritten) more bytes is =
    ap (λ (x : List ℕ). Some x) (sym (append_assoc (unwrap_or there []) (t ∷ unwritten) more)) ∙ ap (λ (o : Option (List ℕ)). Some (unwrap_or o [] ++ more)) is

pub joined_none : (there : Option (List ℕ)) (more : List ℕ) → there ≡ None → 0 < length more → joined there more ≡ Some more
joined_none there [] none some = absurd (omega arith)
joined_none there (m ∷ more) none some = ap (λ (o : Option (List ℕ)). Some (unwrap_or o [] ++ m ∷ more)) none

-- ---- the files' bytes

file_last : (before : Log) (n : ℕ) (es : List Entry) → AreBelow n before → files_of_log (before ++ (n, es) ∷ []) n ≡ Some (file_bytes n es)
file_last before n es below = ap (option_map (file_bytes n)) (lookup_last before n es below)

file_other : (before : Log) (n f : ℕ) (es : List Entry) → f ≢ n → files_of_log (before ++ (n, es) ∷ []) f ≡ files_of_log before f
file_other before n f es apart = ap (option_map (file_bytes f)) (lookup_push before n f es apart)

pub observed_last : (reads : Files) (unwritten new : ℕ → List ℕ) (before : Log) (n : ℕ) (es : List Entry) (e : Entry) → AreBelow n before → IsGrown n es e
    → ((f : ℕ) → joined (reads f) (unwritten f) ≡ files_of_log (before ++ (n, es) ∷ []) f) → new n ≡ unwritten n ++ encoding e (last_from 0 26 es) → ((f : ℕ) → f ≢ n → new f ≡ unwritten f)
    → (f : ℕ) → joined (reads f) (new f) ≡ files_of_log (before ++ (n, es ++ e ∷ []) ∷ []) f
observed_last reads unwritten new before n es e below grown observed at_n others f = by_order (cases_order f n) where
  other : f ≢ n → joined (reads f) (new f) ≡ files_of_log (before ++ (n, es ++ e ∷ []) ∷ []) f
  other apart = ap (joined (reads f)) (others f apart) ∙ observed f ∙ file_other before n f es apart ∙ sym (file_other before n f (es ++ e ∷ []) apart)

  same : joined (reads n) (new n) ≡ files_of_log (before ++ (n, es ++ e ∷ []) ∷ []) n
  same =
      ap (joined (reads n)) at_n
      ∙ joined_more (reads n) (unwritten n) (encoding e (last_from 0 26 es)) (file_bytes n es) (observed n ∙ file_last before n es below)
      ∙ ap (λ (x : List ℕ). Some x) (sym grown.bytes)
      ∙ sym (file_last before n (es ++ e ∷ []) below)

  by_order : (f ≡ n) ⊎ ((f < n) ⊎ (n < f)) → joined (reads f) (new f) ≡ files_of_log (before ++ (n, es ++ e ∷ []) ∷ []) f
  by_order (inl is) = subst (λ (k : ℕ). joined (reads k) (new k) ≡ files_of_log (before ++ (n, es ++ e ∷ []) ∷ []) k) (sym is) same
  by_order (inr (inl lt)) = other (λ is. absurd (omega (arith, is)))
  by_order (inr (inr gt)) = other (λ is. absurd (omega (arith, is)))

pub observed_next : (reads : Files) (unwritten new : ℕ → List ℕ) (log : Log) (n : ℕ) (es : List Entry) → AreBelow n log
    → ((f : ℕ) → joined (reads f) (unwritten f) ≡ files_of_log log f) → unwritten n ≡ [] → new n ≡ file_bytes n es → ((f : ℕ) → f ≢ n → new f ≡ unwritten f)
    → (f : ℕ) → joined (reads f) (new f) ≡ files_of_log (log ++ (n, es) ∷ []) f
observed_next reads unwritten new log n es below observed none at_n others f = by_order (cases_order f n) where
  other : f ≢ n → joined (reads f) (new f) ≡ files_of_log (log ++ (n, es) ∷ []) f
  other apart = ap (joined (reads f)) (others f apart) ∙ observed f ∙ sym (file_other log n f es apart)

  nothing : reads n ≡ None
  nothing = sym (ap (joined (reads n)) none) ∙ observed n ∙ ap (option_map (file_bytes n)) (lookup_none log n below)

  same : joined (reads n) (new n) ≡ files_of_log (log ++ (n, es) ∷ []) n
  same =
      ap (joined (reads n)) at_n
      ∙ joined_none (reads n) (file_bytes n es) nothing (omega (arith, length-file_bytes n es))
      ∙ sym (file_last log n es below)

  by_order : (f ≡ n) ⊎ ((f < n) ⊎ (n < f)) → joined (reads f) (new f) ≡ files_of_log (log ++ (n, es) ∷ []) f
  by_order (inl is) = subst (λ (k : ℕ). joined (reads k) (new k) ≡ files_of_log (log ++ (n, es) ∷ []) k) (sym is) same
  by_order (inr (inl lt)) = other (λ is. absurd (omega (arith, is)))
  by_order (inr (inr gt)) = other (λ is. absurd (omega (arith, is)))

-- ---- what is on the disk

same_some : {X : Type 0} (x y : X) → (let o : Option X = Some x in o) ≡ Some y → x ≡ y
same_some x y is = cc

pub front_last : (before : Log) (n : ℕ) (es : List Entry) (e : Entry) (f : ℕ) (bytes : List ℕ) → AreBelow n before → IsFront (before ++ (n, es) ∷ []) f bytes → IsFront (before ++ (n, es ++ e ∷ []) ∷ []) f bytes
front_last before n es e f bytes below front = by_order (cases_order f n) where
  other : f ≢ n → IsFront (before ++ (n, es ++ e ∷ []) ∷ []) f bytes
  other apart = record {
    entries = front.entries;
    more = front.more;
    in_log = lookup_push before n f (es ++ e ∷ []) apart ∙ sym (lookup_push before n f es apart) ∙ front.in_log;
    bytes_are = front.bytes_are;
  }

  by_order : (f ≡ n) ⊎ ((f < n) ⊎ (n < f)) → IsFront (before ++ (n, es ++ e ∷ []) ∷ []) f bytes
  by_order (inl is) =
      let all : es ≡ front.entries ++ front.more = same_some es (front.entries ++ front.more) (sym (lookup_last before n es below) ∙ ap (λ (k : ℕ). lookup (λ m. m == k) (before ++ (n, es) ∷ [])) (sym is) ∙ front.in_log) in
      record {
        entries = front.entries;
        more = front.more ++ e ∷ [];
        in_log = ap (λ (k : ℕ). lookup (λ m. m == k) (before ++ (n, es ++ e ∷ []) ∷ [])) is ∙ lookup_last before n (es ++ e ∷ []) below
            ∙ ap (λ (x : List Entry). Some x) (ap (λ (x : List Entry). x ++ e ∷ []) all ∙ append_assoc front.entries front.more (e ∷ []));
        bytes_are = front.bytes_are;
      }
  by_order (inr (inl lt)) = other (λ is. absurd (omega (arith, is)))
  by_order (inr (inr gt)) = other (λ is. absurd (omega (arith, is)))

pub front_next : (log : Log) (n : ℕ) (es : List Entry) (f : ℕ) (bytes : List ℕ) → AreBelow n log → IsFront log f bytes → IsFront (log ++ (n, es) ∷ []) f bytes
front_next log n es f bytes below front = record {
  entries = front.entries;
  more = front.more;
  in_log = lookup_push log n f es (λ is. absurd (none_some (sym (lookup_none log n below) ∙ ap (λ (k : ℕ). lookup (λ m. m == k) log) (sym is) ∙ front.in_log))) ∙ front.in_log;
  bytes_are = front.bytes_are;
} where
  none_some : (let o : Option (List Entry) = None in o) ≡ Some (front.entries ++ front.more) → ⊥
  none_some is = absurd cc

-- ---- the buffer

-- how an entry was put into the last file
pub record PutsLast {D : Type 0} (old new : LogBuffer D) (e : Entry) : Type 0 where
  pub file : file_of new ≡ file_of old
  pub offset : offset_of new ≡ offset_of old + size_of e
  pub last : last_of new ≡ offset_of old
  pub first : first_of new ≡ first_of old
  pub flushed_len : flushed_len_of new ≡ flushed_len_of old
  pub written : written_of new ≡ first_of new → written_of old ≡ first_of old
  pub unwritten : unwritten_of new (file_of old) ≡ unwritten_of old (file_of old) ++ encoding e (last_of old)
  pub others : (f : ℕ) → f ≢ file_of old → unwritten_of new f ≡ unwritten_of old f

pub log_last : {D : Type 0} (observable : Bool) (state : State) (old new : LogBuffer D) (log : Log) (e : Entry) → IsEntry e → may_follow e ≡ true → offset_of old + size_of e < 2 ^ 32
    → PutsLast old new e → HasLog observable state old log → HasLog observable state new (log_with (file_of old) e log)
log_last observable state old new log e entry follows fits puts has = by_parts has.ends has.is_log has.observed where
  by_parts : (ends : EndsAt log (file_of old) (offset_of old) (last_of old)) → IsLog log → (observable ≡ true → (f : ℕ) → joined (state.reads f) (unwritten_of old f) ≡ files_of_log log f) → HasLog observable state new (log_with (file_of old) e log)
  by_parts ends is observed =
      let n = file_of old in
      let es = ends.entries in
      let is_log : IsLog (ends.before ++ (n, es) ∷ []) = subst IsLog ends.log_is is in
      let below = below_last ends.before (n, es) is_log in
      let grown = grow_by_append n es e (last_entries ends.before n es is_log) entry follows (let o = ends.offset_is in omega arith) in
      let log_now : log_with n e log ≡ ends.before ++ (n, es ++ e ∷ []) ∷ [] = ap (log_with n e) ends.log_is ∙ with_last ends.before n es e below in
      record {
        is_log = subst IsLog (sym log_now) (is_log_last ends.before n es (es ++ e ∷ []) is_log grown.entries_are);
        ends = record {
          before = ends.before;
          entries = es ++ e ∷ [];
          log_is = log_now ∙ ap (λ (k : ℕ). ends.before ++ (k, es ++ e ∷ []) ∷ []) (sym puts.file);
          offset_is = let o = ends.offset_is in let p = puts.offset in let s = grown.sizes in omega (arith, o, p, s);
          last_is = puts.last ∙ ends.offset_is ∙ sym grown.last;
        };
        observed = λ t f. observed_last state.reads (unwritten_of old) (unwritten_of new) ends.before n es e below grown (λ g. observed t g ∙ ap (λ (l : Log). files_of_log l g) ends.log_is)
            (puts.unwritten ∙ ap (λ (k : ℕ). unwritten_of old n ++ encoding e k) ends.last_is) puts.others f ∙ ap (λ (l : Log). files_of_log l f) (sym log_now);
        flushed_len = λ t w. puts.flushed_len ∙ has.flushed_len t (puts.written w) ∙ ap (λ (k : ℕ). length (content state.reads k)) (sym puts.first);
        ahead = λ t f after. has.ahead t f (let same = puts.first in omega (arith, same));
        front = λ t w. subst (λ (k : ℕ). IsFront (log_with n e log) k (content state.reads k)) (sym puts.first)
            (subst (λ (l : Log). IsFront l (first_of old) (content state.reads (first_of old))) (sym log_now)
            (front_last ends.before n es e (first_of old) (content state.reads (first_of old)) below (subst (λ (l : Log). IsFront l (first_of old) (content state.reads (first_of old))) ends.log_is (has.front t (puts.written w)))));
      }

-- how an entry was put into a next file
pub record PutsNext {D : Type 0} (old new : LogBuffer D) (e : Entry) : Type 0 where
  pub file : file_of new ≡ file_of old + 1
  pub offset : offset_of new ≡ header_size + size_of e
  pub last : last_of new ≡ header_size
  pub first : first_of new ≡ first_of old
  pub flushed_len : flushed_len_of new ≡ flushed_len_of old
  pub written : written_of new ≡ first_of new → written_of old ≡ first_of old
  pub none : unwritten_of old (file_of old + 1) ≡ []
  pub unwritten : unwritten_of new (file_of old + 1) ≡ encoding (FileHeader 1 (file_of old + 1)) 0 ++ encoding e 0
  pub others : (f : ℕ) → f ≢ file_of old + 1 → unwritten_of new f ≡ unwritten_of old f

first_bytes : (n : ℕ) (e : Entry) → encoding (FileHeader 1 n) 0 ++ encoding e 0 ≡ file_bytes n (e ∷ [])
first_bytes n e = ap (λ (x : List ℕ). encoding (FileHeader 1 n) 0 ++ x) (sym (append-nil (encoding e 0)))

pub log_next : {D : Type 0} (observable : Bool) (state : State) (old new : LogBuffer D) (log : Log) (e : Entry) → IsEntry e → may_follow e ≡ true → header_size + size_of e < 2 ^ 32
    → file_of old + 1 < 2 ^ 32 → PutsNext old new e → HasLog observable state old log → HasLog observable state new (log_with (file_of old + 1) e log)
log_next observable state old new log e entry follows fits small puts has = by_parts has.ends has.is_log has.observed where
  by_parts : (ends : EndsAt log (file_of old) (offset_of old) (last_of old)) → IsLog log → (observable ≡ true → (f : ℕ) → joined (state.reads f) (unwritten_of old f) ≡ files_of_log log f) → HasLog observable state new (log_with (file_of old + 1) e log)
  by_parts ends is observed =
      let n = file_of old + 1 in
      let is_log : IsLog (ends.before ++ (file_of old, ends.entries) ∷ []) = subst IsLog ends.log_is is in
      let below_old = below_last ends.before (file_of old, ends.entries) is_log in
      let below : AreBelow n log = subst (AreBelow n) (sym ends.log_is) (below_push n ends.before (file_of old, ends.entries) (below_more (file_of old) n ends.before (omega arith) below_old) (omega arith)) in
      let are : AreFileEntries (e ∷ []) = record { entries = (entry, tt); follow = (follows, tt); ends = omega arith } in
      let log_now : log_with n e log ≡ log ++ (n, e ∷ []) ∷ [] = with_next log n e below in
      record {
        is_log = subst IsLog (sym log_now) (is_log_push log (n, e ∷ []) is below small are);
        ends = record {
          before = log;
          entries = e ∷ [];
          log_is = log_now ∙ ap (λ (k : ℕ). log ++ (k, e ∷ []) ∷ []) (sym puts.file);
          offset_is = let p = puts.offset in omega (arith, p);
          last_is = puts.last;
        };
        observed = λ t f. observed_next state.reads (unwritten_of old) (unwritten_of new) log n (e ∷ []) below (observed t) puts.none (puts.unwritten ∙ first_bytes n e) puts.others f ∙ ap (λ (l : Log). files_of_log l f) (sym log_now);
        flushed_len = λ t w. puts.flushed_len ∙ has.flushed_len t (puts.written w) ∙ ap (λ (k : ℕ). length (content state.reads k)) (sym puts.first);
        ahead = λ t f after. has.ahead t f (let same = puts.first in omega (arith, same));
        front = λ t w. subst (λ (k : ℕ). IsFront (log_with n e log) k (content state.reads k)) (sym puts.first)
            (subst (λ (l : Log). IsFront l (first_of old) (content state.reads (first_of old))) (sym log_now)
            (front_next log n (e ∷ []) (first_of old) (content state.reads (first_of old)) below (has.front t (puts.written w))));
      }
