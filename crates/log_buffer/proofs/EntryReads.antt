-- Entries as they stand in the bytes, on the disk and in the write buffer.
use Rattle.std.proofs.Common.{◌≡◌, ℕ, ◌+◌, ◌-◌, ◌/◌, ◌%◌, ◌<◌, ◌≤◌, ◌^◌, ◌==◌, Bool, true, false, cond, List, [], ◌∷◌, ◌++◌, Option, Some, None, option_map, length, take, drop, refl, sym, ap, ap₂, subst, ◌∙◌, arith, ◌⊎◌, inl, inr, length-append}
use Rattle.log_buffer.specs.WriteBuffer.{first_for}
use Rattle.log_buffer.proofs.WriteBuffers.{none_below}
use Rattle.std.specs.Prelude.{slice_index_or, unwrap_or, IsTrue, ◌↔◌, if◌then◌else◌}
use Rattle.std.specs.Int.{w32, from_be_bytes}
use Rattle.std.proofs.lemmas.Bool.Decides.{nat_tests}
use Rattle.std.proofs.lemmas.Bool.{cases_order, eqb-true}
use Rattle.std.proofs.lemmas.List.{append-nil, length-drop, take_at, take-take, drop-take}
use Rattle.std.proofs.Math.Seq.{drop-append_seam, drop-append-add}
use Rattle.std.specs.List.{AllByRecursion}
use Rattle.std.specs.Map.{lookup}
use Rattle.je_disk.specs.States.{State, content}
use Rattle.log_entry.specs.declared.entry.Entry.{Entry}
use Rattle.log_entry.specs.declared.entry.Entry.TheVariants.{FileHeader}
use Rattle.log_entry.specs.declared.decoder.Decoded.{Decoded}
use Rattle.log_entry.specs.declared.decoder.Decoded.TheVariants.{Whole, Torn as NotWhole}
use Rattle.log_entry.specs.declared.decoder.Torn.{Torn}
use Rattle.log_entry.specs.Body.{IsEntry, body_size_of}
use Rattle.log_entry.specs.Encoding.{encoding, size_of}
use Rattle.log_entry.specs.Reading.{decoded, number_at}
use Rattle.log_entry.specs.Prefix.{encoded, last_from}
use Rattle.log_entry.proofs.ReadingLaws.{length-encoding, decoded-again, fields-encoding, fields-append}
use Rattle.log_file.specs.Scan.{sizes_of}
use Rattle.log_file.specs.Log.{Log, IsLog, AreFileEntries, file_bytes}
use Rattle.log_file.proofs.EncodedLaws.{length-file_bytes, encoded-append, sizes-append}
use Rattle.log_buffer.specs.declared.buffer.LogBuffer.{LogBuffer}
use Rattle.log_buffer.specs.Buffer.{file_of, first_of, written_of, flushed_len_of, unwritten_of, joined}
use Rattle.log_buffer.specs.Log.{HasLog, IsFront, Encodes, StandsAt}
use Rattle.log_buffer.proofs.LogChanges.{AreBelow, below_last, below_more, below_push, lookup_none}

-- ---- bytes that begin with an entry

pub encodes_size : (bytes : List ℕ) (e : Entry) → Encodes bytes e → size_of e ≤ length bytes
encodes_size bytes e s = omega (arith, ap length s.bytes_are, length-append (encoding e s.prev) s.rest, length-encoding e s.prev)

pub encodes_decoded : (bytes : List ℕ) (e : Entry) → Encodes bytes e → (p : ℕ) × (decoded bytes ≡ Whole e p (size_of e))
encodes_decoded bytes e s = (s.prev, ap decoded s.bytes_are ∙ decoded-again e s.prev s.rest s.is_entry s.small)

pub whole_is : (bytes : List ℕ) (found : Decoded) (a e : Entry) (p n : ℕ) → found ≡ decoded bytes → found ≡ Whole a p n → Encodes bytes e → a ≡ e
whole_is bytes found a e p n is whole s = let d = encodes_decoded bytes e s in let dd = d.1 in cc

pub torn_not : (bytes : List ℕ) (found : Decoded) (t : Torn) (e : Entry) → found ≡ decoded bytes → found ≡ NotWhole t → Encodes bytes e → ⊥
torn_not bytes found t e is torn s = let d = encodes_decoded bytes e s in let dd = d.1 in absurd cc

pub encodes_in : (bytes : List ℕ) (n : ℕ) (e : Entry) → Encodes (drop n bytes) e → n < length bytes
encodes_in bytes n e s = let size = encodes_size (drop n bytes) e s in let d = length-drop n bytes in omega arith

-- the length that the head says
pub encodes_len : (bytes : List ℕ) (e : Entry) → Encodes bytes e → number_at w32 10 bytes ≡ body_size_of e
encodes_len bytes e s = ap (number_at w32 10) s.bytes_are ∙ (fields-append (encoding e s.prev) s.rest e s.prev (body_size_of e) (fields-encoding e s.prev s.is_entry s.small)).len_is

-- the entry's bytes alone
pub encodes_taken : (bytes : List ℕ) (n : ℕ) (e : Entry) → n ≡ size_of e → Encodes bytes e → Encodes (take n bytes) e
encodes_taken bytes n e is s = record {
  prev = s.prev;
  rest = [];
  is_entry = s.is_entry;
  small = s.small;
  bytes_are = ap (take n) s.bytes_are ∙ take_at (encoding e s.prev) s.rest n (length-encoding e s.prev ∙ sym is) ∙ sym (append-nil (encoding e s.prev));
}

-- ---- a file's bytes

last_le : (prev at : ℕ) (es : List Entry) → prev ≤ at → last_from prev at es ≤ at + sizes_of es
last_le prev at [] le = omega arith
last_le prev at (e ∷ es) le = let rest = last_le at (at + size_of e) es (omega arith) in omega arith

all_mid : (P : Entry → Type 0) (before after : List Entry) (e : Entry) → AllByRecursion P (before ++ e ∷ after) → P e
all_mid P [] after e all = all.0
all_mid P (x ∷ before) after e all = all_mid P before after e all.1

encoded_at : (f : ℕ) (before after : List Entry) (e : Entry) → IsEntry e → 26 + sizes_of before < 2 ^ 32 → Encodes (drop (26 + sizes_of before) (file_bytes f (before ++ e ∷ after))) e
encoded_at f before after e entry small =
    let p = last_from 0 26 before in
    let le = last_le 0 26 before (omega arith) in
    let parts : file_bytes f (before ++ e ∷ after) ≡ file_bytes f before ++ (encoding e p ++ encoded (0 + sizes_of (FileHeader 1 f ∷ before)) (0 + sizes_of (FileHeader 1 f ∷ before) + size_of e) after) =
    encoded-append 0 0 (FileHeader 1 f ∷ before) (e ∷ after) in
    record {
      prev = p;
      rest = encoded (0 + sizes_of (FileHeader 1 f ∷ before)) (0 + sizes_of (FileHeader 1 f ∷ before) + size_of e) after;
      is_entry = entry;
      small = omega arith;
      bytes_are = ap (λ (n : ℕ). drop n (file_bytes f (before ++ e ∷ after))) (sym (length-file_bytes f before))
          ∙ ap (drop (length (file_bytes f before))) parts
          ∙ drop-append_seam (file_bytes f before) (encoding e p ++ encoded (0 + sizes_of (FileHeader 1 f ∷ before)) (0 + sizes_of (FileHeader 1 f ∷ before) + size_of e) after);
    }

pub encoded_there : (f : ℕ) (before after : List Entry) (e : Entry) → AreFileEntries (before ++ e ∷ after) → Encodes (drop (26 + sizes_of before) (file_bytes f (before ++ e ∷ after))) e
encoded_there f before after e are = let ends = are.ends in encoded_at f before after e (all_mid IsEntry before after e are.entries) (omega (arith, sizes-append before (e ∷ after)))

-- also where others follow it
pub encoded_front : (f : ℕ) (before after rest : List Entry) (e : Entry) → AreFileEntries (before ++ e ∷ after) → Encodes (drop (26 + sizes_of before) (file_bytes f (before ++ e ∷ rest))) e
encoded_front f before after rest e are = let ends = are.ends in encoded_at f before rest e (all_mid IsEntry before after e are.entries) (omega (arith, sizes-append before (e ∷ after)))

-- the first of some entries, where the offset of one of them lies within those
same_head : {X : Type 0} (a b : X) (xs ys : List X) → a ∷ xs ≡ b ∷ ys → (a ≡ b) × (xs ≡ ys)
same_head a b xs ys is = (cc, cc)

pub front_holds : (es more before after : List Entry) (e : Entry) → es ++ more ≡ before ++ e ∷ after → sizes_of before < sizes_of es → (rest : List Entry) × (es ≡ before ++ e ∷ rest)
front_holds [] more before after e is lt = absurd (omega arith)
front_holds (x ∷ es) more [] after e is lt = let h = same_head x e (es ++ more) after is in (es, ap (λ (y : Entry). y ∷ es) h.0)
front_holds (x ∷ es) more (y ∷ before) after e is lt =
    let h = same_head x y (es ++ more) (before ++ e ∷ after) is in
    let r = front_holds es more before after e h.1 (let s = ap size_of h.0 in omega (arith, s)) in
    (r.0, ap₂ (λ (a : Entry) (l : List Entry). a ∷ l) h.0 r.1)

-- a piece that was filled
head_part : (bytes : List ℕ) → take 4 (drop 10 (take 14 bytes)) ≡ take 4 (drop 10 bytes)
head_part bytes = ap (take 4) (drop-take 10 4 bytes) ∙ take-take 4 4 (drop 10 bytes) (omega arith)

pub head_len : (bytes head : List ℕ) (e : Entry) → head ≡ take 14 bytes → Encodes bytes e → number_at w32 10 head ≡ body_size_of e
head_len bytes head e is s = ap (number_at w32 10) is ∙ ap (from_be_bytes w32) (head_part bytes) ∙ encodes_len bytes e s

pub not_whole : (whole : Bool) (n m : ℕ) → (IsTrue whole ↔ n ≤ m) → whole ≡ false → n ≤ m → ⊥
not_whole true n m both is le = absurd cc
not_whole false n m both is le = let t : false ≡ true = both.1 le in absurd cc

-- ---- where an entry of the log stands

all_lookup : (P : ℕ × List Entry → Type 0) (log : Log) (f : ℕ) (es : List Entry) → AllByRecursion P log → lookup (λ n. n == f) log ≡ Some es → P (f, es)
all_lookup P [] f es all found = absurd cc
all_lookup P (file ∷ log) f es all found = by_case (all_lookup P log f es all.1) (file.0 == f) refl found where
  by_case : (lookup (λ n. n == f) log ≡ Some es → P (f, es)) → (b : Bool) → (file.0 == f) ≡ b → cond b (Some file.1) (lookup (λ n. n == f) log) ≡ Some es → P (f, es)
  by_case more true here is =
      let number : file.0 ≡ f = eqb-true _ _ here in
      let entries : file.1 ≡ es = cc in
      subst (λ (n : ℕ). P (n, es)) number (subst (λ (l : List Entry). P (file.0, l)) entries all.0)
  by_case more false here is = more is

-- the bytes of a file of the log, and the entry in them
pub record IsIn (there : Option (List ℕ)) (unwritten : List ℕ) (offset : ℕ) (e : Entry) : Type 0 where
  pub bytes : List ℕ
  pub joined_is : joined there unwritten ≡ Some bytes
  pub encodes : Encodes (drop offset bytes) e

content_all : (there : Option (List ℕ)) (unwritten bytes : List ℕ) → joined there unwritten ≡ Some bytes → unwrap_or there [] ++ unwritten ≡ bytes
content_all None [] bytes is = absurd cc
content_all (Some b) [] bytes is = append-nil b ∙ (let same : b ≡ bytes = cc in same)
content_all None (t ∷ unwritten) bytes is = cc
content_all (Some b) (t ∷ unwritten) bytes is = cc

-- where the write buffer has nothing for the file, the disk has all
pub in_file : (there : Option (List ℕ)) (unwritten : List ℕ) (offset : ℕ) (e : Entry) → unwritten ≡ [] → IsIn there unwritten offset e → Encodes (drop offset (unwrap_or there [])) e
in_file there unwritten offset e none here =
    subst (λ (x : List ℕ). Encodes (drop offset x) e) (sym (sym (append-nil (unwrap_or there [])) ∙ ap (λ (t : List ℕ). unwrap_or there [] ++ t) (sym none) ∙ content_all there unwritten here.bytes here.joined_is)) here.encodes

-- behind what the disk has, the write buffer has it
pub in_unwritten : (there : Option (List ℕ)) (unwritten : List ℕ) (offset flushed_len : ℕ) (e : Entry) → flushed_len ≡ length (unwrap_or there []) → flushed_len ≤ offset → IsIn there unwritten offset e → Encodes (drop (offset - flushed_len) unwritten) e
in_unwritten there unwritten offset flushed_len e is le here =
    let far : offset ≡ length (unwrap_or there []) + (offset - flushed_len) = omega (arith, is) in
    let all : drop offset here.bytes ≡ drop (offset - flushed_len) unwritten =
    ap (drop offset) (sym (content_all there unwritten here.bytes here.joined_is)) ∙ ap (λ (n : ℕ). drop n (unwrap_or there [] ++ unwritten)) far ∙ drop-append-add (unwrap_or there []) unwritten (offset - flushed_len) in
    subst (λ (x : List ℕ). Encodes x e) all here.encodes

-- an entry of the log stands in its file's bytes
pub stands_in : {D : Type 0} (observable : Bool) (state : State) (buffer : LogBuffer D) (log : Log) (at : ℕ) (e : Entry) → observable ≡ true → HasLog observable state buffer log → (st : StandsAt log at e)
    → IsIn (state.reads st.file) (unwritten_of buffer st.file) (26 + sizes_of st.before) e
stands_in observable state buffer log at e t has st = record {
  bytes = file_bytes st.file (st.before ++ e ∷ st.after);
  joined_is = has.observed t st.file ∙ ap (option_map (file_bytes st.file)) st.in_log;
  encodes = encoded_there st.file st.before st.after e (all_lookup (λ file. (file.0 < 2 ^ 32) × AreFileEntries file.1) log st.file (st.before ++ e ∷ st.after) has.is_log.each st.in_log).1;
}

-- the LSN is of that file and that offset
pub record IsLogPos (at f offset : ℕ) : Type 0 where
  pub file : at / 2 ^ 32 ≡ f
  pub pos : at % 2 ^ 32 ≡ offset

pub place_of : {D : Type 0} (observable : Bool) (state : State) (buffer : LogBuffer D) (log : Log) (at : ℕ) (e : Entry) → HasLog observable state buffer log → (st : StandsAt log at e) → IsLogPos at st.file (26 + sizes_of st.before)
place_of observable state buffer log at e has st =
    let are = all_lookup (λ file. (file.0 < 2 ^ 32) × AreFileEntries file.1) log st.file (st.before ++ e ∷ st.after) has.is_log.each st.in_log in
    let ends = are.1.ends in
    let sizes = sizes-append st.before (e ∷ st.after) in
    let is = st.at_is in
    record { file = omega (arith, sizes); pos = omega (arith, sizes) }

-- its file is none behind the last one
pub file_within : {D : Type 0} (observable : Bool) (state : State) (buffer : LogBuffer D) (log : Log) (at : ℕ) (e : Entry) → HasLog observable state buffer log → (st : StandsAt log at e) → st.file ≤ file_of buffer
file_within observable state buffer log at e has st = by_order (cases_order st.file (file_of buffer)) where
  past : file_of buffer < st.file → ⊥
  past gt =
      let below = subst (AreBelow st.file) (sym has.ends.log_is) (below_push st.file has.ends.before (file_of buffer, has.ends.entries)
      (below_more (file_of buffer) st.file has.ends.before (omega arith) (below_last has.ends.before (file_of buffer, has.ends.entries) (subst IsLog has.ends.log_is has.is_log))) gt) in
      let none = lookup_none log st.file below in
      let some = st.in_log in
      absurd cc

  by_order : (st.file ≡ file_of buffer) ⊎ ((st.file < file_of buffer) ⊎ (file_of buffer < st.file)) → st.file ≤ file_of buffer
  by_order (inl is) = omega (arith, is)
  by_order (inr (inl lt)) = omega arith
  by_order (inr (inr gt)) = absurd (past gt)

-- before the base, the disk has it
pub in_front : {D : Type 0} (observable : Bool) (state : State) (buffer : LogBuffer D) (log : Log) (at : ℕ) (e : Entry) → observable ≡ true → HasLog observable state buffer log → (st : StandsAt log at e)
    → st.file ≡ first_of buffer → written_of buffer ≡ first_of buffer → 26 + sizes_of st.before < flushed_len_of buffer → Encodes (drop (26 + sizes_of st.before) (content state.reads st.file)) e
in_front observable state buffer log at e t has st first written lt = by_bytes front.bytes_are where
  front : IsFront log (first_of buffer) (content state.reads (first_of buffer))
  front = has.front t written

  flushed_len : flushed_len_of buffer ≡ length (content state.reads (first_of buffer))
  flushed_len = has.flushed_len t written

  same_entries : (a b : List Entry) → (let o : Option (List Entry) = Some a in o) ≡ Some b → a ≡ b
  same_entries a b is = cc

  all : front.entries ++ front.more ≡ st.before ++ e ∷ st.after
  all = same_entries _ _ (sym front.in_log ∙ ap (λ (k : ℕ). lookup (λ n. n == k) log) (sym first) ∙ st.in_log)

  are : AreFileEntries (st.before ++ e ∷ st.after)
  are = (all_lookup (λ file. (file.0 < 2 ^ 32) × AreFileEntries file.1) log st.file (st.before ++ e ∷ st.after) has.is_log.each st.in_log).1

  by_bytes : (content state.reads (first_of buffer) ≡ []) ⊎ (content state.reads (first_of buffer) ≡ file_bytes (first_of buffer) front.entries) → Encodes (drop (26 + sizes_of st.before) (content state.reads st.file)) e
  by_bytes (inl none) = absurd (omega (arith, flushed_len, ap length none))
  by_bytes (inr there) =
      let held = front_holds front.entries front.more st.before st.after e all (omega (arith, flushed_len, ap length there, length-file_bytes (first_of buffer) front.entries)) in
      let content_is : content state.reads st.file ≡ file_bytes st.file (st.before ++ e ∷ held.0) =
      ap (λ (k : ℕ). content state.reads k) first ∙ there ∙ ap₂ (λ (k : ℕ) (l : List Entry). file_bytes k l) (sym first) held.1 in
      subst (λ (x : List ℕ). Encodes (drop (26 + sizes_of st.before) x) e) (sym content_is) (encoded_front st.file st.before st.after held.0 e are)

-- ---- where the buffer looks

first_ge : (starts : List ℕ) (first : ℕ) → first ≤ first_for starts first
first_ge starts first = by_case (slice_index_or starts 0 1 == 0) where
  by_case : (b : Bool) → first ≤ (if b then first + 1 else first)
  by_case true = omega arith
  by_case false = omega arith

-- an offset and a file, and the entry that stands there
pub record IsStanding {D : Type 0} (observable : Bool) (state : State) (buffer : LogBuffer D) (f offset : ℕ) (e : Entry) : Type 0 where
  pub here : IsIn (state.reads f) (unwritten_of buffer f) offset e
  pub within : f ≤ file_of buffer
  pub front : f ≡ first_of buffer → written_of buffer ≡ first_of buffer → offset < flushed_len_of buffer → Encodes (drop offset (content state.reads f)) e
  pub flushed_len : written_of buffer ≡ first_of buffer → flushed_len_of buffer ≡ length (content state.reads (first_of buffer))
  pub ahead : first_of buffer < f → state.reads f ≡ None

pub standing : {D : Type 0} (observable : Bool) (state : State) (buffer : LogBuffer D) (log : Log) (at f offset : ℕ) (e : Entry) → f ≡ at / 2 ^ 32 → offset ≡ at % 2 ^ 32 → observable ≡ true → HasLog observable state buffer log → StandsAt log at e
    → IsStanding observable state buffer f offset e
standing observable state buffer log at f offset e is_file is_offset t has st =
    let pos = place_of observable state buffer log at e has st in
    let there : IsStanding observable state buffer st.file (26 + sizes_of st.before) e = record {
      here = stands_in observable state buffer log at e t has st;
      within = file_within observable state buffer log at e has st;
      front = λ first written lt. in_front observable state buffer log at e t has st first written lt;
      flushed_len = has.flushed_len t;
      ahead = has.ahead t st.file;
    } in
    subst (λ (k : ℕ). IsStanding observable state buffer k offset e) (sym (is_file ∙ pos.file))
    (subst (λ (n : ℕ). IsStanding observable state buffer st.file n e) (sym (is_offset ∙ pos.pos)) there)

pub on_disk : {D : Type 0} (observable : Bool) (state : State) (buffer : LogBuffer D) (f offset : ℕ) (e : Entry) → IsStanding observable state buffer f offset e
    → (f < written_of buffer) ⊎ ((f ≡ first_of buffer) × (offset < flushed_len_of buffer)) → Encodes (drop offset (content state.reads f)) e
on_disk observable state buffer f offset e is there = by_where there (cases_order f (written_of buffer)) where
  below : f < written_of buffer → Encodes (drop offset (content state.reads f)) e
  below lt = in_file (state.reads f) (unwritten_of buffer f) offset e (none_below buffer.unwritten.bytes.items buffer.unwritten.starts.items (file_of buffer) f buffer.files lt) is.here

  front : f ≡ first_of buffer → offset < flushed_len_of buffer → written_of buffer ≤ f → Encodes (drop offset (content state.reads f)) e
  front first lt le = is.front first (let ge = first_ge buffer.unwritten.starts.items (first_of buffer) in omega (arith, first)) lt

  by_where : (f < written_of buffer) ⊎ ((f ≡ first_of buffer) × (offset < flushed_len_of buffer)) → (f ≡ written_of buffer) ⊎ ((f < written_of buffer) ⊎ (written_of buffer < f)) → Encodes (drop offset (content state.reads f)) e
  by_where (inl lt) w = below lt
  by_where (inr p) (inr (inl lt)) = below lt
  by_where (inr p) (inl same) = front p.0 p.1 (omega (arith, same))
  by_where (inr p) (inr (inr gt)) = front p.0 p.1 (omega arith)

pub in_the_unwritten : {D : Type 0} (observable : Bool) (state : State) (buffer : LogBuffer D) (f offset : ℕ) (e : Entry) → IsStanding observable state buffer f offset e
    → ((f < written_of buffer) ⊎ ((f ≡ first_of buffer) × (offset < flushed_len_of buffer)) → ⊥) → Encodes (drop (if f == first_of buffer then offset - flushed_len_of buffer else offset) (unwritten_of buffer f)) e
in_the_unwritten observable state buffer f offset e is not = by_order (cases_order f (first_of buffer)) (first_ge buffer.unwritten.starts.items (first_of buffer)) (cases_order f (written_of buffer)) (cases_order offset (flushed_len_of buffer)) where
  first : f ≡ first_of buffer → written_of buffer ≤ f → first_of buffer ≤ written_of buffer → flushed_len_of buffer ≤ offset → Encodes (drop (if f == first_of buffer then offset - flushed_len_of buffer else offset) (unwritten_of buffer f)) e
  first same le ge behind =
      let b = is.flushed_len (omega (arith, same)) ∙ ap (λ (k : ℕ). length (content state.reads k)) (sym same) in
      let test : (f == first_of buffer) ≡ true = grind (arith, nat_tests) in
      subst (λ (t : Bool). Encodes (drop (if t then offset - flushed_len_of buffer else offset) (unwritten_of buffer f)) e) (sym test) (in_unwritten (state.reads f) (unwritten_of buffer f) offset (flushed_len_of buffer) e b behind is.here)

  later : first_of buffer < f → Encodes (drop (if f == first_of buffer then offset - flushed_len_of buffer else offset) (unwritten_of buffer f)) e
  later gt =
      let test : (f == first_of buffer) ≡ false = grind (arith, nat_tests) in
      let none : 0 ≡ length (unwrap_or (state.reads f) []) = sym (ap (λ (o : Option (List ℕ)). length (unwrap_or o [])) (is.ahead gt)) in
      let all : offset - 0 ≡ offset = omega arith in
      subst (λ (t : Bool). Encodes (drop (if t then offset - flushed_len_of buffer else offset) (unwritten_of buffer f)) e) (sym test)
      (subst (λ (n : ℕ). Encodes (drop n (unwritten_of buffer f)) e) all (in_unwritten (state.reads f) (unwritten_of buffer f) offset 0 e none (omega arith) is.here))

  by_order : (f ≡ first_of buffer) ⊎ ((f < first_of buffer) ⊎ (first_of buffer < f)) → first_of buffer ≤ written_of buffer → (f ≡ written_of buffer) ⊎ ((f < written_of buffer) ⊎ (written_of buffer < f))
      → (offset ≡ flushed_len_of buffer) ⊎ ((offset < flushed_len_of buffer) ⊎ (flushed_len_of buffer < offset)) → Encodes (drop (if f == first_of buffer then offset - flushed_len_of buffer else offset) (unwritten_of buffer f)) e
  by_order v ge (inr (inl lt)) u = absurd (not (inl lt))
  by_order (inl same) ge w (inr (inl lt)) = absurd (not (inr (same, lt)))
  by_order (inr (inr gt)) ge w u = later gt
  by_order (inr (inl lt)) ge (inl is) u = absurd (omega (arith, is))
  by_order (inr (inl lt)) ge (inr (inr gt)) u = absurd (omega arith)
  by_order (inl same) ge (inl is) (inl eq) = first same (omega (arith, is)) ge (omega (arith, eq))
  by_order (inl same) ge (inl is) (inr (inr gt)) = first same (omega (arith, is)) ge (omega arith)
  by_order (inl same) ge (inr (inr more)) (inl eq) = first same (omega arith) ge (omega (arith, eq))
  by_order (inl same) ge (inr (inr more)) (inr (inr gt)) = first same (omega arith) ge (omega arith)
