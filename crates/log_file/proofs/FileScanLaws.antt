-- What is found of a file that was encoded, and what the valid prefix of any file is encoded as.
use Rattle.std.proofs.Common.{◌≡◌, ℕ, ◌+◌, ◌<◌, ◌≤◌, ◌^◌, ◌==◌, ◌&&◌, nat_lt, not, Bool, true, false, cond, List, [], ◌∷◌, ◌++◌, length, take, drop, refl, sym, ap, subst, ◌∙◌, append_assoc, arith}
use Rattle.std.proofs.lemmas.Bool.Decides.{nat_tests}
use Rattle.std.proofs.lemmas.Bool.{eqb-true, eq-eqb, ne_eqb}
use Rattle.std.proofs.lemmas.List.{append-nil, drop_at, take_at, length-append}
use Rattle.std.specs.List.{AllByRecursion}
use Rattle.je_bytes.specs.Reading.{AreBytes}
use Rattle.je_bytes.proofs.Fields.{AreBytes-drop}
use Rattle.log_entry.specs.declared.entry.Entry.{Entry}
use Rattle.log_entry.specs.declared.entry.Entry.TheVariants.{FileHeader}
use Rattle.log_entry.specs.declared.decoder.Decoded.{Decoded}
use Rattle.log_entry.specs.declared.decoder.Decoded.TheVariants.{Whole, Torn as NotWhole}
use Rattle.log_entry.specs.Body.{IsEntry}
use Rattle.log_entry.specs.Encoding.{encoding, size_of}
use Rattle.log_entry.specs.Reading.{decoded}
use Rattle.log_entry.specs.Prefix.{Prefix as RawPrefix, encoded, prefix_on, last_from}
use Rattle.log_entry.proofs.ReadingLaws.{decoded-again, found, length-encoding}
use Rattle.log_entry.proofs.PrefixLaws.{prefix_on-is, prefix_on-encoded, prefix_on-torn}
use Rattle.log_file.specs.declared.valid_prefix.ValidPrefix.{ValidPrefix}
use Rattle.log_file.specs.declared.file_scan.FileScan.{FileScan}
use Rattle.log_file.specs.declared.file_scan.FileScan.TheVariants.{Prefix, VersionUnknown, Damaged}
use Rattle.log_file.specs.Scan.{may_follow, sizes_of, front, entries_behind, prefix_with, scan_first, scan_by, scan_of}
use Rattle.log_file.specs.Log.{file_bytes, AreFileEntries}
use Rattle.log_file.specs.Laws.{AreFoundAgain, IsEncodedBack, AreEncodedBack, AreLongest}
use Rattle.log_file.specs.Scanning.{prefix_at}
use Rattle.log_file.proofs.EncodedLaws.{length-encoded, length-file_bytes, encoded-append, front-append}
use Rattle.log_file.proofs.ScanSteps.{whole_at}

-- ---- what was encoded

header_is : (f : ℕ) → f < 2 ^ 32 → IsEntry (FileHeader 1 f)
header_is f lt = (omega arith, lt)

-- a file that begins with its header
found_headed : (f : ℕ) (bytes : List ℕ) (len : ℕ) → decoded bytes ≡ Whole (FileHeader 1 f) 0 len → scan_of f bytes ≡ Prefix (prefix_with (entries_behind bytes))
found_headed f bytes len is =
    let same : (f == f) ≡ true = grind (arith, nat_tests) in
    ap (scan_by f bytes) is ∙ rw same refl

-- a first entry that is the file's header
pub found_prefix : (f : ℕ) (bytes : List ℕ) (prev version file : ℕ) (first : Entry) (prefix : ValidPrefix) → first ≡ FileHeader version file → prev ≡ 0 → version ≡ 1 → file ≡ f →
    prefix ≡ prefix_with (entries_behind bytes) → Prefix prefix ≡ scan_first f bytes prev first
found_prefix f bytes prev version file first prefix is zero one same whole =
    let found : scan_first f bytes 0 (FileHeader 1 f) ≡ Prefix (prefix_with (entries_behind bytes)) = rw (eq-eqb f f refl) refl in
    ap Prefix whole
    ∙ sym (ap (scan_first f bytes prev) is
    ∙ ap (λ (p : ℕ). scan_first f bytes p (FileHeader version file)) zero
    ∙ ap (λ (v : ℕ). scan_first f bytes 0 (FileHeader v file)) one
    ∙ ap (λ (n : ℕ). scan_first f bytes 0 (FileHeader 1 n)) same
    ∙ found)

-- a first entry that is a header of another version
pub found_unknown : (f : ℕ) (bytes : List ℕ) (prev version file : ℕ) (first : Entry) → first ≡ FileHeader version file → prev ≡ 0 → (version ≡ 1 → ⊥) →
    VersionUnknown version ≡ scan_first f bytes prev first
found_unknown f bytes prev version file first is zero other =
    let found : scan_first f bytes 0 (FileHeader version file) ≡ VersionUnknown version = rw (ne_eqb version 1 other) refl in
    sym (ap (scan_first f bytes prev) is ∙ ap (λ (p : ℕ). scan_first f bytes p (FileHeader version file)) zero ∙ found)

-- the entries behind a header that were encoded, and then those that follow them
pub behind-encoded : (f : ℕ) (entries : List Entry) (rest : List ℕ) → f < 2 ^ 32 → AreFileEntries entries →
    entries_behind (file_bytes f entries ++ rest) ≡ entries ++ front (26 + sizes_of entries) (prefix_on (last_from 0 26 entries) (26 + sizes_of entries) rest).entries
behind-encoded f entries rest lt are =
    let end : 26 + length (encoded 0 26 entries) ≡ 26 + sizes_of entries = ap (λ (n : ℕ). 26 + n) (length-encoded 0 26 entries) in
    ap (λ (x : List ℕ). front 26 (prefix_on 0 26 x).entries)
    (ap (drop 26) (append_assoc (encoding (FileHeader 1 f) 0) (encoded 0 26 entries) rest)
    ∙ drop_at (encoding (FileHeader 1 f) 0) (encoded 0 26 entries ++ rest) 26 (length-encoding (FileHeader 1 f) 0))
    ∙ ap (λ (r : RawPrefix). front 26 r.entries) (prefix_on-encoded 0 26 entries rest are.entries (omega arith) (omega (arith, end, are.ends)))
    ∙ ap (λ (n : ℕ). front 26 (entries ++ (prefix_on (last_from 0 26 entries) n rest).entries)) end
    ∙ front-append 26 entries (prefix_on (last_from 0 26 entries) (26 + sizes_of entries) rest).entries are.follow are.ends

-- what is found of a file that was encoded, whatever follows it
pub found-encoded : (f : ℕ) (entries : List Entry) (rest : List ℕ) → f < 2 ^ 32 → scan_of f (file_bytes f entries ++ rest) ≡ Prefix (prefix_with (entries_behind (file_bytes f entries ++ rest)))
found-encoded f entries rest lt =
    found_headed f (file_bytes f entries ++ rest) 26
    (ap decoded (append_assoc (encoding (FileHeader 1 f) 0) (encoded 0 26 entries) rest)
    ∙ decoded-again (FileHeader 1 f) 0 (encoded 0 26 entries ++ rest) (header_is f lt) (omega arith))

pub are_found_again : AreFoundAgain
are_found_again f entries rest torn lt are is =
    found-encoded f entries rest lt
    ∙ ap (λ (l : List Entry). Prefix (prefix_with l))
    (behind-encoded f entries rest lt are
    ∙ ap (λ (r : RawPrefix). entries ++ front (26 + sizes_of entries) r.entries) (prefix_on-torn (last_from 0 26 entries) (26 + sizes_of entries) rest torn is)
    ∙ append-nil entries)

-- ---- what the valid prefix of any file is encoded as

-- a file that has a valid prefix past its header's end begins with its header
pub record IsHeaded (f : ℕ) (bytes : List ℕ) (prefix : ValidPrefix) : Type 0 where
  pub len : ℕ
  pub first : decoded bytes ≡ Whole (FileHeader 1 f) 0 len
  pub prefix_is : prefix ≡ prefix_with (entries_behind bytes)

abbrev prefix_of_found : FileScan → ValidPrefix → ValidPrefix
prefix_of_found (Prefix prefix) other = prefix
prefix_of_found (VersionUnknown version) other = other
prefix_of_found Damaged other = other

same_prefix : (a b : ValidPrefix) → Prefix a ≡ Prefix b → a ≡ b
same_prefix a b is = ap (λ (x : FileScan). prefix_of_found x a) is

headed_by : (f : ℕ) (bytes : List ℕ) (prefix : ValidPrefix) (version file prev len : ℕ) → decoded bytes ≡ Whole (FileHeader version file) prev len →
    scan_first f bytes prev (FileHeader version file) ≡ Prefix prefix → IsHeaded f bytes prefix
headed_by f bytes prefix version file prev len first is = by_prev (prev == 0) (version == 1) (file == f) refl refl refl is
  where
    by_prev : (a b e : Bool) → (prev == 0) ≡ a → (version == 1) ≡ b → (file == f) ≡ e →
        cond (not a) Damaged (cond (not b) (VersionUnknown version) (cond e (Prefix (prefix_with (entries_behind bytes))) Damaged)) ≡ Prefix prefix → IsHeaded f bytes prefix
    by_prev false b e ha hb he h = absurd cc
    by_prev true false e ha hb he h = absurd cc
    by_prev true true false ha hb he h = absurd cc
    by_prev true true true ha hb he h = record {
      len = len;
      first = first ∙ ap (λ (p : ℕ). Whole (FileHeader version file) p len) (eqb-true _ _ ha) ∙ ap (λ (v : ℕ). Whole (FileHeader v file) 0 len) (eqb-true _ _ hb)
          ∙ ap (λ (g : ℕ). Whole (FileHeader 1 g) 0 len) (eqb-true _ _ he);
      prefix_is = sym (same_prefix _ _ h);
    }

headed_at : (f : ℕ) (bytes : List ℕ) (prefix : ValidPrefix) (d : Decoded) → decoded bytes ≡ d → scan_by f bytes d ≡ Prefix prefix → 0 < prefix.end → IsHeaded f bytes prefix
headed_at f bytes prefix (NotWhole torn) first is some =
    let none : 0 ≡ prefix.end = ap (λ (r : ValidPrefix). r.end) (same_prefix _ _ is) in absurd (omega arith)
headed_at f bytes prefix (Whole (FileHeader version file) prev len) first is some = headed_by f bytes prefix version file prev len first is
headed_at f bytes prefix (Whole entry prev len) first is some = absurd cc

pub headed : (f : ℕ) (bytes : List ℕ) (prefix : ValidPrefix) → scan_of f bytes ≡ Prefix prefix → 0 < prefix.end → IsHeaded f bytes prefix
headed f bytes prefix is some = headed_at f bytes prefix (decoded bytes) refl is some

-- the front of entries: those that follow it make up the others, and each in it may stand there
record IsFront (at : ℕ) (es : List Entry) : Type 0 where
  pub others : List Entry
  pub parts : es ≡ front at es ++ others
  pub follow : AllByRecursion (λ e. may_follow e ≡ true) (front at es)
  pub ends : at < 2 ^ 32 → at + sizes_of (front at es) < 2 ^ 32

front_is : (at : ℕ) (es : List Entry) → IsFront at es
front_is at [] = record { others = []; parts = refl; follow = tt; ends = λ lt. omega (arith, lt) }
front_is at (e ∷ es) = by_case (may_follow e) (nat_lt (at + size_of e) (2 ^ 32)) refl refl (front_is (at + size_of e) es)
  where
    none : front at (e ∷ es) ≡ [] → IsFront at (e ∷ es)
    none is = record {
      others = e ∷ es;
      parts = ap (λ (l : List Entry). l ++ e ∷ es) (sym is);
      follow = subst (AllByRecursion (λ x. may_follow x ≡ true)) (sym is) tt;
      ends = λ lt. omega (arith, lt, ap sizes_of is);
    }

    by_case : (a b : Bool) → may_follow e ≡ a → nat_lt (at + size_of e) (2 ^ 32) ≡ b → IsFront (at + size_of e) es → IsFront at (e ∷ es)
    by_case true true ha hb behind =
        let fits : at + size_of e < 2 ^ 32 = grind (arith, nat_tests) in
        let is : front at (e ∷ es) ≡ e ∷ front (at + size_of e) es = rw (ha, hb) refl in
        record {
          others = behind.others;
          parts = ap (λ (l : List Entry). e ∷ l) behind.parts ∙ ap (λ (l : List Entry). l ++ behind.others) (sym is);
          follow = subst (AllByRecursion (λ x. may_follow x ≡ true)) (sym is) (ha, behind.follow);
          ends = λ lt. omega (arith, behind.ends fits, ap sizes_of is);
        }
    by_case true false ha hb behind =
        let is : front at (e ∷ es) ≡ [] = rw (ha, hb) refl in none is
    by_case false b ha hb behind =
        let is : front at (e ∷ es) ≡ [] = rw ha refl in none is

all_front : (P : Entry → Type 0) (es fs : List Entry) → AllByRecursion P (es ++ fs) → AllByRecursion P es
all_front P [] fs all = tt
all_front P (e ∷ es) fs all = (all.0, all_front P es fs all.1)

-- a file that begins with its header has the valid prefix's encoding in front
record HasFront (f : ℕ) (bytes : List ℕ) : Type 0 where
  pub rest : List ℕ
  pub parts : bytes ≡ file_bytes f (entries_behind bytes) ++ rest
  pub entries : AreFileEntries (entries_behind bytes)
  pub lt : f < 2 ^ 32

has_front : (f : ℕ) (bytes : List ℕ) (len : ℕ) → AreBytes bytes → decoded bytes ≡ Whole (FileHeader 1 f) 0 len → HasFront f bytes
has_front f bytes len are first =
    let header = found bytes (Whole (FileHeader 1 f) 0 len) are first in
    let raw = prefix_on 0 26 (drop 26 bytes) in
    let is = prefix_on-is 0 26 (drop 26 bytes) (AreBytes-drop 26 bytes are) in
    let cut = front_is 26 raw.entries in
    let here = entries_behind bytes in
    let behind : drop 26 bytes ≡ encoded 0 26 here ++ (encoded (last_from 0 26 here) (26 + sizes_of here) cut.others ++ raw.rest) =
    is.parts ∙ ap (λ (l : List Entry). encoded 0 26 l ++ raw.rest) cut.parts ∙ ap (λ (x : List ℕ). x ++ raw.rest) (encoded-append 0 26 here cut.others)
    ∙ append_assoc (encoded 0 26 here) (encoded (last_from 0 26 here) (26 + sizes_of here) cut.others) raw.rest in
    record {
      rest = encoded (last_from 0 26 here) (26 + sizes_of here) cut.others ++ raw.rest;
      parts =
          header.3 ∙ ap (λ (n : ℕ). encoding (FileHeader 1 f) 0 ++ drop n bytes) header.2
          ∙ ap (λ (x : List ℕ). encoding (FileHeader 1 f) 0 ++ x) behind
          ∙ sym (append_assoc (encoding (FileHeader 1 f) 0) (encoded 0 26 here) (encoded (last_from 0 26 here) (26 + sizes_of here) cut.others ++ raw.rest));
      entries = record {
        entries = all_front IsEntry here cut.others (subst (AllByRecursion IsEntry) cut.parts is.entries);
        follow = cut.follow;
        ends = cut.ends (omega arith);
      };
      lt = header.0.1;
    }

encoded_back : (f : ℕ) (bytes : List ℕ) (prefix : ValidPrefix) → HasFront f bytes → prefix ≡ prefix_with (entries_behind bytes) → IsEncodedBack f bytes prefix
encoded_back f bytes prefix has is =
    subst (IsEncodedBack f bytes) (sym is)
    (let here = entries_behind bytes in
    let len : length (file_bytes f here) ≡ 26 + sizes_of here = length-file_bytes f here in
    record {
      parts = ap (take (26 + sizes_of here)) has.parts ∙ take_at (file_bytes f here) has.rest (26 + sizes_of here) len;
      within = omega (arith, ap length has.parts, length-append (file_bytes f here) has.rest, len);
      entries = has.entries;
      prefix_is = refl;
    })

pub are_encoded_back : AreEncodedBack
are_encoded_back f bytes prefix are is some =
    let head = headed f bytes prefix is some in
    encoded_back f bytes prefix (has_front f bytes head.len are head.first) head.prefix_is

-- ---- no valid prefix is longer

-- the entries of a valid prefix end where none more is found
front_ends : (es fs : List Entry) → es ≡ es ++ fs → fs ≡ []
front_ends [] fs is = sym is
front_ends (e ∷ es) fs is = front_ends es fs (tails is)
  where
    tails : e ∷ es ≡ e ∷ (es ++ fs) → es ≡ es ++ fs
    tails h = cc

longest_at : (f : ℕ) (bytes : List ℕ) (entry : Entry) (len : ℕ) → AreBytes bytes → HasFront f bytes →
    decoded (drop (26 + sizes_of (entries_behind bytes)) bytes) ≡ Whole entry (last_from 0 26 (entries_behind bytes)) len → may_follow entry ≡ true →
    2 ^ 32 ≤ 26 + sizes_of (entries_behind bytes) + size_of entry
longest_at f bytes entry len are has is follows =
    let here = entries_behind bytes in
    let at = 26 + sizes_of here in
    let last = last_from 0 26 here in
    let rest_is : drop at bytes ≡ has.rest = ap (drop at) has.parts ∙ drop_at (file_bytes f here) has.rest at (length-file_bytes f here) in
    let behind : here ≡ here ++ front at (prefix_on last at has.rest).entries = ap entries_behind has.parts ∙ behind-encoded f here has.rest has.lt has.entries in
    let none : prefix_at bytes at last ≡ [] = ap (λ (x : List ℕ). front at (prefix_on last at x).entries) rest_is ∙ front_ends here _ behind in
    let size : len ≡ size_of entry = (found (drop at bytes) (Whole entry last len) (AreBytes-drop at bytes are) is).2 in
    let step = sym none ∙ whole_at bytes at last entry len is size in
    by_case (nat_lt (at + size_of entry) (2 ^ 32)) refl (step ∙ ap (λ (b : Bool). cond (b && nat_lt (at + size_of entry) (2 ^ 32)) (entry ∷ prefix_at bytes (at + size_of entry) at) []) follows)
  where
    by_case : (b : Bool) → nat_lt (26 + sizes_of (entries_behind bytes) + size_of entry) (2 ^ 32) ≡ b →
        [] ≡ cond b (entry ∷ prefix_at bytes (26 + sizes_of (entries_behind bytes) + size_of entry) (26 + sizes_of (entries_behind bytes))) [] →
        2 ^ 32 ≤ 26 + sizes_of (entries_behind bytes) + size_of entry
    by_case true hb h = absurd cc
    by_case false hb h = grind (arith, nat_tests)

pub are_longest : AreLongest
are_longest f bytes prefix entry len are is some next follows =
    let head = headed f bytes prefix is some in
    let has = has_front f bytes head.len are head.first in
    subst (λ (r : ValidPrefix). decoded (drop r.end bytes) ≡ Whole entry r.last len → 2 ^ 32 ≤ r.end + size_of entry) (sym head.prefix_is)
    (λ h. longest_at f bytes entry len are has h follows) next
