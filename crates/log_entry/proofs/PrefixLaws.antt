-- A file's valid prefix: what it is encoded as, and how an append makes it longer.
use Rattle.std.proofs.Common.{◌≡◌, ◌≢◌, ℕ, zero, suc, ◌+◌, ◌^◌, ◌<◌, ◌≤◌, Bool, true, false, cond, eqb, List, [], ◌∷◌, ◌++◌, length, drop, refl, sym, ap, subst, ◌∙◌, append_assoc, zero-add, arith}
use Rattle.std.specs.List.{AllByRecursion}
use Rattle.std.proofs.lemmas.Bool.{eqb-true, eq-eqb}
use Rattle.std.proofs.lemmas.List.{append-nil, length-append, length-drop, drop-append-le, drop_at, nil_from_length}
use Rattle.je_bytes.specs.Reading.{AreBytes}
use Rattle.je_bytes.proofs.Fields.{AreBytes-drop}
use Rattle.log_entry.specs.declared.entry.Entry.{Entry}
use Rattle.log_entry.specs.declared.decoder.Decoded.{Decoded}
use Rattle.log_entry.specs.declared.decoder.Decoded.TheVariants.{Whole, Torn as NotWhole}
use Rattle.log_entry.specs.declared.decoder.Torn.{Torn}
use Rattle.log_entry.specs.declared.decoder.Torn.TheVariants.{Short}
use Rattle.log_entry.specs.Body.{IsEntry}
use Rattle.log_entry.specs.Encoding.{encoding, size_of}
use Rattle.log_entry.specs.Reading.{decoded, IsFound}
use Rattle.log_entry.specs.Prefix.{encoded, Prefix, prefix_end, prefix_after, prefix_by, prefix_from, prefix_on, prefix_of, last_offset_of, last_from, prefix_before, AreEncoded, AreFound, GrowsByAppend, IsLongest}
use Rattle.log_entry.proofs.ReadingLaws.{decoded-append, decoded-long, decoded-again, length-encoding, found}

-- ---- one step of a valid prefix

-- where no whole entry with this prev field comes first, the valid prefix ends
prefix_by-torn : (prev : ℕ) (bytes : List ℕ) (d : Decoded) (more : ℕ → Prefix) → d ≡ NotWhole Short → prefix_by prev bytes d more ≡ prefix_end prev bytes
prefix_by-torn prev bytes d more is = ap (λ (x : Decoded). prefix_by prev bytes x more) is

-- and where one comes, it goes on behind it
prefix_by-whole : (prev n : ℕ) (bytes : List ℕ) (d : Decoded) (e : Entry) (more : ℕ → Prefix) → d ≡ Whole e prev n → prefix_by prev bytes d more ≡ prefix_after e (more n)
prefix_by-whole prev n bytes d e more is =
    ap (λ (x : Decoded). prefix_by prev bytes x more) is ∙ ap (λ (b : Bool). cond b (prefix_after e (more n)) (prefix_end prev bytes)) (eq-eqb prev prev refl)

-- nothing is torn
decoded-nil : decoded [] ≡ NotWhole Short
unfolding decoded
decoded-nil = refl

prefix_from-nil : (most prev at : ℕ) → prefix_from most prev at [] ≡ prefix_end prev []
unfolding prefix_from
prefix_from-nil zero prev at = refl
prefix_from-nil (suc most) prev at = prefix_by-torn prev [] (decoded []) (λ len. prefix_from most at (at + len) (drop len [])) decoded-nil

-- what a first entry may be: none that counts, or a whole one with this prev field
data First (prev : ℕ) (bytes : List ℕ) : Type 0 where
  ends : ((more : ℕ → Prefix) → prefix_by prev bytes (decoded bytes) more ≡ prefix_end prev bytes) → First prev bytes
  goes_on : (e : Entry) (n : ℕ) → decoded bytes ≡ Whole e prev n → First prev bytes

first_of : (prev : ℕ) (bytes : List ℕ) (d : Decoded) → decoded bytes ≡ d → First prev bytes
first_of prev bytes (NotWhole torn) is = ends (λ more. ap (λ (x : Decoded). prefix_by prev bytes x more) is)
first_of prev bytes (Whole e field n) is =
    let P : Bool → Type 0 = λ b. eqb field prev ≡ b → First prev bytes in
    (elim (eqb field prev) as P [
      | true ↦ λ same. goes_on e n (is ∙ ap (λ (p : ℕ). Whole e p n) (eqb-true _ _ same))
      | false ↦ λ other. ends (λ more. ap (λ (x : Decoded). prefix_by prev bytes x more) is ∙ ap (λ (b : Bool). cond b (prefix_after e (more n)) (prefix_end prev bytes)) other)
    ]) refl

-- ---- how many entries are allowed does not matter

pub prefix_from-enough : (most least prev at : ℕ) (bytes : List ℕ) → length bytes ≤ most → length bytes ≤ least → prefix_from most prev at bytes ≡ prefix_from least prev at bytes
unfolding prefix_from
prefix_from-enough zero least prev at bytes le_most le_least =
    let nothing : bytes ≡ [] = nil_from_length bytes (omega arith) in
    subst (λ (x : List ℕ). prefix_from zero prev at x ≡ prefix_from least prev at x) (sym nothing) (sym (prefix_from-nil least prev at))
prefix_from-enough (suc most) zero prev at bytes le_most le_least =
    let nothing : bytes ≡ [] = nil_from_length bytes (omega arith) in
    subst (λ (x : List ℕ). prefix_from (suc most) prev at x ≡ prefix_from zero prev at x) (sym nothing) (prefix_from-nil (suc most) prev at)
prefix_from-enough (suc most) (suc least) prev at bytes le_most le_least =
    elim (first_of prev bytes (decoded bytes) refl) [
      | ends h ↦ h (λ len. prefix_from most at (at + len) (drop len bytes)) ∙ sym (h (λ len. prefix_from least at (at + len) (drop len bytes)))
      | goes_on e n is ↦
          let long = decoded-long bytes e prev n is in
          prefix_by-whole prev n bytes (decoded bytes) e (λ len. prefix_from most at (at + len) (drop len bytes)) is
          ∙ ap (prefix_after e) (prefix_from-enough most least at (at + n) (drop n bytes) (omega (arith, length-drop n bytes, long.0, long.1)) (omega (arith, length-drop n bytes, long.0, long.1)))
          ∙ sym (prefix_by-whole prev n bytes (decoded bytes) e (λ len. prefix_from least at (at + len) (drop len bytes)) is)
    ]

-- ---- a step of the longest valid prefix

pub prefix_on-whole : (prev at : ℕ) (bytes : List ℕ) (e : Entry) (n : ℕ) → decoded bytes ≡ Whole e prev n → prefix_on prev at bytes ≡ prefix_after e (prefix_on at (at + n) (drop n bytes))
unfolding prefix_on prefix_from
prefix_on-whole prev at bytes e n is =
    let all = length bytes in
    let long = decoded-long bytes e prev n is in
    prefix_from-enough all (suc all) prev at bytes (omega arith) (omega arith)
    ∙ prefix_by-whole prev n bytes (decoded bytes) e (λ len. prefix_from all at (at + len) (drop len bytes)) is
    ∙ ap (prefix_after e) (prefix_from-enough all (length (drop n bytes)) at (at + n) (drop n bytes) (omega (arith, length-drop n bytes)) (omega arith))

prefix_on-ends : (prev at : ℕ) (bytes : List ℕ) → ((more : ℕ → Prefix) → prefix_by prev bytes (decoded bytes) more ≡ prefix_end prev bytes) → prefix_on prev at bytes ≡ prefix_end prev bytes
unfolding prefix_on prefix_from
prefix_on-ends prev at bytes h =
    prefix_from-enough (length bytes) (suc (length bytes)) prev at bytes (omega arith) (omega arith) ∙ h (λ len. prefix_from (length bytes) at (at + len) (drop len bytes))

pub prefix_on-torn : (prev at : ℕ) (bytes : List ℕ) (torn : Torn) → decoded bytes ≡ NotWhole torn → prefix_on prev at bytes ≡ prefix_end prev bytes
prefix_on-torn prev at bytes torn is = prefix_on-ends prev at bytes (λ more. ap (λ (x : Decoded). prefix_by prev bytes x more) is)

pub prefix_on-other : (prev at : ℕ) (bytes : List ℕ) (e : Entry) (field n : ℕ) → decoded bytes ≡ Whole e field n → eqb field prev ≡ false → prefix_on prev at bytes ≡ prefix_end prev bytes
prefix_on-other prev at bytes e field n is other =
    prefix_on-ends prev at bytes (λ more. ap (λ (x : Decoded). prefix_by prev bytes x more) is ∙ ap (λ (b : Bool). cond b (prefix_after e (more n)) (prefix_end prev bytes)) other)

pub prefix_on-nil : (prev at : ℕ) → prefix_on prev at [] ≡ prefix_end prev []
prefix_on-nil prev at = prefix_on-torn prev at [] Short decoded-nil

-- ---- what a valid prefix is encoded as

-- the bytes are the valid prefix's encodings and its torn tail, and its entries are entries
pub record IsPrefix (prev at : ℕ) (bytes : List ℕ) (prefix : Prefix) : Type 0 where
  pub parts : bytes ≡ encoded prev at prefix.entries ++ prefix.rest
  pub entries : AllByRecursion IsEntry prefix.entries

entry_before : (prev at : ℕ) (bytes : List ℕ) (e : Entry) (n : ℕ) (prefix : Prefix) → IsFound bytes (Whole e prev n) → IsPrefix at (at + n) (drop n bytes) prefix → IsPrefix prev at bytes (prefix_after e prefix)
entry_before prev at bytes e n prefix found_e is =
    let offset : at + n ≡ at + size_of e = ap (λ (k : ℕ). at + k) found_e.2 in
    let behind : drop n bytes ≡ encoded at (at + size_of e) prefix.entries ++ prefix.rest = is.parts ∙ ap (λ (k : ℕ). encoded at k prefix.entries ++ prefix.rest) offset in
    record {
      parts = found_e.3 ∙ ap (λ (x : List ℕ). encoding e prev ++ x) behind ∙ sym (append_assoc (encoding e prev) (encoded at (at + size_of e) prefix.entries) prefix.rest);
      entries = (found_e.0, is.entries);
    }

prefix_is : (most prev at : ℕ) (bytes : List ℕ) → length bytes ≤ most → AreBytes bytes → IsPrefix prev at bytes (prefix_on prev at bytes)
prefix_is zero prev at bytes le are =
    let nothing : bytes ≡ [] = nil_from_length bytes (omega arith) in
    subst (λ (x : List ℕ). IsPrefix prev at x (prefix_on prev at x)) (sym nothing) (subst (IsPrefix prev at []) (sym (prefix_on-nil prev at)) (record { parts = refl; entries = tt }))
prefix_is (suc most) prev at bytes le are =
    elim (first_of prev bytes (decoded bytes) refl) [
      | ends h ↦ subst (IsPrefix prev at bytes) (sym (prefix_on-ends prev at bytes h)) (record { parts = refl; entries = tt })
      | goes_on e n is ↦
          let long = decoded-long bytes e prev n is in
          let behind = prefix_is most at (at + n) (drop n bytes) (omega (arith, length-drop n bytes, long.0, long.1)) (AreBytes-drop n bytes are) in
          subst (IsPrefix prev at bytes) (sym (prefix_on-whole prev at bytes e n is))
          (entry_before prev at bytes e n (prefix_on at (at + n) (drop n bytes)) (found bytes (Whole e prev n) are is) behind)
    ]

pub prefix_on-is : (prev at : ℕ) (bytes : List ℕ) → AreBytes bytes → IsPrefix prev at bytes (prefix_on prev at bytes)
prefix_on-is prev at bytes are = prefix_is (length bytes) prev at bytes (omega arith) are

pub are_encoded : AreEncoded
are_encoded bytes are = ((prefix_on-is 0 0 bytes are).parts, (prefix_on-is 0 0 bytes are).entries)

-- ---- what is encoded is a valid prefix

pub prefix_on-encoding : (prev at : ℕ) (e : Entry) (more : List ℕ) → IsEntry e → prev < 2 ^ 32 → prefix_on prev at (encoding e prev ++ more) ≡ prefix_after e (prefix_on at (at + size_of e) more)
prefix_on-encoding prev at e more is lt =
    prefix_on-whole prev at (encoding e prev ++ more) e (size_of e) (decoded-again e prev more is lt)
    ∙ ap (λ (x : List ℕ). prefix_after e (prefix_on at (at + size_of e) x)) (drop_at (encoding e prev) more (size_of e) (length-encoding e prev))

pub prefix_on-encoded : (prev at : ℕ) (es : List Entry) (more : List ℕ) → AllByRecursion IsEntry es → prev < 2 ^ 32 → at + length (encoded prev at es) ≤ 2 ^ 32
    → prefix_on prev at (encoded prev at es ++ more) ≡ prefix_before es (prefix_on (last_from prev at es) (at + length (encoded prev at es)) more)
prefix_on-encoded prev at [] more are lt le = ap (λ (k : ℕ). prefix_on prev k more) (omega arith)
prefix_on-encoded prev at (e ∷ es) more are lt le =
    let len : length (encoded prev at (e ∷ es)) ≡ size_of e + length (encoded at (at + size_of e) es) =
    length-append (encoding e prev) (encoded at (at + size_of e) es) ∙ ap (λ (k : ℕ). k + length (encoded at (at + size_of e) es)) (length-encoding e prev) in
    let end : at + size_of e + length (encoded at (at + size_of e) es) ≡ at + length (encoded prev at (e ∷ es)) = omega (arith, len) in
    ap (prefix_on prev at) (append_assoc (encoding e prev) (encoded at (at + size_of e) es) more)
    ∙ prefix_on-encoding prev at e (encoded at (at + size_of e) es ++ more) are.0 lt
    ∙ ap (prefix_after e) (prefix_on-encoded at (at + size_of e) es more are.1 (omega (arith, len, le)) (omega (arith, end, le)))
    ∙ ap (λ (k : ℕ). prefix_before (e ∷ es) (prefix_on (last_from prev at (e ∷ es)) k more)) end

pub are_found : AreFound
are_found es are le =
    ap (prefix_on 0 0) (sym (append-nil (encoded 0 0 es))) ∙ prefix_on-encoded 0 0 es [] are (omega arith) (omega (arith, le))
    ∙ ap (prefix_before es) (prefix_on-nil (last_from 0 0 es) (0 + length (encoded 0 0 es)))
    ∙ ap (λ (x : List Entry). record { entries = x; last = last_from 0 0 es; rest = [] }) (append-nil es)

-- ---- a longer file

append_to : (prev at : ℕ) (more : List ℕ) (bytes : List ℕ) (prefix : Prefix) → bytes ≡ [] → prefix ≡ prefix_end prev bytes → prefix_on prev at (bytes ++ more) ≡ prefix_before prefix.entries (prefix_on prefix.last (at + length bytes) more)
append_to prev at more bytes prefix nothing is =
    subst (λ (r : Prefix). prefix_on prev at (bytes ++ more) ≡ prefix_before r.entries (prefix_on r.last (at + length bytes) more)) (sym is)
    (subst (λ (x : List ℕ). prefix_on prev at (x ++ more) ≡ prefix_on prev (at + length x) more) (sym nothing) (ap (λ (k : ℕ). prefix_on prev k more) (omega arith)))

append_on : (most prev at : ℕ) (bytes more : List ℕ) → length bytes ≤ most → (prefix : Prefix) → prefix ≡ prefix_on prev at bytes → prefix.rest ≡ []
    → prefix_on prev at (bytes ++ more) ≡ prefix_before prefix.entries (prefix_on prefix.last (at + length bytes) more)
append_on zero prev at bytes more le prefix is none =
    let nothing : bytes ≡ [] = nil_from_length bytes (omega arith) in
    append_to prev at more bytes prefix nothing (is ∙ ap (prefix_on prev at) nothing ∙ prefix_on-nil prev at ∙ ap (prefix_end prev) (sym nothing))
append_on (suc most) prev at bytes more le prefix is none =
    elim (first_of prev bytes (decoded bytes) refl) [
      | ends h ↦ append_to prev at more bytes prefix (sym (ap (λ (r : Prefix). r.rest) (is ∙ prefix_on-ends prev at bytes h)) ∙ none) (is ∙ prefix_on-ends prev at bytes h)
      | goes_on e n whole ↦
          let long = decoded-long bytes e prev n whole in
          let behind = prefix_on at (at + n) (drop n bytes) in
          let prefix_is : prefix ≡ prefix_after e behind = is ∙ prefix_on-whole prev at bytes e n whole in
          let none_behind : behind.rest ≡ [] = sym (ap (λ (r : Prefix). r.rest) prefix_is) ∙ none in
          let rest_len : at + n + length (drop n bytes) ≡ at + length bytes = omega (arith, length-drop n bytes, long.1) in
          prefix_on-whole prev at (bytes ++ more) e n (decoded-append bytes more e prev n whole)
          ∙ ap (λ (x : List ℕ). prefix_after e (prefix_on at (at + n) x)) (drop-append-le n bytes more long.1)
          ∙ ap (prefix_after e) (append_on most at (at + n) (drop n bytes) more (omega (arith, length-drop n bytes, long.0, long.1)) behind refl none_behind)
          ∙ ap (λ (k : ℕ). prefix_before (e ∷ behind.entries) (prefix_on behind.last k more)) rest_len
          ∙ ap (λ (r : Prefix). prefix_before r.entries (prefix_on r.last (at + length bytes) more)) (sym prefix_is)
    ]

-- bytes behind a valid prefix with nothing behind it go on with it
pub prefix_on-append : (prev at : ℕ) (bytes more : List ℕ) → (prefix_on prev at bytes).rest ≡ []
    → prefix_on prev at (bytes ++ more) ≡ prefix_before (prefix_on prev at bytes).entries (prefix_on (prefix_on prev at bytes).last (at + length bytes) more)
prefix_on-append prev at bytes more none = append_on (length bytes) prev at bytes more (omega arith) (prefix_on prev at bytes) refl none

last_below : (most prev at top : ℕ) (bytes : List ℕ) → length bytes ≤ most → prev ≤ top → at + length bytes ≤ top → (prefix_on prev at bytes).last ≤ top
last_below zero prev at top bytes le below end =
    let nothing : bytes ≡ [] = nil_from_length bytes (omega arith) in
    subst (λ (r : Prefix). r.last ≤ top) (sym (ap (prefix_on prev at) nothing ∙ prefix_on-nil prev at)) below
last_below (suc most) prev at top bytes le below end =
    elim (first_of prev bytes (decoded bytes) refl) [
      | ends h ↦ subst (λ (r : Prefix). r.last ≤ top) (sym (prefix_on-ends prev at bytes h)) below
      | goes_on e n is ↦
          let long = decoded-long bytes e prev n is in
          subst (λ (r : Prefix). r.last ≤ top) (sym (prefix_on-whole prev at bytes e n is))
          (last_below most at (at + n) top (drop n bytes) (omega (arith, length-drop n bytes, long.0, long.1)) (omega (arith, end)) (omega (arith, length-drop n bytes, long.1, end)))
    ]

-- the last entry's offset is no more than the file's length
pub last_offset_of-le : (bytes : List ℕ) → last_offset_of bytes ≤ length bytes
last_offset_of-le bytes = last_below (length bytes) 0 0 (length bytes) bytes (omega arith) (omega arith) (omega arith)

pub grows_by_append : GrowsByAppend
grows_by_append bytes e none small is =
    let last = last_offset_of bytes in
    let lt : last < 2 ^ 32 = omega (arith, last_offset_of-le bytes, small) in
    let one : prefix_on last (0 + length bytes) (encoding e last) ≡ record { entries = e ∷ []; last = length bytes; rest = [] } =
    ap (prefix_on last (0 + length bytes)) (sym (append-nil (encoding e last))) ∙ prefix_on-encoding last (0 + length bytes) e [] is lt
    ∙ ap (prefix_after e) (prefix_on-nil (0 + length bytes) (0 + length bytes + size_of e))
    ∙ ap (λ (k : ℕ). record { entries = e ∷ []; last = k; rest = [] }) (zero-add (length bytes)) in
    prefix_on-append 0 0 bytes (encoding e last) none ∙ ap (prefix_before (prefix_of bytes)) one

-- ---- no valid prefix is longer

stops : (most prev at : ℕ) (bytes : List ℕ) (e : Entry) (n : ℕ) → length bytes ≤ most → decoded ((prefix_on prev at bytes).rest) ≢ Whole e ((prefix_on prev at bytes).last) n
stops zero prev at bytes e n le =
    let nothing : bytes ≡ [] = nil_from_length bytes (omega arith) in
    subst (λ (r : Prefix). decoded r.rest ≢ Whole e r.last n) (sym (ap (prefix_on prev at) nothing ∙ prefix_on-nil prev at)) (λ is. let torn = decoded-nil in cc)
stops (suc most) prev at bytes e n le =
    elim (first_of prev bytes (decoded bytes) refl) [
      | ends h ↦ subst (λ (r : Prefix). decoded r.rest ≢ Whole e r.last n) (sym (prefix_on-ends prev at bytes h))
          (λ is. let longer : prefix_end prev bytes ≡ prefix_after e (prefix_end prev bytes) = sym (h (λ _. prefix_end prev bytes)) ∙ prefix_by-whole prev n bytes (decoded bytes) e (λ _. prefix_end prev bytes) is in
          let counts : 0 ≡ 1 = ap (λ (r : Prefix). length r.entries) longer in absurd (omega arith))
      | goes_on f m is ↦
          let long = decoded-long bytes f prev m is in
          subst (λ (r : Prefix). decoded r.rest ≢ Whole e r.last n) (sym (prefix_on-whole prev at bytes f m is))
          (stops most at (at + m) (drop m bytes) e n (omega (arith, length-drop m bytes, long.0, long.1)))
    ]

pub is_longest : IsLongest
is_longest bytes e n = stops (length bytes) 0 0 bytes e n (omega arith)
