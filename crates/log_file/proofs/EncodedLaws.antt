-- A file's entries as they are encoded, and one entry more.
use Rattle.std.proofs.Common.{◌≡◌, ℕ, ◌+◌, ◌<◌, ◌^◌, true, List, [], ◌∷◌, ◌++◌, length, refl, sym, ap, ◌∙◌, append_assoc, arith, nat_lt}
use Rattle.std.proofs.lemmas.Bool.Decides.{nat_tests}
use Rattle.std.proofs.lemmas.List.{append-nil, length-append}
use Rattle.std.specs.List.{AllByRecursion}
use Rattle.log_entry.specs.declared.entry.Entry.{Entry}
use Rattle.log_entry.specs.declared.entry.Entry.TheVariants.{FileHeader}
use Rattle.log_entry.specs.Body.{IsEntry}
use Rattle.log_entry.specs.Encoding.{encoding, size_of}
use Rattle.log_entry.specs.Prefix.{encoded, last_from}
use Rattle.log_entry.proofs.ReadingLaws.{length-encoding}
use Rattle.log_file.specs.Scan.{may_follow, sizes_of, front}
use Rattle.log_file.specs.Log.{file_bytes}
use Rattle.log_file.specs.Laws.{GrowByAppend}

-- ---- sizes

pub length-encoded : (prev at : ℕ) (es : List Entry) → length (encoded prev at es) ≡ sizes_of es
length-encoded prev at [] = refl
length-encoded prev at (e ∷ es) =
    length-append (encoding e prev) (encoded at (at + size_of e) es)
    ∙ ap (λ (n : ℕ). n + length (encoded at (at + size_of e) es)) (length-encoding e prev)
    ∙ ap (λ (n : ℕ). size_of e + n) (length-encoded at (at + size_of e) es)

pub length-file_bytes : (f : ℕ) (es : List Entry) → length (file_bytes f es) ≡ 26 + sizes_of es
length-file_bytes f es = length-encoded 0 0 (FileHeader 1 f ∷ es)

pub sizes-append : (es fs : List Entry) → sizes_of (es ++ fs) ≡ sizes_of es + sizes_of fs
sizes-append [] fs = omega arith
sizes-append (e ∷ es) fs = omega (arith, sizes-append es fs)

pub encoded-append : (prev at : ℕ) (es fs : List Entry) → encoded prev at (es ++ fs) ≡ encoded prev at es ++ encoded (last_from prev at es) (at + sizes_of es) fs
encoded-append prev at [] fs = ap (λ (n : ℕ). encoded prev n fs) (omega arith)
encoded-append prev at (e ∷ es) fs =
    let far : at + size_of e + sizes_of es ≡ at + sizes_of (e ∷ es) = omega arith in
    ap (λ (x : List ℕ). encoding e prev ++ x) (encoded-append at (at + size_of e) es fs)
    ∙ ap (λ (n : ℕ). encoding e prev ++ (encoded at (at + size_of e) es ++ encoded (last_from at (at + size_of e) es) n fs)) far
    ∙ sym (append_assoc (encoding e prev) (encoded at (at + size_of e) es) (encoded (last_from prev at (e ∷ es)) (at + sizes_of (e ∷ es)) fs))

pub last-append : (prev at : ℕ) (es : List Entry) (e : Entry) → last_from prev at (es ++ e ∷ []) ≡ at + sizes_of es
last-append prev at [] e = omega arith
last-append prev at (d ∷ es) e = last-append at (at + size_of d) es e ∙ omega arith

all_more : (P : Entry → Type 0) (es : List Entry) (e : Entry) → AllByRecursion P es → P e → AllByRecursion P (es ++ e ∷ [])
all_more P [] e all is = (is, tt)
all_more P (d ∷ es) e all is = (all.0, all_more P es e all.1 is)

-- ---- the part of a valid prefix that counts

-- entries that may follow and end below the limit all stand in the front
pub front-append : (at : ℕ) (es fs : List Entry) → AllByRecursion (λ e. may_follow e ≡ true) es → at + sizes_of es < 2 ^ 32 →
    front at (es ++ fs) ≡ es ++ front (at + sizes_of es) fs
front-append at [] fs follow ends = ap (λ (n : ℕ). front n fs) (omega arith)
front-append at (e ∷ es) fs follow ends =
    let fits : nat_lt (at + size_of e) (2 ^ 32) ≡ true = grind (arith, nat_tests) in
    let far : at + size_of e + sizes_of es ≡ at + sizes_of (e ∷ es) = omega arith in
    rw (follow.0, fits)
    (ap (λ (l : List Entry). e ∷ l) (front-append (at + size_of e) es fs follow.1 (omega (arith, ends)) ∙ ap (λ (n : ℕ). es ++ front n fs) far))

-- ---- one entry more

pub grow_by_append : GrowByAppend
grow_by_append f entries entry are is follows fits = record {
  bytes =
      encoded-append 0 0 (FileHeader 1 f ∷ entries) (entry ∷ [])
      ∙ ap (λ (x : List ℕ). file_bytes f entries ++ x) (append-nil (encoding entry (last_from 0 26 entries)));
  last = last-append 0 26 entries entry;
  sizes = sizes-append entries (entry ∷ []) ∙ omega arith;
  entries_are = record {
    entries = all_more IsEntry entries entry are.entries is;
    follow = all_more (λ e. may_follow e ≡ true) entries entry are.follow follows;
    ends = omega (arith, fits, sizes-append entries (entry ∷ []));
  };
}
