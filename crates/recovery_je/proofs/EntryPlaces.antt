-- Where the entries of a file stand in its bytes.
use Rattle.std.proofs.Common.{◌≡◌, ◌≢◌, ◌<◌, ◌≤◌, ◌+◌, ◌*◌, ◌^◌, ◌==◌, ◌⊎◌, ℕ, zero, suc, cond, Bool, true, false, List, [], ◌∷◌, ◌++◌, Some, Ok, Err, nat_cmp, length, get_or, drop, refl, sym, ap, subst, ◌∙◌, append_assoc, length-drop, drop-cons, add-one, arith, inl, inr}
use Rattle.std.specs.Prelude.{not}
use Rattle.std.proofs.lemmas.Bool.{cond-true, cond-false, ne_eqb, eq-eqb, cases_lt}
use Rattle.std.proofs.lemmas.List.{drop_at, length-append, take-append-drop}
use Rattle.std.proofs.lemmas.List.Sorted.{searched}
use Rattle.std.specs.List.{AllByRecursion}
use Rattle.std.specs.List.Sorted.{IsBinarySearchResult}
use Rattle.je_bytes.specs.Reading.{AreBytes}
use Rattle.log_entry.specs.declared.entry.Entry.{Entry}
use Rattle.log_entry.specs.declared.entry.Entry.TheVariants.{FileHeader}
use Rattle.log_entry.specs.declared.decoder.Decoded.{Decoded}
use Rattle.log_entry.specs.declared.decoder.Decoded.TheVariants.{Whole, Torn as NotWhole}
use Rattle.log_entry.specs.declared.decoder.Torn.{Torn}
use Rattle.log_entry.specs.Body.{IsEntry}
use Rattle.log_entry.specs.Encoding.{encoding, size_of}
use Rattle.log_entry.specs.Reading.{decoded}
use Rattle.log_entry.specs.Prefix.{encoded}
use Rattle.log_entry.proofs.ReadingLaws.{decoded-again, decoded-long, length-encoding}
use Rattle.log_file.specs.declared.file_scan.FileScan.{FileScan}
use Rattle.log_file.specs.declared.file_scan.FileScan.TheVariants.{Prefix, VersionUnknown as OtherVersion, Damaged as NoHeader}
use Rattle.log_file.specs.Scan.{scan_of, scan_by, scan_first, prefix_with, entries_behind, sizes_of}
use Rattle.log_file.specs.Log.{entries_scanned}
use Rattle.log_file.proofs.FileScanLaws.{are_encoded_back}
use Rattle.log_replay.specs.Reading.{lsn_at}
use Rattle.log_replay.proofs.FilesLaws.{entries_scanned-are}
use Rattle.log_trees.specs.Placed.{Placed, placed_from, AreInOrder, entry_at}
use Rattle.recovery_je.specs.LogRead.{HasEntryAt, offsets_from, entries_in, AreStanding, AreInside, HasOffset}
use Rattle.recovery_je.proofs.LookupLaws.{lsns_of, lsns_rise, below_all, of_none}

-- ---- one entry

pub entry_within : (bytes : List ℕ) (at : ℕ) (e : Entry) → HasEntryAt bytes at e → at ≤ length bytes
entry_within bytes at e has =
    let long = decoded-long (drop at bytes) e has.prev has.len has.found in
    omega (arith, length-drop at bytes, long.0, long.1)

-- what is decoded there is that entry
pub found_whole : (bytes : List ℕ) (at : ℕ) (e f : Entry) (prev len : ℕ) (d : Decoded) → HasEntryAt bytes at e → d ≡ decoded (drop at bytes) → d ≡ Whole f prev len → f ≡ e
found_whole bytes at e f prev len d has is some = let same : Whole f prev len ≡ Whole e has.prev has.len = sym some ∙ is ∙ has.found in cc

pub found_torn : (bytes : List ℕ) (at : ℕ) (e : Entry) (torn : Torn) (d : Decoded) → HasEntryAt bytes at e → d ≡ decoded (drop at bytes) → d ≡ NotWhole torn → ⊥
found_torn bytes at e torn d has is none = let same : NotWhole torn ≡ Whole e has.prev has.len = sym none ∙ is ∙ has.found in absurd cc

-- ---- the entries of a file

-- entries that are encoded one behind another stand at their offsets
standing_encoded : (f at prev : ℕ) (entries : List Entry) (front rest bytes : List ℕ) → AllByRecursion IsEntry entries → at + sizes_of entries < 2 ^ 32 → prev < 2 ^ 32 → length front ≡ at →
    bytes ≡ front ++ (encoded prev at entries ++ rest) → AreStanding f bytes (offsets_from at entries) (placed_from f at entries)
standing_encoded f at prev [] front rest bytes are ends lt len is = tt
standing_encoded f at prev (e ∷ es) front rest bytes are ends lt len is =
    let more = encoded at (at + size_of e) es in
    let split : bytes ≡ front ++ (encoding e prev ++ (more ++ rest)) = is ∙ ap (λ (l : List ℕ). front ++ l) (append_assoc (encoding e prev) more rest) in
    let here : drop at bytes ≡ encoding e prev ++ (more ++ rest) = ap (drop at) split ∙ drop_at front (encoding e prev ++ (more ++ rest)) at len in (
      refl,
      record { prev = prev; len = size_of e; found = ap decoded here ∙ decoded-again e prev (more ++ rest) are.0 lt },
      standing_encoded f (at + size_of e) at es (front ++ encoding e prev) rest bytes are.1 (omega (arith, ends)) (omega (arith, ends))
          (omega (arith, length-append front (encoding e prev), len, length-encoding e prev)) (split ∙ sym (append_assoc front (encoding e prev) (more ++ rest))),
    )

-- what stands in a file that was scanned
standing_behind : (f : ℕ) (bytes : List ℕ) → AreBytes bytes → scan_of f bytes ≡ Prefix (prefix_with (entries_behind bytes)) →
    AreStanding f bytes (offsets_from 26 (entries_behind bytes)) (placed_from f 26 (entries_behind bytes))
standing_behind f bytes are is =
    let entries = entries_behind bytes in
    let end = 26 + sizes_of entries in
    let back = are_encoded_back f bytes (prefix_with entries) are is (omega arith) in
    let rest = drop end bytes in
    let ends : 26 + sizes_of entries < 2 ^ 32 = back.entries.ends in
    standing_encoded f 26 0 entries (encoding (FileHeader 1 f) 0) rest bytes back.entries.entries ends (omega arith) (length-encoding (FileHeader 1 f) 0)
    (sym (take-append-drop end bytes) ∙ ap (λ (l : List ℕ). l ++ rest) back.parts ∙ append_assoc (encoding (FileHeader 1 f) 0) (encoded 0 26 entries) rest)

standing_first : (f : ℕ) (bytes : List ℕ) (version file prev len : ℕ) → AreBytes bytes → decoded bytes ≡ Whole (FileHeader version file) prev len →
    AreStanding f bytes (offsets_from 26 (entries_scanned (scan_first f bytes prev (FileHeader version file)))) (placed_from f 26 (entries_scanned (scan_first f bytes prev (FileHeader version file))))
standing_first f bytes version file prev len are is = by_case (prev == 0) (version == 1) (file == f) refl refl refl
  where
    by_case : (a b e : Bool) → (prev == 0) ≡ a → (version == 1) ≡ b → (file == f) ≡ e →
        (let found : FileScan = cond (not a) NoHeader (cond (not b) (OtherVersion version) (cond e (Prefix (prefix_with (entries_behind bytes))) NoHeader)) in
        AreStanding f bytes (offsets_from 26 (entries_scanned found)) (placed_from f 26 (entries_scanned found)))
    by_case false b e ha hb he = tt
    by_case true false e ha hb he = tt
    by_case true true false ha hb he = tt
    by_case true true true ha hb he = standing_behind f bytes are (ap (scan_by f bytes) is ∙ rw (ha, hb, he) refl)

pub standing_in : (f : ℕ) (bytes : List ℕ) → AreBytes bytes → AreStanding f bytes (offsets_from 26 (entries_scanned (scan_of f bytes))) (entries_in f bytes)
standing_in f bytes are = by_first (decoded bytes) refl
  where
    by_first : (d : Decoded) → decoded bytes ≡ d → AreStanding f bytes (offsets_from 26 (entries_scanned (scan_by f bytes d))) (placed_from f 26 (entries_scanned (scan_by f bytes d)))
    by_first (NotWhole torn) is = tt
    by_first (Whole (FileHeader version file) prev len) is = standing_first f bytes version file prev len are is
    by_first (Whole entry prev len) is = tt

-- the offsets of a file whose entries these are
pub standing_scanned : (f : ℕ) (bytes offsets : List ℕ) (entries : List Entry) → AreBytes bytes → entries ≡ entries_scanned (scan_of f bytes) → offsets ≡ offsets_from 26 entries → AreStanding f bytes offsets (entries_in f bytes)
standing_scanned f bytes offsets entries are is offsets_are =
    subst (λ (l : List ℕ). AreStanding f bytes l (entries_in f bytes)) (sym (offsets_are ∙ ap (offsets_from 26) is)) (standing_in f bytes are)

-- ---- their LSNs

inside_from : (f at : ℕ) (entries : List Entry) → at + sizes_of entries < 2 ^ 32 → AreInside f (placed_from f at entries)
inside_from f at [] ends = tt
inside_from f at (e ∷ es) ends = ((omega arith, omega (arith, ends)), inside_from f (at + size_of e) es (omega (arith, ends)))

pub inside_in : (f : ℕ) (bytes : List ℕ) → AreBytes bytes → AreInside f (entries_in f bytes)
inside_in f bytes are =
    let entries = entries_scanned (scan_of f bytes) in
    let ends : 26 + sizes_of entries < 2 ^ 32 = (entries_scanned-are f bytes are).ends in
    inside_from f 26 entries ends

above_from : (n f at : ℕ) (entries : List Entry) → n < f * 2 ^ 32 + at → AllByRecursion (λ p. n < p.0) (placed_from f at entries)
above_from n f at [] lt = tt
above_from n f at (e ∷ es) lt = (lt, above_from n f (at + size_of e) es (omega (arith, lt)))

order_from : (f at : ℕ) (entries : List Entry) → AreInOrder (placed_from f at entries)
order_from f at [] = tt
order_from f at (e ∷ es) = (above_from (lsn_at f at) f (at + size_of e) es (omega arith), order_from f (at + size_of e) es)

pub order_in : (f : ℕ) (bytes : List ℕ) → AreInOrder (entries_in f bytes)
order_in f bytes = order_from f 26 (entries_scanned (scan_of f bytes))

-- ---- one offset after another

-- the item at a place, and those behind it
pub next_item : {X : Type 0} (xs : List X) (i : ℕ) (x : X) → i < length xs → x ≡ get_or xs i x → drop i xs ≡ x ∷ drop (i + 1) xs
next_item xs i x within is = drop-cons xs i x within ∙ ap (λ (n : ℕ). get_or xs i x ∷ drop n xs) (sym (add-one i)) ∙ ap (λ (y : _). y ∷ drop (i + 1) xs) (sym is)

pub offset_at : (offsets : List ℕ) (i : ℕ) → i < length offsets → drop i offsets ≡ get_or offsets i 0 ∷ drop (i + 1) offsets
offset_at offsets i within = drop-cons offsets i 0 within ∙ ap (λ (n : ℕ). get_or offsets i 0 ∷ drop n offsets) (sym (add-one i))

-- of entries at offsets the first one
pub record IsFirstAt (f : ℕ) (bytes : List ℕ) (at : ℕ) (rest : List ℕ) (es : List Placed) : Type 0 where
  pub entry : Entry
  pub more : List Placed
  pub is : es ≡ (lsn_at f at, entry) ∷ more
  pub has : HasEntryAt bytes at entry
  pub standing : AreStanding f bytes rest more

pub first_at : (f : ℕ) (bytes left : List ℕ) (at : ℕ) (rest : List ℕ) (es : List Placed) → left ≡ at ∷ rest → AreStanding f bytes left es → IsFirstAt f bytes at rest es
first_at f bytes left at rest es is all = by_list es (subst (λ (l : List ℕ). AreStanding f bytes l es) is all)
  where
    by_list : (es : List Placed) → AreStanding f bytes (at ∷ rest) es → IsFirstAt f bytes at rest es
    by_list [] h = absurd h
    by_list (p ∷ more) h = record { entry = p.1; more = more; is = ap (λ (n : ℕ). let q : Placed = (n, p.1) in q ∷ more) h.0; has = h.1; standing = h.2 }

pub none_at : (f : ℕ) (bytes left : List ℕ) (es : List Placed) → left ≡ [] → AreStanding f bytes left es → es ≡ []
none_at f bytes left es is all = by_list es (subst (λ (l : List ℕ). AreStanding f bytes l es) is all)
  where
    by_list : (es : List Placed) → AreStanding f bytes [] es → es ≡ []
    by_list [] h = refl
    by_list (p ∷ more) h = absurd h

-- ---- a search of the offsets

length_standing : (f : ℕ) (bytes offsets : List ℕ) (es : List Placed) → AreStanding f bytes offsets es → length es ≡ length offsets
length_standing f bytes [] [] all = refl
length_standing f bytes [] (p ∷ es) all = absurd all
length_standing f bytes (at ∷ offsets) [] all = absurd all
length_standing f bytes (at ∷ offsets) (p ∷ es) all = ap suc (length_standing f bytes offsets es all.2)

lsn_standing : (f : ℕ) (bytes offsets : List ℕ) (es : List Placed) (i : ℕ) → AreStanding f bytes offsets es → i < length offsets → get_or (lsns_of es) i 0 ≡ lsn_at f (get_or offsets i 0)
lsn_standing f bytes [] es i all lt = absurd (omega (arith, lt))
lsn_standing f bytes (at ∷ offsets) [] i all lt = absurd all
lsn_standing f bytes (at ∷ offsets) (p ∷ es) zero all lt = all.0
lsn_standing f bytes (at ∷ offsets) (p ∷ es) (suc i) all lt = lsn_standing f bytes offsets es i all.2 (omega (arith, lt))

offsets_rise : (f : ℕ) (bytes offsets : List ℕ) (es : List Placed) → AreInOrder es → AreStanding f bytes offsets es → (i j : ℕ) → i ≤ j → j < length offsets → get_or offsets i 0 ≤ get_or offsets j 0
offsets_rise f bytes offsets es up all i j le lt =
    let len = length_standing f bytes offsets es all in
    let rise = lsns_rise es i j up le (omega (arith, len, lt)) in
    let low = lsn_standing f bytes offsets es i all (omega (arith, le, lt)) in
    let high = lsn_standing f bytes offsets es j all lt in
    omega (arith, rise, low, high)

-- the entry at an offset that is there
place_there : (f : ℕ) (bytes offsets : List ℕ) (es : List Placed) (at i : ℕ) → AreInOrder es → AreStanding f bytes offsets es → i < length offsets → get_or offsets i 0 ≡ at → HasOffset f bytes es at true
place_there f bytes [] es at i up all lt is = absurd (omega (arith, lt))
place_there f bytes (o ∷ offsets) [] at i up all lt is = absurd all
place_there f bytes (o ∷ offsets) (p ∷ es) at zero up all lt is = (
  p.1,
  subst (λ (n : ℕ). HasEntryAt bytes n p.1) is all.1,
  cond-true (p.0 == lsn_at f at) (Some p.1) (entry_at es (lsn_at f at)) (eq-eqb p.0 (lsn_at f at) (all.0 ∙ ap (lsn_at f) is)),
)
place_there f bytes (o ∷ offsets) (p ∷ es) at (suc i) up all lt is =
    let later = place_there f bytes offsets es at i up.1 all.2 (omega (arith, lt)) is in
    let len = length_standing f bytes offsets es all.2 in
    let below = below_all p.0 es i up.0 (omega (arith, len, lt)) in
    let lsn = lsn_standing f bytes offsets es i all.2 (omega (arith, lt)) in (
      later.0,
      later.1,
      cond-false (p.0 == lsn_at f at) (Some p.1) (entry_at es (lsn_at f at)) (ne_eqb p.0 (lsn_at f at) (λ e. omega (arith, e, below, lsn, is))) ∙ later.2,
    )

pub place_found : (f : ℕ) (bytes offsets : List ℕ) (es : List Placed) (at i : ℕ) → AreInOrder es → AreStanding f bytes offsets es → IsBinarySearchResult (λ y. nat_cmp y at) offsets (Ok i) → HasOffset f bytes es at true
place_found f bytes offsets es at i up all found =
    let here = searched offsets at (Ok i) found (offsets_rise f bytes offsets es up all) in
    place_there f bytes offsets es at i up all here.0 here.1

pub place_nowhere : (f : ℕ) (bytes offsets : List ℕ) (es : List Placed) (at i : ℕ) → AreInOrder es → AreStanding f bytes offsets es → IsBinarySearchResult (λ y. nat_cmp y at) offsets (Err i) → HasOffset f bytes es at false
place_nowhere f bytes offsets es at i up all found =
    let here = searched offsets at (Err i) found (offsets_rise f bytes offsets es up all) in
    let len = length_standing f bytes offsets es all in
    sym (of_none es (lsn_at f at) (λ k lt. by_side k here.1 here.2 (omega (arith, len, lt)) (cases_lt k i)))
  where
    by_side : (k : ℕ) → ((j : ℕ) → j < i → get_or offsets j 0 < at) → ((j : ℕ) → i ≤ j → j < length offsets → at < get_or offsets j 0) → k < length offsets → (k < i) ⊎ (i ≤ k) → get_or (lsns_of es) k 0 ≢ lsn_at f at
    by_side k below above lt (inl before) e = let less = below k before in let lsn = lsn_standing f bytes offsets es k all lt in omega (arith, less, lsn, e)
    by_side k below above lt (inr behind) e = let more = above k behind lt in let lsn = lsn_standing f bytes offsets es k all lt in omega (arith, more, lsn, e)
