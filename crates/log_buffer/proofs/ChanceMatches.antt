-- What is found of a file where no entry matches by chance, and of one that was only cut short.
use Rattle.std.proofs.Common.{◌≡◌, ℕ, ◌+◌, ◌-◌, ◌<◌, ◌≤◌, ◌^◌, ◌==◌, ◌&&◌, not, nat_lt, Bool, true, false, List, [], ◌∷◌, ◌++◌, Option, Some, length, take, drop, cond, refl, sym, ap, ap₂, subst, ◌∙◌, append_assoc, arith, length-append, ◌⊎◌, inl, inr}
use Rattle.je_bytes.specs.Reading.{AreBytes}
use Rattle.std.proofs.lemmas.Bool.Decides.{nat_tests}
use Rattle.std.proofs.lemmas.Bool.{cases_order, eqb-true}
use Rattle.std.proofs.lemmas.List.{append-nil, drop-take, drop_all, length-take, take-append-drop}
use Rattle.std.specs.List.{AllByRecursion}
use Rattle.std.specs.Map.{lookup}
use Rattle.std.specs.Prelude.{unwrap_or}
use Rattle.je_disk.specs.States.{Files, State, content}
use Rattle.je_disk.specs.Images.{IsImage}
use Rattle.je_disk.specs.Moments.{History, Passes}
use Rattle.log_entry.specs.declared.entry.Entry.{Entry}
use Rattle.log_entry.specs.declared.entry.Entry.TheVariants.{FileHeader}
use Rattle.log_entry.specs.declared.decoder.Decoded.{Decoded}
use Rattle.log_entry.specs.declared.decoder.Decoded.TheVariants.{Whole, Torn as NotWhole}
use Rattle.log_entry.specs.Body.{IsEntry}
use Rattle.log_entry.specs.Encoding.{size_of}
use Rattle.log_entry.specs.Reading.{decoded}
use Rattle.log_entry.specs.Prefix.{prefix_on, last_from, Prefix as RawPrefix}
use Rattle.log_entry.proofs.ReadingLaws.{decoded-append, found as found_whole}
use Rattle.log_entry.proofs.PrefixLaws.{prefix_on-whole, prefix_on-torn, prefix_on-other}
use Rattle.log_file.specs.declared.valid_prefix.ValidPrefix.{ValidPrefix}
use Rattle.log_file.specs.declared.file_scan.FileScan.{FileScan}
use Rattle.log_file.specs.declared.file_scan.FileScan.TheVariants.{Prefix, VersionUnknown, Damaged}
use Rattle.log_file.specs.Scan.{may_follow, sizes_of, front, prefix_with, no_prefix, entries_behind, scan_of, scan_by, scan_first}
use Rattle.log_file.specs.Log.{Log, AreFileEntries, entries_scanned, file_bytes}
use Rattle.log_file.proofs.EncodedLaws.{sizes-append}
use Rattle.log_file.proofs.FileScanLaws.{found-encoded, behind-encoded}
use Rattle.log_buffer.specs.Crash.{HoldLogged, HoldPrefixes, HoldsPrefix}
use Rattle.log_buffer.specs.Chance.{AppendedAreFound, AreAppended, CutIsFound, IsInPlace, IsLeftAt, NoChanceMatch, OnceReadIsFound, PastIsHeld, ReadSince, ReadsHaveNoChance, WasFound}

-- the first of these entries
record IsFrontOf (all front : List Entry) : Type 0 where
  more : List Entry
  is : all ≡ front ++ more

-- ---- bytes that were cut short

drop_cut : (m n : ℕ) (xs : List ℕ) → drop m (take n xs) ≡ take (n - m) (drop m xs)
drop_cut m n xs = by_order (cases_order m n) where
  far : n ≤ m → drop m (take n xs) ≡ take (n - m) (drop m xs)
  far le = drop_all m (take n xs) (let len = length-take n xs in omega (arith, len)) ∙ ap (λ (k : ℕ). take k (drop m xs)) (let e : 0 ≡ n - m = omega arith in e)

  by_order : (m ≡ n) ⊎ ((m < n) ⊎ (n < m)) → drop m (take n xs) ≡ take (n - m) (drop m xs)
  by_order (inl same) = far (omega arith)
  by_order (inr (inl lt)) = ap (λ (k : ℕ). drop m (take k xs)) (let e : n ≡ m + (n - m) = omega arith in e) ∙ drop-take m (n - m) xs
  by_order (inr (inr gt)) = far (omega arith)

pub log_file_at : (log : Log) (f : ℕ) (es : List Entry) → AllByRecursion (λ file. (file.0 < 2 ^ 32) × AreFileEntries file.1) log → lookup (λ n. n == f) log ≡ Some es → (f < 2 ^ 32) × AreFileEntries es
log_file_at [] f es all found = absurd cc
log_file_at (file ∷ log) f es all found = by_case (file.0 == f) refl found (log_file_at log f es all.1) where
  here : (x : ℕ × List Entry) → x.0 ≡ f → x.1 ≡ es → (x.0 < 2 ^ 32) × AreFileEntries x.1 → (f < 2 ^ 32) × AreFileEntries es
  here x number is ok = (let lt = ok.0 in omega (arith, lt, number), subst AreFileEntries is ok.1)

  by_case : (b : Bool) → (file.0 == f) ≡ b → cond b (Some file.1) (lookup (λ n. n == f) log) ≡ Some es → (lookup (λ n. n == f) log ≡ Some es → (f < 2 ^ 32) × AreFileEntries es) → (f < 2 ^ 32) × AreFileEntries es
  by_case true is some more = here file (eqb-true _ _ is) (let e : file.1 ≡ es = cc in e) all.0
  by_case false is rest more = more rest

-- ---- what is found of a file

front_none : (es : List Entry) → IsFrontOf es []
front_none es = record { more = es; is = refl }

prefix_appended : (prev at : ℕ) (es : List Entry) (bytes : List ℕ) → AreAppended prev at es bytes → IsFrontOf es (prefix_on prev at bytes).entries
prefix_appended prev at [] bytes are = by_decoded (decoded bytes) refl where
  by_test : (e : Entry) (field n : ℕ) → decoded bytes ≡ Whole e field n → (b : Bool) → (field == prev) ≡ b → IsFrontOf [] (prefix_on prev at bytes).entries
  by_test e field n is true same = absurd (are e n (is ∙ ap (λ (k : ℕ). Whole e k n) (eqb-true _ _ same)))
  by_test e field n is false other = subst (λ (r : RawPrefix). IsFrontOf [] r.entries) (sym (prefix_on-other prev at bytes e field n is other)) (front_none [])

  by_decoded : (d : Decoded) → decoded bytes ≡ d → IsFrontOf [] (prefix_on prev at bytes).entries
  by_decoded (NotWhole torn) is = subst (λ (r : RawPrefix). IsFrontOf [] r.entries) (sym (prefix_on-torn prev at bytes torn is)) (front_none [])
  by_decoded (Whole e field n) is = by_test e field n is (field == prev) refl
prefix_appended prev at (e ∷ es) bytes are = by_decoded (λ n so. prefix_appended at (at + n) es (drop n bytes) so) (decoded bytes) refl where
  by_decoded : ((n : ℕ) → AreAppended at (at + n) es (drop n bytes) → IsFrontOf es (prefix_on at (at + n) (drop n bytes)).entries) → (d : Decoded) → decoded bytes ≡ d → IsFrontOf (e ∷ es) (prefix_on prev at bytes).entries
  by_decoded goes (NotWhole torn) is = subst (λ (r : RawPrefix). IsFrontOf (e ∷ es) r.entries) (sym (prefix_on-torn prev at bytes torn is)) (front_none (e ∷ es))
  by_decoded goes (Whole entry field n) is =
      let so = are entry field n is in
      let whole : decoded bytes ≡ Whole entry prev n = is ∙ ap (λ (k : ℕ). Whole entry k n) so.1 in
      let rest = goes n so.2 in
      subst (λ (r : RawPrefix). IsFrontOf (e ∷ es) r.entries) (sym (prefix_on-whole prev at bytes entry n whole))
      (record { more = rest.more; is = ap₂ (λ (x : Entry) (l : List Entry). x ∷ l) (sym so.0) rest.is })

pub all_front : (P : Entry → Type 0) (a b : List Entry) → AllByRecursion P (a ++ b) → AllByRecursion P a
all_front P [] b all = tt
all_front P (x ∷ a) b all = (all.0, all_front P a b all.1)

-- the first entries of a file may stand in it
pub entries_front : (a b : List Entry) → AreFileEntries (a ++ b) → AreFileEntries a
entries_front a b are = record {
  entries = all_front IsEntry a b are.entries;
  follow = all_front (λ e. may_follow e ≡ true) a b are.follow;
  ends = let ends = are.ends in let sizes = sizes-append a b in omega (arith, ends, sizes);
}

-- ---- the first of some entries

front_whole : (es : List Entry) → IsFrontOf es es
front_whole es = record { more = []; is = sym (append-nil es) }

front_through : (a b c : List Entry) → IsFrontOf a b → IsFrontOf b c → IsFrontOf a c
front_through a b c first second = record {
  more = second.more ++ first.more;
  is = first.is ∙ ap (λ (l : List Entry). l ++ first.more) second.is ∙ append_assoc c second.more first.more;
}

-- what may follow a header is the first of the entries
front_of : (at : ℕ) (es : List Entry) → IsFrontOf es (front at es)
front_of at [] = front_none []
front_of at (e ∷ es) = by_test (may_follow e && nat_lt (at + size_of e) (2 ^ 32)) (front_of (at + size_of e) es) where
  by_test : (t : Bool) → IsFrontOf es (front (at + size_of e) es) → IsFrontOf (e ∷ es) (cond t (e ∷ front (at + size_of e) es) [])
  by_test true rest = record { more = rest.more; is = ap (λ (l : List Entry). e ∷ l) rest.is }
  by_test false rest = front_none (e ∷ es)

-- and of fewer entries no more may follow
front_fewer : (at : ℕ) (es more : List Entry) → IsFrontOf (front at (es ++ more)) (front at es)
front_fewer at [] more = front_none (front at more)
front_fewer at (e ∷ es) more = by_test (may_follow e && nat_lt (at + size_of e) (2 ^ 32)) (front_fewer (at + size_of e) es more) where
  by_test : (t : Bool) → IsFrontOf (front (at + size_of e) (es ++ more)) (front (at + size_of e) es) →
      IsFrontOf (cond t (e ∷ front (at + size_of e) (es ++ more)) []) (cond t (e ∷ front (at + size_of e) es) [])
  by_test true rest = record { more = rest.more; is = ap (λ (l : List Entry). e ∷ l) rest.is }
  by_test false rest = front_none []

-- ---- a file that was cut short

whole_again : (n : ℕ) (bytes : List ℕ) (e : Entry) (field len : ℕ) → decoded (take n bytes) ≡ Whole e field len → decoded bytes ≡ Whole e field len
whole_again n bytes e field len is = ap decoded (sym (take-append-drop n bytes)) ∙ decoded-append (take n bytes) (drop n bytes) e field len is

cut_step : (prev at n len : ℕ) (bytes : List ℕ) (e : Entry) (es : List Entry) → decoded (take n bytes) ≡ Whole e prev len → IsFrontOf es (prefix_on at (at + len) (take (n - len) (drop len bytes))).entries →
    IsFrontOf (e ∷ es) (prefix_on prev at (take n bytes)).entries
cut_step prev at n len bytes e es is rest =
    let behind = subst (λ (x : List ℕ). IsFrontOf es (prefix_on at (at + len) x).entries) (sym (drop_cut len n bytes)) rest in
    subst (λ (r : RawPrefix). IsFrontOf (e ∷ es) r.entries) (sym (prefix_on-whole prev at (take n bytes) e len is)) (record { more = behind.more; is = ap (λ (l : List Entry). e ∷ l) behind.is })

-- its run has the first of the entries
cut_front : (es : List Entry) (prev at n : ℕ) (bytes : List ℕ) → (prefix_on prev at bytes).entries ≡ es → IsFrontOf es (prefix_on prev at (take n bytes)).entries
cut_front [] prev at n bytes is = by_decoded (decoded (take n bytes)) refl where
  by_test : (e : Entry) (field len : ℕ) → decoded (take n bytes) ≡ Whole e field len → (b : Bool) → (field == prev) ≡ b → IsFrontOf [] (prefix_on prev at (take n bytes)).entries
  by_test e field len first true same =
      let whole : decoded bytes ≡ Whole e prev len = whole_again n bytes e field len first ∙ ap (λ (k : ℕ). Whole e k len) (eqb-true _ _ same) in
      absurd (let some : e ∷ (prefix_on at (at + len) (drop len bytes)).entries ≡ [] = sym (ap (λ (r : RawPrefix). r.entries) (prefix_on-whole prev at bytes e len whole)) ∙ is in cc)
  by_test e field len first false other = subst (λ (r : RawPrefix). IsFrontOf [] r.entries) (sym (prefix_on-other prev at (take n bytes) e field len first other)) (front_none [])

  by_decoded : (d : Decoded) → decoded (take n bytes) ≡ d → IsFrontOf [] (prefix_on prev at (take n bytes)).entries
  by_decoded (NotWhole torn) first = subst (λ (r : RawPrefix). IsFrontOf [] r.entries) (sym (prefix_on-torn prev at (take n bytes) torn first)) (front_none [])
  by_decoded (Whole e field len) first = by_test e field len first (field == prev) refl
cut_front (x ∷ es) prev at n bytes is = by_decoded (λ len so. cut_front es at (at + len) (n - len) (drop len bytes) so) (decoded (take n bytes)) refl where
  parts : (a b : Entry) (as_ bs : List Entry) → a ∷ as_ ≡ b ∷ bs → (a ≡ b) × (as_ ≡ bs)
  parts a b as_ bs same = let head : a ≡ b = cc in let rest : as_ ≡ bs = cc in (head, rest)

  by_test : ((len : ℕ) → (prefix_on at (at + len) (drop len bytes)).entries ≡ es → IsFrontOf es (prefix_on at (at + len) (take (n - len) (drop len bytes))).entries) → (e : Entry) (field len : ℕ) →
      decoded (take n bytes) ≡ Whole e field len → (b : Bool) → (field == prev) ≡ b → IsFrontOf (x ∷ es) (prefix_on prev at (take n bytes)).entries
  by_test goes e field len first true same =
      let here : decoded (take n bytes) ≡ Whole e prev len = first ∙ ap (λ (k : ℕ). Whole e k len) (eqb-true _ _ same) in
      let whole : decoded bytes ≡ Whole e prev len = whole_again n bytes e prev len here in
      let both = parts e x (prefix_on at (at + len) (drop len bytes)).entries es (sym (ap (λ (r : RawPrefix). r.entries) (prefix_on-whole prev at bytes e len whole)) ∙ is) in
      subst (λ (y : Entry). IsFrontOf (y ∷ es) (prefix_on prev at (take n bytes)).entries) both.0 (cut_step prev at n len bytes e es here (goes len both.1))
  by_test goes e field len first false other = subst (λ (r : RawPrefix). IsFrontOf (x ∷ es) r.entries) (sym (prefix_on-other prev at (take n bytes) e field len first other)) (front_none (x ∷ es))

  by_decoded : ((len : ℕ) → (prefix_on at (at + len) (drop len bytes)).entries ≡ es → IsFrontOf es (prefix_on at (at + len) (take (n - len) (drop len bytes))).entries) → (d : Decoded) →
      decoded (take n bytes) ≡ d → IsFrontOf (x ∷ es) (prefix_on prev at (take n bytes)).entries
  by_decoded goes (NotWhole torn) first = subst (λ (r : RawPrefix). IsFrontOf (x ∷ es) r.entries) (sym (prefix_on-torn prev at (take n bytes) torn first)) (front_none (x ∷ es))
  by_decoded goes (Whole e field len) first = by_test goes e field len first (field == prev) refl

behind_cut : (n : ℕ) (bytes : List ℕ) → IsFrontOf (entries_behind bytes) (entries_behind (take n bytes))
behind_cut n bytes =
    let all : List Entry = (prefix_on 0 26 (drop 26 bytes)).entries in
    let some : List Entry = (prefix_on 0 26 (drop 26 (take n bytes))).entries in
    let cut : IsFrontOf all some = subst (λ (x : List ℕ). IsFrontOf all (prefix_on 0 26 x).entries) (sym (drop_cut 26 n bytes)) (cut_front all 0 26 (n - 26) (drop 26 bytes) refl) in
    subst (λ (l : List Entry). IsFrontOf (front 26 l) (front 26 some)) (sym cut.is) (front_fewer 26 some cut.more)

-- what is found is a run of the first of these entries
record IsPrefixOf (entries : List Entry) (found : FileScan) : Type 0 where
  prefix : ValidPrefix
  found_is : found ≡ Prefix prefix
  more : List Entry
  is : entries ≡ prefix.entries ++ more

prefix_same : (a b : ValidPrefix) → Prefix a ≡ Prefix b → a ≡ b
prefix_same a b is = cc

cut_first : (f n prev : ℕ) (bytes : List ℕ) (prefix : ValidPrefix) (e : Entry) → scan_first f bytes prev e ≡ Prefix prefix → IsPrefixOf prefix.entries (scan_first f (take n bytes) prev e)
cut_first f n prev bytes prefix (FileHeader version file) is = by_test (prev == 0) (version == 1) (file == f) is where
  by_test : (a b c : Bool) → cond (not a) Damaged (cond (not b) (VersionUnknown version) (cond c (Prefix (prefix_with (entries_behind bytes))) Damaged)) ≡ Prefix prefix →
      IsPrefixOf prefix.entries (cond (not a) Damaged (cond (not b) (VersionUnknown version) (cond c (Prefix (prefix_with (entries_behind (take n bytes)))) Damaged)))
  by_test false b c h = absurd cc
  by_test true false c h = absurd cc
  by_test true true false h = absurd cc
  by_test true true true h =
      let cut = behind_cut n bytes in
      record { prefix = prefix_with (entries_behind (take n bytes)); found_is = refl; more = cut.more; is = sym (ap (λ (r : ValidPrefix). r.entries) (prefix_same (prefix_with (entries_behind bytes)) prefix h)) ∙ cut.is }
cut_first f n prev bytes prefix e is = record { prefix = prefix; found_is = is; more = []; is = sym (append-nil prefix.entries) }

-- a file with a run that was cut short has a run of the first of its entries
pub cut_prefix : (f n : ℕ) (bytes : List ℕ) (prefix : ValidPrefix) → scan_of f bytes ≡ Prefix prefix → HoldsPrefix f prefix.entries (take n bytes)
cut_prefix f n bytes prefix is = by_decoded (decoded (take n bytes)) refl where
  by_decoded : (d : Decoded) → decoded (take n bytes) ≡ d → HoldsPrefix f prefix.entries (take n bytes)
  by_decoded (NotWhole torn) first = record { prefix = no_prefix; found = ap (scan_by f (take n bytes)) first; more = prefix.entries; is = refl }
  by_decoded (Whole e prev len) first =
      let cut = cut_first f n prev bytes prefix e (sym (ap (scan_by f bytes) (whole_again n bytes e prev len first)) ∙ is) in
      record { prefix = cut.prefix; found = ap (scan_by f (take n bytes)) first ∙ cut.found_is; more = cut.more; is = cut.is }

-- ---- a file in which no entry reads as a whole one but those that were appended

appended_prefix : (f : ℕ) (entries : List Entry) (bytes : List ℕ) → AreBytes bytes → AreAppended 0 0 (FileHeader 1 f ∷ entries) bytes → HoldsPrefix f entries bytes
appended_prefix f entries bytes are so = by_decoded (decoded bytes) refl where
  headed : (n : ℕ) → decoded bytes ≡ Whole (FileHeader 1 f) 0 n → scan_of f bytes ≡ Prefix (prefix_with (entries_behind bytes))
  headed n is =
      let same : (f == f) ≡ true = grind (arith, nat_tests) in
      ap (scan_by f bytes) is ∙ rw same refl

  with_front : (n : ℕ) → decoded bytes ≡ Whole (FileHeader 1 f) 0 n → IsFrontOf entries (prefix_on 0 26 (drop 26 bytes)).entries → HoldsPrefix f entries bytes
  with_front n is prefix =
      let all = front_through entries (prefix_on 0 26 (drop 26 bytes)).entries (entries_behind bytes) prefix (front_of 26 (prefix_on 0 26 (drop 26 bytes)).entries) in
      record { prefix = prefix_with (entries_behind bytes); found = headed n is; more = all.more; is = all.is }

  by_decoded : (d : Decoded) → decoded bytes ≡ d → HoldsPrefix f entries bytes
  by_decoded (NotWhole torn) is = record { prefix = no_prefix; found = ap (scan_by f bytes) is; more = entries; is = refl }
  by_decoded (Whole e prev n) is =
      let a = so e prev n is in
      let whole = found_whole bytes (Whole e prev n) are is in
      let size : n ≡ 26 = whole.2 ∙ ap size_of a.0 in
      let header : decoded bytes ≡ Whole (FileHeader 1 f) 0 n = is ∙ ap (λ (x : Entry). Whole x prev n) a.0 ∙ ap (λ (k : ℕ). Whole (FileHeader 1 f) k n) a.1 in
      with_front n header (prefix_appended 0 26 entries (drop 26 bytes) (subst (λ (k : ℕ). AreAppended 0 (0 + k) entries (drop k bytes)) size a.2))

-- ---- entries at their places

-- an entry of the first ones stands among all where it stands among them
front_in_place : (all front : List Entry) → IsFrontOf all front → (at : ℕ) (entry : Entry) → IsInPlace at entry front → IsInPlace at entry all
front_in_place all front is at entry there = (there.0, there.1 ++ is.more, is.is ∙ ap (λ (l : List Entry). l ++ is.more) there.2 ∙ append_assoc there.0 (entry ∷ there.1) is.more, there.3)

first_place : (e : Entry) (all before after : List Entry) → all ≡ before ++ e ∷ after → sizes_of before ≡ 0 → all ≡ e ∷ after
first_place e all [] after is none = is
first_place e all (x ∷ before) after is none = absurd (omega (arith, none))

later_place : (e : Entry) (rest : List Entry) (at : ℕ) (entry : Entry) (before after : List Entry) → e ∷ rest ≡ before ++ entry ∷ after → sizes_of before ≡ size_of e + at → IsInPlace at entry rest
later_place e rest at entry [] after is size = absurd (omega (arith, size))
later_place e rest at entry (x ∷ before) after is size =
    let head : e ≡ x = cc in
    let tail : rest ≡ before ++ entry ∷ after = cc in
    let same = ap size_of head in
    (before, after, tail, omega (arith, size, same))

-- entries each of which stands among all where it stands are the first of them
front_by_places : (all es : List Entry) → ((at : ℕ) (entry : Entry) → IsInPlace at entry es → IsInPlace at entry all) → IsFrontOf all es
front_by_places all [] places = front_none all
front_by_places all (e ∷ es) places =
    let first = places 0 e ([], es, refl, refl) in
    let is : all ≡ e ∷ first.1 = first_place e all first.0 first.1 first.2 first.3 in
    let rest : IsFrontOf first.1 es = front_by_places first.1 es
    (λ at entry there.
    let next = places (size_of e + at) entry (e ∷ there.0, there.1, ap (λ (l : List Entry). e ∷ l) there.2, ap (λ (n : ℕ). size_of e + n) there.3) in
    later_place e first.1 at entry next.0 next.1 (sym is ∙ next.2) next.3) in
    record { more = rest.more; is = is ∙ ap (λ (l : List Entry). e ∷ l) rest.is }

-- ---- images that meet the premise

-- what the disk once read has a run, and the image one of the first of its entries
pub meets : (past : ℕ → List ℕ → Type 0) (f : ℕ) (read bytes : List ℕ) (prefix : ValidPrefix) → past f read → scan_of f read ≡ Prefix prefix → HoldsPrefix f prefix.entries bytes → WasFound past f (scan_of f bytes)
meets past f read bytes prefix was is holds =
    subst (λ (x : FileScan). WasFound past f x) (sym holds.found)
    (λ at entry there.
    (read, was, subst (λ (x : FileScan). IsInPlace at entry (entries_scanned x)) (sym is) (front_in_place prefix.entries holds.prefix.entries (record { more = holds.more; is = holds.is }) at entry there)))

once_read : (past : ℕ → List ℕ → Type 0) (f : ℕ) (read : List ℕ) → past f read → (found : FileScan) → scan_of f read ≡ found → WasFound past f found
once_read past f read was (Prefix prefix) is = λ at entry there. (read, was, subst (λ (x : FileScan). IsInPlace at entry (entries_scanned x)) (sym is) there)
once_read past f read was (VersionUnknown version) is = (read, was, is)
once_read past f read was Damaged is = (read, was, is)

pub once_read_is_found : OnceReadIsFound
once_read_is_found since history k f read was = once_read (ReadSince since history k) f read was (scan_of f read) refl

pub own_chance : (past : ℕ → List ℕ → Type 0) (reads : Files) → ((f : ℕ) → past f (content reads f)) → NoChanceMatch past reads reads
own_chance past reads was f may = once_read past f (content reads f) (was f) (scan_of f (content reads f)) refl

pub reads_have_no_chance : ReadsHaveNoChance
reads_have_no_chance since history k from = own_chance (ReadSince since history k) (history.state_at k).reads (λ f. (k, from, omega arith, refl))

pub cut_is_found : CutIsFound
cut_is_found since history k f len read was here = meets (ReadSince since history k) f read (take len read) here.prefix was here.found (cut_prefix f len read here.prefix here.found)

pub appended_are_found : AppendedAreFound
appended_are_found since history k f read bytes was here are so =
    meets (ReadSince since history k) f read bytes here.prefix was here.found
    (appended_prefix f here.prefix.entries bytes are (subst (λ (x : FileScan). AreAppended 0 0 (FileHeader 1 f ∷ entries_scanned x) bytes) here.found so))

-- ---- what the disk read before

found_more : (past more : ℕ → List ℕ → Type 0) (f : ℕ) → ((read : List ℕ) → past f read → more f read) → (found : FileScan) → WasFound past f found → WasFound more f found
found_more past more f wider (Prefix prefix) was = λ at entry there. let once = was at entry there in (once.0, wider once.0 once.1, once.2)
found_more past more f wider (VersionUnknown version) was = (was.0, wider was.0 was.1, was.2)
found_more past more f wider Damaged was = (was.0, wider was.0 was.1, was.2)

-- where more was once read, no more matches by chance
pub chance_more : (past more : ℕ → List ℕ → Type 0) (reads image : Files) → ((f : ℕ) (read : List ℕ) → past f read → more f read) → NoChanceMatch past reads image → NoChanceMatch more reads image
chance_more past more reads image wider chance f may = found_more past more f (wider f) (scan_of f (content image f)) (chance f may)

-- an image that may be left later on, beside what was read until then, was left
pub left_before : (since k : ℕ) (old new : History) (P : State → Type 0) (image : Files) → Passes old new P → k ≤ old.moment → IsLeftAt since new k image → IsLeftAt since old k image
left_before since k old new P image passes here left = record {
  is = subst (λ (s : State). IsImage s image) (passes.keeps k here) left.is;
  chance = subst (λ (s : State). NoChanceMatch (ReadSince since old k) s.reads image) (passes.keeps k here)
      (chance_more (ReadSince since new k) (ReadSince since old k) (new.state_at k).reads image earlier left.chance);
} where
  earlier : (f : ℕ) (read : List ℕ) → ReadSince since new k f read → ReadSince since old k f read
  earlier f read was =
      let low : was.0 ≤ k = was.2 in
      (was.0, was.1, was.2, ap (λ (s : State). content s.reads f) (sym (passes.keeps was.0 (omega (arith, low, here)))) ∙ was.3)

-- prefixes of a log are prefixes in the files that it has
pub prefixes_logged : (log : Log) (reads : Files) (f : ℕ) → HoldPrefixes log reads → HoldLogged log f (content reads f)
prefixes_logged log reads f holds entries is = subst (λ (es : List Entry). HoldsPrefix f es (content reads f)) (ap (λ (o : Option (List Entry)). unwrap_or o []) is) (holds f)

pub past_is_held : PastIsHeld
past_is_held log since history k image holds left =
    chance_more (ReadSince since history k) (HoldLogged log) (history.state_at k).reads image
    (λ f read was. subst (HoldLogged log f) was.3 (prefixes_logged log (history.state_at was.0).reads f (holds was.0 was.1 was.2))) left.chance

-- an image in which nothing is found but what was once read holds a prefix of what that holds prefixes of
pub found_left : (past : ℕ → List ℕ → Type 0) (f : ℕ) (entries : List Entry) (bytes : List ℕ) → ((read : List ℕ) → past f read → HoldsPrefix f entries read) → WasFound past f (scan_of f bytes) → HoldsPrefix f entries bytes
found_left past f entries bytes held was = by_found (scan_of f bytes) refl was where
  once : (at : ℕ) (entry : Entry) (read : List ℕ) → HoldsPrefix f entries read → IsInPlace at entry (entries_scanned (scan_of f read)) → IsInPlace at entry entries
  once at entry read holds there =
      front_in_place entries holds.prefix.entries (record { more = holds.more; is = holds.is }) at entry (subst (λ (x : FileScan). IsInPlace at entry (entries_scanned x)) holds.found there)

  never : (read : List ℕ) (found : FileScan) → HoldsPrefix f entries read → scan_of f read ≡ found → (prefix : ValidPrefix) × (found ≡ Prefix prefix)
  never read found holds is = (holds.prefix, sym is ∙ holds.found)

  by_found : (found : FileScan) → scan_of f bytes ≡ found → WasFound past f found → HoldsPrefix f entries bytes
  by_found (Prefix prefix) is there =
      let front = front_by_places entries prefix.entries (λ at entry here. let read = there at entry here in once at entry read.0 (held read.0 read.1) read.2) in
      record { prefix = prefix; found = is; more = front.more; is = front.is }
  by_found (VersionUnknown version) is there = absurd (let other = (never there.0 (VersionUnknown version) (held there.0 there.1) there.2).1 in cc)
  by_found Damaged is there = absurd (let other = (never there.0 Damaged (held there.0 there.1) there.2).1 in cc)

-- ---- entries that are kept

-- a file that begins with entries has at least these
pub left_kept : (f : ℕ) (kept : List Entry) (bytes rest : List ℕ) (prefix : ValidPrefix) → f < 2 ^ 32 → AreFileEntries kept → bytes ≡ file_bytes f kept ++ rest → scan_of f bytes ≡ Prefix prefix → length kept ≤ length prefix.entries
left_kept f kept bytes rest prefix lt ok is found =
    let same = prefix_same prefix (prefix_with (entries_behind (file_bytes f kept ++ rest))) (sym found ∙ ap (scan_of f) is ∙ found-encoded f kept rest lt) in
    let behind = ap length (ap (λ (r : ValidPrefix). r.entries) same ∙ behind-encoded f kept rest lt ok) in
    let parts = length-append kept (front (26 + sizes_of kept) (prefix_on (last_from 0 26 kept) (26 + sizes_of kept) rest).entries) in
    omega (arith, behind, parts)
