-- The files of a disk hold prefixes of the log, at each moment at which it is written.
use Rattle.std.proofs.Common.{◌≡◌, ℕ, ◌<◌, ◌≤◌, ◌^◌, ◌==◌, Bool, true, false, cond, List, [], ◌∷◌, ◌++◌, Option, Some, None, length, take, refl, sym, ap, subst, ◌∙◌, append_assoc, option_map, ◌⊎◌, inl, inr}
use Rattle.std.specs.Prelude.{unwrap_or}
use Rattle.std.specs.Map.{lookup}
use Rattle.std.proofs.lemmas.Bool.{cases_lt, eqb-true}
use Rattle.std.proofs.lemmas.List.{append-nil, take_at}
use Rattle.std.specs.Option.{option_map as mapped}
use Rattle.je_disk.specs.States.{State, Files, partly_appended, partly_appended_by, content, created, created_by, cut}
use Rattle.je_disk.proofs.CallEffects.{cut-reads}
use Rattle.log_entry.specs.declared.entry.Entry.{Entry}
use Rattle.log_entry.specs.declared.decoder.Decoded.TheVariants.{Torn as NotWhole}
use Rattle.log_entry.specs.declared.decoder.Torn.TheVariants.{Short}
use Rattle.log_entry.specs.Reading.{decoded}
use Rattle.log_file.specs.declared.file_scan.FileScan.TheVariants.{Prefix}
use Rattle.log_file.specs.Scan.{scan_by, scan_of, no_prefix, prefix_with}
use Rattle.log_file.specs.Log.{Log, IsLog, AreFileEntries, file_bytes, files_of_log}
use Rattle.log_file.proofs.FileScanLaws.{are_found_again}
use Rattle.log_buffer.specs.declared.buffer.LogBuffer.{LogBuffer}
use Rattle.log_buffer.specs.Buffer.{joined, unwritten_of}
use Rattle.log_buffer.specs.Crash.{HoldsPrefix, HoldPrefixes, entries_at}
use Rattle.log_buffer.specs.Log.{HasLog, log_with}
use Rattle.log_buffer.proofs.ChanceMatches.{cut_prefix, log_file_at}
use Rattle.log_buffer.proofs.CrashWrites.{ReadUpTo}

-- ---- one file

pub nothing_torn : decoded [] ≡ NotWhole Short
unfolding decoded
nothing_torn = refl

-- a file that was encoded, with nothing behind it
pub found_alone : (f : ℕ) (entries : List Entry) → f < 2 ^ 32 → AreFileEntries entries → scan_of f (file_bytes f entries) ≡ Prefix (prefix_with entries)
found_alone f entries lt ok = ap (scan_of f) (sym (append-nil (file_bytes f entries))) ∙ are_found_again f entries [] Short lt ok nothing_torn

pub empty_prefix : (f : ℕ) (entries : List Entry) → HoldsPrefix f entries []
empty_prefix f entries = record { prefix = no_prefix; found = ap (scan_by f []) nothing_torn; more = entries; is = refl }

-- a prefix that was cut
prefix_cut : (f n : ℕ) (entries : List Entry) (bytes : List ℕ) → HoldsPrefix f entries bytes → HoldsPrefix f entries (take n bytes)
prefix_cut f n entries bytes holds =
    let cut = cut_prefix f n bytes holds.prefix holds.found in
    record { prefix = cut.prefix; found = cut.found; more = cut.more ++ holds.more; is = holds.is ∙ ap (λ (l : List Entry). l ++ holds.more) cut.is ∙ append_assoc cut.prefix.entries cut.more holds.more }

-- what a log has in a file begins with these bytes, or they are none
abbrev IsCutOf : Log → ℕ → List ℕ → Type 0
IsCutOf log f bytes = (bytes ≡ []) ⊎ ((es : List Entry) × (rest : List ℕ) × (lookup (λ n. n == f) log ≡ Some es) × (file_bytes f es ≡ bytes ++ rest))

cut_holds : (log : Log) (f : ℕ) (bytes : List ℕ) → IsLog log → IsCutOf log f bytes → HoldsPrefix f (entries_at log f) bytes
cut_holds log f bytes is (inl none) = subst (HoldsPrefix f (entries_at log f)) (sym none) (empty_prefix f (entries_at log f))
cut_holds log f bytes is (inr cut) =
    let ok = log_file_at log f cut.0 is.each cut.2 in
    let front : take (length bytes) (file_bytes f cut.0) ≡ bytes = ap (take (length bytes)) cut.3 ∙ take_at bytes cut.1 (length bytes) refl in
    subst (λ (es : List Entry). HoldsPrefix f es bytes) (sym (ap (λ (o : Option (List Entry)). unwrap_or o []) cut.2))
    (subst (HoldsPrefix f cut.0) front (cut_prefix f (length bytes) (file_bytes f cut.0) (prefix_with cut.0) (found_alone f cut.0 ok.0 ok.1)))

-- a file and what follows it in the write buffer are all that the log has there, or it has none
record IsNone (log : Log) (f : ℕ) (there unwritten : List ℕ) : Type 0 where
  there_is : there ≡ []
  unwritten_is : unwritten ≡ []

record IsAll (log : Log) (f : ℕ) (there unwritten : List ℕ) : Type 0 where
  entries : List Entry
  found : lookup (λ n. n == f) log ≡ Some entries
  is : file_bytes f entries ≡ there ++ unwritten

joined_all : (log : Log) (f : ℕ) (there : Option (List ℕ)) (unwritten : List ℕ) → joined there unwritten ≡ files_of_log log f → IsNone log f (unwrap_or there []) unwritten ⊎ IsAll log f (unwrap_or there []) unwritten
joined_all log f there unwritten is = by_parts (lookup (λ n. n == f) log) unwritten refl is where
  some_same : (x y : List ℕ) → (let o : Option (List ℕ) = Some x in o) ≡ Some y → x ≡ y
  some_same x y e = cc

  by_parts : (o : Option (List Entry)) (t : List ℕ) → lookup (λ n. n == f) log ≡ o → joined there t ≡ option_map (file_bytes f) o → IsNone log f (unwrap_or there []) t ⊎ IsAll log f (unwrap_or there []) t
  by_parts None [] e same = inl (record { there_is = ap (λ (x : Option (List ℕ)). unwrap_or x []) same; unwritten_is = refl })
  by_parts None (b ∷ t) e same = absurd cc
  by_parts (Some es) [] e same = inr (record { entries = es; found = e; is = sym (ap (λ (x : Option (List ℕ)). unwrap_or x []) same) ∙ sym (append-nil (unwrap_or there [])) })
  by_parts (Some es) (b ∷ t) e same = inr (record { entries = es; found = e; is = sym (some_same (unwrap_or there [] ++ b ∷ t) (file_bytes f es) same) })

joined_cut : (log : Log) (f : ℕ) (there : Option (List ℕ)) (unwritten : List ℕ) → joined there unwritten ≡ files_of_log log f → IsCutOf log f (unwrap_or there [])
joined_cut log f there unwritten is = by_all (joined_all log f there unwritten is) where
  by_all : IsNone log f (unwrap_or there []) unwritten ⊎ IsAll log f (unwrap_or there []) unwritten → IsCutOf log f (unwrap_or there [])
  by_all (inl none) = inl none.there_is
  by_all (inr all) = inr (all.entries, unwritten, all.found, all.is)

-- the same with the first of the bytes that are to follow it
part_cut : (log : Log) (f : ℕ) (there : Option (List ℕ)) (bytes part rest : List ℕ) → bytes ≡ part ++ rest → joined there bytes ≡ files_of_log log f → IsCutOf log f (unwrap_or there [] ++ part)
part_cut log f there bytes part rest parts is = by_all (joined_all log f there bytes is) where
  no_part : (p : List ℕ) → [] ≡ p ++ rest → p ≡ []
  no_part [] e = refl
  no_part (b ∷ p) e = absurd cc

  by_all : IsNone log f (unwrap_or there []) bytes ⊎ IsAll log f (unwrap_or there []) bytes → IsCutOf log f (unwrap_or there [] ++ part)
  by_all (inl none) = inl (ap (λ (x : List ℕ). x ++ part) none.there_is ∙ no_part part (sym none.unwritten_is ∙ parts))
  by_all (inr all) = inr (all.entries, rest, all.found, all.is ∙ ap (λ (x : List ℕ). unwrap_or there [] ++ x) parts ∙ sym (append_assoc (unwrap_or there []) part rest))

-- ---- all files

pub unwritten_prefixes : (log : Log) (reads : Files) (unwritten : ℕ → List ℕ) → IsLog log → ((f : ℕ) → joined (reads f) (unwritten f) ≡ files_of_log log f) → HoldPrefixes log reads
unwritten_prefixes log reads unwritten is observed f = cut_holds log f (content reads f) is (joined_cut log f (reads f) (unwritten f) (observed f))

-- files that read as a log
pub read_prefixes : (log : Log) (reads : Files) → IsLog log → ((f : ℕ) → reads f ≡ files_of_log log f) → HoldPrefixes log reads
read_prefixes log reads is read = unwritten_prefixes log reads (λ _. []) is read

-- the files below a buffer that has a log
pub observed_prefixes : {D : Type 0} (observable : Bool) (state : State) (buffer : LogBuffer D) (log : Log) → observable ≡ true → HasLog observable state buffer log → HoldPrefixes log state.reads
observed_prefixes observable state buffer log observed has = unwritten_prefixes log state.reads (unwritten_of buffer) has.is_log (has.observed observed)

-- files of which the first ones are whole and the others are not there
pub upto_prefixes : (log : Log) (n : ℕ) (reads : Files) → IsLog log → ReadUpTo log n reads → HoldPrefixes log reads
upto_prefixes log n reads is read f = by_order (cases_lt n f) where
  by_order : (n < f) ⊎ (f ≤ n) → HoldsPrefix f (entries_at log f) (content reads f)
  by_order (inl past) = subst (HoldsPrefix f (entries_at log f)) (sym (ap (λ (o : Option (List ℕ)). unwrap_or o []) (read.beyond f past))) (empty_prefix f (entries_at log f))
  by_order (inr within) = cut_holds log f (content reads f) is (joined_cut log f (reads f) [] (read.upto f within))

-- an empty file was made
pub created_prefixes : (log : Log) (f : ℕ) (s : State) → HoldPrefixes log s.reads → HoldPrefixes log (created f s).reads
created_prefixes log f s holds g = by_there (s.reads f) where
  by_file : (b : Bool) → HoldsPrefix g (entries_at log g) (unwrap_or (cond b (Some []) (s.reads g)) [])
  by_file true = empty_prefix g (entries_at log g)
  by_file false = holds g

  by_there : (there : Option (List ℕ)) → HoldsPrefix g (entries_at log g) (content (created_by there f s).reads g)
  by_there None = by_file (g == f)
  by_there (Some there) = holds g

-- a file was cut
pub cut_prefixes : (log : Log) (f n : ℕ) (s : State) → HoldPrefixes log s.reads → HoldPrefixes log (cut f n s).reads
cut_prefixes log f n s holds g =
    subst (λ (o : Option (List ℕ)). HoldsPrefix g (entries_at log g) (unwrap_or o [])) (sym (cut-reads f g n s)) (by_file (g == f) refl)
  where
    shorter : (o : Option (List ℕ)) → HoldsPrefix f (entries_at log f) (unwrap_or o []) → HoldsPrefix f (entries_at log f) (unwrap_or (mapped (take n) o) [])
    shorter None here = here
    shorter (Some there) here = prefix_cut f n (entries_at log f) there here

    by_file : (b : Bool) → (g == f) ≡ b → HoldsPrefix g (entries_at log g) (unwrap_or (cond b (mapped (take n) (s.reads f)) (s.reads g)) [])
    by_file true same = subst (λ (m : ℕ). HoldsPrefix m (entries_at log m) (unwrap_or (mapped (take n) (s.reads f)) [])) (sym (eqb-true _ _ same)) (shorter (s.reads f) (holds f))
    by_file false other = holds g

appended_content : (f : ℕ) (part bytes : List ℕ) (s : State) (g : ℕ) → content (partly_appended f part bytes s).reads g ≡ cond (g == f) (content s.reads f ++ part) (content s.reads g)
appended_content f part bytes s g = by_there (s.reads f) where
  by_file : (b : Bool) (x : List ℕ) → unwrap_or (cond b (Some x) (s.reads g)) [] ≡ cond b x (content s.reads g)
  by_file true x = refl
  by_file false x = refl

  by_there : (there : Option (List ℕ)) → content (partly_appended_by there f part bytes s).reads g ≡ cond (g == f) (unwrap_or there [] ++ part) (content s.reads g)
  by_there None = by_file (g == f) part
  by_there (Some there) = by_file (g == f) (there ++ part)

-- the first of the bytes that are to follow a file were put there
pub grown_prefixes : (log : Log) (f : ℕ) (bytes part rest : List ℕ) (s : State) → IsLog log → HoldPrefixes log s.reads → bytes ≡ part ++ rest → joined (s.reads f) bytes ≡ files_of_log log f →
    HoldPrefixes log (partly_appended f part bytes s).reads
grown_prefixes log f bytes part rest s is holds parts observed g = subst (HoldsPrefix g (entries_at log g)) (sym (appended_content f part bytes s g)) (by_file (g == f) refl) where
  here : HoldsPrefix f (entries_at log f) (content s.reads f ++ part)
  here = cut_holds log f (content s.reads f ++ part) is (part_cut log f (s.reads f) bytes part rest parts observed)

  by_file : (b : Bool) → (g == f) ≡ b → HoldsPrefix g (entries_at log g) (cond b (content s.reads f ++ part) (content s.reads g))
  by_file true same = subst (λ (n : ℕ). HoldsPrefix n (entries_at log n) (content s.reads f ++ part)) (sym (eqb-true _ _ same)) here
  by_file false other = holds g

-- ---- a longer log

-- a log with an entry more has what it had in each file, and maybe more behind
record HasMore (f : ℕ) (log longer : Log) : Type 0 where
  more : List Entry
  is : entries_at longer f ≡ entries_at log f ++ more

more_at : (f : ℕ) (entry : Entry) (log : Log) (g : ℕ) → HasMore g log (log_with f entry log)
more_at f entry [] g = record { more = entries_at ((f, entry ∷ []) ∷ []) g; is = refl }
more_at f entry (file ∷ log) g = by_file (file.0 == f) refl (more_at f entry log g) where
  others : Option (List Entry)
  others = lookup (λ n. n == g) log

  in_file : (b : Bool) → unwrap_or (cond b (Some (file.1 ++ entry ∷ [])) others) [] ≡ unwrap_or (cond b (Some file.1) others) [] ++ cond b (entry ∷ []) []
  in_file true = refl
  in_file false = sym (append-nil (unwrap_or others []))

  behind : (rest : HasMore g log (log_with f entry log)) → (b : Bool) →
      unwrap_or (cond b (Some file.1) (lookup (λ n. n == g) (log_with f entry log))) [] ≡ unwrap_or (cond b (Some file.1) others) [] ++ cond b [] rest.more
  behind rest true = sym (append-nil file.1)
  behind rest false = rest.is

  by_file : (b : Bool) → (file.0 == f) ≡ b → HasMore g log (log_with f entry log) → HasMore g (file ∷ log) (cond b ((f, file.1 ++ entry ∷ []) ∷ log) (file ∷ log_with f entry log))
  by_file true same rest = record {
    more = cond (file.0 == g) (entry ∷ []) [];
    is = subst (λ (n : ℕ). unwrap_or (cond (n == g) (Some (file.1 ++ entry ∷ [])) others) [] ≡ unwrap_or (cond (file.0 == g) (Some file.1) others) [] ++ cond (file.0 == g) (entry ∷ []) []) (eqb-true _ _ same)
        (in_file (file.0 == g));
  }
  by_file false other rest = record { more = cond (file.0 == g) [] rest.more; is = behind rest (file.0 == g) }

pub prefixes_grow : (f : ℕ) (entry : Entry) (log : Log) (reads : Files) → HoldPrefixes log reads → HoldPrefixes (log_with f entry log) reads
prefixes_grow f entry log reads holds g =
    let here = holds g in
    let more = more_at f entry log g in
    record { prefix = here.prefix; found = here.found; more = here.more ++ more.more; is = more.is ∙ ap (λ (l : List Entry). l ++ more.more) here.is ∙ append_assoc here.prefix.entries here.more more.more }
