-- What one more change does to a record of changes, and to the files that it makes.
use Rattle.std.proofs.Common.{◌≡◌, ◌≤◌, ◌<◌, ◌+◌, ◌++◌, ◌∷◌, ℕ, List, [], Option, Some, None, length, take, drop, refl, ap, sym, ◌∙◌, subst, arith, length-append, if◌then◌else◌, Bool, true, false, Result, Ok, Err, OnOk, OnErr, map}
use Rattle.std.proofs.lemmas.Bool.Decides.{nat_tests, Decides-eqb}
use Rattle.std.proofs.lemmas.List.{take-append-le, append-nil}
use Rattle.std.specs.declared.alloc.AllocError.{AllocError}
use Rattle.je_lsn.specs.declared.file_no.FileNo.{FileNo}
use Rattle.std.specs.BTreeMap.{BTreeMap, keys, get, IsOrdered}
use Rattle.std.specs.List.Sorted.{IsStrictlyIncreasing}
use Rattle.std.specs.Ordering.{nat_cmp}
use Rattle.std.proofs.Common.{Vec, IfOk, IsSome, Contains, ◌↔◌}
use Rattle.std.specs.Cmp.{nat_cmp_total}
use Rattle.std.specs.Option.{option_map}
use Rattle.std.specs.declared.alloc.Global.{Global}
use Rattle.std.proofs.lemmas.Map.Keys.{IsStrictlyIncreasing-from_sorted}
use Rattle.std.proofs.lemmas.Map.Views.{btree_map_contains_key_iff}
use Rattle.std.proofs.lemmas.Map.Lookups.{exact_unsigned}
use Rattle.je_disk.specs.States.{AreRisingNumbers, IsListing, State, Files, nothing, put_at, content, created, created_by, appended, partly_appended_by, synced}
use Rattle.je_disk.specs.Moments.{now, Passes}
use Rattle.je_disk.proofs.CallEffects.{put_at-same}
use Rattle.mem_disk.specs.declared.change.Change.{Change}
use Rattle.mem_disk.specs.declared.change.Change.TheVariants.{Append, Sync}
use Rattle.std.proofs.Common.{get_or, drop-cons, add-one, suc, is_some, nat_eq, ◌||◌, cond}
use Rattle.std.proofs.Math.ListN.{drop_of_length-le}
use Rattle.std.specs.Ordering.{eq_by_cmp}
use Rattle.std.specs.Map.{lookup}
use Rattle.std.specs.Set.{is_member}
use Rattle.mem_disk.specs.Replay.{listed, held_from, files_at, read_at, state_changed, replay_from, replay, history_of}

-- the last change acts on the state after the others
pub replay_from-push : (s : State) (changes : List Change) (change : Change) → replay_from s (changes ++ change ∷ []) ≡ state_changed change (replay_from s changes)
replay_from-push s [] change = refl
replay_from-push s (c ∷ rest) change = replay_from-push (state_changed c s) rest change

pub replay-push : (changes : List Change) (change : Change) → replay (changes ++ change ∷ []) ≡ state_changed change (replay changes)
replay-push changes change = replay_from-push nothing changes change

-- the state now is that after all changes
pub now-history_of : (changes : List Change) → now (history_of changes) ≡ replay changes
now-history_of changes = ap replay (take_whole changes) where
  take_whole : (xs : List Change) → take (length xs) xs ≡ xs
  take_whole [] = refl
  take_whole (x ∷ xs) = ap (λ ys. x ∷ ys) (take_whole xs)

-- the state after one more change
pub pushed_now : (before after : List Change) (change : Change) → after ≡ before ++ change ∷ [] → now (history_of after) ≡ state_changed change (now (history_of before))
pushed_now before after change is =
    now-history_of after ∙ ap replay is ∙ replay-push before change ∙ ap (state_changed change) (sym (now-history_of before))

-- one more change is one more moment
pub pushed_passes : (before after : List Change) (change : Change) (P : State → Type 0) → after ≡ before ++ change ∷ [] →
    P (state_changed change (now (history_of before))) → Passes (history_of before) (history_of after) P
pushed_passes before after change P is so = record {
  later = omega (arith, long);
  keeps = λ k within. ap replay (ap (take k) is ∙ front k within);
  each = λ k past within. subst (λ (n : ℕ). P ((history_of after).state_at n)) (only k past within) (subst P (sym (pushed_now before after change is)) so);
} where
  long : length after ≡ length before + 1
  long = ap length is ∙ length-append before (change ∷ [])

  front : (k : ℕ) → k ≤ length before → take k (before ++ change ∷ []) ≡ take k before
  front k within = take-append-le k before (change ∷ []) within

  only : (k : ℕ) → length before < k → k ≤ length after → length after ≡ k
  only k past within = omega (arith, long)

-- a file's bytes after more were put at its end
pub appended-reads : (f g : ℕ) (bytes given : List ℕ) (s : State) → bytes ≡ given → (appended f bytes s).reads g ≡ put_at s.reads f (Some (content s.reads f ++ given)) g
appended-reads f g bytes given s is =
    subst (λ (xs : List ℕ). (appended f bytes s).reads g ≡ put_at s.reads f (Some (content s.reads f ++ xs)) g) is (by_file (s.reads f) refl)
  where
    by_file : (there : Option (List ℕ)) → s.reads f ≡ there → (partly_appended_by there f bytes bytes s).reads g ≡ put_at s.reads f (Some (content s.reads f ++ bytes)) g
    by_file None is = rw is refl
    by_file (Some b) is = rw is refl

-- a file's bytes after an empty one was made where there was none
pub created-reads : (f g : ℕ) (s : State) → (created f s).reads g ≡ put_at s.reads f (Some (content s.reads f ++ [])) g
created-reads f g s = by_file (s.reads f) refl where
  by_file : (there : Option (List ℕ)) → s.reads f ≡ there → (created_by there f s).reads g ≡ put_at s.reads f (Some (content s.reads f ++ [])) g
  by_file None is = rw is refl
  by_file (Some b) is = sym (put_at-same s.reads f g (Some (content s.reads f ++ [])) (rw is (ap (λ xs. Some xs) (sym (append-nil b)))))

-- files that read alike, grown alike, read alike
put_at-alike : (xs ys : Files) (f g : ℕ) (bytes : List ℕ) → ((h : ℕ) → xs h ≡ ys h) →
    put_at xs f (Some (content xs f ++ bytes)) g ≡ put_at ys f (Some (content ys f ++ bytes)) g
put_at-alike xs ys f g bytes alike = rw (alike f, alike g) refl

-- files that a record of changes makes, after a change that puts bytes at the end of one, or nothing at all
pub written_agrees : (r : Result (Unit {0}) AllocError) (old new : Files) (before after : List Change) (f : ℕ) (bytes : List ℕ) (change : Change) →
    OnOk r ((g : ℕ) → new g ≡ put_at old f (Some (content old f ++ bytes)) g) → OnOk r (after ≡ before ++ change ∷ []) →
    OnErr r ((g : ℕ) → new g ≡ old g) → OnErr r (after ≡ before) →
    ((g : ℕ) → old g ≡ (replay before).reads g) →
    ((g : ℕ) → (state_changed change (replay before)).reads g ≡ put_at (replay before).reads f (Some (content (replay before).reads f ++ bytes)) g) →
    (g : ℕ) → new g ≡ (replay after).reads g
written_agrees (Ok _) old new before after f bytes change grown is _ _ agrees does g =
    grown g ∙ put_at-alike old (replay before).reads f g bytes agrees ∙ sym (does g) ∙ ap (λ (s : State). s.reads g) (sym (replay-push before change)) ∙ ap (λ (cs : List Change). (replay cs).reads g) (sym is)
written_agrees (Err _) old new before after f bytes change _ _ same is agrees does g =
    same g ∙ agrees g ∙ ap (λ (cs : List Change). (replay cs).reads g) (sym is)

-- files that a record of changes makes, after a change that the files do not show
pub noted_agrees : (ok : Bool) (files : Files) (before after : List Change) (change : Change) → after ≡ (if ok then before ++ change ∷ [] else before) →
    ((g : ℕ) → files g ≡ (replay before).reads g) → ((g : ℕ) → (state_changed change (replay before)).reads g ≡ (replay before).reads g) → (g : ℕ) → files g ≡ (replay after).reads g
noted_agrees true files before after change is agrees unseen g =
    agrees g ∙ sym (unseen g) ∙ ap (λ (s : State). s.reads g) (sym (replay-push before change)) ∙ ap (λ (cs : List Change). (replay cs).reads g) (sym is)
noted_agrees false files before after change is agrees unseen g = agrees g ∙ ap (λ (cs : List Change). (replay cs).reads g) (sym is)

-- files that a record of changes makes, after a change of one file
pub changed_agrees : (old new : Files) (before after : List Change) (change : Change) (f : ℕ) (file : Option (List ℕ) → Option (List ℕ)) → after ≡ before ++ change ∷ [] →
    ((g : ℕ) → new g ≡ put_at old f (file (old f)) g) → ((g : ℕ) → old g ≡ (replay before).reads g) →
    ((g : ℕ) → (state_changed change (replay before)).reads g ≡ put_at (replay before).reads f (file ((replay before).reads f)) g) → (g : ℕ) → new g ≡ (replay after).reads g
changed_agrees old new before after change f file is made agrees does g =
    made g ∙ alike ∙ sym (does g) ∙ ap (λ (s : State). s.reads g) (sym (replay-push before change)) ∙ ap (λ (cs : List Change). (replay cs).reads g) (sym is)
  where
    alike : put_at old f (file (old f)) g ≡ put_at (replay before).reads f (file ((replay before).reads f)) g
    alike = rw (agrees f, agrees g) refl

-- the numbers of numbered files
numbers-back : (xs : List ℕ) → map {B = ℕ} (λ (n : FileNo). n.0) (map {B = FileNo} (λ (n : ℕ). record { 0 = n }) xs) ≡ xs
numbers-back [] = refl
numbers-back (x ∷ xs) = ap (λ ys. x ∷ ys) (numbers-back xs)

-- whether a file is in the map, by its number among the keys
read_at-has : (files : BTreeMap ℕ (Vec ℕ Global)) (f : ℕ) → Contains (keys files) f ↔ IsSome (read_at files f)
read_at-has files f = (λ among. to_bytes (get nat_cmp files f) (found.1 among), λ there. found.0 (from_bytes (get nat_cmp files f) there)) where
  found : IsSome (get nat_cmp files f) ↔ Contains (keys files) f
  found = btree_map_contains_key_iff nat_cmp_total exact_unsigned files f

  to_bytes : (o : Option (Vec ℕ Global)) → IsSome o → IsSome (option_map (λ (v : Vec ℕ Global). v.items) o)
  to_bytes None there = there
  to_bytes (Some v) there = refl

  from_bytes : (o : Option (Vec ℕ Global)) → IsSome (option_map (λ (v : Vec ℕ Global). v.items) o) → IsSome o
  from_bytes None there = there
  from_bytes (Some v) there = refl

-- the numbers of a map's files rise, and are those of the files that it has
pub numbers_rise : (r : Result (Vec FileNo Global) AllocError) (files : BTreeMap ℕ (Vec ℕ Global)) (ks : List ℕ) →
    IfOk r (λ numbers. numbers.items ≡ map (λ n. record { 0 = n }) ks) → ks ≡ keys files → IsOrdered nat_cmp files →
    IfOk r (λ numbers. AreRisingNumbers numbers.items)
numbers_rise (Ok numbers) files ks is from ordered =
    subst IsStrictlyIncreasing (sym (ap (map {B = ℕ} (λ (n : FileNo). n.0)) is ∙ numbers-back ks ∙ from)) (IsStrictlyIncreasing-from_sorted (keys files) ordered)
numbers_rise (Err _) files ks is from ordered = tt

pub numbers_listed : (r : Result (Vec FileNo Global) AllocError) (files : BTreeMap ℕ (Vec ℕ Global)) (ks : List ℕ) (reads : Files) →
    IfOk r (λ numbers. numbers.items ≡ map (λ n. record { 0 = n }) ks) → ks ≡ keys files → ((f : ℕ) → read_at files f ≡ reads f) →
    IfOk r (λ numbers. IsListing reads numbers.items)
numbers_listed (Ok numbers) files ks reads is from agrees = λ f.
    subst (λ (xs : List ℕ). Contains xs f ↔ IsSome (reads f)) (sym (ap (map {B = ℕ} (λ (n : FileNo). n.0)) is ∙ numbers-back ks ∙ from))
    (subst (λ (o : Option (List ℕ)). Contains (keys files) f ↔ IsSome o) (agrees f) (read_at-has files f))
numbers_listed (Err _) files ks reads is from agrees = tt

-- one more file put on a disk
pub held_from-step : (before after : List Change) (files : List (FileNo × Vec ℕ Global)) (i : ℕ) (file : FileNo × Vec ℕ Global) (goal : State) →
    i < length files → file ≡ get_or files i file → after ≡ before ++ Append file.0 file.1.items ∷ [] →
    held_from (replay before) (listed (drop i files)) ≡ goal → held_from (replay after) (listed (drop (i + 1) files)) ≡ goal
held_from-step before after files i file goal within is pushed held_so =
    rw (add-one, pushed, replay-push before (Append file.0 file.1.items)) (subst (λ (xs : List (FileNo × Vec ℕ Global)). held_from (replay before) (listed xs) ≡ goal) next held_so)
  where
    next : drop i files ≡ file ∷ drop (suc i) files
    next = drop-cons files i file within ∙ ap (λ (f : FileNo × Vec ℕ Global). f ∷ drop (suc i) files) (sym is)

-- a sync, when all files were put
pub held_from-end : (before after : List Change) (files : List (FileNo × Vec ℕ Global)) (i : ℕ) (goal : State) →
    length files ≤ i → after ≡ before ++ Sync ∷ [] → held_from (replay before) (listed (drop i files)) ≡ goal → replay after ≡ synced goal
held_from-end before after files i goal past pushed held_so =
    ap replay pushed ∙ replay-push before Sync ∙ ap synced (subst (λ (xs : List (FileNo × Vec ℕ Global)). held_from (replay before) (listed xs) ≡ goal) (drop_of_length-le files past) held_so)

-- one more copy of a file
listed-push : (copies : List (FileNo × Vec ℕ Global)) (copy : FileNo × Vec ℕ Global) (rest : List (ℕ × List ℕ)) → listed (copies ++ copy ∷ []) ++ rest ≡ listed copies ++ ((copy.0.0, copy.1.items) ∷ rest)
listed-push [] copy rest = refl
listed-push (first ∷ copies) copy rest = ap (λ (files : List (ℕ × List ℕ)). (first.0.0, first.1.items) ∷ files) (listed-push copies copy rest)

copies-push : (reads : Files) (before after : List (FileNo × Vec ℕ Global)) (f : ℕ) (ks : List ℕ) (bytes : Vec ℕ Global) (goal : List (ℕ × List ℕ)) →
    bytes.items ≡ content reads f → after ≡ before ++ (record { 0 = f }, bytes) ∷ [] → listed before ++ files_at reads (f ∷ ks) ≡ goal → listed after ++ files_at reads ks ≡ goal
copies-push reads before after f ks bytes goal is pushed so =
    ap (λ (files : List (FileNo × Vec ℕ Global)). listed files ++ files_at reads ks) pushed ∙ listed-push before (record { 0 = f }, bytes) (files_at reads ks)
    ∙ ap (λ (there : List ℕ). listed before ++ ((f, there) ∷ files_at reads ks)) is ∙ so

pub copies-step : (reads : Files) (before after : List (FileNo × Vec ℕ Global)) (ks : List ℕ) (i : ℕ) (bytes : Vec ℕ Global) (goal : List (ℕ × List ℕ)) →
    i < length ks → bytes.items ≡ content reads (get_or ks i 0) → after ≡ before ++ (record { 0 = get_or ks i 0 }, bytes) ∷ [] →
    listed before ++ files_at reads (drop i ks) ≡ goal → listed after ++ files_at reads (drop (i + 1) ks) ≡ goal
copies-step reads before after ks i bytes goal within is pushed so =
    rw add-one (copies-push reads before after (get_or ks i 0) (drop (suc i) ks) bytes goal is pushed (subst (λ (rest : List ℕ). listed before ++ files_at reads rest ≡ goal) (drop-cons ks i 0 within) so))

-- the numbers of files
numbers-files_at : (reads : Files) (ks : List ℕ) → map {A = ℕ × List ℕ} {B = ℕ} (λ p. p.0) (files_at reads ks) ≡ ks
numbers-files_at reads [] = refl
numbers-files_at reads (k ∷ ks) = ap (λ xs. k ∷ xs) (numbers-files_at reads ks)

-- the order's test of two numbers is that of their equality
eq_by_cmp-nat : (f x : ℕ) → eq_by_cmp nat_cmp f x ≡ nat_eq f x
eq_by_cmp-nat f x = grind (arith, nat_tests)

-- the files of these numbers have a file exactly where its number is among them
lookup-among : (reads : Files) (f : ℕ) (ks : List ℕ) → lookup (nat_eq f) (files_at reads ks) ≡ (if is_member (eq_by_cmp nat_cmp) ks f then Some (content reads f) else None)
lookup-among reads f [] = refl
lookup-among reads f (k ∷ ks) =
    rw (eq_by_cmp-nat f k) (pick (nat_eq f k) (is_member (eq_by_cmp nat_cmp) ks f) (λ same. ap (content reads) (sym ((Decides-eqb f k).0 same))) (lookup-among reads f ks))
  where
    pick : (here later : Bool) → (here ≡ true → content reads k ≡ content reads f) → lookup (nat_eq f) (files_at reads ks) ≡ (if later then Some (content reads f) else None) →
        cond here (Some (content reads k)) (lookup (nat_eq f) (files_at reads ks)) ≡ (if here || later then Some (content reads f) else None)
    pick true later same _ = ap (λ xs. Some xs) (same refl)
    pick false later same after = after

-- what a list of files says of one file
lookup-files_at : (reads : Files) (ks : List ℕ) (f : ℕ) → is_some (reads f) ≡ is_member (eq_by_cmp nat_cmp) ks f → lookup (nat_eq f) (files_at reads ks) ≡ reads f
lookup-files_at reads ks f same = lookup-among reads f ks ∙ by_file (reads f) refl (is_member (eq_by_cmp nat_cmp) ks f) same where
  by_file : (o : Option (List ℕ)) → reads f ≡ o → (b : Bool) → is_some o ≡ b → (if b then Some (content reads f) else None) ≡ o
  by_file None is true same = cc
  by_file None is false same = refl
  by_file (Some there) is true same = rw is refl
  by_file (Some there) is false same = cc

-- whether a map has a file
is_some-read_at : (files : BTreeMap ℕ (Vec ℕ Global)) (f : ℕ) → is_some (read_at files f) ≡ is_some (get nat_cmp files f)
is_some-read_at files f = by_file (get nat_cmp files f) where
  by_file : (o : Option (Vec ℕ Global)) → is_some (option_map (λ (v : Vec ℕ Global). v.items) o) ≡ is_some o
  by_file None = refl
  by_file (Some v) = refl

-- copies of a map's files rise by their numbers
pub copies_rise : (r : Result (Vec (FileNo × Vec ℕ Global) Global) AllocError) (files : BTreeMap ℕ (Vec ℕ Global)) (ks : List ℕ) →
    IfOk r (λ copies. listed copies.items ≡ files_at (read_at files) ks) → ks ≡ keys files → IsOrdered nat_cmp files →
    IfOk r (λ copies. IsStrictlyIncreasing (map (λ (p : ℕ × List ℕ). p.0) (listed copies.items)))
copies_rise (Ok copies) files ks is from ordered =
    subst IsStrictlyIncreasing (sym (ap (map {A = ℕ × List ℕ} {B = ℕ} (λ p. p.0)) is ∙ numbers-files_at (read_at files) ks ∙ from)) (IsStrictlyIncreasing-from_sorted (keys files) ordered)
copies_rise (Err _) files ks is from ordered = tt

-- copies of a map's files say what the disk reads
pub copies_read : (r : Result (Vec (FileNo × Vec ℕ Global) Global) AllocError) (files : BTreeMap ℕ (Vec ℕ Global)) (ks : List ℕ) (reads : Files) →
    IfOk r (λ copies. listed copies.items ≡ files_at (read_at files) ks) → ks ≡ keys files →
    ((q : ℕ) → is_some (get nat_cmp files q) ≡ is_member (eq_by_cmp nat_cmp) (keys files) q) → ((f : ℕ) → read_at files f ≡ reads f) →
    IfOk r (λ copies. (f : ℕ) → lookup (nat_eq f) (listed copies.items) ≡ reads f)
copies_read (Ok copies) files ks reads is from has agrees = λ f.
    ap (lookup (nat_eq f)) is
    ∙ lookup-files_at (read_at files) ks f (is_some-read_at files f ∙ has f ∙ ap (λ (xs : List ℕ). is_member (eq_by_cmp nat_cmp) xs f) (sym from))
    ∙ agrees f
copies_read (Err _) files ks reads is from has agrees = tt
