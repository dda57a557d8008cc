-- Which files of a log are needed.
use Rattle.std.proofs.Common.{◌≡◌, ℕ, ◌+◌, ◌/◌, ◌^◌, ◌<◌, ◌≤◌, ◌==◌, nat_le, nat_lt, Bool, true, false, cond, List, [], ◌∷◌, ◌++◌, Option, None, Some, map, filter, take, drop, refl, sym, ap, subst, ◌∙◌, arith, ◌⊎◌, inl, inr}
use Rattle.std.specs.Prelude.{IsSome}
use Rattle.std.proofs.lemmas.Bool.{true≢false, lt-ltb, le-leb, lt-leb, leb-true, eqb-true, eq-eqb, cond-true, cond-false, cases_lt}
use Rattle.std.proofs.lemmas.List.{take-take, take-append-drop}
use Rattle.std.proofs.lemmas.List.Elements.{filter-append}
use Rattle.std.specs.List.{AllByRecursion}
use Rattle.je_order.proofs.Lists.{all_weaker, all_append}
use Rattle.store_model.specs.Store.{store_after}
use Rattle.log_file.specs.Log.{log_in}
use Rattle.log_replay.specs.declared.corruption.Corruption.{Corruption}
use Rattle.log_replay.specs.Wrong.{or_else}
use Rattle.log_replay.specs.Reading.{gap_behind, gap_in}
use Rattle.log_replay.proofs.ListLaws.{filter-none}
use Rattle.log_trees.specs.Placed.{Placed, placed}
use Rattle.log_trees.specs.Walk.{nowhere}
use Rattle.log_meaning.specs.Checkpoint.{Checkpoint, checkpoint_in, last_end}
use Rattle.log_meaning.specs.Reading.{gap_at, gap_from, missing, redo_corruption, unless, meaning_in}
use Rattle.log_meaning.specs.Recovery.{Leaves, IsRedoLsn, commits_in, IsFirstFile}
use Rattle.log_meaning.specs.Found.{HasFilesFrom, NoGapHasFiles, NextFileStays, NeededFilesRecover}
use Rattle.log_meaning.proofs.Images.{gap-front, no_gap-front, gap_from-none, no_redo_corruption, reads_leaves, first-front}
use Rattle.log_meaning.proofs.Leaving.{commits_rise, few_commits}

-- ---- numbers from one on

-- those from a later one on are among them
filter_twice : (f g : ℕ) (ns : List ℕ) → f ≤ g → filter (λ n. nat_le g n) (filter (λ n. nat_le f n) ns) ≡ filter (λ n. nat_le g n) ns
filter_twice f g [] le = refl
filter_twice f g (n ∷ ns) le = by_tests (nat_le f n) (nat_le g n) refl refl (filter_twice f g ns le)
  where
    by_tests : (a b : Bool) → nat_le f n ≡ a → nat_le g n ≡ b → filter (λ m. nat_le g m) (filter (λ m. nat_le f m) ns) ≡ filter (λ m. nat_le g m) ns →
        filter (λ m. nat_le g m) (cond a (n ∷ filter (λ m. nat_le f m) ns) (filter (λ m. nat_le f m) ns)) ≡ cond b (n ∷ filter (λ m. nat_le g m) ns) (filter (λ m. nat_le g m) ns)
    by_tests true true f_is g_is rest =
        cond-true (nat_le g n) (n ∷ filter (λ m. nat_le g m) (filter (λ m. nat_le f m) ns)) (filter (λ m. nat_le g m) (filter (λ m. nat_le f m) ns)) g_is ∙ ap (λ (l : List ℕ). n ∷ l) rest
    by_tests true false f_is g_is rest =
        cond-false (nat_le g n) (n ∷ filter (λ m. nat_le g m) (filter (λ m. nat_le f m) ns)) (filter (λ m. nat_le g m) (filter (λ m. nat_le f m) ns)) g_is ∙ rest
    by_tests false true f_is g_is rest = let up : g ≤ n = leb-true g n g_is in absurd (true≢false (sym (le-leb f n (omega (arith, up, le))) ∙ f_is))
    by_tests false false f_is g_is rest = rest

gap_at-front : (f : ℕ) (a b : List ℕ) → gap_at f (a ++ b) ≡ None → gap_at f a ≡ None
gap_at-front f [] b none = refl
gap_at-front f (n ∷ a) b none = by_test (n == f) none
  where
    by_test : (t : Bool) → cond t (gap_behind f (a ++ b)) (Some f) ≡ None → cond t (gap_behind f a) (Some f) ≡ None
    by_test true h = gap-front f a b h
    by_test false h = h

gap_from-front : (f : ℕ) (a b : List ℕ) → gap_from f (a ++ b) ≡ None → gap_from f a ≡ None
gap_from-front f a b none =
    gap_at-front f (filter (λ n. nat_le f n) a) (filter (λ n. nat_le f n) b) (sym (ap (gap_at f) (filter-append (λ n. nat_le f n) a b)) ∙ none)

gap_from-later : (f g : ℕ) (ns : List ℕ) → f ≤ g → gap_from f ns ≡ None → gap_from g ns ≡ None
gap_from-later f g ns le none = sym (ap (gap_at g) (filter_twice f g ns le)) ∙ among (filter (λ n. nat_le f n) ns) none
  where
    among : (ks : List ℕ) → gap_at f ks ≡ None → gap_from g ks ≡ None
    among [] h = refl
    among (k ∷ ks) h = by_test (k == f) refl h
      where
        by_test : (t : Bool) → (k == f) ≡ t → cond t (gap_behind f ks) (Some f) ≡ None → gap_from g (k ∷ ks) ≡ None
        by_test true is rest =
            let same : k ≡ f = eqb-true k f is in
            gap_from-none g k ks (omega (arith, same, le)) (subst (λ (n : ℕ). gap_behind n ks ≡ None) (sym same) rest)
        by_test false is rest = absurd cc

pub no_gap_has_files : NoGapHasFiles
no_gap_has_files first None numbers begins gap = (begins, gap)
no_gap_has_files first (Some c) [] begins gap = refl
no_gap_has_files first (Some c) (n ∷ numbers) begins gap = gap_from-none first n numbers (omega (arith, begins)) gap

-- ---- a next file

next_is : (f : ℕ) → gap_behind f ((f + 1) ∷ []) ≡ None
next_is f = cond-true (f + 1 == f + 1) None (Some (f + 1)) (eq-eqb (f + 1) (f + 1) refl)

gap_behind-push : (n : ℕ) (a : List ℕ) (f : ℕ) → gap_behind n (a ++ f ∷ []) ≡ None → gap_behind n ((a ++ f ∷ []) ++ (f + 1) ∷ []) ≡ None
gap_behind-push n [] f none = by_case (f == n + 1) none
  where
    by_case : (t : Bool) → cond t None (Some (n + 1)) ≡ None → cond t (gap_behind f ((f + 1) ∷ [])) (Some (n + 1)) ≡ None
    by_case true h = next_is f
    by_case false h = h
gap_behind-push n (m ∷ a) f none = by_case (m == n + 1) none (gap_behind-push m a f)
  where
    by_case : (t : Bool) → cond t (gap_behind m (a ++ f ∷ [])) (Some (n + 1)) ≡ None →
        (gap_behind m (a ++ f ∷ []) ≡ None → gap_behind m ((a ++ f ∷ []) ++ (f + 1) ∷ []) ≡ None) → cond t (gap_behind m ((a ++ f ∷ []) ++ (f + 1) ∷ [])) (Some (n + 1)) ≡ None
    by_case true h rest = rest h
    by_case false h rest = h

gap_in-push : (a : List ℕ) (f : ℕ) → gap_in (a ++ f ∷ []) ≡ None → gap_in ((a ++ f ∷ []) ++ (f + 1) ∷ []) ≡ None
gap_in-push [] f none = next_is f
gap_in-push (n ∷ a) f none = gap_behind-push n a f none

first-push : (first : ℕ) (a : List ℕ) (f : ℕ) (b : List ℕ) → IsFirstFile first (a ++ f ∷ []) → IsFirstFile first ((a ++ f ∷ []) ++ b)
first-push first [] f b is = is
first-push first (n ∷ a) f b is = is

gap_at-push : (first : ℕ) (a : List ℕ) (f : ℕ) → gap_at first (a ++ f ∷ []) ≡ None → gap_at first ((a ++ f ∷ []) ++ (f + 1) ∷ []) ≡ None
gap_at-push first [] f none = by_test (f == first) refl none
  where
    by_test : (t : Bool) → (f == first) ≡ t → cond t None (Some first) ≡ None → cond t (gap_behind first ((f + 1) ∷ [])) (Some first) ≡ None
    by_test true is h = subst (λ (n : ℕ). gap_behind n ((f + 1) ∷ []) ≡ None) (eqb-true f first is) (next_is f)
    by_test false is h = h
gap_at-push first (n ∷ a) f none = by_test (n == first) none
  where
    by_test : (t : Bool) → cond t (gap_behind first (a ++ f ∷ [])) (Some first) ≡ None → cond t (gap_behind first ((a ++ f ∷ []) ++ (f + 1) ∷ [])) (Some first) ≡ None
    by_test true h = gap_behind-push first a f h
    by_test false h = h

gap_from-push : (first : ℕ) (before : List ℕ) (f : ℕ) → AllByRecursion (λ n. n < f) before → gap_from first (before ++ f ∷ []) ≡ None → gap_from first ((before ++ f ∷ []) ++ (f + 1) ∷ []) ≡ None
gap_from-push first before f below none = by_order (cases_lt f first)
  where
    by_order : (f < first) ⊎ (first ≤ f) → gap_from first ((before ++ f ∷ []) ++ (f + 1) ∷ []) ≡ None
    by_order (inl less) =
        let nothing : filter (λ n. nat_le first n) (before ++ f ∷ []) ≡ [] =
        filter-none (λ n. nat_le first n) (before ++ f ∷ [])
        (all_append (λ n. nat_le first n ≡ false) before (f ∷ []) (all_weaker (λ n. n < f) (λ n. nat_le first n ≡ false) (λ n h. lt-leb first n (omega (arith, h, less))) before below) (lt-leb first f less, tt)) in
        ap (gap_at first) (filter-append (λ n. nat_le first n) (before ++ f ∷ []) ((f + 1) ∷ []) ∙ ap (λ (l : List ℕ). l ++ filter (λ n. nat_le first n) ((f + 1) ∷ [])) nothing) ∙ alone (nat_le first (f + 1)) refl
      where
        alone : (t : Bool) → nat_le first (f + 1) ≡ t → gap_at first (cond t ((f + 1) ∷ []) []) ≡ None
        alone true is = let up : first ≤ f + 1 = leb-true first (f + 1) is in cond-true (f + 1 == first) None (Some first) (eq-eqb (f + 1) first (omega (arith, up, less)))
        alone false is = refl
    by_order (inr le) =
        let kept : filter (λ n. nat_le first n) (before ++ f ∷ []) ≡ filter (λ n. nat_le first n) before ++ f ∷ [] =
        filter-append (λ n. nat_le first n) before (f ∷ []) ∙ ap (λ (l : List ℕ). filter (λ n. nat_le first n) before ++ l) (cond-true (nat_le first f) (f ∷ []) [] (le-leb first f le)) in
        let next : filter (λ n. nat_le first n) ((f + 1) ∷ []) ≡ (f + 1) ∷ [] = cond-true (nat_le first (f + 1)) ((f + 1) ∷ []) [] (le-leb first (f + 1) (omega (arith, le))) in
        ap (gap_at first)
        (filter-append (λ n. nat_le first n) (before ++ f ∷ []) ((f + 1) ∷ []) ∙ ap (λ (l : List ℕ). l ++ filter (λ n. nat_le first n) ((f + 1) ∷ [])) kept
        ∙ ap (λ (l : List ℕ). (filter (λ n. nat_le first n) before ++ f ∷ []) ++ l) next)
        ∙ gap_at-push first (filter (λ n. nat_le first n) before) f (sym (ap (gap_at first) kept) ∙ none)

pub next_file_stays : NextFileStays
next_file_stays first None before f below has = (first-push first before f ((f + 1) ∷ []) has.0, gap_in-push before f has.1)
next_file_stays first (Some c) before f below has = gap_from-push first before f below has

-- ---- what is missing

has_front : (first : ℕ) (o : Option Checkpoint) (a b : List ℕ) → HasFilesFrom first o (a ++ b) → HasFilesFrom first o a
has_front first None a b has = (first-front first a b has.0, no_gap-front a b has.1)
has_front first (Some c) a b has = gap_from-front first a b has

-- nothing is missing where a checkpoint that was there is there still
none_missing : (first : ℕ) (was o : Option Checkpoint) (numbers : List ℕ) → HasFilesFrom first was numbers → (IsSome was → IsSome o) → IsRedoLsn first o → redo_corruption numbers o ≡ None
none_missing first None o numbers has stays redo = no_redo_corruption first numbers o has.1 has.0 redo
none_missing first (Some c) None numbers has stays redo = absurd (let there = stays refl in cc)
none_missing first (Some b) (Some c) numbers has stays redo =
    cond-true (nat_lt c.redo c.at) (missing (gap_from (c.redo / 2 ^ 32) numbers)) (Some (nowhere numbers c.redo)) (lt-ltb c.redo c.at redo.0)
    ∙ ap missing (gap_from-later first (c.redo / 2 ^ 32) numbers redo.1 has)

-- a checkpoint of the first entries
second_some : (x y : Option Checkpoint) → IsSome y → IsSome (or_else x y)
second_some None y is = is
second_some (Some c) y is = refl

first_some : (x y : Option Checkpoint) → IsSome x → IsSome (or_else x y)
first_some None y is = absurd cc
first_some (Some c) y is = refl

some_stays : (a b : List Placed) → IsSome (last_end a) → IsSome (last_end (a ++ b))
some_stays [] b is = absurd cc
some_stays (p ∷ a) b is = by_end (last_end a) refl is (some_stays a b)
  where
    by_end : (o : Option Checkpoint) → last_end a ≡ o → IsSome (or_else o (checkpoint_in p.0 p.1)) → (IsSome (last_end a) → IsSome (last_end (a ++ b))) →
        IsSome (or_else (last_end (a ++ b)) (checkpoint_in p.0 p.1))
    by_end None made here rest = second_some (last_end (a ++ b)) (checkpoint_in p.0 p.1) here
    by_end (Some c) made here rest = first_some (last_end (a ++ b)) (checkpoint_in p.0 p.1) (rest (subst IsSome (sym made) refl))

-- ---- the whole

pub needed_files_recover : NeededFilesRecover
needed_files_recover first opening base least transactions log held has is from holds =
    let files : List ℕ = map (λ file. file.0) held in
    let es : List Placed = placed log in
    let low : least ≤ holds.count = holds.at_least in
    let up : base ≤ holds.count = omega (arith, from, low) in
    let leaves : Leaves first (placed (log_in held)) (store_after opening (take (commits_in base holds.count es) transactions)) =
    subst (λ (l : List Placed). Leaves first l (store_after opening (take (commits_in base holds.count es) transactions))) (sym holds.entries) (is.each holds.count up holds.within) in
    let stays : IsSome (last_end (take base es)) → IsSome (last_end (placed (log_in held))) = λ there.
    subst (λ (l : List Placed). IsSome (last_end l)) (take-append-drop base (take holds.count es) ∙ sym holds.entries)
    (some_stays (take base (take holds.count es)) (drop base (take holds.count es)) (subst (λ (l : List Placed). IsSome (last_end l)) (sym (take-take base holds.count es up)) there)) in
    let none : redo_corruption files (last_end (placed (log_in held))) ≡ None =
    none_missing first (last_end (take base es)) (last_end (placed (log_in held))) files
    (has_front first (last_end (take base es)) files holds.later (subst (HasFilesFrom first (last_end (take base es))) holds.numbers has)) stays leaves.redo in
    let read = reads_leaves first files (placed (log_in held)) _ none leaves in
    record {
      meaning = read.0;
      reads = ap (λ (o : Option Corruption). unless o (meaning_in files (placed (log_in held)))) holds.none ∙ read.1;
      count = commits_in base holds.count es;
      at_least = commits_rise base least holds.count es from low holds.within;
      within = few_commits first opening base holds.count transactions es is up holds.within;
      store = read.2;
    }
