-- In a log on which an environment works, the change of a name with the greatest LSN is its newest one.
use Rattle.std.proofs.Common.{◌≡◌, ◌≤◌, ◌<◌, ◌==◌, ◌+◌, ◌++◌, ◌||◌, ℕ, max, nat_le, None, List, [], ◌∷◌, Bool, true, false, cond, refl, ap, ap₂, sym, subst, ◌∙◌, arith}
use Rattle.std.specs.List.{AllByRecursion}
use Rattle.std.proofs.lemmas.Bool.{true≢false, or_parts, leb-true, leb-false, le-leb, lt-leb, cond-true, cond-false}
use Rattle.std.proofs.lemmas.List.Elements.{filter-append}
use Rattle.je_order.specs.declared.name.Name.{Name}
use Rattle.je_order.proofs.Lists.{all_push, all_weaker}
use Rattle.log_entry.specs.declared.entry.Entry.{Entry}
use Rattle.log_entry.specs.declared.entry.Entry.TheVariants.{FileHeader, Put, Delete, Migrated, Commit, In, Bin, BinDelta, CkptStart, CkptEnd, FileSummary}
use Rattle.log_trees.specs.Placed.{AreInOrder}
use Rattle.log_trees.specs.Changes.{Written, LoggedChange, is_of, last_of, changes_from}
use Rattle.log_meaning.specs.Redo.{Redo, nothing_redone, pushed, emptied, set_at, unset_at, redo_entry, redo_all, from, redone, newest}
use Rattle.log_meaning.specs.Stands.{has}
use Rattle.log_meaning.proofs.Lasts.{none_from}
use Rattle.log_meaning.proofs.RedoLaws.{redo_all-append}
use Rattle.db_tree.specs.Images.{Placed}
use Rattle.tree_images.specs.Forest.{latest_of}
use Rattle.tree_images.specs.EndLaws.{LatestAreNewest}
use Rattle.tree_images.specs.Roots.{newest_at}

-- ---- where the changes of a redo stand

record AreAll (P : ℕ → Type 0) (redo : Redo) : Type 0 where
  done : AllByRecursion (λ c. P c.written.at) redo.done
  pending : (t : ℕ) → AllByRecursion (λ c. P c.written.at) (redo.pending t)

abbrev Ats : (ℕ → Type 0) → List LoggedChange → Type 0
Ats P cs = AllByRecursion (λ c. P c.written.at) cs

both_all : (P : ℕ → Type 0) (a b : List LoggedChange) → Ats P a → Ats P b → Ats P (a ++ b)
both_all P [] b first second = second
both_all P (c ∷ a) b first second = (first.0, both_all P a b first.1 second)

pushed_all : (P : ℕ → Type 0) (txn t : ℕ) (c : LoggedChange) (pending : ℕ → List LoggedChange) → P c.written.at → Ats P (pending t) → Ats P (pushed txn c pending t)
pushed_all P txn t c pending own all = by_test (txn == t)
  where
    by_test : (b : Bool) → Ats P (cond b (pending t ++ c ∷ []) (pending t))
    by_test true = all_push (λ (x : LoggedChange). P x.written.at) (pending t) c all own
    by_test false = all

emptied_all : (P : ℕ → Type 0) (txn t : ℕ) (pending : ℕ → List LoggedChange) → Ats P (pending t) → Ats P (emptied txn pending t)
emptied_all P txn t pending all = by_test (txn == t)
  where
    by_test : (b : Bool) → Ats P (cond b [] (pending t))
    by_test true = tt
    by_test false = all

all_entry : (P : ℕ → Type 0) (at : ℕ) (e : Entry) (redo : Redo) → P at → AreAll P redo → AreAll P (redo_entry at e redo)
all_entry P at (FileHeader version file) redo own all = all
all_entry P at (Put txn db name value) redo own all = record { done = all.done; pending = λ t. pushed_all P txn.0 t (set_at at db name value) redo.pending own (all.pending t) }
all_entry P at (Delete txn db name) redo own all = record { done = all.done; pending = λ t. pushed_all P txn.0 t (unset_at at db name) redo.pending own (all.pending t) }
all_entry P at (Migrated db name value) redo own all = record { done = all_push (λ (x : LoggedChange). P x.written.at) redo.done (set_at at db name value) all.done own; pending = all.pending }
all_entry P at (Commit txn) redo own all = record {
  done = both_all P redo.done (redo.pending txn.0) all.done (all.pending txn.0);
  pending = λ t. emptied_all P txn.0 t redo.pending (all.pending t);
}
all_entry P at (In db node level slots) redo own all = all
all_entry P at (Bin db node slots) redo own all = all
all_entry P at (BinDelta db node full slots) redo own all = all
all_entry P at (CkptStart number) redo own all = all
all_entry P at (CkptEnd number start low last_txn last_node last_db summary roots) redo own all = all
all_entry P at (FileSummary files) redo own all = all

all_entries : (P : ℕ → Type 0) (es : Placed) (redo : Redo) → AllByRecursion (λ p. P p.0) es → AreAll P redo → AreAll P (redo_all es redo)
all_entries P [] redo own all = all
all_entries P (p ∷ es) redo own all = all_entries P es (redo_entry p.0 p.1 redo) own.1 (all_entry P p.0 p.1 redo own.0 all)

nothing_all : (P : ℕ → Type 0) → AreAll P nothing_redone
nothing_all P = record { done = tt; pending = λ t. tt }

-- ---- a redo from a later LSN on

record IsFrom (r : ℕ) (a b : Redo) : Type 0 where
  done : b.done ≡ changes_from r a.done
  pending : (t : ℕ) → b.pending t ≡ changes_from r (a.pending t)

from_push : (r : ℕ) (cs ds : List LoggedChange) (c : LoggedChange) → r ≤ c.written.at → ds ≡ changes_from r cs → ds ++ c ∷ [] ≡ changes_from r (cs ++ c ∷ [])
from_push r cs ds c le is =
    ap₂ (λ (x y : List LoggedChange). x ++ y) is (sym (cond-true (nat_le r c.written.at) (c ∷ []) [] (le-leb r c.written.at le)))
    ∙ sym (filter-append (λ (x : LoggedChange). nat_le r x.written.at) cs (c ∷ []))

from_both : (r : ℕ) (cs es ds fs : List LoggedChange) → ds ≡ changes_from r cs → fs ≡ changes_from r es → ds ++ fs ≡ changes_from r (cs ++ es)
from_both r cs es ds fs is js = ap₂ (λ (x y : List LoggedChange). x ++ y) is js ∙ sym (filter-append (λ (x : LoggedChange). nat_le r x.written.at) cs es)

pushed_from : (r txn t : ℕ) (c : LoggedChange) (p q : ℕ → List LoggedChange) → r ≤ c.written.at → q t ≡ changes_from r (p t) → pushed txn c q t ≡ changes_from r (pushed txn c p t)
pushed_from r txn t c p q le is = by_test (txn == t)
  where
    by_test : (b : Bool) → cond b (q t ++ c ∷ []) (q t) ≡ changes_from r (cond b (p t ++ c ∷ []) (p t))
    by_test true = from_push r (p t) (q t) c le is
    by_test false = is

emptied_from : (r txn t : ℕ) (p q : ℕ → List LoggedChange) → q t ≡ changes_from r (p t) → emptied txn q t ≡ changes_from r (emptied txn p t)
emptied_from r txn t p q is = by_test (txn == t)
  where
    by_test : (b : Bool) → cond b [] (q t) ≡ changes_from r (cond b [] (p t))
    by_test true = refl
    by_test false = is

from_entry : (r at : ℕ) (e : Entry) (a b : Redo) → r ≤ at → IsFrom r a b → IsFrom r (redo_entry at e a) (redo_entry at e b)
from_entry r at (FileHeader version file) a b le is = is
from_entry r at (Put txn db name value) a b le is = record { done = is.done; pending = λ t. pushed_from r txn.0 t (set_at at db name value) a.pending b.pending le (is.pending t) }
from_entry r at (Delete txn db name) a b le is = record { done = is.done; pending = λ t. pushed_from r txn.0 t (unset_at at db name) a.pending b.pending le (is.pending t) }
from_entry r at (Migrated db name value) a b le is = record { done = from_push r a.done b.done (set_at at db name value) le is.done; pending = is.pending }
from_entry r at (Commit txn) a b le is = record {
  done = from_both r a.done (a.pending txn.0) b.done (b.pending txn.0) is.done (is.pending txn.0);
  pending = λ t. emptied_from r txn.0 t a.pending b.pending (is.pending t);
}
from_entry r at (In db node level slots) a b le is = is
from_entry r at (Bin db node slots) a b le is = is
from_entry r at (BinDelta db node full slots) a b le is = is
from_entry r at (CkptStart number) a b le is = is
from_entry r at (CkptEnd number start low last_txn last_node last_db summary roots) a b le is = is
from_entry r at (FileSummary files) a b le is = is

from_entries : (r : ℕ) (es : Placed) (a b : Redo) → AllByRecursion (λ p. r ≤ p.0) es → IsFrom r a b → IsFrom r (redo_all es a) (redo_all es b)
from_entries r [] a b le is = is
from_entries r (p ∷ es) a b le is = from_entries r es (redo_entry p.0 p.1 a) (redo_entry p.0 p.1 b) le.1 (from_entry r p.0 p.1 a b le.0 is)

-- ---- a log in order

record IsSplit (r : ℕ) (es : Placed) : Type 0 where
  front : Placed
  rest : Placed
  is : es ≡ front ++ rest
  low : AllByRecursion (λ p. p.0 < r) front
  high : AllByRecursion (λ p. r ≤ p.0) rest

split_at : (r : ℕ) (es : Placed) → AreInOrder es → IsSplit r es
split_at r [] up = record { front = []; rest = []; is = refl; low = tt; high = tt }
split_at r (p ∷ es) up = by_test (nat_le r p.0) refl (split_at r es up.1)
  where
    by_test : (b : Bool) → nat_le r p.0 ≡ b → IsSplit r es → IsSplit r (p ∷ es)
    by_test true le s =
        let at : r ≤ p.0 = leb-true r p.0 le in
        record { front = []; rest = p ∷ es; is = refl; low = tt; high = (at, all_weaker (λ (q : ℕ × Entry). p.0 < q.0) (λ q. r ≤ q.0) (λ q lt. omega (arith, at, lt)) es up.0) }
    by_test false lt s =
        record { front = p ∷ s.front; rest = s.rest; is = ap (λ (l : Placed). p ∷ l) s.is; low = (leb-false r p.0 lt, s.low); high = s.high }

from_none : (r : ℕ) (es : Placed) → AllByRecursion (λ p. p.0 < r) es → from r es ≡ []
from_none r [] all = refl
from_none r (p ∷ es) all = cond-false (nat_le r p.0) (p ∷ from r es) (from r es) (lt-leb r p.0 all.0) ∙ from_none r es all.1

from_all : (r : ℕ) (es : Placed) → AllByRecursion (λ p. r ≤ p.0) es → from r es ≡ es
from_all r [] all = refl
from_all r (p ∷ es) all = cond-true (nat_le r p.0) (p ∷ from r es) (from r es) (le-leb r p.0 all.0) ∙ ap (λ (l : Placed). p ∷ l) (from_all r es all.1)

from_above : (r : ℕ) (es : Placed) → AllByRecursion (λ p. r ≤ p.0) (from r es)
from_above r [] = tt
from_above r (p ∷ es) = by_test (nat_le r p.0) refl (from_above r es)
  where
    by_test : (b : Bool) → nat_le r p.0 ≡ b → AllByRecursion (λ q. r ≤ q.0) (from r es) → AllByRecursion (λ q. r ≤ q.0) (cond b (p ∷ from r es) (from r es))
    by_test true le rest = (leb-true r p.0 le, rest)
    by_test false lt rest = rest

from_keeps : (P : ℕ → Type 0) (r : ℕ) (es : Placed) → AllByRecursion (λ p. P p.0) es → AllByRecursion (λ p. P p.0) (from r es)
from_keeps P r [] all = tt
from_keeps P r (p ∷ es) all = by_test (nat_le r p.0) (from_keeps P r es all.1)
  where
    by_test : (b : Bool) → AllByRecursion (λ q. P q.0) (from r es) → AllByRecursion (λ q. P q.0) (cond b (p ∷ from r es) (from r es))
    by_test true rest = (all.0, rest)
    by_test false rest = rest

-- what a redo from an LSN on has is what one from an earlier LSN on has that stands there or behind it
later_from : (base r : ℕ) (es : Placed) → base ≤ r → AreInOrder es → IsFrom r (redone base es) (redone r es)
later_from base r es le up = subst (λ (l : Placed). IsFrom r (redone base l) (redone r l)) (sym s.is) (subst (λ (x : Redo). IsFrom r x (redone r (s.front ++ s.rest))) (sym early) (subst (λ (x : Redo). IsFrom r (redo_all s.rest (redone base s.front)) x) (sym late) both))
  where
    s : IsSplit r es
    s = split_at r es up

    high : AllByRecursion (λ p. base ≤ p.0) s.rest
    high = all_weaker (λ (q : ℕ × Entry). r ≤ q.0) (λ q. base ≤ q.0) (λ q at. omega (arith, le, at)) s.rest s.high

    early : redone base (s.front ++ s.rest) ≡ redo_all s.rest (redone base s.front)
    early =
        ap (λ (l : Placed). redo_all l nothing_redone) (filter-append (λ (q : ℕ × Entry). nat_le base q.0) s.front s.rest ∙ ap (λ (l : Placed). from base s.front ++ l) (from_all base s.rest high))
        ∙ redo_all-append (from base s.front) s.rest nothing_redone

    late : redone r (s.front ++ s.rest) ≡ redo_all s.rest nothing_redone
    late =
        ap (λ (l : Placed). redo_all l nothing_redone)
        (filter-append (λ (q : ℕ × Entry). nat_le r q.0) s.front s.rest ∙ ap₂ (λ (x y : Placed). x ++ y) (from_none r s.front s.low) (from_all r s.rest s.high))

    low : AreAll (λ n. n < r) (redone base s.front)
    low = all_entries (λ n. n < r) (from base s.front) nothing_redone (from_keeps (λ n. n < r) base s.front s.low) (nothing_all (λ n. n < r))

    both : IsFrom r (redo_all s.rest (redone base s.front)) (redo_all s.rest nothing_redone)
    both = from_entries r s.rest (redone base s.front) nothing_redone s.high
        (record { done = sym (none_from r (redone base s.front).done low.done); pending = λ t. sym (none_from r ((redone base s.front).pending t) (low.pending t)) })

-- ---- the newest change

-- where there is a change of a name, what stood before does not matter
last_has : (d : ℕ) (x : Name) (cs : List LoggedChange) (w v : Written) → has d x cs ≡ true → last_of d x cs w ≡ last_of d x cs v
last_has d x [] w v some = absurd (true≢false (sym some))
last_has d x (c ∷ cs) w v some = by_test (is_of d x c) some (last_has d x cs w v)
  where
    by_test : (b : Bool) → (b || has d x cs) ≡ true → (has d x cs ≡ true → last_of d x cs w ≡ last_of d x cs v) → last_of d x cs (cond b c.written w) ≡ last_of d x cs (cond b c.written v)
    by_test true some rest = refl
    by_test false some rest = rest some

abbrev low_one : Written
low_one = record { at = 0; value = None }

abbrev high_one : Written
high_one = record { at = 1; value = None }

latest_le : (d : ℕ) (x : Name) (m : ℕ) (cs : List LoggedChange) → AllByRecursion (λ c. is_of d x c ≡ true → c.written.at ≤ m) cs → latest_of d x cs ≤ m
latest_le d x m [] all = omega arith
latest_le d x m (c ∷ cs) all = by_test (is_of d x c) refl (latest_le d x m cs all.1)
  where
    by_test : (b : Bool) → is_of d x c ≡ b → latest_of d x cs ≤ m → cond b (max c.written.at (latest_of d x cs)) (latest_of d x cs) ≤ m
    by_test true of rest = let own = all.0 of in omega (arith, own, rest)
    by_test false of rest = rest

-- changes of which none behind an LSN is of a name
all_low : (d : ℕ) (x : Name) (base m : ℕ) (cs : List LoggedChange) → Ats (λ n. base ≤ n) cs → has d x (changes_from (max base (m + 1)) cs) ≡ false → AllByRecursion (λ c. is_of d x c ≡ true → c.written.at ≤ m) cs
all_low d x base m [] above none = tt
all_low d x base m (c ∷ cs) above none = by_test (nat_le (max base (m + 1)) c.written.at) refl none (all_low d x base m cs above.1)
  where
    by_test : (b : Bool) → nat_le (max base (m + 1)) c.written.at ≡ b → has d x (cond b (c ∷ changes_from (max base (m + 1)) cs) (changes_from (max base (m + 1)) cs)) ≡ false →
        (has d x (changes_from (max base (m + 1)) cs) ≡ false → AllByRecursion (λ e. is_of d x e ≡ true → e.written.at ≤ m) cs) →
        (is_of d x c ≡ true → c.written.at ≤ m) × AllByRecursion (λ e. is_of d x e ≡ true → e.written.at ≤ m) cs
    by_test true le out rest = let both = or_parts (is_of d x c) (has d x (changes_from (max base (m + 1)) cs)) out in ((λ of. absurd (true≢false (sym of ∙ both.0))), rest both.1)
    by_test false lt out rest = let low = leb-false (max base (m + 1)) c.written.at lt in let from_base = above.0 in ((λ of. omega (arith, low, from_base)), rest out)

pub latest_are_newest : LatestAreNewest
latest_are_newest es base next is_open rows is_live logged d x s up = latest_le d x m (redone base es).done (all_low d x base m (redone base es).done above none)
  where
    m : ℕ
    m = newest_at base es d x

    r : ℕ
    r = max base (m + 1)

    above : Ats (λ n. base ≤ n) (redone base es).done
    above = (all_entries (λ n. base ≤ n) (from base es) nothing_redone (from_above base es) (nothing_all (λ n. base ≤ n))).done

    stays : (w : Written) → last_of d x (redone r es).done w ≡ w
    stays w = s.redo r (omega arith) d x w ∙ cond-false (nat_le r m) (newest base es d x) w (lt-leb r m (omega arith))

    by_test : (b : Bool) → has d x (redone r es).done ≡ b → has d x (redone r es).done ≡ false
    by_test true some = absurd (let e : low_one ≡ high_one = sym (stays low_one) ∙ last_has d x (redone r es).done low_one high_one some ∙ stays high_one in let at : 0 ≡ 1 = ap (λ (w : Written). w.at) e in cc)
    by_test false none = none

    none : has d x (changes_from r (redone base es).done) ≡ false
    none = subst (λ (l : List LoggedChange). has d x l ≡ false) (later_from base r es (omega arith) up).done (by_test (has d x (redone r es).done) refl)
