-- The first LSN of each transaction.
use Rattle.std.proofs.Common.{◌≡◌, ◌<◌, ◌≤◌, ◌==◌, ◌||◌, ◌⊎◌, ◌++◌, inl, inr, ℕ, Bool, true, false, cond, List, [], ◌∷◌, Option, None, Some, map, ap, refl, sym, subst, ◌∙◌, arith, ⊎_elim}
use Rattle.std.specs.Prelude.{◌≢◌}
use Rattle.std.specs.Option.{option_map_or}
use Rattle.std.specs.List.{AllByRecursion}
use Rattle.std.proofs.lemmas.Bool.{true≢false, cond-true, cond-false, eq-eqb, ne_eqb, lt-ltb}
use Rattle.std.proofs.lemmas.Option.{none-some, same_Some}
use Rattle.je_order.specs.declared.name.Name.{Name}
use Rattle.je_order.specs.declared.txn_id.TxnId.{TxnId}
use Rattle.je_order.specs.Transactions.{is_same_txn}
use Rattle.je_order.proofs.Lists.{all_append, all_weaker}
use Rattle.je_order.proofs.TxnIds.{same_is}
use Rattle.store_model.specs.declared.record_change.RecordChange.{RecordChange}
use Rattle.lock_table.specs.Table.{at_txn}
use Rattle.log_entry.specs.declared.entry.Entry.{Entry}
use Rattle.log_entry.specs.declared.entry.Entry.TheVariants.{Put, Delete, Commit, In, Bin}
use Rattle.log_file.specs.Log.{Log}
use Rattle.log_buffer.specs.declared.log_pos.LogPos.{LogPos}
use Rattle.log_replay.specs.Rows.{Rows}
use Rattle.log_replay.proofs.ListLaws.{all_of_map}
use Rattle.log_trees.specs.Placed.{Placed}
use Rattle.log_trees.specs.Changes.{LoggedChange}
use Rattle.log_meaning.specs.Growth.{is_neutral}
use Rattle.log_meaning.specs.Redo.{Redo, pushed, redo_all, redo_entry, set_at, unset_at}
use Rattle.log_meaning.specs.Transactions.{RiseBehind, last_lsn, waiting}
use Rattle.log_meaning.proofs.Appending.{waiting-append}
use Rattle.log_meaning.proofs.Lasts.{all_from}
use Rattle.record_tree.specs.declared.tree_change.TreeChange.{TreeChange}
use Rattle.record_tree.specs.declared.tree_name.TreeName.{TreeName}
use Rattle.record_tree.specs.Logged.{entry_for, first_change, is_image, AreImages, IsImage, LogsChanges, LogsTransaction}
use Rattle.in_tree.proofs.Written.{is_change, no_change}
use Rattle.standing_laws.specs.Right.{txn_id}
use Rattle.txn_log.specs.Gives.{GivesRecordsWith}
use Rattle.txn_log.specs.Own.{is_live, own_by}
use Rattle.txn_log.proofs.OwnLaws.{live_active, live_parts}
use Rattle.txn_log.proofs.RedoLsns.{waits_from}
use Rattle.txn_views.specs.Laws.{own_name}
use Rattle.environment.specs.declared.written.OwnNames.{OwnNames}
use Rattle.environment.specs.Valid.{waiting_in}
use Rattle.environment.specs.Written.{AreFirstsOf, AreNamesOf, IsFirstIn, first_at, first_for, first_noted, names_at}

abbrev Entries : Type 0
Entries = List (TxnId × OwnNames)

-- what maps to nothing is nothing
none_mapped : {A B : Type 0} (f : A → B) (xs : List A) → map f xs ≡ [] → xs ≡ []
none_mapped f [] is = refl
none_mapped f (x ∷ xs) is = cc

-- a transaction without names has no first LSN
pub first_none : (t : TxnId) (entries : Entries) → names_at t entries ≡ [] → first_at t entries ≡ 0
first_none t entries none = by_own (at_txn t entries) none
  where
    by_names : (names : List TreeName) (first : ℕ) → names ≡ [] → first_noted names first ≡ 0
    by_names [] first is = refl
    by_names (name ∷ names) first is = cc

    by_own : (o : Option OwnNames) → option_map_or (λ (x : OwnNames). x.names.items) o [] ≡ [] → option_map_or (λ (x : OwnNames). first_noted x.names.items x.first) o 0 ≡ 0
    by_own None is = refl
    by_own (Some own) is = by_names own.names.items own.first is

-- where nobody has names
pub firsts_none : (entries : Entries) (rows : Rows) (logged : ℕ → List LoggedChange) (end : ℕ) → AreNamesOf entries (λ t. []) rows → AreFirstsOf entries logged end
firsts_none entries rows logged end names = record {
  is = λ t named. absurd (named (names.names t));
  before = λ t. subst (λ (n : ℕ). AllByRecursion (λ c. n ≤ c.written.at) (logged t)) (sym (none t)) (all_weaker_of (logged t));
  reached = λ t. let is = none t in omega (arith, is);
} where
  none : (t : ℕ) → first_at (txn_id t) entries ≡ 0
  none t = first_none (txn_id t) entries (names.names t)

  all_weaker_of : (cs : List LoggedChange) → AllByRecursion (λ c. 0 ≤ c.written.at) cs
  all_weaker_of [] = tt
  all_weaker_of (c ∷ cs) = (omega arith, all_weaker_of cs)

-- each transaction has the names and the first LSN that it had, or no names
abbrev pub AreFewer : Entries → Entries → Type 0
AreFewer old new = (t : TxnId) → (names_at t new ≡ []) ⊎ ((names_at t new ≡ names_at t old) × (first_at t new ≡ first_at t old))

pub fewer_same : (old new : Entries) → ((t : TxnId) → names_at t new ≡ names_at t old) → ((t : TxnId) → first_at t new ≡ first_at t old) → AreFewer old new
fewer_same old new names firsts t = inr (names t, firsts t)

-- one transaction has none any longer
pub fewer_less : (old new : Entries) (txn : TxnId) → ((t : TxnId) → names_at t new ≡ cond (is_same_txn txn t) [] (names_at t old)) → ((t : TxnId) → first_at t new ≡ cond (is_same_txn txn t) 0 (first_at t old)) → AreFewer old new
fewer_less old new txn names firsts t = by_test (is_same_txn txn t) (names t) (firsts t)
  where
    by_test : (b : Bool) → names_at t new ≡ cond b [] (names_at t old) → first_at t new ≡ cond b 0 (first_at t old) → (names_at t new ≡ []) ⊎ ((names_at t new ≡ names_at t old) × (first_at t new ≡ first_at t old))
    by_test true none first = inl none
    by_test false same first = inr (same, first)

pub firsts_fewer : (old new : Entries) (logged : ℕ → List LoggedChange) (end : ℕ) → AreFewer old new → AreFirstsOf old logged end → AreFirstsOf new logged end
firsts_fewer old new logged end fewer firsts = record {
  is = λ t named. ⊎_elim (λ none. absurd (named none))
      (λ same. subst (IsFirstIn (logged t)) (sym same.1) (firsts.is t (λ none. named (same.0 ∙ none)))) (fewer (txn_id t));
  before = λ t.
      let low = lower (txn_id t) in
      all_weaker (λ (c : LoggedChange). first_at (txn_id t) old ≤ c.written.at) (λ c. first_at (txn_id t) new ≤ c.written.at) (λ c h. omega (arith, h, low)) (logged t) (firsts.before t);
  reached = λ t. let low = lower (txn_id t) in let reached = firsts.reached t in omega (arith, low, reached);
} where
  lower : (t : TxnId) → first_at t new ≤ first_at t old
  lower t = ⊎_elim (λ none. (let is = first_none t new none in omega (arith, is))) (λ same. (let is = same.1 in omega (arith, is))) (fewer t)

-- an LSN is that of the first of some changes, none was logged before it, and a log ends there or behind it
abbrev pub IsFirst : List LoggedChange → ℕ → ℕ → Type 0
IsFirst changes lsn end = IsFirstIn changes lsn × AllByRecursion (λ c. lsn ≤ c.written.at) changes × (lsn ≤ end)

-- a transaction wrote names
pub firsts_written : (old new : Entries) (logged : ℕ → List LoggedChange) (end first : ℕ) (txn : TxnId) (more : List TreeName) →
    (names_at txn old ≡ [] → more ≢ [] → IsFirst (logged txn.0) first end) →
    ((t : TxnId) → names_at t new ≡ cond (is_same_txn txn t) (names_at txn old ++ more) (names_at t old)) →
    ((t : TxnId) → first_at t new ≡ cond (is_same_txn txn t) (first_noted (names_at txn old ++ more) (first_for (names_at txn old) (first_at txn old) first)) (first_at t old)) →
    AreFirstsOf old logged end → AreFirstsOf new logged end
firsts_written old new logged end first txn more its names lsns firsts = record {
  is = λ t named. (each t).0 named;
  before = λ t. (each t).1;
  reached = λ t. (each t).2;
} where
  Holds : (t : ℕ) (its_names : List TreeName) (lsn : ℕ) → Type 0
  Holds t its_names lsn = (its_names ≢ [] → IsFirstIn (logged t) lsn) × AllByRecursion (λ (c : LoggedChange). lsn ≤ c.written.at) (logged t) × (lsn ≤ end)

  nothing_before : (cs : List LoggedChange) → AllByRecursion (λ c. 0 ≤ c.written.at) cs
  nothing_before [] = tt
  nothing_before (c ∷ cs) = (omega arith, nothing_before cs)

  new_names : (l : List TreeName) → names_at txn old ≡ [] → more ≡ l → Holds txn.0 l (first_noted l first)
  new_names [] none is = ((λ named. absurd (named refl)), nothing_before (logged txn.0), omega arith)
  new_names (name ∷ l) none is = let now = its none (λ empty. absurd (not_none name l (sym is ∙ empty))) in ((λ named. now.0), now.1, now.2)
    where
      not_none : (n : TreeName) (ns : List TreeName) → n ∷ ns ≡ [] → ⊥
      not_none n ns h = absurd cc

  by_names : (had : List TreeName) → names_at txn old ≡ had → Holds txn.0 (had ++ more) (first_noted (had ++ more) (first_for had (first_at txn old) first))
  by_names [] none = new_names more none refl
  by_names (name ∷ had) is = ((λ named. firsts.is txn.0 (λ none. absurd (not_none name had (sym is ∙ none)))), firsts.before txn.0, firsts.reached txn.0)
    where
      not_none : (n : TreeName) (ns : List TreeName) → n ∷ ns ≡ [] → ⊥
      not_none n ns h = absurd cc

  by_test : (t : ℕ) (b : Bool) → is_same_txn txn (txn_id t) ≡ b → Holds t (cond b (names_at txn old ++ more) (names_at (txn_id t) old)) (cond b (first_noted (names_at txn old ++ more) (first_for (names_at txn old) (first_at txn old) first)) (first_at (txn_id t) old))
  by_test t true same =
      subst (λ (u : TxnId). Holds u.0 (names_at txn old ++ more) (first_noted (names_at txn old ++ more) (first_for (names_at txn old) (first_at txn old) first))) (same_is txn (txn_id t) same) (by_names (names_at txn old) refl)
  by_test t false other = (firsts.is t, firsts.before t, firsts.reached t)

  each : (t : ℕ) → Holds t (names_at (txn_id t) new) (first_at (txn_id t) new)
  each t =
      subst (λ (l : List TreeName). Holds t l (first_at (txn_id t) new)) (sym (names (txn_id t)))
      (subst (λ (n : ℕ). Holds t (cond (is_same_txn txn (txn_id t)) (names_at txn old ++ more) (names_at (txn_id t) old)) n) (sym (lsns (txn_id t))) (by_test t (is_same_txn txn (txn_id t)) refl))

-- ---- entries that are logged

-- an entry is no Commit of a transaction
abbrev pub IsNoCommitOf : ℕ → Entry → Type 0
IsNoCommitOf t (Commit txn) = txn.0 ≢ t
IsNoCommitOf t entry = Unit {0}

pushed_first : (txn t lsn : ℕ) (c : LoggedChange) (pending : ℕ → List LoggedChange) → IsFirstIn (pending t) lsn → IsFirstIn (pushed txn c pending t) lsn
pushed_first txn t lsn c pending is = by_test (txn == t)
  where
    one_more : (l : List LoggedChange) → IsFirstIn l lsn → IsFirstIn (l ++ c ∷ []) lsn
    one_more [] h = absurd h
    one_more (x ∷ l) h = h

    by_test : (b : Bool) → IsFirstIn (cond b (pending t ++ c ∷ []) (pending t)) lsn
    by_test true = one_more (pending t) is
    by_test false = is

entry_first : (at t lsn : ℕ) (e : Entry) (redo : Redo) → IsNoCommitOf t e → IsFirstIn (redo.pending t) lsn → IsFirstIn ((redo_entry at e redo).pending t) lsn
entry_first at t lsn (Put txn db name value) redo others is = pushed_first txn.0 t lsn (set_at at db name value) redo.pending is
entry_first at t lsn (Delete txn db name) redo others is = pushed_first txn.0 t lsn (unset_at at db name) redo.pending is
entry_first at t lsn (Commit txn) redo others is = subst (λ (l : List LoggedChange). IsFirstIn l lsn) (sym (cond-false (txn.0 == t) [] (redo.pending t) (ne_eqb txn.0 t others))) is
entry_first at t lsn e redo others is = is

all_first : (t lsn : ℕ) (more : List Placed) (redo : Redo) → AllByRecursion (λ p. IsNoCommitOf t p.1) more → IsFirstIn (redo.pending t) lsn → IsFirstIn ((redo_all more redo).pending t) lsn
all_first t lsn [] redo others is = is
all_first t lsn (p ∷ more) redo others is = all_first t lsn more (redo_entry p.0 p.1 redo) others.1 (entry_first p.0 t lsn p.1 redo others.0 is)

-- the first change that waits stays the first one
pub waits_first : (t lsn : ℕ) (more : List Placed) (logged : ℕ → List LoggedChange) → AllByRecursion (λ p. IsNoCommitOf t p.1) more → IsFirstIn (logged t) lsn → IsFirstIn (waiting more logged t) lsn
waits_first t lsn more logged others is = all_first t lsn more (record { done = []; pending = logged }) others is

pub neutral_no_commit : (t : ℕ) (entries : List Entry) → AllByRecursion (λ e. is_neutral e ≡ true) entries → AllByRecursion (IsNoCommitOf t) entries
neutral_no_commit t [] all = tt
neutral_no_commit t (e ∷ entries) all = (one e all.0, neutral_no_commit t entries all.1)
  where
    one : (x : Entry) → is_neutral x ≡ true → IsNoCommitOf t x
    one (Commit txn) is = absurd (true≢false (sym is))
    one x is = tt

-- changes of a transaction are no Commits, and with its Commit none of another one
image_no_commit : (t : ℕ) (e : Entry) → IsImage e → IsNoCommitOf t e
image_no_commit t (In db node level slots) is = tt
image_no_commit t (Bin db node slots) is = tt
image_no_commit t e is = absurd is

change_no_commit : (t : ℕ) (txn : TxnId) (db : ℕ) (name : Name) (value : Option (List ℕ)) → IsNoCommitOf t (entry_for txn db name value)
change_no_commit t txn db name None = tt
change_no_commit t txn db name (Some value) = tt

pub changes_no_commit : (t : ℕ) (txn : TxnId) (changes : List TreeChange) (entries : List Entry) → LogsChanges txn changes entries → AllByRecursion (IsNoCommitOf t) entries
changes_no_commit t txn [] entries logs = subst (AllByRecursion (IsNoCommitOf t)) (sym logs) tt
changes_no_commit t txn (c ∷ changes) entries logs =
    subst (AllByRecursion (IsNoCommitOf t)) (sym logs.3)
    (all_append (IsNoCommitOf t) logs.0 (entry_for txn c.db c.name c.value ∷ logs.1) (all_weaker IsImage (IsNoCommitOf t) (image_no_commit t) logs.0 logs.2)
    (change_no_commit t txn c.db c.name c.value, changes_no_commit t txn changes logs.1 logs.4))

pub transaction_no_commit : (t : ℕ) (txn : TxnId) (changes : List TreeChange) (entries : List Entry) → txn.0 ≢ t → LogsTransaction txn changes entries → AllByRecursion (IsNoCommitOf t) entries
transaction_no_commit t txn changes entries other logs =
    subst (AllByRecursion (IsNoCommitOf t)) (sym logs.2) (all_append (IsNoCommitOf t) logs.0 (Commit txn ∷ []) (changes_no_commit t txn changes logs.0 logs.1) (other, tt))

image_waits : (at : ℕ) (e : Entry) (logged : ℕ → List LoggedChange) → IsImage e → waiting ((at, e) ∷ []) logged ≡ logged
image_waits at (In db node level slots) logged is = refl
image_waits at (Bin db node slots) logged is = refl
image_waits at e logged is = absurd is

-- what waits of a transaction of which nothing waited before it logged changes: the first one stands at their first LSN, and the others behind it
pub first_waits : (next first end : ℕ) (txn : TxnId) (c : TreeChange) (changes : List TreeChange) (images rest : List Entry) (more : List Placed) (logged : ℕ → List LoggedChange) → logged txn.0 ≡ [] → RiseBehind next more →
    last_lsn next more ≤ end → AreImages images → LogsChanges txn changes rest → map (λ p. p.1) more ≡ images ++ entry_for txn c.db c.name c.value ∷ rest → first_change more ≡ Some first → IsFirst (waiting more logged txn.0) first end
first_waits next first end txn c changes images rest more logged none up within are logs is first_is = by_more images more logged next none up within are is first_is
  where
    head_is : (x y : Entry) (a b : List Entry) → x ∷ a ≡ y ∷ b → x ≡ y
    head_is x y a b h = cc

    tail_is : (x y : Entry) (a b : List Entry) → x ∷ a ≡ y ∷ b → a ≡ b
    tail_is x y a b h = cc

    one_pushed : (at : ℕ) (value : Option (List ℕ)) (start : ℕ → List LoggedChange) → start txn.0 ≡ [] →
        waiting ((at, entry_for txn c.db c.name value) ∷ []) start txn.0 ≡ record { db = c.db; name = c.name; written = record { at = at; value = value } } ∷ []
    one_pushed at None start empty = cond-true (txn.0 == txn.0) _ (start txn.0) (eq-eqb txn.0 txn.0 refl) ∙ ap (λ (l : List LoggedChange). l ++ record { db = c.db; name = c.name; written = record { at = at; value = None } } ∷ []) empty
    one_pushed at (Some value) start empty =
        cond-true (txn.0 == txn.0) _ (start txn.0) (eq-eqb txn.0 txn.0 refl) ∙ ap (λ (l : List LoggedChange). l ++ record { db = c.db; name = c.name; written = record { at = at; value = Some value } } ∷ []) empty

    last_up : (low : ℕ) (es : List Placed) → RiseBehind low es → low ≤ last_lsn low es
    last_up low [] rise = omega arith
    last_up low (p ∷ es) rise = let later = last_up p.0 es rise.1 in let here = rise.0.0 in omega (arith, later, here)

    here_first : (at : ℕ) (e : Entry) (es : List Placed) (start : ℕ → List LoggedChange) → e ≡ entry_for txn c.db c.name c.value → start txn.0 ≡ [] → AllByRecursion (λ p. at < p.0) es → map (λ p. p.1) es ≡ rest → at ≤ end →
        IsFirst (waiting ((at, e) ∷ es) start txn.0) at end
    here_first at e es start same empty later others le =
        subst (λ (x : Entry). IsFirst (waiting ((at, x) ∷ es) start txn.0) at end) (sym same)
        (subst (λ (l : List LoggedChange). IsFirst l at end) (sym (ap (λ (f : ℕ → List LoggedChange). f txn.0) (waiting-append ((at, entry_for txn c.db c.name c.value) ∷ []) es start))) (
          waits_first txn.0 at es after (all_of_map (λ (p : Placed). p.1) (IsNoCommitOf txn.0) es (subst (AllByRecursion (IsNoCommitOf txn.0)) (sym others) (changes_no_commit txn.0 txn changes rest logs)))
              (subst (λ (l : List LoggedChange). IsFirstIn l at) (sym one) refl),
          waits_from at txn.0 es after (all_weaker (λ (p : Placed). at < p.0) (λ p. at ≤ p.0) (λ p h. omega (arith, h)) es later)
              (subst (AllByRecursion (λ (x : LoggedChange). at ≤ x.written.at)) (sym one) (omega arith, tt)),
          le,
        ))
      where
        after : ℕ → List LoggedChange
        after = waiting ((at, entry_for txn c.db c.name c.value) ∷ []) start

        one : after txn.0 ≡ record { db = c.db; name = c.name; written = record { at = at; value = c.value } } ∷ []
        one = one_pushed at c.value start empty

    by_more : (front_images : List Entry) (es : List Placed) (start : ℕ → List LoggedChange) (low : ℕ) → start txn.0 ≡ [] → RiseBehind low es → last_lsn low es ≤ end → AreImages front_images →
        map (λ p. p.1) es ≡ front_images ++ entry_for txn c.db c.name c.value ∷ rest → first_change es ≡ Some first → IsFirst (waiting es start txn.0) first end
    by_more [] [] start low empty rise le images_are parts found = absurd (none-some first found)
    by_more (x ∷ xs) [] start low empty rise le images_are parts found = absurd (none-some first found)
    by_more [] (p ∷ es) start low empty rise le images_are parts found =
        let same : p.1 ≡ entry_for txn c.db c.name c.value = head_is p.1 (entry_for txn c.db c.name c.value) (map (λ (q : Placed). q.1) es) rest parts in
        let at_is : p.0 ≡ first = same_Some p.0 first (sym (ap (λ (b : Bool). cond b (first_change es) (Some p.0)) (ap is_image same ∙ is_change txn c.db c.name c.value)) ∙ found) in
        subst (λ (n : ℕ). IsFirst (waiting (p ∷ es) start txn.0) n end) at_is
        (here_first p.0 p.1 es start same empty rise.1.0 (tail_is p.1 (entry_for txn c.db c.name c.value) (map (λ (q : Placed). q.1) es) rest parts) (let up_to = last_up p.0 es rise.1 in omega (arith, up_to, le)))
    by_more (x ∷ xs) (p ∷ es) start low empty rise le images_are parts found =
        let same : p.1 ≡ x = head_is p.1 x (map (λ (q : Placed). q.1) es) (xs ++ entry_for txn c.db c.name c.value ∷ rest) parts in
        let image : IsImage p.1 = subst IsImage (sym same) images_are.0 in
        subst (λ (f : ℕ → List LoggedChange). IsFirst (f txn.0) first end) (sym (waiting-append (p ∷ []) es start ∙ ap (waiting es) (image_waits p.0 p.1 start image)))
        (by_more xs es start p.0 empty rise.1 le images_are.1 (tail_is p.1 x (map (λ (q : Placed). q.1) es) (xs ++ entry_for txn c.db c.name c.value ∷ rest) parts)
        (sym (ap (λ (b : Bool). cond b (first_change es) (Some p.0)) (no_change p.1 image)) ∙ found))

-- ---- what waits

module _ (log : Log) (end : LogPos) (rows : Rows) (last_txn last_db : ℕ) (is_active : ℕ → Bool) (own : ℕ → List (ℕ × RecordChange)) (gives : GivesRecordsWith log end rows last_txn last_db is_active own) where
  -- what a transaction under way logged waits
  pub waiting_is : (t : ℕ) → is_live last_txn is_active t ≡ true → waiting_in log gives.base t ≡ gives.logged t
  waiting_is t live =
      gives.stands.later gives.base (omega arith) t live
      ∙ all_from gives.base (gives.logged t) (all_weaker (λ (c : LoggedChange). (gives.base ≤ c.written.at) × (c.written.at ≤ gives.next)) (λ c. gives.base ≤ c.written.at) (λ c h. h.0) (gives.logged t)
      (gives.stands.past_own t live))

  -- a transaction with names was begun
  pub is_begun : (entries : Entries) (end_lsn t : ℕ) → AreFirstsOf entries (waiting_in log gives.base) end_lsn → names_at (txn_id t) entries ≢ [] → last_txn < t → ⊥
  is_begun entries end_lsn t firsts named above =
      subst (λ (l : List LoggedChange). IsFirstIn l (first_at (txn_id t) entries)) (waiting_is t (ap (λ (b : Bool). b || is_active t) (lt-ltb last_txn t above)) ∙ gives.none t above) (firsts.is t named)

  -- one without names logged nothing
  logged_none : (entries : Entries) (t : ℕ) → AreNamesOf entries own rows → is_active t ≡ true → names_at (txn_id t) entries ≡ [] → gives.logged t ≡ []
  logged_none entries t names active none =
      none_mapped own_by (gives.logged t) (gives.own_is t active ∙ none_mapped own_name (own t) (sym (names.names t) ∙ none))

  pub waiting_none : (entries : Entries) (t : ℕ) → AreNamesOf entries own rows → is_active t ≡ true → names_at (txn_id t) entries ≡ [] → waiting_in log gives.base t ≡ []
  waiting_none entries t names active none = waiting_is t (live_active last_txn t is_active active) ∙ logged_none entries t names active none

  -- no transaction under way logged anything before an LSN that is not behind the first one of each that has names
  pub firsts_behind : (entries : Entries) (last bound : ℕ) → AreNamesOf entries own rows → AreFirstsOf entries (waiting_in log gives.base) last →
      ((t : ℕ) → names_at (txn_id t) entries ≢ [] → bound ≤ first_at (txn_id t) entries) → (t : ℕ) → is_live last_txn is_active t ≡ true → AllByRecursion (λ c. bound ≤ c.written.at) (gives.logged t)
  firsts_behind entries last bound names firsts each t live = ⊎_elim
      (λ (above : last_txn < t). subst (AllByRecursion (λ (c : LoggedChange). bound ≤ c.written.at)) (sym (gives.none t above)) tt)
      (λ (active : is_active t ≡ true). by_names (names_at (txn_id t) entries) refl active)
      (live_parts last_txn t is_active live)
    where
      some : (name : TreeName) (l : List TreeName) → name ∷ l ≡ [] → ⊥
      some name l is = cc

      by_names : (l : List TreeName) → names_at (txn_id t) entries ≡ l → is_active t ≡ true → AllByRecursion (λ c. bound ≤ c.written.at) (gives.logged t)
      by_names [] is active = subst (AllByRecursion (λ (c : LoggedChange). bound ≤ c.written.at)) (sym (logged_none entries t names active is)) tt
      by_names (name ∷ l) is active =
          let low : bound ≤ first_at (txn_id t) entries = each t (λ none. absurd (some name l (sym is ∙ none))) in
          all_weaker (λ (c : LoggedChange). first_at (txn_id t) entries ≤ c.written.at) (λ c. bound ≤ c.written.at) (λ c h. omega (arith, h, low)) (gives.logged t)
          (subst (AllByRecursion (λ (c : LoggedChange). first_at (txn_id t) entries ≤ c.written.at)) (waiting_is t live) (firsts.before t))
