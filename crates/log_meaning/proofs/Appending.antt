-- A log that an environment works on, longer by the entries of a transaction that are appended together.
use Rattle.std.proofs.Common.{◌≡◌, ℕ, ◌<◌, ◌≤◌, ◌==◌, ◌⊎◌, Bool, true, false, cond, List, [], ◌∷◌, ◌++◌, Option, None, Some, map, reverse, find, refl, sym, ap, ap₂, subst, ◌∙◌, append_assoc}
use Rattle.std.specs.Prelude.{◌≢◌}
use Rattle.std.specs.Option.{option_or}
use Rattle.std.proofs.lemmas.Bool.{true≢false, eqb-true, eq-eqb, ne_eqb, cond-true, cond-false}
use Rattle.std.proofs.lemmas.List.{append-nil, reverse-append}
use Rattle.std.proofs.lemmas.List.Folds.{find-append}
use Rattle.std.specs.List.{AllByRecursion}
use Rattle.je_order.specs.declared.name.Name.{Name}
use Rattle.je_order.specs.declared.txn_id.TxnId.{TxnId}
use Rattle.je_order.proofs.Lists.{all_weaker, all_append}
use Rattle.log_entry.specs.declared.entry.Entry.{Entry}
use Rattle.log_entry.specs.declared.entry.Entry.TheVariants.{Put, Delete, Commit, In, Bin, CkptEnd}
use Rattle.log_replay.proofs.ListLaws.{all_parts, all_of_map}
use Rattle.log_trees.specs.Placed.{Placed}
use Rattle.log_trees.specs.Changes.{Written, LoggedChange, last_of, changes_from}
use Rattle.log_trees.proofs.Rooted.{last_of-append}
use Rattle.record_tree.specs.declared.tree_change.TreeChange.{TreeChange}
use Rattle.record_tree.specs.Logged.{entry_for, IsImage, LogsChanges, LogsTransaction, is_change_of, last_change, value_changed}
use Rattle.log_meaning.specs.Redo.{Redo, pushed, emptied, set_at, unset_at, redo_entry, redo_all, newest}
use Rattle.log_meaning.specs.Checkpoint.{checkpoint_in}
use Rattle.log_meaning.specs.Stands.{Rises, has, Stands}
use Rattle.log_meaning.specs.Growth.{is_neutral, IsFreeFor}
use Rattle.log_meaning.specs.Recovery.{is_commit}
use Rattle.log_meaning.specs.Transactions.{RiseBehind, last_lsn, waiting, AreFreeFor, LoneAreFree, ChangesStand, TransactionsStand, NeutralsStand, StandsAlike}
use Rattle.log_meaning.proofs.RedoLaws.{redo_all-append}
use Rattle.log_meaning.proofs.Standing.{stands_neutral, stands_put, stands_delete, stands_commit}

abbrev Flags : Type 0
Flags = ℕ → Bool

abbrev Data : Type 0
Data = ℕ → Name → Option (List ℕ)

abbrev Own : Type 0
Own = ℕ → List LoggedChange

-- ---- lists in parts

head_is : {X : Type 0} (x y : X) (a b : List X) → x ∷ a ≡ y ∷ b → x ≡ y
head_is x y a b is = cc

tail_is : {X : Type 0} (x y : X) (a b : List X) → x ∷ a ≡ y ∷ b → a ≡ b
tail_is x y a b is = cc

not_empty : {X : Type 0} (front : List X) (x : X) (rest : List X) → front ++ x ∷ rest ≡ [] → ⊥
not_empty [] x rest is = cc
not_empty (y ∷ front) x rest is = cc

-- entries with their LSNs, in parts as the entries are
record AreParted (more : List Placed) (xs ys : List Entry) : Type 0 where
  front : List Placed
  rest : List Placed
  is : more ≡ front ++ rest
  first : map (λ p. p.1) front ≡ xs
  second : map (λ p. p.1) rest ≡ ys

parted : (more : List Placed) (xs ys : List Entry) → map (λ p. p.1) more ≡ xs ++ ys → AreParted more xs ys
parted more [] ys is = record { front = []; rest = more; is = refl; first = refl; second = is }
parted [] (x ∷ xs) ys is = absurd cc
parted (p ∷ more) (x ∷ xs) ys is =
    let inner = parted more xs ys (tail_is p.1 x (map (λ (q : Placed). q.1) more) (xs ++ ys) is) in
    record {
      front = p ∷ inner.front;
      rest = inner.rest;
      is = ap (λ (l : List Placed). p ∷ l) inner.is;
      first = ap₂ (λ (e : Entry) (l : List Entry). e ∷ l) (head_is p.1 x (map (λ (q : Placed). q.1) more) (xs ++ ys) is) inner.first;
      second = inner.second;
    }

-- the first of them
record BeginsWith (more : List Placed) (x : Entry) (ys : List Entry) : Type 0 where
  at : ℕ
  rest : List Placed
  is : more ≡ (at, x) ∷ rest
  others : map (λ p. p.1) rest ≡ ys

begins : (more : List Placed) (x : Entry) (ys : List Entry) → map (λ p. p.1) more ≡ x ∷ ys → BeginsWith more x ys
begins [] x ys is = absurd cc
begins (p ∷ more) x ys is = record {
  at = p.0;
  rest = more;
  is = ap (λ (e : Entry). let q : Placed = (p.0, e) in q ∷ more) (head_is p.1 x (map (λ (q : Placed). q.1) more) ys is);
  others = tail_is p.1 x (map (λ (q : Placed). q.1) more) ys is;
}

none_mapped : (more : List Placed) → map (λ p. p.1) more ≡ [] → more ≡ []
none_mapped [] is = refl
none_mapped (p ∷ more) is = absurd cc

-- a front that leaves something is a front of all but the last
pub record IsWithin (front own : List Placed) : Type 0 where
  pub more : List Placed
  pub is : front ++ more ≡ own

pub within : (front rest own : List Placed) (p c : Placed) → front ++ p ∷ rest ≡ own ++ c ∷ [] → IsWithin front own
within [] rest own p c is = record { more = own; is = refl }
within (q ∷ front) rest [] p c is = absurd (not_empty front p rest (tail_is q c (front ++ p ∷ rest) [] is))
within (q ∷ front) rest (e ∷ own) p c is =
    let inner = within front rest own p c (tail_is q e (front ++ p ∷ rest) (own ++ c ∷ []) is) in
    record { more = inner.more; is = ap₂ (λ (x : Placed) (l : List Placed). x ∷ l) (head_is q e (front ++ p ∷ rest) (own ++ c ∷ []) is) inner.is }

-- ---- LSNs that rise

pub rise_parts : (next : ℕ) (a b : List Placed) → RiseBehind next (a ++ b) → RiseBehind next a × RiseBehind (last_lsn next a) b
rise_parts next [] b up = ((tt, tt), up)
rise_parts next (p ∷ a) b up =
    let inner = rise_parts p.0 a b up.1 in
    let behind = all_parts (λ (q : Placed). next < q.0) a b up.0.1 in
    (((up.0.0, behind.0), inner.0), inner.1)

last-push : (next : ℕ) (a : List Placed) (p : Placed) → last_lsn next (a ++ p ∷ []) ≡ p.0
last-push next [] p = refl
last-push next (q ∷ a) p = last-push q.0 a p

-- ---- what waits

-- which changes wait does not hang on those that are done
pending_alike : (more : List Placed) (a b : Redo) → a.pending ≡ b.pending → (redo_all more a).pending ≡ (redo_all more b).pending
pending_alike [] a b same = same
pending_alike (p ∷ more) a b same = pending_alike more (redo_entry p.0 p.1 a) (redo_entry p.0 p.1 b) (one p.0 p.1)
  where
    one : (at : ℕ) (entry : Entry) → (redo_entry at entry a).pending ≡ (redo_entry at entry b).pending
    one at (Put txn db name value) = ap (pushed txn.0 (set_at at db name value)) same
    one at (Delete txn db name) = ap (pushed txn.0 (unset_at at db name)) same
    one at (Commit txn) = ap (emptied txn.0) same
    one at entry = same

pub waiting-append : (a b : List Placed) (logged : Own) → waiting (a ++ b) logged ≡ waiting b (waiting a logged)
waiting-append a b logged =
    let start : Redo = record { done = []; pending = logged } in
    ap (λ (r : Redo). r.pending) (redo_all-append a b start) ∙ pending_alike b (redo_all a start) (record { done = []; pending = waiting a logged }) refl

-- images change nothing
image_waits : (at : ℕ) (entry : Entry) (logged : Own) → IsImage entry → waiting ((at, entry) ∷ []) logged ≡ logged
image_waits at (In db node level slots) logged is = refl
image_waits at (Bin db node slots) logged is = refl
image_waits at entry logged is = absurd is

images_wait : (more : List Placed) (logged : Own) → AllByRecursion (λ p. IsImage p.1) more → waiting more logged ≡ logged
images_wait [] logged all = refl
images_wait (p ∷ more) logged all =
    waiting-append (p ∷ []) more logged ∙ ap (waiting more) (image_waits p.0 p.1 logged all.0) ∙ images_wait more logged all.1

-- a change that is logged at an LSN
abbrev logged_at : ℕ → ℕ → Name → Option (List ℕ) → LoggedChange
logged_at at db name value = record { db = db; name = name; written = record { at = at; value = value } }

change_waits : (at : ℕ) (t : TxnId) (db : ℕ) (name : Name) (value : Option (List ℕ)) (logged : Own) →
    waiting ((at, entry_for t db name value) ∷ []) logged ≡ pushed t.0 (logged_at at db name value) logged
change_waits at t db name None logged = refl
change_waits at t db name (Some value) logged = refl

-- ---- the last change of a name

changed_by : (o : Option TreeChange) (b : Bool) (c : TreeChange) (v : Option (List ℕ)) → value_changed (option_or o (cond b (Some c) None)) v ≡ value_changed o (cond b c.value v)
changed_by (Some e) b c v = refl
changed_by None true c v = refl
changed_by None false c v = refl

last_change-cons : (d : ℕ) (x : Name) (c : TreeChange) (cs : List TreeChange) (v : Option (List ℕ)) →
    value_changed (last_change d x (c ∷ cs)) v ≡ value_changed (last_change d x cs) (cond (is_change_of d x c) c.value v)
last_change-cons d x c cs v =
    ap (λ (l : List TreeChange). value_changed (find (is_change_of d x) l) v) (reverse-append (c ∷ []) cs)
    ∙ ap (λ (o : Option TreeChange). value_changed o v) (find-append (is_change_of d x) (reverse cs) (c ∷ []))
    ∙ changed_by (last_change d x cs) (is_change_of d x c) c v

-- the data behind the changes that wait
own_waits : (t : TxnId) (changes : List TreeChange) (more : List Placed) (logged : Own) (d : ℕ) (x : Name) (w : Written) → LogsChanges t changes (map (λ p. p.1) more) →
    (last_of d x (waiting more logged t.0) w).value ≡ value_changed (last_change d x changes) (last_of d x (logged t.0) w).value
own_waits t [] more logged d x w logs = ap (λ (l : List Placed). (last_of d x (waiting l logged t.0) w).value) (none_mapped more logs)
own_waits t (c ∷ cs) more logged d x w logs =
    let parts = parted more logs.0 (entry_for t c.db c.name c.value ∷ logs.1) logs.3 in
    let own = begins parts.rest (entry_for t c.db c.name c.value) logs.1 parts.second in
    let change : LoggedChange = logged_at own.at c.db c.name c.value in
    let stood : Written = last_of d x (logged t.0) w in
    let images : AllByRecursion (λ p. IsImage p.1) parts.front =
    all_of_map (λ (p : Placed). p.1) IsImage parts.front (subst (AllByRecursion IsImage) (sym parts.first) logs.2) in
    let waits : waiting more logged ≡ waiting own.rest (pushed t.0 change logged) =
    ap (λ (l : List Placed). waiting l logged) (parts.is ∙ ap (λ (l : List Placed). parts.front ++ l) own.is)
    ∙ waiting-append parts.front ((own.at, entry_for t c.db c.name c.value) ∷ own.rest) logged
    ∙ ap (waiting ((own.at, entry_for t c.db c.name c.value) ∷ own.rest)) (images_wait parts.front logged images)
    ∙ waiting-append ((own.at, entry_for t c.db c.name c.value) ∷ []) own.rest logged
    ∙ ap (waiting own.rest) (change_waits own.at t c.db c.name c.value logged) in
    let pushed_is : pushed t.0 change logged t.0 ≡ logged t.0 ++ change ∷ [] =
    cond-true (t.0 == t.0) (logged t.0 ++ change ∷ []) (logged t.0) (eq-eqb t.0 t.0 refl) in
    ap (λ (f : Own). (last_of d x (f t.0) w).value) waits
    ∙ own_waits t cs own.rest (pushed t.0 change logged) d x w (subst (LogsChanges t cs) (sym own.others) logs.4)
    ∙ ap (λ (l : List LoggedChange). value_changed (last_change d x cs) (last_of d x l w).value) pushed_is
    ∙ ap (λ (v : Written). value_changed (last_change d x cs) v.value) (last_of-append d x (logged t.0) (change ∷ []) w)
    ∙ ap (value_changed (last_change d x cs)) (by_test own.at (is_change_of d x c) stood)
    ∙ sym (last_change-cons d x c cs stood.value)
  where
    by_test : (at : ℕ) (b : Bool) (v : Written) → (cond b (logged_at at c.db c.name c.value).written v).value ≡ cond b c.value v.value
    by_test at true v = refl
    by_test at false v = refl

-- ---- the entries of a transaction before its Commit

-- an image, or a change of a name that no other active transaction has changed
abbrev pub IsOwnEntry : Flags → Own → TxnId → Entry → Type 0
IsOwnEntry is_live logged t (Put u db name value) = (u ≡ t) × IsFreeFor is_live logged t.0 db name
IsOwnEntry is_live logged t (Delete u db name) = (u ≡ t) × IsFreeFor is_live logged t.0 db name
IsOwnEntry is_live logged t entry = is_neutral entry ≡ true

own_image : (is_live : Flags) (logged : Own) (t : TxnId) (entry : Entry) → IsImage entry → IsOwnEntry is_live logged t entry
own_image is_live logged t (In db node level slots) is = refl
own_image is_live logged t (Bin db node slots) is = refl
own_image is_live logged t entry is = absurd is

own_change : (is_live : Flags) (logged : Own) (t : TxnId) (db : ℕ) (name : Name) (value : Option (List ℕ)) → IsFreeFor is_live logged t.0 db name → IsOwnEntry is_live logged t (entry_for t db name value)
own_change is_live logged t db name None free = (refl, free)
own_change is_live logged t db name (Some value) free = (refl, free)

own_entries : (is_live : Flags) (logged : Own) (t : TxnId) (changes : List TreeChange) (entries : List Entry) → AreFreeFor is_live logged t changes → LogsChanges t changes entries →
    AllByRecursion (IsOwnEntry is_live logged t) entries
own_entries is_live logged t [] entries free logs = subst (AllByRecursion (IsOwnEntry is_live logged t)) (sym logs) tt
own_entries is_live logged t (c ∷ cs) entries free logs =
    subst (AllByRecursion (IsOwnEntry is_live logged t)) (sym logs.3)
    (all_append (IsOwnEntry is_live logged t) logs.0 (entry_for t c.db c.name c.value ∷ logs.1)
    (all_weaker IsImage (IsOwnEntry is_live logged t) (own_image is_live logged t) logs.0 logs.2)
    (own_change is_live logged t c.db c.name c.value free.0, own_entries is_live logged t cs logs.1 free.1 logs.4))

pub are_own : (is_live : Flags) (logged : Own) (t : TxnId) (changes : List TreeChange) (more : List Placed) → AreFreeFor is_live logged t changes → LogsChanges t changes (map (λ p. p.1) more) →
    AllByRecursion (λ p. IsOwnEntry is_live logged t p.1) more
are_own is_live logged t changes more free logs =
    all_of_map (λ (p : Placed). p.1) (IsOwnEntry is_live logged t) more (own_entries is_live logged t changes (map (λ p. p.1) more) free logs)

-- such an entry ends neither a transaction nor a checkpoint
pub own_no_commit : (is_live : Flags) (logged : Own) (t : TxnId) (entry : Entry) → IsOwnEntry is_live logged t entry → is_commit entry ≡ false
own_no_commit is_live logged t (Commit u) own = absurd (true≢false (sym own))
own_no_commit is_live logged t entry own = refl

pub own_no_end : (is_live : Flags) (logged : Own) (t : TxnId) (at : ℕ) (entry : Entry) → IsOwnEntry is_live logged t entry → checkpoint_in at entry ≡ None
own_no_end is_live logged t at (CkptEnd number start redo last_txn last_node last_db summary roots) own = absurd (true≢false (sym own))
own_no_end is_live logged t at entry own = refl

-- of other transactions the same waits
other_waits : (is_live : Flags) (free : Own) (t : TxnId) (at : ℕ) (entry : Entry) (logged : Own) (u : ℕ) → IsOwnEntry is_live free t entry → u ≢ t.0 → waiting ((at, entry) ∷ []) logged u ≡ logged u
other_waits is_live free t at (Put w db name value) logged u own other =
    cond-false (w.0 == u) (logged u ++ set_at at db name value ∷ []) (logged u) (ne_eqb w.0 u (λ e. other (sym e ∙ ap (λ (v : TxnId). v.0) own.0)))
other_waits is_live free t at (Delete w db name) logged u own other =
    cond-false (w.0 == u) (logged u ++ unset_at at db name ∷ []) (logged u) (ne_eqb w.0 u (λ e. other (sym e ∙ ap (λ (v : TxnId). v.0) own.0)))
other_waits is_live free t at (Commit w) logged u own other = absurd (true≢false (sym own))
other_waits is_live free t at entry logged u own other = refl

others_wait : (is_live : Flags) (free : Own) (t : TxnId) (more : List Placed) (logged : Own) (u : ℕ) → AllByRecursion (λ p. IsOwnEntry is_live free t p.1) more → u ≢ t.0 → waiting more logged u ≡ logged u
others_wait is_live free t [] logged u all other = refl
others_wait is_live free t (p ∷ more) logged u all other =
    ap (λ (f : Own). f u) (waiting-append (p ∷ []) more logged)
    ∙ others_wait is_live free t more (waiting (p ∷ []) logged) u all.1 other
    ∙ other_waits is_live free t p.0 p.1 logged u all.0 other

-- ---- what stands

stands_one : (es : List Placed) (base next at : ℕ) (is_open : Flags) (rows : Data) (is_live : Flags) (logged free : Own) (t : TxnId) (entry : Entry) →
    Stands es base next is_open rows is_live logged → next < at → is_live t.0 ≡ true → ((u : ℕ) → u ≢ t.0 → logged u ≡ free u) → IsOwnEntry is_live free t entry →
    Stands (es ++ (at, entry) ∷ []) base at is_open rows is_live (waiting ((at, entry) ∷ []) logged)
stands_one es base next at is_open rows is_live logged free t (Put u db name value) s lt live same own =
    subst (λ (w : TxnId). Stands (es ++ (at, Put w db name value) ∷ []) base at is_open rows is_live (pushed w.0 (set_at at db name value) logged)) (sym own.0)
    (stands_put es base next at is_open rows is_live logged t db name value s lt live (λ v v_live other. ap (has db name) (same v other) ∙ own.1 v v_live other))
stands_one es base next at is_open rows is_live logged free t (Delete u db name) s lt live same own =
    subst (λ (w : TxnId). Stands (es ++ (at, Delete w db name) ∷ []) base at is_open rows is_live (pushed w.0 (unset_at at db name) logged)) (sym own.0)
    (stands_delete es base next at is_open rows is_live logged t db name s lt live (λ v v_live other. ap (has db name) (same v other) ∙ own.1 v v_live other))
stands_one es base next at is_open rows is_live logged free t (Commit u) s lt live same own = absurd (true≢false (sym own))
stands_one es base next at is_open rows is_live logged free t entry s lt live same own = stands_neutral es base next at is_open rows is_live logged entry s lt own

pub stands_on : (more es : List Placed) (base next : ℕ) (is_open : Flags) (rows : Data) (is_live : Flags) (logged free : Own) (t : TxnId) →
    Stands es base next is_open rows is_live logged → is_live t.0 ≡ true → ((u : ℕ) → u ≢ t.0 → logged u ≡ free u) → AllByRecursion (λ p. IsOwnEntry is_live free t p.1) more → RiseBehind next more →
    Stands (es ++ more) base (last_lsn next more) is_open rows is_live (waiting more logged)
stands_on [] es base next is_open rows is_live logged free t s live same all up =
    subst (λ (l : List Placed). Stands l base next is_open rows is_live logged) (sym (append-nil es)) s
stands_on (p ∷ more) es base next is_open rows is_live logged free t s live same all up =
    let first : Own = waiting (p ∷ []) logged in
    let step : Stands (es ++ p ∷ []) base p.0 is_open rows is_live first = stands_one es base next p.0 is_open rows is_live logged free t p.1 s up.0.0 live same all.0 in
    subst (λ (l : List Placed). Stands l base (last_lsn p.0 more) is_open rows is_live (waiting (p ∷ more) logged)) (append_assoc es (p ∷ []) more)
    (subst (λ (f : Own). Stands ((es ++ p ∷ []) ++ more) base (last_lsn p.0 more) is_open rows is_live f) (sym (waiting-append (p ∷ []) more logged))
    (stands_on more (es ++ p ∷ []) base p.0 is_open rows is_live first free t step live
    (λ u other. other_waits is_live free t p.0 p.1 logged u all.0 other ∙ same u other) all.1 up.1))

pub lone_are_free : LoneAreFree
lone_are_free is_live logged t [] none = tt
lone_are_free is_live logged t (c ∷ changes) none = (λ u live other. ap (has c.db c.name) (none u live), lone_are_free is_live logged t changes none)

-- each front
pub stands_front : (front rest more es : List Placed) (base next : ℕ) (is_open : Flags) (rows : Data) (is_live : Flags) (logged : Own) (t : TxnId) →
    Stands es base next is_open rows is_live logged → is_live t.0 ≡ true → AllByRecursion (λ p. IsOwnEntry is_live logged t p.1) more → RiseBehind next more → front ++ rest ≡ more →
    Stands (es ++ front) base (last_lsn next front) is_open rows is_live (waiting front logged)
stands_front front rest more es base next is_open rows is_live logged t s live all up is =
    stands_on front es base next is_open rows is_live logged logged t s live (λ u other. refl)
    (all_parts (λ (p : Placed). IsOwnEntry is_live logged t p.1) front rest (subst (AllByRecursion (λ p. IsOwnEntry is_live logged t p.1)) (sym is) all)).0
    (rise_parts next front rest (subst (RiseBehind next) (sym is) up)).0

pub changes_stand : ChangesStand
changes_stand es base next is_open rows is_live logged t changes more s appends =
    let own : AllByRecursion (λ p. IsOwnEntry is_live logged t p.1) more = are_own is_live logged t changes more appends.free appends.logs in
    record {
      fronts = λ front rest is. stands_front front rest more es base next is_open rows is_live logged t s appends.live own appends.rise is;
      own = λ d x w. own_waits t changes more logged d x w appends.logs;
      others = λ u other. others_wait is_live logged t more logged u own other;
    }

-- entries that change nothing
pub neutrals_stand : NeutralsStand
neutrals_stand es base next is_open rows is_live logged [] s up all = subst (λ (l : List Placed). Stands l base next is_open rows is_live logged) (sym (append-nil es)) s
neutrals_stand es base next is_open rows is_live logged (p ∷ more) s up all =
    subst (λ (l : List Placed). Stands l base (last_lsn p.0 more) is_open rows is_live logged) (append_assoc es (p ∷ []) more)
    (neutrals_stand (es ++ p ∷ []) base p.0 is_open rows is_live logged more (stands_neutral es base next p.0 is_open rows is_live logged p.1 s up.0.0 all.0) up.1 all.1)

pub neutral_no_commit : (entry : Entry) → is_neutral entry ≡ true → is_commit entry ≡ false
neutral_no_commit (Commit u) neutral = absurd (true≢false (sym neutral))
neutral_no_commit entry neutral = refl

pub neutral_no_end : (at : ℕ) (entry : Entry) → is_neutral entry ≡ true → checkpoint_in at entry ≡ None
neutral_no_end at (CkptEnd number start redo last_txn last_node last_db summary roots) neutral = absurd (true≢false (sym neutral))
neutral_no_end at entry neutral = refl

-- ---- what waits of transactions that are not active

pub stands_alike : StandsAlike
stands_alike es base next is_open rows is_live logged alike s same = record {
  begun = s.begun;
  reach = s.reach;
  past = s.past;
  past_own = λ t live. subst (AllByRecursion (λ (c : LoggedChange). (base ≤ c.written.at) × (c.written.at ≤ next))) (same t live) (s.past_own t live);
  same = s.same;
  own = λ t live. s.own t live ∙ same t live;
  redo = s.redo;
  tied = s.tied;
  later = λ r le t live. s.later r le t live ∙ ap (changes_from r) (same t live);
  alone = λ t live d x. subst (Rises d x (newest base es d x)) (same t live) (s.alone t live d x);
  apart = λ t u t_live u_live other d x.
      subst (λ (l : List LoggedChange). (has d x (alike t) ≡ false) ⊎ (has d x l ≡ false)) (same u u_live)
      (subst (λ (l : List LoggedChange). (has d x l ≡ false) ⊎ (has d x (logged u) ≡ false)) (same t t_live) (s.apart t u t_live u_live other d x));
}

-- ---- a whole transaction

-- its Commit stands last
pub record EndsInCommit (t : TxnId) (changes : List TreeChange) (more : List Placed) : Type 0 where
  pub own : List Placed
  pub at : ℕ
  pub is : more ≡ own ++ (at, Commit t) ∷ []
  pub logs : LogsChanges t changes (map (λ p. p.1) own)

pub ends_in_commit : (t : TxnId) (changes : List TreeChange) (more : List Placed) → LogsTransaction t changes (map (λ p. p.1) more) → EndsInCommit t changes more
ends_in_commit t changes more logs =
    let parts = parted more logs.0 (Commit t ∷ []) logs.2 in
    let last = begins parts.rest (Commit t) [] parts.second in
    record {
      own = parts.front;
      at = last.at;
      is = parts.is ∙ ap (λ (l : List Placed). parts.front ++ l) (last.is ∙ ap (λ (l : List Placed). let p : Placed = (last.at, Commit t) in p ∷ l) (none_mapped last.rest last.others));
      logs = subst (LogsChanges t changes) (sym parts.first) logs.1;
    }

-- the records that the changes leave are those that the changes that wait leave
pub after_waits : (fewer : Flags) (rows after : Data) (logged : Own) (t : TxnId) (changes : List TreeChange) (own : List Placed) → logged t.0 ≡ [] → LogsChanges t changes (map (λ p. p.1) own) →
    ((d : ℕ) (x : Name) → fewer d ≡ true → after d x ≡ value_changed (last_change d x changes) (rows d x)) →
    (d : ℕ) (x : Name) → fewer d ≡ true → after d x ≡ (last_of d x (waiting own logged t.0) (record { at = 0; value = rows d x })).value
after_waits fewer rows after logged t changes own begins logs after_is d x open_ =
    let stood : Written = record { at = 0; value = rows d x } in
    after_is d x open_
    ∙ ap (λ (l : List LoggedChange). value_changed (last_change d x changes) (last_of d x l stood).value) (sym begins)
    ∙ sym (own_waits t changes own logged d x stood logs)

pub transactions_stand : TransactionsStand
transactions_stand es base next is_open fewer rows after is_live logged t changes more s appends = record {
  fronts = λ front rest p is.
      let inner = within front rest ended.own p (ended.at, Commit t) (is ∙ ended.is) in
      stands_front front inner.more ended.own es base next is_open rows is_live logged t s appends.live own up.0 inner.is;
  whole = subst (λ (l : List Placed). Stands (es ++ l) base (last_lsn next l) fewer after is_live logged) (sym ended.is) whole;
}
  where
    ended : EndsInCommit t changes more
    ended = ends_in_commit t changes more appends.logs

    own : AllByRecursion (λ p. IsOwnEntry is_live logged t p.1) ended.own
    own = are_own is_live logged t changes ended.own appends.free ended.logs

    up : RiseBehind next ended.own × RiseBehind (last_lsn next ended.own) ((ended.at, Commit t) ∷ [])
    up = rise_parts next ended.own ((ended.at, Commit t) ∷ []) (subst (RiseBehind next) ended.is appends.rise)

    before : Stands (es ++ ended.own) base (last_lsn next ended.own) is_open rows is_live (waiting ended.own logged)
    before = stands_on ended.own es base next is_open rows is_live logged logged t s appends.live (λ u other. refl) own up.0

    after_is : (d : ℕ) (x : Name) → fewer d ≡ true → after d x ≡ (last_of d x (waiting ended.own logged t.0) (record { at = 0; value = rows d x })).value
    after_is = after_waits fewer rows after logged t changes ended.own appends.begins ended.logs appends.after_is

    none_left : (u : ℕ) → emptied t.0 (waiting ended.own logged) u ≡ logged u
    none_left u = by_test (t.0 == u) refl
      where
        by_test : (b : Bool) → (t.0 == u) ≡ b → cond b [] (waiting ended.own logged u) ≡ logged u
        by_test true is = sym appends.begins ∙ ap logged (eqb-true t.0 u is)
        by_test false is = others_wait is_live logged t ended.own logged u own (λ e. true≢false (sym (eq-eqb t.0 u (sym e)) ∙ is))

    committed : Stands ((es ++ ended.own) ++ (ended.at, Commit t) ∷ []) base ended.at fewer after is_live (emptied t.0 (waiting ended.own logged))
    committed = stands_commit (es ++ ended.own) base (last_lsn next ended.own) ended.at is_open fewer rows after is_live (waiting ended.own logged) t before up.1.0.0 appends.live appends.smaller after_is

    whole : Stands (es ++ (ended.own ++ (ended.at, Commit t) ∷ [])) base (last_lsn next (ended.own ++ (ended.at, Commit t) ∷ [])) fewer after is_live logged
    whole =
        subst (λ (n : ℕ). Stands (es ++ (ended.own ++ (ended.at, Commit t) ∷ [])) base n fewer after is_live logged) (sym (last-push next ended.own (ended.at, Commit t)))
        (subst (λ (l : List Placed). Stands l base ended.at fewer after is_live logged) (append_assoc es ended.own ((ended.at, Commit t) ∷ []))
        (stands_alike ((es ++ ended.own) ++ (ended.at, Commit t) ∷ []) base ended.at fewer after is_live (emptied t.0 (waiting ended.own logged)) logged committed (λ u live. none_left u)))
