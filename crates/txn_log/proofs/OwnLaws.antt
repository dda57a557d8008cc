-- Own changes, as a log has them and as trees do.
use Rattle.std.proofs.Common.{◌≡◌, ℕ, ◌<◌, ◌==◌, ◌||◌, ◌⊎◌, inl, inr, nat_lt, Bool, true, false, cond, List, [], ◌∷◌, ◌++◌, Option, None, Some, map, reverse, find, is_eq, refl, sym, ap, ap₂, subst, ◌∙◌, append_assoc}
use Rattle.std.specs.Prelude.{◌≢◌, ◌&&◌, option_map}
use Rattle.std.specs.Option.{option_or}
use Rattle.std.specs.List.{AllByRecursion, list_any}
use Rattle.std.proofs.lemmas.Bool.{true≢false, eq-eqb, cond-true, ltb-true, lt-ltb, or_left, or_right}
use Rattle.std.proofs.lemmas.List.{append-nil, map-append, reverse-append}
use Rattle.std.proofs.lemmas.List.Folds.{find-append}
use Rattle.je_order.specs.declared.name.Name.{Name}
use Rattle.je_order.specs.declared.txn_id.TxnId.{TxnId}
use Rattle.je_order.specs.Order.{name_cmp}
use Rattle.je_order.proofs.Lists.{all_weaker}
use Rattle.log_replay.proofs.ListLaws.{all_parts, none_found}
use Rattle.log_trees.proofs.Bounds.{eq_turned}
use Rattle.log_entry.specs.declared.entry.Entry.{Entry}
use Rattle.log_entry.specs.declared.entry.Entry.TheVariants.{Put, Delete, Commit, In, Bin}
use Rattle.log_trees.specs.Placed.{Placed}
use Rattle.log_trees.specs.Changes.{Written, LoggedChange, is_of, last_of}
use Rattle.record_tree.specs.declared.tree_change.TreeChange.{TreeChange}
use Rattle.record_tree.specs.Logged.{entry_for, IsImage, AreImages, LogsChanges, is_change_of, last_change, value_changed}
use Rattle.store_model.specs.declared.record_change.RecordChange.{RecordChange}
use Rattle.store_model.specs.declared.record_change.RecordChange.TheVariants.{Set, Unset}
use Rattle.store_model.specs.Needs.{changed_name}
use Rattle.log_meaning.specs.Redo.{set_at, unset_at}
use Rattle.log_meaning.specs.Stands.{has}
use Rattle.log_meaning.specs.Growth.{IsFreeFor}
use Rattle.log_meaning.specs.Transactions.{waiting, AreFreeFor}
use Rattle.log_meaning.proofs.Appending.{IsOwnEntry, waiting-append}
use Rattle.txn_log.specs.Own.{AreFreeNames, NoneIsLast, OwnAreTrees, OwnChange, TreesAreOwn, change_to, has_own, is_live, is_own_of, own_by, own_of, tree_of, value_to}

abbrev Flags : Type 0
Flags = ℕ → Bool

abbrev Owns : Type 0
Owns = ℕ → List OwnChange

abbrev Logged : Type 0
Logged = ℕ → List LoggedChange

-- ---- transactions under way, and numbers that were not allocated

pub live_parts : (last t : ℕ) (is_active : Flags) → is_live last is_active t ≡ true → (last < t) ⊎ (is_active t ≡ true)
live_parts last t is_active live = by_test (nat_lt last t) refl live
  where
    by_test : (b : Bool) → nat_lt last t ≡ b → (b || is_active t) ≡ true → (last < t) ⊎ (is_active t ≡ true)
    by_test true is or_ = inl (ltb-true last t is)
    by_test false is or_ = inr or_

pub live_later : (last t : ℕ) (is_active : Flags) → last < t → is_live last is_active t ≡ true
live_later last t is_active above = or_left (nat_lt last t) (is_active t) (lt-ltb last t above)

pub live_active : (last t : ℕ) (is_active : Flags) → is_active t ≡ true → is_live last is_active t ≡ true
live_active last t is_active active = or_right (nat_lt last t) (is_active t) active

-- ---- names

name_of : (name : Name) (value : Option (List ℕ)) → changed_name (change_to name value) ≡ name
name_of name None = refl
name_of name (Some value) = refl

value_of : (name : Name) (value : Option (List ℕ)) → value_to (change_to name value) ≡ value
value_of name None = refl
value_of name (Some value) = refl

pub has_logged : (d : ℕ) (x : Name) (changes : List LoggedChange) → has d x changes ≡ has_own d x (map own_by changes)
has_logged d x [] = refl
has_logged d x (c ∷ changes) =
    ap₂ (λ (a b : Bool). a || b) (sym (ap (λ (n : Name). is_of d x (record { db = c.db; name = n; written = c.written })) (name_of c.name c.written.value))) (has_logged d x changes)

trees_are_own_one : (d : ℕ) (name : Name) (value : Option (List ℕ)) (made : Option ℕ) → made ≡ None →
    tree_of (d, change_to name value) ≡ record { db = d; name = name; value = value; makes = made }
trees_are_own_one d name None made none = ap (λ (m : Option ℕ). let t : TreeChange = record { db = d; name = name; value = None; makes = m } in t) (sym none)
trees_are_own_one d name (Some value) made none = ap (λ (m : Option ℕ). let t : TreeChange = record { db = d; name = name; value = Some value; makes = m } in t) (sym none)

pub trees_are_own : TreesAreOwn
trees_are_own [] none = refl
trees_are_own (c ∷ changes) none = ap₂ (λ (t : TreeChange) (l : List TreeChange). t ∷ l) (trees_are_own_one c.db c.name c.value c.makes none.0) (trees_are_own changes none.1)

own_are_trees_one : (d : ℕ) (c : RecordChange) → own_of (tree_of (d, c)) ≡ (d, c)
own_are_trees_one d (Set at value) = refl
own_are_trees_one d (Unset at) = refl

pub own_are_trees : OwnAreTrees
own_are_trees [] = refl
own_are_trees (c ∷ own) = ap₂ (λ (o : OwnChange) (l : List OwnChange). o ∷ l) (own_are_trees_one c.0 c.1) (own_are_trees own)

-- the last own change of a name is its last change in the log
abbrev tree_by : LoggedChange → TreeChange
tree_by c = record { db = c.db; name = c.name; value = c.written.value; makes = None }

trees_by : (changes : List LoggedChange) → map tree_of (map own_by changes) ≡ map tree_by changes
trees_by [] = refl
trees_by (c ∷ changes) =
    ap₂ (λ (n : Name) (v : Option (List ℕ)). let t : TreeChange = record { db = c.db; name = n; value = v; makes = None } in t ∷ map tree_of (map own_by changes))
    (name_of c.name c.written.value) (value_of c.name c.written.value)
    ∙ ap (λ (l : List TreeChange). tree_by c ∷ l) (trees_by changes)

changed_by : (o : Option TreeChange) (b : Bool) (c : TreeChange) (v : Option (List ℕ)) → value_changed (option_or o (cond b (Some c) None)) v ≡ value_changed o (cond b c.value v)
changed_by (Some e) b c v = refl
changed_by None true c v = refl
changed_by None false c v = refl

pub last_change-cons : (d : ℕ) (x : Name) (c : TreeChange) (cs : List TreeChange) (v : Option (List ℕ)) →
    value_changed (last_change d x (c ∷ cs)) v ≡ value_changed (last_change d x cs) (cond (is_change_of d x c) c.value v)
last_change-cons d x c cs v =
    ap (λ (l : List TreeChange). value_changed (find (is_change_of d x) l) v) (reverse-append (c ∷ []) cs)
    ∙ ap (λ (o : Option TreeChange). value_changed o v) (find-append (is_change_of d x) (reverse cs) (c ∷ []))
    ∙ changed_by (last_change d x cs) (is_change_of d x c) c v

pub last_change-append : (d : ℕ) (x : Name) (a b : List TreeChange) (v : Option (List ℕ)) → value_changed (last_change d x (a ++ b)) v ≡ value_changed (last_change d x b) (value_changed (last_change d x a) v)
last_change-append d x [] b v = refl
last_change-append d x (c ∷ a) b v =
    last_change-cons d x c (a ++ b) v
    ∙ last_change-append d x a b (cond (is_change_of d x c) c.value v)
    ∙ ap (value_changed (last_change d x b)) (sym (last_change-cons d x c a v))

last_by : (d : ℕ) (x : Name) (changes : List LoggedChange) (w : Written) → (last_of d x changes w).value ≡ value_changed (last_change d x (map tree_by changes)) w.value
last_by d x [] w = refl
last_by d x (c ∷ changes) w =
    last_by d x changes (cond (is_of d x c) c.written w)
    ∙ ap (value_changed (last_change d x (map tree_by changes))) (by_test (is_of d x c))
    ∙ sym (last_change-cons d x (tree_by c) (map tree_by changes) w.value)
  where
    by_test : (b : Bool) → (cond b c.written w).value ≡ cond b c.written.value w.value
    by_test true = refl
    by_test false = refl

pub last_own_is : (d : ℕ) (x : Name) (changes : List LoggedChange) (own : List OwnChange) (w : Written) → map own_by changes ≡ own →
    (last_of d x changes w).value ≡ value_changed (last_change d x (map tree_of own)) w.value
last_own_is d x changes own w is =
    last_by d x changes w
    ∙ ap (λ (l : List TreeChange). value_changed (last_change d x l) w.value) (sym (trees_by changes) ∙ ap (λ (l : List OwnChange). map tree_of l) is)

-- ---- names that are free

all_back : {X : Type 0} (P : X → Type 0) (xs : List X) → AllByRecursion P (reverse xs) → AllByRecursion P xs
all_back P [] all = tt
all_back P (x ∷ xs) all = let parts = all_parts P (reverse xs) (x ∷ []) (subst (AllByRecursion P) (reverse-append (x ∷ []) xs) all) in (parts.1.0, all_back P xs parts.0)

none_any : {X : Type 0} (p : X → Bool) (xs : List X) → AllByRecursion (λ x. p x ≡ false) xs → list_any p xs ≡ false
none_any p [] all = refl
none_any p (x ∷ xs) all = ap₂ (λ (a b : Bool). a || b) all.0 (none_any p xs all.1)

pub none_is_last : NoneIsLast
none_is_last d x own none = by_found (find test (reverse own)) refl none
  where
    test : OwnChange → Bool
    test c = (c.0 == d) && is_eq (name_cmp x (changed_name c.1))

    turned : (c : OwnChange) → test c ≡ false → is_own_of d x c ≡ false
    turned c not_ = ap (λ (b : Bool). (c.0 == d) && b) (eq_turned x (changed_name c.1) (is_eq (name_cmp x (changed_name c.1))) refl) ∙ not_

    by_found : (o : Option OwnChange) → find test (reverse own) ≡ o → option_map (λ (c : OwnChange). c.1) o ≡ None → has_own d x own ≡ false
    by_found (Some c) is none_ = absurd cc
    by_found None is none_ = none_any (is_own_of d x) own
        (all_weaker (λ (c : OwnChange). test c ≡ false) (λ c. is_own_of d x c ≡ false) turned own
        (all_back (λ (c : OwnChange). test c ≡ false) own (none_found test (reverse own) is)))

pub are_free : (last : ℕ) (is_active : Flags) (own : Owns) (logged : Logged) (t : TxnId) (changes : List TreeChange) →
    ((u : ℕ) → is_active u ≡ true → map own_by (logged u) ≡ own u) → ((u : ℕ) → last < u → logged u ≡ []) → AreFreeNames is_active own t.0 changes →
    AreFreeFor (is_live last is_active) logged t changes
are_free last is_active own logged t changes own_is none free =
    all_weaker (λ (c : TreeChange). (u : ℕ) → is_active u ≡ true → u ≢ t.0 → has_own c.db c.name (own u) ≡ false) (λ c. IsFreeFor (is_live last is_active) logged t.0 c.db c.name)
    (λ c free_one u live other. by_parts c free_one u other (live_parts last u is_active live)) changes free
  where
    by_parts : (c : TreeChange) → ((u : ℕ) → is_active u ≡ true → u ≢ t.0 → has_own c.db c.name (own u) ≡ false) → (u : ℕ) → u ≢ t.0 → (last < u) ⊎ (is_active u ≡ true) → has c.db c.name (logged u) ≡ false
    by_parts c free_one u other (inl above) = ap (has c.db c.name) (none u above)
    by_parts c free_one u other (inr active) = has_logged c.db c.name (logged u) ∙ ap (has_own c.db c.name) (own_is u active) ∙ free_one u active other

-- ---- what waits

-- the own change that an entry logs
abbrev own_in : Entry → List OwnChange
own_in (Put t db name value) = (db, Set name value) ∷ []
own_in (Delete t db name) = (db, Unset name) ∷ []
own_in entry = []

abbrev all_in : List Entry → List OwnChange
all_in [] = []
all_in (e ∷ entries) = own_in e ++ all_in entries

all_in-append : (a b : List Entry) → all_in (a ++ b) ≡ all_in a ++ all_in b
all_in-append [] b = refl
all_in-append (e ∷ a) b = ap (λ (l : List OwnChange). own_in e ++ l) (all_in-append a b) ∙ sym (append_assoc (own_in e) (all_in a) (all_in b))

in_image : (e : Entry) → IsImage e → own_in e ≡ []
in_image (In db node level slots) is = refl
in_image (Bin db node slots) is = refl
in_image e is = absurd is

in_images : (entries : List Entry) → AreImages entries → all_in entries ≡ []
in_images [] are = refl
in_images (e ∷ entries) are = ap₂ (λ (a b : List OwnChange). a ++ b) (in_image e are.0) (in_images entries are.1)

in_entry : (t : TxnId) (c : TreeChange) → own_in (entry_for t c.db c.name c.value) ≡ own_of c ∷ []
in_entry t c = by_value c.value
  where
    by_value : (v : Option (List ℕ)) → own_in (entry_for t c.db c.name v) ≡ (c.db, change_to c.name v) ∷ []
    by_value None = refl
    by_value (Some value) = refl

all_in-logs : (t : TxnId) (changes : List TreeChange) (entries : List Entry) → LogsChanges t changes entries → all_in entries ≡ map own_of changes
all_in-logs t [] entries logs = ap all_in logs
all_in-logs t (c ∷ changes) entries logs =
    ap all_in logs.3
    ∙ all_in-append logs.0 (entry_for t c.db c.name c.value ∷ logs.1)
    ∙ ap (λ (l : List OwnChange). l ++ all_in (entry_for t c.db c.name c.value ∷ logs.1)) (in_images logs.0 logs.2)
    ∙ ap₂ (λ (a b : List OwnChange). a ++ b) (in_entry t c) (all_in-logs t changes logs.1 logs.4)

-- one more change of a transaction
pushed_is : (t : TxnId) (c : LoggedChange) (logged : Logged) → cond (t.0 == t.0) (logged t.0 ++ c ∷ []) (logged t.0) ≡ logged t.0 ++ c ∷ []
pushed_is t c logged = cond-true (t.0 == t.0) (logged t.0 ++ c ∷ []) (logged t.0) (eq-eqb t.0 t.0 refl)

one_waits : (is_live_ : Flags) (free : Logged) (t : TxnId) (at : ℕ) (entry : Entry) (logged : Logged) → IsOwnEntry is_live_ free t entry →
    map own_by (waiting ((at, entry) ∷ []) logged t.0) ≡ map own_by (logged t.0) ++ own_in entry
one_waits is_live_ free t at (Put u db name value) logged is =
    let c : LoggedChange = set_at at db name value in
    ap (λ (w : TxnId). map own_by (cond (w.0 == t.0) (logged t.0 ++ c ∷ []) (logged t.0))) is.0
    ∙ ap (λ (l : List LoggedChange). map own_by l) (pushed_is t c logged) ∙ map-append own_by (logged t.0) (c ∷ [])
one_waits is_live_ free t at (Delete u db name) logged is =
    let c : LoggedChange = unset_at at db name in
    ap (λ (w : TxnId). map own_by (cond (w.0 == t.0) (logged t.0 ++ c ∷ []) (logged t.0))) is.0
    ∙ ap (λ (l : List LoggedChange). map own_by l) (pushed_is t c logged) ∙ map-append own_by (logged t.0) (c ∷ [])
one_waits is_live_ free t at (Commit u) logged is = absurd (true≢false (sym is))
one_waits is_live_ free t at entry logged is = sym (append-nil (map own_by (logged t.0)))

all_wait : (is_live_ : Flags) (free : Logged) (t : TxnId) (more : List Placed) (logged : Logged) → AllByRecursion (λ p. IsOwnEntry is_live_ free t p.1) more →
    map own_by (waiting more logged t.0) ≡ map own_by (logged t.0) ++ all_in (map (λ p. p.1) more)
all_wait is_live_ free t [] logged all = sym (append-nil (map own_by (logged t.0)))
all_wait is_live_ free t (p ∷ more) logged all =
    ap (λ (f : Logged). map own_by (f t.0)) (waiting-append (p ∷ []) more logged)
    ∙ all_wait is_live_ free t more (waiting (p ∷ []) logged) all.1
    ∙ ap (λ (l : List OwnChange). l ++ all_in (map (λ q. q.1) more)) (one_waits is_live_ free t p.0 p.1 logged all.0)
    ∙ append_assoc (map own_by (logged t.0)) (own_in p.1) (all_in (map (λ q. q.1) more))

-- of a transaction that logs changes these wait behind the ones that waited
pub own_waits : (is_live_ : Flags) (free : Logged) (t : TxnId) (changes : List TreeChange) (more : List Placed) (logged : Logged) → AllByRecursion (λ p. IsOwnEntry is_live_ free t p.1) more →
    LogsChanges t changes (map (λ p. p.1) more) → map own_by (waiting more logged t.0) ≡ map own_by (logged t.0) ++ map own_of changes
own_waits is_live_ free t changes more logged all logs =
    all_wait is_live_ free t more logged all ∙ ap (λ (l : List OwnChange). map own_by (logged t.0) ++ l) (all_in-logs t changes (map (λ p. p.1) more) logs)
