-- Changes that a call may make: they may be committed, what they are in the store, what is logged of them, and how many records they leave.
use Rattle.std.proofs.Common.{◌≡◌, ◌≢◌, inl, inr, ◌∙◌, ℕ, ◌+◌, ◌^◌, ◌≤◌, ◌<◌, ◌==◌, ◌&&◌, Bool, true, false, cond, List, [], ◌∷◌, ◌++◌, Option, None, Some, is_some, is_eq, count_by, filter, length, map, flat_map, refl, ap, ap₂, sym, subst, arith}
use Rattle.std.specs.List.{AllByRecursion}
use Rattle.std.proofs.lemmas.Bool.{eqb-true}
use Rattle.std.proofs.lemmas.List.Sums.{length-filter}
use Rattle.je_order.specs.Order.{name_cmp}
use Rattle.je_order.specs.declared.name.Name.{Name}
use Rattle.je_order.specs.declared.txn_id.TxnId.{TxnId}
use Rattle.je_order.proofs.Lists.{all_weaker}
use Rattle.log_entry.specs.Body.{IsEntry}
use Rattle.record_tree.specs.Logged.{entry_for, is_made}
use Rattle.record_tree.specs.declared.tree_change.TreeChange.{TreeChange}
use Rattle.store_model.specs.declared.change.Change.{Change}
use Rattle.store_model.specs.declared.kind.Kind.{Kind}
use Rattle.store_model.specs.declared.kind.Kind.TheVariants.{Plain, Dup}
use Rattle.store_model.specs.declared.record_change.RecordChange.{RecordChange}
use Rattle.store_model.specs.declared.record_change.RecordChange.TheVariants.{Set, Unset}
use Rattle.store_model.specs.declared.store.Database.{Database}
use Rattle.store_model.specs.Indexes.{Numbered}
use Rattle.store_model.specs.Needs.{changed_name}
use Rattle.store_model.specs.Store.{change_in, proper}
use Rattle.je_answers.specs.Standing.{Standing}
use Rattle.je_answers.specs.Views.{changes_in, changes_named, with_names, with_numbers}
use Rattle.log_trees.proofs.Bounds.{eq_turned}
use Rattle.log_replay.specs.Kept.{IsRecordChange, MayBeLogged}
use Rattle.log_replay.specs.Laws.{one_if}
use Rattle.log_replay.specs.Logging.{all_row_changes, kind_named, number_named, row_changes}
use Rattle.log_replay.specs.Rows.{RowChange, Rows, data_at, is_right_row, numbers_of}
use Rattle.log_replay.proofs.ListLaws.{all_of_map, all_to_map}
use Rattle.log_replay.proofs.LoggedLaws.{number-within}
use Rattle.log_replay.proofs.StoreLaws.{environment_parts, number_of_row, primaries_in}
use Rattle.log_replay.proofs.TransactionLaws.{records_are_logged}
use Rattle.txn_core.specs.Known.{has_number}
use Rattle.txn_core.specs.Planning.{HaveFewNew, row_by}
use Rattle.txn_core.proofs.NumberLaws.{number_there}
use Rattle.txn_log.specs.Own.{OwnChange, row_of, tree_of}
use Rattle.txn_log.specs.Committing.{MakesStore, MayBeCommitted, records_had, records_set, rows_own}
use Rattle.txn_log.proofs.CountLaws.{had_stay}
use Rattle.txn_views.specs.Seen.{is_right_change, last_own}
use Rattle.txn_views.proofs.OwnLaws.{none-is_last}
use Rattle.environment.specs.Changing.{AreApartIn, FitsEntry, IsRightIn, has_data, sets_data}
use Rattle.environment.proofs.CommitRows.{data_last, value_by}
use Rattle.environment.proofs.KindLaws.{kind_at}

abbrev pub Changed : Type 0
Changed = Numbered × RecordChange

-- ---- as own changes and as changes of the store

-- with their numbers they name the same databases
pub names_are : (st : Standing) (cs : List Changed) → AllByRecursion (IsRightIn st) cs → changes_named st (with_numbers cs) ≡ with_names cs
names_are st [] all = refl
names_are st (c ∷ cs) all = ap₂ (λ (o : Option Database) (l : List Change). changes_in o c.1 ++ l) all.0.there (names_are st cs all.1)

no_length : {X : Type 0} (l : List X) → (length l == 0) ≡ true → l ≡ []
no_length [] h = refl
no_length (x ∷ l) h = let e = eqb-true (length (x ∷ l)) 0 h in absurd (omega (arith, e))

unset_proper : (kind : Kind) (at : Name) → is_right_row kind (at, []) ≡ true → proper kind at ≡ at
unset_proper Plain at h = ap (λ (l : List ℕ). record { key = at.key; dup = l }) (sym (no_length at.dup h))
unset_proper Dup at h = refl

may_be : (rows : Rows) (last_db : ℕ) (name : List ℕ) (kind : Kind) (c : RecordChange) → number_named rows name ≢ 0 → kind_named rows name ≡ kind → is_right_change kind c ≡ true →
    IsRecordChange (change_in name c) × MayBeLogged rows last_db (change_in name c)
may_be rows last_db name kind (Set at value) above is right = (tt, (above, ap (λ (k : Kind). is_right_row k (at, value)) is ∙ right))
may_be rows last_db name kind (Unset at) above is right = (tt, (above, unset_proper (kind_named rows name) at (ap (λ (k : Kind). is_right_row k (at, [])) is ∙ right)))

module _ (rows : Rows) (last_db : ℕ) (st : Standing) (makes : MakesStore rows last_db st) where
  number_in : (c : Changed) → IsRightIn st c → number_named rows c.0.1.name ≡ c.0.0
  number_in c is = makes.named c.0.1.name ∙ is.named

  kind_in : (c : Changed) → IsRightIn st c → kind_named rows c.0.1.name ≡ c.0.1.kind
  kind_in c is = kind_at rows last_db st c.0.0 c.0.1 makes is.there

  above_in : (c : Changed) → IsRightIn st c → number_named rows c.0.1.name ≢ 0
  above_in c is = λ e. is.above (sym (number_in c is) ∙ e)

  -- each may be committed
  pub may_commit : (cs : List Changed) → AllByRecursion (IsRightIn st) cs → AllByRecursion (MayBeCommitted rows) (with_numbers cs)
  may_commit cs all =
      all_to_map (λ (c : Changed). (c.0.0, c.1)) (MayBeCommitted rows) cs
      (all_weaker (IsRightIn st) (λ c. MayBeCommitted rows (c.0.0, c.1)) (λ c is. (c.0.1.name, number_in c is, (may_be rows 0 c.0.1.name c.0.1.kind c.1 (above_in c is) (kind_in c is) is.right).1)) cs all)

  -- each is of records, and may be logged
  pub may_log : (cs : List Changed) → AllByRecursion (IsRightIn st) cs → AllByRecursion (λ c. IsRecordChange c × MayBeLogged rows last_db c) (with_names cs)
  may_log cs all =
      all_to_map (λ (c : Changed). change_in c.0.1.name c.1) (λ (c : Change). IsRecordChange c × MayBeLogged rows last_db c) cs
      (all_weaker (IsRightIn st) (λ c. IsRecordChange (change_in c.0.1.name c.1) × MayBeLogged rows last_db (change_in c.0.1.name c.1))
      (λ c is. may_be rows last_db c.0.1.name c.0.1.kind c.1 (above_in c is) (kind_in c is) is.right) cs all)

  row_logged : (txn : ℕ) (c : Changed) → IsRightIn st c → row_by txn (tree_of (c.0.0, c.1)) ∷ [] ≡ row_changes txn last_db (change_in c.0.1.name c.1) rows
  row_logged txn c is = by_change c.1
    where
      by_change : (r : RecordChange) → row_by txn (tree_of (c.0.0, r)) ∷ [] ≡ row_changes txn last_db (change_in c.0.1.name r) rows
      by_change (Set at value) = ap (λ (n : ℕ). let r : RowChange = record { txn = txn; db = n; name = at; value = Some value } in r ∷ []) (sym (number_in c is))
      by_change (Unset at) = ap (λ (n : ℕ). let r : RowChange = record { txn = txn; db = n; name = at; value = None } in r ∷ []) (sym (number_in c is))

  rows_logged : (txn : ℕ) (cs : List Changed) → AllByRecursion (IsRightIn st) cs →
      map (row_by txn) (map tree_of (with_numbers cs)) ≡ flat_map (λ c. row_changes txn last_db c rows) (with_names cs)
  rows_logged txn [] all = refl
  rows_logged txn (c ∷ cs) all = ap₂ (λ (a b : List RowChange). a ++ b) (row_logged txn c all.0) (rows_logged txn cs all.1)

  -- what is logged of them
  pub rows_are : (txn : ℕ) (cs : List Changed) → AllByRecursion (IsRightIn st) cs → map (row_by txn) (map tree_of (with_numbers cs)) ≡ all_row_changes txn last_db (with_names cs) rows
  rows_are txn cs all = rows_logged txn cs all ∙ sym (records_are_logged txn last_db (with_names cs) rows (may_log cs all))

  -- their databases are there
  pub all_there : (cs : List Changed) → AllByRecursion (IsRightIn st) cs → AllByRecursion (λ (c : TreeChange). has_number (numbers_of rows) c.db ≡ true) (map tree_of (with_numbers cs))
  all_there cs all =
      all_to_map tree_of (λ (c : TreeChange). has_number (numbers_of rows) c.db ≡ true) (with_numbers cs)
      (all_to_map (λ (c : Changed). (c.0.0, c.1)) (λ (c : OwnChange). has_number (numbers_of rows) c.0 ≡ true) cs
      (all_weaker (IsRightIn st) (λ c. has_number (numbers_of rows) c.0.0 ≡ true)
      (λ c is. ap (has_number (numbers_of rows)) (sym (number_in c is)) ∙ number_there rows c.0.1.name (above_in c is)) cs all))

  -- and each makes an entry, where numbers have their width
  entry_fits : (txn : TxnId) (number : ℕ) (c : RecordChange) → txn.0 < 2 ^ 64 → number < 2 ^ 32 → FitsEntry c → IsEntry (entry_for txn (tree_of (number, c)).db (tree_of (number, c)).name (tree_of (number, c)).value)
  entry_fits txn number (Set at value) low few fits = (low, few, fits.0, fits.1)
  entry_fits txn number (Unset at) low few fits = (low, few, fits)

  number_few : (c : Changed) → IsRightIn st c → last_db < 2 ^ 32 → c.0.0 < 2 ^ 32
  number_few c is few =
      let within = number-within rows last_db c.0.1.name
      (record { environment = environment_parts rows makes.environment; primaries = primaries_in rows makes.environment; rising = makes.rising; unused = makes.unused; numbers = all_of_map number_of_row (λ n. n ≤ last_db) (rows 0) makes.numbers }) (above_in c is) in
      let number = number_in c is in
      omega (arith, within, number, few)

  pub entries_are : (txn : TxnId) (cs : List Changed) → txn.0 < 2 ^ 64 → last_db < 2 ^ 32 → AllByRecursion (IsRightIn st) cs → AllByRecursion (λ c. FitsEntry c.1) cs →
      AllByRecursion (λ (c : TreeChange). IsEntry (entry_for txn c.db c.name c.value)) (map tree_of (with_numbers cs))
  entries_are txn [] low few all fits = tt
  entries_are txn (c ∷ cs) low few all fits = (entry_fits txn c.0.0 c.1 low (number_few c all.0 few) fits.0, entries_are txn cs low few all.1 fits.1)

-- none makes a database
pub makes_none : (d : ℕ) (own : List OwnChange) → is_made d (map tree_of own) ≡ false
makes_none d [] = refl
makes_none d (c ∷ own) = makes_none d own

-- ---- how many records they leave

pub count_cons : {X : Type 0} (p : X → Bool) (x : X) (xs : List X) → count_by p (x ∷ xs) ≡ cond (p x) 1 0 + count_by p xs
count_cons {X} p x xs = sym (length-filter p (x ∷ xs)) ∙ by (p x)
  where
    by : (b : Bool) → length (cond b (x ∷ filter p xs) (filter p xs)) ≡ cond b 1 0 + count_by p xs
    by true = let rest = length-filter p xs in omega (arith, rest)
    by false = let rest = length-filter p xs in omega (arith, rest)

one_counted : (o : Option (List ℕ)) → cond (is_some o) 1 0 ≡ one_if o
one_counted None = refl
one_counted (Some v) = refl

-- a change of another name leaves a name's data
apart_stays : (c e : OwnChange) (rows : Rows) → ((c.0 == e.0) && is_eq (name_cmp (changed_name c.1) (changed_name e.1))) ≡ false →
    data_at (changed_name e.1) (rows_own (c ∷ []) rows e.0) ≡ data_at (changed_name e.1) (rows e.0)
apart_stays c e rows other = data_last (c ∷ []) rows e.0 (changed_name e.1) ∙ ap (λ (l : Option RecordChange). value_by l (data_at (changed_name e.1) (rows e.0))) none
  where
    none : last_own e.0 (changed_name e.1) (c ∷ []) ≡ None
    none = none-is_last e.0 (changed_name e.1) (c ∷ [])
        (ap (λ (b : Bool). (c.0 == e.0) && b) (eq_turned (changed_name c.1) (changed_name e.1) (is_eq (name_cmp (changed_name c.1) (changed_name e.1))) refl) ∙ other, tt)

pub had_counted : (own : List OwnChange) (rows : Rows) → AreApartIn own → count_by (has_data rows) (map tree_of own) ≡ records_had own rows
had_counted [] rows apart = refl
had_counted (c ∷ own) rows apart =
    let rest = had_counted own rows apart.1 in
    let same = had_stay rows (rows_own (c ∷ []) rows) own
    (all_weaker (λ (e : OwnChange). ((c.0 == e.0) && is_eq (name_cmp (changed_name c.1) (changed_name e.1))) ≡ false)
    (λ e. data_at (changed_name e.1) (rows_own (c ∷ []) rows e.0) ≡ data_at (changed_name e.1) (rows e.0)) (λ e other. apart_stays c e rows other) own apart.0) in
    let first = one_counted (data_at (changed_name c.1) (rows c.0)) in
    let cons = count_cons (has_data rows) (tree_of c) (map tree_of own) in
    omega (arith, rest, same, first, cons)

pub sets_counted : (own : List OwnChange) → count_by sets_data (map tree_of own) ≡ records_set own
sets_counted [] = refl
sets_counted (c ∷ own) =
    let rest = sets_counted own in
    let first = one_counted (row_of c).value in
    let cons = count_cons sets_data (tree_of c) (map tree_of own) in
    omega (arith, rest, first, cons)

-- those so far and those that are left are all, and where of those that are left few names are new, so are few of all
abbrev pub Counts : Rows → ℕ → List TreeChange → List TreeChange → Type 0
Counts rows n left all = (n + count_by (has_data rows) left ≡ count_by (has_data rows) all) × (HaveFewNew rows left → HaveFewNew rows all)

every : (P : TreeChange → Type 0) (cs : List TreeChange) → ((e : TreeChange) → P e) → AllByRecursion P cs
every P [] each = tt
every P (e ∷ cs) each = (each e, every P cs each)

pub counts_there : (rows : Rows) (n : ℕ) (c : TreeChange) (later left all : List TreeChange) → left ≡ c ∷ later → has_data rows c ≡ true → Counts rows n left all → Counts rows (n + 1) later all
counts_there rows n c later left all is here counts =
    let now : Counts rows n (c ∷ later) all = subst (λ (l : List TreeChange). Counts rows n l all) is counts in
    let sum = now.0 in
    let cons = count_cons (has_data rows) c later in
    let one : ◌≡◌ {A = ℕ} (cond (has_data rows c) 1 0) 1 = ap {B = ℕ} (λ (b : Bool). cond b 1 0) here in
    (omega (arith, sum, cons, one), λ few. now.1 (every _ later (λ e same. inl here), few))

pub counts_new : (rows : Rows) (n : ℕ) (c : TreeChange) (later left all : List TreeChange) → left ≡ c ∷ later → has_data rows c ≡ false → AllByRecursion (λ e. c.db ≡ e.db → has_data rows e ≡ true) later →
    Counts rows n left all → Counts rows n later all
counts_new rows n c later left all is new there counts =
    let now : Counts rows n (c ∷ later) all = subst (λ (l : List TreeChange). Counts rows n l all) is counts in
    let sum = now.0 in
    let cons = count_cons (has_data rows) c later in
    let none : ◌≡◌ {A = ℕ} (cond (has_data rows c) 1 0) 0 = ap {B = ℕ} (λ (b : Bool). cond b 1 0) new in
    (omega (arith, sum, cons, none), λ few. now.1 (all_weaker (λ (e : TreeChange). c.db ≡ e.db → has_data rows e ≡ true) _ (λ e here same. inr (here same)) later there, few))
