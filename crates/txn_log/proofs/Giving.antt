-- A log that gives records while transactions are under way, as it was and longer.
use Rattle.std.proofs.Common.{◌≡◌, ℕ, ◌<◌, ◌≤◌, ◌==◌, ◌⊎◌, inl, inr, Bool, true, false, List, [], ◌∷◌, ◌++◌, Option, map, refl, sym, ap, subst, ◌∙◌, arith, append_assoc, ⊎_elim}
use Rattle.std.specs.Prelude.{◌≢◌, ◌&&◌, not}
use Rattle.std.proofs.lemmas.Bool.{true≢false, eqb-true, eq-eqb, ne_eqb, cases_Bool, cond-true, cond-false}
use Rattle.std.proofs.lemmas.List.{append-nil}
use mathlib.Core.Path.{fun_ext}
use Rattle.je_order.specs.declared.name.Name.{Name}
use Rattle.je_order.specs.declared.txn_id.TxnId.{TxnId}
use Rattle.je_answers.specs.Standing.{with_at}
use Rattle.log_entry.specs.declared.entry.Entry.TheVariants.{Commit}
use Rattle.log_file.specs.Log.{Log}
use Rattle.log_buffer.specs.declared.log_pos.LogPos.{LogPos}
use Rattle.log_buffer.specs.Flip.{pos_lsn}
use Rattle.log_replay.specs.Rows.{Rows, data_at, numbers_of}
use Rattle.log_replay.proofs.ListLaws.{all_both}
use Rattle.log_trees.specs.Placed.{Placed, placed}
use Rattle.log_trees.specs.Changes.{LoggedChange, last_of}
use Rattle.record_tree.specs.declared.tree_change.TreeChange.{TreeChange}
use Rattle.record_tree.specs.Logged.{last_change, value_changed}
use Rattle.log_meaning.specs.Redo.{emptied}
use Rattle.log_meaning.specs.Stands.{Stands}
use Rattle.log_meaning.specs.Transactions.{AppendsChanges, AreListed, ChangesWait, RiseBehind, last_lsn, waiting}
use Rattle.log_meaning.proofs.Appending.{EndsInCommit, are_own, changes_stand, ends_in_commit, rise_parts}
use Rattle.log_meaning.proofs.Standing.{stands_commit, stands_fewer}
use Rattle.txn_log.specs.Own.{OwnChange, is_live, own_by, own_of, tree_of}
use Rattle.txn_log.specs.Gives.{GivesRecordsWith, GivesSame, StillGives}
use Rattle.txn_log.specs.Growth.{AddsChanges, AddsTransaction, ChangesGive, HasOwn, TransactionGives, own_with}
use Rattle.txn_log.specs.Leaves.{LeavesRecords}
use Rattle.txn_log.proofs.OwnLaws.{are_free, last_change-append, last_own_is, live_active, live_later, live_parts, own_waits}

abbrev Flags : Type 0
Flags = ℕ → Bool

abbrev Owns : Type 0
Owns = ℕ → List OwnChange

abbrev Logged : Type 0
Logged = ℕ → List LoggedChange

-- ---- the log as it was

unfoldable pub still_gives : StillGives
still_gives log end rows last later last_db is_active still own still_own gives le are = record {
  base = gives.base;
  next = gives.next;
  is_open = gives.is_open;
  logged = gives.logged;
  stands = stands_fewer (placed log) gives.base gives.next gives.is_open gives.is_open (λ d x. data_at x (rows d)) (is_live last is_active) (is_live later still) gives.logged gives.stands
      (λ d open_. open_) (λ t live. ⊎_elim (λ (above : later < t). live_later last t is_active (omega (arith, above, le))) (λ (active : still t ≡ true). was_live t (are t active)) (live_parts later t still live));
  own_is = λ t active. own_still t (are t active);
  none = λ t above. gives.none t (omega (arith, above, le));
  below = gives.below;
  listed = gives.listed;
  later = gives.later;
  unused = gives.unused;
  numbers = gives.numbers;
} where
  was_live : (t : ℕ) → ((is_active t ≡ true) × (still_own t ≡ own t)) ⊎ ((last < t) × (still_own t ≡ [])) → is_live last is_active t ≡ true
  was_live t (inl was) = live_active last t is_active was.0
  was_live t (inr new) = live_later last t is_active new.0

  own_still : (t : ℕ) → ((is_active t ≡ true) × (still_own t ≡ own t)) ⊎ ((last < t) × (still_own t ≡ [])) → map own_by (gives.logged t) ≡ still_own t
  own_still t (inl was) = gives.own_is t was.0 ∙ sym was.1
  own_still t (inr new) = ap (λ (l : List LoggedChange). map own_by l) (gives.none t new.0) ∙ sym new.1

pub gives_same : GivesSame
gives_same log end same_end rows same_rows last_txn last_db is_active own gives ends same =
    let rows_are : rows ≡ same_rows = sym (fun_ext same) in
    subst (λ (r : Rows). GivesRecordsWith log same_end r last_txn last_db is_active own) rows_are
    (subst (λ (e : LogPos). GivesRecordsWith log e rows last_txn last_db is_active own) (sym ends) gives)

-- ---- changes of a transaction

-- what the entries of changes are to what waits
pub adds : (log : Log) (end : LogPos) (rows : Rows) (last_txn last_db : ℕ) (is_active : Flags) (own : Owns) (t : TxnId) (changes : List TreeChange) (more : List Placed) →
    (gives : GivesRecordsWith log end rows last_txn last_db is_active own) → AddsChanges gives.next last_txn is_active own t changes more →
    AppendsChanges gives.next (is_live last_txn is_active) gives.logged t changes more
adds log end rows last_txn last_db is_active own t changes more gives a = record {
  live = live_active last_txn t.0 is_active a.active;
  free = are_free last_txn is_active own gives.logged t changes gives.own_is gives.none a.free;
  logs = a.logs;
  rise = a.rise;
}

-- a function with another value at one number
pub at_same : {X : Type 0} (n : ℕ) (x : X) (f : ℕ → X) → x ≡ with_at n x f n
at_same n x f = sym (cond-true (n == n) x (f n) (eq-eqb n n refl))

pub at_other : {X : Type 0} (n : ℕ) (x : X) (f : ℕ → X) (m : ℕ) → m ≢ n → f m ≡ with_at n x f m
at_other n x f m other = sym (cond-false (m == n) x (f m) (ne_eqb m n other))

pub by_same : (t u : ℕ) (Q : Type 0) → (t ≡ u → Q) → (u ≢ t → Q) → Q
by_same t u Q same other = by_test (t == u) refl
  where
    by_test : (b : Bool) → (t == u) ≡ b → Q
    by_test true is = same (eqb-true t u is)
    by_test false is = other (λ e. true≢false (sym (eq-eqb t u (sym e)) ∙ is))

unfoldable pub changes_give : ChangesGive
changes_give log end rows last_txn last_db is_active own t changes more long long_end gives a placed_is below = record {
  base = gives.base;
  next = last_lsn gives.next more;
  is_open = gives.is_open;
  logged = waiting more gives.logged;
  stands = subst (λ (l : List Placed). Stands l gives.base (last_lsn gives.next more) gives.is_open (λ d x. data_at x (rows d)) (is_live last_txn is_active) (waiting more gives.logged)) (sym placed_is)
      (wait.fronts more [] (append-nil more));
  own_is = λ u active. by_same t.0 u (map own_by (waiting more gives.logged u) ≡ own_with t.0 changes own u) (λ same. own_here u same) (λ other. own_there u active other);
  none = λ u above. wait.others u (not_it u above) ∙ gives.none u above;
  below = below;
  listed = gives.listed;
  later = gives.later;
  unused = gives.unused;
  numbers = gives.numbers;
} where
  appends : AppendsChanges gives.next (is_live last_txn is_active) gives.logged t changes more
  appends = adds log end rows last_txn last_db is_active own t changes more gives a

  wait : ChangesWait (placed log) gives.base gives.next gives.is_open (λ d x. data_at x (rows d)) (is_live last_txn is_active) gives.logged t changes more
  wait = changes_stand (placed log) gives.base gives.next gives.is_open (λ d x. data_at x (rows d)) (is_live last_txn is_active) gives.logged t changes more gives.stands appends

  own_here : (u : ℕ) → t.0 ≡ u → map own_by (waiting more gives.logged u) ≡ own_with t.0 changes own u
  own_here u same = subst (λ (v : ℕ). map own_by (waiting more gives.logged v) ≡ own_with t.0 changes own v) same
      (own_waits (is_live last_txn is_active) gives.logged t changes more gives.logged (are_own (is_live last_txn is_active) gives.logged t changes more appends.free appends.logs) appends.logs
      ∙ ap (λ (l : List OwnChange). l ++ map own_of changes) (gives.own_is t.0 a.active)
      ∙ at_same t.0 (own t.0 ++ map own_of changes) own)

  own_there : (u : ℕ) → is_active u ≡ true → u ≢ t.0 → map own_by (waiting more gives.logged u) ≡ own_with t.0 changes own u
  own_there u active other =
      ap (λ (l : List LoggedChange). map own_by l) (wait.others u other) ∙ gives.own_is u active ∙ at_other t.0 (own t.0 ++ map own_of changes) own u other

  not_it : (u : ℕ) → last_txn < u → u ≢ t.0
  not_it u above e = let low = a.drawn in omega (arith, above, low, e)

-- ---- a commit

pub last-push : (next : ℕ) (a : List Placed) (p : Placed) → last_lsn next (a ++ p ∷ []) ≡ p.0
last-push next [] p = refl
last-push next (q ∷ a) p = last-push q.0 a p

-- the catalog, its databases and later numbers, but for the databases that go
abbrev pub open_after : Flags → Flags → Flags
open_after goes is_open d = is_open d && not (goes d)

pub open_parts : (goes is_open : Flags) (d : ℕ) → open_after goes is_open d ≡ true → (is_open d ≡ true) × (goes d ≡ false)
open_parts goes is_open d open_ = by_test (is_open d) (goes d) open_
  where
    by_test : (a b : Bool) → (a && not b) ≡ true → (a ≡ true) × (b ≡ false)
    by_test true false is = (refl, refl)
    by_test true true is = absurd (true≢false (sym is))
    by_test false b is = absurd (true≢false (sym is))

pub open_from : (goes is_open : Flags) (d : ℕ) → is_open d ≡ true → goes d ≡ false → open_after goes is_open d ≡ true
open_from goes is_open d open_ stays = by_test (is_open d) (goes d) open_ stays
  where
    by_test : (a b : Bool) → a ≡ true → b ≡ false → (a && not b) ≡ true
    by_test true false is not_ = refl
    by_test true true is not_ = absurd (true≢false not_)
    by_test false b is not_ = absurd (true≢false (sym is))

-- a database with a later number stays
pub later_stays : (goes : Flags) (last_db d : ℕ) → ((e : ℕ) → goes e ≡ true → e ≤ last_db) → last_db < d → goes d ≡ false
later_stays goes last_db d within above =
    ⊎_elim (λ (is : goes d ≡ true). let low = within d is in absurd (omega (arith, low, above))) (λ (is : goes d ≡ false). is) (cases_Bool (goes d))

pub listed_after : (rows after : Rows) (last_db later_db : ℕ) (goes is_open : Flags) (changes : List TreeChange) → LeavesRecords rows after last_db later_db goes changes →
    ((d : ℕ) → last_db < d → is_open d ≡ true) → AreListed is_open (λ d x. data_at x (rows d)) rows → AreListed (open_after goes is_open) (λ d x. data_at x (after d)) after
listed_after rows after last_db later_db goes is_open changes leaves later listed = record {
  rising = leaves.rising;
  data_is = λ d x open_. refl;
  catalog = open_from goes is_open 0 listed.catalog leaves.zero_stays;
  named = all_both (λ n. goes n ≡ false) (λ n. is_open n ≡ true) (λ n. open_after goes is_open n ≡ true) (λ n stays open_. open_from goes is_open n open_ stays) (numbers_of after)
      leaves.unnamed (leaves.named is_open later listed.named);
  environment = leaves.environment;
}

-- what a transaction's entries are to a log that gives records
module _ (log : Log) (end : LogPos) (rows after : Rows) (last_txn last_db later_db : ℕ) (is_active : Flags) (own : Owns) (goes : Flags) (t : TxnId) (had : List OwnChange)
    (changes : List TreeChange) (more : List Placed) (gives : GivesRecordsWith log end rows last_txn last_db is_active own)
    (a : AddsTransaction gives.next last_txn is_active own rows after last_db later_db goes t had changes more) where
  pub ended : EndsInCommit t changes more
  ended = ends_in_commit t changes more a.logs

  pub up : RiseBehind gives.next ended.own × RiseBehind (last_lsn gives.next ended.own) ((ended.at, Commit t) ∷ [])
  up = rise_parts gives.next ended.own ((ended.at, Commit t) ∷ []) (subst (RiseBehind gives.next) ended.is a.rise)

  own_parts : HasOwn last_txn is_active own t.0 had → (is_live last_txn is_active t.0 ≡ true) × (map own_by (gives.logged t.0) ≡ had)
  own_parts (inl active) = (live_active last_txn t.0 is_active active.0, gives.own_is t.0 active.0 ∙ active.1)
  own_parts (inr new) = (live_later last_txn t.0 is_active new.0, ap (λ (l : List LoggedChange). map own_by l) (gives.none t.0 new.0) ∙ sym new.1)

  pub live : is_live last_txn is_active t.0 ≡ true
  live = (own_parts a.has).0

  pub appends : AppendsChanges gives.next (is_live last_txn is_active) gives.logged t changes ended.own
  appends = record {
    live = live;
    free = are_free last_txn is_active own gives.logged t changes gives.own_is gives.none a.free;
    logs = ended.logs;
    rise = up.0;
  }

  pub wait : ChangesWait (placed log) gives.base gives.next gives.is_open (λ d x. data_at x (rows d)) (is_live last_txn is_active) gives.logged t changes ended.own
  wait = changes_stand (placed log) gives.base gives.next gives.is_open (λ d x. data_at x (rows d)) (is_live last_txn is_active) gives.logged t changes ended.own gives.stands appends

  pub before : Stands (placed log ++ ended.own) gives.base (last_lsn gives.next ended.own) gives.is_open (λ d x. data_at x (rows d)) (is_live last_txn is_active) (waiting ended.own gives.logged)
  before = wait.fronts ended.own [] (append-nil ended.own)

  pub smaller : (d : ℕ) → open_after goes gives.is_open d ≡ true → gives.is_open d ≡ true
  smaller d open_ = (open_parts goes gives.is_open d open_).0

  pub after_is : (d : ℕ) (x : Name) → open_after goes gives.is_open d ≡ true →
      data_at x (after d) ≡ (last_of d x (waiting ended.own gives.logged t.0) (record { at = 0; value = data_at x (rows d) })).value
  after_is d x open_ =
      let v : Option (List ℕ) = data_at x (rows d) in
      a.leaves.data_is d x (open_parts goes gives.is_open d open_).1
      ∙ last_change-append d x (map tree_of had) changes v
      ∙ ap (value_changed (last_change d x changes)) (sym (last_own_is d x (gives.logged t.0) had (record { at = 0; value = v }) (own_parts a.has).1))
      ∙ sym (wait.own d x (record { at = 0; value = v }))

  pub listed : AreListed (open_after goes gives.is_open) (λ d x. data_at x (after d)) after
  listed = listed_after rows after last_db later_db goes gives.is_open (map tree_of had ++ changes) a.leaves gives.later gives.listed

  pub committed : Stands ((placed log ++ ended.own) ++ (ended.at, Commit t) ∷ []) gives.base ended.at (open_after goes gives.is_open) (λ d x. data_at x (after d)) (is_live last_txn is_active)
      (emptied t.0 (waiting ended.own gives.logged))
  committed = stands_commit (placed log ++ ended.own) gives.base (last_lsn gives.next ended.own) ended.at gives.is_open (open_after goes gives.is_open) (λ d x. data_at x (rows d))
      (λ d x. data_at x (after d)) (is_live last_txn is_active) (waiting ended.own gives.logged) t before up.1.0.0 live smaller after_is

  pub emptied_is : (u : ℕ) → t.0 ≡ u → emptied t.0 (waiting ended.own gives.logged) u ≡ []
  emptied_is u same = cond-true (t.0 == u) [] (waiting ended.own gives.logged u) (eq-eqb t.0 u same)

  pub emptied_not : (u : ℕ) → u ≢ t.0 → emptied t.0 (waiting ended.own gives.logged) u ≡ gives.logged u
  emptied_not u other = cond-false (t.0 == u) [] (waiting ended.own gives.logged u) (ne_eqb t.0 u (λ e. other (sym e))) ∙ wait.others u other

  unfoldable pub transaction_on : (long : Log) (long_end : LogPos) → placed long ≡ placed log ++ more → last_lsn gives.next more < pos_lsn long_end →
      GivesRecordsWith long long_end after last_txn later_db is_active (with_at t.0 [] own)
  transaction_on long long_end placed_is below =
      let is_open : Flags = open_after goes gives.is_open in
      let last : last_lsn gives.next more ≡ ended.at = ap (last_lsn gives.next) ended.is ∙ last-push gives.next ended.own (ended.at, Commit t) in
      let logged : Logged = emptied t.0 (waiting ended.own gives.logged) in
      record {
        base = gives.base;
        next = ended.at;
        is_open = is_open;
        logged = logged;
        stands = subst (λ (l : List Placed). Stands l gives.base ended.at is_open (λ d x. data_at x (after d)) (is_live last_txn is_active) logged)
            (append_assoc (placed log) ended.own ((ended.at, Commit t) ∷ []) ∙ sym (placed_is ∙ ap (λ (l : List Placed). placed log ++ l) ended.is)) committed;
        own_is = λ u active. by_same t.0 u (map own_by (logged u) ≡ with_at t.0 [] own u)
            (λ same. ap (λ (l : List LoggedChange). map own_by l) (emptied_is u same) ∙ subst (λ (v : ℕ). [] ≡ with_at t.0 [] own v) same (at_same t.0 [] own))
            (λ other. ap (λ (l : List LoggedChange). map own_by l) (emptied_not u other) ∙ gives.own_is u active ∙ at_other t.0 [] own u other);
        none = λ u above. by_same t.0 u (logged u ≡ []) (λ same. emptied_is u same) (λ other. emptied_not u other ∙ gives.none u above);
        below = subst (λ (n : ℕ). n < pos_lsn long_end) last below;
        listed = listed;
        later = λ d above. let grows = a.leaves.grows in
            open_from goes gives.is_open d (gives.later d (omega (arith, above, grows))) (later_stays goes last_db d a.leaves.within (omega (arith, above, grows)));
        unused = a.leaves.unused;
        numbers = a.leaves.numbers;
      }

unfoldable pub transaction_gives : TransactionGives
transaction_gives log end rows after last_txn last_db later_db is_active own goes t had changes more long long_end gives a placed_is below =
    transaction_on log end rows after last_txn last_db later_db is_active own goes t had changes more gives a long long_end placed_is below
