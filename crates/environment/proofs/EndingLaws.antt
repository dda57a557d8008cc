-- Where an environment stands once a transaction has ended without a commit.
use mathlib.Core.Path.{fun_ext}
use Rattle.engine.specs.declared.kept.Kept.{Kept}
use Rattle.std.specs.Prelude.{is_some}
use Rattle.log_trees.specs.Placed.{placed}
use Rattle.txn_log.proofs.AtStandingLaws.{same_under}
use Rattle.std.proofs.Common.{◌≡◌, ◌≢◌, ◌⊎◌, inl, inr, ℕ, zero, suc, ◌+◌, ◌-◌, ◌≤◌, ◌<◌, ◌==◌, Bool, true, false, true≢false, cond, not, ◌||◌, List, [], ◌∷◌, ◌++◌, filter, length, Option, None, Some, refl, ap, sym, ◌∙◌, subst, arith}
use Rattle.std.specs.List.{AllByRecursion, list_any}
use Rattle.std.proofs.lemmas.Bool.{cond-true, cond-false, eqb-true, or_right}
use Rattle.std.proofs.lemmas.Bool.Decides.{eqb_tells}
use Rattle.std.proofs.lemmas.Option.{none-some, same_Some}
use Rattle.je_disk.specs.DiskMeaning.{DiskMeaning}
use Rattle.je_disk.specs.States.{State}
use Rattle.je_disk.specs.Moments.{History, now}
use Rattle.je_lsn.specs.Naming.{last_file}
use Rattle.je_order.specs.Transactions.{is_same_txn}
use Rattle.je_order.specs.declared.txn_id.TxnId.{TxnId}
use Rattle.je_order.proofs.TxnIds.{same_either}
use Rattle.je_order.proofs.Lists.{all_kept}
use Rattle.record_map.specs.Cells.{IsRising, value_at}
use Rattle.record_tree.specs.declared.tree_name.TreeName.{TreeName}
use Rattle.record_tree.specs.Occupied.{Occupied, AllCells, HasChangedAll, after_abort, if_occupied, is_among, value_in}
use Rattle.store_model.specs.declared.record_change.RecordChange.{RecordChange}
use Rattle.je_answers.specs.declared.active.Active.{Active}
use Rattle.store_model.specs.declared.answer.Fault.{Fault}
use Rattle.store_model.specs.declared.event.Event.{Event}
use Rattle.store_model.specs.declared.event.Event.TheVariants.{End}
use Rattle.je_answers.specs.declared.wait.Wait.{Wait}
use Rattle.je_answers.specs.Standing.{LockState, Standing, active_of, with_at, without_wait}
use Rattle.je_answers.specs.After.{after_event, after_events, ended, ended_if_any, without_session}
use Rattle.log_file.specs.Log.{Log}
use Rattle.log_buffer.specs.declared.buffer.LogBuffer.{LogBuffer}
use Rattle.log_buffer.specs.declared.log_pos.LogPos.{LogPos}
use Rattle.log_buffer.specs.Buffer.{IsUnchanged, disk_of, end_of, file_max_of, has_failed}
use Rattle.log_buffer.specs.Flip.{end_after_all, pos_lsn}
use Rattle.log_buffer.specs.Log.{HasLog}
use Rattle.log_buffer.proofs.BufferLog.{log_kept}
use Rattle.log_buffer.proofs.LogPositions.{all_after, appends_join}
use Rattle.log_replay.specs.Rows.{Rows, numbers_of}
use Rattle.log_replay.proofs.LoadedRows.{same_rows}
use Rattle.log_replay.proofs.MapRows.{lookup_is_data, rising_from_keys}
use Rattle.in_tree.specs.Limits.{HasRoomFor, commit_size, commit_sizes}
use Rattle.in_tree.specs.Observed.{cells_of, has_tree_of, waits_of}
use Rattle.txn_core.specs.Known.{committed, has_number}
use Rattle.txn_core.proofs.ReadingLaws.{committed_at, committed_rises}
use Rattle.active_txns.specs.Own.{has_changes}
use Rattle.sessions.specs.declared.all_sessions.Sessions.{Sessions}
use Rattle.sessions.specs.AtStanding.{AreSessionsAt, owing, without_call}
use Rattle.standing_laws.specs.Right.{AreNumbered, HaveOwnWaits, is_active, txn_id}
use Rattle.txn_log.specs.Committing.{MakesStore, MayBeCommitted, records_had}
use Rattle.txn_log.specs.Gives.{AreStillActive, GivesRecordsWith}
use Rattle.txn_log.proofs.Giving.{still_gives}
use Rattle.txn_views.specs.Laws.{own_names}
use Rattle.txn_views.proofs.EndLaws.{ends-leave_writes}
use Rattle.engine.specs.Guarded.{IsGuardedLog}
use Rattle.engine.specs.Limits.{IsWithin}
use Rattle.engine.proofs.GuardLaws.{guarded_quiet}
use Rattle.engine.proofs.GuardedEvents.{guarded_idle}
use Rattle.environment.specs.declared.environment.Environment.{Environment}
use Rattle.environment.specs.declared.written.OwnNames.{OwnNames}
use Rattle.environment.specs.Ending.{HasAbandoned}
use Rattle.environment.specs.Steps.{StandsAt}
use Rattle.environment.specs.Valid.{IsValidWith, active_number, owed_by, fitting, Forest, Lives, KnowsDatabases}
use Rattle.environment.specs.Whole.{reach_of}
use Rattle.environment.specs.Written.{AreNamesOf, had_at, names_at}
use Rattle.environment.proofs.Answering.{owed_is}
use Rattle.environment.proofs.Bases.{lives_same}
use Rattle.environment.proofs.Firsts.{fewer_less}

-- ---- the committed records stay

value_kept : (v : Option (List ℕ)) → value_in (if_occupied (record { value = v; write = None })) ≡ v
value_kept None = refl
value_kept (Some v) = refl

value_aborted : (o : Option Occupied) → value_in (after_abort o) ≡ value_in o
value_aborted None = refl
value_aborted (Some o) = value_kept o.value

still_committed : (old new : AllCells) (names : List TreeName) → ((d : ℕ) → IsRising (old d)) → ((d : ℕ) → IsRising (new d)) → HasChangedAll old new names after_abort → committed new ≡ committed old
still_committed old new names was rising changed = fun_ext (λ d. same_rows (committed new d) (committed old d)
    (rising_from_keys (committed new d) (committed_rises (new d) (rising d))) (rising_from_keys (committed old d) (committed_rises (old d) (was d)))
    (λ x. lookup_is_data x (committed new d) ∙ committed_at x (new d) (rising d) ∙ ap value_in (changed d x) ∙ either (is_among d x names) (value_at x (old d))
    ∙ sym (lookup_is_data x (committed old d) ∙ committed_at x (old d) (was d))))
  where
    either : (b : Bool) (o : Option Occupied) → value_in (cond b (after_abort o) o) ≡ value_in o
    either true o = value_aborted o
    either false o = refl

-- ---- who is still under way

pub any_left : {X : Type 0} (f p : X → Bool) (xs : List X) → list_any f (filter p xs) ≡ true → list_any f xs ≡ true
any_left f p [] h = h
any_left f p (x ∷ xs) h = by (p x) refl (any_left f p xs)
  where
    or_then : (a b c : Bool) → (b ≡ true → c ≡ true) → (a || b) ≡ true → (a || c) ≡ true
    or_then true b c g k = refl
    or_then false b c g k = g k

    by : (t : Bool) → p x ≡ t → (list_any f (filter p xs) ≡ true → list_any f xs ≡ true) → (f x || list_any f xs) ≡ true
    by true e rest = or_then (f x) (list_any f (filter p xs)) (list_any f xs) rest (sym (ap (λ (l : List _). list_any f l) (cond-true (p x) (x ∷ filter p xs) (filter p xs) e)) ∙ h)
    by false e rest = or_right (f x) (list_any f xs) (rest (sym (ap (λ (l : List _). list_any f l) (cond-false (p x) (x ∷ filter p xs) (filter p xs) e)) ∙ h))

-- of numbers that rise, a number is among those behind another one only if it is greater
greater : (n m : ℕ) (actives : List Active) → AllByRecursion (λ b. n < b.txn.0) actives → is_active (txn_id m) actives ≡ true → n < m
greater n m [] all h = absurd cc
greater n m (b ∷ actives) all h = by (eqb_tells m b.txn.0) (greater n m actives all.1)
  where
    by : ((m == b.txn.0) ≡ true) × (m ≡ b.txn.0) ⊎ ((m == b.txn.0) ≡ false) × (m ≢ b.txn.0) → (is_active (txn_id m) actives ≡ true → n < m) → n < m
    by (inl same) rest = let less = all.0 in let is = same.1 in omega (arith, less, is)
    by (inr other) rest = rest (sym (ap (λ (t : Bool). t || is_active (txn_id m) actives) other.0) ∙ h)

found_greater : (n session : ℕ) (a : Active) (actives : List Active) → AllByRecursion (λ b. n < b.txn.0) actives → active_of session actives ≡ Some a → n < a.txn.0
found_greater n session a [] all is = absurd (none-some a is)
found_greater n session a (b ∷ actives) all is = by (b.session == session) refl (found_greater n session a actives all.1)
  where
    by : (t : Bool) → (b.session == session) ≡ t → (active_of session actives ≡ Some a → n < a.txn.0) → n < a.txn.0
    by true e rest = subst (λ (x : Active). n < x.txn.0) (same_Some b a (sym (cond-true (b.session == session) (Some b) (active_of session actives) e) ∙ is)) all.0
    by false e rest = rest (sym (cond-false (b.session == session) (Some b) (active_of session actives) e) ∙ is)

-- a number that is still under way without a session is not that of its transaction
apart : (last session : ℕ) (a : Active) (t : ℕ) (actives : List Active) → AreNumbered last actives → active_of session actives ≡ Some a → is_active (txn_id t) (without_session session actives) ≡ true → t ≢ a.txn.0
apart last session a t [] numbers is h = absurd (none-some a is)
apart last session a t (b ∷ actives) numbers is h = by (b.session == session) refl (apart last session a t actives numbers.2)
  where
    keeps : Active → Bool
    keeps c = not (c.session == session)

    left : List Active
    left = without_session session actives

    by : (k : Bool) → (b.session == session) ≡ k → (active_of session actives ≡ Some a → is_active (txn_id t) left ≡ true → t ≢ a.txn.0) → t ≢ a.txn.0
    by true e rest same =
        let own : b ≡ a = same_Some b a (sym (cond-true (b.session == session) (Some b) (active_of session actives) e) ∙ is) in
        let more : is_active (txn_id t) left ≡ true = sym (ap (λ (x : Bool). is_active (txn_id t) (cond (not x) (b ∷ left) left)) e) ∙ h in
        let less = greater b.txn.0 t actives numbers.1 (any_left (λ c. is_same_txn (txn_id t) c.txn) keeps actives more) in
        let is_same = ap (λ (x : Active). x.txn.0) own in
        absurd (omega (arith, less, is_same, same))
    by false e rest same = by_first (eqb_tells t b.txn.0)
      where
        later : active_of session actives ≡ Some a
        later = sym (cond-false (b.session == session) (Some b) (active_of session actives) e) ∙ is

        more : (is_same_txn (txn_id t) b.txn || is_active (txn_id t) left) ≡ true
        more = sym (ap (λ (x : Bool). is_active (txn_id t) (cond (not x) (b ∷ left) left)) e) ∙ h

        by_first : ((t == b.txn.0) ≡ true) × (t ≡ b.txn.0) ⊎ ((t == b.txn.0) ≡ false) × (t ≢ b.txn.0) → ⊥
        by_first (inl own) = let less = found_greater b.txn.0 session a actives numbers.1 later in let is_b = own.1 in absurd (omega (arith, less, is_b, same))
        by_first (inr other) = rest later (sym (ap (λ (x : Bool). x || is_active (txn_id t) left) other.0) ∙ more) same

-- the transaction that ended has no own changes, and each other one has those that it had
own_there : (t u : ℕ) (own : ℕ → List (ℕ × RecordChange)) → (u ≢ t) → with_at t [] own u ≡ own u
own_there t u own other = by (eqb_tells u t)
  where
    by : ((u == t) ≡ true) × (u ≡ t) ⊎ ((u == t) ≡ false) × (u ≢ t) → with_at t [] own u ≡ own u
    by (inl same) = absurd (other same.1)
    by (inr k) = ap (λ (b : Bool). cond b [] (own u)) k.0

pub found_session : (session : ℕ) (a : Active) (actives : List Active) → active_of session actives ≡ Some a → a.session ≡ session
found_session session a [] is = absurd (none-some a is)
found_session session a (b ∷ actives) is = by (b.session == session) refl (found_session session a actives)
  where
    by : (t : Bool) → (b.session == session) ≡ t → (active_of session actives ≡ Some a → a.session ≡ session) → a.session ≡ session
    by true e rest = ap (λ (x : Active). x.session) (sym (same_Some b a (sym (cond-true (b.session == session) (Some b) (active_of session actives) e) ∙ is))) ∙ eqb-true b.session session e
    by false e rest = rest (sym (cond-false (b.session == session) (Some b) (active_of session actives) e) ∙ is)

still_active : (st : Standing) (a : Active) → AreNumbered st.last_txn st.actives → active_of a.session st.actives ≡ Some a →
    AreStillActive st.last_txn (active_number st.actives) st.own (active_number (ended a st).actives) (ended a st).own
still_active st a numbers is t still = inl (
  any_left (λ c. is_same_txn (txn_id t) c.txn) (λ (c : Active). not (c.session == a.session)) st.actives still,
  own_there a.txn.0 t st.own (apart st.last_txn a.session a t st.actives numbers is still),
)

-- ---- what is owed

pub fewer_pass : {X : Type 0} (p q : X → Bool) (xs : List X) → ((x : X) → p x ≡ true → q x ≡ true) → length (filter p xs) ≤ length (filter q xs)
fewer_pass p q [] implies = omega arith
fewer_pass p q (x ∷ xs) implies = by (p x) refl (q x) refl (fewer_pass p q xs implies)
  where
    by : (b : Bool) → p x ≡ b → (c : Bool) → q x ≡ c → length (filter p xs) ≤ length (filter q xs) → length (filter p (x ∷ xs)) ≤ length (filter q (x ∷ xs))
    by true e true f rest = let k = ap length (cond-true (p x) (x ∷ filter p xs) (filter p xs) e) in let l = ap length (cond-true (q x) (x ∷ filter q xs) (filter q xs) f) in omega (arith, k, l, rest)
    by true e false f rest = absurd (true≢false (sym (implies x e) ∙ f))
    by false e true f rest = let k = ap length (cond-false (p x) (x ∷ filter p xs) (filter p xs) e) in let l = ap length (cond-true (q x) (x ∷ filter q xs) (filter q xs) f) in omega (arith, k, l, rest)
    by false e false f rest = let k = ap length (cond-false (p x) (x ∷ filter p xs) (filter p xs) e) in let l = ap length (cond-false (q x) (x ∷ filter q xs) (filter q xs) f) in omega (arith, k, l, rest)

pub fewer_of : {X : Type 0} (p q : X → Bool) (xs : List X) → length (filter p (filter q xs)) ≤ length (filter p xs)
fewer_of p q [] = omega arith
fewer_of p q (x ∷ xs) = by (q x) refl (p x) refl (fewer_of p q xs)
  where
    by : (b : Bool) → q x ≡ b → (c : Bool) → p x ≡ c → length (filter p (filter q xs)) ≤ length (filter p xs) → length (filter p (filter q (x ∷ xs))) ≤ length (filter p (x ∷ xs))
    by true e true f rest =
        let k = ap (λ (l : List _). length (filter p l)) (cond-true (q x) (x ∷ filter q xs) (filter q xs) e) in let m = ap length (cond-true (p x) (x ∷ filter p (filter q xs)) (filter p (filter q xs)) f) in
        let n = ap length (cond-true (p x) (x ∷ filter p xs) (filter p xs) f) in omega (arith, k, m, n, rest)
    by true e false f rest =
        let k = ap (λ (l : List _). length (filter p l)) (cond-true (q x) (x ∷ filter q xs) (filter q xs) e) in let m = ap length (cond-false (p x) (x ∷ filter p (filter q xs)) (filter p (filter q xs)) f) in
        let n = ap length (cond-false (p x) (x ∷ filter p xs) (filter p xs) f) in omega (arith, k, m, n, rest)
    by false e true f rest =
        let k = ap (λ (l : List _). length (filter p l)) (cond-false (q x) (x ∷ filter q xs) (filter q xs) e) in let n = ap length (cond-true (p x) (x ∷ filter p xs) (filter p xs) f) in omega (arith, k, n, rest)
    by false e false f rest =
        let k = ap (λ (l : List _). length (filter p l)) (cond-false (q x) (x ∷ filter q xs) (filter q xs) e) in let n = ap length (cond-false (p x) (x ∷ filter p xs) (filter p xs) f) in omega (arith, k, n, rest)

pub owing_less : (st : Standing) (a : Active) → owing (ended a st) ≤ owing st
owing_less st a =
    let first = fewer_of now_ (λ (b : Active). not (b.session == a.session)) st.actives in
    let second = fewer_pass now_ before st.actives (λ b. still b) in
    omega (arith, first, second)
  where
    now_ : Active → Bool
    now_ b = has_changes (with_at a.txn.0 [] st.own b.txn.0)

    before : Active → Bool
    before b = has_changes (st.own b.txn.0)

    still : (b : Active) → now_ b ≡ true → before b ≡ true
    still b h = by (b.txn.0 == a.txn.0) refl
      where
        by : (t : Bool) → (b.txn.0 == a.txn.0) ≡ t → before b ≡ true
        by true e = absurd (true≢false (sym h ∙ ap (λ (t : Bool). has_changes (cond t [] (st.own b.txn.0))) e))
        by false e = sym (ap (λ (t : Bool). has_changes (cond t [] (st.own b.txn.0))) e) ∙ h

-- ---- calls that wait, and faults

pub own_waits_left : (p : Wait → Bool) (waiting : List Wait) → HaveOwnWaits waiting → HaveOwnWaits (filter p waiting)
own_waits_left p [] own = tt
own_waits_left p (w ∷ waiting) own = by (p w) refl (own_waits_left p waiting own.1)
  where
    by : (b : Bool) → p w ≡ b → HaveOwnWaits (filter p waiting) → HaveOwnWaits (filter p (w ∷ waiting))
    by true e rest = subst HaveOwnWaits (sym (cond-true (p w) (w ∷ filter p waiting) (filter p waiting) e)) (all_kept (λ v. (v.session == w.session) ≡ false) p waiting own.0, rest)
    by false e rest = subst HaveOwnWaits (sym (cond-false (p w) (w ∷ filter p waiting) (filter p waiting) e)) rest

pub ended_fault : (o : Option Active) (st : Standing) → (ended_if_any o st).fault ≡ st.fault
ended_fault None st = refl
ended_fault (Some a) st = refl

-- room for so many Commits is room for fewer
commits_more : (n : ℕ) → commit_sizes (suc n) ≡ commit_sizes n ++ commit_size ∷ []
commits_more zero = refl
commits_more (suc n) = ap (λ (l : List ℕ). commit_size ∷ l) (commits_more n)

module _ {D : Type 0} where
  room_less : (buffer : LogBuffer D) (n : ℕ) → HasRoomFor buffer (commit_sizes (suc n)) → HasRoomFor buffer (commit_sizes n)
  room_less buffer n room = record {
    works = room.works;
    room = record {
      bytes = let some = room.room.bytes in omega (arith, some);
      files = let some = room.room.files in omega (arith, some);
    };
    files =
        let joins = ap (λ (p : LogPos). p.file) (appends_join (file_max_of buffer) (end_of buffer) (commit_sizes n) (commit_size ∷ [])) in
        let all = ap (λ (l : List ℕ). (end_after_all (file_max_of buffer) (end_of buffer) l).file) (commits_more n) in
        let after = all_after (file_max_of buffer) (end_after_all (file_max_of buffer) (end_of buffer) (commit_sizes n)) (commit_size ∷ []) in
        let within = room.files in
        omega (arith, joins, all, after, within);
  }

  room_down : (buffer : LogBuffer D) (n m more : ℕ) → m ≡ n + more → HasRoomFor buffer (commit_sizes m) → HasRoomFor buffer (commit_sizes n)
  room_down buffer n m zero is room = subst (λ (k : ℕ). HasRoomFor buffer (commit_sizes k)) (omega (arith, is)) room
  room_down buffer n zero (suc more) is room = absurd (omega (arith, is))
  room_down buffer n (suc m) (suc more) is room = room_down buffer n m more (omega (arith, is)) (room_less buffer m room)

  pub room_fewer : (buffer : LogBuffer D) (n m : ℕ) → n ≤ m → HasRoomFor buffer (commit_sizes m) → HasRoomFor buffer (commit_sizes n)
  room_fewer buffer n m few room = room_down buffer n m (m - n) (omega (arith, few)) room

  pub room_unchanged : (old new : LogBuffer D) (sizes : List ℕ) → IsUnchanged old new → HasRoomFor old sizes → HasRoomFor new sizes
  room_unchanged old new sizes same room = record {
    works = same.failed ∙ room.works;
    room = same.kept.room sizes room.room;
    files = subst (λ (m : ℕ). (end_after_all m (end_of new) sizes).file ≤ last_file) (sym same.kept.max)
        (subst (λ (e : LogPos). (end_after_all (file_max_of old) e sizes).file ≤ last_file) (sym same.kept.end) room.files);
  }

  -- ---- where it stands

  module _ (most : ℕ) (meaning : DiskMeaning D) (old new : Environment D) (st : Standing) (a : Active) where
    abbrev rows_old : Rows
    rows_old = committed (cells_of old.engine.trees)

    abbrev rows_new : Rows
    rows_new = committed (cells_of new.engine.trees)

    abbrev state_of : D → State
    state_of d = now (meaning.history d)

    abbrev after_ : Standing
    after_ = ended a st

    rows_same : HasAbandoned old new a.session a.txn → rows_new ≡ rows_old
    rows_same h = still_committed (cells_of old.engine.trees) (cells_of new.engine.trees) (names_at a.txn old.written.by_txn.entries) h.was_rising h.rising h.cells

    may_still : (t : ℕ) → AllByRecursion (MayBeCommitted rows_old) (st.own t) → AllByRecursion (MayBeCommitted rows_old) (after_.own t)
    may_still t may = by (t == a.txn.0)
      where
        by : (b : Bool) → AllByRecursion (MayBeCommitted rows_old) (cond b [] (st.own t))
        by true = tt
        by false = may

    names_still : HasAbandoned old new a.session a.txn → AreNamesOf old.written.by_txn.entries st.own rows_old → AreNamesOf new.written.by_txn.entries after_.own rows_old
    names_still h names = record {
      names = λ t. h.names (txn_id t) ∙ ap (λ (b : Bool). cond b [] (names_at (txn_id t) old.written.by_txn.entries)) (same_either a.txn (txn_id t)) ∙ by_names t (t == a.txn.0);
      had = λ t. h.had (txn_id t) ∙ ap (λ (b : Bool). cond b 0 (had_at (txn_id t) old.written.by_txn.entries)) (same_either a.txn (txn_id t)) ∙ by_had t (t == a.txn.0);
    } where
      by_names : (t : ℕ) (b : Bool) → cond b [] (names_at (txn_id t) old.written.by_txn.entries) ≡ own_names (cond b [] (st.own t))
      by_names t true = refl
      by_names t false = names.names t

      by_had : (t : ℕ) (b : Bool) → cond b 0 (had_at (txn_id t) old.written.by_txn.entries) ≡ records_had (cond b [] (st.own t)) rows_old
      by_had t true = refl
      by_had t false = names.had t

    room_still : IsUnchanged old.engine.trees.log new.engine.trees.log → ((n : ℕ) → owing st ≡ suc n → HasRoomFor old.engine.trees.log (commit_sizes (suc n))) →
        (n : ℕ) → owing after_ ≡ suc n → HasRoomFor new.engine.trees.log (commit_sizes (suc n))
    room_still same room n is = by (owing st) refl
      where
        less : owing after_ ≤ owing st
        less = owing_less st a

        by : (m : ℕ) → owing st ≡ m → HasRoomFor new.engine.trees.log (commit_sizes (suc n))
        by zero e = absurd (omega (arith, less, e, is))
        by (suc m) e =
            room_unchanged old.engine.trees.log new.engine.trees.log (commit_sizes (suc n)) same
            (room_fewer old.engine.trees.log (suc n) (suc m) (omega (arith, less, e, is)) (room m e))

    valid_still : HasAbandoned old new a.session a.txn → AreNumbered st.last_txn st.actives → active_of a.session st.actives ≡ Some a →
        IsValidWith meaning.observable (state_of (disk_of old.engine.trees.log)) old.engine.trees.log (cells_of old.engine.trees) (has_tree_of old.engine.trees) (fitting old.engine.trees) old.engine.kept.since old.written.by_txn.entries st →
        IsValidWith meaning.observable (state_of (disk_of new.engine.trees.log)) new.engine.trees.log (cells_of new.engine.trees) (has_tree_of new.engine.trees) (fitting new.engine.trees) new.engine.kept.since new.written.by_txn.entries after_
    unfolding still_gives
    valid_still h numbers is v = record {
      log = v.log;
      has = subst (λ (d : D). HasLog meaning.observable (state_of d) new.engine.trees.log v.log) (sym h.log.disk)
          (log_kept meaning.observable (state_of (disk_of old.engine.trees.log)) old.engine.trees.log new.engine.trees.log v.log h.log.kept v.has);
      works = h.log.failed ∙ v.works;
      gives = subst (λ (e : LogPos). GivesRecordsWith v.log e rows_new st.last_txn st.last_db (active_number after_.actives) after_.own) (sym h.log.kept.end)
          (subst (λ (r : Rows). GivesRecordsWith v.log (end_of old.engine.trees.log) r st.last_txn st.last_db (active_number after_.actives) after_.own) (sym same)
          still);
      recovers = v.recovers;
      makes = subst (λ (r : Rows). MakesStore r st.last_db after_) (sym same) (record {
        environment = v.makes.environment;
        rising = v.makes.rising;
        unused = v.makes.unused;
        numbers = v.makes.numbers;
        store = v.makes.store;
        named = v.makes.named;
      });
      writes = ends-leave_writes a.txn.0 st.own (cells_of old.engine.trees) (cells_of new.engine.trees) (names_at a.txn old.written.by_txn.entries) (v.names.names a.txn.0) v.writes (inr h.cells);
      may = λ t. subst (λ (r : Rows). AllByRecursion (MayBeCommitted r) (after_.own t)) (sym same) (may_still t (v.may t));
      made = λ db. h.has_tree db ∙ v.made db ∙ ap (λ (r : Rows). has_number (numbers_of r) db) (sym same);
      room = room_still h.log v.room;
      names = subst (λ (r : Rows). AreNamesOf new.written.by_txn.entries after_.own r) (sym same) (names_still h v.names);
      fits = lives.fits;
      from = lives.from;
      firsts = lives.firsts;
    } where
      same : rows_new ≡ rows_old
      same = rows_same h

      still : GivesRecordsWith v.log (end_of old.engine.trees.log) rows_old st.last_txn st.last_db (active_number after_.actives) after_.own
      still = still_gives v.log (end_of old.engine.trees.log) rows_old st.last_txn st.last_txn st.last_db (active_number st.actives) (active_number after_.actives) st.own after_.own v.gives (omega arith)
          (still_active st a numbers is)

      lives : Lives (fitting new.engine.trees) v.log new.engine.kept.since (pos_lsn (end_of new.engine.trees.log)) new.written.by_txn.entries
          (subst (λ (e : LogPos). GivesRecordsWith v.log e rows_new st.last_txn st.last_db (active_number after_.actives) after_.own) (sym h.log.kept.end)
          (subst (λ (r : Rows). GivesRecordsWith v.log (end_of old.engine.trees.log) r st.last_txn st.last_db (active_number after_.actives) after_.own) (sym same) still)).base
      lives =
          subst (Lives (fitting new.engine.trees) v.log new.engine.kept.since (pos_lsn (end_of new.engine.trees.log)) new.written.by_txn.entries)
          (sym (same_under (λ (e : LogPos). GivesRecordsWith v.log e rows_new st.last_txn st.last_db (active_number after_.actives) after_.own) (λ e g. g.base) (sym h.log.kept.end)
          (subst (λ (r : Rows). GivesRecordsWith v.log (end_of old.engine.trees.log) r st.last_txn st.last_db (active_number after_.actives) after_.own) (sym same) still)
          ∙ same_under (λ (r : Rows). GivesRecordsWith v.log (end_of old.engine.trees.log) r st.last_txn st.last_db (active_number after_.actives) after_.own) (λ r g. g.base) (sym same) still))
          (lives_same (fitting old.engine.trees) (fitting new.engine.trees) v.log old.engine.kept.since new.engine.kept.since (pos_lsn (end_of old.engine.trees.log)) (pos_lsn (end_of new.engine.trees.log))
          old.written.by_txn.entries new.written.by_txn.entries v.gives.base (record { fits = v.fits; from = v.from; firsts = v.firsts }) (h.fits (placed v.log) v.gives.base)
          (ap (λ (k : Kept). k.since) h.kept) (ap pos_lsn h.log.kept.end)
          (fewer_less old.written.by_txn.entries new.written.by_txn.entries a.txn h.names h.firsts))

    pub abandoned : HasAbandoned old new a.session a.txn → active_of a.session st.actives ≡ Some a → (st.fault ≡ None → AreNumbered st.last_txn st.actives) →
        StandsAt most meaning old st → StandsAt most meaning new after_
    abandoned h is numbers at = record {
      file_max = h.log.kept.max ∙ at.file_max;
      fault = ap (λ k. k.fault) h.kept ∙ at.fault;
      last_txn = ap (λ k. k.last_txn) h.kept ∙ at.last_txn;
      last_db = ap (λ k. k.last_db) h.kept ∙ at.last_db;
      commits = ap (λ k. k.commits) h.kept ∙ at.commits;
      totals = ap (λ k. k.totals) h.kept ∙ at.totals;
      sessions_at = h.sessions st a refl refl at.sessions_at;
      apart = at.apart;
      checkpoint = ap (λ (k : Kept). is_some k.checkpoints.under_way) h.kept ∙ at.checkpoint;
      databases = λ none. subst (KnowsDatabases st) (sym h.kept) (at.databases none);
      valid = λ none. valid_still h (numbers none) is (at.valid none);
    }

    pub abandoned_near : HasAbandoned old new a.session a.txn → AreSessionsAt old.sessions st → IsWithin (reach_of new) (reach_of old)
    abandoned_near h at = record {
      file = by (has_failed old.engine.trees.log) refl;
      node = let k = ap (λ k. k.last_node) h.kept in omega (arith, k);
    } where
      owed_new : owed_by new.sessions ≡ owing after_
      owed_new = owed_is new.sessions after_ (h.sessions st a refl refl at)

      owed_old : owed_by old.sessions ≡ owing st
      owed_old = owed_is old.sessions st at

      by : (b : Bool) → has_failed old.engine.trees.log ≡ b → (reach_of new).file ≤ (reach_of old).file
      by true e =
          let k = ap (λ (b : Bool). cond b 0 ((end_of new.engine.trees.log).file + waits_of new.engine.trees + owed_by new.sessions)) (h.log.failed ∙ e) in omega (arith, k)
      by false e =
          let k = ap (λ (b : Bool). cond b 0 ((end_of new.engine.trees.log).file + waits_of new.engine.trees + owed_by new.sessions)) (h.log.failed ∙ e) in
          let l = ap (λ (b : Bool). cond b 0 ((end_of old.engine.trees.log).file + waits_of old.engine.trees + owed_by old.sessions)) e in
          let end = ap (λ (p : LogPos). p.file) h.log.kept.end in
          let waits = h.waits in
          let less = owing_less st a in
          omega (arith, k, l, end, waits, less, owed_new, owed_old)

  -- ---- a session that ends

  -- what waits is no part of a log and its trees
  pub valid_waiting : (observable : Bool) (state : State) (buffer : LogBuffer D) (cells : AllCells) (has_tree : ℕ → Bool) (forest : Forest) (since : ℕ) (written : List (TxnId × OwnNames)) (st : Standing) (waiting : List Wait) (locks : LockState) →
      IsValidWith observable state buffer cells has_tree forest since written st → IsValidWith observable state buffer cells has_tree forest since written (record st { waiting = waiting; locks = locks })
  valid_waiting observable state buffer cells has_tree forest since written st waiting locks v = record {
    log = v.log;
    has = v.has;
    works = v.works;
    gives = v.gives;
    recovers = v.recovers;
    makes = record {
      environment = v.makes.environment;
      rising = v.makes.rising;
      unused = v.makes.unused;
      numbers = v.makes.numbers;
      store = v.makes.store;
      named = v.makes.named;
    };
    writes = v.writes;
    may = v.may;
    made = v.made;
    room = v.room;
    names = v.names;
    fits = v.fits;
    from = v.from;
    firsts = v.firsts;
  }

  -- a session's call no longer waits
  pub withdrawn : (most : ℕ) (meaning : DiskMeaning D) (e : Environment D) (s : Sessions) (st : Standing) (session : ℕ) → StandsAt most meaning e st →
      AreSessionsAt s (without_call session st) → StandsAt most meaning (record { engine = e.engine; sessions = s; written = e.written }) (without_call session st)
  withdrawn most meaning e s st session at now_ = record {
    file_max = at.file_max;
    fault = at.fault;
    last_txn = at.last_txn;
    last_db = at.last_db;
    commits = at.commits;
    totals = at.totals;
    sessions_at = now_;
    apart = own_waits_left (λ (w : Wait). not (w.session == session)) st.waiting at.apart;
    checkpoint = at.checkpoint;
    databases = at.databases;
    valid = λ none. valid_waiting meaning.observable (now (meaning.history (disk_of e.engine.trees.log))) e.engine.trees.log (cells_of e.engine.trees) (has_tree_of e.engine.trees) (fitting e.engine.trees) e.engine.kept.since e.written.by_txn.entries st
        (without_call session st).waiting st.locks (at.valid none);
  }

  -- sessions that owe as many Commits reach as far
  pub near_owed : (e : Environment D) (s : Sessions) → owed_by s ≡ owed_by e.sessions → IsWithin (reach_of (record { engine = e.engine; sessions = s; written = e.written })) (reach_of e)
  near_owed e s is = record {
    file = let k = ap (λ (n : ℕ). cond (has_failed e.engine.trees.log) 0 ((end_of e.engine.trees.log).file + waits_of e.engine.trees + n)) is in omega (arith, k);
    node = omega arith;
  }

  pub within_then : (a b c : Environment D) → IsWithin (reach_of b) (reach_of a) → IsWithin (reach_of c) (reach_of b) → IsWithin (reach_of c) (reach_of a)
  within_then a b c first second =
      let f1 = first.file in let f2 = second.file in let n1 = first.node in let n2 = second.node in record { file = omega (arith, f1, f2); node = omega (arith, n1, n2) }

  -- ---- a run goes on

  -- after a fault the buffer's log does not matter
  guarded_faulted : (history_of : D → History) (st : Standing) (log : Log) (start : History) (buffer other : LogBuffer D) (journal : List Event) (first : Fault) → IsUnchanged buffer other →
      (after_events st journal).fault ≡ Some first → IsGuardedLog st log start (history_of (disk_of buffer)) buffer journal → IsGuardedLog st log start (history_of (disk_of other)) other journal
  guarded_faulted history_of st log start buffer other journal first same fault g =
      let h : IsGuardedLog st log start (history_of (disk_of other)) buffer journal = subst (λ (d : D). IsGuardedLog st log start (history_of d) buffer journal) (sym same.disk) g in
      record {
        since = h.since;
        begins = h.begins;
        events = h.events;
        none_before = h.none_before;
        base = h.base;
        least = h.least;
        kept = h.kept;
        begun = h.begun;
        works = λ none. absurd (none-some first (sym none ∙ fault));
        covers = λ none. absurd (none-some first (sym none ∙ fault));
        all = h.all;
        stops = λ ok. h.stops (sym same.failed ∙ ok);
        faultless = h.faultless;
        files = h.files;
        past = h.past;
        most = h.most;
        sizes = λ none. absurd (none-some first (sym none ∙ fault));
      }

  pub ended_safely : (history_of : D → History) (st : Standing) (log : Log) (start : History) (buffer other : LogBuffer D) (journal : List Event) (session : ℕ) → IsUnchanged buffer other →
      IsGuardedLog st log start (history_of (disk_of buffer)) buffer journal → IsGuardedLog st log start (history_of (disk_of other)) other (journal ++ End session ∷ [])
  ended_safely history_of st log start buffer other journal session same g = by (after_events st journal).fault refl
    where
      before : Standing
      before = after_events st journal

      fault : (after_event before (End session)).fault ≡ before.fault
      fault = ended_fault (active_of session before.actives) (record before { waiting = without_wait session before.waiting })

      by : (f : Option Fault) → before.fault ≡ f → IsGuardedLog st log start (history_of (disk_of other)) other (journal ++ End session ∷ [])
      by None e = guarded_idle history_of st log start buffer other journal (End session) refl same e refl refl refl fault g
      by (Some first) e =
          guarded_quiet st log start (history_of (disk_of other)) other journal (End session) refl refl refl refl fault (guarded_faulted history_of st log start buffer other journal first same e g)
