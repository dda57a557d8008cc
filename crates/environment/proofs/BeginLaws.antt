-- The beginning of a transaction.
use Rattle.std.proofs.Common.{◌≡◌, ◌⊎◌, inl, inr, ◌≤◌, ◌<◌, ◌+◌, ◌∙◌, ◌≢◌, ℕ, ◌==◌, nat_lt, Bool, true, false, cond, ◌||◌, List, [], ◌∷◌, ◌++◌, filter, length, Option, None, Some, Ok, Err, ap, refl, sym, subst, arith}
use Rattle.std.specs.declared.alloc.AllocError.{AllocError}
use Rattle.std.proofs.lemmas.Bool.{eqb-true, ltb-true}
use Rattle.std.proofs.lemmas.Bool.Decides.{eqb_tells}
use Rattle.std.proofs.lemmas.List.{length-append}
use Rattle.std.proofs.lemmas.List.Folds.{list_any-append}
use Rattle.je_disk.specs.DiskMeaning.{DiskMeaning}
use Rattle.je_disk.specs.Moments.{now}
use Rattle.je_disk.specs.States.{State}
use Rattle.je_order.specs.declared.txn_id.TxnId.{TxnId}
use Rattle.je_order.specs.Transactions.{is_same_txn}
use Rattle.store_model.specs.declared.isolation.Isolation.{Isolation}
use Rattle.store_model.specs.declared.durability.Durability.{Durability}
use Rattle.store_model.specs.declared.record_change.RecordChange.{RecordChange}
use Rattle.store_model.specs.declared.store.TheConstants.{LAST_TXN}
use Rattle.store_model.specs.declared.answer.Answer.{Answer}
use Rattle.store_model.specs.declared.answer.Answer.TheVariants.{Txn, IdsEnded, DiskFault}
use Rattle.store_model.specs.declared.call.Call.TheVariants.{Begin}
use Rattle.store_model.specs.Refusals.{next_txn, or_refusal}
use Rattle.je_answers.specs.declared.active.Active.{Active}
use Rattle.je_answers.specs.Standing.{Standing, active_of}
use Rattle.je_answers.specs.Refusals.{early_refusal, late_refusal, number_refusal, txn_refusal}
use Rattle.je_answers.specs.Events.{IsEvaluated}
use Rattle.je_answers.specs.After.{after_evaluated, drawn_by}
use Rattle.je_answers.specs.Journal.{changes_evaluated}
use Rattle.log_buffer.specs.declared.buffer.LogBuffer.{LogBuffer}
use Rattle.log_buffer.specs.Buffer.{disk_of as disk_below, end_of}
use Rattle.record_tree.specs.Occupied.{AllCells}
use Rattle.in_tree.specs.Observed.{cells_of, has_tree_of}
use Rattle.txn_core.specs.Known.{committed}
use Rattle.active_txns.specs.Own.{has_changes}
use Rattle.txn_log.specs.Gives.{AreStillActive}
use Rattle.txn_log.proofs.Giving.{still_gives}
use Rattle.sessions.specs.declared.all_sessions.Sessions.{Sessions}
use Rattle.sessions.specs.AtStanding.{AreSessionsAt, owing}
use Rattle.standing_laws.specs.Right.{AreNumbered, AreSound, is_active, txn_id}
use Rattle.engine.specs.Limits.{IsWithin}
use Rattle.environment.specs.declared.environment.Environment.{Environment}
use Rattle.environment.specs.declared.written.OwnNames.{OwnNames}
use Rattle.environment.specs.Limits.{owing_after, written_evaluated}
use Rattle.environment.specs.Steps.{HasCome, HasStepped, PerformsAnswer, StandsAt}
use Rattle.environment.specs.Valid.{IsValidWith, active_number, fitting, Forest}
use Rattle.environment.specs.Whole.{CanGoOn, reach_of}
use Rattle.environment.proofs.Answering.{owed_is, within_more}
use Rattle.environment.proofs.EarlyLaws.{not_early, same_buffer, same_reach}
use Rattle.environment.proofs.EndingLaws.{near_owed}

-- ---- a number that was not allocated is nobody's

not_active : (last n : ℕ) (actives : List Active) → AreNumbered last actives → last < n → is_active (txn_id n) actives ≡ false
not_active last n [] numbers past = refl
not_active last n (a ∷ actives) numbers past = by (eqb_tells n a.txn.0) (not_active last n actives numbers.2 past)
  where
    by : ((n == a.txn.0) ≡ true) × (n ≡ a.txn.0) ⊎ ((n == a.txn.0) ≡ false) × (n ≢ a.txn.0) → is_active (txn_id n) actives ≡ false → ((n == a.txn.0) || is_active (txn_id n) actives) ≡ false
    by (inl same) rest = let low = numbers.0 in let is = same.1 in absurd (omega (arith, low, is, past))
    by (inr other) rest = ap (λ (b : Bool). b || is_active (txn_id n) actives) other.0 ∙ rest

pub none_left : (last : ℕ) → LAST_TXN ≤ last → nat_lt last LAST_TXN ≡ false
none_left last past = by (nat_lt last LAST_TXN) refl
  where
    by : (b : Bool) → nat_lt last LAST_TXN ≡ b → nat_lt last LAST_TXN ≡ false
    by true e = let less = ltb-true last LAST_TXN e in absurd (omega (arith, less, past))
    by false e = e

-- a standing with one transaction more, under the next number
abbrev pub begun_with : Active → Standing → Standing
begun_with a st = record st { actives = st.actives ++ a ∷ []; last_txn = next_txn st.last_txn }

pub next_is : (last : ℕ) → nat_lt last LAST_TXN ≡ true → next_txn last ≡ last + 1
next_is last left = ap (λ (b : Bool). cond b (last + 1) last) left

pub none_own : (st : Standing) (a : Active) → AreSound st → nat_lt st.last_txn LAST_TXN ≡ true → a.txn.0 ≡ next_txn st.last_txn → st.own a.txn.0 ≡ []
none_own st a sound left is = sound.own_active a.txn.0 (not_active st.last_txn a.txn.0 st.actives sound.numbers (let more = is ∙ next_is st.last_txn left in omega (arith, more)))

still_begun : (st : Standing) (a : Active) → AreSound st → nat_lt st.last_txn LAST_TXN ≡ true → a.txn.0 ≡ next_txn st.last_txn →
    AreStillActive st.last_txn (active_number st.actives) st.own (active_number (begun_with a st).actives) st.own
still_begun st a sound left is t still = by (active_number st.actives t) refl
  where
    by : (b : Bool) → active_number st.actives t ≡ b → ((active_number st.actives t ≡ true) × (st.own t ≡ st.own t)) ⊎ ((st.last_txn < t) × (st.own t ≡ []))
    by true e = inl (e, refl)
    by false e =
        let among = sym (list_any-append (λ (b : Active). is_same_txn (txn_id t) b.txn) st.actives (a ∷ [])) ∙ still in
        let its : t ≡ a.txn.0 = eqb-true t a.txn.0 (last_one (t == a.txn.0) (sym (ap (λ (b : Bool). b || ((t == a.txn.0) || false)) e) ∙ among)) in
        let more = is ∙ next_is st.last_txn left in
        inr (omega (arith, its, more), ap st.own its ∙ none_own st a sound left is)
      where
        last_one : (b : Bool) → (b || false) ≡ true → b ≡ true
        last_one true h = refl
        last_one false h = cc

filter_append : {X : Type 0} (p : X → Bool) (xs ys : List X) → filter p (xs ++ ys) ≡ filter p xs ++ filter p ys
filter_append p [] ys = refl
filter_append {X} p (x ∷ xs) ys = by (p x) (filter_append p xs ys)
  where
    by : (b : Bool) → filter p (xs ++ ys) ≡ filter p xs ++ filter p ys → cond b (x ∷ filter p (xs ++ ys)) (filter p (xs ++ ys)) ≡ cond b (x ∷ filter p xs) (filter p xs) ++ filter p ys
    by true rest = ap (λ (l : List X). x ∷ l) rest
    by false rest = rest

pub owing_begun : (st : Standing) (a : Active) → st.own a.txn.0 ≡ [] → owing (begun_with a st) ≡ owing st
owing_begun st a none =
    let test : Active → Bool = λ b. has_changes (st.own b.txn.0) in
    let one : length (filter test (a ∷ [])) ≡ 0 = ap (λ (l : List (ℕ × RecordChange)). length (cond (has_changes l) (a ∷ []) [])) none in
    let split = ap length (filter_append test st.actives (a ∷ [])) in
    let sum = length-append (filter test st.actives) (filter test (a ∷ [])) in
    omega (arith, one, split, sum)

module _ {D : Type 0} where
  -- a transaction that begins changes nothing of a log and its trees
  pub valid_begun : (observable : Bool) (state : State) (buffer : LogBuffer D) (cells : AllCells) (has_tree : ℕ → Bool) (forest : Forest) (since : ℕ) (written : List (TxnId × OwnNames)) (st : Standing) (a : Active) → AreSound st →
      nat_lt st.last_txn LAST_TXN ≡ true → a.txn.0 ≡ next_txn st.last_txn → IsValidWith observable state buffer cells has_tree forest since written st →
      IsValidWith observable state buffer cells has_tree forest since written (begun_with a st)
  unfolding still_gives
  valid_begun observable state buffer cells has_tree forest since written st a sound left is v = record {
    log = v.log;
    has = v.has;
    works = v.works;
    gives = still_gives v.log (end_of buffer) (committed cells) st.last_txn (next_txn st.last_txn) st.last_db (active_number st.actives) (active_number (begun_with a st).actives) st.own st.own v.gives
        (let more = next_is st.last_txn left in omega (arith, more)) (still_begun st a sound left is);
    recovers = v.recovers;
    makes = record {
      environment = v.makes.environment;
      rising = v.makes.rising;
      unused = v.makes.unused;
      numbers = v.makes.numbers;
      store = v.makes.store;
      named = v.makes.named;
    };
    writes = v.writes;
    may = v.may;
    made = v.made;
    room = λ n owed. v.room n (sym (owing_begun st a (none_own st a sound left is)) ∙ owed);
    names = v.names;
    fits = v.fits;
    from = v.from;
    firsts = v.firsts;
  }

  -- an environment with another number and other sessions
  abbrev pub with_begun : Environment D → ℕ → Sessions → Environment D
  with_begun e last s = record { engine = record { trees = e.engine.trees; kept = record e.engine.kept { last_txn = last } }; sessions = s; written = e.written }

  pub begun_at : (most : ℕ) (meaning : DiskMeaning D) (e : Environment D) (s : Sessions) (last : ℕ) (st : Standing) (a : Active) → AreSound st → nat_lt st.last_txn LAST_TXN ≡ true →
      a.txn.0 ≡ next_txn st.last_txn → last ≡ next_txn st.last_txn → StandsAt most meaning e st → AreSessionsAt s (begun_with a st) → StandsAt most meaning (with_begun e last s) (begun_with a st)
  begun_at most meaning e s last st a sound left is next at sessions_now = record {
    file_max = at.file_max;
    fault = at.fault;
    last_txn = next;
    last_db = at.last_db;
    commits = at.commits;
    totals = at.totals;
    sessions_at = sessions_now;
    apart = at.apart;
    checkpoint = at.checkpoint;
    databases = at.databases;
    valid = λ none. valid_begun meaning.observable (now (meaning.history (disk_below e.engine.trees.log))) e.engine.trees.log (cells_of e.engine.trees) (has_tree_of e.engine.trees) (fitting e.engine.trees) e.engine.kept.since e.written.by_txn.entries st a sound left is (at.valid none);
  }

  -- an environment with other sessions that stand at the same
  pub sessions_same : (most : ℕ) (meaning : DiskMeaning D) (e : Environment D) (s : Sessions) (st : Standing) → AreSessionsAt s st → StandsAt most meaning e st →
      StandsAt most meaning (record { engine = e.engine; sessions = s; written = e.written }) st
  sessions_same most meaning e s st same at = record {
    file_max = at.file_max;
    fault = at.fault;
    last_txn = at.last_txn;
    last_db = at.last_db;
    commits = at.commits;
    totals = at.totals;
    sessions_at = same;
    apart = at.apart;
    checkpoint = at.checkpoint;
    databases = at.databases;
    valid = at.valid;
  }

-- ---- the call

-- only a session without a transaction gets there
begin_none : (st : Standing) (session : ℕ) (level : Isolation) (durability : Durability) (wait : Bool) → early_refusal st session (Begin level durability wait) ≡ None → active_of session st.actives ≡ None
begin_none st session level durability wait early = by (active_of session st.actives) refl
  where
    by : (o : Option Active) → active_of session st.actives ≡ o → active_of session st.actives ≡ None
    by None e = e
    by (Some a) e = absurd (refused (sym (ap (txn_refusal (Begin level durability wait)) e) ∙ (not_early st session (Begin level durability wait) early).txn))
      where
        refused : txn_refusal (Begin level durability wait) (Some a) ≡ None → ⊥
        refused h = absurd cc

-- a number is refused where none is left
begin_late : (st : Standing) (session : ℕ) (level : Isolation) (durability : Durability) (wait : Bool) (b : Bool) → active_of session st.actives ≡ None → nat_lt st.last_txn LAST_TXN ≡ b →
    late_refusal st session (Begin level durability wait) ≡ or_refusal (cond b None (Some IdsEnded)) None
begin_late st session level durability wait b none left =
    ap (λ (o : Option Active). or_refusal (number_refusal st.last_txn o) None) none ∙ ap (λ (b : Bool). or_refusal (cond b None (Some IdsEnded)) None) left

never_txn : (t : TxnId) → Txn t ≡ DiskFault → ⊥
never_txn t is = absurd cc

never_ended : IdsEnded ≡ DiskFault → ⊥
never_ended is = absurd cc

module _ {D : Type 0} (meaning : DiskMeaning D) (level : Isolation) (durability : Durability) (wait : Bool) where
  abbrev Come : ℕ → Environment D → Environment D → Standing → ℕ → ℕ → Answer → Option Answer → Type 0
  Come most old new st session line answer late =
      HasStepped meaning most old new (owing_after st session) (written_evaluated late st session (Begin level durability wait))
      (changes_evaluated late st session (Begin level durability wait)) (λ limit. IsEvaluated late limit st session line (Begin level durability wait) answer [])
      (after_evaluated late st session line (Begin level durability wait) answer []) answer

  -- no number is left
  refused_number : (most : ℕ) (e : Environment D) (st : Standing) (session line : ℕ) → early_refusal st session (Begin level durability wait) ≡ None → nat_lt st.last_txn LAST_TXN ≡ false → st.fault ≡ None →
      StandsAt most meaning e st → HasCome meaning most e e st session line (Begin level durability wait) IdsEnded []
  refused_number most e st session line early ended none at =
      let active = begin_none st session level durability wait early in
      subst (Come most e e st session line IdsEnded) (sym (begin_late st session level durability wait false active ended)) (record {
        limit = None;
        has_limit = refl;
        answers = (refl, refl);
        here = subst (λ (o : Option Active). StandsAt most meaning e (drawn_by o st)) (sym active)
            (subst (λ (n : ℕ). StandsAt most meaning e (record st { last_txn = n })) (sym (ap (λ (b : Bool). cond b (st.last_txn + 1) st.last_txn) ended)) at);
        numbered = tt;
        fault = drawn_fault (active_of session st.actives) ∙ none;
        logged = inl (same_buffer e.engine.trees.log, refl, refl);
        near = within_more e e [] (same_reach e);
      })
    where
      drawn_fault : (o : Option Active) → (drawn_by o st).fault ≡ st.fault
      drawn_fault None = refl
      drawn_fault (Some a) = refl

  -- it has begun
  began : (most : ℕ) (e : Environment D) (s : Sessions) (st : Standing) (session line last : ℕ) (t : TxnId) → early_refusal st session (Begin level durability wait) ≡ None → nat_lt st.last_txn LAST_TXN ≡ true → st.fault ≡ None →
      AreSound st → t.0 ≡ next_txn st.last_txn → last ≡ next_txn st.last_txn → StandsAt most meaning e st →
      AreSessionsAt s (begun_with (record { txn = t; session = session; level = level; durability = durability; waits = wait; is_auto = false; deadlock = None }) st) →
      HasCome meaning most e (with_begun e last s) st session line (Begin level durability wait) (Txn t) []
  began most e s st session line last t early left none sound is next at sessions_now =
      let active = begin_none st session level durability wait early in
      subst (Come most e (with_begun e last s) st session line (Txn t)) (sym (begin_late st session level durability wait true active left)) (record {
        limit = None;
        has_limit = refl;
        answers = (ap Txn same, refl);
        here = subst (λ (x : TxnId). StandsAt most meaning (with_begun e last s) (begun_with (a x) st)) same (begun_at most meaning e s last st (a t) sound left is next at sessions_now);
        numbered = tt;
        fault = none;
        logged = inl (same_buffer e.engine.trees.log, refl, refl);
        near = within_more e (with_begun e last s) []
            (near_owed e s (owed_is s (begun_with (a t) st) sessions_now ∙ owing_begun st (a t) (none_own st (a t) sound left is) ∙ sym (owed_is e.sessions st at.sessions_at)));
      })
    where
      a : TxnId → Active
      a x = record { txn = x; session = session; level = level; durability = durability; waits = wait; is_auto = false; deadlock = None }

      same : t ≡ record { 0 = next_txn st.last_txn }
      same = ap (λ (n : ℕ). record { 0 = n }) is

  pub refused_performs : (e : Environment D) (session : ℕ) → nat_lt e.engine.kept.last_txn LAST_TXN ≡ false → e.engine.kept.fault ≡ None → CanGoOn e →
      PerformsAnswer meaning e e session (Begin level durability wait) (Ok IdsEnded)
  refused_performs e session ended valid bounds = record {
    comes = λ most st line at sound early. refused_number most e st session line early (ap (λ (n : ℕ). nat_lt n LAST_TXN) (sym at.last_txn) ∙ ended) (sym at.fault ∙ valid) at;
    near = tt;
    bounds = bounds;
    cause = record { never_falls = omega arith; fault = λ is. absurd (never_ended is) };
  }

  pub began_performs : (e : Environment D) (s : Sessions) (session last : ℕ) (t : TxnId) → nat_lt e.engine.kept.last_txn LAST_TXN ≡ true → t.0 ≡ e.engine.kept.last_txn + 1 → last ≡ e.engine.kept.last_txn + 1 →
      e.engine.kept.fault ≡ None → CanGoOn e →
      ((st : Standing) → AreSessionsAt e.sessions st → AreSessionsAt s (record st { actives = st.actives ++ record { txn = t; session = session; level = level; durability = durability; waits = wait; is_auto = false; deadlock = None } ∷ [] })) →
      PerformsAnswer meaning e (with_begun e last s) session (Begin level durability wait) (Ok (Txn t))
  began_performs e s session last t left is next valid bounds stands = record {
    comes = λ most st line at sound early.
        let less = ap (λ (n : ℕ). nat_lt n LAST_TXN) (sym at.last_txn) ∙ left in
        let number = ap (λ (n : ℕ). n + 1) at.last_txn ∙ sym (next_is st.last_txn less) in
        began most e s st session line last t early less (sym at.fault ∙ valid) sound (is ∙ number) (next ∙ number) at (stands st at.sessions_at);
    near = tt;
    bounds = let within : e.engine.kept.commits ≤ e.engine.kept.last_txn = bounds in omega (arith, within, next);
    cause = record { never_falls = omega arith; fault = λ done. absurd (never_txn t done) };
  }

  pub not_begun_performs : (e : Environment D) (s : Sessions) (session : ℕ) (error : AllocError) → CanGoOn e →
      ((st : Standing) → AreSessionsAt e.sessions st → AreSessionsAt s st) → IsWithin (reach_of (record { engine = e.engine; sessions = s; written = e.written })) (reach_of e) →
      PerformsAnswer meaning e (record { engine = e.engine; sessions = s; written = e.written }) session (Begin level durability wait) (Err error)
  not_begun_performs e s session error bounds stands near = record {
    comes = λ most st line at sound early. record {
      here = sessions_same most meaning e s st (stands st at.sessions_at) at;
      log = same_buffer e.engine.trees.log;
      near = near;
    };
    near = near;
    bounds = bounds;
    cause = record { never_falls = omega arith; fault = tt };
  }
