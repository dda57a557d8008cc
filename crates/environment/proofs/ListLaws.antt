-- The names of databases.
use Rattle.std.specs.Option.{option_copied}
use Rattle.std.proofs.Common.{◌≡◌, ◌∙◌, ◌≤◌, ◌+◌, ℕ, Bor, nat_lt, Bool, true, false, cond, is_some, List, [], Option, None, Some, Ok, Err, ap, refl, sym, subst, inl, arith}
use Rattle.std.specs.declared.alloc.AllocError.{AllocError}
use Rattle.je_disk.specs.DiskMeaning.{DiskMeaning}
use Rattle.je_disk.specs.Moments.{now}
use Rattle.je_disk.specs.States.{State}
use Rattle.je_order.specs.declared.txn_id.TxnId.{TxnId}
use Rattle.store_model.specs.declared.store.TheConstants.{LAST_TXN}
use Rattle.store_model.specs.declared.answer.Answer.{Answer}
use Rattle.store_model.specs.declared.answer.Answer.TheVariants.{IdsEnded, DiskFault, Names}
use Rattle.store_model.specs.declared.call.Call.TheVariants.{List as Lists}
use Rattle.store_model.specs.Store.{names_of}
use Rattle.store_model.specs.Refusals.{next_txn, or_refusal}
use Rattle.je_answers.specs.declared.active.Active.{Active}
use Rattle.je_answers.specs.Standing.{Standing, active_of}
use Rattle.je_answers.specs.Refusals.{late_refusal, number_refusal}
use Rattle.je_answers.specs.Events.{IsEvaluated}
use Rattle.je_answers.specs.After.{after_evaluated, drawn_by}
use Rattle.je_answers.specs.Journal.{changes_evaluated}
use Rattle.je_answers.specs.Alone.{Alone}
use Rattle.log_buffer.specs.declared.buffer.LogBuffer.{LogBuffer}
use Rattle.log_buffer.specs.Buffer.{disk_of as disk_below, end_of}
use Rattle.log_replay.specs.Rows.{store_of}
use Rattle.record_tree.specs.Occupied.{AllCells}
use Rattle.in_tree.specs.Observed.{cells_of, has_tree_of}
use Rattle.txn_core.specs.Known.{Known, committed}
use Rattle.txn_core.specs.Planning.{HasModel, IsPlanned}
use Rattle.txn_core.specs.declared.planned.Planned.TheVariants.{Answered, Logs, Fills}
use Rattle.txn_core.specs.declared.planned_changes.PlannedChanges.{PlannedChanges}
use Rattle.txn_log.proofs.Giving.{still_gives}
use Rattle.environment.specs.declared.environment.Environment.{Environment}
use Rattle.environment.specs.declared.written.OwnNames.{OwnNames}
use Rattle.environment.specs.Limits.{owing_after, written_evaluated}
use Rattle.environment.specs.Steps.{HasCome, HasStepped, PerformsAnswer, StandsAt}
use Rattle.environment.specs.Valid.{IsValidWith, active_number, fitting, Forest}
use Rattle.environment.specs.Whole.{CanGoOn}
use Rattle.environment.proofs.Answering.{within_more}
use Rattle.environment.proofs.BeginLaws.{next_is, with_begun}
use Rattle.environment.proofs.EarlyLaws.{same_buffer, same_reach}

-- ---- the plan

-- the model on this standing's store
model_of : Standing → Alone
model_of st = record { store = st.store; numbers = st.numbers; last_txn = 0; last_db = st.last_db; commits = 0; begun = None; fault = None; in_checkpoint = false }

has_model : (known : Known) (st : Standing) → store_of known.rows ≡ st.store → known.last_db ≡ st.last_db → HasModel known (model_of st)
unfolding model_of
has_model known st store last = record { store = store; last_db = last; below = omega arith }

pub planned_names : (known : Known) (st : Standing) (answer : Answer) → store_of known.rows ≡ st.store → known.last_db ≡ st.last_db →
    ((p : Alone) (session : ℕ) → HasModel known p → IsPlanned known p session Lists (Answered answer)) → answer ≡ Names (names_of st.store)
unfolding model_of
planned_names known st answer store last plan = sym (ap (λ o. o.answer) (plan (model_of st) 0 (has_model known st store last)))

pub logs_nothing : (known : Known) (st : Standing) (planned : PlannedChanges) → store_of known.rows ≡ st.store → known.last_db ≡ st.last_db →
    ((p : Alone) (session : ℕ) → HasModel known p → IsPlanned known p session Lists (Logs planned)) → ⊥
unfolding model_of
logs_nothing known st planned store last plan = let log = plan (model_of st) 0 (has_model known st store last) in let is = log.0.changes in absurd cc

pub fills_nothing : (known : Known) (st : Standing) (planned : PlannedChanges) → store_of known.rows ≡ st.store → known.last_db ≡ st.last_db →
    ((p : Alone) (session : ℕ) → HasModel known p → IsPlanned known p session Lists (Fills planned)) → ⊥
unfolding model_of
fills_nothing known st planned store last plan = let log = plan (model_of st) 0 (has_model known st store last) in let is = log.0.changes in absurd cc

-- ---- a number is drawn

module _ {D : Type 0} where
  -- a number that is drawn changes nothing of a log and its trees
  pub valid_drawn : (observable : Bool) (state : State) (buffer : LogBuffer D) (cells : AllCells) (has_tree : ℕ → Bool) (forest : Forest) (since : ℕ) (written : List (TxnId × OwnNames)) (st : Standing) (last : ℕ) → st.last_txn ≤ last →
      IsValidWith observable state buffer cells has_tree forest since written st → IsValidWith observable state buffer cells has_tree forest since written (record st { last_txn = last })
  unfolding still_gives
  valid_drawn observable state buffer cells has_tree forest since written st last more v = record {
    log = v.log;
    has = v.has;
    works = v.works;
    gives = still_gives v.log (end_of buffer) (committed cells) st.last_txn last st.last_db (active_number st.actives) (active_number st.actives) st.own st.own v.gives more (λ t is. inl (is, refl));
    recovers = v.recovers;
    makes = record {
      environment = v.makes.environment;
      rising = v.makes.rising;
      unused = v.makes.unused;
      numbers = v.makes.numbers;
      store = v.makes.store;
      named = v.makes.named;
    };
    writes = v.writes;
    may = v.may;
    made = v.made;
    room = v.room;
    names = v.names;
    fits = v.fits;
    from = v.from;
    firsts = v.firsts;
  }

  pub drawn_at : (most : ℕ) (meaning : DiskMeaning D) (e : Environment D) (last : ℕ) (st : Standing) → st.last_txn ≤ last → StandsAt most meaning e st →
      StandsAt most meaning (with_begun e last e.sessions) (record st { last_txn = last })
  drawn_at most meaning e last st more at = record {
    file_max = at.file_max;
    fault = at.fault;
    last_txn = refl;
    last_db = at.last_db;
    commits = at.commits;
    totals = at.totals;
    sessions_at = at.sessions_at;
    apart = at.apart;
    checkpoint = at.checkpoint;
    databases = at.databases;
    valid = λ none. valid_drawn meaning.observable (now (meaning.history (disk_below e.engine.trees.log))) e.engine.trees.log (cells_of e.engine.trees) (has_tree_of e.engine.trees) (fitting e.engine.trees) e.engine.kept.since e.written.by_txn.entries st last more (at.valid none);
  }

-- ---- the call

list_late : (st : Standing) (session : ℕ) (o : Option Active) → active_of session st.actives ≡ o → late_refusal st session Lists ≡ or_refusal (number_refusal st.last_txn o) None
list_late st session o is = ap (λ (o : Option Active). or_refusal (number_refusal st.last_txn o) None) is

pub never_names : (names : List (List ℕ)) → Names names ≡ DiskFault → ⊥
never_names names is = absurd cc

never_ended : IdsEnded ≡ DiskFault → ⊥
never_ended is = absurd cc

pub drawn_fault : (o : Option Active) (st : Standing) → (drawn_by o st).fault ≡ st.fault
drawn_fault None st = refl
drawn_fault (Some a) st = refl

module _ {D : Type 0} (meaning : DiskMeaning D) where
  abbrev Come : ℕ → Environment D → Environment D → Standing → ℕ → ℕ → Answer → Option Answer → Type 0
  Come most old new st session line answer late =
      HasStepped meaning most old new (owing_after st session) (written_evaluated late st session Lists)
      (changes_evaluated late st session Lists) (λ limit. IsEvaluated late limit st session line Lists answer []) (after_evaluated late st session line Lists answer []) answer

  -- in a transaction
  listed_inside : (most : ℕ) (e : Environment D) (st : Standing) (session line : ℕ) (a : Active) → active_of session st.actives ≡ Some a → st.fault ≡ None → StandsAt most meaning e st →
      HasCome meaning most e e st session line Lists (Names (names_of st.store)) []
  listed_inside most e st session line a some none at = subst (Come most e e st session line (Names (names_of st.store))) (sym (list_late st session (Some a) some)) (record {
    limit = None;
    has_limit = refl;
    answers = (refl, refl);
    here = subst (λ (o : Option Active). StandsAt most meaning e (drawn_by o st)) (sym some) at;
    numbered = tt;
    fault = drawn_fault (active_of session st.actives) st ∙ none;
    logged = inl (same_buffer e.engine.trees.log, refl, refl);
    near = within_more e e [] (same_reach e);
  })

  -- outside, where a number is left
  listed_outside : (most : ℕ) (e : Environment D) (last : ℕ) (st : Standing) (session line : ℕ) → active_of session st.actives ≡ None → nat_lt st.last_txn LAST_TXN ≡ true → last ≡ next_txn st.last_txn → st.fault ≡ None →
      StandsAt most meaning e st → HasCome meaning most e (with_begun e last e.sessions) st session line Lists (Names (names_of st.store)) []
  listed_outside most e last st session line outside left next none at =
      subst (Come most e (with_begun e last e.sessions) st session line (Names (names_of st.store)))
      (sym (list_late st session None outside ∙ ap (λ (b : Bool). or_refusal (cond b None (Some IdsEnded)) None) left)) (record {
        limit = None;
        has_limit = refl;
        answers = (refl, refl);
        here = subst (λ (o : Option Active). StandsAt most meaning (with_begun e last e.sessions) (drawn_by o st)) (sym outside)
            (subst (λ (n : ℕ). StandsAt most meaning (with_begun e last e.sessions) (record st { last_txn = n })) next
            (drawn_at most meaning e last st (let more = next ∙ next_is st.last_txn left in omega (arith, more)) at));
        numbered = tt;
        fault = drawn_fault (active_of session st.actives) st ∙ none;
        logged = inl (same_buffer e.engine.trees.log, refl, refl);
        near = within_more e (with_begun e last e.sessions) [] (record { file = omega arith; node = omega arith });
      })

  -- and where none is
  refused_outside : (most : ℕ) (e : Environment D) (st : Standing) (session line : ℕ) → active_of session st.actives ≡ None → nat_lt st.last_txn LAST_TXN ≡ false → st.fault ≡ None → StandsAt most meaning e st →
      HasCome meaning most e e st session line Lists IdsEnded []
  refused_outside most e st session line outside ended none at =
      subst (Come most e e st session line IdsEnded) (sym (list_late st session None outside ∙ ap (λ (b : Bool). or_refusal (cond b None (Some IdsEnded)) None) ended)) (record {
        limit = None;
        has_limit = refl;
        answers = (refl, refl);
        here = subst (λ (o : Option Active). StandsAt most meaning e (drawn_by o st)) (sym outside)
            (subst (λ (n : ℕ). StandsAt most meaning e (record st { last_txn = n })) (sym (ap (λ (b : Bool). cond b (st.last_txn + 1) st.last_txn) ended)) at);
        numbered = tt;
        fault = drawn_fault (active_of session st.actives) st ∙ none;
        logged = inl (same_buffer e.engine.trees.log, refl, refl);
        near = within_more e e [] (same_reach e);
      })

  found_some : (o : Option Active) → is_some o ≡ true → (a : Active) × (o ≡ Some a)
  found_some None h = absurd cc
  found_some (Some a) h = (a, refl)

  found_none : (o : Option Active) → is_some o ≡ false → o ≡ None
  found_none None h = refl
  found_none (Some a) h = absurd cc

  pub inside_performs : (e : Environment D) (session : ℕ) (answer : Answer) → ((most : ℕ) (st : Standing) → StandsAt most meaning e st → is_some (active_of session st.actives) ≡ true) → e.engine.kept.fault ≡ None →
      CanGoOn e → ((most : ℕ) (st : Standing) → StandsAt most meaning e st → answer ≡ Names (names_of st.store)) → (answer ≡ DiskFault → ⊥) →
      PerformsAnswer meaning e e session Lists (Ok answer)
  inside_performs e session answer inside valid bounds is calm = record {
    comes = λ most st line at sound early.
        let some = found_some (active_of session st.actives) (inside most st at) in
        subst (λ (a : Answer). HasCome meaning most e e st session line Lists a []) (sym (is most st at))
        (listed_inside most e st session line some.0 some.1 (sym at.fault ∙ valid) at);
    near = tt;
    bounds = bounds;
    cause = record { never_falls = omega arith; fault = λ done. absurd (calm done) };
  }

  pub outside_performs : (e : Environment D) (session last : ℕ) (answer : Answer) → ((most : ℕ) (st : Standing) → StandsAt most meaning e st → is_some (active_of session st.actives) ≡ false) →
      nat_lt e.engine.kept.last_txn LAST_TXN ≡ true → last ≡ e.engine.kept.last_txn + 1 → e.engine.kept.fault ≡ None → CanGoOn e →
      ((most : ℕ) (st : Standing) → StandsAt most meaning e st → answer ≡ Names (names_of st.store)) → (answer ≡ DiskFault → ⊥) →
      PerformsAnswer meaning e (with_begun e last e.sessions) session Lists (Ok answer)
  outside_performs e session last answer outside left next valid bounds is calm = record {
    comes = λ most st line at sound early.
        let less = ap (λ (n : ℕ). nat_lt n LAST_TXN) (sym at.last_txn) ∙ left in
        let number = next ∙ ap (λ (n : ℕ). n + 1) at.last_txn ∙ sym (next_is st.last_txn less) in
        subst (λ (a : Answer). HasCome meaning most e (with_begun e last e.sessions) st session line Lists a []) (sym (is most st at))
        (listed_outside most e last st session line (found_none (active_of session st.actives) (outside most st at)) less number (sym at.fault ∙ valid) at);
    near = tt;
    bounds = let within : e.engine.kept.commits ≤ e.engine.kept.last_txn = bounds in omega (arith, within, next);
    cause = record { never_falls = omega arith; fault = λ done. absurd (calm done) };
  }

  pub none_performs : (e : Environment D) (session : ℕ) → ((most : ℕ) (st : Standing) → StandsAt most meaning e st → is_some (active_of session st.actives) ≡ false) →
      nat_lt e.engine.kept.last_txn LAST_TXN ≡ false → e.engine.kept.fault ≡ None → CanGoOn e → PerformsAnswer meaning e e session Lists (Ok IdsEnded)
  none_performs e session outside ended valid bounds = record {
    comes = λ most st line at sound early.
        refused_outside most e st session line (found_none (active_of session st.actives) (outside most st at)) (ap (λ (n : ℕ). nat_lt n LAST_TXN) (sym at.last_txn) ∙ ended) (sym at.fault ∙ valid) at;
    near = tt;
    bounds = bounds;
    cause = record { never_falls = omega arith; fault = λ done. absurd (never_ended done) };
  }

  pub not_listed_performs : (e : Environment D) (session : ℕ) (error : AllocError) → CanGoOn e → PerformsAnswer meaning e e session Lists (Err error)
  not_listed_performs e session error bounds = record {
    comes = λ most st line at sound early. record { here = at; log = same_buffer e.engine.trees.log; near = same_reach e };
    near = same_reach e;
    bounds = bounds;
    cause = record { never_falls = omega arith; fault = tt };
  }

-- what was found by reference
pub same_some : (o : Option (Bor Active)) → is_some (option_copied o) ≡ is_some o
same_some None = refl
same_some (Some x) = refl
