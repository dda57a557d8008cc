-- What the transaction of a load holds, put after put.
use Rattle.std.proofs.Common.{◌≡◌, ℕ, Bool, true, false, cond, List, [], ◌∷◌, ◌++◌, Option, None, Some, refl, ap, ap₂, sym, ◌∙◌, subst}
use Rattle.std.specs.Prelude.{option_map}
use Rattle.std.specs.Option.{option_map_or}
use Rattle.std.specs.List.{AllByRecursion}
use Rattle.std.proofs.lemmas.Bool.{eq-eqb, true≢false}
use Rattle.dump_text.specs.declared.dump_pair.DumpPair.{DumpPair}
use Rattle.je_order.specs.Order.{is_same_bytes}
use Rattle.store_model.specs.declared.store.Store.{Store}
use Rattle.store_model.specs.declared.store.Database.{Database}
use Rattle.store_model.specs.declared.index.Index.{Index}
use Rattle.store_model.specs.declared.isolation.Isolation.{Isolation}
use Rattle.store_model.specs.declared.put_mode.PutMode.{PutMode}
use Rattle.store_model.specs.declared.call.Call.{Call}
use Rattle.store_model.specs.declared.call.Call.TheVariants.{Put}
use Rattle.store_model.specs.declared.record_change.RecordChange.{RecordChange}
use Rattle.store_model.specs.declared.change.Change.{Change}
use Rattle.store_model.specs.declared.need.Need.{Need}
use Rattle.store_model.specs.declared.victim.Victim.{Victim}
use Rattle.store_model.specs.declared.answer.Answer.{Answer}
use Rattle.store_model.specs.declared.event.Event.TheVariants.{Call as Called}
use Rattle.store_model.specs.Records.{Evaluated, evaluation}
use Rattle.store_model.specs.Store.{Pair, all_pairs_changed, database_of}
use Rattle.store_model.specs.Indexes.{Numbered, all_changes, indexes_of, primary_of}
use Rattle.store_model.proofs.Rows.{all_changed-append}
use Rattle.je_answers.specs.declared.active.Active.{Active}
use Rattle.je_answers.specs.declared.wait.Wait.{Wait}
use Rattle.je_answers.specs.Standing.{Standing, active_of, with_at}
use Rattle.je_answers.specs.Views.{Target, changes_with, named_target, needs_in, of_db, outcome_of, seen_changes, target, view_in, with_numbers}
use Rattle.je_answers.specs.Refusals.{early_refusal, late_refusal}
use Rattle.je_answers.specs.Locking.{Queues, first_blocked}
use Rattle.je_answers.specs.Events.{IsAnswered, IsCallAnswered, IsEvaluated}
use Rattle.je_answers.specs.After.{Fate, fate_of, after_call, after_changes, after_evaluated, after_event, after_fate, after_on, after_run, after_taking, answered, closed, with_outcome}
use Rattle.je_answers.specs.After.Fate.{Succeeds}
use Rattle.je_answers.proofs.SameViews.{answered_changes}
use Rattle.load_laws.specs.Given.{is_refusal}
use Rattle.load_laws.specs.Stored.{put_among}
use Rattle.je_answers.specs.Numbers.{HaveNumbers}
use Rattle.load_laws.proofs.OwnLocks.{none_blocks}
use Rattle.load_laws.proofs.Phases.{IsInLoadAt, its_active, locks_after}
use Rattle.load_laws.proofs.LoadRefusals.{IsRefusing, put_early_refusing, put_late_refusing, put_no_index, succeeds}
use Rattle.load_laws.proofs.PutStores.{its_name, of_append, of_changes, others_of}

-- in its transaction a load has these records of its database
pub record HoldsAt (db : List ℕ) (d : Database) (held : List Pair) (store : Store) (numbers : List ℕ → ℕ) (own : ℕ → List (ℕ × RecordChange)) (actives : List Active) (waiting : List Wait) (at : Queues) : Type 0 where
  pub load : IsInLoadAt actives waiting at
  pub there : database_of db store ≡ Some d
  pub only : AllByRecursion (λ e. is_same_bytes e.name db ≡ true → e ≡ d) store.databases
  pub last : ℕ
  pub have : HaveNumbers store last numbers
  pub sees : all_pairs_changed d.kind (of_db (numbers db) (own load.active.txn.0)) d.pairs ≡ held

abbrev pub Holds : List ℕ → Database → List Pair → Standing → Type 0
Holds db d held st = HoldsAt db d held st.store st.numbers st.own st.actives st.waiting st.locks.at

-- ---- a put

at_itself : {X : Type 0} (n : ℕ) (x : X) (f : ℕ → X) → with_at n x f n ≡ x
at_itself n x f = ap (λ (b : Bool). cond b x (f n)) (eq-eqb n n refl)

module _ (db : List ℕ) (d : Database) (mode : PutMode) (pair : DumpPair) (held : List Pair) (st : Standing) (h : Holds db d held st) where
  abbrev its : Target
  its = target st.numbers st.store (st.numbers db) None d

  abbrev call : Call
  call = Put db pair.key pair.value mode

  abbrev active : Active
  active = h.load.active

  abbrev outcome : Evaluated
  outcome = outcome_of st active call its

  abbrev behind : List Pair
  behind = put_among db d.kind mode pair held

  -- its transaction sees the records that it has
  sees : view_in st active (st.numbers db, d) ≡ held
  sees = ap (λ (l : Isolation). all_pairs_changed d.kind (of_db (st.numbers db) (seen_changes l st active.txn.0)) d.pairs) h.load.level ∙ h.sees

  changes_are : outcome.changes ≡ (evaluation d.kind call None held).changes
  changes_are = ap (λ (ps : List Pair). (evaluation d.kind call None ps).changes) sees

  -- of what it changes its own changes are those of the call
  own_are : d.index ≡ None → of_db (st.numbers db) (with_numbers (changes_with st active its outcome.changes)) ≡ outcome.changes
  own_are none =
      let name = ap (λ (o : Option Index). option_map_or (λ (i : Index). i.primary) o d.name) none ∙ its_name db st.store d h.there in
      ap₂ (λ (o : Option Numbered) (is : List Numbered). of_db (st.numbers db) (with_numbers (all_changes o (st.numbers db, d) is (view_in st active) outcome.changes)))
      (ap (primary_of st.numbers st.store) none) (ap (indexes_of st.numbers st.store) name)
      ∙ of_changes (st.numbers db, d) (indexes_of st.numbers st.store db) (view_in st active) outcome.changes (others_of db st.store h.last st.numbers d h.have h.there none h.only)

  outcome_holds : d.index ≡ None → Holds db d behind (with_outcome active call its outcome (answered active call its st))
  outcome_holds none =
      let n = st.numbers db in
      let t = active.txn.0 in
      let now = answered active call its st in
      let more = with_numbers (changes_with now active its outcome.changes) in
      let more_is : of_db n more ≡ outcome.changes = ap (λ (l : List (Numbered × RecordChange)). of_db n (with_numbers l)) (answered_changes st active call its outcome.changes) ∙ own_are none in
      let all : of_db n (with_at t (st.own t ++ more) st.own t) ≡ of_db n (st.own t) ++ outcome.changes =
      ap (of_db n) (at_itself t (st.own t ++ more) st.own) ∙ of_append n (st.own t) more ∙ ap (λ (l : List RecordChange). of_db n (st.own t) ++ l) more_is in
      record {
        load = record {
          active = active;
          is = h.load.is;
          session = h.load.session;
          own = h.load.own;
          level = h.load.level;
          waits = h.load.waits;
          locks = locks_after active.level active.txn (needs_in st active call its) st.locks.at h.load.level h.load.locks;
        };
        there = h.there;
        only = h.only;
        last = h.last;
        have = h.have;
        sees = ap (λ (l : List RecordChange). all_pairs_changed d.kind l d.pairs) all ∙ all_changed-append d.kind (of_db n (st.own t)) outcome.changes d.pairs
            ∙ ap₂ (λ (cs : List RecordChange) (ps : List Pair). all_pairs_changed d.kind cs ps) changes_are h.sees;
      }

  closed_holds : (b : Bool) (changes : List Change) (now : Standing) → b ≡ false → Holds db d behind now → Holds db d behind (closed b active changes now)
  closed_holds false changes now e holds = holds
  closed_holds true changes now e holds = cc

  fate_holds : d.index ≡ None → Holds db d behind (after_fate Succeeds st st active call its outcome)
  fate_holds none = closed_holds active.is_auto _ (with_outcome active call its outcome (answered active call its st)) h.load.own (outcome_holds none)

  changes_hold : (changes : List RecordChange) (answer : Answer) → d.index ≡ None → fate_of answer ≡ Succeeds → Holds db d behind (after_changes changes st st active call its outcome answer)
  changes_hold [] answer none ok = fate_holds none
  changes_hold (change ∷ changes) answer none ok = subst (λ (f : Fate). Holds db d behind (after_fate f st st active call its outcome)) (sym ok) (fate_holds none)

  taking_holds : (o : Option Need) (line : ℕ) (answer : Answer) (victims : List Victim) → o ≡ None → d.index ≡ None → fate_of answer ≡ Succeeds → Holds db d behind (after_taking o st st active line call its answer victims)
  taking_holds None line answer victims e none ok = changes_hold outcome.changes answer none ok
  taking_holds (Some n) line answer victims e none ok = cc

  its_target : named_target st db ≡ Some its
  its_target = ap (option_map (target st.numbers st.store (st.numbers db) None)) h.there

  run_holds : (line : ℕ) (answer : Answer) (victims : List Victim) → d.index ≡ None → fate_of answer ≡ Succeeds → Holds db d behind (after_run (active_of 1 st.actives) st 1 line call answer victims)
  run_holds line answer victims none ok =
      subst (λ (o : Option Active). Holds db d behind (after_run o st 1 line call answer victims)) (sym (its_active st h.load))
      (subst (λ (o : Option Target). Holds db d behind (after_on o st st active line call answer victims)) (sym its_target)
      (taking_holds (first_blocked active.txn (needs_in st active call its) st.locks.at) line answer victims (none_blocks active.txn (needs_in st active call its) st.locks.at h.load.locks) none ok))

  late_holds : (kept : Bool) (late : Option Answer) (limit : Option Answer) (line : ℕ) (answer : Answer) (victims : List Victim) → late_refusal st 1 call ≡ late → IsRefusing kept late →
      IsEvaluated late limit st 1 line call answer victims → is_refusal kept answer ≡ false → Holds db d behind (after_evaluated late st 1 line call answer victims)
  late_holds kept (Some refusal) limit line answer victims e refusing is ok = absurd (true≢false (sym refusing ∙ ap (is_refusal kept) (sym is.0) ∙ ok))
  late_holds kept None limit line answer victims e refusing is ok = run_holds line answer victims (put_no_index st db pair.key pair.value mode its its_target e) (succeeds kept answer ok)

  early_holds : (kept : Bool) (early : Option Answer) (limit : Option Answer) (line : ℕ) (answer : Answer) (victims : List Victim) → IsRefusing kept early → IsCallAnswered early limit st 1 line call answer victims →
      is_refusal kept answer ≡ false → Holds db d behind (after_call early st 1 line call answer victims)
  early_holds kept (Some refusal) limit line answer victims refusing is ok = absurd (true≢false (sym refusing ∙ ap (is_refusal kept) (sym is.0) ∙ ok))
  early_holds kept None limit line answer victims refusing is ok =
      late_holds kept (late_refusal st 1 call) limit line answer victims refl (put_late_refusing kept st db pair.key pair.value mode) is ok

  -- a put that was not refused puts its pair among the records
  pub put_holds : (kept : Bool) (limit : Option Answer) (line : ℕ) (answer : Answer) (victims : List Victim) → IsAnswered limit st (Called 1 line (Put db pair.key pair.value mode) answer victims) → is_refusal kept answer ≡ false →
      Holds db d (put_among db d.kind mode pair held) (after_event st (Called 1 line (Put db pair.key pair.value mode) answer victims))
  put_holds kept limit line answer victims is ok = early_holds kept (early_refusal st 1 call) limit line answer victims (put_early_refusing kept st db pair.key pair.value mode) is ok
