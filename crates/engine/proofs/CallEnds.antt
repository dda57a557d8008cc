-- How a call ends where no other is under way, by what it comes to.
use Rattle.std.proofs.Common.{◌≡◌, ℕ, ◌+◌, ◌<◌, ◌≤◌, List, [], ◌∷◌, Bool, true, false, cond, nat_lt, Option, None, Some, option_map, is_some, refl, ap, sym, ◌∙◌, subst, arith, inl, inr}
use Rattle.std.proofs.lemmas.Bool.{ltb-true, ltb-false, true≢false}
use Rattle.std.proofs.lemmas.Option.{none-some}
use Rattle.store_model.specs.declared.store.TheConstants.{LAST_DATABASE, LAST_TXN}
use Rattle.store_model.specs.declared.store.Database.{Database}
use Rattle.store_model.specs.declared.store.Store.{Store}
use Rattle.store_model.specs.declared.call.Call.{Call}
use Rattle.store_model.specs.declared.call.Call.TheVariants.{List as Lists, Create, CreateIndex, Remove, Rename, Truncate, Get, GetBoth, Put, Delete}
use Rattle.store_model.specs.declared.change.Change.{Change}
use Rattle.store_model.specs.declared.change.Change.TheVariants.{Make, Remove as Removes, Rename as Renames, Empty}
use Rattle.store_model.specs.declared.record_change.RecordChange.{RecordChange}
use Rattle.store_model.specs.declared.record_change.RecordChange.TheVariants.{Set, Unset}
use Rattle.store_model.specs.declared.answer.Fault.{Fault}
use Rattle.store_model.specs.declared.answer.Answer.{Answer}
use Rattle.store_model.specs.declared.answer.Answer.TheVariants.{NoDatabase, Logged, LogFull, IdsEnded, DiskFault}
use Rattle.store_model.specs.declared.index.Index.{Index}
use Rattle.store_model.specs.Evaluation.{Outcome, answers, changes_by, emptying, evaluation, evaluation_in, indexing}
use Rattle.store_model.specs.Indexes.{Numbered, all_changes}
use Rattle.store_model.specs.Store.{database_of, change_in}
use Rattle.store_model.specs.Refusals.{made_by, or_refusal, access_refusal, is_primary}
use Rattle.db_catalog.specs.Planning.{outcome_unless}
use Rattle.je_answers.specs.Views.{Target, target, target_of, with_names}
use Rattle.je_answers.specs.Refusals.{there_refusal, name_refusal, target_refusal, late_refusal}
use Rattle.je_answers.specs.After.{fate_of}
use Rattle.je_answers.specs.Events.{AreChanged, IsChanged, database_limit, catalog_limit, IsDone, IsLogged, auto_active}
use Rattle.je_answers.specs.Alone.{Alone, alone, changes_of_call, evaluated_on, records_of, IsDoneOn, IsPerformedAlone, IsEvaluatedAlone, IsAnsweredAlone, drawn_alone, faulted_alone, committed_alone, fate_alone, changes_alone, target_alone, performed_alone, evaluated_alone, after_alone, IsAutoCommitted}
use Rattle.txn_core.specs.declared.planned.Planned.TheVariants.{Answered}
use Rattle.txn_core.specs.declared.planned_changes.PlannedChanges.{PlannedChanges}
use Rattle.txn_core.specs.Known.{Known}
use Rattle.txn_core.specs.Planning.{outcome_on, performed_outcome, HasModel, IsPlannedLog, IsPlanned}

-- under that limit of the log a call may answer this, and leaves the environment there
pub record EndsAlone (limit : Option Answer) (p : Alone) (session : ℕ) (call : Call) (answer : Answer) (after : Alone) : Type 0 where
  pub answers : IsAnsweredAlone p.fault limit p session call answer
  pub leaves : after_alone p.fault call p session answer ≡ after

-- a list with an item is not empty
abbrev has_item : {X : Type 0} → List X → Bool
has_item [] = false
has_item (x ∷ xs) = true

cons-nil : {X : Type 0} (x : X) (xs : List X) → x ∷ xs ≡ [] → ⊥
cons-nil x xs h = true≢false (ap has_item h)

-- ---- limits

-- what is logged meets this limit, by the database numbers that its changes allocate, unless the log has no room
abbrev numbers_end : ℕ → Option Answer
numbers_end last = cond (nat_lt LAST_DATABASE last) (Some IdsEnded) None

within : (last : ℕ) → last ≤ LAST_DATABASE → numbers_end last ≡ None
within last h = by_test (nat_lt LAST_DATABASE last) refl
  where
    by_test : (b : Bool) → nat_lt LAST_DATABASE last ≡ b → cond b (Some IdsEnded) None ≡ None
    by_test true e = let over = ltb-true LAST_DATABASE last e in absurd (omega (arith, over, h))
    by_test false e = refl

past : (last : ℕ) → LAST_DATABASE < last → numbers_end last ≡ Some IdsEnded
past last h = by_test (nat_lt LAST_DATABASE last) refl
  where
    by_test : (b : Bool) → nat_lt LAST_DATABASE last ≡ b → cond b (Some IdsEnded) None ≡ Some IdsEnded
    by_test true e = refl
    by_test false e = let under = ltb-false LAST_DATABASE last e in absurd (omega (arith, under, h))

-- ---- what was not refused

-- where neither refuses, the first does not and the second does not
pub no_refusal : (first second : Option Answer) → or_refusal first second ≡ None → (first ≡ None) × (second ≡ None)
no_refusal None second h = (refl, h)
no_refusal (Some refusal) second h = absurd (none-some refusal (sym h))

-- the second of no refusals, and none
refused_first : (first : Option Answer) → or_refusal first None ≡ first
refused_first None = refl
refused_first (Some refusal) = refl

-- a database whose access is not refused is there
pub is_there : (number rest : Option Answer) (o : Option Database) → or_refusal number (or_refusal (access_refusal (is_some o)) rest) ≡ None → (d : Database) × (o ≡ Some d)
is_there number rest None h = absurd (none-some NoDatabase (sym (no_refusal (Some NoDatabase) rest (no_refusal number (Some NoDatabase) h).1).0))
is_there number rest (Some d) h = (d, refl)

-- and so is the primary of an index that is not refused
is_indexed : (number rest : Option Answer) (o : Option Database) → or_refusal number (or_refusal (access_refusal (is_primary o)) rest) ≡ None → (d : Database) × (o ≡ Some d)
is_indexed number rest None h = absurd (none-some NoDatabase (sym (no_refusal (Some NoDatabase) rest (no_refusal number (Some NoDatabase) h).1).0))
is_indexed number rest (Some d) h = (d, refl)

-- ---- an answer without changes

-- what an answer alone says of an outcome
says : (o : Outcome) (answer : Answer) → o ≡ answers answer → answer ≡ o.answer
says o answer h = sym (ap (λ (x : Outcome). x.answer) h)

changes_nothing : (o : Outcome) (answer : Answer) → o ≡ answers answer → o.changes ≡ []
changes_nothing o answer h = ap (λ (x : Outcome). x.changes) h

-- a change of the catalog changes something
one_changes : (change : Change) (answer : Answer) → changes_by change ≡ answers answer → ⊥
one_changes change answer h = cons-nil change [] (changes_nothing (changes_by change) answer h)

-- the database of a number as what a call is on
abbrev target_in : Alone → ℕ → Database → Target
target_in p number d = target p.numbers p.store number None d

-- a call on records that changes nothing
done_only : (g : Target) (changes : List RecordChange) (limit : Option Answer) (p : Alone) (session : ℕ) (call : Call) (answer : Answer) →
    changes_of_call g changes ≡ [] → answer ≡ (evaluated_on call g).answer →
    IsDone changes limit (alone p) (auto_active (alone p) session) (evaluated_on call g) answer × (changes_alone changes g p answer ≡ drawn_alone p)
done_only g [] limit p session call answer none is = (is, refl)
done_only g (c ∷ cs) limit p session call answer none is = absurd (cons-nil _ _ none)

-- by the database that is there
on_answered : (number : ℕ) (o : Option Database) (d : Database) (limit : Option Answer) (p : Alone) (session : ℕ) (call : Call) (answer : Answer) →
    o ≡ Some d → outcome_on call (option_map (target_in p number) o) ≡ answers answer →
    IsDoneOn (option_map (target_in p number) o) limit p session call answer × (target_alone (option_map (target_in p number) o) call p answer ≡ drawn_alone p)
on_answered number None d limit p session call answer there e = absurd (none-some d there)
on_answered number (Some g) d limit p session call answer there e =
    done_only (target_in p number g) (evaluated_on call (target_in p number g)).changes limit p session call answer
    (changes_nothing (outcome_on call (Some (target_in p number g))) answer e) (says (outcome_on call (Some (target_in p number g))) answer e)

-- a call on the catalog's database that is there changes something
catalog_answered : (call : Call) (change : Change) (o : Option Database) (d : Database) (store : Store) (answer : Answer) →
    ((x : Database) → evaluation_in call store (Some x) ≡ changes_by change) → o ≡ Some d → evaluation_in call store o ≡ answers answer → ⊥
catalog_answered call change o d store answer by there e =
    one_changes change answer (sym (ap (evaluation_in call store) there ∙ by d) ∙ e)

-- an index is made with changes
index_answered : (db : List ℕ) (index : Index) (o : Option Database) (d : Database) (answer : Answer) → o ≡ Some d → indexing db index o ≡ answers answer → ⊥
index_answered db index None d answer there e = none-some d there
index_answered db index (Some x) d answer there e = cons-nil _ _ (changes_nothing (indexing db index (Some x)) answer e)

-- an index is not emptied
emptied_by : (db : List ℕ) (o : Option Index) (limit : Option Answer) (p : Alone) (answer : Answer) → emptying db o ≡ answers answer →
    IsChanged (emptying db o) limit (alone p) answer × (fate_alone (fate_of answer) (emptying db o).changes p ≡ drawn_alone p)
emptied_by db None limit p answer e = absurd (one_changes (Empty db) answer e)
emptied_by db (Some index) limit p answer e =
    (says (emptying db (Some index)) answer e, ap (λ (x : Answer). fate_alone (fate_of x) [] p) (says (emptying db (Some index)) answer e))

emptied_answered : (db : List ℕ) (o : Option Database) (d : Database) (limit : Option Answer) (p : Alone) (session : ℕ) (answer : Answer) → o ≡ Some d →
    evaluation_in (Truncate db) p.store o ≡ answers answer →
    IsChanged (evaluation_in (Truncate db) p.store o) limit (alone p) answer × (fate_alone (fate_of answer) (evaluation_in (Truncate db) p.store o).changes p ≡ drawn_alone p)
emptied_answered db None d limit p session answer there e = absurd (none-some d there)
emptied_answered db (Some x) d limit p session answer there e = emptied_by db x.index limit p answer e

performed_answered : (call : Call) (limit : Option Answer) (p : Alone) (session : ℕ) (answer : Answer) → IsAutoCommitted call → late_refusal (alone p) session call ≡ None →
    performed_outcome p session call ≡ answers answer → IsPerformedAlone call limit p session answer × (performed_alone call p session answer ≡ drawn_alone p)
performed_answered Lists limit p session answer is late e = (says (evaluation Lists p.store) answer e, refl)
performed_answered (Create db kind) limit p session answer is late e = absurd (one_changes (Make db kind) answer e)
performed_answered (CreateIndex db index) limit p session answer is late e =
    let there = is_indexed _ _ (database_of index.primary p.store) late in
    absurd (index_answered db index (database_of index.primary p.store) there.0 answer there.1 e)
performed_answered (Remove db) limit p session answer is late e =
    let there = is_there _ _ (database_of db p.store) late in
    absurd (catalog_answered (Remove db) (Removes db) (database_of db p.store) there.0 p.store answer (λ x. refl) there.1 e)
performed_answered (Rename db to) limit p session answer is late e =
    let there = is_there _ _ (database_of db p.store) late in
    absurd (catalog_answered (Rename db to) (Renames db to) (database_of db p.store) there.0 p.store answer (λ x. refl) there.1 e)
performed_answered (Truncate db) limit p session answer is late e =
    let there = is_there _ _ (database_of db p.store) late in
    emptied_answered db (database_of db p.store) there.0 limit p session answer there.1 e
performed_answered (Get db key rmw) limit p session answer is late e =
    let there = is_there _ _ (database_of db p.store) late in
    on_answered (p.numbers db) (database_of db p.store) there.0 limit p session (Get db key rmw) answer there.1 e
performed_answered (GetBoth db key value rmw) limit p session answer is late e =
    let there = is_there _ _ (database_of db p.store) late in
    on_answered (p.numbers db) (database_of db p.store) there.0 limit p session (GetBoth db key value rmw) answer there.1 e
performed_answered (Put db key value mode) limit p session answer is late e =
    let there = is_there _ _ (database_of db p.store) late in
    on_answered (p.numbers db) (database_of db p.store) there.0 limit p session (Put db key value mode) answer there.1 e
performed_answered (Delete db key) limit p session answer is late e =
    let there = is_there _ _ (database_of db p.store) late in
    on_answered (p.numbers db) (database_of db p.store) there.0 limit p session (Delete db key) answer there.1 e
performed_answered call limit p session answer is late e = absurd is

refused_or_answered : (late : Option Answer) (call : Call) (limit : Option Answer) (p : Alone) (session : ℕ) (answer : Answer) → IsAutoCommitted call →
    late_refusal (alone p) session call ≡ late → outcome_unless late (performed_outcome p session call) ≡ answers answer →
    IsEvaluatedAlone late limit p session call answer × (evaluated_alone late call p session answer ≡ drawn_alone p)
refused_or_answered (Some refusal) call limit p session answer is late e = (says (answers refusal) answer e, refl)
refused_or_answered None call limit p session answer is late e = performed_answered call limit p session answer is late e

-- ---- changes

-- a call that changes something: under no limit it is logged, and where the log has no room it says so
pub record LogsAlone (call : Call) (p : Alone) (session : ℕ) (changes : List Change) : Type 0 where
  pub logged : (answer : Answer) → p.last_db ≤ LAST_DATABASE → IsLogged (database_limit p.last_db changes) (Logged (p.commits + 1)) answer → IsPerformedAlone call None p session answer
  pub full : IsPerformedAlone call (Some LogFull) p session LogFull
  pub ended : IsPerformedAlone call (Some IdsEnded) p session IdsEnded
  pub leaves : (answer : Answer) → performed_alone call p session answer ≡ fate_alone (fate_of answer) changes p

-- where no number of a node is left for changes of the catalog
numbers_ended : (b : Bool) (due : Answer) → IsLogged (or_refusal (cond b (Some IdsEnded) None) (Some IdsEnded)) due IdsEnded
numbers_ended true due = refl
numbers_ended false due = refl

changed_as : (o : Outcome) (p : Alone) (limit : Option Answer) (change : Change) (more : List Change) (answer : Answer) → o.changes ≡ change ∷ more →
    IsLogged (catalog_limit limit (alone p) (change ∷ more)) (Logged (p.commits + 1)) answer → IsChanged o limit (alone p) answer
changed_as o p limit change more answer is h = subst (λ (l : List Change). AreChanged l o limit (alone p) answer) (sym is) h

changed_logged : (o : Outcome) (p : Alone) (change : Change) (more : List Change) → o.changes ≡ change ∷ more → (answer : Answer) → p.last_db ≤ LAST_DATABASE →
    IsLogged (database_limit p.last_db (change ∷ more)) (Logged (p.commits + 1)) answer → IsChanged o None (alone p) answer
changed_logged o p change more is answer low h =
    changed_as o p None change more answer is (subst (λ (l : Option Answer). IsLogged l (Logged (p.commits + 1)) answer) (sym (refused_first (database_limit p.last_db (change ∷ more)))) h)

changed_full : (o : Outcome) (p : Alone) (change : Change) (more : List Change) → o.changes ≡ change ∷ more → IsChanged o (Some LogFull) (alone p) LogFull
changed_full o p change more is = changed_as o p (Some LogFull) change more LogFull is refl

changed_ended : (o : Outcome) (p : Alone) (change : Change) (more : List Change) → o.changes ≡ change ∷ more → IsChanged o (Some IdsEnded) (alone p) IdsEnded
changed_ended o p change more is =
    changed_as o p (Some IdsEnded) change more IdsEnded is (numbers_ended (nat_lt LAST_DATABASE (p.last_db + made_by (change ∷ more))) (Logged (p.commits + 1)))

-- changes of records allocate no database number
first_makes_none : (name : List ℕ) (c : RecordChange) (changes : List Change) → made_by (change_in name c ∷ changes) ≡ made_by changes
first_makes_none name (Set at value) changes = refl
first_makes_none name (Unset at) changes = refl

pub records_make_none : (cs : List (Numbered × RecordChange)) → made_by (with_names cs) ≡ 0
records_make_none [] = refl
records_make_none (c ∷ cs) = first_makes_none c.0.1.name c.1 (with_names cs) ∙ records_make_none cs

-- the changes of records of a call, where they are some
record_logs : (g : Target) (cs : List RecordChange) (p : Alone) (session : ℕ) (call : Call) (change : Change) (more : List Change) →
    changes_of_call g cs ≡ change ∷ more →
    ((answer : Answer) → p.last_db ≤ LAST_DATABASE → IsLogged (database_limit p.last_db (change ∷ more)) (Logged (p.commits + 1)) answer →
    IsDone cs None (alone p) (auto_active (alone p) session) (evaluated_on call g) answer)
    × IsDone cs (Some LogFull) (alone p) (auto_active (alone p) session) (evaluated_on call g) LogFull
    × IsDone cs (Some IdsEnded) (alone p) (auto_active (alone p) session) (evaluated_on call g) IdsEnded
    × ((answer : Answer) → changes_alone cs g p answer ≡ fate_alone (fate_of answer) (change ∷ more) p)
record_logs g [] p session call change more is = absurd (cons-nil change more (sym is))
record_logs g (c ∷ cs) p session call change more is = (
  λ answer low h. subst (λ (l : Option Answer). IsLogged l (Logged (p.commits + 1)) answer)
      (ap (database_limit p.last_db) (sym is) ∙ within (p.last_db + made_by (changes_of_call g (c ∷ cs)))
      (let none : made_by (changes_of_call g (c ∷ cs)) ≡ 0 = records_make_none (all_changes g.over (g.db, g.database) g.indexes records_of (c ∷ cs)) in omega (arith, low, none))) h,
  refl,
  refl,
  λ answer. ap (λ (l : List Change). fate_alone (fate_of answer) l p) is,
)

on_logged : (number : ℕ) (o : Option Database) (d : Database) (p : Alone) (session : ℕ) (call : Call) (change : Change) (more : List Change) →
    o ≡ Some d → (outcome_on call (option_map (target_in p number) o)).changes ≡ change ∷ more →
    ((answer : Answer) → p.last_db ≤ LAST_DATABASE → IsLogged (database_limit p.last_db (change ∷ more)) (Logged (p.commits + 1)) answer →
    IsDoneOn (option_map (target_in p number) o) None p session call answer)
    × IsDoneOn (option_map (target_in p number) o) (Some LogFull) p session call LogFull
    × IsDoneOn (option_map (target_in p number) o) (Some IdsEnded) p session call IdsEnded
    × ((answer : Answer) → target_alone (option_map (target_in p number) o) call p answer ≡ fate_alone (fate_of answer) (change ∷ more) p)
on_logged number None d p session call change more there is = absurd (none-some d there)
on_logged number (Some x) d p session call change more there is =
    record_logs (target_in p number x) (evaluated_on call (target_in p number x)).changes p session call change more is

performed_logs : (call : Call) (p : Alone) (session : ℕ) (change : Change) (more : List Change) → IsAutoCommitted call → late_refusal (alone p) session call ≡ None →
    (performed_outcome p session call).changes ≡ change ∷ more → LogsAlone call p session (change ∷ more)
performed_logs Lists p session change more is late e = absurd (cons-nil change more (sym e))
performed_logs (Create db kind) p session change more is late e =
    let o : Outcome = evaluation (Create db kind) p.store in
    record {
      logged = changed_logged o p change more e;
      full = changed_full o p change more e;
      ended = changed_ended o p change more e;
      leaves = λ answer. ap (λ (l : List Change). fate_alone (fate_of answer) l p) e;
    }
performed_logs (CreateIndex db index) p session change more is late e =
    let o : Outcome = evaluation (CreateIndex db index) p.store in
    record {
      logged = changed_logged o p change more e;
      full = changed_full o p change more e;
      ended = changed_ended o p change more e;
      leaves = λ answer. ap (λ (l : List Change). fate_alone (fate_of answer) l p) e;
    }
performed_logs (Remove db) p session change more is late e =
    let o : Outcome = evaluation (Remove db) p.store in
    record {
      logged = changed_logged o p change more e;
      full = changed_full o p change more e;
      ended = changed_ended o p change more e;
      leaves = λ answer. ap (λ (l : List Change). fate_alone (fate_of answer) l p) e;
    }
performed_logs (Rename db to) p session change more is late e =
    let o : Outcome = evaluation (Rename db to) p.store in
    record {
      logged = changed_logged o p change more e;
      full = changed_full o p change more e;
      ended = changed_ended o p change more e;
      leaves = λ answer. ap (λ (l : List Change). fate_alone (fate_of answer) l p) e;
    }
performed_logs (Truncate db) p session change more is late e =
    let o : Outcome = evaluation (Truncate db) p.store in
    record {
      logged = changed_logged o p change more e;
      full = changed_full o p change more e;
      ended = changed_ended o p change more e;
      leaves = λ answer. ap (λ (l : List Change). fate_alone (fate_of answer) l p) e;
    }
performed_logs (Get db key rmw) p session change more is late e =
    let there = is_there _ _ (database_of db p.store) late in
    let on = on_logged (p.numbers db) (database_of db p.store) there.0 p session (Get db key rmw) change more there.1 e in
    record { logged = on.0; full = on.1; ended = on.2; leaves = on.3 }
performed_logs (GetBoth db key value rmw) p session change more is late e =
    let there = is_there _ _ (database_of db p.store) late in
    let on = on_logged (p.numbers db) (database_of db p.store) there.0 p session (GetBoth db key value rmw) change more there.1 e in
    record { logged = on.0; full = on.1; ended = on.2; leaves = on.3 }
performed_logs (Put db key value mode) p session change more is late e =
    let there = is_there _ _ (database_of db p.store) late in
    let on = on_logged (p.numbers db) (database_of db p.store) there.0 p session (Put db key value mode) change more there.1 e in
    record { logged = on.0; full = on.1; ended = on.2; leaves = on.3 }
performed_logs (Delete db key) p session change more is late e =
    let there = is_there _ _ (database_of db p.store) late in
    let on = on_logged (p.numbers db) (database_of db p.store) there.0 p session (Delete db key) change more there.1 e in
    record { logged = on.0; full = on.1; ended = on.2; leaves = on.3 }
performed_logs call p session change more is late e = absurd is

-- a call that changes something was not refused
not_refused : (late : Option Answer) (o : Outcome) (change : Change) (more : List Change) → (outcome_unless late o).changes ≡ change ∷ more → (late ≡ None) × (o.changes ≡ change ∷ more)
not_refused None o change more e = (refl, e)
not_refused (Some refusal) o change more e = absurd (cons-nil change more (sym e))

-- where a call was not refused, and no fault came before
alone_ends : (fault : Option Fault) (late : Option Answer) (limit : Option Answer) (p : Alone) (session : ℕ) (call : Call) (answer : Answer) (after : Alone) →
    p.fault ≡ None → late_refusal (alone p) session call ≡ None → IsPerformedAlone call limit p session answer → performed_alone call p session answer ≡ after →
    EndsAlone limit p session call answer after
alone_ends fault late limit p session call answer after none some may leaves = record {
  answers = subst (λ (f : Option Fault). IsAnsweredAlone f limit p session call answer) (sym none)
      (subst (λ (r : Option Answer). IsEvaluatedAlone r limit p session call answer) (sym some) may);
  leaves = ap (λ (f : Option Fault). after_alone f call p session answer) none ∙ ap (λ (r : Option Answer). evaluated_alone r call p session answer) some ∙ leaves;
}

-- ---- how a call ends

-- an answer that changes nothing
pub answered_ends : (limit : Option Answer) (known : Known) (p : Alone) (session : ℕ) (call : Call) (answer : Answer) → p.fault ≡ None → IsAutoCommitted call →
    IsPlanned known p session call (Answered answer) → EndsAlone limit p session call answer (drawn_alone p)
answered_ends limit known p session call answer none is e =
    let ends = refused_or_answered (late_refusal (alone p) session call) call limit p session answer is refl e in
    record {
      answers = subst (λ (f : Option Fault). IsAnsweredAlone f limit p session call answer) (sym none) ends.0;
      leaves = ap (λ (f : Option Fault). after_alone f call p session answer) none ∙ ends.1;
    }

pub logs_alone : (known : Known) (p : Alone) (session : ℕ) (call : Call) (planned : PlannedChanges) → IsAutoCommitted call → (log : IsPlannedLog known p session call planned) →
    (late_refusal (alone p) session call ≡ None) × LogsAlone call p session (log.change ∷ log.more)
logs_alone known p session call planned is log =
    let some = not_refused (late_refusal (alone p) session call) (performed_outcome p session call) log.change log.more log.changes in
    (some.0, performed_logs call p session log.change log.more is some.0 some.1)

-- the log has no room
pub full_ends : (known : Known) (p : Alone) (session : ℕ) (call : Call) (planned : PlannedChanges) → p.fault ≡ None → IsAutoCommitted call →
    IsPlannedLog known p session call planned → EndsAlone (Some LogFull) p session call LogFull (drawn_alone p)
full_ends known p session call planned none is log =
    let logs = logs_alone known p session call planned is log in
    alone_ends p.fault None (Some LogFull) p session call LogFull (drawn_alone p) none logs.0 logs.1.full (logs.1.leaves LogFull)

-- no number of a node is left
pub ended_ends : (known : Known) (p : Alone) (session : ℕ) (call : Call) (planned : PlannedChanges) → p.fault ≡ None → IsAutoCommitted call →
    IsPlannedLog known p session call planned → EndsAlone (Some IdsEnded) p session call IdsEnded (drawn_alone p)
ended_ends known p session call planned none is log =
    let logs = logs_alone known p session call planned is log in
    alone_ends p.fault None (Some IdsEnded) p session call IdsEnded (drawn_alone p) none logs.0 logs.1.ended (logs.1.leaves IdsEnded)

-- where the log has room: an answer that the numbers let through
some_end : (known : Known) (p : Alone) (session : ℕ) (call : Call) (planned : PlannedChanges) (answer : Answer) (after : Alone) → p.fault ≡ None → IsAutoCommitted call →
    (log : IsPlannedLog known p session call planned) → p.last_db ≤ LAST_DATABASE → IsLogged (database_limit p.last_db (log.change ∷ log.more)) (Logged (p.commits + 1)) answer →
    fate_alone (fate_of answer) (log.change ∷ log.more) p ≡ after → EndsAlone None p session call answer after
some_end known p session call planned answer after none is log low may leaves =
    let logs = logs_alone known p session call planned is log in
    alone_ends p.fault None None p session call answer after none logs.0 (logs.1.logged answer low may) (logs.1.leaves answer ∙ leaves)

-- the last number of a database after the changes, as the model has it
last_is : (known : Known) (p : Alone) (session : ℕ) (call : Call) (planned : PlannedChanges) → HasModel known p → (log : IsPlannedLog known p session call planned) →
    p.last_db + made_by (log.change ∷ log.more) ≡ planned.last_db
last_is known p session call planned has log = ap (λ n. n + made_by (log.change ∷ log.more)) (sym has.last_db) ∙ sym log.last_db

-- the changes are logged
pub logged_ends : (known : Known) (p : Alone) (session : ℕ) (call : Call) (planned : PlannedChanges) → p.fault ≡ None → IsAutoCommitted call → HasModel known p →
    (log : IsPlannedLog known p session call planned) → planned.last_db ≤ LAST_DATABASE →
    EndsAlone None p session call (Logged (p.commits + 1)) (committed_alone (log.change ∷ log.more) (drawn_alone p))
logged_ends known p session call planned none is has log low =
    let last = last_is known p session call planned has log in
    some_end known p session call planned (Logged (p.commits + 1)) (committed_alone (log.change ∷ log.more) (drawn_alone p)) none is log (omega (arith, last, low))
    (subst (λ (l : Option Answer). IsLogged l (Logged (p.commits + 1)) (Logged (p.commits + 1)))
    (sym (within (p.last_db + made_by (log.change ∷ log.more)) (omega (arith, last, low)))) (inl refl)) refl

-- the disk fails
pub fault_ends : (known : Known) (p : Alone) (session : ℕ) (call : Call) (planned : PlannedChanges) → p.fault ≡ None → IsAutoCommitted call → HasModel known p →
    IsPlannedLog known p session call planned → planned.last_db ≤ LAST_DATABASE → EndsAlone None p session call DiskFault (faulted_alone p)
fault_ends known p session call planned none is has log low =
    let last = last_is known p session call planned has log in
    some_end known p session call planned DiskFault (faulted_alone p) none is log (omega (arith, last, low))
    (subst (λ (l : Option Answer). IsLogged l (Logged (p.commits + 1)) DiskFault)
    (sym (within (p.last_db + made_by (log.change ∷ log.more)) (omega (arith, last, low)))) (inr refl)) refl

-- no number is left for a database
pub ids_ends : (known : Known) (p : Alone) (session : ℕ) (call : Call) (planned : PlannedChanges) → p.fault ≡ None → IsAutoCommitted call → HasModel known p →
    IsPlannedLog known p session call planned → known.last_db ≤ LAST_DATABASE → LAST_DATABASE < planned.last_db → EndsAlone None p session call IdsEnded (drawn_alone p)
ids_ends known p session call planned none is has log low over =
    let last = last_is known p session call planned has log in
    let last_db = has.last_db in
    some_end known p session call planned IdsEnded (drawn_alone p) none is log (omega (arith, last_db, low))
    (subst (λ (l : Option Answer). IsLogged l (Logged (p.commits + 1)) IdsEnded)
    (sym (past (p.last_db + made_by (log.change ∷ log.more)) (omega (arith, last, over)))) refl) refl

-- no number is left for a transaction
no_number : (last : ℕ) → LAST_TXN ≤ last → nat_lt last LAST_TXN ≡ false
no_number last h = by_test (nat_lt last LAST_TXN) refl
  where
    by_test : (b : Bool) → nat_lt last LAST_TXN ≡ b → b ≡ false
    by_test true e = let under = ltb-true last LAST_TXN e in absurd (omega (arith, under, h))
    by_test false e = refl

pub no_number_ends : (limit : Option Answer) (p : Alone) (session : ℕ) (call : Call) → p.fault ≡ None → LAST_TXN ≤ p.last_txn → EndsAlone limit p session call IdsEnded p
no_number_ends limit p session call none over =
    let test = no_number p.last_txn over in
    let late : late_refusal (alone p) session call ≡ Some IdsEnded =
    ap (λ (b : Bool). or_refusal (cond b None (Some IdsEnded)) (or_refusal (there_refusal (alone p) session call) (or_refusal (name_refusal (alone p) session call) (target_refusal call (target_of (alone p) session call))))) test in
    let at : ℕ → Alone = λ last. record p { last_txn = last } in
    record {
      answers = subst (λ (f : Option Fault). IsAnsweredAlone f limit p session call IdsEnded) (sym none)
          (subst (λ (r : Option Answer). IsEvaluatedAlone r limit p session call IdsEnded) (sym late) refl);
      leaves = ap (λ (f : Option Fault). after_alone f call p session IdsEnded) none ∙ ap (λ (r : Option Answer). evaluated_alone r call p session IdsEnded) late
          ∙ ap (λ (b : Bool). at (cond b (p.last_txn + 1) p.last_txn)) test;
    }
