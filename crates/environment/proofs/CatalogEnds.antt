-- How a change of the catalog ends where others are under way.
use Rattle.std.proofs.Common.{◌≡◌, ◌∙◌, ◌⊎◌, inl, ◌≤◌, ◌<◌, ◌+◌, ℕ, Bool, true, false, true≢false, cond, nat_lt, List, [], ◌∷◌, Option, None, Some, Ok, Err, ap, refl, sym, subst, arith}
use Rattle.txn_log.proofs.AtStandingLaws.{same_under}
use Rattle.std.specs.Prelude.{IfNone, IfOk, IfSome, Result, is_some, length, nat_le}
use Rattle.std.specs.List.{list_any}
use Rattle.store_model.specs.Indexes.{is_index_of}
use mathlib.Core.Path.{fun_ext}
use Rattle.log_buffer.specs.Flip.{pos_lsn}
use Rattle.std.specs.declared.alloc.AllocError.{AllocError}
use Rattle.std.proofs.lemmas.Bool.{lt-ltb}
use Rattle.je_disk.specs.DiskMeaning.{DiskMeaning}
use Rattle.je_disk.specs.Moments.{now}
use Rattle.je_order.specs.declared.txn_id.TxnId.{TxnId}
use Rattle.store_model.specs.declared.store.Database.{Database}
use Rattle.store_model.specs.declared.store.TheConstants.{LAST_TXN, MOST_DATABASES}
use Rattle.store_model.specs.declared.answer.Answer.{Answer}
use Rattle.store_model.specs.declared.answer.Answer.TheVariants.{DatabaseInUse, IdsEnded, DiskFault, ReadOnlyIndex, TooMany}
use Rattle.store_model.specs.declared.answer.Fault.{Fault}
use Rattle.store_model.specs.declared.answer.Fault.TheVariants.{Disk}
use Rattle.store_model.specs.declared.call.Call.{Call}
use Rattle.store_model.specs.declared.call.Call.TheVariants.{Create, CreateIndex, Remove, Rename, Truncate}
use Rattle.store_model.specs.declared.change.Change.{Change}
use Rattle.store_model.specs.declared.change.Change.TheVariants.{Make, Remove as Removes, Rename as Renames, Empty}
use Rattle.store_model.specs.declared.index.Index.{Index}
use Rattle.store_model.specs.Evaluation.{emptying, indexing, Outcome, answers, evaluation, evaluation_in}
use Rattle.store_model.specs.Refusals.{access_refusal, creation_refusal, indexed_refusal, is_primary, next_txn, or_refusal, taken_refusal}
use Rattle.store_model.specs.Store.{database_of}
use Rattle.db_catalog.specs.Planning.{outcome_unless}
use Rattle.je_answers.specs.declared.active.Active.{Active}
use Rattle.je_answers.specs.After.{after_evaluated, fate_of}
use Rattle.je_answers.specs.Alone.{Alone, IsAutoCommitted, IsAnsweredAlone, IsEvaluatedAlone, after_alone, alone, drawn_alone, evaluated_alone}
use Rattle.je_answers.specs.Events.{IsEvaluated}
use Rattle.je_answers.specs.Journal.{changes_evaluated, is_disk_fault, tried}
use Rattle.je_answers.specs.Locking.{IsAwaited, IsLeastUser, IsUnused}
use Rattle.je_answers.specs.Refusals.{early_refusal, late_refusal, name_refusal, number_refusal, target_refusal, there_refusal}
use Rattle.je_answers.specs.Standing.{Standing, active_of}
use Rattle.je_answers.specs.Views.{target_of}
use Rattle.log_file.specs.Log.{Log}
use Rattle.log_buffer.specs.Buffer.{disk_of as disk_below, end_of}
use Rattle.log_replay.specs.Rows.{Rows}
use Rattle.in_tree.specs.Observed.{cells_of, has_tree_of}
use Rattle.open_cursors.specs.declared.open_cursors.OpenCursors.{OpenCursors}
use Rattle.sessions.specs.AtStanding.{AreCursorsOn, owing}
use Rattle.sessions.proofs.CursorStores.{under_kept}
use Rattle.standing_laws.specs.Right.{AreSound, IsUnder}
use Rattle.standing_laws.proofs.CursorDatabases.{under_evaluated}
use Rattle.txn_core.specs.declared.planned.Planned.TheVariants.{Answered}
use Rattle.txn_core.specs.Known.{committed}
use Rattle.txn_core.specs.Planning.{HasModel, IsPlanned, outcome_alone, performed_outcome}
use Rattle.txn_log.specs.Gives.{GivesRecordsWith}
use Rattle.engine.specs.Contents.{known}
use Rattle.engine.specs.Environment.{AreAlone, GivesRecords}
use Rattle.engine.specs.Limits.{IsWithin, reach_after}
use Rattle.engine.specs.Steps.{IsNumbered}
use Rattle.engine.specs.Whole.{contents_of}
use Rattle.engine.proofs.CallEnds.{EndsAlone, answered_ends, is_there, no_number_ends}
use Rattle.engine.proofs.CallLaws.{model}
use Rattle.engine.proofs.CalmAnswers.{IsCalm, faultless, is_loud, outcome_calm, unnumbered}
use Rattle.engine.proofs.TxnGives.{gives_alone}
use Rattle.environment.specs.declared.environment.Environment.{Environment}
use Rattle.environment.specs.Calls.{ChangesCatalog}
use Rattle.environment.specs.Catalog.{IsFreeToChange, IsUsedBy, IsUserOf, changed_number, IsUserBefore}
use Rattle.environment.specs.Limits.{owing_with, written_evaluated}
use Rattle.environment.specs.Steps.{Appends, HasCome, IsCallStep, PerformsAnswer, StandsAt}
use Rattle.environment.specs.Valid.{active_number, fitting, Lives}
use Rattle.environment.specs.Whole.{CanGoOn, HasLimit, reach_of}
use Rattle.environment.proofs.Answering.{within_more}
use Rattle.environment.proofs.BeginLaws.{next_is, none_left, with_begun}
use Rattle.environment.proofs.CatalogStanding.{alone_of, answers_alike, late_alike, leaves_alike, outside, with_alone}
use Rattle.environment.proofs.EarlyLaws.{same_buffer, same_reach}
use Rattle.environment.proofs.ListLaws.{drawn_at}
use Rattle.environment.proofs.Bases.{lives_at}

-- ---- a change of the catalog is a transaction of its own

pub auto_is : (call : Call) → ChangesCatalog call → IsAutoCommitted call
auto_is (Create db kind) is = tt
auto_is (CreateIndex db index) is = tt
auto_is (Remove db) is = tt
auto_is (Rename db to) is = tt
auto_is (Truncate db) is = tt
auto_is call is = absurd is

-- what it writes and what it is to commit are what it comes to
pub committed_are : (late : Option Answer) (st : Standing) (session : ℕ) (call : Call) → ChangesCatalog call →
    changes_evaluated late st session call ≡ (outcome_unless late (performed_outcome (alone_of st) session call)).changes
committed_are (Some refusal) st session call is = refl
committed_are None st session (Create db kind) is = refl
committed_are None st session (CreateIndex db index) is = refl
committed_are None st session (Remove db) is = refl
committed_are None st session (Rename db to) is = refl
committed_are None st session (Truncate db) is = refl
committed_are None st session call is = absurd is

pub written_are : (late : Option Answer) (st : Standing) (session : ℕ) (call : Call) → ChangesCatalog call →
    written_evaluated late st session call ≡ (outcome_unless late (performed_outcome (alone_of st) session call)).changes
written_are (Some refusal) st session call is = refl
written_are None st session (Create db kind) is = refl
written_are None st session (CreateIndex db index) is = refl
written_are None st session (Remove db) is = refl
written_are None st session (Rename db to) is = refl
written_are None st session (Truncate db) is = refl
written_are None st session call is = absurd is

-- no number is left
ended_late : (p : Alone) (session : ℕ) (call : Call) → nat_lt p.last_txn LAST_TXN ≡ false → late_refusal (alone p) session call ≡ Some IdsEnded
ended_late p session call ended =
    ap (λ (b : Bool). or_refusal (cond b None (Some IdsEnded)) (or_refusal (there_refusal (alone p) session call) (or_refusal (name_refusal (alone p) session call) (target_refusal call (target_of (alone p) session call))))) ended

-- where nothing refuses it, it changes something
by_one : (o : Outcome) (answer : Answer) (change : Change) → o.changes ≡ change ∷ [] → o ≡ answers answer → ⊥
by_one o answer change one is = let none : change ∷ [] ≡ [] = sym one ∙ ap (λ (x : Outcome). x.changes) is in absurd cc

removes_one : (db : List ℕ) (p : Alone) (o : Option Database) (d : Database) (answer : Answer) → o ≡ Some d → evaluation_in (Remove db) p.store o ≡ answers answer → ⊥
removes_one db p None d answer there is = absurd cc
removes_one db p (Some e) d answer there is = by_one (evaluation_in (Remove db) p.store (Some e)) answer (Removes db) refl is

renames_one : (db to : List ℕ) (p : Alone) (o : Option Database) (d : Database) (answer : Answer) → o ≡ Some d → evaluation_in (Rename db to) p.store o ≡ answers answer → ⊥
renames_one db to p None d answer there is = absurd cc
renames_one db to p (Some e) d answer there is = by_one (evaluation_in (Rename db to) p.store (Some e)) answer (Renames db to) refl is

empties_one : (db : List ℕ) (p : Alone) (o : Option Database) (d : Database) (answer : Answer) → o ≡ Some d → evaluation_in (Truncate db) p.store o ≡ answers answer → answer ≡ ReadOnlyIndex
empties_one db p None d answer there is = absurd cc
empties_one db p (Some e) d answer there is = by_index e.index is
  where
    by_index : (i : Option Index) → emptying db i ≡ answers answer → answer ≡ ReadOnlyIndex
    by_index None h = absurd (by_one (emptying db None) answer (Empty db) refl h)
    by_index (Some index) h = sym (ap (λ (x : Outcome). x.answer) h)

indexes_some : (db : List ℕ) (index : Index) (o : Option Database) (answer : Answer) → is_primary o ≡ true → indexing db index o ≡ answers answer → ⊥
indexes_some db index None answer there is = true≢false (sym there)
indexes_some db index (Some primary) answer there is = let none : (indexing db index (Some primary)).changes ≡ [] = ap (λ (x : Outcome). x.changes) is in absurd cc

primary_there : (first rest : Option Answer) (b : Bool) → or_refusal first (or_refusal (access_refusal b) rest) ≡ None → b ≡ true
primary_there (Some x) rest b none = absurd cc
primary_there None rest true none = refl
primary_there None rest false none = absurd cc

-- what nothing refuses changes something, but for an index that is not emptied
unrefused : (p : Alone) (session : ℕ) (call : Call) (answer : Answer) → ChangesCatalog call → late_refusal (alone p) session call ≡ None → performed_outcome p session call ≡ answers answer → answer ≡ ReadOnlyIndex
unrefused p session (Create db kind) answer is none e = absurd (by_one (evaluation (Create db kind) p.store) answer (Make db kind) refl e)
unrefused p session (CreateIndex db index) answer is none e =
    absurd (indexes_some db index (database_of index.primary p.store) answer (primary_there (number_refusal p.last_txn None) _ (is_primary (database_of index.primary p.store)) none) e)
unrefused p session (Remove db) answer is none e =
    let there = is_there (number_refusal p.last_txn None) _ (database_of db p.store) none in
    absurd (removes_one db p (database_of db p.store) there.0 answer there.1 e)
unrefused p session (Rename db to) answer is none e =
    let there = is_there (number_refusal p.last_txn None) _ (database_of db p.store) none in
    absurd (renames_one db to p (database_of db p.store) there.0 answer there.1 e)
unrefused p session (Truncate db) answer is none e =
    let there = is_there (number_refusal p.last_txn None) _ (database_of db p.store) none in
    empties_one db p (database_of db p.store) there.0 answer there.1 e
unrefused p session call answer is none e = absurd is

-- and no refusal says that
not_taken : (b : Bool) → taken_refusal b ≡ Some ReadOnlyIndex → ⊥
not_taken true is = absurd cc
not_taken false is = absurd cc

not_indexed : (b : Bool) → indexed_refusal b ≡ Some ReadOnlyIndex → ⊥
not_indexed true is = absurd cc
not_indexed false is = absurd cc

not_many : (b : Bool) → (cond b (Some (TooMany MOST_DATABASES)) None) ≡ Some ReadOnlyIndex → ⊥
not_many true is = absurd cc
not_many false is = absurd cc

not_created : (taken : Bool) (count : ℕ) → creation_refusal taken count ≡ Some ReadOnlyIndex → ⊥
not_created true count is = absurd cc
not_created false count is = not_many (nat_le MOST_DATABASES count) is

not_there : (b : Bool) → access_refusal b ≡ Some ReadOnlyIndex → ⊥
not_there true is = absurd cc
not_there false is = absurd cc

not_numbered : (last : ℕ) → number_refusal last None ≡ Some ReadOnlyIndex → ⊥
not_numbered last is = by (nat_lt last LAST_TXN) is
  where
    by : (b : Bool) → cond b None (Some IdsEnded) ≡ Some ReadOnlyIndex → ⊥
    by true e = absurd cc
    by false e = absurd cc

none_of_both : (first second : Option Answer) (a : Answer) → (first ≡ Some a → ⊥) → (second ≡ Some a → ⊥) → or_refusal first second ≡ Some a → ⊥
none_of_both None second a no_first no_second is = no_second is
none_of_both (Some x) second a no_first no_second is = no_first is

not_none : None ≡ Some ReadOnlyIndex → ⊥
not_none is = absurd cc

never_read_only : (p : Alone) (session : ℕ) (call : Call) → ChangesCatalog call → late_refusal (alone p) session call ≡ Some ReadOnlyIndex → ⊥
never_read_only p session (Create db kind) is late =
    none_of_both (number_refusal p.last_txn None) _ ReadOnlyIndex (not_numbered p.last_txn)
    (none_of_both (creation_refusal (is_some (database_of db p.store)) (length p.store.databases)) None ReadOnlyIndex (not_created (is_some (database_of db p.store)) (length p.store.databases)) not_none) late
never_read_only p session (CreateIndex db index) is late =
    none_of_both (number_refusal p.last_txn None) _ ReadOnlyIndex (not_numbered p.last_txn)
    (none_of_both (access_refusal (is_primary (database_of index.primary p.store))) _ ReadOnlyIndex (not_there (is_primary (database_of index.primary p.store)))
    (none_of_both (creation_refusal (is_some (database_of db p.store)) (length p.store.databases)) None ReadOnlyIndex (not_created (is_some (database_of db p.store)) (length p.store.databases)) not_none)) late
never_read_only p session (Remove db) is late =
    none_of_both (number_refusal p.last_txn None) _ ReadOnlyIndex (not_numbered p.last_txn)
    (none_of_both (access_refusal (is_some (database_of db p.store))) _ ReadOnlyIndex (not_there (is_some (database_of db p.store)))
    (none_of_both (indexed_refusal (list_any (is_index_of db) p.store.databases)) None ReadOnlyIndex (not_indexed (list_any (is_index_of db) p.store.databases)) not_none)) late
never_read_only p session (Rename db to) is late =
    none_of_both (number_refusal p.last_txn None) _ ReadOnlyIndex (not_numbered p.last_txn)
    (none_of_both (access_refusal (is_some (database_of db p.store))) _ ReadOnlyIndex (not_there (is_some (database_of db p.store)))
    (none_of_both (taken_refusal (is_some (database_of to p.store))) None ReadOnlyIndex (not_taken (is_some (database_of to p.store))) not_none)) late
never_read_only p session (Truncate db) is late =
    none_of_both (number_refusal p.last_txn None) _ ReadOnlyIndex (not_numbered p.last_txn)
    (none_of_both (access_refusal (is_some (database_of db p.store))) _ ReadOnlyIndex (not_there (is_some (database_of db p.store)))
    (none_of_both (indexed_refusal (list_any (is_index_of db) p.store.databases)) None ReadOnlyIndex (not_indexed (list_any (is_index_of db) p.store.databases)) not_none)) late
never_read_only p session call is late = absurd is

-- so nothing refuses a call that is answered so
pub read_only_late : (p : Alone) (session : ℕ) (call : Call) → ChangesCatalog call → outcome_alone p session call ≡ answers ReadOnlyIndex → late_refusal (alone p) session call ≡ None
read_only_late p session call is e = by (late_refusal (alone p) session call) refl e
  where
    by : (o : Option Answer) → late_refusal (alone p) session call ≡ o → outcome_unless o (performed_outcome p session call) ≡ answers ReadOnlyIndex → o ≡ None
    by None late h = refl
    by (Some a) late h = absurd (never_read_only p session call is (late ∙ ap (λ (o : Outcome). Some o.answer) h))

-- ---- who uses its database

-- who is told before an answer without changes
pub user_first : (st : Standing) (call : Call) (answer : Answer) (r : Result (Option TxnId) AllocError) → answer ≡ ReadOnlyIndex → IfOk r (IsUserOf st call) → IfOk r (IsUserBefore st call answer)
user_first st call answer (Ok None) is free = λ h. free
user_first st call answer (Ok (Some t)) is used = (is, used)
user_first st call answer (Err error) is h = tt

user_by : (st : Standing) (db : List ℕ) (number : ℕ) (o : Option TxnId) (call : Call) → number ≡ st.numbers db →
    (IsUnused st (st.numbers db) → IsFreeToChange st call) → ((t : TxnId) → IsLeastUser st (st.numbers db) t ⊎ IsAwaited st (st.numbers db) t → IsUsedBy st call t) →
    IfNone o (IsUnused st number) → IfSome o (λ t. IsLeastUser st number t ⊎ IsAwaited st number t) → IsUserOf st call o
user_by st db number None call is free used none some = free (subst (IsUnused st) is none)
user_by st db number (Some t) call is free used none some = used t (subst (λ (n : ℕ). IsLeastUser st n t ⊎ IsAwaited st n t) is some)

number_is : (numbers : List ℕ → ℕ) (st : Standing) (db : List ℕ) (number : ℕ) → Some number ≡ Some (numbers db) → ((name : List ℕ) → numbers name ≡ st.numbers name) → number ≡ st.numbers db
number_is numbers st db number is named = by_some number (numbers db) is ∙ named db
  where
    by_some : (x y : ℕ) → Some x ≡ Some y → x ≡ y
    by_some x y e = ap (λ (o : Option ℕ). unwrap_zero o) e
      where
        unwrap_zero : Option ℕ → ℕ
        unwrap_zero None = 0
        unwrap_zero (Some n) = n

pub user_is : (st : Standing) (numbers : List ℕ → ℕ) (call : Call) (number : ℕ) (o : Option TxnId) → ChangesCatalog call → ((name : List ℕ) → numbers name ≡ st.numbers name) →
    Some number ≡ changed_number numbers call → IfNone o (IsUnused st number) → IfSome o (λ t. IsLeastUser st number t ⊎ IsAwaited st number t) → IsUserOf st call o
user_is st numbers (Create db kind) number o is named e none some = absurd cc
user_is st numbers (CreateIndex db index) number o is named e none some =
    user_by st index.primary number o (CreateIndex db index) (number_is numbers st index.primary number e named) (λ unused. unused) (λ t used. used) none some
user_is st numbers (Remove db) number o is named e none some = user_by st db number o (Remove db) (number_is numbers st db number e named) (λ unused. unused) (λ t used. used) none some
user_is st numbers (Rename db to) number o is named e none some = user_by st db number o (Rename db to) (number_is numbers st db number e named) (λ unused. unused) (λ t used. used) none some
user_is st numbers (Truncate db) number o is named e none some = user_by st db number o (Truncate db) (number_is numbers st db number e named) (λ unused. unused) (λ t used. used) none some
user_is st numbers call number o is named e none some = absurd is

pub user_none : (st : Standing) (numbers : List ℕ → ℕ) (call : Call) → ChangesCatalog call → None ≡ changed_number numbers call → IsFreeToChange st call
user_none st numbers (Create db kind) is e = tt
user_none st numbers (CreateIndex db index) is e = absurd cc
user_none st numbers (Remove db) is e = absurd cc
user_none st numbers (Rename db to) is e = absurd cc
user_none st numbers (Truncate db) is e = absurd cc
user_none st numbers call is e = absurd is

-- ---- where it ends without those that are under way, it ends among them

module _ (limit : Option Answer) (after : Alone) (st : Standing) (session line : ℕ) (call : Call) (answer : Answer) (is : ChangesCatalog call) (early : early_refusal st session call ≡ None) (none : st.fault ≡ None)
    (free : late_refusal (alone (alone_of st)) session call ≡ None → IsFreeToChange st call) (ends : EndsAlone limit (alone_of st) session call answer after) where
  out_ : active_of session st.actives ≡ None
  out_ = outside st session call is early

  alike_ : late_refusal st session call ≡ late_refusal (alone (alone_of st)) session call
  alike_ = late_alike st session call is out_

  evaluates_alone : IsEvaluated (late_refusal st session call) limit st session line call answer []
  evaluates_alone =
      let may : IsEvaluatedAlone (late_refusal (alone (alone_of st)) session call) limit (alone_of st) session call answer = subst (λ (f : Option Fault). IsAnsweredAlone f limit (alone_of st) session call answer) none ends.answers in
      answers_alike (late_refusal st session call) limit st session line call answer is (λ l. free (sym alike_ ∙ l)) (subst (λ (l : Option Answer). IsEvaluatedAlone l limit (alone_of st) session call answer) (sym alike_) may)

  leaves_alone : after_evaluated (late_refusal st session call) st session line call answer [] ≡ with_alone after st
  leaves_alone = leaves_alike (late_refusal st session call) st session line call answer is out_
      ∙ ap (λ (l : Option Answer). with_alone (evaluated_alone l call (alone_of st) session answer) st) alike_
      ∙ ap (λ (f : Option Fault). with_alone (after_alone f call (alone_of st) session answer) st) (sym none) ∙ ap (λ (q : Alone). with_alone q st) ends.leaves

  -- no cursor is on a database that it changes
  pub cursors_alone : (o : OpenCursors) → AreCursorsOn o st.store st.numbers st.places → AreCursorsOn o after.store after.numbers st.places
  cursors_alone o on = record {
    at = on.at;
    under = under_kept o st (with_alone after st)
        (λ number name kind has u. subst (λ (x : Standing). IsUnder x number name kind) leaves_alone
        (under_evaluated number name kind (late_refusal st session call) limit st session line call answer [] refl has evaluates_alone u)) on;
  }

module _ {D : Type 0} where
  -- what is there without those that are under way
  unfoldable pub gives_without : (log : Log) (e : Environment D) (st : Standing) → e.engine.kept.last_txn ≡ st.last_txn → e.engine.kept.last_db ≡ st.last_db →
      GivesRecordsWith log (end_of e.engine.trees.log) (committed (cells_of e.engine.trees)) st.last_txn st.last_db (active_number st.actives) st.own →
      GivesRecords log (end_of e.engine.trees.log) (contents_of e.engine)
  gives_without log e st last_txn last_db gives =
      let rows : Rows = committed (cells_of e.engine.trees) in
      gives_alone log (end_of e.engine.trees.log) (contents_of e.engine) (active_number st.actives) st.own
      (subst (λ (n : ℕ). GivesRecordsWith log (end_of e.engine.trees.log) rows n e.engine.kept.last_db (active_number st.actives) st.own) (sym last_txn)
      (subst (λ (n : ℕ). GivesRecordsWith log (end_of e.engine.trees.log) rows st.last_txn n (active_number st.actives) st.own) (sym last_db) gives))

  pub alone_at : (most : ℕ) (meaning : DiskMeaning D) (e : Environment D) (st : Standing) → StandsAt most meaning e st →
      AreAlone most meaning.observable (now (meaning.history (disk_below e.engine.trees.log))) e.engine.trees.log (contents_of e.engine) (alone_of st)
  unfolding gives_without gives_alone
  alone_at most meaning e st at = record {
    file_max = at.file_max;
    fault = at.fault;
    last_txn = at.last_txn;
    last_db = at.last_db;
    commits = at.commits;
    totals = at.totals;
    checkpoint = at.checkpoint;
    numbers = λ none. fun_ext (at.valid none).makes.named;
    valid = λ none.
        let v = at.valid none in
        let lives = subst (Lives (fitting e.engine.trees) v.log e.engine.kept.since (pos_lsn (end_of e.engine.trees.log)) e.written.by_txn.entries)
        (sym (same_under (λ (n : ℕ). GivesRecordsWith v.log (end_of e.engine.trees.log) (committed (cells_of e.engine.trees)) n e.engine.kept.last_db (active_number st.actives) st.own) (λ n g. g.base) (sym at.last_txn)
        (subst (λ (n : ℕ). GivesRecordsWith v.log (end_of e.engine.trees.log) (committed (cells_of e.engine.trees)) st.last_txn n (active_number st.actives) st.own) (sym at.last_db) v.gives)
        ∙ same_under (λ (n : ℕ). GivesRecordsWith v.log (end_of e.engine.trees.log) (committed (cells_of e.engine.trees)) st.last_txn n (active_number st.actives) st.own) (λ n g. g.base) (sym at.last_db) v.gives))
        (lives_at meaning.observable (now (meaning.history (disk_below e.engine.trees.log))) e.engine.trees.log (cells_of e.engine.trees) (has_tree_of e.engine.trees) (fitting e.engine.trees) e.engine.kept.since e.written.by_txn.entries st v) in
        record {
          log = v.log;
          has = v.has;
          works = v.works;
          gives = gives_without v.log e st at.last_txn at.last_db v.gives;
          recovers = v.recovers;
          made = v.makes.store;
          fits = lives.fits;
          from = lives.from;
        };
  }

  module _ (meaning : DiskMeaning D) where
    -- the parts of a step
    pub come : (most : ℕ) (old new : Environment D) (st : Standing) (session line : ℕ) (call : Call) (answer : Answer) (changes : List Change) (limit : Option Answer) (after : Alone) → active_of session st.actives ≡ None →
        written_evaluated (late_refusal st session call) st session call ≡ changes → changes_evaluated (late_refusal st session call) st session call ≡ changes →
        HasLimit old (owing st + 1) changes limit → IsEvaluated (late_refusal st session call) limit st session line call answer [] →
        after_evaluated (late_refusal st session call) st session line call answer [] ≡ with_alone after st →
        StandsAt most meaning new (with_alone after st) → IsNumbered answer after.commits → after.fault ≡ cond (is_disk_fault answer) (Some Disk) None →
        IsCallStep meaning (is_disk_fault answer) old.engine new.engine.trees.log (tried changes (fate_of answer)) (tried changes (fate_of answer)) →
        IsWithin (reach_of new) (reach_after (reach_of old) changes) → HasCome meaning most old new st session line call answer []
    come most old new st session line call answer changes limit after none written committed_ has answers_ leaves here numbered fault logged near = record {
      limit = limit;
      has_limit = subst (λ (o : Option Active). HasLimit old (owing_with o st) (written_evaluated (late_refusal st session call) st session call) limit) (sym none)
          (subst (λ (cs : List Change). HasLimit old (owing st + 1) cs limit) (sym written) has);
      answers = answers_;
      here = subst (StandsAt most meaning new) (sym leaves) here;
      numbered = subst (λ (s : Standing). IsNumbered answer s.commits) (sym leaves) numbered;
      fault = ap (λ (s : Standing). s.fault) leaves ∙ fault;
      logged = subst (λ (cs : List Change). Appends meaning old new cs (tried (changes_evaluated (late_refusal st session call) st session call) (fate_of answer)) answer) (sym written)
          (subst (λ (cs : List Change). Appends meaning old new changes (tried cs (fate_of answer)) answer) (sym committed_) logged);
      near = subst (λ (cs : List Change). IsWithin (reach_of new) (reach_after (reach_of old) cs)) (sym written) near;
    }

    -- the same by where it ends without those that are under way
    pub come_alone : (most : ℕ) (old new : Environment D) (st : Standing) (session line : ℕ) (call : Call) (answer : Answer) (changes : List Change) (limit : Option Answer) (after : Alone) → ChangesCatalog call →
        early_refusal st session call ≡ None → st.fault ≡ None → (outcome_alone (alone_of st) session call).changes ≡ changes → (late_refusal (alone (alone_of st)) session call ≡ None → IsFreeToChange st call) →
        HasLimit old (owing st + 1) changes limit → EndsAlone limit (alone_of st) session call answer after →
        StandsAt most meaning new (with_alone after st) → IsNumbered answer after.commits → after.fault ≡ cond (is_disk_fault answer) (Some Disk) None →
        IsCallStep meaning (is_disk_fault answer) old.engine new.engine.trees.log (tried changes (fate_of answer)) (tried changes (fate_of answer)) →
        IsWithin (reach_of new) (reach_after (reach_of old) changes) → HasCome meaning most old new st session line call answer []
    come_alone most old new st session line call answer changes limit after is early none outcome free has ends here numbered fault logged near =
        let p : Alone = alone_of st in
        let out = outside st session call is early in
        let alike : late_refusal st session call ≡ late_refusal (alone p) session call = late_alike st session call is out in
        let same : (outcome_unless (late_refusal st session call) (performed_outcome p session call)).changes ≡ changes =
        ap (λ (l : Option Answer). (outcome_unless l (performed_outcome p session call)).changes) alike ∙ outcome in
        come most old new st session line call answer changes limit after out
        (written_are (late_refusal st session call) st session call is ∙ same) (committed_are (late_refusal st session call) st session call is ∙ same) has
        (evaluates_alone limit after st session line call answer is early none free ends) (leaves_alone limit after st session line call answer is early none free ends)
        here numbered fault logged near

    -- a number is drawn, and nothing else
    pub drawn_here : (most : ℕ) (e : Environment D) (st : Standing) → e.engine.kept.last_txn < LAST_TXN → StandsAt most meaning e st →
        StandsAt most meaning (with_begun e (e.engine.kept.last_txn + 1) e.sessions) (with_alone (drawn_alone (alone_of st)) st)
    drawn_here most e st below at =
        let left : nat_lt st.last_txn LAST_TXN ≡ true = ap (λ (n : ℕ). nat_lt n LAST_TXN) (sym at.last_txn) ∙ lt-ltb e.engine.kept.last_txn LAST_TXN below in
        let next : e.engine.kept.last_txn + 1 ≡ next_txn st.last_txn = ap (λ (n : ℕ). n + 1) at.last_txn ∙ sym (next_is st.last_txn left) in
        let last = at.last_txn in
        subst (λ (n : ℕ). StandsAt most meaning (with_begun e (e.engine.kept.last_txn + 1) e.sessions) (record st { last_txn = n })) next
        (drawn_at most meaning e (e.engine.kept.last_txn + 1) st (omega (arith, last)) at)

    never_ended : IdsEnded ≡ DiskFault → ⊥
    never_ended is = absurd cc

    never_used : (t : TxnId) → DatabaseInUse t ≡ DiskFault → ⊥
    never_used t is = absurd cc

    never_calm : (answer : Answer) → IsCalm answer → answer ≡ DiskFault → ⊥
    never_calm answer calm is = true≢false (sym (ap is_loud is) ∙ calm)

    -- no number is left
    pub ended_performs : (e : Environment D) (session : ℕ) (call : Call) → ChangesCatalog call → LAST_TXN ≤ e.engine.kept.last_txn → e.engine.kept.fault ≡ None → CanGoOn e →
        PerformsAnswer meaning e e session call (Ok IdsEnded)
    ended_performs e session call is over valid bounds = record {
      comes = λ most st line at sound early.
          let none : st.fault ≡ None = sym at.fault ∙ valid in
          let last = at.last_txn in
          let past : LAST_TXN ≤ st.last_txn = omega (arith, last, over) in
          let late = ended_late (alone_of st) session call (none_left st.last_txn past) in
          come_alone most e e st session line call IdsEnded [] None (alone_of st) is early none
          (ap (λ (l : Option Answer). (outcome_unless l (performed_outcome (alone_of st) session call)).changes) late) (λ unrefused_. absurd (not_some IdsEnded (sym late ∙ unrefused_))) refl
          (no_number_ends None (alone_of st) session call none past) at tt none (inl (same_buffer e.engine.trees.log, refl, refl)) (within_more e e [] (same_reach e));
      near = tt;
      bounds = bounds;
      cause = record { never_falls = omega arith; fault = λ done. absurd (never_ended done) };
    }
      where
        not_some : (a : Answer) → Some a ≡ None → ⊥
        not_some a e = absurd cc

    -- an answer without changes
    pub answered_performs : (e : Environment D) (session : ℕ) (call : Call) (answer : Answer) → ChangesCatalog call → e.engine.kept.last_txn < LAST_TXN → e.engine.kept.fault ≡ None → CanGoOn e →
        ((p : Alone) (s : ℕ) → HasModel (known (contents_of e.engine)) p → IsPlanned (known (contents_of e.engine)) p s call (Answered answer)) →
        ((most : ℕ) (st : Standing) → StandsAt most meaning e st → AreSound st → answer ≡ ReadOnlyIndex → IsFreeToChange st call) →
        ((most : ℕ) × (st : Standing) × StandsAt most meaning e st × AreSound st × (early_refusal st session call ≡ None)) →
        PerformsAnswer meaning e (with_begun e (e.engine.kept.last_txn + 1) e.sessions) session call (Ok answer)
    answered_performs e session call answer is below valid bounds plan free there = record {
      comes = λ most st line at sound early.
          let none : st.fault ≡ None = sym at.fault ∙ valid in
          let p : Alone = alone_of st in
          let planned = plan p session (has most st at) in
          let calm : IsCalm answer = calm_is most st at in
          come_alone most e (with_begun e (e.engine.kept.last_txn + 1) e.sessions) st session line call answer [] None (drawn_alone p) is early none (ap (λ (o : Outcome). o.changes) planned)
          (λ late. free most st at sound (unrefused p session call answer is late (sym (ap (λ (l : Option Answer). outcome_unless l (performed_outcome p session call)) late) ∙ planned))) refl
          (answered_ends None (known (contents_of e.engine)) p session call answer none (auto_is call is) planned)
          (drawn_here most e st below at) (unnumbered answer st.commits calm) (none ∙ ap (λ (b : Bool). cond b (Some Disk) None) (sym (faultless answer calm)))
          (subst (λ (b : Bool). IsCallStep meaning b e.engine e.engine.trees.log [] []) (sym (faultless answer calm)) (inl (same_buffer e.engine.trees.log, refl, refl)))
          (within_more e (with_begun e (e.engine.kept.last_txn + 1) e.sessions) [] (record { file = omega arith; node = omega arith }));
      near = tt;
      bounds = let within : e.engine.kept.commits ≤ e.engine.kept.last_txn = bounds in omega (arith, within);
      cause = record { never_falls = omega arith; fault = λ done. absurd (never_calm answer (calm_is there.0 there.1 there.2) done) };
    }
      where
        has : (most : ℕ) (st : Standing) → StandsAt most meaning e st → HasModel (known (contents_of e.engine)) (alone_of st)
        has most st at = model most meaning.observable (now (meaning.history (disk_below e.engine.trees.log))) e.engine.trees.log (contents_of e.engine) (alone_of st) (alone_at most meaning e st at) (sym at.fault ∙ valid) below

        calm_is : (most : ℕ) (st : Standing) → StandsAt most meaning e st → IsCalm answer
        calm_is most st at = sym (ap (λ (o : Outcome). is_loud o.answer) (plan (alone_of st) session (has most st at))) ∙ outcome_calm (alone_of st) session call (auto_is call is)

    -- there was no memory
    pub none_performs : (e : Environment D) (session : ℕ) (call : Call) (error : AllocError) → CanGoOn e → PerformsAnswer meaning e e session call (Err error)
    none_performs e session call error bounds = record {
      comes = λ most st line at sound early. record { here = at; log = same_buffer e.engine.trees.log; near = same_reach e };
      near = same_reach e;
      bounds = bounds;
      cause = record { never_falls = omega arith; fault = tt };
    }
